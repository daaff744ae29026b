-- Numbers of 64 bits: one that is larger stays at the largest, so that none wraps. Assumes nothing.
use Rattle.std.specs.Prelude.{ℕ, ◌-◌, ◌^◌, min}

abbrev pub largest_number : ℕ
largest_number = 2 ^ 64 - 1

abbrev pub capped : ℕ → ℕ
capped n = min n largest_number
