use Prim.Native.Nat.{ℕ, ◌+◌, ◌-◌, ◌≤◌}
use mathlib.Core.Path.{◌≡◌, ap, ◌∙◌}
use native.Mathlib.Omega.{arith}
use borrow.Author.Rules.{rules}
use lib.ListN.{length, take, drop}
use Rattle.decimal.proofs.Numbers.{digits_fill}
use Rattle.decimal.proofs.Places.{put_middle, length_piece}
use Rattle.decimal.specs.Numbers.{digits_of}
use Rattle.decimal.proofs.put_number.Goals as goal

pub returns-clause-bytes : goal.returns-clause-bytes
returns-clause-bytes c =
    let a = c.args in
    let fits : a.at + a.width ≤ length a.out.now = search rules in
    let k : a.at + a.width - a.at ≡ a.width = omega arith in
    let l : length (take (a.at + a.width - a.at) (drop a.at a.out.now)) ≡ a.width = rw k (length_piece a.at a.width a.out.now fits) in
    let filled = c.put_digits.ensures ∙ ap (λ (w : ℕ). digits_of w a.n) l in
    put_middle a.at (digits_of a.width a.n) a.out.now (digits_fill a.width a.n).0 fits filled
