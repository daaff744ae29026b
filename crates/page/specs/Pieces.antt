-- Serves proofs alone: the pieces that a page is written in, with a bound for each. Assumes nothing.
use Rattle.std.specs.Prelude.{ℕ, ◌+◌, ◌≤◌, List, ◌≡◌, length}
use Rattle.decimal.specs.Numbers.{largest_number}
use Rattle.decimal.specs.Places.{put_at}
use Rattle.page.specs.declared.Cursor.{Cursor}
use Rattle.page.specs.Plain.{shown}

-- The most bytes of a piece.

-- a number of 64 bits
abbrev pub most_digits : ℕ
most_digits = 20

-- a line of this word: its number, and a newline
abbrev pub most_line : List ℕ → ℕ
most_line word = length word + 21

abbrev pub most_issuer : ℕ
most_issuer = 49

abbrev pub most_tally : ℕ
most_tally = 88

abbrev pub most_sums : ℕ
most_sums = 115

abbrev pub ShownFits : Type 0
ShownFits = (w n : ℕ) → w ≤ most_digits → n ≤ largest_number → length (shown w n) ≤ most_digits

-- `piece`, of at most `bound` bytes, was put into `before` at an index and gave `after`; `next` is the index behind it
pub record Wrote (bound at : ℕ) (piece before : List ℕ) (next : ℕ) (after : List ℕ) : Type 0 where
  pub bounded : length piece ≤ bound
  pub ends : next ≡ at + length piece
  pub bytes : after ≡ put_at at piece before
  pub same : length after ≡ length before

-- from a cursor's index on, its buffer has this many bytes
abbrev pub HasRoom : ℕ → Cursor → Type 0
HasRoom bound c = c.at + bound ≤ length c.out.now

-- `piece`, of at most `bound` bytes, was put at a cursor's index; the cursor then stands behind it, in the same buffer
pub record Printed (bound : ℕ) (piece : List ℕ) (before after : Cursor) : Type 0 where
  pub same_buffer : after.out.ghost_name ≡ before.out.ghost_name
  pub wrote : Wrote bound before.at piece before.out.now after.at after.out.now
