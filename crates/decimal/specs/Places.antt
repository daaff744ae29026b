-- Places of a list of bytes, which count from 1, and pieces of it by their places. Assumes nothing.
use Rattle.std.specs.Prelude.{ℕ, ◌+◌, ◌-◌, ◌≤◌, cond, List, [], ◌∷◌, ◌++◌, ◌≡◌, leb, length, take, drop}

-- the bytes at the places from first to last
abbrev pub places : ℕ → ℕ → List ℕ → List ℕ
places first last l = take (last - (first - 1)) (drop (first - 1) l)

pub record Stretch : Type 0 where
  pub first : ℕ
  pub last : ℕ

abbrev pub width_of : Stretch → ℕ
width_of s = s.last - (s.first - 1)

abbrev pub part_at : Stretch → List ℕ → List ℕ
part_at s l = places s.first s.last l

-- the pieces at some stretches, joined in their order
abbrev pub gather : List Stretch → List ℕ → List ℕ
gather [] l = []
gather (s ∷ plan) l = part_at s l ++ gather plan l

-- a list with a piece written over it from an index on; unchanged where the piece does not fit
unfoldable pub put_at : ℕ → List ℕ → List ℕ → List ℕ
put_at at piece l =
    cond (leb (at + length piece) (length l)) (take at l ++ (piece ++ drop (at + length piece) l)) l

-- Promise: pieces put one after the other make one piece.
abbrev pub PutsJoin : Type 0
PutsJoin =
    (l xs ys : List ℕ) → length xs + length ys ≤ length l
    → put_at (length xs) ys (xs ++ drop (length xs) l) ≡ (xs ++ ys) ++ drop (length (xs ++ ys)) l
