-- Laws of pieces of a list. Assumes nothing.
use Prim.Native.Nat.{ℕ, ◌+◌, ◌-◌, ◌≤◌, ◌<◌}
use mathlib.Core.Bool.{Bool, true, false}
use mathlib.Core.List.{List, [], ◌∷◌, ◌++◌, append_assoc, append-nil}
use mathlib.Core.Logic.{inl, inr, ⊎_elim}
use mathlib.Core.Path.{◌≡◌, refl, ap, sym, ◌∙◌}
use native.Mathlib.Omega.{arith}
use borrow.Author.Tests.{le-leb, lt-leb, leb-true, leb-false}
use borrow.Rule.Slice.PartMut.{put_mid}
use lib.Dec.{leb}
use lib.ListN.{length, get_or, set, take, drop, length-append, length-drop, drop_of_length-le, get_or-append}
use lib.Seq.{length-take-le, take-set-lt, take-set-le, drop-set-lt, drop-set-add, set-append_left, get_or-take, get_or-drop, get_or-append_right, take-append_seam, drop-append-add, drop-drop, take-take}
use Rattle.std.proofs.lemmas.List.{drop-take, set-append_right}
use Rattle.answer.proofs.Tests.{lt_or_le}
use Rattle.decimal.specs.Bytes.{all}
use Rattle.decimal.specs.OneByte.{Beside, GatherOutside, GatherWithin}
use Rattle.decimal.specs.Places.{Stretch, width_of, part_at, gather, put_at, PutsJoin}
use Rattle.decimal.proofs.Bytes.{all_joins, all_of_part, row_passes}

-- pieces that are equal, joined
pub joins : {a b c d : List ℕ} → a ≡ b → c ≡ d → a ++ c ≡ b ++ d
joins p q = cc

-- a piece by its first index and its length; a piece of a piece
pub length_piece : (from count : ℕ) (l : List ℕ) → from + count ≤ length l → length (take count (drop from l)) ≡ count
length_piece from count l h = length-take-le count (drop from l) (omega (arith, length-drop from l))

pub part_of_part : (l : List ℕ) (a w m n : ℕ) → m + n ≤ w → take n (drop m (take w (drop a l))) ≡ take n (drop (a + m) l)
part_of_part l a w m n h =
    let e : m + (w - m) ≡ w = omega arith in
    rw (rw e at (drop-take m (w - m) (drop a l)), drop-drop m a l) (take-take n (w - m) (drop (a + m) l) (omega arith))

-- a test that every byte of a piece passes, within the piece, and over two pieces side by side
pub all_inner : (ok : ℕ → Bool) (l : List ℕ) (a w m n : ℕ) → m + n ≤ w → all ok (take w (drop a l)) ≡ true
    → all ok (take n (drop (a + m) l)) ≡ true
all_inner ok l a w m n h t = ap (all ok) (sym (part_of_part l a w m n h)) ∙ all_of_part ok m n (take w (drop a l)) t

pub all_side_by_side : (ok : ℕ → Bool) (l : List ℕ) (a m n : ℕ) → all ok (take m (drop a l)) ≡ true
    → all ok (take n (drop (a + m) l)) ≡ true → all ok (take (m + n) (drop a l)) ≡ true
all_side_by_side ok l a m n t u = row_passes ok (drop a l) m n refl (rw (drop-drop m a l) u) t

pub length_part : (s : Stretch) (l : List ℕ) → 1 ≤ s.first → s.first ≤ s.last → s.last ≤ length l
    → length (part_at s l) ≡ width_of s
length_part s l p q r = length_piece (s.first - 1) (width_of s) l (omega arith)

pub part_beside : (s : Stretch) (l : List ℕ) (i d : ℕ) → Beside s i → part_at s (set l i d) ≡ part_at s l
part_beside s l i d (inl p) = ap (take (width_of s)) (drop-set-lt (s.first - 1) l i d (omega arith))
part_beside s l i d (inr p) =
    let a = s.first - 1 in
    ⊎_elim (λ (q : i < a). ap (take (width_of s)) (drop-set-lt a l i d q))
    (λ (q : a ≤ i).
    let e : a + (i - a) ≡ i = omega arith in
    let le : width_of s ≤ i - a = omega arith in
    cc (drop-set-add a l (i - a) d, take-set-le (width_of s) (drop a l) (i - a) d le))
    (lt_or_le i a)

pub part_within : (s : Stretch) (l : List ℕ) (i d : ℕ) → 1 ≤ s.first → s.first ≤ i + 1 → i < s.last
    → part_at s (set l i d) ≡ set (part_at s l) (i + 1 - s.first) d
part_within s l i d o p q =
    let a = s.first - 1 in
    let j = i + 1 - s.first in
    let e : a + j ≡ i = omega arith in
    cc (drop-set-add a l j d, take-set-lt (width_of s) (drop a l) j d (omega arith))

pub gather_outside : GatherOutside
gather_outside [] l i d o = refl
gather_outside (s ∷ plan) l i d o = cc (part_beside s l i d o.0, gather_outside plan l i d o.1)

pub part_byte : (s : Stretch) (l : List ℕ) (i : ℕ) → 1 ≤ s.first → s.first ≤ i + 1 → i < s.last
    → get_or (part_at s l) (i + 1 - s.first) 0 ≡ get_or l i 0
part_byte s l i o p q =
    let a = s.first - 1 in
    let j = i + 1 - s.first in
    let e : a + j ≡ i = omega arith in
    cc (get_or-take (width_of s) (drop a l) j 0 (omega arith), get_or-drop a l j 0)

pub gather_within : GatherWithin
gather_within [] l i j d n w = absurd w
gather_within (s ∷ plan) l i j d n (inl w) =
    let z = length_part s l n.0 n.1 n.2 in
    let e : i + 1 - s.first ≡ j = omega (arith, w.2) in
    let lt : j < length (part_at s l) = omega (arith, w.1, n.0) in (
      cc (part_within s l i d n.0 w.0 w.1, gather_outside plan l i d w.3, set-append_left (part_at s l) (gather plan l) j d lt),
      cc (part_byte s l i n.0 w.0 w.1, get_or-append (part_at s l) (gather plan l) 0 j lt),
      omega (arith, length-append (part_at s l) (gather plan l)),
    )
gather_within (s ∷ plan) l i j d n (inr w) =
    let z = length_part s l n.0 n.1 n.2 in
    let ih = gather_within plan l i (j - width_of s) d n.3 w.2 in
    let le : length (part_at s l) ≤ j = omega (arith, w.1) in (
      cc (part_beside s l i d w.0, ih.0, set-append_right (part_at s l) (gather plan l) (length (part_at s l)) j d refl le),
      cc (ih.1, get_or-append_right (part_at s l) (gather plan l) j 0 le),
      omega (arith, ih.2, length-append (part_at s l) (gather plan l)),
    )

-- a test that every byte passes is passed by every byte that is gathered
pub all_gathered : (ok : ℕ → Bool) (plan : List Stretch) (l : List ℕ) → all ok l ≡ true → all ok (gather plan l) ≡ true
all_gathered ok [] l h = refl
all_gathered ok (s ∷ plan) l h =
    rw (all_joins ok (part_at s l) (gather plan l), all_of_part ok (s.first - 1) (width_of s) l h, all_gathered ok plan l h)

pub put_fits : (at : ℕ) (piece l : List ℕ) → at + length piece ≤ length l
    → put_at at piece l ≡ take at l ++ (piece ++ drop (at + length piece) l)
unfolding put_at
put_fits at piece l h = rw (le-leb _ _ h)

pub put_none : (at : ℕ) (piece l : List ℕ) → length l < at + length piece → put_at at piece l ≡ l
unfolding put_at
put_none at piece l h = rw (lt-leb _ _ h)

pub length_put : (at : ℕ) (piece l : List ℕ) → at + length piece ≤ length l → length (put_at at piece l) ≡ length l
length_put at piece l h =
    let behind = drop (at + length piece) l in
    let front = length-take-le at l (omega arith) in
    let rest = length-drop (at + length piece) l in
    ap length (put_fits at piece l h)
    ∙ rw (length-append (take at l) (piece ++ behind), length-append piece behind, rest, front) (omega arith)

pub puts_join : PutsJoin
puts_join l xs ys h =
    let n : length xs + length ys ≤ length (xs ++ drop (length xs) l) = omega (arith, length-append xs (drop (length xs) l), length-drop (length xs) l) in
    let d : drop (length xs + length ys) (xs ++ drop (length xs) l) ≡ drop (length (xs ++ ys)) l
    = drop-append-add xs (drop (length xs) l) (length ys) ∙ drop-drop (length ys) (length xs) l ∙ ap (λ (k : ℕ). drop k l) (sym (length-append xs ys)) in
    put_fits (length xs) ys (xs ++ drop (length xs) l) n ∙ rw (take-append_seam xs (drop (length xs) l), d) (sym (append_assoc xs ys (drop (length (xs ++ ys)) l)))

-- a piece put after those that are there already
pub put_next : (l xs ys : List ℕ) {at : ℕ} {q : List ℕ} → at ≡ length xs → length xs + length ys ≤ length l
    → q ≡ xs ++ drop (length xs) l
    → put_at at ys q ≡ (xs ++ ys) ++ drop (length (xs ++ ys)) l
put_next l xs ys e h f = rw (e, f) (puts_join l xs ys h)

pub put_whole : (piece l : List ℕ) → length piece ≡ length l → put_at 0 piece l ≡ piece
put_whole piece l e =
    let past : length l ≤ 0 + length piece = omega arith in
    put_fits 0 piece l (omega arith) ∙ rw (drop_of_length-le l past) (append-nil piece)

-- a part of a buffer that was filled with a piece, back in its place
pub put_middle : (at : ℕ) (piece l : List ℕ) {n : ℕ} {q : List ℕ} → length piece ≡ n → at + n ≤ length l → q ≡ piece
    → put_mid at (at + n - at) l q ≡ put_at at piece l
put_middle at piece l {n} {q} e h f =
    let k : at + n - at ≡ length piece = omega arith in
    rw (k, f, drop-drop (length piece) at l) (sym (put_fits at piece l (omega arith)))

-- What the test of room tells.
module _ {t : Bool} {end size : ℕ} (e : t ≡ leb end size) where
  pub room : t ≡ true → end ≤ size
  room h = leb-true end size (sym e ∙ h)

  pub no_room : t ≡ false → size < end
  no_room h = leb-false end size (sym e ∙ h)
