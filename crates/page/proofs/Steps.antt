-- Pieces written one behind the other. Assumes nothing.
use Prim.Native.Nat.{ℕ, ◌+◌, ◌^◌, ◌<◌, ◌≤◌, max}
use mathlib.Core.List.{List, ◌++◌, append_assoc}
use mathlib.Core.Path.{◌≡◌, ap, sym, ◌∙◌}
use native.Mathlib.Omega.{arith}
use lib.ListN.{length, take, drop, length-append}
use lib.Seq.{length-take-le}
use Rattle.answer.specs.Answers.{Answer}
use Rattle.answer.specs.Orders.{if_accepted}
use Rattle.decimal.specs.Numbers.{largest_number, digits_of, put_number_answer}
use Rattle.decimal.specs.Places.{put_at}
use Rattle.decimal.proofs.Numbers.{number_put}
use Rattle.decimal.proofs.Places.{put_fits, length_put, put_next}
use Rattle.page.specs.Plain.{needed, shown}
use Rattle.page.specs.declared.Cursor.{Cursor}
use Rattle.page.specs.Pieces.{most_digits, HasRoom, Wrote, Printed}
use Rattle.page.proofs.Plain.{shown_holds, shown_fits, length_shown}

put_then :
    (at : ℕ) (xs ys l : List ℕ) → at + (length xs + length ys) ≤ length l
    → put_at (at + length xs) ys (put_at at xs l) ≡ put_at at (xs ++ ys) l
put_then at xs ys l h =
    let n = length_put at xs l (omega arith) in
    let k = length-take-le at l (omega arith) in
    let front : length (take at l ++ xs) ≡ at + length xs
    = length-append (take at l) xs ∙ ap (λ (j : ℕ). j + length xs) k in
    let first : put_at at xs l ≡ (take at l ++ xs) ++ drop (length (take at l ++ xs)) l
    = put_fits at xs l (omega arith) ∙ sym (append_assoc (take at l) xs (drop (at + length xs) l))
    ∙ ap (λ (j : ℕ). (take at l ++ xs) ++ drop j l) (sym front) in
    let end : length ((take at l ++ xs) ++ ys) ≡ at + length (xs ++ ys)
    = omega (arith, length-append (take at l ++ xs) ys, length-append xs ys) in
    let behind = drop (at + length (xs ++ ys)) l in
    put_next l (take at l ++ xs) ys (sym front) (omega arith) first
    ∙ rw (end, append_assoc (take at l) xs ys, append_assoc (take at l) (xs ++ ys) behind)
    (sym (put_fits at (xs ++ ys) l (omega (arith, length-append xs ys))))

pub joins_few : (xs ys : List ℕ) {k j : ℕ} → length xs ≤ k → length ys ≤ j → length (xs ++ ys) ≤ k + j
joins_few xs ys h k = omega (arith, length-append xs ys)

wrote_then :
    {k j at next last : ℕ} {xs ys l q r : List ℕ} → at + (k + j) ≤ length l
    → Wrote k at xs l next q → Wrote j next ys q last r → Wrote (k + j) at (xs ++ ys) l last r
wrote_then {k} {j} {at} {next} {last} {xs} {ys} {l} {q} {r} fits a b =
    let n = length-append xs ys in
    let both = put_then at xs ys l (omega (arith, a.bounded, b.bounded)) in
    record {
      bounded = joins_few xs ys a.bounded b.bounded;
      ends = omega (arith, a.ends, b.ends);
      bytes = b.bytes ∙ rw (a.ends, a.bytes) both;
      same = b.same ∙ a.same;
    }

-- a piece, and a piece behind it
pub printed_then :
    {k j : ℕ} {xs ys : List ℕ} {p q r : Cursor} → HasRoom (k + j) p
    → Printed k xs p q → Printed j ys q r → Printed (k + j) (xs ++ ys) p r
printed_then fits a b =
    record { same_buffer = b.same_buffer ∙ a.same_buffer; wrote = wrote_then fits a.wrote b.wrote }

-- a number, whose digits were written in a width that is enough for them
pub wrote_shown :
    (w n at : ℕ) (l : List ℕ) {k : ℕ} {a : Answer} {q : List ℕ}
    → w ≤ most_digits → n ≤ largest_number → at + most_digits ≤ length l
    → k ≡ max w (needed n) → a ≡ put_number_answer (length l) at k n → q ≡ if_accepted a (put_at at (digits_of k n) l) l
    → Wrote most_digits at (shown w n) l (at + k) q
wrote_shown w n at l {k} {a} {q} hw hn fits e f g =
    let few = shown_fits w n hw hn in
    let fits-k : at + k ≤ length l = omega (arith, length_shown w n) in
    let holds : n < 10 ^ k = rw e (shown_holds w n) in
    let written : q ≡ put_at at (shown w n) l = number_put at k n l fits-k holds f g ∙ rw e in
    record {
      bounded = few;
      ends = ap (λ (j : ℕ). at + j) (e ∙ sym (length_shown w n));
      bytes = written;
      same = ap length written ∙ length_put at (shown w n) l (omega arith);
    }
