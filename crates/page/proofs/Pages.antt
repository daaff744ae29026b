-- Laws of the page: its lanes one after the other, and the buffer after printing. Assumes nothing.
use Prim.Native.Nat.{ℕ, zero, suc, ◌+◌, ◌*◌, ◌≤◌, ◌<◌, min}
use mathlib.Core.List.{List, [], ◌∷◌, ◌++◌, append_assoc, append-nil}
use mathlib.Core.Path.{◌≡◌, refl, ap, sym, ◌∙◌}
use native.Mathlib.Omega.{arith}
use native.Mathlib.Numerals.{add-one}
use borrow.Author.Tests.{eq-eqb, ne_eqb}
use lib.ListN.{length, get_or, take, drop, length-take, take-append-drop}
use lib.Seq.{take-append_seam, drop-append_seam}
use Rattle.std.specs.Prelude.{Ok}
use Rattle.std.proofs.lemmas.List.{take_min}
use Rattle.answer.specs.Answers.{◌gives◌}
use Rattle.decimal.proofs.Places.{put_fits}
use Rattle.board.specs.declared.Lane.{Lane}
use Rattle.board.specs.declared.Board.{Board}
use Rattle.board.specs.Lanes.{most_lanes}
use Rattle.board.specs.Boards.{blank, lanes_of}
use Rattle.page.specs.Pages.{lane_lines, lanes_lines, most_lane, page_length, buffer_answer, bytes_with, WrongBufferKeeps, PrintedHolds}
use Rattle.page.specs.declared.Cursor.{Cursor}
use Rattle.page.specs.Pieces.{HasRoom, Wrote, Printed}
use Rattle.page.proofs.Steps.{printed_then}

-- how many lanes are in use of a board that has all its lanes
pub lanes_used : (b : Board) → length b.lanes ≡ most_lanes → length (lanes_of b) ≡ min b.used most_lanes
lanes_used b e = length-take b.used b.lanes ∙ ap (min b.used) e

-- the slice of them that the code takes is that of the lanes in use
pub lanes_shown :
    (b : Board) {k : ℕ} → length b.lanes ≡ most_lanes → k ≡ min b.used most_lanes → take k b.lanes ≡ lanes_of b
lanes_shown b e h = rw (h, ← e) (take_min b.used b.lanes)

-- the same bytes under another name, and with a wider bound
printed_as : {k m : ℕ} {xs ys : List ℕ} {p q : Cursor} → k ≤ m → xs ≡ ys → Printed k xs p q → Printed m ys p q
printed_as {xs = xs} h e w =
    record {
      same_buffer = w.same_buffer;
      wrote = record {
        bounded = rw (← e) (omega (arith, w.wrote.bounded));
        ends = rw (← e) w.wrote.ends;
        bytes = rw (← e) w.wrote.bytes;
        same = w.wrote.same;
      };
    }

-- one lane more
lanes_more :
    (k i : ℕ) (ls : List Lane) → i < length ls
    → lanes_lines k (take (suc i) ls) ≡ lanes_lines k (take i ls) ++ lane_lines (k + i) (get_or ls i blank)
lanes_more k i [] h = absurd (omega arith)
lanes_more k zero (l ∷ ls) h = let z : k + 0 ≡ k = omega arith in rw z (append-nil (lane_lines k l))
lanes_more k (suc i) (l ∷ ls) h =
    let z : k + suc i ≡ suc k + i = omega arith in
    let last = lane_lines (suc k + i) (get_or ls i blank) in
    rw (z, lanes_more (suc k) i ls (omega arith))
    (sym (append_assoc (lane_lines k l) (lanes_lines (suc k) (take i ls)) last))

-- The loop over the lanes: its start, a turn.
module _ (ls : List Lane) (p : Cursor) (fits : HasRoom (most_lanes * most_lane) p) where
  pub lanes_start : Printed 0 (lanes_lines 1 (take 0 ls)) p p
  lanes_start =
      let z : p.at + 0 ≡ p.at = omega arith in
      record {
        same_buffer = refl;
        wrote = record {
          bounded = omega arith;
          ends = omega arith;
          bytes = sym (put_fits p.at [] p.out.now (omega arith) ∙ rw z (take-append-drop p.at p.out.now));
          same = refl;
        };
      }

  pub lanes_turn :
      {i : ℕ} {q r : Cursor} → i < length ls → length ls ≤ most_lanes
      → Printed (i * most_lane) (lanes_lines 1 (take i ls)) p q
      → Printed most_lane (lane_lines (i + 1) (get_or ls i blank)) q r
      → Printed ((i + 1) * most_lane) (lanes_lines 1 (take (i + 1) ls)) p r
  lanes_turn {i} h few before w =
      let one : 1 + i ≡ i + 1 = omega arith in
      let next = lane_lines (i + 1) (get_or ls i blank) in
      let more : lanes_lines 1 (take (i + 1) ls) ≡ lanes_lines 1 (take i ls) ++ next
      = ap (λ (k : ℕ). lanes_lines 1 (take k ls)) (add-one i) ∙ lanes_more 1 i ls h ∙ rw one refl in
      printed_as (omega arith) (sym more) (printed_then (omega arith) before w)

-- The buffer after printing.

pub wrong_buffer_keeps : WrongBufferKeeps
wrong_buffer_keeps page old h = rw (ne_eqb (length old) page_length h) (refl, refl)

pub printed_holds : PrintedHolds
printed_holds page old h =
    let behind = drop (length page) old in
    rw (eq-eqb (length old) page_length h) (refl, take-append_seam page behind, drop-append_seam page behind)

pub printed :
    (page l : List ℕ) {next : ℕ} {q : List ℕ} → length l ≡ page_length → Wrote page_length 0 page l next q
    → (Ok next ≡ (buffer_answer l gives length page))
    × ((q ≡ bytes_with page l) × (next ≤ page_length))
printed page l h w =
    let z : 0 + length page ≡ length page = omega arith in
    let n = w.ends ∙ z in
    let q = w.bytes ∙ put_fits 0 page l (omega (arith, w.bounded)) in
    rw (eq-eqb (length l) page_length h) (rw n refl, (rw z at q, omega (arith, w.bounded)))
