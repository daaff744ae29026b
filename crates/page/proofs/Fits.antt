-- No page is longer than the buffer: a bound for each of its lines. Assumes nothing.
use Prim.Native.Nat.{ℕ, zero, suc, ◌+◌, ◌-◌, ◌*◌, ◌≤◌}
use mathlib.Core.Bool.{Bool, true, false, cond}
use mathlib.Core.List.{List, [], ◌∷◌, ◌++◌}
use native.Mathlib.Omega.{arith}
use native.Mathlib.Nat.{le_refl}
use lib.Dec.{eqb}
use lib.ListN.{length, take}
use Rattle.answer.specs.Orders.{Each}
use Rattle.decimal.specs.Numbers.{largest_number}
use Rattle.decimal.specs.Places.{width_of}
use Rattle.barcode.specs.declared.Issuer.{Issuer}
use Rattle.barcode.specs.Codes.{issuer}
use Rattle.board.specs.declared.Tally.{Tally}
use Rattle.board.specs.declared.Lane.{Lane}
use Rattle.board.specs.declared.Board.{Board}
use Rattle.board.specs.Boards.{lanes_of}
use Rattle.page.specs.Plain.{shown, plain}
use Rattle.page.specs.Pages.{answer_word, place_word, record_word, files_word, lanes_word, payments_word, centavos_word}
use Rattle.page.specs.Pages.{tariff_word, lane_word, issuer_word, hyphen, newline, number_line, issuer_line, tally_lines}
use Rattle.page.specs.Pages.{lane_lines, lanes_lines, sums_lines, head_lines, most_head, most_lane}
use Rattle.page.specs.Fits.{TallyIn64Bits, LaneIn64Bits, PageFits}
use Rattle.page.specs.Pieces.{most_digits, most_line, most_issuer, most_tally}
use Rattle.page.proofs.Plain.{shown_fits}
use Rattle.page.proofs.Steps.{joins_few}
use Rattle.page.proofs.Pages.{lanes_used}

line_few : (word : List ℕ) (n : ℕ) → n ≤ largest_number → length (number_line word n) ≤ most_line word
unfolding number_line
line_few word n h =
    let value = joins_few (plain n) newline (shown_fits 1 n (omega arith) h) (le_refl 1) in
    joins_few word (plain n ++ newline) (le_refl (length word)) value

width_few : (s : ℕ) → width_of (issuer s) ≤ most_digits
width_few s = go (eqb s 6)
  where
    go : (t : Bool) → cond t 23 19 - 15 ≤ most_digits
    go true = omega arith
    go false = omega arith

issuer_few : (i : Issuer) → i.segment ≤ largest_number → i.number ≤ largest_number → length (issuer_line i) ≤ most_issuer
unfolding issuer_line
issuer_few i h k =
    let segment = plain i.segment in
    let n = shown (width_of (issuer i.segment)) i.number in
    let digits = shown_fits (width_of (issuer i.segment)) i.number (width_few i.segment) k in
    let number = joins_few hyphen (n ++ newline) (le_refl 1) (joins_few n newline digits (le_refl 1)) in
    let value = joins_few segment (hyphen ++ (n ++ newline)) (shown_fits 1 i.segment (omega arith) h) number in
    joins_few issuer_word (segment ++ (hyphen ++ (n ++ newline))) (le_refl 7) value

tally_few : (t : Tally) → TallyIn64Bits t → length (tally_lines t) ≤ most_tally
unfolding tally_lines
tally_few t h =
    let payments = line_few payments_word t.payments h.0 in
    let centavos = line_few centavos_word t.centavos h.1 in
    let tariff = line_few tariff_word t.tariff h.2 in
    let rest = number_line centavos_word t.centavos ++ number_line tariff_word t.tariff in
    joins_few (number_line payments_word t.payments) rest payments
    (joins_few (number_line centavos_word t.centavos) (number_line tariff_word t.tariff) centavos tariff)

lane_few : (k : ℕ) (l : Lane) → k ≤ largest_number → LaneIn64Bits l → length (lane_lines k l) ≤ most_lane
unfolding lane_lines
lane_few k l h held =
    let issuer = issuer_few l.issuer held.0 held.1 in
    let tally = tally_few l.tally held.2 in
    let rest = joins_few (issuer_line l.issuer) (tally_lines l.tally) issuer tally in
    joins_few (number_line lane_word k) (issuer_line l.issuer ++ tally_lines l.tally) (line_few lane_word k h) rest

-- the first `used` of the lanes, numbered from k
lanes_few :
    (k used : ℕ) (ls : List Lane) → Each LaneIn64Bits ls → k + length ls ≤ largest_number
    → length (lanes_lines k (take used ls)) ≤ length (take used ls) * most_lane
lanes_few k zero ls held h = omega arith
lanes_few k (suc used) [] held h = omega arith
lanes_few k (suc used) (l ∷ ls) held h =
    let first = lane_few k l (omega arith) held.0 in
    let rest = lanes_few (suc k) used ls held.1 (omega arith) in
    let both = joins_few (lane_lines k l) (lanes_lines (suc k) (take used ls)) first rest in
    omega arith

-- a line, and what is behind it
line_then :
    (word : List ℕ) (n : ℕ) (rest : List ℕ) {k : ℕ} → n ≤ largest_number → length rest ≤ k
    → length (number_line word n ++ rest) ≤ most_line word + k
line_then word n rest h few = joins_few (number_line word n) rest (line_few word n h) few

head_few :
    (number place records files : ℕ) (b : Board)
    → number ≤ largest_number → place ≤ largest_number → records ≤ largest_number → files ≤ largest_number
    → length (lanes_of b) ≤ largest_number → TallyIn64Bits b.total
    → length (head_lines number place records files b) ≤ most_head
unfolding head_lines
head_few number place records files b n p r f used held =
    let tally = tally_lines b.total in
    let lanes = sums_lines b in
    let filed = number_line files_word files ++ lanes in
    let taken = number_line record_word records ++ filed in
    line_then answer_word number (number_line place_word place ++ taken) n
    (line_then place_word place taken p
    (line_then record_word records filed r
    (line_then files_word files lanes f
    (line_then lanes_word (length (lanes_of b)) tally used (tally_few b.total held)))))

pub page_fits : PageFits
page_fits number place records files b n p r f held =
    let used = lanes_used b held.full in
    let head = head_few number place records files b n p r f (omega arith) held.total in
    let lanes = lanes_few 1 b.used b.lanes held.lanes (omega (arith, held.full)) in
    let whole = joins_few (head_lines number place records files b) (lanes_lines 1 (lanes_of b)) head lanes in
    omega arith
