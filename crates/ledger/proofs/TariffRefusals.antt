-- Where 18 points at the tariff: nothing but the board gives that refusal, of a payment that is right in itself.
-- Assumes nothing.
use Rattle.std.specs.Prelude.{Err, None, Option, Some}
use Prim.Native.Nat.{ℕ, ◌+◌, ◌≤◌}
use mathlib.Core.Bool.{Bool, true, false, cond, ◌&&◌}
use mathlib.Core.List.{List}
use mathlib.Core.Logic.{◌⊎◌, ⊎_elim}
use mathlib.Core.Path.{◌≡◌, refl, sym, ap, ◌∙◌}
use native.Mathlib.Omega.{arith}
use lib.Dec.{eqb, ltb, leb}
use lib.ListN.{length, get_or}
use Rattle.answer.specs.declared.Reason.TheVariants.{WrongLength, NotExpected, CountDiffers, TotalDiffers, FileFull, FileTotalPassed, BoardTotalPassed, NoLineEnd, WrongList, NotFollowing, PairsFull}
use Rattle.answer.specs.declared.Reason.{Reason}
use Rattle.answer.specs.Answers.{Answer, Accepted, Refused}
use Rattle.answer.specs.Refusals.{reason_number, answer_number, received_place, tariff_place, sequence_place, agreement_place}
use Rattle.answer.specs.Orders.{require, ◌then◌}
use Rattle.answer.proofs.Orders.{not_both, then_accepts}
use Rattle.layout.specs.declared.Record.{Record}
use Rattle.layout.specs.declared.Record.TheVariants.{Header, Payment, Trailer}
use Rattle.layout.specs.Layouts.{named_by}
use Rattle.barcode.specs.Agreed.{list_answer}
use Rattle.barcode.proofs.Lists.{one_list_refusal}
use Rattle.record.specs.Records.{record_answer}
use Rattle.record.specs.Values.{trailer_shown, record_shown, shown_unless_refused, decoded_record_under}
use Rattle.record.proofs.OwnRefusals.{own_refusals_up_to_twelve}
use Rattle.file.specs.Files.{most_payments, most_centavos, count_place, total_place, file_answer, figures_of, figures_answer}
use Rattle.file.specs.Forms.{body_of, has_line_end, fits_length, end_place, end_answer}
use Rattle.file.proofs.Forms.{first_in}
use Rattle.board.specs.Boards.{post_answer}
use Rattle.board.proofs.Posting.{tariffs_pass_last}
use Rattle.session.specs.declared.Session.{Session}
use Rattle.pairs.specs.Pairs.{follows, has_room, remembered_for, pairs_of}
use Rattle.session.specs.Sessions.{pair_in, session_terms, session_expects, pay_answer, session_answer, take_answer}
use Rattle.ledger.specs.Ledgers.{received_by, lane_of_record}
use Rattle.ledger.specs.Promises.{TariffsAreAskedLast}

-- 18 at the tariff
abbrev past_tariff : Answer
past_tariff = Refused BoardTotalPassed tariff_place

-- an answer with another number is not that refusal, so the refusal comes from behind it
not_number : (a : Answer) {X : Type 0} → a ≡ past_tariff → (answer_number a ≡ 18 → ⊥) → X
not_number a e h = absurd (h (ap answer_number e))

behind_test : (t : Bool) (why : Reason) (p : ℕ) (next : Answer) → (reason_number why ≡ 18 → ⊥)
    → require t why p then next ≡ past_tariff → (t ≡ true) × (next ≡ past_tariff)
behind_test true why p next h e = (refl, e)
behind_test false why p next h e = not_number (Refused why p) e h

behind_list : (a next : Answer) → (a ≡ Accepted) ⊎ (a ≡ Refused WrongList 0) → a then next ≡ past_tariff
    → (a ≡ Accepted) × (next ≡ past_tariff)
behind_list Accepted next o e = (refl, e)
behind_list (Err refusal) next o e =
    ⊎_elim (λ h. not_both (Err refusal) refl h) (λ h. absurd (omega (arith, ap answer_number h, ap answer_number e))) o

-- two tests and nothing behind them never give it
two_tests : (t u : Bool) (why more : Reason) (p q : ℕ) {X : Type 0} → (reason_number why ≡ 18 → ⊥)
    → (reason_number more ≡ 18 → ⊥) → require t why p then require u more q ≡ past_tariff → X
two_tests true true why more p q h k e = absurd (omega (arith, ap answer_number e))
two_tests true false why more p q h k e = not_number (Refused more q) e k
two_tests false u why more p q h k e = not_number (Refused why p) e h

-- nor does what is checked of a line end
before_end : (a : Answer) (x y : Bool) → a then cond x (require y NoLineEnd end_place) Accepted ≡ past_tariff → a ≡ past_tariff
before_end (Err refusal) x y e = e
before_end Accepted true true e = absurd (omega (arith, ap answer_number e))
before_end Accepted true false e = absurd (omega (arith, ap answer_number e))
before_end Accepted false y e = absurd (omega (arith, ap answer_number e))

-- nor does the open file
from_the_board : (t u : Bool) (board : Answer)
    → (require t FileFull 1 then require u FileTotalPassed received_place) then board ≡ past_tariff
    → ((require t FileFull 1 then require u FileTotalPassed received_place) ≡ Accepted) × (board ≡ past_tariff)
from_the_board true true board e = (refl, e)
from_the_board true false board e = absurd (omega (arith, ap answer_number e))
from_the_board false u board e = absurd (omega (arith, ap answer_number e))

-- nor do a header, a trailer and a record alone: it is a payment that is right in itself
module _ (agreed : List ℕ) (s : Session) (rec : List ℕ) where
  of_a_payment : (m : Option Record) (own : Answer) → answer_number own ≤ 12
      → session_answer s rec (shown_unless_refused own (record_shown agreed m rec)) ≡ past_tariff
      → (own ≡ Accepted) × (m ≡ Some Payment) × (pay_answer s (lane_of_record rec) ≡ past_tariff)
  unfolding figures_answer
  of_a_payment m (Err refusal) low e = absurd (omega (arith, low, ap answer_number e))
  of_a_payment (Some Payment) Accepted low e = (refl, refl, e)
  of_a_payment (Some Header) Accepted low e =
      let pair = pair_in rec in
      let last = remembered_for pair (pairs_of s.memory) in
      two_tests (follows last pair.sequence) (has_room last (length (pairs_of s.memory))) NotFollowing PairsFull
      sequence_place agreement_place (λ h. omega arith) (λ h. omega arith) e
  of_a_payment (Some Trailer) Accepted low e =
      let shown = trailer_shown rec in
      let true-ones = figures_of s.file in
      two_tests (eqb shown.count true-ones.count) (eqb shown.total true-ones.total) CountDiffers TotalDiffers
      count_place total_place (λ h. omega arith) (λ h. omega arith) e
  of_a_payment None Accepted low e = absurd (omega (arith, ap answer_number e))

pub tariffs_are_asked_last : TariffsAreAskedLast
unfolding file_answer end_answer
tariffs_are_asked_last agreed s rec =
    let body = body_of rec in
    let t = session_terms agreed s in
    let own = record_answer t body in
    let posting = post_answer s.work (lane_of_record body) in
    let last = tariffs_pass_last s.work (lane_of_record body) in
    let all = then_accepts (list_answer agreed) own in (
      λ e.
          let listed = behind_list (list_answer agreed) (take_answer agreed s rec) (one_list_refusal agreed) e in
          let fits = behind_test (fits_length s.opened s.file.lined rec) WrongLength 0 _ (λ h. omega arith) listed.1 in
          let met = behind_test (session_expects s.opened (named_by (get_or rec 0 0))) NotExpected 1 _ (λ h. omega arith) fits.1 in
          let answered = before_end (session_answer s body (decoded_record_under t body)) (s.opened && s.file.lined) (has_line_end rec) met.1 in
          let paid = of_a_payment agreed s body (named_by (get_or body 0 0)) own (own_refusals_up_to_twelve t body) answered in
          let named : named_by (get_or rec 0 0) ≡ Some Payment = ap named_by (sym (first_in rec)) ∙ paid.1 in
          let opened : s.opened ≡ true = rw named at met.0 in
          let file =
          from_the_board (ltb s.file.taken most_payments) (leb (s.file.total + received_by body) most_centavos) posting paid.2 in
          let b = last.0 file.1 in
          (opened, rw opened at fits.0, named, all.1 (listed.0, paid.0), file.0, b.0, b.1, b.2, b.3),
      λ h.
          let right = all.0 h.3 in
          let first : named_by (get_or body 0 0) ≡ Some Payment = ap named_by (first_in rec) ∙ h.2 in
          rw (right.0, h.0, h.1, h.2, right.1, first, h.4, last.1 (h.5, h.6, h.7, h.8)),
    )
