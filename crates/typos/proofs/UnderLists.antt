-- From the checks to a list: what is accepted under a list passes its checks, and what passes its checks is accepted
-- under a list or refused 11. Assumes nothing.
use mathlib.Core.List.{List}
use mathlib.Core.Logic.{◌↔◌, inl, inr, ⊎_elim}
use mathlib.Core.Path.{ap}
use Prim.Native.Nat.{ℕ}
use lib.ListN.{set}
use Rattle.answer.specs.Refusals.{answer_number}
use Rattle.modulus.specs.Checks.{exchanged}
use Rattle.barcode.specs.Agreed.{RightList}
use Rattle.line.proofs.UnderLists.{line_tells, due_of_line_is_asked, line_accepted_or_no_due_date, no_due_date_passes_checks}
use Rattle.typos.specs.Typos.{Passes}
use Rattle.typos.specs.UnderLists.{AcceptedUnder, AcceptedOrNoDate, NotAgreed, AcceptedExactly, AcceptedByChecks, OneChangedDigitUnderAList, ExchangeUnderAList, OneChangedDigitUnderElevenAndAList}
use Rattle.typos.proofs.Accepted.{passes_by_checks}
use Rattle.typos.proofs.OneTen.{one_changed_digit_is_refused}
use Rattle.typos.proofs.Exchange.{exchange_of_neighbours}
use Rattle.typos.proofs.OneEleven.{one_changed_digit_under_eleven}

-- the two laws
module _ (agreed line : List ℕ) where
  accepted_passes : AcceptedUnder agreed line → Passes line
  accepted_passes e = (line_tells agreed line e).1

  or_passes : AcceptedOrNoDate agreed line → Passes line
  or_passes h = ⊎_elim accepted_passes (no_due_date_passes_checks agreed line) h

  module _ (right : RightList agreed) where
    passes_or : Passes line → AcceptedOrNoDate agreed line
    passes_or e = ⊎_elim (λ a. inl a) (λ r. inr (ap answer_number r)) (line_accepted_or_no_due_date agreed line right e).0

    passes_accepted : NotAgreed agreed line → Passes line → AcceptedUnder agreed line
    passes_accepted n e = (line_accepted_or_no_due_date agreed line right e).1 n

    -- what holds exactly when the checks pass
    both : {C : Type 0} → (Passes line ↔ C) → AcceptedExactly agreed line C
    both h = (
      (λ e. h.0 (or_passes e), λ c. passes_or (h.1 c)),
      λ n. (λ e. h.0 (accepted_passes e), λ c. passes_accepted n (h.1 c)),
    )

pub accepted_by_checks : AcceptedByChecks
accepted_by_checks agreed line right =
    let asked = due_of_line_is_asked agreed line right in
    let checks = passes_by_checks line in (
      λ e. let told = asked.0 e in let c = checks.0 told.0 in (c.0, c.1, c.2, told.1),
      λ h. asked.1 (checks.1 (h.0, h.1, h.2), h.3),
    )

pub one_changed_digit_under_a_list : OneChangedDigitUnderAList
one_changed_digit_under_a_list agreed line i d e names inside changes still h =
    one_changed_digit_is_refused line i d (accepted_passes agreed line e) names inside changes still (or_passes agreed (set line i d) h)

pub exchange_under_a_list : ExchangeUnderAList
exchange_under_a_list agreed line i e names inside differ still =
    both agreed (exchanged line i) (line_tells agreed line e).0 (exchange_of_neighbours line i (accepted_passes agreed line e) names inside differ still)

pub one_changed_digit_under_eleven_and_a_list : OneChangedDigitUnderElevenAndAList
one_changed_digit_under_eleven_and_a_list agreed line i d e names inside changes digit first second still =
    both agreed (set line i d) (line_tells agreed line e).0 (one_changed_digit_under_eleven line i d (accepted_passes agreed line e) names inside changes digit first second still)
