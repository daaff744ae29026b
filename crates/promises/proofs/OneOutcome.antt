-- One outcome for each input: if a contract gives the result and every byte left by equations, it allows one outcome.
-- `search` finds each crate's lines from the laws below. `value` is for an operation that writes no buffer. The others
-- are for one that writes a buffer, and take the number of parameters before it and behind it. A new line needs no
-- change here if its crate's `search` lists its law; the message of a failed `search` names the line that it cannot
-- prove. Assumes nothing.
use Prim.Native.Nat.{ℕ, zero, suc}
use mathlib.Core.List.{List}
use mathlib.Core.Path.{◌≡◌, refl, sym, ◌∙◌, ap}
use borrow.Fn.World.{World, Pr}
use Rattle.std.specs.Prelude.{Result}
use Rattle.answer.specs.declared.Refusal.{Refusal}
use Rattle.answer.specs.Answers.{Answer, answer_of}
use Rattle.answer.specs.Orders.{if_accepted}
use Rattle.writer.specs.declared.Writer.{Writer}
use Rattle.promises.specs.OneOutcome as outcomes
use Rattle.promises.specs.OneOutcome.{OneOutcome}
use Rattle.promises.proofs.Clauses.{says, both, Gives, clauses, bounded_clauses, one, two, bounded}

-- two that are given by one equation
same : {A : Type 0} {x r r' : A} → r ≡ x → r' ≡ x → r ≡ r'
same p p' = p ∙ sym p'

value :
    (w : World) (A L : Type 0) (x r r' : A) (left : L)
    → Gives w (both w (says w (r ≡ x)) (says w (r' ≡ x))) ((r ≡ r') × (left ≡ left))
value w A L x r r' left = one w (r ≡ x) (r' ≡ x) ((r ≡ r') × (left ≡ left)) (λ p p'. (same p p', refl))

-- the same with another clause behind the equation
value_bounded :
    (w : World) (A L : Type 0) (x r r' : A) (left : L) (β β' : Type 0)
    → Gives w (both w (clauses w (r ≡ x) β) (clauses w (r' ≡ x) β')) ((r ≡ r') × (left ≡ left))
value_bounded w A L x r r' left β β' = two w _ _ _ _ _ (λ p p'. (same p.0 p'.0, refl))

-- What is left of the parameters if one of them is a buffer: its bytes, and nothing of those before and behind it.

abbrev Units : ℕ → Type 0
Units zero = Unit {0}
Units (suc n) = Unit {0} × Units n

abbrev units : (n : ℕ) → Units n
units zero = tt
units (suc n) = (tt, units n)

abbrev Around : ℕ → ℕ → Type 0
Around zero behind = List ℕ × Units behind
Around (suc before) behind = Unit {0} × Around before behind

abbrev around : (before behind : ℕ) → List ℕ → Around before behind
around zero behind bytes = (bytes, units behind)
around (suc before) behind bytes = (tt, around before behind bytes)

module _ (before behind : ℕ) (w : World) where
  abbrev Equal : {A : Type 0} → A → A → List ℕ → List ℕ → Type 0
  Equal r r' b b' = (r ≡ r') × (around before behind b ≡ around before behind b')

  -- there is no result but the bytes
  bytes : (A : Type 0) (r : A) (y b b' : List ℕ) → Gives w (both w (says w (b ≡ y)) (says w (b' ≡ y))) (Equal r r b b')
  bytes A r y b b' = one w _ _ _ (λ p p'. (refl, ap (around before behind) (same p p')))

  -- the bytes do not depend on the result; the same with more behind the two clauses
  fixed :
      (A : Type 0) (x r r' : A) (y b b' : List ℕ)
      → Gives w (both w (clauses w (r ≡ x) (b ≡ y)) (clauses w (r' ≡ x) (b' ≡ y))) (Equal r r' b b')
  fixed A x r r' y b b' =
      two w _ _ _ _ _ (λ p p'. (same p.0 p'.0, ap (around before behind) (same p.1 p'.1)))

  fixed_bounded :
      (A : Type 0) (x r r' : A) (y b b' : List ℕ) (β β' : Pr w)
      → Gives w (both w (bounded_clauses w (r ≡ x) (b ≡ y) β) (bounded_clauses w (r' ≡ x) (b' ≡ y) β'))
      (Equal r r' b b')
  fixed_bounded A x r r' y b b' β β' =
      bounded w _ _ β _ _ β' _ (λ p p'. (same p.0 p'.0, ap (around before behind) (same p.1 p'.1)))

  module _ (new old b b' : List ℕ) where
    -- the bytes are new if the result, or its answer, is acceptance
    answered :
        (x r r' : Answer)
        → Gives w
        (both w (clauses w (r ≡ x) (b ≡ if_accepted r new old)) (clauses w (r' ≡ x) (b' ≡ if_accepted r' new old)))
        (Equal r r' b b')
    answered x r r' =
        two w _ _ _ _ _ (λ p p'. let e = same p.0 p'.0 in (e, ap (around before behind) (cc (p.1, p'.1, e))))

    written :
        (x r r' : Result Writer Refusal) (β β' : Pr w)
        → Gives w
        (both w (bounded_clauses w (r ≡ x) (b ≡ if_accepted (answer_of r) new old) β)
        (bounded_clauses w (r' ≡ x) (b' ≡ if_accepted (answer_of r') new old) β'))
        (Equal r r' b b')
    written x r r' β β' =
        bounded w _ _ β _ _ β' _ (λ p p'. let e = same p.0 p'.0 in (e, ap (around before behind) (cc (p.1, p'.1, e))))

of_answer_holds : outcomes.AnswerOutcomes
of_answer_holds = search value

of_decimal_holds : outcomes.DecimalOutcomes
of_decimal_holds = search (value, value_bounded, bytes 1 1, answered 2 1)

of_calendar_holds : outcomes.CalendarOutcomes
of_calendar_holds = search value

of_modulus_holds : outcomes.ModulusOutcomes
of_modulus_holds = search value

of_barcode_holds : outcomes.BarcodeOutcomes
of_barcode_holds = search (value, answered 5 0)

of_line_holds : outcomes.LineOutcomes
of_line_holds = search (value, answered 2 0)

of_layout_holds : outcomes.LayoutOutcomes
of_layout_holds = search value

of_kinds_holds : outcomes.KindsOutcomes
of_kinds_holds = search value

of_record_holds : outcomes.RecordOutcomes
of_record_holds = search value

of_fields_holds : outcomes.FieldsOutcomes
of_fields_holds = search (answered 3 0, answered 6 0)

of_file_holds : outcomes.FileOutcomes
of_file_holds = search (value, value_bounded)

of_board_holds : outcomes.BoardOutcomes
of_board_holds = search (value, value_bounded)

of_pairs_holds : outcomes.PairsOutcomes
of_pairs_holds = search value

of_session_holds : outcomes.SessionOutcomes
of_session_holds = search (value, value_bounded)

of_writer_holds : outcomes.WriterOutcomes
of_writer_holds = search (value, written 1 0, written 2 0, written 5 0)

of_page_holds : outcomes.PageOutcomes
of_page_holds = search (fixed_bounded 5 0)

of_hollytrot_holds : outcomes.HollytrotOutcomes
of_hollytrot_holds = search (value, fixed 2 0, fixed 3 0, fixed 4 0, fixed 5 0)

of_hollytrot_states_holds : outcomes.HollytrotStateOutcomes
of_hollytrot_states_holds = search (value, fixed 1 0, fixed 2 0, fixed 5 0)

pub one_outcome : OneOutcome
one_outcome =
    search (
      of_answer_holds,
      of_decimal_holds,
      of_calendar_holds,
      of_modulus_holds,
      of_barcode_holds,
      of_line_holds,
      of_layout_holds,
      of_kinds_holds,
      of_record_holds,
      of_fields_holds,
      of_file_holds,
      of_board_holds,
      of_pairs_holds,
      of_session_holds,
      of_writer_holds,
      of_page_holds,
      of_hollytrot_holds,
      of_hollytrot_states_holds,
    )
