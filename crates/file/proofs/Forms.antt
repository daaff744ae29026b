-- The laws of a file's form. Assumes nothing.
use Prim.Native.Nat.{ℕ, ◌+◌, ◌≤◌, ◌<◌}
use mathlib.Core.Bool.{Bool, true, false, cond, ◌&&◌, ◌||◌, or-true, and-eq-true_iff}
use mathlib.Core.List.{List, [], ◌∷◌, ◌++◌, append-nil}
use mathlib.Core.Logic.{◌↔◌, ⊎_elim}
use mathlib.Core.Path.{◌≡◌, refl, sym, ap, ◌∙◌}
use native.Mathlib.Omega.{arith}
use borrow.Author.Tests.{eqb-true, eq-eqb, ne_eqb, le-leb, lt-leb}
use lib.Dec.{eqb, leb}
use lib.ListN.{length, get_or, drop, length-append, take-append-drop, drop_of_length-le}
use lib.Seq.{take_at, take_all, drop-cons, get_or-take, get_or-append-add, length-take-le}
use Rattle.answer.specs.declared.Reason.TheVariants.{NoLineEnd}
use Rattle.answer.specs.Answers.{Accepted}
use Rattle.answer.specs.Orders.{require}
use Rattle.answer.proofs.Orders.{require_accepts}
use Rattle.answer.proofs.Tests.{unequal, or_cases, lt_or_le}
use Rattle.layout.specs.Layouts.{record_length}
use Rattle.file.specs.Forms.{line_end, end_of, in_form, lined_length, length_of, body_of, has_line_end, fits_length, end_place, end_answer, is_taken_lined, LineEndIsCrAndLf, FittingIsInForm}

-- the bytes of a record in either form are 150 to 152
pub at_least_bare : (lined : Bool) → record_length ≤ length_of lined
at_least_bare true = omega arith
at_least_bare false = omega arith

pub at_most_lined : (lined : Bool) → length_of lined ≤ lined_length
at_most_lined true = omega arith
at_most_lined false = omega arith

-- A record of 150 bytes in either form.
module _ (rec : List ℕ) (n : length rec ≡ record_length) where
  pub body_in : (lined : Bool) → body_of (in_form lined rec) ≡ rec
  body_in lined = take_at rec (end_of lined) record_length n

  pub length_in : (lined : Bool) → length (in_form lined rec) ≡ length_of lined
  length_in true = omega (arith, length-append rec line_end)
  length_in false = omega (arith, length-append rec [])

  behind_in : (lined : Bool) (i : ℕ) → get_or (in_form lined rec) (record_length + i) 0 ≡ get_or (end_of lined) i 0
  behind_in lined i = rw n at (get_or-append-add rec (end_of lined) i 0)

  pub ended_in : (lined : Bool) → has_line_end (in_form lined rec) ≡ lined
  unfolding has_line_end
  ended_in true =
      rw (eq-eqb (length (in_form true rec)) lined_length (length_in true), eq-eqb (get_or (in_form true rec) record_length 0) 13 (behind_in true 0), eq-eqb (get_or (in_form true rec) 151 0) 10 (behind_in true 1))
  ended_in false = rw (ne_eqb (length (in_form false rec)) lined_length (λ e. omega (arith, length_in false, e)))

-- the first byte is the record's, in what is taken too
pub first_in : (bytes : List ℕ) → get_or (body_of bytes) 0 0 ≡ get_or bytes 0 0
first_in bytes = get_or-take record_length bytes 0 0 (omega arith)

-- 150 bytes and nothing more
bare_is : (bytes : List ℕ)
    → (length bytes ≡ record_length) ↔ ((length (body_of bytes) ≡ record_length) × (bytes ≡ in_form false (body_of bytes)))
bare_is bytes = (
  λ n.
      let whole : body_of bytes ≡ bytes = take_all record_length bytes (omega (arith, n)) in
      (ap length whole ∙ n, sym (append-nil (body_of bytes) ∙ whole)),
  λ h. ap length (h.1 ∙ append-nil (body_of bytes)) ∙ h.0,
)

pub line_end_is_cr_and_lf : LineEndIsCrAndLf
unfolding has_line_end
line_end_is_cr_and_lf bytes = (
  λ e.
      let all = (and-eq-true_iff (eqb (length bytes) lined_length) (eqb (get_or bytes record_length 0) 13 && eqb (get_or bytes 151 0) 10)).0 e in
      let two = (and-eq-true_iff (eqb (get_or bytes record_length 0) 13) (eqb (get_or bytes 151 0) 10)).0 all.1 in
      let n = eqb-true (length bytes) lined_length all.0 in
      let cr = eqb-true (get_or bytes record_length 0) 13 two.0 in
      let lf = eqb-true (get_or bytes 151 0) 10 two.1 in
      let rest : drop record_length bytes ≡ line_end =
      drop-cons bytes record_length 0 (omega (arith, n)) ∙ ap (λ (b : ℕ). b ∷ drop 151 bytes) cr
      ∙ ap (λ (l : List ℕ). 13 ∷ l) (drop-cons bytes 151 0 (omega (arith, n)) ∙ ap (λ (b : ℕ). b ∷ drop 152 bytes) lf)
      ∙ ap (λ (l : List ℕ). 13 ∷ 10 ∷ l) (drop_of_length-le bytes {i = 152} (omega (arith, n))) in
      (length-take-le record_length bytes (omega (arith, n)), sym (take-append-drop record_length bytes) ∙ ap (λ (l : List ℕ). body_of bytes ++ l) rest),
  λ h. ap has_line_end h.1 ∙ ended_in (body_of bytes) h.0 true,
)

-- with 152 bytes and CR the last byte decides
pub by_last : (bytes : List ℕ) → length bytes ≡ lined_length → get_or bytes record_length 0 ≡ 13
    → eqb (get_or bytes 151 0) 10 ≡ has_line_end bytes
unfolding has_line_end
by_last bytes n cr = rw (eq-eqb (length bytes) lined_length n, eq-eqb (get_or bytes record_length 0) 13 cr)

-- The two checks, by the state.

fits_closed : (lined : Bool) (bytes : List ℕ) → fits_length false lined bytes ≡ (eqb (length bytes) record_length || has_line_end bytes)
unfolding fits_length
fits_closed lined bytes = refl

fits_bare : (bytes : List ℕ) → fits_length true false bytes ≡ eqb (length bytes) record_length
unfolding fits_length
fits_bare bytes = refl

fits_lined : (bytes : List ℕ) → fits_length true true bytes ≡ (leb record_length (length bytes) && leb (length bytes) lined_length)
unfolding fits_length
fits_lined bytes = refl

ends_closed : (lined : Bool) (bytes : List ℕ) → end_answer false lined bytes ≡ Accepted
unfolding end_answer
ends_closed lined bytes = refl

ends_bare : (bytes : List ℕ) → end_answer true false bytes ≡ Accepted
unfolding end_answer
ends_bare bytes = refl

ends_lined : (bytes : List ℕ) → end_answer true true bytes ≡ require (has_line_end bytes) NoLineEnd end_place
unfolding end_answer
ends_lined bytes = refl

-- by the length
pub not_ended : (bytes : List ℕ) → (length bytes ≡ lined_length → ⊥) → has_line_end bytes ≡ false
unfolding has_line_end
not_ended bytes h = rw (ne_eqb (length bytes) lined_length h)

pub fits_short : (opened lined : Bool) (bytes : List ℕ) → length bytes < record_length → fits_length opened lined bytes ≡ false
fits_short false lined bytes h =
    rw (fits_closed lined bytes, ne_eqb (length bytes) record_length (λ e. omega (arith, e, h)), not_ended bytes (λ e. omega (arith, e, h)))
fits_short true false bytes h = rw (fits_bare bytes, ne_eqb (length bytes) record_length (λ e. omega (arith, e, h)))
fits_short true true bytes h = rw (fits_lined bytes, lt-leb record_length (length bytes) h)

pub fits_bare_length : (opened lined : Bool) (bytes : List ℕ) → length bytes ≡ record_length → fits_length opened lined bytes ≡ true
fits_bare_length false lined bytes h = rw (fits_closed lined bytes, eq-eqb (length bytes) record_length h)
fits_bare_length true false bytes h = rw (fits_bare bytes, eq-eqb (length bytes) record_length h)
fits_bare_length true true bytes h =
    rw (fits_lined bytes, le-leb record_length (length bytes) (omega (arith, h)), le-leb (length bytes) lined_length (omega (arith, h)))

pub fits_longer : (opened lined : Bool) (bytes : List ℕ) → record_length < length bytes
    → fits_length opened lined bytes ≡ cond opened (cond lined (leb (length bytes) lined_length) false) (has_line_end bytes)
fits_longer false lined bytes h = rw (fits_closed lined bytes, ne_eqb (length bytes) record_length (λ e. omega (arith, e, h)))
fits_longer true false bytes h = rw (fits_bare bytes, ne_eqb (length bytes) record_length (λ e. omega (arith, e, h)))
fits_longer true true bytes h = rw (fits_lined bytes, le-leb record_length (length bytes) (omega (arith, h)))

-- what fits has a record in front
pub fits_body : (opened lined : Bool) (bytes : List ℕ) → fits_length opened lined bytes ≡ true → length (body_of bytes) ≡ record_length
fits_body opened lined bytes h =
    ⊎_elim (λ e. unequal h (fits_short opened lined bytes e)) (λ e. length-take-le record_length bytes e) (lt_or_le (length bytes) record_length)

-- a record in the form of the open file passes both
pub fits_in : (opened lined : Bool) (rec : List ℕ) → length rec ≡ record_length → (form : Bool) → (opened ≡ true → form ≡ lined)
    → fits_length opened lined (in_form form rec) ≡ true
fits_in false lined rec n true h = rw (fits_closed lined (in_form true rec), ended_in rec n true) (or-true (eqb (length (in_form true rec)) record_length))
fits_in false lined rec n false h =
    rw (fits_closed lined (in_form false rec), eq-eqb (length (in_form false rec)) record_length (length_in rec n false))
fits_in true true rec n form h =
    rw (h refl, fits_lined (in_form true rec), le-leb record_length (length (in_form true rec)) (omega (arith, length_in rec n true)), le-leb (length (in_form true rec)) lined_length (omega (arith, length_in rec n true)))
fits_in true false rec n form h =
    rw (h refl, fits_bare (in_form false rec), eq-eqb (length (in_form false rec)) record_length (length_in rec n false))

pub ends_in : (opened lined : Bool) (rec : List ℕ) → length rec ≡ record_length → (form : Bool) → (opened ≡ true → form ≡ lined)
    → end_answer opened lined (in_form form rec) ≡ Accepted
ends_in false lined rec n form h = ends_closed lined (in_form form rec)
ends_in true false rec n form h = ends_bare (in_form form rec)
ends_in true true rec n form h = rw (h refl, ends_lined (in_form true rec), ended_in rec n true)

-- and nothing else does
pub fitting_is_in_form : FittingIsInForm
fitting_is_in_form opened lined bytes = (there opened lined, back opened lined)
  where
    there : (opened lined : Bool) → (fits_length opened lined bytes ≡ true) × (end_answer opened lined bytes ≡ Accepted)
        → (length (body_of bytes) ≡ record_length) × (bytes ≡ in_form (is_taken_lined opened lined bytes) (body_of bytes))
    there false lined h =
        ⊎_elim
        (λ e.
        let n = eqb-true (length bytes) record_length e in
        let bare = (bare_is bytes).0 n in
        let none : has_line_end bytes ≡ false = ap has_line_end bare.1 ∙ ended_in (body_of bytes) bare.0 false in
        (bare.0, bare.1 ∙ ap (λ (t : Bool). in_form t (body_of bytes)) (sym none)))
        (λ e.
        let ended = (line_end_is_cr_and_lf bytes).0 e in
        (ended.0, ended.1 ∙ ap (λ (t : Bool). in_form t (body_of bytes)) (sym e)))
        (or_cases (eqb (length bytes) record_length) (has_line_end bytes) (sym (fits_closed lined bytes) ∙ h.0))
    there true false h = (bare_is bytes).0 (eqb-true (length bytes) record_length (sym (fits_bare bytes) ∙ h.0))
    there true true h =
        (line_end_is_cr_and_lf bytes).0 ((require_accepts (has_line_end bytes) NoLineEnd end_place).0 (sym (ends_lined bytes) ∙ h.1))

    back : (opened lined : Bool)
        → (length (body_of bytes) ≡ record_length) × (bytes ≡ in_form (is_taken_lined opened lined bytes) (body_of bytes))
        → (fits_length opened lined bytes ≡ true) × (end_answer opened lined bytes ≡ Accepted)
    back opened lined h =
        let form = is_taken_lined opened lined bytes in
        let same : opened ≡ true → form ≡ lined = λ e. rw e in (
          ap (fits_length opened lined) h.1 ∙ fits_in opened lined (body_of bytes) h.0 form same,
          ap (end_answer opened lined) h.1 ∙ ends_in opened lined (body_of bytes) h.0 form same,
        )
