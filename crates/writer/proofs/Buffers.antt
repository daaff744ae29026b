-- Laws of the caller's buffer: the lengths that fit a call, and a record put into it in its form. Assumes nothing.
use Prim.Native.Nat.{ℕ, ◌+◌, ◌≤◌}
use mathlib.Core.Bool.{Bool, true, false}
use mathlib.Core.List.{List, ◌++◌, append-nil}
use mathlib.Core.Logic.{⊎_elim}
use mathlib.Core.Path.{◌≡◌, refl, sym, ap, ◌∙◌}
use native.Mathlib.Omega.{arith}
use borrow.Author.Tests.{eqb-true, eq-eqb, ne_eqb}
use lib.Dec.{eqb}
use lib.ListN.{length, set, drop, length-append, length-drop, drop_of_length-le}
use lib.Seq.{take_at, sets-eq}
use Rattle.answer.proofs.Tests.{or_cases}
use Rattle.layout.specs.Layouts.{record_length}
use Rattle.file.specs.Forms.{line_end, in_form, lined_length, length_of}
use Rattle.writer.specs.declared.Stage.{Stage}
use Rattle.writer.specs.declared.Stage.TheVariants.{Fresh, Open, Closed}
use Rattle.writer.specs.declared.Writer.{Writer}
use Rattle.writer.specs.Writers.{fits_buffer, is_lined_buffer}

-- the length of a form's record shows that form
pub form_of_length : (lined : Bool) → is_lined_buffer (length_of lined) ≡ lined
form_of_length true = refl
form_of_length false = refl

-- a buffer that fits is as long as a record of its form
pub fitting_size : (stage : Stage) (lined : Bool) (size : ℕ) → fits_buffer stage lined size ≡ true
    → size ≡ length_of (is_lined_buffer size)
fitting_size stage lined size = go stage
  where
    of_form : (form : Bool) → eqb size (length_of form) ≡ true → size ≡ length_of (is_lined_buffer size)
    of_form form t =
        let e = eqb-true size (length_of form) t in
        e ∙ ap length_of (sym (form_of_length form) ∙ ap is_lined_buffer (sym e))

    go : (s : Stage) → fits_buffer s lined size ≡ true → size ≡ length_of (is_lined_buffer size)
    go Fresh t = ⊎_elim (of_form false) (of_form true) (or_cases (eqb size record_length) (eqb size lined_length) t)
    go Open t = of_form lined t
    go Closed t = of_form lined t

-- a buffer that is not one of 152 is one of 150
pub bare_size : (size : ℕ) → size ≡ length_of (is_lined_buffer size) → (size ≡ lined_length → ⊥) → size ≡ record_length
bare_size size n other = n ∙ rw (ne_eqb size lined_length other)

-- a fresh writer takes either form, an open one its file's
pub either_fits : (lined form : Bool) → fits_buffer Fresh lined (length_of form) ≡ true
either_fits lined true = refl
either_fits lined false = refl

pub open_fits : (w : Writer) → w.stage ≡ Open → fits_buffer w.stage w.file.lined (length_of w.file.lined) ≡ true
open_fits w opened = rw opened (eq-eqb (length_of w.file.lined) (length_of w.file.lined) refl)

-- A record of 150 bytes, copied to the front of a buffer.
module _ (made out : List ℕ) {l : List ℕ} (n : length made ≡ record_length)
    (c : l ≡ made ++ drop (length made) out) where
  -- in a buffer of 152 CR and LF fill it
  pub put_lined : length out ≡ lined_length
      → set (set l record_length 13) (record_length + 1) 10 ≡ in_form (is_lined_buffer (length out)) made
  put_lined m =
      let rest = drop (length made) out in
      let front : l ≡ made ++ rest = c in
      let long : length l ≡ lined_length =
      ap length front ∙ omega (arith, length-append made rest, length-drop (length made) out, n, m) in
      let full = drop_of_length-le l {i = lined_length} (omega (arith, long)) in
      sets-eq line_end l record_length (omega (arith, long))
      ∙ rw (full, front, take_at made rest record_length n, m) (append-nil (made ++ line_end))

  -- without, the record fills it
  pub put_bare : length out ≡ record_length → l ≡ in_form (is_lined_buffer (length out)) made
  put_bare m =
      let past : length out ≤ length made = omega (arith, n, m) in
      c ∙ rw (drop_of_length-le out past, m)
