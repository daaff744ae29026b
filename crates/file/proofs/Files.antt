-- The laws of a file and of its trailer. Assumes nothing.
use Rattle.std.specs.Prelude.{Err}
use Prim.Native.Nat.{ℕ, ◌+◌, ◌<◌, ◌≤◌}
use mathlib.Core.Bool.{Bool, true}
use mathlib.Core.List.{List, [], ◌∷◌}
use mathlib.Core.Logic.{◌↔◌}
use mathlib.Core.Path.{◌≡◌, refl, ap, ap₂, ◌∙◌}
use native.Mathlib.Omega.{arith}
use borrow.Author.Tests.{eq-eqb, le-leb, lt-ltb, eqb-true, leb-true, ltb-true}
use lib.Dec.{eqb, leb, ltb}
use lib.ListN.{length}
use Rattle.answer.specs.Refusals.{received_place}
use Rattle.answer.specs.declared.Reason.{Reason}
use Rattle.answer.specs.declared.Reason.TheVariants.{CountDiffers, TotalDiffers, FileFull, FileTotalPassed}
use Rattle.answer.specs.Answers.{Answer, Accepted}
use Rattle.answer.specs.Orders.{require, ◌then◌, if_accepted}
use Rattle.answer.proofs.Orders.{require_accepts, then_accepts, refusal_keeps}
use Rattle.file.specs.declared.File.{File}
use Rattle.file.specs.declared.Figures.{Figures}
use Rattle.file.specs.Files.{most_payments, most_centavos, fresh_file, file_answer, file_with, figures_answer, closing_answer, FileWithin, file_answers, file_with_all, received_of, FileAccepts, RefusalKeepsFile, StaysWithin, FreshFileTakes, FreshFileHolds, OneRightTrailer, ClosingAccepts, FiguresFit}

-- two requirements are both met exactly when both tests hold
both : (s t : Bool) (v w : Reason) (p q : ℕ) → (require s v p then require t w q ≡ Accepted) ↔ ((s ≡ true) × (t ≡ true))
both s t v w p q =
    let two = then_accepts (require s v p) (require t w q) in
    let a = require_accepts s v p in
    let b = require_accepts t w q in
    (λ e. (a.0 (two.0 e).0, b.0 (two.0 e).1), λ h. two.1 (a.1 h.0, b.1 h.1))

pub file_accepts : FileAccepts
unfolding file_answer
file_accepts f received =
    let h = both (ltb f.taken most_payments) (leb (f.total + received) most_centavos) FileFull FileTotalPassed 1 received_place in (
      λ e. (ltb-true _ _ (h.0 e).0, leb-true _ _ (h.0 e).1),
      λ k. h.1 (lt-ltb _ _ k.0, le-leb _ _ k.1),
    )

pub refusal_keeps_file : RefusalKeepsFile
refusal_keeps_file f received h = refusal_keeps (file_answer f received) (file_with f received) f h

pub stays_within : StaysWithin
stays_within = (λ version lined. record { taken = omega arith; total = omega arith }, λ f received w. go f received w (file_answer f received) refl)
  where
    go : (f : File) (received : ℕ) → FileWithin f → (a : Answer) → file_answer f received ≡ a
        → FileWithin (if_accepted a (file_with f received) f)
    go f received w Accepted e =
        let h = (file_accepts f received).0 e in
        record { taken = omega arith; total = h.1 }
    go f received w (Err refusal) e = w

-- from any file within its limits
takes : (f : File) → FileWithin f → (xs : List ℕ)
    → (file_answers f xs ≡ Accepted) ↔ ((f.taken + length xs ≤ most_payments) × (f.total + received_of xs ≤ most_centavos))
takes f w [] = (λ e. (omega (arith, w.taken), omega (arith, w.total)), λ h. refl)
takes f w (x ∷ xs) =
    let two = then_accepts (file_answer f x) (file_answers (file_with f x) xs) in
    let one = file_accepts f x in
    let next : (f.taken < most_payments) × (f.total + x ≤ most_centavos) → FileWithin (file_with f x) = λ h. record { taken = omega arith; total = h.1 } in (
      λ e.
          let h = one.0 (two.0 e).0 in
          let k = (takes (file_with f x) (next h) xs).0 (two.0 e).1 in
          (omega arith, omega arith),
      λ h.
          let k : (f.taken < most_payments) × (f.total + x ≤ most_centavos) = (omega arith, omega arith) in
          two.1 (one.1 k, (takes (file_with f x) (next k) xs).1 (omega arith, omega arith)),
    )

pub fresh_file_takes : FreshFileTakes
fresh_file_takes version lined xs =
    let h = takes (fresh_file version lined) (stays_within.0 version lined) xs in
    (λ e. let k = h.0 e in (omega arith, omega arith), λ k. h.1 (omega arith, omega arith))

-- a file with other figures, and that equal figures make equal files
abbrev figured : File → ℕ → ℕ → File
figured f n c = record { taken = n; total = c; version = f.version; lined = f.lined }

alike : (f : File) {m n c d : ℕ} → m ≡ n → c ≡ d → figured f m c ≡ figured f n d
alike f e q = ap₂ (figured f) e q

holds : (f : File) (xs : List ℕ) → file_with_all f xs ≡ figured f (f.taken + length xs) (f.total + received_of xs)
holds f [] = alike f (omega arith) (omega arith)
holds f (x ∷ xs) = holds (file_with f x) xs ∙ alike f (omega arith) (omega arith)

pub fresh_file_holds : FreshFileHolds
fresh_file_holds version lined xs =
    holds (fresh_file version lined) xs ∙ alike (fresh_file version lined) (omega arith) (omega arith)

pub one_right_trailer : OneRightTrailer
unfolding figures_answer
one_right_trailer f shown =
    let h = both (eqb shown.count (f.taken + 2)) (eqb shown.total f.total) CountDiffers TotalDiffers 2 8 in (
      λ e.
          let count = eqb-true _ _ (h.0 e).0 in
          let total = eqb-true _ _ (h.0 e).1 in
          ap₂ (λ (n m : ℕ). record { count = n; total = m }) count total,
      λ e. h.1 (eq-eqb _ _ (ap (λ (x : Figures). x.count) e), eq-eqb _ _ (ap (λ (x : Figures). x.total) e)),
    )

pub closing_accepts : ClosingAccepts
unfolding closing_answer
closing_accepts f =
    let h = both (leb f.taken most_payments) (leb f.total most_centavos) FileFull FileTotalPassed 1 received_place in (
      λ e. record { taken = leb-true _ _ (h.0 e).0; total = leb-true _ _ (h.0 e).1 },
      λ w. h.1 (le-leb _ _ w.taken, le-leb _ _ w.total),
    )

pub figures_fit : FiguresFit
figures_fit f w = (omega (arith, w.taken), omega (arith, w.total))
