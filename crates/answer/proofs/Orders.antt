-- The laws of orders of refusals, each by cases on its answers. Assumes nothing.
use Rattle.std.specs.Result.{result_ok, result_and}
use Rattle.std.specs.Prelude.{Result, Some, Ok, Err}
use Prim.Native.Nat.{ℕ, ◌+◌, ◌≤◌}
use mathlib.Core.Bool.{Bool, true, false, cond}
use mathlib.Core.List.{List, [], ◌∷◌}
use mathlib.Core.Logic.{inl, inr, ⊎_elim}
use mathlib.Core.Path.{◌≡◌, refl, sym, ap, ◌∙◌}
use native.Mathlib.Omega.{arith}
use lib.Dec.{eqb}
use Rattle.answer.specs.declared.Reason.{Reason}
use Rattle.answer.specs.declared.Refusal.{Refusal}
use Rattle.answer.specs.Answers.{Answer, Accepted, Refused, ◌gives◌}
use Rattle.answer.specs.Limits.{capped}
use Rattle.answer.specs.Refusals.{reason_number, answer_number, answer_place}
use Rattle.answer.specs.Orders.{require, ◌then◌, first_refusal, Each, StopsAt, RequireAccepts, ThenAccepts, ThenRefuses, ThenGroups, FirstAccepts, FirstRefuses, FirstJoins, MovedNumber, MovedAccepts, MovedThen, MovedTwice, BehindIsExact, RefusalKeeps, AcceptedTakes, SeenIfAccepted}

-- an answer is accepted or refused, not both
pub not_both : {X : Type 0} (a : Answer) {why : Reason} {p : ℕ} → a ≡ Refused why p → a ≡ Accepted → X
not_both a e f = let z : ◌≡◌ {A = ℕ} 0 1 = cc in absurd (omega arith)

pub require_accepts : RequireAccepts
require_accepts true why p = (λ e. refl, λ e. refl)
require_accepts false why p = (λ e. cc, λ e. cc)

pub then_accepts : ThenAccepts
then_accepts Accepted b = (λ e. (refl, e), λ h. h.1)
then_accepts (Err refusal) b = (λ e. (e, not_both _ refl e), λ h. h.0)

pub then_refuses : ThenRefuses
then_refuses Accepted b why p = (λ e. inr (refl, e), λ h. ⊎_elim (λ e. not_both Accepted e refl) (λ e. e.1) h)
then_refuses (Err refusal) b why p = (λ e. inl e, λ h. ⊎_elim (λ e. e) (λ e. not_both _ refl e.0) h)

pub then_groups : ThenGroups
then_groups Accepted b c = refl
then_groups (Err refusal) b c = refl

pub then_accepted : (a : Answer) → a then Accepted ≡ a
then_accepted Accepted = refl
then_accepted (Err refusal) = refl

-- the value of a result that has one
pub ok_tells : {A E : Type 0} (r : Result A E) {x : A} → Some x ≡ result_ok r → Ok x ≡ r
ok_tells (Ok y) e = cc
ok_tells (Err y) e = let z : ◌≡◌ {A = ℕ} 0 1 = cc in absurd (omega arith)

pub ok_accepts : (a : Answer) {x : Unit {0}} → Some x ≡ result_ok a → a ≡ Accepted
ok_accepts Accepted e = refl
ok_accepts (Err refusal) e = let z : ◌≡◌ {A = ℕ} 0 1 = cc in absurd (omega arith)

-- where there is a value, the answer accepted, and it is that one
pub gives_tells : {A : Type 0} (a : Answer) {x y : A} → a gives x ≡ Ok y → (a ≡ Accepted) × (y ≡ x)
gives_tells Accepted e = (refl, cc)
gives_tells (Err refusal) e = let z : ◌≡◌ {A = ℕ} 0 1 = cc in absurd (omega arith)

-- where there is none, the answer is the refusal
pub gives_refuses : {A : Type 0} (a : Answer) (x : A) {refusal : Refusal} → a gives x ≡ Err refusal → a ≡ Err refusal
gives_refuses Accepted x e = let z : ◌≡◌ {A = ℕ} 0 1 = cc in absurd (omega arith)
gives_refuses (Err refusal) x e = cc

-- of a result, the answer alone; and of two results, the first refusal
pub answer_alone : {A : Type 0} (a : Answer) (x : A) → result_and (a gives x) Accepted ≡ a
answer_alone Accepted x = refl
answer_alone (Err refusal) x = refl

pub and_then : (a b : Answer) → result_and a b ≡ a then b
and_then Accepted b = refl
and_then (Err refusal) b = refl

-- what holds of every element
pub each_map : {A : Type 0} {P Q : A → Type 0} → ((x : A) → P x → Q x) → (xs : List A) → Each P xs → Each Q xs
each_map f [] h = tt
each_map f (x ∷ xs) h = (f x h.0, each_map f xs h.1)

pub each_both : {A : Type 0} {P Q R : A → Type 0} → ((x : A) → P x → Q x → R x) → (xs : List A) → Each P xs → Each Q xs
    → Each R xs
each_both f [] p q = tt
each_both f (x ∷ xs) p q = (f x p.0 q.0, each_both f xs p.1 q.1)

pub first_accepts : {A : Type 0} → FirstAccepts A
first_accepts check [] = (λ e. tt, λ h. refl)
first_accepts check (x ∷ xs) =
    let both = then_accepts (check x) (first_refusal check xs) in
    let rest = first_accepts check xs in
    (λ e. ((both.0 e).0, rest.0 (both.0 e).1), λ h. both.1 (h.0, rest.1 h.1))

pub first_joins : {A : Type 0} → FirstJoins A
first_joins check [] ys = refl
first_joins check (x ∷ xs) ys =
    ap (λ (a : Answer). check x then a) (first_joins check xs ys) ∙ sym (then_groups (check x) (first_refusal check xs) (first_refusal check ys))

stops : {A : Type 0} (check : A → Answer) (why : Reason) (p : ℕ) (xs : List A) → first_refusal check xs ≡ Refused why p
    → StopsAt check why p xs
stops check why p [] e = not_both Accepted e refl
stops check why p (x ∷ xs) e =
    ⊎_elim (λ r. record { before = []; here = x; after = xs; is = refl; accepts = refl; refuses = r })
    (λ r.
    let later = stops check why p xs r.1 in
    record {
      before = x ∷ later.before;
      here = later.here;
      after = later.after;
      is = ap (λ l. x ∷ l) later.is;
      accepts = (then_accepts (check x) (first_refusal check later.before)).1 (r.0, later.accepts);
      refuses = later.refuses;
    })
    ((then_refuses (check x) (first_refusal check xs) why p).0 e)

pub first_refuses : {A : Type 0} → FirstRefuses A
first_refuses check why p xs = (
  stops check why p xs,
  λ s. rw (s.is, first_joins check s.before (s.here ∷ s.after), s.accepts, s.refuses),
)

pub moved_number : MovedNumber
moved_number move Accepted = refl
moved_number move (Err refusal) = refl

pub moved_accepts : MovedAccepts
moved_accepts move Accepted = (λ e. refl, λ e. refl)
moved_accepts move (Err refusal) = (λ e. not_both _ refl e, λ e. not_both _ refl e)

pub moved_then : MovedThen
moved_then move Accepted b = refl
moved_then move (Err refusal) b = refl

pub moved_twice : MovedTwice
moved_twice move on Accepted = refl
moved_twice move on (Err refusal) = refl

pub behind_is_exact : BehindIsExact
behind_is_exact n Accepted h = refl
behind_is_exact n (Err refusal) h =
    let fits : (t : Bool) → capped (cond t 0 (refusal.place + n)) ≡ cond t 0 (refusal.place + n) =
    λ t. elim t as (λ (b : Bool). capped (cond b 0 (refusal.place + n)) ≡ cond b 0 (refusal.place + n)) [ true ↦ omega arith | false ↦ omega arith ] in
    ap (Refused refusal.why) (fits (eqb refusal.place 0))

pub refusal_keeps : {S : Type 0} → RefusalKeeps S
refusal_keeps Accepted new old h = absurd (h refl)
refusal_keeps (Err refusal) new old h = refl

pub accepted_takes : {S : Type 0} → AcceptedTakes S
accepted_takes Accepted new old h = refl
accepted_takes (Err refusal) new old h = not_both _ refl h

pub seen_if_accepted : {S R : Type 0} → SeenIfAccepted S R
seen_if_accepted see Accepted new old = refl
seen_if_accepted see (Err refusal) new old = refl

-- no place is past n where no single test has one past n
pub require_place : (n : ℕ) (t : Bool) (why : Reason) (p : ℕ) → p ≤ n → answer_place (require t why p) ≤ n
require_place n true why p h = omega arith
require_place n false why p h = h

pub then_place : (n : ℕ) (a b : Answer) → answer_place a ≤ n → answer_place b ≤ n → answer_place (a then b) ≤ n
then_place n Accepted b h k = k
then_place n (Err refusal) b h k = h

-- no number is past n where no single test has one past n
pub require_number : (n : ℕ) (t : Bool) (why : Reason) (p : ℕ) → reason_number why ≤ n → answer_number (require t why p) ≤ n
require_number n true why p h = omega arith
require_number n false why p h = h

pub then_number : (n : ℕ) (a b : Answer) → answer_number a ≤ n → answer_number b ≤ n → answer_number (a then b) ≤ n
then_number n Accepted b h k = k
then_number n (Err refusal) b h k = h
