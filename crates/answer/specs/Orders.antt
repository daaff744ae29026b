-- How an order of refusals (SPEC.md, "Refusals") is written: tests one after the other, of which the first that fails
-- decides. Assumes nothing.
use Rattle.std.specs.Prelude.{Err, ℕ, ◌+◌, ◌≤◌, Bool, true, false, cond, List, [], ◌∷◌, ◌++◌, ◌↔◌, ◌⊎◌, ◌≡◌, eqb}
use Rattle.answer.specs.declared.Reason.{Reason}
use Rattle.answer.specs.Answers.{Answer, Accepted, Refused}
use Rattle.answer.specs.Limits.{largest_number, capped}
use Rattle.answer.specs.Refusals.{answer_number, answer_place}

-- refused for this reason at this place, unless the test holds
abbrev pub require : Bool → Reason → ℕ → Answer
require true why place = Accepted
require false why place = Refused why place

-- the first refusal of two answers
infixr 20 ◌then◌
abbrev pub ◌then◌ : Answer → Answer → Answer
Accepted then next = next
(Err refusal) then next = Err refusal

-- the first refusal over a list
abbrev pub first_refusal {ℓ} : {A : Type ℓ} → (A → Answer) → List A → Answer
first_refusal check [] = Accepted
first_refusal check (x ∷ xs) = check x then first_refusal check xs

-- an answer about a part, with its place moved to the whole's
abbrev pub moved_by : (ℕ → ℕ) → Answer → Answer
moved_by move Accepted = Accepted
moved_by move (Err refusal) = Refused refusal.why (move refusal.place)

-- the place in a whole, where the part comes after n bytes; no place, 0, stays none
abbrev pub behind : ℕ → ℕ → ℕ
behind n place = cond (eqb place 0) 0 (place + n)

-- the same as a number of 64 bits
abbrev pub capped_behind : ℕ → ℕ → ℕ
capped_behind n place = capped (behind n place)

-- the new state where the answer accepts, else the old
abbrev pub if_accepted {ℓ} : {S : Type ℓ} → Answer → S → S → S
if_accepted Accepted new old = new
if_accepted (Err refusal) new old = old

-- Promises: of one test, of two answers, of a list.

abbrev pub RequireAccepts : Type 0
RequireAccepts = (t : Bool) (why : Reason) (p : ℕ) → (require t why p ≡ Accepted) ↔ (t ≡ true)

abbrev pub ThenAccepts : Type 0
ThenAccepts = (a b : Answer) → (a then b ≡ Accepted) ↔ ((a ≡ Accepted) × (b ≡ Accepted))

abbrev pub ThenRefuses : Type 0
ThenRefuses =
    (a b : Answer) (why : Reason) (p : ℕ)
    → (a then b ≡ Refused why p) ↔ ((a ≡ Refused why p) ⊎ ((a ≡ Accepted) × (b ≡ Refused why p)))

abbrev pub ThenGroups : Type 0
ThenGroups = (a b c : Answer) → (a then b) then c ≡ a then (b then c)

-- P holds of every element
abbrev pub Each : {A : Type 0} → (A → Type 0) → List A → Type 0
Each P [] = Unit {0}
Each P (x ∷ xs) = P x × Each P xs

abbrev pub FirstAccepts : Type 0 → Type 0
FirstAccepts A =
    (check : A → Answer) (xs : List A) → (first_refusal check xs ≡ Accepted) ↔ Each (λ x. check x ≡ Accepted) xs

-- the check refuses an element of the list, and accepts all before it
pub record StopsAt {A : Type 0} (check : A → Answer) (why : Reason) (p : ℕ) (list : List A) : Type 0 where
  pub before : List A
  pub here : A
  pub after : List A
  pub is : list ≡ before ++ here ∷ after
  pub accepts : first_refusal check before ≡ Accepted
  pub refuses : check here ≡ Refused why p

abbrev pub FirstRefuses : Type 0 → Type 0
FirstRefuses A =
    (check : A → Answer) (why : Reason) (p : ℕ) (xs : List A)
    → (first_refusal check xs ≡ Refused why p) ↔ StopsAt check why p xs

abbrev pub FirstJoins : Type 0 → Type 0
FirstJoins A =
    (check : A → Answer) (xs ys : List A)
    → first_refusal check (xs ++ ys) ≡ first_refusal check xs then first_refusal check ys

-- Promises: of an answer that is moved.

abbrev pub MovedNumber : Type 0
MovedNumber = (move : ℕ → ℕ) (a : Answer) → answer_number (moved_by move a) ≡ answer_number a

abbrev pub MovedAccepts : Type 0
MovedAccepts = (move : ℕ → ℕ) (a : Answer) → (moved_by move a ≡ Accepted) ↔ (a ≡ Accepted)

abbrev pub MovedThen : Type 0
MovedThen = (move : ℕ → ℕ) (a b : Answer) → moved_by move (a then b) ≡ moved_by move a then moved_by move b

abbrev pub MovedTwice : Type 0
MovedTwice = (move on : ℕ → ℕ) (a : Answer) → moved_by on (moved_by move a) ≡ moved_by (λ p. on (move p)) a

-- within 64 bits no place is cut
abbrev pub BehindIsExact : Type 0
BehindIsExact =
    (n : ℕ) (a : Answer) → answer_place a + n ≤ largest_number → moved_by (capped_behind n) a ≡ moved_by (behind n) a

-- Promises: of a state. A refusal changes nothing; a view of the state that is kept is the view that is kept.

abbrev pub RefusalKeeps : Type 0 → Type 0
RefusalKeeps S = (a : Answer) (new old : S) → (a ≡ Accepted → ⊥) → if_accepted a new old ≡ old

abbrev pub AcceptedTakes : Type 0 → Type 0
AcceptedTakes S = (a : Answer) (new old : S) → a ≡ Accepted → if_accepted a new old ≡ new

abbrev pub SeenIfAccepted : Type 0 → Type 0 → Type 0
SeenIfAccepted S R =
    (see : S → R) (a : Answer) (new old : S) → see (if_accepted a new old) ≡ if_accepted a (see new) (see old)
