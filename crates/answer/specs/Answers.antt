-- What a call answers: accepted, or one refusal with its place. Assumes nothing.
use Rattle.std.specs.Prelude.{ℕ, Result, Ok, Err}
use Rattle.answer.specs.declared.Reason.{Reason}
use Rattle.answer.specs.declared.Refusal.{Refusal}

abbrev pub Answer : Type 0
Answer = Result (Unit {0}) Refusal

pattern abbrev pub Accepted : Answer
Accepted = Ok tt

-- refused for this reason at this place, where a call answers with a value too
abbrev pub Refused : {A : Type 0} → Reason → ℕ → Result A Refusal
Refused why place = Err (record { why = why; place = place })

-- the value where the answer accepts, else its refusal
infixr 15 ◌gives◌
abbrev pub ◌gives◌ : {A : Type 0} → Answer → A → Result A Refusal
Accepted gives value = Ok value
(Err refusal) gives value = Err refusal

-- the state behind a call that answers with the new one: the old one where it is refused
abbrev pub state_behind : {S : Type 0} → S → Result S Refusal → S
state_behind old (Ok new) = new
state_behind old (Err refusal) = old

-- whether it is accepted, whatever the value, or the refusal
abbrev pub answer_of : {A : Type 0} → Result A Refusal → Answer
answer_of (Ok value) = Accepted
answer_of (Err refusal) = Err refusal
