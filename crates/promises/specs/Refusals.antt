-- A refusal changes nothing: the state and the caller's buffer are what they were. Said of the contracts, as one
-- outcome is. Assumes nothing.
use Rattle.std.specs.Prelude.{ℕ, List, ◌≡◌}
use base.Logic.{ent}
use contract.Monad.{fact}
use Rattle.std.specs.Borrow.{MutBor}
use denote.Triple.Clauses.{Ended, Lasts}
use borrow.Fn.World.{World}
use Rattle.answer.specs.Answers.{Accepted, answer_of, state_behind}
use Rattle.decimal.specs.contracts as decimal
use Rattle.barcode.specs.contracts as barcode
use Rattle.line.specs.contracts as line
use Rattle.fields.specs.contracts as fields
use Rattle.file.specs.contracts as file
use Rattle.board.specs.contracts as board
use Rattle.session.specs.contracts as session
use Rattle.writer.specs.contracts as writer
use Rattle.page.specs.contracts as page
use Rattle.hollytrot.specs.contracts as hollytrot
use Rattle.promises.specs.Allowed.{Contract, Lent, Given, Result, Ghost, allowed}

-- A parameter by its place among the arguments; the same of the bytes that are left.

abbrev pub first : {A B : Type 0} → A × B → A
first p = p.0

abbrev pub second : {A B C : Type 0} → A × (B × C) → B
second p = p.1.0

abbrev pub third : {A B C D : Type 0} → A × (B × (C × D)) → C
third p = p.1.1.0

abbrev pub fourth : {A B C D E : Type 0} → A × (B × (C × (D × E))) → D
fourth p = p.1.1.1.0

abbrev pub fifth : {A B C D E F : Type 0} → A × (B × (C × (D × (E × F)))) → E
fifth p = p.1.1.1.1.0

abbrev pub sixth : {A B C D E F G : Type 0} → A × (B × (C × (D × (E × (F × G))))) → F
sixth p = p.1.1.1.1.1.0

abbrev pub seventh : {A B C D E F G H : Type 0} → A × (B × (C × (D × (E × (F × (G × H)))))) → G
seventh p = p.1.1.1.1.1.1.0

module _ (T : Ended) (contract : Contract T) where
  -- which results are acceptance; all others are refusals
  abbrev pub Acceptance : Type 1
  Acceptance = (κs : Lent T) → Result T κs → Type 0

  -- if the result is a refusal, what there is after the call is what there was before it
  abbrev pub Keeps :
      {S : Type 0} → Acceptance → ((κs : Lent T) → Given T κs → S)
      → ((κs : Lent T) (given : Given T κs) → Result T κs → Lasts T κs given → S) → Type 2
  Keeps accepted before after =
      (w : World) (κs : Lent T) (given : Given T κs) (g : Ghost T contract w κs given)
      (r : Result T κs) (left : Lasts T κs given)
      → ent w.𝓤 (allowed T contract w κs given g r left)
      (fact w.𝓤 ((accepted κs r → ⊥) → after κs given r left ≡ before κs given))

  -- a buffer of the caller
  abbrev pub KeepsBuffer :
      Acceptance → ((κs : Lent T) → Given T κs → MutBor (List ℕ))
      → ((κs : Lent T) (given : Given T κs) → Lasts T κs given → List ℕ) → Type 2
  KeepsBuffer accepted buffer left =
      Keeps accepted (λ κs given. (buffer κs given).now) (λ κs given r ws. left κs given ws)

  -- a state that is given and returned
  abbrev pub KeepsState :
      {S : Type 0} → Acceptance → ((κs : Lent T) → Given T κs → S)
      → ((κs : Lent T) → Given T κs → Result T κs → S) → Type 2
  KeepsState accepted state returned = Keeps accepted state (λ κs given r ws. returned κs given r)

  -- both
  abbrev pub KeepsBoth :
      {S : Type 0} → Acceptance → ((κs : Lent T) → Given T κs → S)
      → ((κs : Lent T) → Given T κs → Result T κs → S) → ((κs : Lent T) → Given T κs → MutBor (List ℕ))
      → ((κs : Lent T) (given : Given T κs) → Lasts T κs given → List ℕ) → Type 2
  KeepsBoth {S} accepted state returned buffer left =
      Keeps {S = S × List ℕ} accepted (λ κs given. (state κs given, (buffer κs given).now))
      (λ κs given r ws. (returned κs given r, left κs given ws))

-- Promise: of each public operation that has an answer and something to change. The exported ones, hollytrot's, return
-- the answer's number, which is 0 for acceptance alone (`ZeroIsAccepted`). A run of many records has no line: the
-- records before the refused one are kept (`RunIsItsTakes`).
pub record RefusalsChangeNothing : Type 2 where
  pub decimal·put_number :
      KeepsBuffer decimal.put_number.ended (λ M 𝓤. decimal.put_number.clauses) (λ κs r. r ≡ Accepted)
      (λ κs. third) (λ κs given. third)
  pub barcode·builder·build :
      KeepsBuffer barcode.builder.build.ended (λ M 𝓤. barcode.builder.build.clauses) (λ κs r. r ≡ Accepted)
      (λ κs. sixth) (λ κs given. sixth)
  pub line·to_barcode :
      KeepsBuffer line.to_barcode.ended (λ M 𝓤. line.to_barcode.clauses) (λ κs r. r ≡ Accepted)
      (λ κs. third) (λ κs given. third)
  pub line·from_barcode :
      KeepsBuffer line.from_barcode.ended (λ M 𝓤. line.from_barcode.clauses) (λ κs r. r ≡ Accepted)
      (λ κs. third) (λ κs given. third)
  pub fields·join :
      KeepsBuffer fields.join.ended (λ M 𝓤. fields.join.clauses) (λ κs r. r ≡ Accepted)
      (λ κs. fourth) (λ κs given. fourth)
  pub fields·make :
      KeepsBuffer fields.make.ended (λ M 𝓤. fields.make.clauses) (λ κs r. r ≡ Accepted)
      (λ κs. seventh) (λ κs given. seventh)
  pub fields·judged·make :
      KeepsBuffer fields.judged.make.ended (λ M 𝓤. fields.judged.make.clauses) (λ κs r. r ≡ Accepted)
      (λ κs. seventh) (λ κs given. seventh)
  pub file·File·take :
      KeepsState file.File.take.ended (λ M 𝓤. file.File.take.clauses) (λ κs r. answer_of r ≡ Accepted)
      (λ κs. first) (λ κs given. state_behind (first given))
  pub board·Slot·post :
      KeepsState board.Slot.post.ended (λ M 𝓤. board.Slot.post.clauses) (λ κs r. answer_of r ≡ Accepted)
      (λ κs. first) (λ κs given. state_behind (first given))
  pub board·Board·post :
      KeepsState board.Board.post.ended (λ M 𝓤. board.Board.post.clauses) (λ κs r. answer_of r ≡ Accepted)
      (λ κs. first) (λ κs given. state_behind (first given))
  pub session·Session·take :
      KeepsState session.Session.take.ended (λ M 𝓤. session.Session.take.clauses) (λ κs r. answer_of r ≡ Accepted)
      (λ κs. first) (λ κs given. state_behind (first given))
  pub session·Session·finish :
      KeepsState session.Session.finish.ended (λ M 𝓤. session.Session.finish.clauses) (λ κs r. answer_of r ≡ Accepted)
      (λ κs. first) (λ κs given. state_behind (first given))
  pub writer·Writer·header :
      KeepsBoth writer.Writer.header.ended (λ M 𝓤. writer.Writer.header.clauses) (λ κs r. answer_of r ≡ Accepted)
      (λ κs. first) (λ κs given. state_behind (first given)) (λ κs. third) (λ κs given. third)
  pub writer·Writer·payment :
      KeepsBoth writer.Writer.payment.ended (λ M 𝓤. writer.Writer.payment.clauses) (λ κs r. answer_of r ≡ Accepted)
      (λ κs. first) (λ κs given. state_behind (first given)) (λ κs. sixth) (λ κs given. sixth)
  pub writer·Writer·trailer :
      KeepsBoth writer.Writer.trailer.ended (λ M 𝓤. writer.Writer.trailer.clauses) (λ κs r. answer_of r ≡ Accepted)
      (λ κs. first) (λ κs given. state_behind (first given)) (λ κs. second) (λ κs given. second)
  pub page·print :
      KeepsBuffer page.print.ended (λ M 𝓤. page.print.clauses) (λ κs r. answer_of r ≡ Accepted)
      (λ κs. sixth) (λ κs given. sixth)
  pub hollytrot·hollytrot_barcode_build :
      KeepsBuffer hollytrot.hollytrot_barcode_build.ended (λ M 𝓤. hollytrot.hollytrot_barcode_build.clauses)
      (λ κs r. r.number ≡ 0) (λ κs. sixth) (λ κs given. sixth)
  pub hollytrot·hollytrot_line_to_barcode :
      KeepsBuffer hollytrot.hollytrot_line_to_barcode.ended (λ M 𝓤. hollytrot.hollytrot_line_to_barcode.clauses)
      (λ κs r. r.number ≡ 0) (λ κs. third) (λ κs given. third)
  pub hollytrot·hollytrot_line_from_barcode :
      KeepsBuffer hollytrot.hollytrot_line_from_barcode.ended (λ M 𝓤. hollytrot.hollytrot_line_from_barcode.clauses)
      (λ κs r. r.number ≡ 0) (λ κs. third) (λ κs given. third)
  pub hollytrot·hollytrot_record_join :
      KeepsBuffer hollytrot.hollytrot_record_join.ended (λ M 𝓤. hollytrot.hollytrot_record_join.clauses)
      (λ κs r. r.number ≡ 0) (λ κs. fourth) (λ κs given. fourth)
  pub hollytrot·hollytrot_session_take :
      KeepsState hollytrot.hollytrot_session_take.ended (λ M 𝓤. hollytrot.hollytrot_session_take.clauses)
      (λ κs r. r.answer.number ≡ 0) (λ κs. first) (λ κs given r. r.session)
  pub hollytrot·hollytrot_session_finish :
      KeepsState hollytrot.hollytrot_session_finish.ended (λ M 𝓤. hollytrot.hollytrot_session_finish.clauses)
      (λ κs r. r.answer.number ≡ 0) (λ κs. first) (λ κs given r. r.session)
  pub hollytrot·hollytrot_writer_header :
      KeepsBoth hollytrot.hollytrot_writer_header.ended (λ M 𝓤. hollytrot.hollytrot_writer_header.clauses)
      (λ κs r. r.answer.number ≡ 0) (λ κs. first) (λ κs given r. r.writer) (λ κs. third) (λ κs given. third)
  pub hollytrot·hollytrot_writer_payment :
      KeepsBoth hollytrot.hollytrot_writer_payment.ended (λ M 𝓤. hollytrot.hollytrot_writer_payment.clauses)
      (λ κs r. r.answer.number ≡ 0) (λ κs. first) (λ κs given r. r.writer) (λ κs. sixth) (λ κs given. sixth)
  pub hollytrot·hollytrot_writer_trailer :
      KeepsBoth hollytrot.hollytrot_writer_trailer.ended (λ M 𝓤. hollytrot.hollytrot_writer_trailer.clauses)
      (λ κs r. r.answer.number ≡ 0) (λ κs. first) (λ κs given r. r.writer) (λ κs. second) (λ κs given. second)
  pub hollytrot·hollytrot_page :
      KeepsBuffer hollytrot.hollytrot_page.ended (λ M 𝓤. hollytrot.hollytrot_page.clauses)
      (λ κs r. r.answer.number ≡ 0) (λ κs. fifth) (λ κs given. fifth)
