-- A refusal changes nothing, from the contracts. Assumes nothing.
use Prim.Native.Nat.{ℕ}
use mathlib.Core.List.{List}
use mathlib.Core.Path.{◌≡◌, refl, ◌∙◌, ap}
use borrow.Fn.World.{World, Pr}
use Rattle.answer.specs.Answers.{Answer, Accepted, ◌gives◌, answer_of, state_behind}
use Rattle.std.specs.Prelude.{Result, Ok, Err}
use Rattle.answer.specs.declared.Refusal.{Refusal}
use Rattle.answer.specs.Orders.{if_accepted}
use Rattle.answer.proofs.Refusals.{zero_is_accepted}
use Rattle.answer.proofs.Orders.{refusal_keeps}
use Rattle.session.specs.Sessions.{take_of}
use Rattle.writer.specs.declared.Writer.{Writer}
use Rattle.page.specs.Pages.{buffer_answer}
use Rattle.hollytrot.specs.declared.CAnswer.{CAnswer}
use Rattle.hollytrot.specs.declared.CWriter.{CWriter}
use Rattle.hollytrot.specs.declared.CWriteResult.{CWriteResult}
use Rattle.hollytrot.specs.Forms.{c_answer_of}
use Rattle.promises.specs.Refusals.{RefusalsChangeNothing, first, second, third, fifth}
use Rattle.promises.proofs.Clauses.{Gives, clauses, bounded_clauses, by_one, by_two, by_bounded}

-- a refusal keeps the old
stays : {S : Type 0} (a : Answer) (new old x : S) → x ≡ if_accepted a new old → (a ≡ Accepted → ⊥) → x ≡ old
stays a new old x p not = p ∙ refusal_keeps a new old not

-- the state behind a refused call
stays_behind : {S : Type 0} (old : S) (r : Result S Refusal) → (answer_of r ≡ Accepted → ⊥) → state_behind old r ≡ old
stays_behind old (Ok new) not = absurd (not refl)
stays_behind old (Err refusal) not = refl

-- a value is given where the answer accepts
gives_accepts : {A : Type 0} (a : Answer) (x : A) → a ≡ Accepted → answer_of (a gives x) ≡ Accepted
gives_accepts a x e = rw e

paired : {A B : Type 0} {a a' : A} {b b' : B} → a ≡ a' → b ≡ b' → ◌≡◌ {A = A × B} (a, b) (a', b')
paired p q i = (p i, q i)

-- the buffer of an operation that returns its answer
buffer :
    (w : World) (x r : Answer) (new old bytes : List ℕ)
    → Gives w (clauses w (r ≡ x) (bytes ≡ if_accepted r new old)) ((r ≡ Accepted → ⊥) → bytes ≡ old)
buffer w x r new old bytes = by_two w _ _ _ (λ p. stays r new old bytes)

-- the writer and its buffer
writer :
    (w : World) (x r : Result Writer Refusal) (old : Writer) (made held bytes : List ℕ) (β : Pr w)
    → Gives w
    (bounded_clauses w (r ≡ x) (bytes ≡ if_accepted (answer_of r) made held) β)
    ((answer_of r ≡ Accepted → ⊥) → ◌≡◌ {A = Writer × List ℕ} (state_behind old r, bytes) (old, held))
writer w x r old made held bytes β =
    by_bounded w _ _ β _ (λ p b not. paired (stays_behind old r not) (stays (answer_of r) made held bytes b not))

-- the buffer of a page
page :
    (w : World) (a : Answer) (n : ℕ) (r : Result ℕ Refusal) (new old bytes : List ℕ) (β : Pr w)
    → Gives w
    (bounded_clauses w (r ≡ (a gives n)) (bytes ≡ if_accepted a new old) β)
    ((answer_of r ≡ Accepted → ⊥) → bytes ≡ old)
page w a n r new old bytes β =
    by_bounded w _ _ β _ (λ p b not.
    stays a new old bytes b (λ e. not (ap answer_of p ∙ gives_accepts a n e)))

-- The exported operations: a number that is not 0 is that of a refusal.

refused : (a : Answer) (s : CAnswer) → s ≡ c_answer_of a → (s.number ≡ 0 → ⊥) → a ≡ Accepted → ⊥
refused a s p not e = not (ap (λ t. t.number) p ∙ (zero_is_accepted a).1 e)

exported_buffer :
    (w : World) (a : Answer) (r : CAnswer) (new old bytes : List ℕ)
    → Gives w (clauses w (r ≡ c_answer_of a) (bytes ≡ if_accepted a new old)) ((r.number ≡ 0 → ⊥) → bytes ≡ old)
exported_buffer w a r new old bytes = by_two w _ _ _ (λ p b not. stays a new old bytes b (refused a r p not))

exported_writer :
    (w : World) (a : Answer) (new old : CWriter) (r : CWriteResult) (made held bytes : List ℕ)
    → Gives w
    (clauses w (r ≡ record { answer = c_answer_of a; writer = if_accepted a new old }) (bytes ≡ if_accepted a made held))
    ((r.answer.number ≡ 0 → ⊥) → ◌≡◌ {A = CWriter × List ℕ} (r.writer, bytes) (old, held))
exported_writer w a new old r made held bytes =
    by_two w _ _ _ (λ p b not.
    let no = refused a r.answer (ap (λ t. t.answer) p) not in
    paired (stays a new old r.writer (ap (λ t. t.writer) p) no) (stays a made held bytes b no))

pub refusals_change_nothing : RefusalsChangeNothing
refusals_change_nothing =
    record {
      decimal·put_number = search buffer;
      barcode·builder·build = search buffer;
      line·to_barcode = search buffer;
      line·from_barcode = search buffer;
      fields·join = search buffer;
      fields·make = search buffer;
      fields·judged·make = search buffer;
      file·File·take = λ w κs given g r left. by_two w _ _ _ (λ p q. stays_behind (first given) r);
      board·Slot·post = λ w κs given g r left. by_two w _ _ _ (λ p q. stays_behind (first given) r);
      board·Board·post = λ w κs given g r left. by_two w _ _ _ (λ p q. stays_behind (first given) r);
      session·Session·take = λ w κs given g r left. by_two w _ _ _ (λ p q. stays_behind (first given) r);
      session·Session·finish = λ w κs given g r left. by_two w _ _ _ (λ p q. stays_behind (first given) r);
      writer·Writer·header = search writer;
      writer·Writer·payment = search writer;
      writer·Writer·trailer = search writer;
      page·print = search page;
      hollytrot·hollytrot_barcode_build = search exported_buffer;
      hollytrot·hollytrot_line_to_barcode = search exported_buffer;
      hollytrot·hollytrot_line_from_barcode = search exported_buffer;
      hollytrot·hollytrot_record_join = search exported_buffer;
      hollytrot·hollytrot_session_take = λ w κs given g r left.
          let a = (take_of (third given).now (first given) (second given).now).answer in
          by_one w _ _ (λ p not.
          stays a _ _ _ (ap (λ t. t.session) p) (refused a r.answer (ap (λ t. t.answer) p) not));
      hollytrot·hollytrot_session_finish = λ w κs given g r left. by_one w _ _ (λ p not. ap (λ t. t.session) p);
      hollytrot·hollytrot_writer_header = search exported_writer;
      hollytrot·hollytrot_writer_payment = search exported_writer;
      hollytrot·hollytrot_writer_trailer = search exported_writer;
      hollytrot·hollytrot_page = λ w κs given g r left.
          let a = buffer_answer (fifth given).now in
          by_two w _ _ _ (λ p b not. stays a _ _ _ b (refused a r.answer (ap (λ t. t.answer) p) not));
    }
