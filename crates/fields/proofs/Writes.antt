-- Laws of one field that is written: its bytes, its answer, and bytes copied into as many. Assumes nothing.
use Prim.Native.Nat.{ℕ, ◌^◌, ◌≤◌}
use mathlib.Core.Bool.{Bool, true, false, cond}
use mathlib.Core.List.{List}
use mathlib.Core.Path.{◌≡◌, refl, sym, ap, ◌∙◌}
use native.Mathlib.Omega.{arith}
use lib.Dec.{ltb}
use lib.ListN.{length}
use Rattle.answer.specs.declared.Reason.TheVariants.{NoDigit, TooWide}
use Rattle.answer.specs.Answers.{Answer, Accepted}
use Rattle.answer.specs.Refusals.{answer_place}
use Rattle.answer.specs.Orders.{if_accepted}
use Rattle.answer.proofs.Orders.{accepted_takes, require_place, then_place, then_accepted}
use Rattle.decimal.specs.declared.Class.TheVariants.{Digit}
use Rattle.decimal.specs.Bytes.{is_of}
use Rattle.decimal.specs.Numbers.{digits_of, width_answer}
use Rattle.decimal.proofs.Bytes.{each_accepts}
use Rattle.decimal.proofs.Numbers.{digits_fill}
use Rattle.decimal.specs.Places.{put_at}
use Rattle.decimal.proofs.Places.{put_whole}
use Rattle.layout.specs.declared.Kind.{Kind}
use Rattle.layout.specs.declared.Kind.TheVariants as kind
use Rattle.kinds.specs.Terms.{Terms}
use Rattle.kinds.specs.Kinds.{kind_answer}
use Rattle.kinds.proofs.KindLaws.{kind_place}
use Rattle.fields.specs.Making.{written_of, is_money, written_answer}

-- Money is its digits, and everything else is checked by its kind.

money_is : (k : Kind) → is_money k ≡ true → k ≡ kind.Money
money_is (kind.Mark byte) e = cc
money_is kind.Version e = cc
money_is kind.Service e = cc
money_is kind.Blank e = cc
money_is kind.Text e = cc
money_is kind.Digits e = cc
money_is kind.Money e = refl
money_is kind.Date e = cc
money_is kind.Barcode e = cc
money_is kind.Capture e = cc
money_is kind.Form e = cc

pub other_is : (k : Kind) (w : ℕ) (given : List ℕ) (n : ℕ) → is_money k ≡ false → written_of k w given n ≡ written_of k w given 0
other_is (kind.Mark byte) w given n e = refl
other_is kind.Version w given n e = refl
other_is kind.Service w given n e = refl
other_is kind.Blank w given n e = refl
other_is kind.Text w given n e = refl
other_is kind.Digits w given n e = refl
other_is kind.Money w given n e = cc
other_is kind.Date w given n e = refl
other_is kind.Barcode w given n e = refl
other_is kind.Capture w given n e = refl
other_is kind.Form w given n e = refl

digits_accepted : (t : Terms) (w n : ℕ) → kind_answer t kind.Money (digits_of w n) ≡ Accepted
unfolding kind_answer
digits_accepted t w n = (each_accepts (is_of Digit) NoDigit 1 (digits_of w n)).1 (digits_fill w n).1

module _ (t : Terms) (k : Kind) (w : ℕ) (given : List ℕ) (n : ℕ) where
  pub put_money : {r : Answer} → is_money k ≡ true → r ≡ width_answer w n → r ≡ written_answer t k w given n
  unfolding written_answer
  put_money e q = rw (money_is k e, digits_accepted t w n, then_accepted (width_answer w n)) q

  pub put_money_bytes : (r : Answer) (old : List ℕ) {new : List ℕ} → is_money k ≡ true → length old ≡ w → new ≡ if_accepted r (put_at 0 (digits_of w n) old) old → r ≡ Accepted
      → new ≡ written_of k w given n
  put_money_bytes r old e l q a =
      rw (money_is k e) (q ∙ accepted_takes r (put_at 0 (digits_of w n) old) old a ∙ put_whole (digits_of w n) old ((digits_fill w n).0 ∙ sym l))

  pub put_other : {r : Answer} {new : List ℕ} → is_money k ≡ false → new ≡ written_of k w given 0 → r ≡ kind_answer t k new → r ≡ written_answer t k w given n
  unfolding written_answer
  put_other e q a = rw e (a ∙ ap (kind_answer t k) (q ∙ sym (other_is k w given n e)))

-- a refusal of a field in the record is within the record
pub put_place : (t : Terms) (k : Kind) (w : ℕ) (piece : List ℕ) (n : ℕ) → length (written_of k w piece n) ≡ w → w ≤ 150 → answer_place (written_answer t k w piece n) ≤ 151
unfolding written_answer
put_place t k w piece n e h =
    let wide : (m : Bool) → answer_place (cond m (width_answer w n) Accepted) ≤ 151 =
    λ m. elim m as (λ (b : Bool). answer_place (cond b (width_answer w n) Accepted) ≤ 151) [ true ↦ require_place 151 (ltb n (10 ^ w)) TooWide 1 (omega arith) | false ↦ omega arith ] in
    then_place 151 (cond (is_money k) (width_answer w n) Accepted) (kind_answer t k (written_of k w piece n)) (wide (is_money k))
    (kind_place t k (written_of k w piece n) (omega arith))
