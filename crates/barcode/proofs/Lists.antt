-- Laws of keys, of lists of them, and of the due date that a list asks for. Assumes nothing.
use Rattle.std.specs.Prelude.{Err}
use Prim.Native.Nat.{ℕ, zero, suc, ◌+◌, ◌-◌, ◌*◌, ◌/◌, ◌%◌, ◌^◌, ◌≤◌, ◌<◌, min}
use mathlib.Core.Bool.{Bool, true, false, cond, not, ◌&&◌, ◌||◌, and-eq-true_iff, and-false}
use mathlib.Core.List.{List, [], ◌∷◌}
use mathlib.Core.Logic.{◌↔◌, ◌⊎◌, inl, inr, ⊎_elim}
use mathlib.Core.Path.{◌≡◌, refl, sym, ap, ◌∙◌}
use native.Mathlib.Numerals.{add-one}
use native.Mathlib.Omega.{arith}
use borrow.Author.Tests.{ltb-true, ne_eqb, leb-true, le-leb}
use lib.Dec.{leb, ltb, eqb}
use lib.ListN.{length, take, drop, get_or, length-drop}
use lib.Seq.{drop-cons, take_all}
use Rattle.answer.specs.declared.Reason.TheVariants as reason
use Rattle.answer.specs.Answers.{Answer, Accepted, Refused}
use Rattle.answer.specs.Orders.{require, ◌then◌}
use Rattle.answer.specs.Refusals.{answer_number, answer_place}
use Rattle.answer.proofs.Orders.{not_both, then_accepts, then_accepted, require_place, then_place, require_number, then_number}
use Rattle.answer.proofs.Tests.{never, unequal}
use Rattle.decimal.specs.Bytes.{all}
use Rattle.decimal.specs.Places.{width_of}
use Rattle.calendar.specs.Dates.{date_of, is_found}
use Rattle.barcode.specs.declared.Issuer.{Issuer}
use Rattle.barcode.specs.Codes.{code_length, is_segment, issuer, free, issuer_of, free_of, full_length_answer, barcode_answer}
use Rattle.barcode.specs.Agreed.{most_agreed, is_issuer, key_unit, key_of, issuer_of_key, names_issuer, is_among, are_distinct, list_answer, is_agreed, due_digits, free_answer, due_of, due_answer, barcode_under, KeysNameIssuers, RightList, OneListRefusal, EmptyListIsRight, DueIsRight, ShowsDue, DueIsAsked, DueIsAskedLast, AcceptedOrNoDueDate}
use Rattle.barcode.proofs.Codes.{code_place, full_length_number, issuer_end_range, segment_small}

-- Issuers and keys.

pub issuer_ranges : (i : Issuer) → is_issuer i ≡ true → (is_segment i.segment ≡ true) × (i.number < 10 ^ width_of (issuer i.segment))
unfolding is_issuer
issuer_ranges i h =
    let both = (and-eq-true_iff (is_segment i.segment) (ltb i.number (10 ^ width_of (issuer i.segment)))).0 h in
    (both.0, ltb-true _ _ both.1)

width_fits : (s : ℕ) → 10 ^ width_of (issuer s) ≤ key_unit
width_fits s = go (eqb s 6)
  where
    go : (t : Bool) → 10 ^ (cond t 23 19 - 15) ≤ key_unit
    go true = omega arith
    go false = omega arith

-- segment and number of an issuer are small
pub issuer_small : (i : Issuer) → is_issuer i ≡ true → (i.segment ≤ 9) × (i.number < key_unit)
issuer_small i h =
    let told = issuer_ranges i h in
    (segment_small i.segment told.0, omega (arith, told.1, width_fits i.segment))

pub key_is : (i : Issuer) → is_issuer i ≡ true → key_of i ≡ i.segment * key_unit + i.number
unfolding key_of
key_is i h = rw h

pub key_none : (i : Issuer) → is_issuer i ≡ false → key_of i ≡ 0
unfolding key_of
key_none i h = rw h

named_back : (i : Issuer) → is_issuer i ≡ true → issuer_of_key (key_of i) ≡ i
named_back i h =
    let small = issuer_small i h in
    let s : (i.segment * key_unit + i.number) / key_unit ≡ i.segment = omega arith in
    let n : (i.segment * key_unit + i.number) % key_unit ≡ i.number = omega arith in
    rw (key_is i h, s, n)

zero_names_none : names_issuer 0 ≡ false
unfolding is_issuer
zero_names_none = refl

pub keys_name_issuers : KeysNameIssuers
keys_name_issuers = (
  λ i h. (rw (named_back i h) h, named_back i h),
  λ key h. key_is (issuer_of_key key) h ∙ omega arith,
  key_none,
  zero_names_none,
)

-- a key lower than all is not among them
pub lower_not_among : (key lowest : ℕ) (keys : List ℕ) → key < lowest → all (leb lowest) keys ≡ true → is_among key keys ≡ false
lower_not_among key lowest [] h a = refl
lower_not_among key lowest (k ∷ ks) h a =
    let both = (and-eq-true_iff (leb lowest k) (all (leb lowest) ks)).0 a in
    rw (ne_eqb k key (λ (e : k ≡ key). omega (arith, leb-true lowest k both.0))) (lower_not_among key lowest ks h both.1)

all_from_lower : (a b : ℕ) (keys : List ℕ) → a ≤ b → all (leb b) keys ≡ true → all (leb a) keys ≡ true
all_from_lower a b [] h e = refl
all_from_lower a b (k ∷ ks) h e =
    let both = (and-eq-true_iff (leb b k) (all (leb b) ks)).0 e in
    (and-eq-true_iff (leb a k) (all (leb a) ks)).1 (le-leb a k (omega (arith, leb-true b k both.0)), all_from_lower a b ks h both.1)

-- Keys that name issuers, none twice: a loop from the last key to the first.
abbrev pub each_once : List ℕ → Bool
each_once keys = all names_issuer keys && are_distinct keys

once_cons : (k : ℕ) (ks : List ℕ) → each_once (k ∷ ks) ≡ (names_issuer k && (not (is_among k ks) && each_once ks))
once_cons k ks = go (names_issuer k) (all names_issuer ks) (not (is_among k ks)) (are_distinct ks)
  where
    go : (a b c d : Bool) → ((a && b) && (c && d)) ≡ (a && (c && (b && d)))
    go true true c d = refl
    go true false true d = refl
    go true false false d = refl
    go false b c d = refl

-- one key that is wrong makes the whole list wrong
once_drop : (keys : List ℕ) (i : ℕ) → each_once (drop i keys) ≡ false → each_once keys ≡ false
once_drop keys zero h = h
once_drop [] (suc i) h = h
once_drop (k ∷ ks) (suc i) h =
    once_cons k ks ∙ ap (λ (t : Bool). names_issuer k && (not (is_among k ks) && t)) (once_drop ks i h) ∙ rw (and-false, and-false)

module _ (keys : List ℕ) (i : ℕ) (h : i < length keys) where
  once_at : each_once (drop i keys) ≡ (names_issuer (get_or keys i 0) && (not (is_among (get_or keys i 0) (drop (i + 1) keys)) && each_once (drop (i + 1) keys)))
  once_at = ap each_once (drop-cons keys i 0 h) ∙ rw add-one (once_cons (get_or keys i 0) (drop (suc i) keys))

  pub comes_twice : is_among (get_or keys i 0) (drop (i + 1) keys) ≡ true → false ≡ each_once keys
  comes_twice e = sym (once_drop keys i (once_at ∙ rw (e, and-false)))

  pub one_more : (lowest : ℕ) → names_issuer (get_or keys i 0) ≡ true → is_among (get_or keys i 0) (drop (i + 1) keys) ≡ false
      → each_once (drop (i + 1) keys) ≡ true → all (leb lowest) (drop (i + 1) keys) ≡ true
      → (each_once (drop i keys) ≡ true) × (all (leb (min (get_or keys i 0) lowest)) (drop i keys) ≡ true)
  one_more lowest names apart once from =
      let key = get_or keys i 0 in
      let rest = drop (i + 1) keys in
      let low : all (leb (min key lowest)) (key ∷ rest) ≡ true = (and-eq-true_iff (leb (min key lowest) key) (all (leb (min key lowest)) rest)).1
      (le-leb (min key lowest) key (omega arith), all_from_lower (min key lowest) lowest rest (omega arith) from) in
      let cons : drop i keys ≡ key ∷ rest = rw add-one (drop-cons keys i 0 h) in
      (once_at ∙ rw (names, apart, once), rw cons low)

-- the rest behind the key before an index
pub next_rest : (keys : List ℕ) (i : ℕ) → 0 < i → drop (i - 1 + 1) keys ≡ drop i keys
next_rest keys i h = let e : i - 1 + 1 ≡ i = omega arith in rw e

-- the rest as a slice to the end is read
pub whole_rest : (keys : List ℕ) (i : ℕ) → take (length keys - i) (drop i keys) ≡ drop i keys
whole_rest keys i = take_all (length keys - i) (drop i keys) (omega (arith, length-drop i keys))

-- three tests with one refusal
list_as : (t u v : Bool) → require t reason.WrongList 0 then require u reason.WrongList 0 then require v reason.WrongList 0 ≡ require (t && (u && v)) reason.WrongList 0
list_as true true v = refl
list_as true false v = refl
list_as false u v = refl

pub list_is : (agreed : List ℕ) → list_answer agreed ≡ require (leb (length agreed) most_agreed && each_once agreed) reason.WrongList 0
unfolding list_answer
list_is agreed = list_as (leb (length agreed) most_agreed) (all names_issuer agreed) (are_distinct agreed)

pub one_list_refusal : OneListRefusal
one_list_refusal agreed = go (leb (length agreed) most_agreed && each_once agreed) (list_is agreed)
  where
    go : (t : Bool) → list_answer agreed ≡ require t reason.WrongList 0 → RightList agreed ⊎ (list_answer agreed ≡ Refused reason.WrongList 0)
    go true e = inl e
    go false e = inr e

pub empty_is_right : RightList []
unfolding list_answer
empty_is_right = refl

pub none_agreed : (i : Issuer) → is_agreed [] i ≡ false
unfolding is_agreed
none_agreed i = refl

-- The due date.

pub free_accepts : (agreed : List ℕ) (i : Issuer) (rest : List ℕ) → (free_answer agreed i rest ≡ Accepted) ↔ DueIsRight agreed i rest
unfolding free_answer
free_accepts agreed i rest = go (is_agreed agreed i) (is_found (date_of (due_digits rest)))
  where
    go : (a f : Bool) → (require (not a || f) reason.NoDate (free i.segment).first ≡ Accepted) ↔ ((a ≡ false) ⊎ (f ≡ true))
    go true true = (λ e. inr refl, λ h. refl)
    go true false = (λ e. not_both _ refl e, λ h. ⊎_elim (λ e. never (sym e)) (λ e. never e) h)
    go false f = (λ e. inl refl, λ h. refl)

module _ (agreed : List ℕ) (i : Issuer) (rest : List ℕ) where
  pub not_dated : is_agreed agreed i ≡ true → is_found (date_of (due_digits rest)) ≡ false → Refused reason.NoDate (free i.segment).first ≡ free_answer agreed i rest
  unfolding free_answer
  not_dated a e = rw (a, e)

pub due_found : (agreed : List ℕ) (i : Issuer) (rest : List ℕ) → is_agreed agreed i ≡ true → free_answer agreed i rest ≡ Accepted → is_found (date_of (due_digits rest)) ≡ true
due_found agreed i rest a e = ⊎_elim (λ n. unequal a n) (λ f. f) ((free_accepts agreed i rest).0 e)

-- where it is accepted, the due date shown is right
pub shows_due : (agreed : List ℕ) (i : Issuer) (rest : List ℕ) → free_answer agreed i rest ≡ Accepted → ShowsDue agreed i rest (due_of agreed i rest)
shows_due agreed i rest e = (λ a. (rw a, rw a (due_found agreed i rest a e)), λ a. rw a)

-- accepted, or 11 at the free field's first place
pub free_answers : (agreed : List ℕ) (i : Issuer) (rest : List ℕ) → (free_answer agreed i rest ≡ Accepted) ⊎ (free_answer agreed i rest ≡ Refused reason.NoDate (free i.segment).first)
unfolding free_answer
free_answers agreed i rest = go (not (is_agreed agreed i) || is_found (date_of (due_digits rest)))
  where
    go : (t : Bool) → (require t reason.NoDate (free i.segment).first ≡ Accepted) ⊎ (require t reason.NoDate (free i.segment).first ≡ Refused reason.NoDate (free i.segment).first)
    go true = inl refl
    go false = inr refl

pub under_tells : (agreed code : List ℕ) → barcode_under agreed code ≡ Accepted → (barcode_answer code ≡ Accepted) × (due_answer agreed code ≡ Accepted)
under_tells agreed code e = (then_accepts (barcode_answer code) (due_answer agreed code)).0 e

pub under_place : (agreed code : List ℕ) → answer_place (barcode_under agreed code) ≤ 45
unfolding free_answer
under_place agreed code =
    let i = issuer_of code in
    then_place 45 (barcode_answer code) (due_answer agreed code) (code_place code)
    (require_place 45 (not (is_agreed agreed i) || is_found (date_of (due_digits (free_of code)))) reason.NoDate (free i.segment).first (omega (arith, (issuer_end_range i.segment).1)))

pub due_of_none : (code : List ℕ) → due_answer [] code ≡ Accepted
due_of_none code = (free_accepts [] (issuer_of code) (free_of code)).1 (inl (none_agreed (issuer_of code)))

pub empty_list_is_right : EmptyListIsRight
empty_list_is_right = (empty_is_right, none_agreed, λ code. rw (empty_is_right, due_of_none code) (then_accepted (barcode_answer code)))

pub due_is_asked : DueIsAsked
due_is_asked agreed code right =
    let due = free_accepts agreed (issuer_of code) (free_of code) in
    let both = then_accepts (barcode_answer code) (due_answer agreed code) in (
      λ e. let told = both.0 ((then_accepts (list_answer agreed) (barcode_under agreed code)).0 e).1 in (told.0, due.0 told.1),
      λ h. rw (right, h.0, due.1 h.1),
    )

-- no refusal of the checks has a number past 7
code_number : (code : List ℕ) → answer_number (barcode_answer code) ≤ 7
code_number code =
    then_number 7 (require (eqb (length code) code_length) reason.WrongLength 0) (full_length_answer code)
    (require_number 7 (eqb (length code) code_length) reason.WrongLength 0 (omega arith)) (full_length_number code)

-- a refusal 11 behind the list is not the list's, nor that of what has lower numbers
pub behind_checks : (agreed : List ℕ) (a b : Answer) → answer_number a ≤ 7 → answer_number (list_answer agreed then a then b) ≡ 11 → a ≡ Accepted
behind_checks agreed a b low e =
    ⊎_elim (λ (right : list_answer agreed ≡ Accepted). go a low (rw right at e))
    (λ (wrong : list_answer agreed ≡ Refused reason.WrongList 0). let twice : ◌≡◌ {A = ℕ} 25 11 = rw wrong at e in absurd (omega arith))
    (one_list_refusal agreed)
  where
    go : (a : Answer) → answer_number a ≤ 7 → answer_number (a then b) ≡ 11 → a ≡ Accepted
    go Accepted low e = refl
    go (Err refusal) low e = absurd (omega (arith, low, e))

pub due_is_asked_last : DueIsAskedLast
due_is_asked_last agreed code e = behind_checks agreed (barcode_answer code) (due_answer agreed code) (code_number code) e

pub accepted_or_no_due_date : AcceptedOrNoDueDate
accepted_or_no_due_date agreed code right e =
    ⊎_elim (λ (a : due_answer agreed code ≡ Accepted). inl (rw (right, e, a)))
    (λ (r : due_answer agreed code ≡ Refused reason.NoDate (free (issuer_of code).segment).first). inr (rw (right, e, r)))
    (free_answers agreed (issuer_of code) (free_of code))
