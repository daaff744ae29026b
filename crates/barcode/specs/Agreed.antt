-- Issuers that agreed on due dates (SPEC.md, "Agreed issuers"): the list of them that a caller lends, and what it asks
-- of a barcode. Assumes nothing.
use Rattle.std.specs.Prelude.{None, Option, ℕ, ◌+◌, ◌*◌, ◌/◌, ◌%◌, ◌^◌, Bool, true, false, cond, not, ◌&&◌, ◌||◌, List, [], ◌∷◌, ◌↔◌, ◌⊎◌, ◌≡◌, leb, ltb, eqb, length, take}
use Rattle.calendar.specs.declared.Date.{Date}
use Rattle.answer.specs.declared.Reason.TheVariants as reason
use Rattle.answer.specs.Answers.{Answer, Accepted, Refused}
use Rattle.answer.specs.Orders.{require, ◌then◌}
use Rattle.answer.specs.Refusals.{answer_number}
use Rattle.decimal.specs.Bytes.{all}
use Rattle.decimal.specs.Places.{width_of}
use Rattle.calendar.specs.Dates.{date_of, is_found}
use Rattle.barcode.specs.declared.Issuer.{Issuer}
use Rattle.barcode.specs.Codes.{is_segment, issuer, free, issuer_of, free_of, barcode_answer}

-- The list: at most 64 keys, one for each issuer.

abbrev pub most_agreed : ℕ
most_agreed = 64

-- an issuer: its segment is known, and its number has at most 4 digits, in segment 6 at most 8
unfoldable pub is_issuer : Issuer → Bool
is_issuer i = is_segment i.segment && ltb i.number (10 ^ width_of (issuer i.segment))

-- its key: segment · 10^8 + number; 0 for what is no issuer
abbrev pub key_unit : ℕ
key_unit = 10 ^ 8

unfoldable pub key_of : Issuer → ℕ
key_of i = cond (is_issuer i) (i.segment * key_unit + i.number) 0

-- whom a key names, and whether that is an issuer
abbrev pub issuer_of_key : ℕ → Issuer
issuer_of_key key = record { segment = key / key_unit; number = key % key_unit }

abbrev pub names_issuer : ℕ → Bool
names_issuer key = is_issuer (issuer_of_key key)

-- a key is one of these
abbrev pub is_among : ℕ → List ℕ → Bool
is_among key [] = false
is_among key (k ∷ ks) = eqb k key || is_among key ks

-- no key comes twice
abbrev pub are_distinct : List ℕ → Bool
are_distinct [] = true
are_distinct (k ∷ ks) = not (is_among k ks) && are_distinct ks

-- 25: more than 64 entries, an entry that names no issuer, an issuer twice
unfoldable pub list_answer : List ℕ → Answer
list_answer agreed =
    require (leb (length agreed) most_agreed) reason.WrongList 0
    then require (all names_issuer agreed) reason.WrongList 0
    then require (are_distinct agreed) reason.WrongList 0

-- What it asks.

-- the issuer agreed on due dates
unfoldable pub is_agreed : List ℕ → Issuer → Bool
is_agreed agreed i = is_among (key_of i) agreed

-- where the layout has a due date, if there is one: the first eight digits of the free field
abbrev pub due_digits : List ℕ → List ℕ
due_digits rest = take 8 rest

-- 11 at the free field's first place, if its issuer agreed on due dates and its first eight digits are no date
unfoldable pub free_answer : List ℕ → Issuer → List ℕ → Answer
free_answer agreed i rest =
    require (not (is_agreed agreed i) || is_found (date_of (due_digits rest))) reason.NoDate (free i.segment).first

-- the due date: that date, and none of an issuer that did not agree on due dates
abbrev pub due_of : List ℕ → Issuer → List ℕ → Option Date
due_of agreed i rest = cond (is_agreed agreed i) (date_of (due_digits rest)) None

abbrev pub due_answer : List ℕ → List ℕ → Answer
due_answer agreed code = free_answer agreed (issuer_of code) (free_of code)

-- barcode, under a list that was judged: 1, 2 over all digits, 3, 4, 5, 7, 11
abbrev pub barcode_under : List ℕ → List ℕ → Answer
barcode_under agreed code = barcode_answer code then due_answer agreed code

-- as a caller asks it: 25 before everything
abbrev pub barcode_check : List ℕ → List ℕ → Answer
barcode_check agreed code = list_answer agreed then barcode_under agreed code

-- Promises.

-- keys name issuers, one each: an issuer's key names it and no other; what is no issuer has key 0, which names none
abbrev pub KeysNameIssuers : Type 0
KeysNameIssuers =
    ((i : Issuer) → is_issuer i ≡ true → (names_issuer (key_of i) ≡ true) × (issuer_of_key (key_of i) ≡ i))
    × ((key : ℕ) → names_issuer key ≡ true → key_of (issuer_of_key key) ≡ key)
    × ((i : Issuer) → is_issuer i ≡ false → key_of i ≡ 0)
    × (names_issuer 0 ≡ false)

-- a list is right, or refused 25 with no place; the empty list is right, nobody is on it, and under it a barcode is
-- answered as by its checks
abbrev pub RightList : List ℕ → Type 0
RightList agreed = list_answer agreed ≡ Accepted

abbrev pub OneListRefusal : Type 0
OneListRefusal = (agreed : List ℕ) → RightList agreed ⊎ (list_answer agreed ≡ Refused reason.WrongList 0)

abbrev pub EmptyListIsRight : Type 0
EmptyListIsRight =
    RightList [] × ((i : Issuer) → is_agreed [] i ≡ false)
    × ((code : List ℕ) → barcode_check [] code ≡ barcode_answer code)

-- the issuer did not agree on due dates, or the free field starts with a date
abbrev pub DueIsRight : List ℕ → Issuer → List ℕ → Type 0
DueIsRight agreed i rest = (is_agreed agreed i ≡ false) ⊎ (is_found (date_of (due_digits rest)) ≡ true)

-- the due date shown is the date that the free field starts with if the issuer agreed on due dates, and none if it did
-- not, whatever the digits
abbrev pub ShowsDue : List ℕ → Issuer → List ℕ → Option Date → Type 0
ShowsDue agreed i rest due =
    (is_agreed agreed i ≡ true → (due ≡ date_of (due_digits rest)) × (is_found due ≡ true))
    × (is_agreed agreed i ≡ false → due ≡ None)

-- under a right list a barcode is accepted exactly when its checks are and its due date is right
abbrev pub DueIsAsked : Type 0
DueIsAsked =
    (agreed code : List ℕ) → RightList agreed
    → (barcode_check agreed code ≡ Accepted)
    ↔ ((barcode_answer code ≡ Accepted) × DueIsRight agreed (issuer_of code) (free_of code))

-- one that is refused 11 passes its checks: the due date is asked last
abbrev pub DueIsAskedLast : Type 0
DueIsAskedLast =
    (agreed code : List ℕ) → answer_number (barcode_check agreed code) ≡ 11 → barcode_answer code ≡ Accepted

-- one that passes its checks is accepted under a right list, or refused 11 at the free field's first place
abbrev pub AcceptedOrNoDueDate : Type 0
AcceptedOrNoDueDate =
    (agreed code : List ℕ) → RightList agreed → barcode_answer code ≡ Accepted
    → (barcode_check agreed code ≡ Accepted)
    ⊎ (barcode_check agreed code ≡ Refused reason.NoDate (free (issuer_of code).segment).first)
