-- The page (SPEC.md, "Page"): an answer, two counts and the board shown, as lines `key=value`. Assumes nothing.
use Rattle.std.specs.Prelude.{ℕ, suc, ◌+◌, ◌*◌, List, [], ◌∷◌, ◌++◌, ◌≡◌, eqb, length, take, drop}
use Rattle.answer.specs.declared.Reason.TheVariants.{WrongLength}
use Rattle.answer.specs.Answers.{Answer, Accepted, Refused}
use Rattle.answer.specs.Orders.{require, if_accepted}
use Rattle.decimal.specs.Places.{width_of}
use Rattle.barcode.specs.declared.Issuer.{Issuer}
use Rattle.barcode.specs.Codes.{issuer}
use Rattle.board.specs.declared.Tally.{Tally}
use Rattle.board.specs.declared.Lane.{Lane}
use Rattle.board.specs.declared.Board.{Board}
use Rattle.board.specs.Lanes.{most_lanes}
use Rattle.board.specs.Boards.{lanes_of}
use Rattle.page.specs.Plain.{shown, plain}

-- The words.

-- answer=
abbrev pub answer_word : List ℕ
answer_word = 97 ∷ 110 ∷ 115 ∷ 119 ∷ 101 ∷ 114 ∷ 61 ∷ []

-- place=
abbrev pub place_word : List ℕ
place_word = 112 ∷ 108 ∷ 97 ∷ 99 ∷ 101 ∷ 61 ∷ []

-- record=
abbrev pub record_word : List ℕ
record_word = 114 ∷ 101 ∷ 99 ∷ 111 ∷ 114 ∷ 100 ∷ 61 ∷ []

-- files=
abbrev pub files_word : List ℕ
files_word = 102 ∷ 105 ∷ 108 ∷ 101 ∷ 115 ∷ 61 ∷ []

-- lanes=
abbrev pub lanes_word : List ℕ
lanes_word = 108 ∷ 97 ∷ 110 ∷ 101 ∷ 115 ∷ 61 ∷ []

-- payments=
abbrev pub payments_word : List ℕ
payments_word = 112 ∷ 97 ∷ 121 ∷ 109 ∷ 101 ∷ 110 ∷ 116 ∷ 115 ∷ 61 ∷ []

-- centavos=
abbrev pub centavos_word : List ℕ
centavos_word = 99 ∷ 101 ∷ 110 ∷ 116 ∷ 97 ∷ 118 ∷ 111 ∷ 115 ∷ 61 ∷ []

-- tariff=
abbrev pub tariff_word : List ℕ
tariff_word = 116 ∷ 97 ∷ 114 ∷ 105 ∷ 102 ∷ 102 ∷ 61 ∷ []

-- lane=
abbrev pub lane_word : List ℕ
lane_word = 108 ∷ 97 ∷ 110 ∷ 101 ∷ 61 ∷ []

-- issuer=
abbrev pub issuer_word : List ℕ
issuer_word = 105 ∷ 115 ∷ 115 ∷ 117 ∷ 101 ∷ 114 ∷ 61 ∷ []

abbrev pub hyphen : List ℕ
hyphen = 45 ∷ []

abbrev pub newline : List ℕ
newline = 10 ∷ []

-- The lines.

-- a word and its number
unfoldable pub number_line : List ℕ → ℕ → List ℕ
number_line word n = word ++ (plain n ++ newline)

-- the segment, a hyphen and the number with its zeros to 4 digits, in segment 6 to 8, as in a barcode
unfoldable pub issuer_line : Issuer → List ℕ
issuer_line i =
    issuer_word ++ (plain i.segment ++ (hyphen ++ (shown (width_of (issuer i.segment)) i.number ++ newline)))

unfoldable pub tally_lines : Tally → List ℕ
tally_lines t =
    number_line payments_word t.payments
    ++ (number_line centavos_word t.centavos ++ number_line tariff_word t.tariff)

unfoldable pub lane_lines : ℕ → Lane → List ℕ
lane_lines k l = number_line lane_word k ++ (issuer_line l.issuer ++ tally_lines l.tally)

-- lanes one after the other, numbered from k
abbrev pub lanes_lines : ℕ → List Lane → List ℕ
lanes_lines k [] = []
lanes_lines k (l ∷ ls) = lane_lines k l ++ lanes_lines (suc k) ls

abbrev pub sums_lines : Board → List ℕ
sums_lines b = number_line lanes_word (length (lanes_of b)) ++ tally_lines b.total

-- an answer's number and place, the records and files accepted, then the sums
unfoldable pub head_lines : ℕ → ℕ → ℕ → ℕ → Board → List ℕ
head_lines number place records files b =
    number_line answer_word number
    ++ (number_line place_word place
    ++ (number_line record_word records
    ++ (number_line files_word files
    ++ sums_lines b)))

-- the page of any number and place: the head, then each lane in use
abbrev pub page_of : ℕ → ℕ → ℕ → ℕ → Board → List ℕ
page_of number place records files b = head_lines number place records files b ++ lanes_lines 1 (lanes_of b)

-- The room of a page: every number has 20 digits, and every lane is in use.

-- eight lines: 57 bytes of words, then 20 digits and a newline each
abbrev pub most_head : ℕ
most_head = 225

-- five lines: 38 bytes of words and the hyphen, 6 numbers of 20 digits, 5 newlines
abbrev pub most_lane : ℕ
most_lane = 163

abbrev pub page_length : ℕ
page_length = most_head + most_lanes * most_lane

-- Printing: a buffer that is not exactly as long as this room is refused and stays as it was. Else it holds the page,
-- and behind it the bytes that it had.

abbrev pub buffer_answer : List ℕ → Answer
buffer_answer old = require (eqb (length old) page_length) WrongLength 0

-- the answer to a printing and the length of the page; 0 where it is refused
pub record PrintResult : Type 0 where
  pub answer : Answer
  pub length : ℕ

abbrev pub print_result_of : List ℕ → List ℕ → PrintResult
print_result_of page old =
    record { answer = buffer_answer old; length = if_accepted (buffer_answer old) (length page) 0 }

abbrev pub bytes_with : List ℕ → List ℕ → List ℕ
bytes_with page old = if_accepted (buffer_answer old) (page ++ drop (length page) old) old

-- Promises.

-- a buffer of another length is refused, with length 0, and stays as it was
abbrev pub WrongBufferKeeps : Type 0
WrongBufferKeeps =
    (page old : List ℕ) → (length old ≡ page_length → ⊥)
    → (print_result_of page old ≡ record { answer = Refused WrongLength 0; length = 0 }) × (bytes_with page old ≡ old)

-- a buffer of the right length starts with the page, whose length is returned; the bytes behind it stay as they were
abbrev pub PrintedHolds : Type 0
PrintedHolds =
    (page old : List ℕ) → length old ≡ page_length
    → ((print_result_of page old).answer ≡ Accepted)
    × (take (print_result_of page old).length (bytes_with page old) ≡ page)
    × (drop (print_result_of page old).length (bytes_with page old) ≡ drop (length page) old)
