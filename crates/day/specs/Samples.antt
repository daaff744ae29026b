-- The worked input (SPEC.md, "Samples"), from its bytes to the bytes printed; without its Z, with line ends, twice,
-- with a tariff, and behind a refusal. Assumes nothing.
use Rattle.std.specs.Prelude.{ℕ, true, List, [], ◌∷◌, ◌++◌, ◌≡◌, take, drop}
use Rattle.kinds.specs.Terms.{version04}
use Rattle.board.specs.Boards.{fresh_board}
use Rattle.page.specs.Pages.{page_of}
use Rattle.page.specs.Samples.{worked_page}
use Rattle.ledger.specs.Samples.{header_of, header, payment, trailer}
use Rattle.ledger.specs.TariffSamples.{charged}
use Rattle.ledger.specs.WholeFiles.{all_in_form}
use Rattle.session.specs.Runs.{bytes_of}
use Rattle.day.specs.Inputs.{day_of_input, page_of_input}

-- A and one G with the barcode of P4 and 109 centavos received: 300 bytes, which end in an open file
abbrev pub open_input : List ℕ
open_input = header ++ payment 109

-- the open input and its Z: 450 bytes
abbrev pub worked_input : List ℕ
worked_input = open_input ++ trailer 3 109

-- Promise: its page is the worked page.
abbrev pub WorkedInput : Type 0
WorkedInput = page_of_input worked_input ≡ worked_page

-- Promise: without its Z the worked input is refused 19 at place 0: two records, no file, and no lane is shown.
abbrev pub OpenInput : Type 0
OpenInput = page_of_input open_input ≡ page_of 19 0 2 0 fresh_board

-- the worked input as a file of this number, with CR and LF behind each record: 456 bytes
abbrev pub lined_input : ℕ → List ℕ
lined_input number = bytes_of (all_in_form true (header_of version04 number ∷ payment 109 ∷ trailer 3 109 ∷ []))

-- Promise: its page is the worked page too; without its last byte it is refused 22 at place 151, after two records; and
-- behind the bare one, with the next number, it is a second file, and its payment a second one of the same lane.
abbrev pub LinedInput : Type 0
LinedInput =
    (page_of_input (lined_input 1) ≡ worked_page)
    × (page_of_input (take 455 (lined_input 1)) ≡ page_of 22 151 2 0 fresh_board)
    × ((day_of_input (worked_input ++ lined_input 2)).files ≡ 2)
    × ((day_of_input (worked_input ++ lined_input 2)).session.shown.used ≡ 1)
    × ((day_of_input (worked_input ++ lined_input 2)).session.shown.total
    ≡ record { payments = 2; centavos = 218; tariff = 0 })

-- two lines of a page, each with its newline: answer=26 and place=74
abbrev pub refused_lines : List ℕ
refused_lines =
    97 ∷ 110 ∷ 115 ∷ 119 ∷ 101 ∷ 114 ∷ 61 ∷ 50 ∷ 54 ∷ 10
    ∷ 112 ∷ 108 ∷ 97 ∷ 99 ∷ 101 ∷ 61 ∷ 55 ∷ 52 ∷ 10
    ∷ []

-- Promise: loaded twice the worked input is refused 26 at place 74, and every other line of the page is the worked
-- page's: its three records, its file and its lane are shown once.
abbrev pub TwiceInput : Type 0
TwiceInput = page_of_input (worked_input ++ worked_input) ≡ refused_lines ++ drop 17 worked_page

-- a line of a page: tariff=135
abbrev pub tariff_line : List ℕ
tariff_line = 116 ∷ 97 ∷ 114 ∷ 105 ∷ 102 ∷ 102 ∷ 61 ∷ 49 ∷ 51 ∷ 53 ∷ 10 ∷ []

-- Promise: with a tariff of 135 centavos in its G, the worked page has this line for its total and for its lane, in the
-- places of tariff=0, and all else as it was.
abbrev pub ChargedInput : Type 0
ChargedInput =
    page_of_input (header ++ (charged 109 135 ++ trailer 3 109))
    ≡ take 66 worked_page ++ (tariff_line ++ (take 45 (drop 75 worked_page) ++ tariff_line))

-- Promise: a lone Z is refused 9 at place 1, and the worked input behind it is not taken.
abbrev pub RefusedInput : Type 0
RefusedInput = page_of_input (trailer 3 109 ++ worked_input) ≡ page_of 9 1 0 0 fresh_board
