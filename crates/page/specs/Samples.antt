-- Worked examples (SPEC.md, "Page"): the page of one payment, the empty page, issuers, a number, a tally. Assumes
-- nothing.
use Rattle.std.specs.Prelude.{ℕ, List, [], ◌∷◌, map, ◌≡◌}
use Rattle.barcode.specs.declared.Issuer.{Issuer}
use Rattle.board.specs.Lanes.{lane_of_one}
use Rattle.board.specs.Boards.{fresh_board, board_with}
use Rattle.page.specs.Plain.{plain}
use Rattle.page.specs.Pages.{issuer_line, tally_lines, page_of}

-- each line with its newline:
--     answer=0
--     place=0
--     record=3
--     files=1
--     lanes=1
--     payments=1
--     centavos=109
--     tariff=0
--     lane=1
--     issuer=1-3659
--     payments=1
--     centavos=109
--     tariff=0
abbrev pub worked_page : List ℕ
worked_page =
    97 ∷ 110 ∷ 115 ∷ 119 ∷ 101 ∷ 114 ∷ 61 ∷ 48 ∷ 10
    ∷ 112 ∷ 108 ∷ 97 ∷ 99 ∷ 101 ∷ 61 ∷ 48 ∷ 10
    ∷ 114 ∷ 101 ∷ 99 ∷ 111 ∷ 114 ∷ 100 ∷ 61 ∷ 51 ∷ 10
    ∷ 102 ∷ 105 ∷ 108 ∷ 101 ∷ 115 ∷ 61 ∷ 49 ∷ 10
    ∷ 108 ∷ 97 ∷ 110 ∷ 101 ∷ 115 ∷ 61 ∷ 49 ∷ 10
    ∷ 112 ∷ 97 ∷ 121 ∷ 109 ∷ 101 ∷ 110 ∷ 116 ∷ 115 ∷ 61 ∷ 49 ∷ 10
    ∷ 99 ∷ 101 ∷ 110 ∷ 116 ∷ 97 ∷ 118 ∷ 111 ∷ 115 ∷ 61 ∷ 49 ∷ 48 ∷ 57 ∷ 10
    ∷ 116 ∷ 97 ∷ 114 ∷ 105 ∷ 102 ∷ 102 ∷ 61 ∷ 48 ∷ 10
    ∷ 108 ∷ 97 ∷ 110 ∷ 101 ∷ 61 ∷ 49 ∷ 10
    ∷ 105 ∷ 115 ∷ 115 ∷ 117 ∷ 101 ∷ 114 ∷ 61 ∷ 49 ∷ 45 ∷ 51 ∷ 54 ∷ 53 ∷ 57 ∷ 10
    ∷ 112 ∷ 97 ∷ 121 ∷ 109 ∷ 101 ∷ 110 ∷ 116 ∷ 115 ∷ 61 ∷ 49 ∷ 10
    ∷ 99 ∷ 101 ∷ 110 ∷ 116 ∷ 97 ∷ 118 ∷ 111 ∷ 115 ∷ 61 ∷ 49 ∷ 48 ∷ 57 ∷ 10
    ∷ 116 ∷ 97 ∷ 114 ∷ 105 ∷ 102 ∷ 102 ∷ 61 ∷ 48 ∷ 10
    ∷ []

-- three records and one file, with one payment of 109 centavos and no tariff to issuer 3659 of segment 1
abbrev pub WorkedPage : Type 0
WorkedPage =
    page_of 0 0 3 1 (board_with fresh_board (lane_of_one (record { segment = 1; number = 3659 }) 109 0)) ≡ worked_page

--     answer=0
--     place=0
--     record=0
--     files=0
--     lanes=0
--     payments=0
--     centavos=0
--     tariff=0
abbrev pub empty_page : List ℕ
empty_page =
    97 ∷ 110 ∷ 115 ∷ 119 ∷ 101 ∷ 114 ∷ 61 ∷ 48 ∷ 10
    ∷ 112 ∷ 108 ∷ 97 ∷ 99 ∷ 101 ∷ 61 ∷ 48 ∷ 10
    ∷ 114 ∷ 101 ∷ 99 ∷ 111 ∷ 114 ∷ 100 ∷ 61 ∷ 48 ∷ 10
    ∷ 102 ∷ 105 ∷ 108 ∷ 101 ∷ 115 ∷ 61 ∷ 48 ∷ 10
    ∷ 108 ∷ 97 ∷ 110 ∷ 101 ∷ 115 ∷ 61 ∷ 48 ∷ 10
    ∷ 112 ∷ 97 ∷ 121 ∷ 109 ∷ 101 ∷ 110 ∷ 116 ∷ 115 ∷ 61 ∷ 48 ∷ 10
    ∷ 99 ∷ 101 ∷ 110 ∷ 116 ∷ 97 ∷ 118 ∷ 111 ∷ 115 ∷ 61 ∷ 48 ∷ 10
    ∷ 116 ∷ 97 ∷ 114 ∷ 105 ∷ 102 ∷ 102 ∷ 61 ∷ 48 ∷ 10
    ∷ []

-- an input with no records
abbrev pub EmptyPage : Type 0
EmptyPage = page_of 0 0 0 0 fresh_board ≡ empty_page

abbrev pub shown_issuers : List Issuer
shown_issuers =
    record { segment = 7; number = 9 }
    ∷ record { segment = 6; number = 12345 }
    ∷ record { segment = 1; number = 123456 }
    ∷ []

-- four digits with their zeros, in segment 6 eight; a number that no barcode can have, in full:
--     issuer=7-0009
--     issuer=6-00012345
--     issuer=1-123456
abbrev pub IssuerLines : Type 0
IssuerLines =
    map issuer_line shown_issuers
    ≡ (105 ∷ 115 ∷ 115 ∷ 117 ∷ 101 ∷ 114 ∷ 61 ∷ 55 ∷ 45 ∷ 48 ∷ 48 ∷ 48 ∷ 57 ∷ 10 ∷ [])
    ∷ (105 ∷ 115 ∷ 115 ∷ 117 ∷ 101 ∷ 114 ∷ 61 ∷ 54 ∷ 45 ∷ 48 ∷ 48 ∷ 48 ∷ 49 ∷ 50 ∷ 51 ∷ 52 ∷ 53 ∷ 10 ∷ [])
    ∷ (105 ∷ 115 ∷ 115 ∷ 117 ∷ 101 ∷ 114 ∷ 61 ∷ 49 ∷ 45 ∷ 49 ∷ 50 ∷ 51 ∷ 52 ∷ 53 ∷ 54 ∷ 10 ∷ [])
    ∷ []

-- 18446744073709551615, the largest number of 64 bits
abbrev pub LargestNumber : Type 0
LargestNumber =
    plain 18446744073709551615
    ≡ 49 ∷ 56 ∷ 52 ∷ 52 ∷ 54 ∷ 55 ∷ 52 ∷ 52 ∷ 48 ∷ 55 ∷ 51 ∷ 55 ∷ 48 ∷ 57 ∷ 53 ∷ 53 ∷ 49 ∷ 54 ∷ 49 ∷ 53 ∷ []

-- three of the largest numbers, each in its own line:
--     payments=18446744073709551615
--     centavos=18446744073709551614
--     tariff=18446744073709551613
abbrev pub LargestTally : Type 0
LargestTally =
    tally_lines
    (record { payments = 18446744073709551615; centavos = 18446744073709551614; tariff = 18446744073709551613 })
    ≡ 112 ∷ 97 ∷ 121 ∷ 109 ∷ 101 ∷ 110 ∷ 116 ∷ 115 ∷ 61
    ∷ 49 ∷ 56 ∷ 52 ∷ 52 ∷ 54 ∷ 55 ∷ 52 ∷ 52 ∷ 48 ∷ 55 ∷ 51 ∷ 55 ∷ 48 ∷ 57 ∷ 53 ∷ 53 ∷ 49 ∷ 54 ∷ 49 ∷ 53 ∷ 10
    ∷ 99 ∷ 101 ∷ 110 ∷ 116 ∷ 97 ∷ 118 ∷ 111 ∷ 115 ∷ 61
    ∷ 49 ∷ 56 ∷ 52 ∷ 52 ∷ 54 ∷ 55 ∷ 52 ∷ 52 ∷ 48 ∷ 55 ∷ 51 ∷ 55 ∷ 48 ∷ 57 ∷ 53 ∷ 53 ∷ 49 ∷ 54 ∷ 49 ∷ 52 ∷ 10
    ∷ 116 ∷ 97 ∷ 114 ∷ 105 ∷ 102 ∷ 102 ∷ 61
    ∷ 49 ∷ 56 ∷ 52 ∷ 52 ∷ 54 ∷ 55 ∷ 52 ∷ 52 ∷ 48 ∷ 55 ∷ 51 ∷ 55 ∷ 48 ∷ 57 ∷ 53 ∷ 53 ∷ 49 ∷ 54 ∷ 49 ∷ 51 ∷ 10
    ∷ []
