-- The worked examples, by computation. Assumes nothing.
use mathlib.Core.Path.{refl}
use Rattle.decimal.specs.Numbers.{digits_of}
use Rattle.board.specs.Boards.{own_of, used_after}
use Rattle.page.specs.Plain.{needed_in}
use Rattle.page.specs.Pages.{number_line, issuer_line, tally_lines, lane_lines, head_lines}
use Rattle.page.specs.Samples.{WorkedPage, EmptyPage, IssuerLines, LargestNumber, LargestTally}

pub worked_page_holds : WorkedPage
unfolding digits_of own_of used_after needed_in number_line issuer_line tally_lines lane_lines head_lines
worked_page_holds = refl

pub empty_page_holds : EmptyPage
unfolding digits_of needed_in number_line tally_lines head_lines
empty_page_holds = refl

pub issuer_lines : IssuerLines
unfolding digits_of needed_in issuer_line
issuer_lines = refl

pub largest_number_holds : LargestNumber
unfolding digits_of needed_in
largest_number_holds = refl

pub largest_tally : LargestTally
unfolding digits_of needed_in number_line tally_lines
largest_tally = refl
