-- Every page fits into the buffer: of every board that the code can hold, in whatever state it is. Assumes nothing.
use Rattle.std.specs.Prelude.{ℕ, ◌≤◌, ◌≡◌, length}
use Rattle.answer.specs.Orders.{Each}
use Rattle.decimal.specs.Numbers.{largest_number}
use Rattle.board.specs.declared.Tally.{Tally}
use Rattle.board.specs.declared.Lane.{Lane}
use Rattle.board.specs.declared.Board.{Board}
use Rattle.board.specs.Lanes.{most_lanes}
use Rattle.page.specs.Pages.{page_of, page_length}

-- a board of the code has 64 lanes, and its numbers have 64 bits

abbrev pub TallyIn64Bits : Tally → Type 0
TallyIn64Bits t =
    (t.payments ≤ largest_number) × (t.centavos ≤ largest_number) × (t.tariff ≤ largest_number)

abbrev pub LaneIn64Bits : Lane → Type 0
LaneIn64Bits l =
    (l.issuer.segment ≤ largest_number) × (l.issuer.number ≤ largest_number) × TallyIn64Bits l.tally

pub record BoardIn64Bits (b : Board) : Type 0 where
  pub full : length b.lanes ≡ most_lanes
  pub lanes : Each LaneIn64Bits b.lanes
  pub total : TallyIn64Bits b.total

-- Promise.
abbrev pub PageFits : Type 0
PageFits =
    (number place records files : ℕ) (b : Board)
    → number ≤ largest_number → place ≤ largest_number → records ≤ largest_number → files ≤ largest_number
    → BoardIn64Bits b → length (page_of number place records files b) ≤ page_length
