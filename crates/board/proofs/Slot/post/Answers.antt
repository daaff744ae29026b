use mathlib.Core.Path.{sym, ◌∙◌}
use Rattle.board.proofs.Tallies.{low}
use Rattle.board.proofs.Slots.{sums_accept}
use Rattle.board.proofs.Slot.post.Goals as goal

pub plus-requires : goal.plus-requires
plus-requires c =
    let fits = low _ ((sums_accept _ _).0 (sym c.check_sums.ensures ∙ c.in_ok-check_sums.was)).0 in
    (fits.payments, fits.centavos, fits.tariff)

pub plus-requires-2 : goal.plus-requires-2
plus-requires-2 c =
    let fits = low _ ((sums_accept _ _).0 (sym c.check_sums.ensures ∙ c.in_ok-check_sums.was)).1 in
    (fits.payments, fits.centavos, fits.tariff)
