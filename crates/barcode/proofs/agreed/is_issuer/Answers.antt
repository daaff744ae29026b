use Prim.Native.Nat.{ℕ, ◌^◌}
use mathlib.Core.Path.{sym, ap, ◌∙◌}
use lib.Dec.{ltb}
use Rattle.barcode.specs.Agreed.{is_issuer}
use Rattle.barcode.proofs.agreed.is_issuer.Goals as goal

pub returns-then-not-is_segment : goal.returns-then-not-is_segment
unfolding is_issuer
returns-then-not-is_segment c = rw (sym c.is_segment.ensures ∙ c.if-not-is_segment.true)

pub returns : goal.returns
unfolding is_issuer
returns c =
    rw (sym c.is_segment.ensures ∙ c.if-not-is_segment.false)
    (c.fits_width.ensures ∙ ap (λ (w : ℕ). ltb c.args.issuer.number (10 ^ w)) c.issuer_width.ensures)
