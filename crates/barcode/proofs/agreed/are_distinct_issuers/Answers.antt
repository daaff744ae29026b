use Prim.Native.Nat.{◌+◌, ◌-◌}
use mathlib.Core.Path.{sym, ◌∙◌}
use native.Mathlib.Omega.{arith}
use Rattle.barcode.proofs.Lists.{comes_twice, one_more, next_rest, whole_rest}
use Rattle.barcode.proofs.agreed.are_distinct_issuers.Goals as goal

pub returns-then-is_among_from : goal.returns-then-is_among_from
returns-then-is_among_from c =
    let i = c.loop-i.i in
    let keys = c.args.keys.now in
    comes_twice keys (i - 1) (omega arith) (rw (whole_rest keys (i - 1 + 1)) at (sym c.is_among_from.ensures ∙ c.if-is_among_from.true))

pub loop-i-preserved : goal.loop-i-preserved
loop-i-preserved c =
    let l = c.loop-i in
    let keys = c.args.keys.now in
    let rest = next_rest keys l.i (omega arith) in
    let apart = rw (whole_rest keys (l.i - 1 + 1)) at (sym c.is_among_from.ensures ∙ c.if-is_among_from.false) in
    let more = one_more keys (l.i - 1) (omega arith) l.lowest
    (sym c.names_issuer.ensures ∙ c.if-not-names_issuer.false) apart (rw rest l.invariant.0) (rw rest l.invariant.1) in
    rw c.min-lowest.ensures more
