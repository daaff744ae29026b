use mathlib.Core.Path.{◌≡◌, sym, ◌∙◌}
use native.Mathlib.Omega.{arith}
use borrow.Author.Rules.{rules}
use lib.ListN.{length}
use Rattle.barcode.proofs.RoundTrips.{build_length}
use Rattle.barcode.proofs.builder.build.Goals as goal

pub built_of-requires : goal.built_of-requires
built_of-requires c =
    let a = c.args in
    (build_length _ (length a.out.now) _ _ _ a.free.now (sym c.check_call.ensures ∙ c.in_ok-check_call.was)).1

pub copy_from_slice-requires : goal.copy_from_slice-requires
copy_from_slice-requires c =
    let a = c.args in
    let told = build_length _ (length a.out.now) _ _ _ a.free.now (sym c.check_call.ensures ∙ c.in_ok-check_call.was) in
    let sized : length c.built_of.result ≡ 44 = search rules in
    omega (arith, told.0, sized)
