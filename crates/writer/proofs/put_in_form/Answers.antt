use Prim.Native.Nat.{◌≤◌}
use mathlib.Core.List.{◌++◌}
use mathlib.Core.Path.{◌≡◌, ap}
use native.Mathlib.Omega.{arith}
use borrow.Author.Rules.{rules}
use lib.ListN.{length, drop, length-append, length-drop}
use Rattle.writer.specs.Writers.{is_lined_buffer}
use Rattle.file.proofs.Forms.{at_least_bare}
use Rattle.writer.proofs.Buffers.{bare_size, put_lined, put_bare}
use Rattle.writer.proofs.put_in_form.Goals as goal

pub copy_from_slice-requires : goal.copy_from_slice-requires
copy_from_slice-requires c =
    let sized : length c.args.made.now ≡ 150 = search rules in
    omega (arith, sized, c.requires, at_least_bare (is_lined_buffer (length c.args.out.now)))

pub returns-then-out-eq-LINED : goal.returns-then-out-eq-LINED
returns-then-out-eq-LINED c =
    let made = c.args.made.now in
    let sized : length made ≡ 150 = search rules in
    let out = c.args.out.now in
    let front : c.copy_from_slice.new.self ++ drop 150 out ≡ made ++ drop (length made) out = rw (c.copy_from_slice.ensures.after, sized) in
    let long : 150 ≤ length out = omega (arith, c.requires, at_least_bare (is_lined_buffer (length out))) in
    put_lined made out sized front
    (omega (arith, long, c.if-out-eq-LINED.true, ap length front, length-append made (drop (length made) out), length-drop (length made) out, sized))

pub returns-else-out-eq-LINED : goal.returns-else-out-eq-LINED
returns-else-out-eq-LINED c =
    let made = c.args.made.now in
    let sized : length made ≡ 150 = search rules in
    let out = c.args.out.now in
    let front : c.copy_from_slice.new.self ++ drop 150 out ≡ made ++ drop (length made) out = rw (c.copy_from_slice.ensures.after, sized) in
    put_bare made out sized front
    (bare_size (length out) c.requires
    (λ e. c.if-out-eq-LINED.false (omega (arith, e, ap length front, length-append made (drop (length made) out), length-drop (length made) out, sized))))
