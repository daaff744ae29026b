use Prim.Native.Nat.{ℕ}
use mathlib.Core.List.{List}
use mathlib.Core.Path.{ap, ◌∙◌}
use lib.ListN.{get_or}
use Rattle.kinds.specs.Kinds.{is_capture, is_form}
use Rattle.layout.specs.Layouts.{row_at, table, layout_of}
use Rattle.record.proofs.FastPath.{capture_fails, form_is}
use Rattle.record.proofs.fast.is_coded.Goals as goal

pub returns-then-not-is_capture : goal.returns-then-not-is_capture
unfolding row_at table layout_of
returns-then-not-is_capture c =
    let byte = c.byte_at.ensures ∙ ap (λ (l : List ℕ). get_or l 0 0) c.field_bytes.ensures in
    let args = c.args in
    capture_fails args.rec.now args.version (c.is_capture.ensures ∙ ap (is_capture args.version) byte) c.if-not-is_capture.true

pub returns : goal.returns
unfolding row_at table layout_of
returns c =
    let byte = c.byte_at.ensures ∙ ap (λ (l : List ℕ). get_or l 0 0) c.field_bytes.ensures in
    let args = c.args in
    let captured = c.is_capture.ensures ∙ ap (is_capture args.version) byte in
    let other = c.byte_at-2.ensures ∙ ap (λ (l : List ℕ). get_or l 0 0) c.field_bytes-2.ensures in
    let formed = c.is_form.ensures ∙ ap (is_form args.version) other in
    form_is args.rec.now args.version captured c.if-not-is_capture.false formed
