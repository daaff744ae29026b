use mathlib.Core.Path.{ap, ◌∙◌}
use native.Mathlib.Omega.{arith}
use Rattle.file.specs.Forms.{length_of}
use Rattle.file.proofs.Forms.{at_least_bare}
use Rattle.session.proofs.ends.cut_length.Goals as goal

pub returns-then-bytes-length : goal.returns-then-bytes-length
returns-then-bytes-length c =
    let n = c.record_length-length.ensures ∙ ap length_of c.is_next_lined.ensures in
    record { value = omega (arith, n, c.if-bytes-length.true); some = (λ h. h, omega arith) }

pub returns : goal.returns
returns c =
    let form = c.is_next_lined.result in
    let n = c.record_length-length.ensures ∙ ap length_of c.is_next_lined.ensures in
    record { value = omega (arith, n, c.if-bytes-length.false); some = (λ h. omega (arith, c.record_length-length.ensures, at_least_bare form), omega (arith, c.if-bytes-length.false)) }
