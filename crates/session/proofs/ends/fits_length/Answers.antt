use mathlib.Core.Path.{sym, ◌∙◌}
use native.Mathlib.Omega.{arith}
use Rattle.answer.proofs.Tests.{never}
use Rattle.file.proofs.Forms.{fits_short, fits_bare_length}
use Rattle.session.proofs.Lengths.{fits_closed, fits_bare, fits_lined}
use Rattle.session.proofs.ends.fits_length.Goals as goal

pub returns-then-rec-lt-LENGTH : goal.returns-then-rec-lt-LENGTH
returns-then-rec-lt-LENGTH c = record { value = sym (fits_short _ _ _ c.if-rec-lt-LENGTH.true); long = λ e. never e }

pub returns-then-rec-eq-LENGTH : goal.returns-then-rec-eq-LENGTH
returns-then-rec-eq-LENGTH c = record { value = sym (fits_bare_length _ _ _ c.if-rec-eq-LENGTH.true); long = λ e. omega (arith, c.if-rec-eq-LENGTH.true) }

pub returns-then-not-opened : goal.returns-then-not-opened
returns-then-not-opened c =
    record { value = c.has_line_end.ensures ∙ fits_closed _ _ _ (omega arith) c.if-not-opened.true; long = λ e. omega arith }

pub returns-then-not-lined : goal.returns-then-not-lined
returns-then-not-lined c = record { value = fits_bare _ _ _ (omega arith) c.if-not-opened.false c.if-not-lined.true; long = λ e. never e }

pub returns : goal.returns
returns c = record { value = fits_lined _ _ _ (omega arith) c.if-not-opened.false c.if-not-lined.false; long = λ e. omega arith }
