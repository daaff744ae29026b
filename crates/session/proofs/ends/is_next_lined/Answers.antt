use mathlib.Core.Path.{sym}
use lib.Seq.{length-take-le}
use Rattle.session.proofs.Lengths.{piece_open, piece_short, piece_ahead}
use Rattle.session.proofs.ends.is_next_lined.Goals as goal

pub returns-then-opened : goal.returns-then-opened
returns-then-opened c = let a = c.args in piece_open a.lined a.bytes.now c.if-opened.true

pub returns-then-bytes-lt-LINED : goal.returns-then-bytes-lt-LINED
returns-then-bytes-lt-LINED c = let a = c.args in piece_short a.lined a.bytes.now c.if-opened.false c.if-bytes-lt-LINED.true

pub slice_bounds-has_line_end-end : goal.slice_bounds-has_line_end-end
slice_bounds-has_line_end-end c = sym (length-take-le 152 c.args.bytes.now c.if-bytes-lt-LINED.false)

pub returns : goal.returns
returns c =
    let a = c.args in
    piece_ahead a.lined a.bytes.now c.if-opened.false c.has_line_end.ensures
