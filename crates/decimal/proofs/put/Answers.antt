use mathlib.Core.Path.{refl, sym}
use Rattle.decimal.proofs.Places.{put_none, put_middle, room, no_room}
use Rattle.decimal.proofs.put.Goals as goal

pub returns-then-not-has_room : goal.returns-then-not-has_room
returns-then-not-has_room c = sym (put_none _ _ _ (no_room c.has_room.ensures c.if-not-has_room.true))

pub returns : goal.returns
returns c =
    let a = c.args in
    let fits = room c.has_room.ensures c.if-not-has_room.false in
    put_middle a.at a.piece.now a.out.now refl fits c.copy_from_slice.ensures.after
