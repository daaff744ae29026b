-- Under modulo 10 one changed digit is always refused. Assumes nothing.
use Prim.Native.Nat.{◌+◌, ◌-◌, ◌*◌, ◌/◌}
use mathlib.Core.Bool.{true}
use mathlib.Core.Path.{◌≡◌}
use native.Mathlib.Omega.{arith}
use lib.ListN.{get_or, set}
use lib.Seq.{get_or-set_same, get_or-set_other}
use Rattle.decimal.specs.declared.Class.TheVariants.{Digit}
use Rattle.decimal.specs.Bytes.{is_of}
use Rattle.decimal.specs.Places.{part_at}
use Rattle.modulus.specs.declared.Modulus.TheVariants.{Ten}
use Rattle.modulus.proofs.Typos.{check_shows_ten}
use Rattle.typos.specs.Typos.{box_at, OneChangedDigitIsRefused}
use Rattle.decimal.proofs.Bytes.{all_at}
use Rattle.typos.proofs.Accepted.{apart}
use Rattle.typos.proofs.Moves.{same_check, moves, in_its_box}
use Rattle.typos.proofs.Pieces.{in_box}

pub one_changed_digit_is_refused : OneChangedDigitIsRefused
one_changed_digit_is_refused line i d p t h ne t' p' =
    let f = apart Ten line t p in
    let g = apart Ten (set line i d) t' p' in
    let n = i / 12 in
    let r = in_its_box Ten line i d f g h ne in
    let same : get_or (set line i d) i 0 ≡ d = get_or-set_same line i d 0 (omega arith) in
    let hb = all_at (is_of Digit) line i f.digits (omega arith) in
    let hd : is_of Digit d ≡ true = rw same at (all_at (is_of Digit) (set line i d) i g.digits (omega arith)) in
    let stays = get_or-set_other line i (12 * n + 11) d 0 (λ e. omega arith) in
    let check = same_check Ten (part_at (box_at n)) line (12 * n + 11) (set line i d) stays (f.boxed n (omega arith)) (g.boxed n (omega arith)) in
    ne (moves Ten (part_at (box_at n)) line i (i - 12 * n) d (in_box n i (omega arith) (omega arith, omega arith)) f.long hb hd
    (check_shows_ten _ _ (omega arith) (omega arith) check))
