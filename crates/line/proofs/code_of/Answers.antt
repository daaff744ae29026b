use native.Mathlib.Omega.{arith}
use mathlib.Core.Path.{◌≡◌, refl}
use borrow.Author.Rules.{rules}
use lib.ListN.{length, take, drop}
use Rattle.line.proofs.Lines.{four_pieces, eleven}
use Rattle.line.proofs.code_of.Goals as goal

pub returns : goal.returns
returns c =
    let l = c.args.line.now in
    let sized : length l ≡ 48 = search rules in
    four_pieces 11 (take 11 l) (take 11 (drop 12 l)) (take 11 (drop 24 l)) (take 11 (drop 36 l)) _
    (eleven l 0 (omega arith)) (eleven l 12 (omega arith)) (eleven l 24 (omega arith)) (eleven l 36 (omega arith)) refl
    c.put.ensures c.put-2.ensures c.put-3.ensures c.put-4.ensures
