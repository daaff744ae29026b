use mathlib.Core.Path.{refl}
use native.Mathlib.Omega.{arith}
use borrow.Author.Rules.{rules}
use Rattle.page.proofs.Steps.{wrote_shown}
use Rattle.page.proofs.Cursor.shown.Goals as goal

pub returns : goal.returns
returns c =
    let a = c.args in
    let fits = c.requires in
    let written = wrote_shown a.width a.n a.self.now.at a.self.now.out.now (omega arith) (omega arith) (omega arith) in
    record {
      same_buffer = refl;
      wrote = written (search rules) c.put_number.ensures.answer c.put_number.ensures.bytes;
    }
