use mathlib.Core.Path.{sym, refl, ◌∙◌}
use borrow.Author.Rules.{rules}
use Rattle.answer.proofs.Orders.{gives_tells}
use Rattle.file.specs.Files.{closing_answer}
use Rattle.writer.proofs.Calls.{six, count_written}
use Rattle.writer.proofs.Writer.trailer.Goals as goal

pub returns-in_err-check_call-clause-answer : goal.returns-in_err-check_call-clause-answer
returns-in_err-check_call-clause-answer c = let n = six in search rules

pub returns-in_err-check_call-clause-kept : goal.returns-in_err-check_call-clause-kept
returns-in_err-check_call-clause-kept c = let n = six in search rules

pub returns-in_err-make-clause-answer : goal.returns-in_err-make-clause-answer
returns-in_err-make-clause-answer c =
    let n = six in
    let closed = gives_tells (closing_answer c.args.self.file) (sym c.close.ensures.answer ∙ c.in_ok-figures.was) in
    let count = count_written c.args.self _ closed refl c.put_number.ensures.answer c.put_number.ensures.bytes in
    search rules

pub returns-in_err-make-clause-kept : goal.returns-in_err-make-clause-kept
returns-in_err-make-clause-kept c =
    let n = six in
    let closed = gives_tells (closing_answer c.args.self.file) (sym c.close.ensures.answer ∙ c.in_ok-figures.was) in
    let count = count_written c.args.self _ closed refl c.put_number.ensures.answer c.put_number.ensures.bytes in
    search rules

pub returns-clause-answer : goal.returns-clause-answer
returns-clause-answer c =
    let n = six in
    let closed = gives_tells (closing_answer c.args.self.file) (sym c.close.ensures.answer ∙ c.in_ok-figures.was) in
    let count = count_written c.args.self _ closed refl c.put_number.ensures.answer c.put_number.ensures.bytes in
    search rules

pub returns-clause-kept : goal.returns-clause-kept
returns-clause-kept c =
    let n = six in
    let closed = gives_tells (closing_answer c.args.self.file) (sym c.close.ensures.answer ∙ c.in_ok-figures.was) in
    let count = count_written c.args.self _ closed refl c.put_number.ensures.answer c.put_number.ensures.bytes in
    search rules

pub returns-clause-bytes : goal.returns-clause-bytes
returns-clause-bytes c =
    let n = six in
    let closed = gives_tells (closing_answer c.args.self.file) (sym c.close.ensures.answer ∙ c.in_ok-figures.was) in
    let count = count_written c.args.self _ closed refl c.put_number.ensures.answer c.put_number.ensures.bytes in
    search rules
