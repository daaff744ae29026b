use Rattle.decimal.specs.declared.Class.TheVariants.{Digit, Text}
use Rattle.decimal.specs.Bytes.{is_of}
use Rattle.record.proofs.FastPath.{two_rows}
use Rattle.record.proofs.fast.parts_hold.Goals as goal

pub returns : goal.returns
returns c =
    let a = c.args in
    let all-text = two_rows (is_of Text) a.text.now c.requires.text_rows.0 c.requires.text_rows.1 in
    let all-other = two_rows (is_of Text) a.other.now c.requires.other_rows.0 c.requires.other_rows.1 in
    let all_digits = two_rows (is_of Digit) a.digits.now c.requires.digit_rows.0 c.requires.digit_rows.1 in
    rw (
      ← all-text,
      ← all-other,
      ← all_digits,
      ← c.first_row.ensures.0,
      ← c.last_row.ensures.0,
      ← c.first_row-2.ensures.0,
      ← c.last_row-2.ensures.0,
      ← c.first_row-3.ensures.0,
      ← c.last_row-3.ensures.0,
    )
    c.rows_hold.ensures
