use Rattle.decimal.specs.declared.Class.TheVariants.{Digit, Text}
use Rattle.decimal.specs.Bytes.{is_of}
use Rattle.record.proofs.FastPath.{six_flags}
use Rattle.record.proofs.fast.column_error_bit.Goals as goal

pub returns : goal.returns
returns c =
    let a = c.args in
    six_flags (is_of Text a.a) (is_of Text a.b) (is_of Text a.c) (is_of Text a.d) (is_of Digit a.e) (is_of Digit a.f)
    c.class_error_bit.ensures c.class_error_bit-2.ensures c.class_error_bit-3.ensures c.class_error_bit-4.ensures c.class_error_bit-5.ensures c.class_error_bit-6.ensures
