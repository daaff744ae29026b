-- The samples, by computation. Assumes nothing.
use mathlib.Core.Path.{refl}
use Rattle.decimal.specs.Bytes.{is_of}
use Rattle.decimal.specs.Numbers.{value_of, digits_of}
use Rattle.calendar.specs.Dates.{is_leap, days_in, is_date, date_of}
use Rattle.modulus.specs.Checks.{added_by, term_of, digit_of_remainder}
use Rattle.barcode.specs.Codes.{first_three_answer, general_right}
use Rattle.barcode.specs.Agreed.{is_issuer, key_of, list_answer, is_agreed, free_answer}
use Rattle.layout.specs.Layouts.{named_by, layout_of, table, row_at}
use Rattle.kinds.specs.Terms.{version_answer}
use Rattle.kinds.specs.Kinds.{is_version_text, is_service, date_answer, is_capture, is_form, kind_answer}
use Rattle.record.specs.Records.{field_answer, record_answer}
use Rattle.file.specs.Files.{file_answer, figures_answer}
use Rattle.file.specs.Forms.{has_line_end, fits_length, end_answer}
use Rattle.board.specs.Lanes.{payments_fit, tariff_fits}
use Rattle.board.specs.Boards.{own_of, used_after, sums_answer, slot_answer}
use Rattle.pairs.specs.Pairs.{next_number, is_same_pair, memory_with}
use Rattle.ledger.specs.Samples.{samples, Hold}
use Rattle.ledger.specs.NumberSamples.{NumbersHold}
use Rattle.ledger.specs.TariffSamples.{TariffsHold}

all : Hold samples × NumbersHold × TariffsHold
unfolding record_answer version_answer list_answer free_answer is_agreed key_of is_issuer field_answer kind_answer is_version_text is_service date_answer is_capture is_form named_by layout_of table row_at has_line_end fits_length end_answer figures_answer file_answer payments_fit tariff_fits own_of used_after sums_answer slot_answer next_number is_same_pair memory_with first_three_answer general_right term_of added_by digit_of_remainder date_of is_date days_in is_leap digits_of value_of is_of
all = (refl, refl, refl)

pub samples_hold : Hold samples
samples_hold = all.0

pub numbers_hold : NumbersHold
numbers_hold = all.1

pub tariffs_hold : TariffsHold
tariffs_hold = all.2
