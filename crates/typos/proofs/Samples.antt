-- The samples, by computation. Assumes nothing.
use mathlib.Core.Path.{refl}
use Rattle.decimal.specs.Bytes.{is_of}
use Rattle.decimal.specs.Numbers.{value_of, digits_of}
use Rattle.calendar.specs.Dates.{is_leap, days_in, is_date, date_of}
use Rattle.modulus.specs.Checks.{added_by, term_of, digit_of_remainder}
use Rattle.barcode.specs.Codes.{first_three_answer, general_right}
use Rattle.barcode.specs.Agreed.{is_issuer, key_of, list_answer, is_agreed, free_answer}
use Rattle.line.specs.Lines.{box_right}
use Rattle.typos.specs.Samples.{DirectionsMayDiffer, SegmentTypoPasses, KindTypoPasses, BordersHold, DatedExchangeIsRefused, DatedChangeIsRefused, SegmentTypoMeetsAnAgreement}

pub directions_may_differ : DirectionsMayDiffer
unfolding first_three_answer general_right box_right digit_of_remainder term_of added_by digits_of value_of is_of
directions_may_differ = (refl, refl, refl, refl, refl, refl)

pub segment_typo_passes : SegmentTypoPasses
unfolding first_three_answer general_right box_right digit_of_remainder term_of added_by digits_of value_of is_of
segment_typo_passes = (refl, refl)

pub kind_typo_passes : KindTypoPasses
unfolding first_three_answer general_right box_right digit_of_remainder term_of added_by digits_of value_of is_of
kind_typo_passes = (refl, refl)

pub borders_hold : BordersHold
unfolding first_three_answer general_right box_right digit_of_remainder term_of added_by digits_of value_of is_of
borders_hold = ((refl, refl), ((refl, refl), ((refl, refl), ((refl, refl), tt))))

pub dated_exchange_is_refused : DatedExchangeIsRefused
unfolding first_three_answer general_right box_right digit_of_remainder term_of added_by digits_of value_of is_of list_answer free_answer is_agreed key_of is_issuer date_of is_date days_in is_leap
dated_exchange_is_refused = (refl, refl, refl)

pub dated_change_is_refused : DatedChangeIsRefused
unfolding first_three_answer general_right box_right digit_of_remainder term_of added_by digits_of value_of is_of list_answer free_answer is_agreed key_of is_issuer date_of is_date days_in is_leap
dated_change_is_refused = (refl, refl, refl)

pub segment_typo_meets_an_agreement : SegmentTypoMeetsAnAgreement
unfolding first_three_answer general_right box_right digit_of_remainder term_of added_by digits_of value_of is_of list_answer free_answer is_agreed key_of is_issuer date_of is_date days_in is_leap
segment_typo_meets_an_agreement = (refl, refl, refl)
