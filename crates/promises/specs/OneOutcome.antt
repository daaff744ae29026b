-- One outcome for each input: two outcomes that the contract of a public operation allows for one input are equal.
-- Assumes nothing.
use Rattle.std.specs.Prelude.{◌≡◌}
use base.Logic.{ent, sep}
use contract.Monad.{fact}
use denote.Triple.Clauses.{Ended, Lasts}
use borrow.Fn.World.{World}
use Rattle.answer.specs.contracts as answer
use Rattle.decimal.specs.contracts as decimal
use Rattle.calendar.specs.contracts as calendar
use Rattle.modulus.specs.contracts as modulus
use Rattle.barcode.specs.contracts as barcode
use Rattle.line.specs.contracts as line
use Rattle.layout.specs.contracts as layout
use Rattle.kinds.specs.contracts as kinds
use Rattle.record.specs.contracts as records
use Rattle.fields.specs.contracts as fields
use Rattle.file.specs.contracts as file
use Rattle.board.specs.contracts as board
use Rattle.pairs.specs.contracts as pairs
use Rattle.session.specs.contracts as session
use Rattle.writer.specs.contracts as writer
use Rattle.page.specs.contracts as page
use Rattle.hollytrot.specs.contracts as hollytrot
use Rattle.promises.specs.Allowed.{Contract, Lent, Given, Result, Ghost, allowed}

module _ (T : Ended) (contract : Contract T) where
  -- if two outcomes are allowed for the same arguments, what is seen of the results is equal, and so is every byte left
  abbrev pub OneSeen : {S : Lent T → Type 0} → ((κs : Lent T) → Result T κs → S κs) → Type 2
  OneSeen seen =
      (w : World) (κs : Lent T) (given : Given T κs) (g : Ghost T contract w κs given)
      (r r' : Result T κs) (left left' : Lasts T κs given)
      → ent w.𝓤
      (sep w.𝓤 (allowed T contract w κs given g r left) (allowed T contract w κs given g r' left'))
      (fact w.𝓤 ((seen κs r ≡ seen κs r') × (left ≡ left')))

  -- of a result by value all is seen
  abbrev pub One : Type 2
  One = OneSeen (λ κs r. r)

-- Promise: for each public operation of each crate a line, named crate·type·function, in « » if a part of the name is a
-- word of the proof language. Of a returned part of the caller's bytes the bytes are seen, not where they are.

pub record AnswerOutcomes : Type 2 where
  pub answer·Reason·number : One answer.Reason.number.ended (λ M 𝓤. answer.Reason.number.clauses)
  pub answer·Refusal·behind : One answer.Refusal.behind.ended (λ M 𝓤. answer.Refusal.behind.clauses)
  pub answer·require : One answer.require.ended (λ M 𝓤. answer.require.clauses)
  pub answer·number : One answer.number.ended (λ M 𝓤. answer.number.clauses)
  pub answer·place : One answer.place.ended (λ M 𝓤. answer.place.clauses)
  pub answer·behind : One answer.behind.ended (λ M 𝓤. answer.behind.clauses)
  pub answer·first_refusal : One answer.first_refusal.ended (λ M 𝓤. answer.first_refusal.clauses)

pub record DecimalOutcomes : Type 2 where
  pub decimal·in_range : One decimal.in_range.ended (λ M 𝓤. decimal.in_range.clauses)
  pub decimal·is_of : One decimal.is_of.ended (λ M 𝓤. decimal.is_of.clauses)
  pub decimal·class_error_bit : One decimal.class_error_bit.ended (λ M 𝓤. decimal.class_error_bit.clauses)
  pub decimal·all_of : One decimal.all_of.ended (λ M 𝓤. decimal.all_of.clauses)
  pub decimal·require_class : One decimal.require_class.ended (λ M 𝓤. decimal.require_class.clauses)
  pub decimal·value : One decimal.value.ended (λ M 𝓤. decimal.value.clauses)
  pub decimal·number : One decimal.number.ended (λ M 𝓤. decimal.number.clauses)
  pub decimal·low_half : One decimal.low_half.ended (λ M 𝓤. decimal.low_half.clauses)
  pub decimal·low_number : One decimal.low_number.ended (λ M 𝓤. decimal.low_number.clauses)
  pub decimal·fits_width : One decimal.fits_width.ended (λ M 𝓤. decimal.fits_width.clauses)
  pub decimal·put : One decimal.put.ended (λ M 𝓤. decimal.put.clauses)
  pub decimal·put_number : One decimal.put_number.ended (λ M 𝓤. decimal.put_number.clauses)

pub record CalendarOutcomes : Type 2 where
  pub calendar·is_date : One calendar.is_date.ended (λ M 𝓤. calendar.is_date.clauses)
  pub calendar·read_date : One calendar.read_date.ended (λ M 𝓤. calendar.read_date.clauses)
  pub calendar·is_date_text : One calendar.is_date_text.ended (λ M 𝓤. calendar.is_date_text.clauses)

pub record ModulusOutcomes : Type 2 where
  pub modulus·remainder : One modulus.remainder.ended (λ M 𝓤. modulus.remainder.clauses)
  pub modulus·digit_of_remainder : One modulus.digit_of_remainder.ended (λ M 𝓤. modulus.digit_of_remainder.clauses)
  pub modulus·weighted_remainder : One modulus.weighted_remainder.ended (λ M 𝓤. modulus.weighted_remainder.clauses)
  pub modulus·check : One modulus.check.ended (λ M 𝓤. modulus.check.clauses)
  pub modulus·sums_of_forty : One modulus.sums_of_forty.ended (λ M 𝓤. modulus.sums_of_forty.clauses)

pub record BarcodeOutcomes : Type 2 where
  pub barcode·issuer_width : One barcode.issuer_width.ended (λ M 𝓤. barcode.issuer_width.clauses)
  pub barcode·modulus_of_kind : One barcode.modulus_of_kind.ended (λ M 𝓤. barcode.modulus_of_kind.clauses)
  pub barcode·check_prefix : One barcode.check_prefix.ended (λ M 𝓤. barcode.check_prefix.clauses)
  pub barcode·key_of : One barcode.key_of.ended (λ M 𝓤. barcode.key_of.clauses)
  pub barcode·check_list : One barcode.check_list.ended (λ M 𝓤. barcode.check_list.clauses)
  pub barcode·check : One barcode.check.ended (λ M 𝓤. barcode.check.clauses)
  pub barcode·judged·check : One barcode.judged.check.ended (λ M 𝓤. barcode.judged.check.clauses)
  pub barcode·judged·decode : One barcode.judged.decode.ended (λ M 𝓤. barcode.judged.decode.clauses)
  pub barcode·judged·accepted_issuer :
      One barcode.judged.accepted_issuer.ended (λ M 𝓤. barcode.judged.accepted_issuer.clauses)
  pub barcode·decode : One barcode.decode.ended (λ M 𝓤. barcode.decode.clauses)
  pub barcode·free_field : OneSeen barcode.free_field.ended (λ M 𝓤. barcode.free_field.clauses) (λ κs r. r.now)
  pub barcode·builder·build : One barcode.builder.build.ended (λ M 𝓤. barcode.builder.build.clauses)

pub record LineOutcomes : Type 2 where
  pub line·check : One line.check.ended (λ M 𝓤. line.check.clauses)
  pub line·decode : One line.decode.ended (λ M 𝓤. line.decode.clauses)
  pub line·to_barcode : One line.to_barcode.ended (λ M 𝓤. line.to_barcode.clauses)
  pub line·from_barcode : One line.from_barcode.ended (λ M 𝓤. line.from_barcode.clauses)

pub record LayoutOutcomes : Type 2 where
  pub layout·table : One layout.table.ended (λ M 𝓤. layout.table.clauses)
  pub layout·row : One layout.row.ended (λ M 𝓤. layout.row.clauses)
  pub layout·named_by : One layout.named_by.ended (λ M 𝓤. layout.named_by.clauses)
  pub layout·rows_of : One layout.rows_of.ended (λ M 𝓤. layout.rows_of.clauses)
  pub layout·given_of : One layout.given_of.ended (λ M 𝓤. layout.given_of.clauses)
  pub layout·given_length : One layout.given_length.ended (λ M 𝓤. layout.given_length.clauses)

pub record KindsOutcomes : Type 2 where
  pub kinds·check : One kinds.check.ended (λ M 𝓤. kinds.check.clauses)
  pub kinds·service : One kinds.service.ended (λ M 𝓤. kinds.service.clauses)
  pub kinds·is_capture : One kinds.is_capture.ended (λ M 𝓤. kinds.is_capture.clauses)
  pub kinds·is_form : One kinds.is_form.ended (λ M 𝓤. kinds.is_form.clauses)
  pub kinds·check_version : One kinds.check_version.ended (λ M 𝓤. kinds.check_version.clauses)
  pub kinds·same_bytes : One kinds.same_bytes.ended (λ M 𝓤. kinds.same_bytes.clauses)
  pub kinds·byte_at : One kinds.byte_at.ended (λ M 𝓤. kinds.byte_at.clauses)

pub record RecordOutcomes : Type 2 where
  pub record·decode : One records.decode.ended (λ M 𝓤. records.decode.clauses)
  pub record·field : OneSeen records.field.ended (λ M 𝓤. records.field.clauses) (λ κs r. r.now)
  pub record·check : One records.check.ended (λ M 𝓤. records.check.clauses)
  pub record·accepted_payment : One records.accepted_payment.ended (λ M 𝓤. records.accepted_payment.clauses)
  pub record·judged·check : One records.judged.check.ended (λ M 𝓤. records.judged.check.clauses)
  pub record·judged·decode : One records.judged.decode.ended (λ M 𝓤. records.judged.decode.clauses)
  pub record·judged·accepted_payment :
      One records.judged.accepted_payment.ended (λ M 𝓤. records.judged.accepted_payment.clauses)

pub record FieldsOutcomes : Type 2 where
  pub fields·join : One fields.join.ended (λ M 𝓤. fields.join.clauses)
  pub fields·make : One fields.make.ended (λ M 𝓤. fields.make.clauses)
  pub fields·judged·make : One fields.judged.make.ended (λ M 𝓤. fields.judged.make.clauses)

pub record FileOutcomes : Type 2 where
  pub file·record_length : One file.record_length.ended (λ M 𝓤. file.record_length.clauses)
  pub file·has_line_end : One file.has_line_end.ended (λ M 𝓤. file.has_line_end.clauses)
  pub file·File·new : One file.File.new.ended (λ M 𝓤. file.File.new.clauses)
  pub file·File·take : One file.File.take.ended (λ M 𝓤. file.File.take.clauses)
  pub file·File·check_trailer : One file.File.check_trailer.ended (λ M 𝓤. file.File.check_trailer.clauses)
  pub file·File·close : One file.File.close.ended (λ M 𝓤. file.File.close.clauses)

pub record BoardOutcomes : Type 2 where
  pub board·lanes_in_use : One board.lanes_in_use.ended (λ M 𝓤. board.lanes_in_use.clauses)
  pub board·cache_index : One board.cache_index.ended (λ M 𝓤. board.cache_index.clauses)
  pub board·search_range : One board.search_range.ended (λ M 𝓤. board.search_range.clauses)
  pub board·Lane·of_payment : One board.Lane.of_payment.ended (λ M 𝓤. board.Lane.of_payment.clauses)
  pub board·Lane·is_of : One board.Lane.is_of.ended (λ M 𝓤. board.Lane.is_of.clauses)
  pub board·Slot·post : One board.Slot.post.ended (λ M 𝓤. board.Slot.post.clauses)
  pub board·Board·new : One board.Board.new.ended (λ M 𝓤. board.Board.new.clauses)
  pub board·Board·post : One board.Board.post.ended (λ M 𝓤. board.Board.post.clauses)

pub record PairsOutcomes : Type 2 where
  pub pairs·Pair·none : One pairs.Pair.none.ended (λ M 𝓤. pairs.Pair.none.clauses)
  pub pairs·Memory·new : One pairs.Memory.new.ended (λ M 𝓤. pairs.Memory.new.clauses)
  pub pairs·Memory·check : One pairs.Memory.check.ended (λ M 𝓤. pairs.Memory.check.clauses)
  pub pairs·Memory·remember : One pairs.Memory.remember.ended (λ M 𝓤. pairs.Memory.remember.clauses)

pub record SessionOutcomes : Type 2 where
  pub session·Session·limits : One session.Session.limits.ended (λ M 𝓤. session.Session.limits.clauses)
  pub session·Session·new : One session.Session.new.ended (λ M 𝓤. session.Session.new.clauses)
  pub session·Session·take : One session.Session.take.ended (λ M 𝓤. session.Session.take.clauses)
  pub session·Session·abandon : One session.Session.abandon.ended (λ M 𝓤. session.Session.abandon.clauses)
  pub session·Session·finish : One session.Session.finish.ended (λ M 𝓤. session.Session.finish.clauses)
  pub session·Session·run : One session.Session.run.ended (λ M 𝓤. session.Session.run.clauses)

pub record WriterOutcomes : Type 2 where
  pub writer·Writer·new : One writer.Writer.new.ended (λ M 𝓤. writer.Writer.new.clauses)
  pub writer·Writer·header : One writer.Writer.header.ended (λ M 𝓤. writer.Writer.header.clauses)
  pub writer·Writer·payment : One writer.Writer.payment.ended (λ M 𝓤. writer.Writer.payment.clauses)
  pub writer·Writer·trailer : One writer.Writer.trailer.ended (λ M 𝓤. writer.Writer.trailer.clauses)

pub record PageOutcomes : Type 2 where
  pub page·print : One page.print.ended (λ M 𝓤. page.print.clauses)

pub record HollytrotOutcomes : Type 2 where
  pub hollytrot·hollytrot_issuer_key :
      One hollytrot.hollytrot_issuer_key.ended (λ M 𝓤. hollytrot.hollytrot_issuer_key.clauses)
  pub hollytrot·hollytrot_barcode_check :
      One hollytrot.hollytrot_barcode_check.ended (λ M 𝓤. hollytrot.hollytrot_barcode_check.clauses)
  pub hollytrot·hollytrot_barcode_decode :
      One hollytrot.hollytrot_barcode_decode.ended (λ M 𝓤. hollytrot.hollytrot_barcode_decode.clauses)
  pub hollytrot·hollytrot_barcode_free_field :
      One hollytrot.hollytrot_barcode_free_field.ended (λ M 𝓤. hollytrot.hollytrot_barcode_free_field.clauses)
  pub hollytrot·hollytrot_barcode_build :
      One hollytrot.hollytrot_barcode_build.ended (λ M 𝓤. hollytrot.hollytrot_barcode_build.clauses)
  pub hollytrot·hollytrot_line_check :
      One hollytrot.hollytrot_line_check.ended (λ M 𝓤. hollytrot.hollytrot_line_check.clauses)
  pub hollytrot·hollytrot_line_decode :
      One hollytrot.hollytrot_line_decode.ended (λ M 𝓤. hollytrot.hollytrot_line_decode.clauses)
  pub hollytrot·hollytrot_line_to_barcode :
      One hollytrot.hollytrot_line_to_barcode.ended (λ M 𝓤. hollytrot.hollytrot_line_to_barcode.clauses)
  pub hollytrot·hollytrot_line_from_barcode :
      One hollytrot.hollytrot_line_from_barcode.ended (λ M 𝓤. hollytrot.hollytrot_line_from_barcode.clauses)
  pub hollytrot·hollytrot_date_read :
      One hollytrot.hollytrot_date_read.ended (λ M 𝓤. hollytrot.hollytrot_date_read.clauses)
  pub hollytrot·hollytrot_date_check :
      One hollytrot.hollytrot_date_check.ended (λ M 𝓤. hollytrot.hollytrot_date_check.clauses)
  pub hollytrot·hollytrot_check_ten :
      One hollytrot.hollytrot_check_ten.ended (λ M 𝓤. hollytrot.hollytrot_check_ten.clauses)
  pub hollytrot·hollytrot_check_eleven :
      One hollytrot.hollytrot_check_eleven.ended (λ M 𝓤. hollytrot.hollytrot_check_eleven.clauses)
  pub hollytrot·hollytrot_version : One hollytrot.hollytrot_version.ended (λ M 𝓤. hollytrot.hollytrot_version.clauses)
  pub hollytrot·hollytrot_page : One hollytrot.hollytrot_page.ended (λ M 𝓤. hollytrot.hollytrot_page.clauses)
  pub hollytrot·hollytrot_record_check :
      One hollytrot.hollytrot_record_check.ended (λ M 𝓤. hollytrot.hollytrot_record_check.clauses)
  pub hollytrot·hollytrot_record_decode :
      One hollytrot.hollytrot_record_decode.ended (λ M 𝓤. hollytrot.hollytrot_record_decode.clauses)
  pub hollytrot·hollytrot_record_field :
      One hollytrot.hollytrot_record_field.ended (λ M 𝓤. hollytrot.hollytrot_record_field.clauses)
  pub hollytrot·hollytrot_record_join :
      One hollytrot.hollytrot_record_join.ended (λ M 𝓤. hollytrot.hollytrot_record_join.clauses)

-- the exported ones that are given a session or a writer, or give one
pub record HollytrotStateOutcomes : Type 2 where
  pub hollytrot·hollytrot_session_limits :
      One hollytrot.hollytrot_session_limits.ended (λ M 𝓤. hollytrot.hollytrot_session_limits.clauses)
  pub hollytrot·hollytrot_session_new :
      One hollytrot.hollytrot_session_new.ended (λ M 𝓤. hollytrot.hollytrot_session_new.clauses)
  pub hollytrot·hollytrot_session_take :
      One hollytrot.hollytrot_session_take.ended (λ M 𝓤. hollytrot.hollytrot_session_take.clauses)
  pub hollytrot·hollytrot_session_run :
      One hollytrot.hollytrot_session_run.ended (λ M 𝓤. hollytrot.hollytrot_session_run.clauses)
  pub hollytrot·hollytrot_session_abandon :
      One hollytrot.hollytrot_session_abandon.ended (λ M 𝓤. hollytrot.hollytrot_session_abandon.clauses)
  pub hollytrot·hollytrot_session_finish :
      One hollytrot.hollytrot_session_finish.ended (λ M 𝓤. hollytrot.hollytrot_session_finish.clauses)
  pub hollytrot·hollytrot_session_board :
      One hollytrot.hollytrot_session_board.ended (λ M 𝓤. hollytrot.hollytrot_session_board.clauses)
  pub hollytrot·hollytrot_writer_new :
      One hollytrot.hollytrot_writer_new.ended (λ M 𝓤. hollytrot.hollytrot_writer_new.clauses)
  pub hollytrot·hollytrot_writer_header :
      One hollytrot.hollytrot_writer_header.ended (λ M 𝓤. hollytrot.hollytrot_writer_header.clauses)
  pub hollytrot·hollytrot_writer_payment :
      One hollytrot.hollytrot_writer_payment.ended (λ M 𝓤. hollytrot.hollytrot_writer_payment.clauses)
  pub hollytrot·hollytrot_writer_trailer :
      One hollytrot.hollytrot_writer_trailer.ended (λ M 𝓤. hollytrot.hollytrot_writer_trailer.clauses)

pub record OneOutcome : Type 2 where
  pub of_answer : AnswerOutcomes
  pub of_decimal : DecimalOutcomes
  pub of_calendar : CalendarOutcomes
  pub of_modulus : ModulusOutcomes
  pub of_barcode : BarcodeOutcomes
  pub of_line : LineOutcomes
  pub of_layout : LayoutOutcomes
  pub of_kinds : KindsOutcomes
  pub of_record : RecordOutcomes
  pub of_fields : FieldsOutcomes
  pub of_file : FileOutcomes
  pub of_board : BoardOutcomes
  pub of_pairs : PairsOutcomes
  pub of_session : SessionOutcomes
  pub of_writer : WriterOutcomes
  pub of_page : PageOutcomes
  pub of_hollytrot : HollytrotOutcomes
  pub of_hollytrot_states : HollytrotStateOutcomes
