-- What is promised of the exports themselves, and not only of the functions that they call: one outcome for each input,
-- and a refusal changes nothing, each said of the export's own contract. Assumes nothing.
use Rattle.std.specs.Prelude.{◌≡◌}
use Rattle.hollytrot_c.specs.contracts as c
use Rattle.promises.specs.OneOutcome.{One}
use Rattle.promises.specs.Refusals.{KeepsBuffer, KeepsState, KeepsBoth, first, second, third, fourth, fifth, sixth}

-- Promise: for each export a line, named crate·function.
pub record ExportOutcomes : Type 2 where
  pub hollytrot_c·hollytrot_issuer_key :
      One c.barcodes.hollytrot_issuer_key.ended (λ M 𝓤. c.barcodes.hollytrot_issuer_key.clauses)
  pub hollytrot_c·hollytrot_barcode_check :
      One c.barcodes.hollytrot_barcode_check.ended (λ M 𝓤. c.barcodes.hollytrot_barcode_check.clauses)
  pub hollytrot_c·hollytrot_barcode_decode :
      One c.barcodes.hollytrot_barcode_decode.ended (λ M 𝓤. c.barcodes.hollytrot_barcode_decode.clauses)
  pub hollytrot_c·hollytrot_barcode_free_field :
      One c.barcodes.hollytrot_barcode_free_field.ended (λ M 𝓤. c.barcodes.hollytrot_barcode_free_field.clauses)
  pub hollytrot_c·hollytrot_barcode_build :
      One c.barcodes.hollytrot_barcode_build.ended (λ M 𝓤. c.barcodes.hollytrot_barcode_build.clauses)
  pub hollytrot_c·hollytrot_line_check :
      One c.barcodes.hollytrot_line_check.ended (λ M 𝓤. c.barcodes.hollytrot_line_check.clauses)
  pub hollytrot_c·hollytrot_line_decode :
      One c.barcodes.hollytrot_line_decode.ended (λ M 𝓤. c.barcodes.hollytrot_line_decode.clauses)
  pub hollytrot_c·hollytrot_line_to_barcode :
      One c.barcodes.hollytrot_line_to_barcode.ended (λ M 𝓤. c.barcodes.hollytrot_line_to_barcode.clauses)
  pub hollytrot_c·hollytrot_line_from_barcode :
      One c.barcodes.hollytrot_line_from_barcode.ended (λ M 𝓤. c.barcodes.hollytrot_line_from_barcode.clauses)
  pub hollytrot_c·hollytrot_date_read :
      One c.barcodes.hollytrot_date_read.ended (λ M 𝓤. c.barcodes.hollytrot_date_read.clauses)
  pub hollytrot_c·hollytrot_date_check :
      One c.barcodes.hollytrot_date_check.ended (λ M 𝓤. c.barcodes.hollytrot_date_check.clauses)
  pub hollytrot_c·hollytrot_check_ten :
      One c.barcodes.hollytrot_check_ten.ended (λ M 𝓤. c.barcodes.hollytrot_check_ten.clauses)
  pub hollytrot_c·hollytrot_check_eleven :
      One c.barcodes.hollytrot_check_eleven.ended (λ M 𝓤. c.barcodes.hollytrot_check_eleven.clauses)
  pub hollytrot_c·hollytrot_record_check :
      One c.records.hollytrot_record_check.ended (λ M 𝓤. c.records.hollytrot_record_check.clauses)
  pub hollytrot_c·hollytrot_record_decode :
      One c.records.hollytrot_record_decode.ended (λ M 𝓤. c.records.hollytrot_record_decode.clauses)
  pub hollytrot_c·hollytrot_record_field :
      One c.records.hollytrot_record_field.ended (λ M 𝓤. c.records.hollytrot_record_field.clauses)
  pub hollytrot_c·hollytrot_record_join :
      One c.records.hollytrot_record_join.ended (λ M 𝓤. c.records.hollytrot_record_join.clauses)
  pub hollytrot_c·hollytrot_session_limits :
      One c.sessions.hollytrot_session_limits.ended (λ M 𝓤. c.sessions.hollytrot_session_limits.clauses)
  pub hollytrot_c·hollytrot_session_new :
      One c.sessions.hollytrot_session_new.ended (λ M 𝓤. c.sessions.hollytrot_session_new.clauses)
  pub hollytrot_c·hollytrot_session_take :
      One c.sessions.hollytrot_session_take.ended (λ M 𝓤. c.sessions.hollytrot_session_take.clauses)
  pub hollytrot_c·hollytrot_session_run :
      One c.sessions.hollytrot_session_run.ended (λ M 𝓤. c.sessions.hollytrot_session_run.clauses)
  pub hollytrot_c·hollytrot_session_abandon :
      One c.sessions.hollytrot_session_abandon.ended (λ M 𝓤. c.sessions.hollytrot_session_abandon.clauses)
  pub hollytrot_c·hollytrot_session_finish :
      One c.sessions.hollytrot_session_finish.ended (λ M 𝓤. c.sessions.hollytrot_session_finish.clauses)
  pub hollytrot_c·hollytrot_session_board :
      One c.sessions.hollytrot_session_board.ended (λ M 𝓤. c.sessions.hollytrot_session_board.clauses)
  pub hollytrot_c·hollytrot_writer_new :
      One c.writers.hollytrot_writer_new.ended (λ M 𝓤. c.writers.hollytrot_writer_new.clauses)
  pub hollytrot_c·hollytrot_writer_header :
      One c.writers.hollytrot_writer_header.ended (λ M 𝓤. c.writers.hollytrot_writer_header.clauses)
  pub hollytrot_c·hollytrot_writer_payment :
      One c.writers.hollytrot_writer_payment.ended (λ M 𝓤. c.writers.hollytrot_writer_payment.clauses)
  pub hollytrot_c·hollytrot_writer_trailer :
      One c.writers.hollytrot_writer_trailer.ended (λ M 𝓤. c.writers.hollytrot_writer_trailer.clauses)
  pub hollytrot_c·hollytrot_page : One c.pages.hollytrot_page.ended (λ M 𝓤. c.pages.hollytrot_page.clauses)
  pub hollytrot_c·hollytrot_version :
      One c.version.hollytrot_version.ended (λ M 𝓤. c.version.hollytrot_version.clauses)

-- Promise: for each export that has an answer and something to change, but the run of many records, which keeps those
-- before the refused one.
pub record ExportRefusals : Type 2 where
  pub hollytrot_c·hollytrot_barcode_build :
      KeepsBuffer c.barcodes.hollytrot_barcode_build.ended (λ M 𝓤. c.barcodes.hollytrot_barcode_build.clauses)
      (λ κs r. r.number ≡ 0) (λ κs. sixth) (λ κs given. sixth)
  pub hollytrot_c·hollytrot_line_to_barcode :
      KeepsBuffer c.barcodes.hollytrot_line_to_barcode.ended (λ M 𝓤. c.barcodes.hollytrot_line_to_barcode.clauses)
      (λ κs r. r.number ≡ 0) (λ κs. third) (λ κs given. third)
  pub hollytrot_c·hollytrot_line_from_barcode :
      KeepsBuffer c.barcodes.hollytrot_line_from_barcode.ended (λ M 𝓤. c.barcodes.hollytrot_line_from_barcode.clauses)
      (λ κs r. r.number ≡ 0) (λ κs. third) (λ κs given. third)
  pub hollytrot_c·hollytrot_record_join :
      KeepsBuffer c.records.hollytrot_record_join.ended (λ M 𝓤. c.records.hollytrot_record_join.clauses)
      (λ κs r. r.number ≡ 0) (λ κs. fourth) (λ κs given. fourth)
  pub hollytrot_c·hollytrot_session_take :
      KeepsState c.sessions.hollytrot_session_take.ended (λ M 𝓤. c.sessions.hollytrot_session_take.clauses)
      (λ κs r. r.answer.number ≡ 0) (λ κs. first) (λ κs given r. r.session)
  pub hollytrot_c·hollytrot_session_finish :
      KeepsState c.sessions.hollytrot_session_finish.ended (λ M 𝓤. c.sessions.hollytrot_session_finish.clauses)
      (λ κs r. r.answer.number ≡ 0) (λ κs. first) (λ κs given r. r.session)
  pub hollytrot_c·hollytrot_writer_header :
      KeepsBoth c.writers.hollytrot_writer_header.ended (λ M 𝓤. c.writers.hollytrot_writer_header.clauses)
      (λ κs r. r.answer.number ≡ 0) (λ κs. first) (λ κs given r. r.writer) (λ κs. third) (λ κs given. third)
  pub hollytrot_c·hollytrot_writer_payment :
      KeepsBoth c.writers.hollytrot_writer_payment.ended (λ M 𝓤. c.writers.hollytrot_writer_payment.clauses)
      (λ κs r. r.answer.number ≡ 0) (λ κs. first) (λ κs given r. r.writer) (λ κs. sixth) (λ κs given. sixth)
  pub hollytrot_c·hollytrot_writer_trailer :
      KeepsBoth c.writers.hollytrot_writer_trailer.ended (λ M 𝓤. c.writers.hollytrot_writer_trailer.clauses)
      (λ κs r. r.answer.number ≡ 0) (λ κs. first) (λ κs given r. r.writer) (λ κs. second) (λ κs given. second)
  pub hollytrot_c·hollytrot_page :
      KeepsBuffer c.pages.hollytrot_page.ended (λ M 𝓤. c.pages.hollytrot_page.clauses)
      (λ κs r. r.answer.number ≡ 0) (λ κs. fifth) (λ κs given. fifth)
