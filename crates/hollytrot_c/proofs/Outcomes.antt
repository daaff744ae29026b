-- An export has the contract of the function that it calls, so what is proved of that function is proved of the export.
-- Where the two differ, the line is refused. Assumes nothing.
use Rattle.promises.proofs.OneOutcome.{one_outcome}
use Rattle.promises.proofs.Refusals.{refusals_change_nothing}
use Rattle.hollytrot_c.specs.Outcomes.{ExportOutcomes, ExportRefusals}

pub export_outcomes : ExportOutcomes
export_outcomes =
    record {
      hollytrot_c·hollytrot_issuer_key = one_outcome.of_hollytrot.hollytrot·hollytrot_issuer_key;
      hollytrot_c·hollytrot_barcode_check = one_outcome.of_hollytrot.hollytrot·hollytrot_barcode_check;
      hollytrot_c·hollytrot_barcode_decode = one_outcome.of_hollytrot.hollytrot·hollytrot_barcode_decode;
      hollytrot_c·hollytrot_barcode_free_field = one_outcome.of_hollytrot.hollytrot·hollytrot_barcode_free_field;
      hollytrot_c·hollytrot_barcode_build = one_outcome.of_hollytrot.hollytrot·hollytrot_barcode_build;
      hollytrot_c·hollytrot_line_check = one_outcome.of_hollytrot.hollytrot·hollytrot_line_check;
      hollytrot_c·hollytrot_line_decode = one_outcome.of_hollytrot.hollytrot·hollytrot_line_decode;
      hollytrot_c·hollytrot_line_to_barcode = one_outcome.of_hollytrot.hollytrot·hollytrot_line_to_barcode;
      hollytrot_c·hollytrot_line_from_barcode = one_outcome.of_hollytrot.hollytrot·hollytrot_line_from_barcode;
      hollytrot_c·hollytrot_date_read = one_outcome.of_hollytrot.hollytrot·hollytrot_date_read;
      hollytrot_c·hollytrot_date_check = one_outcome.of_hollytrot.hollytrot·hollytrot_date_check;
      hollytrot_c·hollytrot_check_ten = one_outcome.of_hollytrot.hollytrot·hollytrot_check_ten;
      hollytrot_c·hollytrot_check_eleven = one_outcome.of_hollytrot.hollytrot·hollytrot_check_eleven;
      hollytrot_c·hollytrot_record_check = one_outcome.of_hollytrot.hollytrot·hollytrot_record_check;
      hollytrot_c·hollytrot_record_decode = one_outcome.of_hollytrot.hollytrot·hollytrot_record_decode;
      hollytrot_c·hollytrot_record_field = one_outcome.of_hollytrot.hollytrot·hollytrot_record_field;
      hollytrot_c·hollytrot_record_join = one_outcome.of_hollytrot.hollytrot·hollytrot_record_join;
      hollytrot_c·hollytrot_session_limits = one_outcome.of_hollytrot_states.hollytrot·hollytrot_session_limits;
      hollytrot_c·hollytrot_session_new = one_outcome.of_hollytrot_states.hollytrot·hollytrot_session_new;
      hollytrot_c·hollytrot_session_take = one_outcome.of_hollytrot_states.hollytrot·hollytrot_session_take;
      hollytrot_c·hollytrot_session_run = one_outcome.of_hollytrot_states.hollytrot·hollytrot_session_run;
      hollytrot_c·hollytrot_session_abandon = one_outcome.of_hollytrot_states.hollytrot·hollytrot_session_abandon;
      hollytrot_c·hollytrot_session_finish = one_outcome.of_hollytrot_states.hollytrot·hollytrot_session_finish;
      hollytrot_c·hollytrot_session_board = one_outcome.of_hollytrot_states.hollytrot·hollytrot_session_board;
      hollytrot_c·hollytrot_writer_new = one_outcome.of_hollytrot_states.hollytrot·hollytrot_writer_new;
      hollytrot_c·hollytrot_writer_header = one_outcome.of_hollytrot_states.hollytrot·hollytrot_writer_header;
      hollytrot_c·hollytrot_writer_payment = one_outcome.of_hollytrot_states.hollytrot·hollytrot_writer_payment;
      hollytrot_c·hollytrot_writer_trailer = one_outcome.of_hollytrot_states.hollytrot·hollytrot_writer_trailer;
      hollytrot_c·hollytrot_page = one_outcome.of_hollytrot.hollytrot·hollytrot_page;
      hollytrot_c·hollytrot_version = one_outcome.of_hollytrot.hollytrot·hollytrot_version;
    }

pub export_refusals : ExportRefusals
export_refusals =
    record {
      hollytrot_c·hollytrot_barcode_build = refusals_change_nothing.hollytrot·hollytrot_barcode_build;
      hollytrot_c·hollytrot_line_to_barcode = refusals_change_nothing.hollytrot·hollytrot_line_to_barcode;
      hollytrot_c·hollytrot_line_from_barcode = refusals_change_nothing.hollytrot·hollytrot_line_from_barcode;
      hollytrot_c·hollytrot_record_join = refusals_change_nothing.hollytrot·hollytrot_record_join;
      hollytrot_c·hollytrot_session_take = refusals_change_nothing.hollytrot·hollytrot_session_take;
      hollytrot_c·hollytrot_session_finish = refusals_change_nothing.hollytrot·hollytrot_session_finish;
      hollytrot_c·hollytrot_writer_header = refusals_change_nothing.hollytrot·hollytrot_writer_header;
      hollytrot_c·hollytrot_writer_payment = refusals_change_nothing.hollytrot·hollytrot_writer_payment;
      hollytrot_c·hollytrot_writer_trailer = refusals_change_nothing.hollytrot·hollytrot_writer_trailer;
      hollytrot_c·hollytrot_page = refusals_change_nothing.hollytrot·hollytrot_page;
    }
