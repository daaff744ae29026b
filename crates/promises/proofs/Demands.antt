-- The three demands, from the crates' proofs. Assumes nothing.
use Rattle.answer.proofs.Refusals.{numbers_differ, twenty_is_retired, zero_is_accepted}
use Rattle.answer.proofs.Orders.{then_refuses, first_refuses}
use Rattle.decimal.proofs.Bytes.{each_refuses}
use Rattle.modulus.proofs.Sums.{rule_is_one_digit, check_is_one_digit, check_is_a_digit}
use Rattle.barcode.proofs.Lists.{keys_name_issuers, one_list_refusal, empty_list_is_right, due_is_asked}
use Rattle.barcode.proofs.Lists.{due_is_asked_last, accepted_or_no_due_date}
use Rattle.barcode.proofs.RoundTrips.{decoded_answers, due_is_shown, fields_are_its_places, built_is_read}
use Rattle.barcode.proofs.RoundTrips.{fields_within_ranges_build, code_is_its_fields}
use Rattle.line.proofs.Boxes.{line_is_boxes_and_code, only_seven_behind_boxes}
use Rattle.line.proofs.UnderLists.{decoded_line_answers, accepted_is_boxes_and_code, due_of_line_is_asked}
use Rattle.line.proofs.UnderLists.{due_of_line_is_shown, line_accepted_or_no_due_date, no_due_date_passes_checks}
use Rattle.line.proofs.UnderLists.{empty_list_asks_nothing}
use Rattle.line.proofs.RoundTrips.{code_to_line_and_back, line_to_code_and_back, line_is_its_fields}
use Rattle.line.proofs.RoundTrips.{fields_give_a_line}
use Rattle.layout.proofs.Layouts.{fields_cover, record_is_its_fields, mark_names, given_lengths}
use Rattle.record.proofs.Shown.{decode_answers, right_fields_are_accepted, fields_are_their_places}
use Rattle.record.proofs.Shown.{due_of_record_is_asked, due_of_record_is_shown}
use Rattle.record.proofs.Shown.{headers_name_a_version, other_records_ignore_terms}
use Rattle.record.proofs.Shown.{payments_need_a_version, four_is_within_six}
use Rattle.kinds.proofs.VersionLaws.{versions_are_two_texts, other_kinds_ignore_terms}
use Rattle.fields.proofs.Trips.{fields_make_the_record, made_is_accepted}
use Rattle.fields.proofs.Ignored.{other_joins_ignore_terms, other_makes_ignore_terms, payments_join_under_a_version}
use Rattle.file.proofs.Files.{one_right_trailer}
use Rattle.file.proofs.Forms.{line_end_is_cr_and_lf, fitting_is_in_form}
use Rattle.board.proofs.Lanes.{past_thirty_two_bits}
use Rattle.pairs.proofs.Memories.{next_is_shown, no_number_follows_itself, one_follows_the_last, pair_accepted}
use Rattle.pairs.proofs.Memories.{pair_is_remembered, others_stay, no_room_changes_nothing, memory_stays_sound}
use Rattle.writer.proofs.Written.{fields_write_the_header, fields_write_the_payment, written_is_accepted}
use Rattle.writer.proofs.Written.{payments_written_under_a_version}
use Rattle.writer.proofs.Trailers.{fields_write_the_trailer}
use Rattle.writer.proofs.Amounts.{written_amounts_are_read, trailer_shows_the_figures}
use Rattle.page.proofs.Fits.{page_fits}
use Rattle.page.proofs.Pages.{printed_holds}
use Rattle.page.proofs.Plain.{shown_reads_back}
use Rattle.typos.proofs.Accepted.{passes_by_checks}
use Rattle.typos.proofs.Pieces.{boxes_are_numbered}
use Rattle.typos.proofs.OneTen.{one_changed_digit_is_refused}
use Rattle.typos.proofs.Exchange.{exchange_of_neighbours}
use Rattle.typos.proofs.OneEleven.{one_changed_digit_under_eleven}
use Rattle.typos.proofs.UnderLists.{accepted_by_checks, one_changed_digit_under_a_list, exchange_under_a_list}
use Rattle.typos.proofs.UnderLists.{one_changed_digit_under_eleven_and_a_list}
use Rattle.typos.proofs.Samples.{directions_may_differ, borders_hold, segment_typo_passes, kind_typo_passes}
use Rattle.typos.proofs.Samples.{dated_exchange_is_refused, dated_change_is_refused, segment_typo_meets_an_agreement}
use Rattle.ledger.proofs.Records.{lane_is_the_sessions, equal_is_the_boards, issuers_are_the_lanes}
use Rattle.ledger.proofs.Records.{limits_are_the_boards}
use Rattle.ledger.proofs.Agreement.{session_agrees, answers_are_the_ledgers, next_answer_is_the_ledgers}
use Rattle.ledger.proofs.Sessions.{true_trailers_only, only_trailers_show, nothing_shows_before, trailers_show_all}
use Rattle.ledger.proofs.Sessions.{only_trailers_remember, trailers_remember}
use Rattle.ledger.proofs.Sessions.{abandon_keeps_board, abandon_keeps_memory, abandon_drops_file, abandon_nothing}
use Rattle.ledger.proofs.Sessions.{finish_answers, finish_keeps_session, payments_taken_under_a_version}
use Rattle.ledger.proofs.TariffRefusals.{tariffs_are_asked_last}
use Rattle.ledger.proofs.Shown.{lanes_are_the_payments, lanes_in_order, each_lane_is_exact, no_issuer_has_two_lanes}
use Rattle.ledger.proofs.Shown.{sums_are_the_records, totals_are_the_records, within_limits}
use Rattle.session.proofs.Feeding.{run_is_its_takes, wrong_list_takes_nothing, run_leaves_few}
use Rattle.session.proofs.Feeding.{feeding_is_one_run}
use Rattle.ledger.proofs.Runs.{run_is_the_ledgers}
use Rattle.ledger.proofs.Calls.{calls_agree, replies_are_the_ledgers, calls_are_steps}
use Rattle.ledger.proofs.LedgerFiles.{ledger_files_are_whole, open_files_have_a_version}
use Rattle.ledger.proofs.Forms.{forms_agree, only_ended_records}
use Rattle.ledger.proofs.Numbers.{last_number_is_remembered, pairs_in_order, numbers_follow}
use Rattle.ledger.proofs.FilesTwice.{file_again_is_refused, file_twice_is_refused}
use Rattle.ledger.proofs.FileBytes.{pieces_are_the_records, file_bytes_run}
use Rattle.ledger.proofs.WrittenFiles.{closed_file_bytes_run}
use Rattle.ledger.proofs.WholeFiles.{headers_ask_the_memory, file_accepted, file_posted, fresh_session_accepts, fresh_session_shows}
use Rattle.ledger.proofs.AcceptedFiles.{accepted_file_is_whole}
use Rattle.ledger.proofs.WrittenFiles.{closed_file_is_whole, closed_file_is_accepted, fields_write_the_file}
use Rattle.day.proofs.Inputs.{buffers_print_one_page}
use Rattle.day.proofs.Samples.{worked_input_holds, open_input_holds, lined_input_holds, twice_input, charged_input, refused_input}
use Rattle.promises.specs.Demands.{Demand1, Demand2, Demand3, Promised}
use Rattle.promises.proofs.Calls.{calls_make_one_file, open_writers_have_a_version}
use Rattle.promises.proofs.OneOutcome.{one_outcome}
use Rattle.promises.proofs.Refusals.{refusals_change_nothing}
use Rattle.promises.proofs.Samples.{samples_hold, p5_is_an_exchange, p6_is_a_change, p9_is_a_change}
use Rattle.promises.proofs.Samples.{box_alone_is_refused}
use Rattle.promises.proofs.Shown.{refusals_point_at_places, records_show_their_places, pairs_are_their_places}
use Rattle.promises.proofs.WrongLists.{wrong_lists_are_first}

pub demand_1 : Demand1
demand_1 =
    record {
      one = one_outcome;
      numbered = numbers_differ;
      accepted = zero_is_accepted;
      places = refusals_point_at_places;
      checks = (rule_is_one_digit, check_is_one_digit, check_is_a_digit);
      retired = twenty_is_retired;
      lists = (one_list_refusal, empty_list_is_right, empty_list_asks_nothing, keys_name_issuers);
      wrong_lists = (wrong_lists_are_first, wrong_list_takes_nothing);
      order = then_refuses;
      row = first_refuses;
      boxes = first_refuses;
      behind_boxes = only_seven_behind_boxes;
      bytes = each_refuses;
      tariffs = tariffs_are_asked_last;
      keeps = refusals_change_nothing;
      finishing = finish_keeps_session;
      memory = (only_trailers_remember, trailers_remember, abandon_keeps_memory);
      remembered = (pair_is_remembered, others_stay, no_room_changes_nothing, memory_stays_sound);
      running = run_is_its_takes;
    }

pub demand_2 : Demand2
demand_2 =
    record {
      table = (fields_cover, record_is_its_fields, mark_names, given_lengths);
      versions = (
        versions_are_two_texts,
        headers_name_a_version,
        four_is_within_six,
        open_files_have_a_version,
        open_writers_have_a_version,
      );
      ignored = (
        other_kinds_ignore_terms,
        other_records_ignore_terms,
        other_joins_ignore_terms,
        other_makes_ignore_terms,
      );
      needed = (
        payments_need_a_version,
        payments_join_under_a_version,
        payments_taken_under_a_version,
        payments_written_under_a_version,
      );
      forms = (line_end_is_cr_and_lf, fitting_is_in_form, forms_agree, only_ended_records);
      agreed = (due_is_asked, due_is_asked_last, due_of_line_is_asked, due_of_record_is_asked);
      due = (due_is_shown, due_of_line_is_shown, due_of_record_is_shown);
      codes = (decoded_answers, fields_are_its_places, built_is_read);
      lines = (decoded_line_answers, line_is_boxes_and_code, accepted_is_boxes_and_code, fields_give_a_line);
      records = (
        decode_answers,
        records_show_their_places,
        fields_are_their_places,
        made_is_accepted,
        written_amounts_are_read,
      );
      allowed = (fields_within_ranges_build, right_fields_are_accepted);
      codes_back = code_is_its_fields;
      lines_back = (code_to_line_and_back, line_to_code_and_back, line_is_its_fields);
      records_back = (
        fields_make_the_record,
        fields_write_the_header,
        fields_write_the_payment,
        fields_write_the_trailer,
      );
      files_back = fields_write_the_file;
      trailers = (one_right_trailer, true_trailers_only, ledger_files_are_whole);
      files = (file_accepted, file_posted, accepted_file_is_whole, fresh_session_accepts, fresh_session_shows);
      written = (
        closed_file_is_whole,
        closed_file_is_accepted,
        calls_make_one_file,
        written_is_accepted,
        trailer_shows_the_figures,
      );
      numbers = (last_number_is_remembered, pairs_in_order, numbers_follow);
      again = (file_again_is_refused, file_twice_is_refused);
      following = (headers_ask_the_memory, pair_accepted, pairs_are_their_places);
      next = (next_is_shown, no_number_follows_itself, one_follows_the_last);
      bytes_run = (pieces_are_the_records, file_bytes_run, closed_file_bytes_run);
      fed = (run_leaves_few, feeding_is_one_run);
      answers = (session_agrees, answers_are_the_ledgers, next_answer_is_the_ledgers, run_is_the_ledgers);
      calls = (calls_agree, replies_are_the_ledgers, calls_are_steps);
      ledger = (lane_is_the_sessions, equal_is_the_boards, issuers_are_the_lanes, limits_are_the_boards);
      lanes = (lanes_are_the_payments, lanes_in_order, each_lane_is_exact, no_issuer_has_two_lanes);
      sums = (sums_are_the_records, totals_are_the_records);
      together = (only_trailers_show, nothing_shows_before, trailers_show_all);
      abandoned = (abandon_keeps_board, abandon_drops_file, abandon_nothing, finish_answers);
      full = (past_thirty_two_bits, within_limits);
      printed = (page_fits, printed_holds, shown_reads_back);
    }

pub demand_3 : Demand3
demand_3 =
    record {
      accepted = (passes_by_checks, boxes_are_numbered);
      changed = one_changed_digit_is_refused;
      exchanged = exchange_of_neighbours;
      changed_eleven = one_changed_digit_under_eleven;
      accepted_under = (accepted_by_checks, accepted_or_no_due_date, line_accepted_or_no_due_date, no_due_date_passes_checks);
      changed_under = one_changed_digit_under_a_list;
      exchanged_under = exchange_under_a_list;
      changed_eleven_under = one_changed_digit_under_eleven_and_a_list;
      dated = (dated_exchange_is_refused, dated_change_is_refused, segment_typo_meets_an_agreement);
      real_refused = (p6_is_a_change, box_alone_is_refused);
      real = (p5_is_an_exchange, p9_is_a_change, directions_may_differ, borders_hold);
      beyond = (segment_typo_passes, kind_typo_passes);
    }

pub promised : Promised
promised =
    record {
      first = demand_1;
      second = demand_2;
      third = demand_3;
      p1_to_p12 = samples_hold;
      program = (buffers_print_one_page, worked_input_holds, open_input_holds, lined_input_holds, twice_input, charged_input, refused_input);
    }
