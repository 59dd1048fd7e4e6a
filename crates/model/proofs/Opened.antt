-- To unfold `opened` is to unfold every definition of the model, for a proof by computation.
use Rattle.base_search.specs.Checks.{or_else, first_from, checked, verdict, table}
use Rattle.text_reader.proofs.Opened.{opened as lines_opened}
use Rattle.text_writer.specs.Records.{numeral, field_text, field_texts, record_text, record_texts, record_line, record_lines}
use Rattle.base_laws.specs.Test.{◌and◌, ◌or◌, within, every}
use Rattle.base_laws.specs.Sum.{sum, joined}
use Rattle.base_laws.specs.Indexed.{list}
use Rattle.model.specs.Network.{entry, link_count, signal_count, movement_count, step_count, tram_count, past_count, on_timeline, tram_line, signal_line, link_line, movement_line, timeline_line, step_line, covers, tram_phase, trams, ordinary, signal, capacity}
use Rattle.model.specs.Network.{travel_time, exit_rate, signal_of, phase_mask, standing, waiting_at_start, from_link, to_link, rate, share, timeline_length, past_entries, past_exits, step_length, demand, time, timeline_time, step_at, arrival_step, elapsed}
use Rattle.model.specs.Signals.{phase_of, opens}
use Rattle.model.specs.Flows.{offered, shown_mask, admitted, let_out, moved, shown_in, signal_at, is_open, moved_into, moved_from, inflow, outflow, timeline_inflow, timeline_outflow, timeline_entered, timeline_left, entered, left, has_arrived, held, vehicles, taken, waits, outside, under_way, all_admitted, all_let_out, doubled_time, totals, row_of, row}
use Rattle.model.specs.Rules.{valid_phases, valid_signal, valid_counts, apart, tram_exists, valid_tram, valid_tram_phase, valid_mask, valid_link, pair_rises, valid_movement, last_movement, valid_shares, valid_step, valid_past_of, valid_past, rule10, rule11, rule12, rule13, rule14, rule15, rule16, rule17, rule18, rule25, rule26, rule27, rule29}
use Rattle.model.specs.Table.{is_form, count_checks, tram_checks, signal_checks, tram_phase_checks, link_checks, movement_checks, share_checks, past_checks, step_checks, network_checks, ledger_checks, step_rules, line_checks, plan_line_checks, plan_checks}
use Rattle.model.specs.Calls.{check_network, plan_answer, check_plan, row_checks, rows_written, written, ledger_after, ledger_entered, ledger_left, end_step, end_length, end_elapsed, arrival_entered, scaled_arrived, rises_inside, ledger_arrived, state_checks, link_answer, link_state}
use Rattle.model.specs.Hold.{hold_numbers, hold_lines, meant}
use Rattle.model.specs.Report.{boundary_numbers, report_text, report, not_read}

unfoldable network_opened : Unit {0}
unfolding entry link_count signal_count movement_count step_count tram_count past_count on_timeline tram_line signal_line link_line movement_line timeline_line step_line covers tram_phase trams ordinary signal capacity travel_time exit_rate signal_of phase_mask standing waiting_at_start from_link to_link rate share timeline_length past_entries past_exits step_length demand
network_opened = tt

unfoldable flows_opened : Unit {0}
unfolding time timeline_time step_at arrival_step elapsed phase_of opens shown_mask admitted let_out moved shown_in signal_at is_open moved_into moved_from inflow outflow timeline_inflow timeline_outflow timeline_entered timeline_left entered left has_arrived held vehicles offered taken waits outside under_way all_admitted all_let_out doubled_time totals row_of row
flows_opened = tt

unfoldable rules_opened : Unit {0}
unfolding valid_phases valid_signal valid_counts apart tram_exists valid_tram valid_tram_phase valid_mask valid_link pair_rises valid_movement last_movement valid_shares valid_step valid_past_of valid_past rule10 rule11 rule12 rule13 rule14 rule15 rule16 rule17 rule18 rule25 rule26 rule27 rule29
rules_opened = tt

unfoldable checks_opened : Unit {0}
unfolding is_form count_checks tram_checks signal_checks tram_phase_checks link_checks movement_checks share_checks past_checks step_checks network_checks ledger_checks step_rules line_checks plan_line_checks plan_checks
checks_opened = tt

unfoldable calls_opened : Unit {0}
unfolding check_network plan_answer check_plan hold_numbers hold_lines meant row_checks rows_written written ledger_after ledger_entered ledger_left end_step end_length end_elapsed arrival_entered scaled_arrived rises_inside ledger_arrived state_checks link_answer link_state boundary_numbers report_text report not_read
calls_opened = tt

unfoldable pub opened : Unit {0}
unfolding or_else first_from checked verdict table lines_opened ◌and◌ ◌or◌ within every sum list joined record_line record_lines numeral field_text field_texts record_text record_texts network_opened flows_opened rules_opened checks_opened calls_opened
opened = tt
