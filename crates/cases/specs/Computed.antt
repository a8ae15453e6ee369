-- The definition with all that it takes to compute it: oracle/computed writes this file.
use Rattle.std.specs.Prelude.{ℕ, List, [], ◌∷◌}
use Rattle.std.specs.Int.Count.{count_trailing_zeros, ones}
use Rattle.definition.specs.Call.{Decided, reported, turned}
use Rattle.le.specs.Le.{at8, at16, at32, le16, le32}
use Rattle.le.specs.Wrote.{put as wrote-put}
use Rattle.masks.specs.Mask.{scalar, body, kind, one_kind, operand_cases, operand_kind, operand_counted, constant, immediate}
use Rattle.widths.specs.Width.{scalar_width}
use Rattle.widths.specs.Shape.{shape_mask, declared_width}
use Rattle.flows.specs.Flow.{join_flow, same_flow, no_flow, new_flow, minimum_of, maximum_of, invalidated, bare}
use Rattle.cells.specs.Cell.{unit_cell, made, declared, join_cell, same_cell, invalidated_cell, bare_cell, narrow_enum, guarded_width}
use Rattle.packing.specs.Packing.{scalar_span, packed_one, packed_extent, construction}
use Rattle.description.specs.Fields.{tag_at, len_at, next_at, fields_f, fields_from, of_tag, shape_of, header_of, chunk_of, tags_at, params_at, params_of, param_of, result_of, instr_of, has_site as fields-has_site, yielded_of, reply_of}
use Rattle.ops.specs.Ops.{rules, rule_of}
use Rattle.answers.specs.Answers.{in_field, numbers, indexed_numbers}
use Rattle.definition.specs.Machine.{push, put_joined, put_at, put_in, put as machine-put, puts, visit_at, visit, adds, enter, finish, end_round, ending, onward, settle, settled, on_seen, takes, next, entry_due, on_next, run, begun, check}
use Rattle.definition.specs.Module.{row, site_of, line_of, code_after, signed_params, chunk_from, chunks_from, native_of, init_of, module_from, module_of}
use Rattle.definition.specs.State.{join_cells, same_cells, join_states, same_states, join_if, join}
use Rattle.definition.specs.Data.{slot_count, slots_from, member, is_body, any_body, crossed, data_fault, shared_mask, slot, data_width, kinds_in, width_in, flow_in, whole_extent, private_cell, fresh, read_slots, slot_allows}
use Rattle.definition.specs.Outputs.{no_cell, common_kinds, bits_mask, if_has, negation, with_predicate, with_origin, origin_at, constant_cell, field_cell, owned_if, native_cell, at, reply_shape, reply_cell as outputs-reply_cell, constructed_extent, composite_cell, first_output, inspection, predicate_on, tested, status_mask, second_output, rest_output, made_from, outputs, output, setting}
use Rattle.definition.specs.Wants.{require, meet, every, same, yielded_mask, stored, pair_kinds, declared_kinds, returned_want, part_want, want_by, declared_mask, want_of, write_check, at_index, operand_check, operand_checks, checks_by, checks, is_proven, all_proven, guard_of, guards_in, guards, is_unknown, unpacked, unfit}
use Rattle.definition.specs.Ways.{exit_of, branch, ways_of, receiver_on, narrowing, is_from, narrow_stack, narrowed, along, forget, set_locals, output_list, kept, reset_first, is_reset, reset, after, on_way, leaving_by, leaving}
use Rattle.definition.specs.Leaves.{line_at, visit_of, hopeless, is_return, always, gives_by, gives, visited, leaves, join_at, moved_at, stored_flow, with_flows, write_flow, write_mask, write_slot, write_slots, absorb, union_masks, same_masks, opened, closed, moved}
use Rattle.definition.specs.Start.{tag_mask, agree, admission, admitted, declared_params, init_mask, first_facts, overfull, site_reply, reply_in, replies, first_reply, reply_cell as start-reply_cell, bounded, reply_maximum, is_site, has_site as start-has_site, calls_one, suspend_more, suspend_loop, suspends, known_of, filled, start, last, under_eight, inspection_fault, state_fault, inspected, after_chunk}
use Rattle.definition.specs.Form.{fits, fit_of, header_fault, shape_fine, tags_fine, shapes_fine, chunk_len, signature_fine, chunk_fault, senseless, too_large, misplaced, unfitting, instr_fault, site_fault, table_fault, header_step, chunk_step, instr_step, site_step, so_far, table_step, field_step, parameters, late_fault, late_look, after_look, finished, on_step, scan_from, form_of}
use Rattle.definition.specs.Report.{guard_before, guards_rise, signatures_from, slot_cells, placed, record_from, record_of, says_false, is_test, inspection_of, branch_of, from_state, from_states, from_chunks, report_of, sized_bytes, width_bytes, range_bytes, body_bytes, owned_byte, origin_number, receiver_number, when_byte, bodies_bytes, source_bytes, cell_bytes, cells_bytes, field, signature_bytes, slot_bytes, outputs_bytes, guards_bytes, counts_bytes, record_bytes, inspection_bytes, branch_bytes, each, report_bytes}
use Rattle.definition.specs.Call.{run_of, on_ran, admitted_run, on_reply, known, on_admitted, decided, on_form, decide, left_words, turned_back, delivered, outcome_of, call}
use Rattle.definition.specs.CallIndexed.{turned_back_with, delivered_with, index_of, outcome_with, call_indexed}

-- what is decided, as numbers: 0, the steps and the report's bytes; or 1, number, chunk, instruction and steps
unfoldable pub shown : Decided → List ℕ
shown (reported r steps) = 0 ∷ steps ∷ report_bytes r
shown (turned r) = 1 ∷ r.number ∷ r.chunk ∷ r.instruction ∷ r.steps ∷ []

-- `unfolding computed` opens all that stands here
unfoldable pub computed : List ℕ → ℕ → ℕ → List ℕ
unfolding shown count_trailing_zeros ones at8 at16 at32 le16 le32 wrote-put scalar body kind one_kind operand_cases operand_kind operand_counted constant immediate scalar_width shape_mask declared_width join_flow same_flow no_flow new_flow minimum_of maximum_of invalidated bare unit_cell made declared join_cell same_cell invalidated_cell bare_cell narrow_enum guarded_width scalar_span packed_one packed_extent construction tag_at len_at next_at fields_f fields_from of_tag shape_of header_of chunk_of tags_at params_at params_of param_of result_of instr_of fields-has_site yielded_of reply_of rules rule_of in_field numbers indexed_numbers push put_joined put_at put_in machine-put puts visit_at visit adds enter finish end_round ending onward settle settled on_seen takes next entry_due on_next run begun check row site_of line_of code_after signed_params chunk_from chunks_from native_of init_of module_from module_of join_cells same_cells join_states same_states join_if join slot_count slots_from member is_body any_body crossed data_fault shared_mask slot data_width kinds_in width_in flow_in whole_extent private_cell fresh read_slots slot_allows no_cell common_kinds bits_mask if_has negation with_predicate with_origin origin_at constant_cell field_cell owned_if native_cell at reply_shape outputs-reply_cell constructed_extent composite_cell first_output inspection predicate_on tested status_mask second_output rest_output made_from outputs output setting require meet every same yielded_mask stored pair_kinds declared_kinds returned_want part_want want_by declared_mask want_of write_check at_index operand_check operand_checks checks_by checks is_proven all_proven guard_of guards_in guards is_unknown unpacked unfit exit_of branch ways_of receiver_on narrowing is_from narrow_stack narrowed along forget set_locals output_list kept reset_first is_reset reset after on_way leaving_by leaving line_at visit_of hopeless is_return always gives_by gives visited leaves join_at moved_at stored_flow with_flows write_flow write_mask write_slot write_slots absorb union_masks same_masks opened closed moved tag_mask agree admission admitted declared_params init_mask first_facts overfull site_reply reply_in replies first_reply start-reply_cell bounded reply_maximum is_site start-has_site calls_one suspend_more suspend_loop suspends known_of filled start last under_eight inspection_fault state_fault inspected after_chunk fits fit_of header_fault shape_fine tags_fine shapes_fine chunk_len signature_fine chunk_fault senseless too_large misplaced unfitting instr_fault site_fault table_fault header_step chunk_step instr_step site_step so_far table_step field_step parameters late_fault late_look after_look finished on_step scan_from form_of guard_before guards_rise signatures_from slot_cells placed record_from record_of says_false is_test inspection_of branch_of from_state from_states from_chunks report_of sized_bytes width_bytes range_bytes body_bytes owned_byte origin_number receiver_number when_byte bodies_bytes source_bytes cell_bytes cells_bytes field signature_bytes slot_bytes outputs_bytes guards_bytes counts_bytes record_bytes inspection_bytes branch_bytes each report_bytes run_of on_ran admitted_run on_reply known on_admitted decided on_form decide left_words turned_back delivered outcome_of call turned_back_with delivered_with index_of outcome_with call_indexed
computed s words limit = shown (decide s words limit)
