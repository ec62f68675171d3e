use Rattle.std.proofs.Common.{◌≡◌, ◌+◌, ◌-◌, ◌*◌, length, map, true}
use Rattle.std.specs.Prelude.{reverse}
use Rattle.pv_read.specs.Elements.{elements_at}
use Rattle.pv_read.specs.Lemmas.Fronts.{behind_front}
use Rattle.pv_value.specs.View.{key_and_value}
use Rattle.pv_lex.specs.Gaps.{after_blank}
use Rattle.pv_text.specs.Ends.{end_fault}
use Rattle.pv_text.specs.Reading.{closed_at, entry_at, core_at, deeper_at, due_at, value_at}
use Rattle.pv_text.proofs.reading.+read.Given as goal

abbrev pub decreases-read_value : goal.decreases-read_value
decreases-read_value l = 5 * l.budget + 1

abbrev pub decreases-read_core : goal.decreases-read_core
decreases-read_core l = 5 * l.budget

abbrev pub decreases-read_compound : goal.decreases-read_compound
decreases-read_compound l = 5 * l.budget + 4

abbrev pub decreases-read_items : goal.decreases-read_items
decreases-read_items l = 5 * l.budget + 2

abbrev pub decreases-read_entry : goal.decreases-read_entry
decreases-read_entry l = 5 * l.budget + 2

abbrev pub decreases-read_entries : goal.decreases-read_entries
decreases-read_entries l = 5 * l.budget + 3

abbrev pub invariant-read_value-loop : goal.invariant-read_value-loop
invariant-read_value-loop l =
    due_at l.total (core_at l.total (deeper_at l.total l.budget l.commas)) l.commas (l.most - l.counter)
    (end_fault l.at_end) (reverse l.pending.items) l.whole
    ≡ value_at l.total l.budget l.commas (end_fault l.fn.at_end) l.bytes

abbrev pub invariant-read_items-loop : goal.invariant-read_items-loop
invariant-read_items-loop l =
    let element = value_at l.total l.budget l.commas (end_fault l.at_end) in
    behind_front l.items.items (elements_at (after_blank l.commas) l.close (end_fault l.at_end) element
    (length l.bytes - l.counter) l.rest)
    ≡ closed_at l.commas l.close (end_fault l.at_end) element l.bytes

abbrev pub invariant-read_entries-loop : goal.invariant-read_entries-loop
invariant-read_entries-loop l =
    let element = entry_at l.total (value_at l.total l.budget true (end_fault l.at_end)) (end_fault l.at_end) in
    behind_front (map key_and_value l.entries.items) (elements_at (after_blank true) 125 (end_fault l.at_end) element
    (length l.bytes - l.counter) l.rest)
    ≡ closed_at true 125 (end_fault l.at_end) element l.bytes
