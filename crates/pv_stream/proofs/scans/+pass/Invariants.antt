use Rattle.std.proofs.Common.{◌≡◌, ◌+◌, ◌-◌, ◌*◌, length}
use Rattle.pv_stream.specs.Scans.{past_end, past_entry, past_value}
use Rattle.pv_stream.proofs.scans.+pass.Given as goal

abbrev pub decreases-pass : goal.decreases-pass
decreases-pass l = 3 * l.budget

abbrev pub decreases-pass_items : goal.decreases-pass_items
decreases-pass_items l = 3 * l.budget + 1

abbrev pub decreases-pass_entries : goal.decreases-pass_entries
decreases-pass_entries l = 3 * l.budget + 1

abbrev pub decreases-pass_compound : goal.decreases-pass_compound
decreases-pass_compound l = 3 * l.budget + 2

abbrev pub invariant-pass_items-loop : goal.invariant-pass_items-loop
invariant-pass_items-loop l =
    past_end l.total (past_value l.total l.budget) (length l.bytes - l.counter) l.rest
    ≡ past_end l.total (past_value l.total l.budget) (length l.bytes) l.bytes

abbrev pub invariant-pass_entries-loop : goal.invariant-pass_entries-loop
invariant-pass_entries-loop l =
    past_end l.total (past_entry (past_value l.total l.budget)) (length l.bytes - l.counter) l.rest
    ≡ past_end l.total (past_entry (past_value l.total l.budget)) (length l.bytes) l.bytes
