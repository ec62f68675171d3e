use Rattle.std.proofs.Common.{◌≡◌, ◌+◌, ◌*◌, ◌++◌, drop, map}
use Rattle.pv_value.specs.Plain.{plains, pairs}
use Rattle.pv_value.specs.Lemmas.Measures.{measure, measure_all, measure_pairs}
use Rattle.pv_value.specs.View.{key_and_value}
use Rattle.std.specs.Io.{StartsWith}
use Rattle.pv_print.specs.Printed.{printed_behind, entries_behind}
use Rattle.pv_print.proofs.printing.+push.Given as goal

abbrev pub decreases-push_value : goal.decreases-push_value
decreases-push_value l = 2 * measure l.v.now

abbrev pub decreases-push_all : goal.decreases-push_all
decreases-push_all l = 2 * measure_all (plains l.items.now)

abbrev pub decreases-push_behind : goal.decreases-push_behind
decreases-push_behind l = 2 * measure_all (plains l.items.now)

abbrev pub decreases-push_entries : goal.decreases-push_entries
decreases-push_entries l = 2 * measure_pairs (pairs (map key_and_value l.entries.now))

abbrev pub decreases-push_entries_behind : goal.decreases-push_entries_behind
decreases-push_entries_behind l = 2 * measure_pairs (pairs (map key_and_value l.entries.now))

abbrev pub decreases-push_entry : goal.decreases-push_entry
decreases-push_entry l = 1 + 2 * (measure l.entry.now.key + measure l.entry.now.value)

abbrev pub invariant-push_behind-loop-x : goal.invariant-push_behind-loop-x
invariant-push_behind-loop-x l = record {
  text : l.out.items ++ printed_behind (plains (drop l.x-index l.items))
      ≡ l.initial.out.items ++ printed_behind (plains l.items);
  front : StartsWith l.out.items l.initial.out.items;
}

abbrev pub invariant-push_entries_behind-loop-e : goal.invariant-push_entries_behind-loop-e
invariant-push_entries_behind-loop-e l = record {
  text : l.out.items ++ entries_behind (pairs (map key_and_value (drop l.e-index l.entries)))
      ≡ l.initial.out.items ++ entries_behind (pairs (map key_and_value l.entries));
  front : StartsWith l.out.items l.initial.out.items;
}
