use Rattle.std.proofs.Common.{◌≡◌, ◌+◌, ◌-◌, ◌^◌, ◌≤◌, drop}
use Rattle.ac_table.specs.Sums.{top, load_in}
use Rattle.ac_table.proofs.loads.load_in.Given as goal

-- what is added up and what is left come to what all come to
abbrev pub invariant-loop-event : goal.invariant-loop-event
invariant-loop-event l = record {
  count : top (l.load.count + (load_in (drop l.event-index l.events)).count) ≡ top (load_in l.events).count;
  weight : top (l.load.weight + (load_in (drop l.event-index l.events)).weight) ≡ top (load_in l.events).weight;
  count_fits : l.load.count ≤ 2 ^ 64 - 1;
  weight_fits : l.load.weight ≤ 2 ^ 64 - 1;
}
