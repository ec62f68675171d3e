use Rattle.std.proofs.Common.{◌≤◌, length}
use Rattle.sc_events.specs.Limits.{most_input}
use Rattle.sc_events.specs.SoFar.{left}
use Rattle.dsd_top.specs.Forms.{made_of}
use Rattle.dsd_top.proofs.Readings.{IsMadeSoFar}
use Rattle.dsd_top.proofs.values.values_to_end.Given as goal

-- this is made of the values so far
abbrev pub invariant-loop-value : goal.invariant-loop-value
invariant-loop-value l = record {
  short : length l.bytes ≤ most_input;
  made : IsMadeSoFar l.fn.input (made_of l.fn.each) l.bytes l.place l.values l.out.items;
}

abbrev pub decreases-loop-value : goal.decreases-loop-value
decreases-loop-value l = left l.values
