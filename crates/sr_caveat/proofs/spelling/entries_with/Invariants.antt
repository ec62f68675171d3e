-- What lasts in the loops of `entries_with`, and what falls.
use Rattle.std.proofs.Common.{◌≡◌, map, take, drop}
use Rattle.pv_value.specs.Plain.{plains}
use Rattle.pv_value.specs.View.{key_and_value}
use Rattle.sr_caveat.specs.Spelled.{paired_with}
use Rattle.sr_caveat.specs.View.{keys_of}
use Rattle.sr_caveat.proofs.Keys.{put_pair, keys_from}
use Rattle.sr_caveat.specs.Lemmas.Folding.{folded}
use Rattle.sr_caveat.proofs.spelling.entries_with.Given as goal

abbrev pub invariant-loop-i : goal.invariant-loop-i
invariant-loop-i l = record {
  pairs_so_far : folded put_pair (map key_and_value l.entries.items)
      (paired_with (keys_of (map key_and_value (drop l.i l.keys))) (plains (drop l.i l.values)))
      ≡ paired_with (keys_of (map key_and_value l.keys)) (plains l.values);
  keys_so_far : keys_from l.entries.items ≡ keys_from (take l.i l.keys);
}
