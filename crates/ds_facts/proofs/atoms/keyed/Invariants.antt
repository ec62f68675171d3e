-- Those so far, and then the rest, are all.
use Rattle.std.proofs.Common.{◌≡◌, ◌++◌, map, drop}
use Rattle.pv_value.specs.Plain.{pairs}
use Rattle.pv_value.specs.View.{key_and_value}
use Rattle.ds_facts.specs.Atoms.{keyed}
use Rattle.ds_facts.proofs.atoms.keyed.Given as goal

abbrev pub invariant-loop-entry : goal.invariant-loop-entry
invariant-loop-entry l =
    l.list.items ++ keyed (pairs (map key_and_value (drop l.entry-index l.entries)))
    ≡ keyed (pairs (map key_and_value l.entries))
