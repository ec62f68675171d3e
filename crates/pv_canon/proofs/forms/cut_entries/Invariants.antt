use Rattle.std.proofs.Common.{◌≡◌, ◌++◌, drop, map}
use Rattle.std.specs.List.{concat}
use Rattle.pv_value.specs.Plain.{pairs}
use Rattle.pv_value.specs.View.{key_and_value}
use Rattle.pv_canon.specs.Canonical.{entry_forms, joined}
use Rattle.pv_canon.proofs.forms.cut_entries.Given as goal

abbrev pub invariant-loop-e : goal.invariant-loop-e
invariant-loop-e l =
    (l.rest ≡ concat (map joined (entry_forms (pairs (map key_and_value (drop l.e-index l.entries))))))
    × (map (λ f. (f.0.items, f.1.items)) l.forms.items
    ++ entry_forms (pairs (map key_and_value (drop l.e-index l.entries)))
    ≡ entry_forms (pairs (map key_and_value l.entries)))
