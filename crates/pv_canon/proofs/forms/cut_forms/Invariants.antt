use Rattle.std.proofs.Common.{◌≡◌, ◌++◌, drop, map}
use Rattle.std.specs.List.{concat}
use Rattle.pv_value.specs.Plain.{plains}
use Rattle.pv_canon.specs.Canonical.{forms}
use Rattle.pv_canon.proofs.forms.cut_forms.Given as goal

abbrev pub invariant-loop-x : goal.invariant-loop-x
invariant-loop-x l =
    (l.rest ≡ concat (forms (plains (drop l.x-index l.items))))
    × (map (λ f. f.items) l.forms.items ++ forms (plains (drop l.x-index l.items)) ≡ forms (plains l.items))
