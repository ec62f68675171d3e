use Rattle.std.proofs.Common.{◌≡◌, ◌++◌, drop, map}
use Rattle.std.specs.Io.{StartsWith}
use Rattle.std.specs.List.{concat}
use Rattle.pv_canon.proofs.forms.sort_from.Given as goal

abbrev pub invariant-loop-form : goal.invariant-loop-form
invariant-loop-form l =
    (l.out.items ++ concat (map (λ f. f.items) (drop l.form-index l.form-items))
    ≡ l.initial.out.items ++ concat (map (λ f. f.items) l.form-items))
    × StartsWith l.out.items l.initial.out.items
