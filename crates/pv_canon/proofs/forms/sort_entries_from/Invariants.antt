use Rattle.std.proofs.Common.{◌≡◌, ◌++◌, drop, map}
use Rattle.std.specs.Io.{StartsWith}
use Rattle.std.specs.List.{concat}
use Rattle.pv_canon.specs.Canonical.{joined}
use Rattle.pv_canon.proofs.forms.sort_entries_from.Given as goal

abbrev pub invariant-loop-key : goal.invariant-loop-key
invariant-loop-key l =
    (l.out.items ++ concat (map joined (map (λ e. (e.0.items, e.1.items)) (drop l.key-index l.key-items)))
    ≡ l.initial.out.items ++ concat (map joined (map (λ e. (e.0.items, e.1.items)) l.key-items)))
    × StartsWith l.out.items l.initial.out.items
