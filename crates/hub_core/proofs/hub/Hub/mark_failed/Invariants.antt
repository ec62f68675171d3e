use Rattle.std.proofs.Common.{◌≡◌, ℕ, ◌<◌, ◌==◌, ◌||◌, false, get_or}
use Rattle.std.specs.List.{list_any}
use Rattle.hub_core.specs.Work.{class_of, is_in_faults}
use Rattle.hub_core.proofs.hub.Hub.mark_failed.Given as goal

-- what is left to be marked leads to what all leads to
abbrev pub invariant-loop-connection : goal.invariant-loop-connection
invariant-loop-connection g l =
    (p : ℕ) → p < 64 → (list_any (λ k. class_of k == p) l.connection-iterator || get_or l.classes p false)
    ≡ (is_in_faults p l.self || get_or l.fn.classes p false)
