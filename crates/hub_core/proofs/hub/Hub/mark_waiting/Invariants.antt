use Rattle.std.proofs.Common.{◌≡◌, ℕ, ◌<◌, ◌==◌, ◌||◌, false, get_or}
use Rattle.std.specs.List.{list_any}
use Rattle.hub_core.specs.Work.{class_of, is_in_connections}
use Rattle.hub_core.proofs.Waited.{each_named}
use Rattle.hub_core.proofs.hub.Hub.mark_waiting.Given as goal

-- what is left to be marked leads to what all leads to
abbrev pub invariant-loop-actor : goal.invariant-loop-actor
invariant-loop-actor g l =
    (p : ℕ) → p < 64
    → (list_any (λ k. class_of k == p) (each_named l.actor-iterator l.self) || get_or l.classes p false)
    ≡ (is_in_connections p l.self || get_or l.fn.classes p false)
