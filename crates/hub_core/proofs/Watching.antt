-- Where a watcher may begin: nobody has come yet, so nobody has names, and few watchers began before it.
use Rattle.std.proofs.Common.{◌≡◌, ℕ, ◌<◌, ◌≤◌, List, [], ◌∷◌, false, None, length, refl, ap, ◌∙◌, arith}
use Rattle.std.specs.List.{AllByRecursion}
use Rattle.ac_world.specs.Limits.{most_watchers}
use Rattle.ac_world.specs.declared.watched.Watched.{Watched}
use Rattle.ac_world.specs.Worlds.{entry_of}
use Rattle.rl_ports.specs.Ports.{PortsState}
use Rattle.hub_machine.specs.State.{State}
use Rattle.hub_machine.specs.Machine.{is_unwatchable}
use Rattle.hub_valid.specs.Lemmas.Watchers as valid
use Rattle.hub_valid.specs.Lemmas.Watchers.{MayWatch}
use Rattle.hub_valid.specs.Validity.{Lived, IsValidEntry}

-- nothing is against it in a hub's parts, where nothing is in the hub
pub free_inside : (x : Watched) (s t : State) → s ≡ t → is_unwatchable x t ≡ false → is_unwatchable x s ≡ false
free_inside x s t is free = ap (is_unwatchable x) is ∙ free

pub may_watch : (x : Watched) (s : State) → is_unwatchable x s ≡ false
    → (s.world.opened ≡ 0) × (length s.world.watches < most_watchers)
may_watch x s is = let may : MayWatch x s = valid.may_watch x s is in (may.none_come, may.few)

-- where nobody has come nobody has names
pub none_named : (n : Lived) (names : List (ℕ × PortsState)) → n.opened ≡ 0 → AllByRecursion (IsValidEntry n) names
    → (k : ℕ) → entry_of k names ≡ None
none_named n [] none all k = refl
none_named n (e ∷ es) none all k =
    let come : 1 ≤ e.0 = all.0.0.0 in
    let last : e.0 ≤ n.opened = all.0.0.1 in
    let never : ⊥ = omega (arith, come, last, none) in
    absurd never
