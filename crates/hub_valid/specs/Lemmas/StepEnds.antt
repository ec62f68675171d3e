-- What the end of a step keeps: what stays true where a connection ends for a fault, for which one may end there, and
-- where a watcher ends.
use Rattle.std.proofs.Common.{◌≡◌, ℕ, ◌-◌, ◌<◌, ◌≤◌, List, [], ◌∷◌, Bool, true, false, cond, Option, Some, None}
use Rattle.std.proofs.Common.{refl, arith}
use Rattle.std.specs.Prelude.{nat_lt}
use Rattle.std.specs.List.{AllByRecursion}
use Rattle.std.specs.Map.{keys_of}
use Rattle.std.proofs.lemmas.Bool.Decides.{nat_tests}
use Rattle.ac_world.specs.declared.spreads.Spread.{Spread as SpreadOf}
use Rattle.ac_table.specs.Sums.{top_load}
use Rattle.ac_world.specs.Sums.{deliveries}
use Rattle.ac_world.specs.Worlds.{actor_of}
use Rattle.hub_machine.specs.declared.faults.Fault.{Fault}
use Rattle.hub_machine.specs.declared.faults.Fault.TheVariants.{Spread}
use Rattle.hub_machine.specs.State.{State, is_there}
use Rattle.hub_machine.specs.Endings.{failed, failed_where, dismissed, spread_out, all_spread_out, overrun_by}
use Rattle.hub_machine.specs.Endings.{overrun_of, all_overrun, finished}

-- a connection that is there and a watcher may end for a spread that is named, and a connection where too much is held
-- and waits for it
module _ (P : State → Type 0) (IsNamed : SpreadOf → Type 0)
    (spreads : (x : SpreadOf) (k : ℕ) (s : State) → IsNamed x → actor_of k ≡ x.actor → is_there k s ≡ true → P s
    → P (failed k (Spread x.weight) s))
    (dismisses : (x : SpreadOf) (s : State) → IsNamed x → 9 ≤ x.actor → x.actor < 17 → P s → P (dismissed x.actor s))
    (overruns : (k : ℕ) (f : Fault) (s : State) → overrun_by (top_load (deliveries (actor_of k) s.world)) ≡ Some f
    → is_there k s ≡ true → P s → P (failed k f s))
  where
    spread_keeps : (x : SpreadOf) (s : State) → IsNamed x → P s → P (spread_out x s)
    spread_keeps x s named p =
        by (nat_lt x.actor 9) (nat_lt x.actor 17) (is_there (x.actor - 16) s) refl refl refl
      where
        by : (b c d : Bool) → nat_lt x.actor 9 ≡ b → nat_lt x.actor 17 ≡ c → is_there (x.actor - 16) s ≡ d
            → P (cond b s (cond c (dismissed x.actor s) (cond d (failed (x.actor - 16) (Spread x.weight) s) s)))
        by true c d always near there = p
        by false true d always near there =
            let high : 9 ≤ x.actor = grind (arith, nat_tests, always) in
            let low : x.actor < 17 = grind (arith, nat_tests, near) in
            dismisses x s named high low p
        by false false true always near there =
            let high : 17 ≤ x.actor = grind (arith, nat_tests, near) in
            spreads x (x.actor - 16) s named (omega (arith, high)) there p
        by false false false always near there = p

    all_spread_keeps : (xs : List SpreadOf) (s : State) → AllByRecursion IsNamed xs → P s → P (all_spread_out xs s)
    all_spread_keeps [] s named p = p
    all_spread_keeps (x ∷ xs) s named p =
        all_spread_keeps xs (spread_out x s) named.1 (spread_keeps x s named.0 p)

    overrun_keeps : (k : ℕ) (s : State) → P s → P (failed_where k (overrun_of k s) s)
    overrun_keeps k s p = by (is_there k s) refl
      where
        over : (o : Option Fault) → overrun_by (top_load (deliveries (actor_of k) s.world)) ≡ o
            → is_there k s ≡ true → P (failed_where k o s)
        over None is there = p
        over (Some f) is there = overruns k f s is there p

        by : (b : Bool) → is_there k s ≡ b
            → P (failed_where k (cond b (overrun_by (top_load (deliveries (actor_of k) s.world))) None) s)
        by true there = over (overrun_by (top_load (deliveries (actor_of k) s.world))) refl there
        by false there = p

    all_overrun_keeps : (ks : List ℕ) (s : State) → P s → P (all_overrun ks s)
    all_overrun_keeps [] s p = p
    all_overrun_keeps (k ∷ ks) s p =
        all_overrun_keeps ks (failed_where k (overrun_of k s) s) (overrun_keeps k s p)

    pub finished_keeps_for : (xs : List SpreadOf) (s : State) → AllByRecursion IsNamed xs → P s → P (finished xs s)
    finished_keeps_for xs s named p =
        all_overrun_keeps (keys_of (all_spread_out xs s).connections) (all_spread_out xs s)
        (all_spread_keeps xs s named p)

-- whatever the fault
pub finished_keeps :
    (P : State → Type 0)
    → ((k : ℕ) (f : Fault) (s : State) → is_there k s ≡ true → P s → P (failed k f s))
    → ((a : ℕ) (s : State) → 9 ≤ a → a < 17 → P s → P (dismissed a s))
    → (xs : List SpreadOf) (s : State) → P s → P (finished xs s)
finished_keeps P fails dismisses xs s p =
    finished_keeps_for P (λ x. Unit {0}) (λ x k t named at there q. fails k (Spread x.weight) t there q)
    (λ x t named high low q. dismisses x.actor t high low q) (λ k f t is there q. fails k f t there q) xs s (all xs) p
  where
    all : (ys : List SpreadOf) → AllByRecursion (λ y. Unit {0}) ys
    all [] = tt
    all (y ∷ ys) = (tt, all ys)
