-- A step's end: nobody is over any limit after it, and where nobody is before, it does nothing.
use Rattle.std.proofs.Common.{◌≡◌, ◌≢◌, ℕ, ◌==◌, List, [], ◌∷◌, Bool, true, false, cond, Option, Some, None}
use Rattle.std.proofs.Common.{inl, inr, refl, ap, ◌∙◌, subst, arith, is_some}
use Rattle.std.specs.BTreeMap.{is_at}
use Rattle.std.specs.Map.{keys_of}
use Rattle.std.specs.Ordering.{nat_cmp}
use Rattle.std.proofs.lemmas.Bool.Decides.{nat_tests}
use Rattle.ac_table.specs.Sums.{top_load}
use Rattle.ac_table.specs.Tables.{is_live}
use Rattle.ac_world.specs.declared.spreads.Spread.{Spread as SpreadOf}
use Rattle.ac_world.specs.Sums.{deliveries}
use Rattle.ac_world.specs.Worlds.{WorldState, actor_of, entry_of, ended_of}
use Rattle.ac_world.specs.Lemmas.Entries.{out_other}
use Rattle.rl_ports.specs.Ports.{PortsState}
use Rattle.hub_machine.specs.declared.faults.Fault.{Fault}
use Rattle.hub_machine.specs.State.{State}
use Rattle.hub_machine.specs.Endings.{failed, failed_where, overrun_by, overrun_of, all_overrun, all_spread_out, finished}
use Rattle.hub_valid.specs.Lemmas.Lives.{live_ended}
use Rattle.hub_laws.proofs.Leaving.{one_or_not}
use Rattle.hub_laws.proofs.Presence.{dead_itself}
use Rattle.hub_laws.proofs.Uncounted.{endings_spare_others}

pub apart_actors : (k j : ℕ) → k ≢ j → actor_of k ≢ actor_of j
apart_actors k j apart = λ same. apart (omega (arith, same))

-- an actor but a is as live once a has ended
pub live_but : (b a : ℕ) (w : WorldState) → b ≢ a → is_live b (ended_of a w).table ≡ is_live b w.table
live_but b a w apart = live_ended b a w ∙ by (b == a) refl
  where
    by : (c : Bool) → (b == a) ≡ c → cond c false (is_live b w.table) ≡ is_live b w.table
    by true is = absurd (apart (grind (arith, nat_tests, is)))
    by false is = refl

-- ---- why a connection ends at a step's end

-- of one that isn't there nothing is over
pub unless_live : (k : ℕ) (s : State) → is_live (actor_of k) s.world.table ≡ false → overrun_of k s ≡ None
unless_live k s dead = by (is_live (actor_of k) s.world.table) dead
  where
    by : (b : Bool) → b ≡ false
        → cond (is_some (cond b (entry_of k s.connections) None))
        (overrun_by (top_load (deliveries (actor_of k) s.world))) None ≡ None
    by true is = absurd cc
    by false is = refl

pub unless_named : (k : ℕ) (s : State) → entry_of k s.connections ≡ None → overrun_of k s ≡ None
unless_named k s none = by (is_live (actor_of k) s.world.table) (entry_of k s.connections) none
  where
    by : (b : Bool) (o : Option PortsState) → o ≡ None
        → cond (is_some (cond b o None)) (overrun_by (top_load (deliveries (actor_of k) s.world))) None ≡ None
    by true None is = refl
    by true (Some p) is = absurd cc
    by false o is = refl

-- from s to t connection k is there as before, and as much is held and waits for it
pub record IsAsBefore (k : ℕ) (s t : State) : Type 0 where
  pub live : is_live (actor_of k) t.world.table ≡ is_live (actor_of k) s.world.table
  pub names : entry_of k t.connections ≡ entry_of k s.connections
  pub load : deliveries (actor_of k) t.world ≡ deliveries (actor_of k) s.world

pub over_as_before : (k : ℕ) (s t : State) → IsAsBefore k s t → overrun_of k t ≡ overrun_of k s
over_as_before k s t same =
    λ i. cond (is_some (cond (same.live i) (same.names i) None)) (overrun_by (top_load (same.load i))) None

-- another connection ends
pub other_fails : (k j : ℕ) (f : Fault) (s : State) → k ≢ j → IsAsBefore k s (failed j f s)
other_fails k j f s apart = record {
  live = live_but (actor_of k) (actor_of j) s.world (apart_actors k j apart);
  names = out_other j k s.connections apart;
  load = endings_spare_others (actor_of j) (actor_of k) s.world (apart_actors k j apart);
}

pub fails_itself : (k : ℕ) (f : Fault) (s : State) → overrun_of k (failed k f s) ≡ None
fails_itself k f s = unless_live k (failed k f s) (dead_itself (actor_of k) s.world)

pub within_failed : (k j : ℕ) (f : Fault) (s : State) → overrun_of k s ≡ None → overrun_of k (failed j f s) ≡ None
within_failed k j f s within = elim (one_or_not k j) [
  | inl same ↦ subst (λ i. overrun_of k (failed i f s) ≡ None) same (fails_itself k f s)
  | inr apart ↦ over_as_before k s (failed j f s) (other_fails k j f s apart) ∙ within
]

-- ---- nobody is over afterwards

module _ (k : ℕ) where
  within_where : (j : ℕ) (o : Option Fault) (s : State) → overrun_of k s ≡ None
      → overrun_of k (failed_where j o s) ≡ None
  within_where j None s within = within
  within_where j (Some f) s within = within_failed k j f s within

  stays_within : (js : List ℕ) (s : State) → overrun_of k s ≡ None → overrun_of k (all_overrun js s) ≡ None
  stays_within [] s within = within
  stays_within (j ∷ js) s within =
      stays_within js (failed_where j (overrun_of j s) s) (within_where j (overrun_of j s) s within)

  -- it ends where it is over
  looked_at : (s : State) → overrun_of k (failed_where k (overrun_of k s) s) ≡ None
  looked_at s = by (overrun_of k s) refl
    where
      by : (o : Option Fault) → overrun_of k s ≡ o → overrun_of k (failed_where k o s) ≡ None
      by None is = is
      by (Some f) is = fails_itself k f s

  each_looked_at : (es : List (ℕ × PortsState)) (p : PortsState) (s : State) → entry_of k es ≡ Some p
      → overrun_of k (all_overrun (keys_of es) s) ≡ None
  each_looked_at [] p s found = absurd cc
  each_looked_at (e ∷ es) p s found =
      by (is_at (nat_cmp k) e.0) refl found (λ t is. each_looked_at es p t is)
    where
      next : State
      next = failed_where e.0 (overrun_of e.0 s) s

      by : (c : Bool) → is_at (nat_cmp k) e.0 ≡ c → cond c (Some e.1) (entry_of k es) ≡ Some p
          → ((t : State) → entry_of k es ≡ Some p → overrun_of k (all_overrun (keys_of es) t) ≡ None)
          → overrun_of k (all_overrun (keys_of es) next) ≡ None
      by true here found later =
          let same : k ≡ e.0 = grind (arith, nat_tests, here) in
          stays_within (keys_of es) next
          (subst (λ j. overrun_of k (failed_where j (overrun_of j s) s) ≡ None) same (looked_at s))
      by false past found later = later next found

pub none_over : (xs : List SpreadOf) (s : State) (k : ℕ) → overrun_of k (finished xs s) ≡ None
none_over xs s k = by (entry_of k u.connections) refl
  where
    u : State
    u = all_spread_out xs s

    by : (o : Option PortsState) → entry_of k u.connections ≡ o
        → overrun_of k (all_overrun (keys_of u.connections) u) ≡ None
    by None none = stays_within k (keys_of u.connections) u (unless_named k u none)
    by (Some p) found = each_looked_at k u.connections p u found

-- ---- where nobody is over before, nothing is done

pub nothing_to_do : (js : List ℕ) (s : State) → ((j : ℕ) → overrun_of j s ≡ None) → all_overrun js s ≡ s
nothing_to_do [] s within = refl
nothing_to_do (j ∷ js) s within =
    ap (λ o. all_overrun js (failed_where j o s)) (within j) ∙ nothing_to_do js s within

pub undone : (s : State) → ((j : ℕ) → overrun_of j s ≡ None) → finished [] s ≡ s
undone s within = nothing_to_do (keys_of s.connections) s within
