-- The opening state is sound, and so is every run of allowed steps from it.
use Rattle.std.specs.List.{AllByRecursion}
use Rattle.std.proofs.Common.{◌≡◌, ℕ, zero, suc, ◌+◌, ◌<◌, ◌≤◌, List, [], Bool, true, false, cond, Option, Some}
use Rattle.std.proofs.Common.{None, unwrap_or, refl, sym, ap, subst, arith, inl, leb}
use Rattle.std.specs.BTreeMap.{is_at}
use Rattle.std.specs.Ordering.{nat_cmp}
use Rattle.std.proofs.lemmas.Bool.Decides.{nat_tests}
use Rattle.ac_table.specs.Tables.{is_live}
use Rattle.ps_schema.specs.declared.Definition.{Definition}
use Rattle.ac_world.specs.Watchers.{watcher_of}
use Rattle.ac_world.specs.Worlds.{Resident, first_actors, beginning, is_system, no_resident, resident_of, entry_of}
use Rattle.ac_world.specs.Lemmas.Entries.{ascend_none, ascend_cons}
use Rattle.ac_world.specs.Behaviours.{behaviour_of}
use Rattle.hub_machine.specs.State.{opening}
use Rattle.hub_machine.specs.Replays.{replay}
use Rattle.hub_machine.specs.declared.steps.Step.{Step}
use Rattle.hub_laws.specs.Laws.{AreAllowed}
use Rattle.hub_laws.specs.Standing.{events_of, value_alone}
use Rattle.hub_laws.proofs.Kept.{IsServedBy, IsServed, IsSound, IsHub, IsOfRow, IsMetIn}
use Rattle.hub_laws.proofs.Owned.{no_wants_met}
use Rattle.hub_laws.proofs.Steps.{run_hub}
use Rattle.hub_valid.specs.Lemmas.Hubs.{stays_valid}
use Rattle.hub_laws.specs.Wanting.{IsMet}
use Rattle.hub_laws.proofs.FirstActors.{first_dead, first_inbox, first_live, first_table}
use Rattle.hub_laws.proofs.Wanted.{lawful}
use Rattle.hub_laws.proofs.Watching.{low_is_none}

-- ---- the opening

nobody_got : (ds : List Definition) (a : ℕ) → resident_of a (beginning ds) ≡ no_resident
nobody_got ds a = by (is_at (nat_cmp a) 0)
  where
    by : (b : Bool) → unwrap_or (cond {A = Option Resident} b (Some no_resident) None) no_resident ≡ no_resident
    by true = refl
    by false = refl

nothing_served : (ds : List Definition) (a : ℕ) (s : Bool) → IsServed [] a [] (beginning ds) s
nothing_served ds a true =
    subst (λ (r : Resident). IsServedBy value_alone [] [] (beginning ds).table.next a r.got []) (sym
    (nobody_got ds a))
    (record {
      near = λ here. record { should_ascends = ascend_none; kept_ascends = ascend_none; near = λ h. inl refl };
      log = (ascend_none, tt);
      fits = tt;
    })
nothing_served ds a false = record {
  near = λ here. record { should_ascends = ascend_none; kept_ascends = ascend_none; near = λ h. inl refl };
  log = (ascend_none, tt);
  fits = tt;
}

opening_sound : (ds : List Definition) → IsSound [] (beginning ds)
opening_sound ds = record {
  table = first_table 9;
  always = λ a l. first_live 9 a l;
  watchers = λ a l live. below a live;
  watches = tt;
  numbers = λ a live. low a live;
  rows = tt;
  served = λ a x found.
      subst (λ bs. IsServed [] a bs (beginning ds) (is_system a)) (sym (first_inbox 9 a x found))
      (nothing_served ds a (is_system a));
  met = λ a l live. first_met a (below a live);
  fresh = λ none. record {
    got = ap (λ (r : Resident). r.got) (nobody_got ds 0);
    inboxes = record {
      none = λ x found. ap events_of (first_inbox 9 0 x found);
      of_rows = λ a x found. subst (λ bs. AllByRecursion IsOfRow (events_of bs)) (sym (first_inbox 9 a x found)) tt;
    };
  };
  residents_ascend = ascend_cons 0 [] tt ascend_none;
  unkept = λ a dead. nothing_of a dead;
  held_ascends = ascend_none;
  unheld = λ a dead. refl;
  system_unheld = λ a low. refl;
}
  where
    below : (a : ℕ) → is_live a (first_actors 9) ≡ true → a < 9
    below a live = by (leb 9 a) refl
      where
        by : (b : Bool) → leb 9 a ≡ b → a < 9
        by true high =
            let dead : is_live a (first_actors 9) ≡ false = first_dead 9 a (grind (arith, nat_tests, high)) in absurd cc
        by false is = grind (arith, nat_tests, is)

    first_met : (a : ℕ) → a < 9 → IsMetIn (beginning ds) [] a
    first_met a l =
        subst (λ (r : Resident). IsMet (behaviour_of ds [] [] a) (watcher_of a []) a r []) (sym (nobody_got ds a))
        (subst (λ o. IsMet (behaviour_of ds [] [] a) o a no_resident []) (sym (low_is_none a [] l))
        (no_wants_met (behaviour_of ds [] [] a) (lawful ds [] [] a tt l).nothing None a []
        (λ h r found own. absurd cc)))

    low : (a : ℕ) → is_live a (first_actors 9) ≡ true → a ≤ 16 + 0
    low a live = let l = below a live in omega (arith, l)

    nothing_of : (a : ℕ) → is_live a (first_actors 9) ≡ false → entry_of a (beginning ds).residents ≡ None
    nothing_of zero dead = absurd (let live : is_live 0 (first_actors 9) ≡ true = first_live 9 0 (omega arith) in cc)
    nothing_of (suc a) dead = grind (arith, nat_tests)

opening_hub : (ds : List Definition) → IsHub [] (opening ds)
opening_hub ds = record {
  sound = opening_sound ds;
  named = λ k since live. absurd (let dead : is_live (16 + k) (first_actors 9) ≡ false = first_dead 9 (16 + k)
      (omega arith) in cc);
  nameless = λ k dead. refl;
  first = refl;
  names_ascend = ascend_none;
}

pub replay_hub : (ds : List Definition) (steps : List Step) → AreAllowed (opening ds) steps → IsHub [] (replay ds steps)
replay_hub ds steps may = run_hub (opening ds) steps may (stays_valid.0 ds) (opening_hub ds)
