-- In each run, a live connection names its first object and what it was told of.
use Rattle.std.proofs.Common.{◌≡◌, ℕ, ◌+◌, ◌≤◌, List, [], ◌∷◌, ◌++◌, Bool, true, false, cond, Option, Some, None}
use Rattle.std.proofs.Common.{refl, ap, sym, subst, arith, append-nil, append_assoc, is_some}
use Rattle.std.proofs.lemmas.Bool.Decides.{nat_tests}
use Rattle.std.specs.List.{AllByRecursion}
use Rattle.ps_schema.specs.declared.Definition.{Definition}
use Rattle.ac_table.specs.Tables.{is_live}
use Rattle.ac_world.specs.Worlds.{actor_of, entry_of, without_entry}
use Rattle.ac_world.specs.Lemmas.Entries.{each_with, each_without, each_found}
use Rattle.rl_ports.specs.Ports.{PortsState, ports_to}
use Rattle.hub_machine.specs.State.{State, opening, ports_of, is_there}
use Rattle.hub_machine.specs.Machine.{actor_reference, names_after}
use Rattle.hub_machine.specs.Replays.{replay}
use Rattle.hub_machine.specs.Lemmas.ReplayLaws.{replay-more}
use Rattle.hub_machine.specs.declared.steps.Step.{Step}
use Rattle.hub_valid.specs.Lemmas.AnyStep.{Keeps, run_keeps}
use Rattle.hub_authority.specs.Laws.{Exports}
use Rattle.hub_authority.proofs.Exporting.{IsTold, one_more}
use Rattle.hub_authority.proofs.Telling.{step_tells}

-- ---- connections count from 1

abbrev AreNumbered : State → Type 0
AreNumbered s = AllByRecursion (λ e. 1 ≤ e.0) s.connections

-- the number of one that is there
number_there : (k : ℕ) (s : State) (ports : PortsState) → AreNumbered s → ports_of k s ≡ Some ports → 1 ≤ k
number_there k s ports all is = by (is_live (actor_of k) s.world.table) is
  where
    by : (b : Bool) → cond b (entry_of k s.connections) None ≡ Some ports → 1 ≤ k
    by true found = each_found (λ e. 1 ≤ e.0) k ports s.connections all found
    by false found = absurd cc

number_of_one : (k : ℕ) (s : State) → AreNumbered s → is_there k s ≡ true → 1 ≤ k
number_of_one k s all there = by (ports_of k s) refl there
  where
    by : (o : Option PortsState) → ports_of k s ≡ o → is_some o ≡ true → 1 ≤ k
    by None is there = absurd cc
    by (Some ports) is there = number_there k s ports all is

stay_numbered : Keeps AreNumbered
stay_numbered = record {
  binds = λ b s is all. all;
  watches = λ x s is all. all;
  opens = λ space s all.
      each_with (λ e. 1 ≤ e.0) (s.world.opened + 1) (ports_to (actor_reference space)) s.connections (omega arith) all;
  fails = λ k f s there all. each_without (λ e. 1 ≤ e.0) k s.connections all;
  dismisses = λ a s high low all. all;
  closes = λ k s there all. each_without (λ e. 1 ≤ e.0) k s.connections all;
  accepts = λ k x s there all.
      each_with (λ e. 1 ≤ e.0) k x.ports (without_entry k s.connections) (number_of_one k s all there)
      (each_without (λ e. 1 ≤ e.0) k s.connections all);
  exports = λ k b ports s there all.
      each_with (λ e. 1 ≤ e.0) k (names_after k b ports) s.connections
      (number_of_one k s all there) all;
  turns = λ a s all. all;
  tells = λ k s all. all;
  stops = λ s all. all;
}

pub counts_from_one : (ds : List Definition) (k : ℕ) (steps : List Step) (ports : PortsState)
    → ports_of k (replay ds steps) ≡ Some ports → 1 ≤ k
counts_from_one ds k steps ports there =
    number_there k (replay ds steps) ports (run_keeps AreNumbered stay_numbered (opening ds) steps tt) there

-- ---- what it was told

none_named : (b : Bool) (p : PortsState) → cond b None None ≡ Some p → ⊥
none_named true p is = cc
none_named false p is = cc

pub at_first : (ds : List Definition) (k : ℕ) → IsTold ds k [] (opening ds)
at_first ds k = record {
  unborn = λ l. grind (arith, nat_tests, l);
  first = λ l. refl;
  told = λ l. refl;
  own = λ p is. absurd (none_named (is_live (actor_of k) (opening ds).world.table) p is);
}

-- the steps that are still to come, after those that were
all_told : (ds : List Definition) (k : ℕ) (before later : List Step) → 1 ≤ k → IsTold ds k before (replay ds before)
    → IsTold ds k (before ++ later) (replay ds (before ++ later))
all_told ds k before [] one is = subst (λ es. IsTold ds k es (replay ds es)) (sym (append-nil before)) is
all_told ds k before (e ∷ es) one is =
    subst (λ all. IsTold ds k all (replay ds all)) (append_assoc before (e ∷ []) es)
    (all_told ds k (before ++ e ∷ []) es one
    (subst (IsTold ds k (before ++ e ∷ [])) (sym (replay-more ds before e))
    (one_more ds k before e is (step_tells k (replay ds before) e one))))

-- to a connection that is live
pub told_so : (ds : List Definition) (k : ℕ) (steps : List Step) (ports : PortsState)
    → ports_of k (replay ds steps) ≡ Some ports → IsTold ds k steps (replay ds steps)
told_so ds k steps ports is = all_told ds k [] steps (counts_from_one ds k steps ports is) (at_first ds k)

pub are_its_own : Exports
are_its_own ds k steps ports is =
    let own = (told_so ds k steps ports is).own ports is in (
      own.0,
      own.1,
      (
        ap (λ (p : PortsState). p.exports) own.2,
        ap (λ (p : PortsState). p.pinned) own.2,
        ap (λ (p : PortsState). p.notes) own.2,
      ),
    )
