-- What sets the server up: the state goes on behind it where it is taken, and guards judge as before; or it is bad.
use Rattle.std.proofs.Common.{◌≡◌, ℕ, List, [], ◌∷◌, ◌++◌, Bool, true, false, Option, Some, None, refl, sym, ap, ◌∙◌}
use Rattle.std.proofs.Common.{subst, if◌then◌else◌}
use Rattle.std.specs.List.{AllByRecursion}
use Rattle.std.specs.Map.{keys_of}
use Rattle.ac_table.specs.Tables.{is_live}
use Rattle.ac_world.specs.declared.watched.Watched.{Watched}
use Rattle.ac_world.specs.Worlds.{WorldState, gone, actor_of, binding, watching}
use Rattle.ps_schema.specs.declared.Definition.{Definition}
use Rattle.sr_caveat.specs.Patterns.{Caveat, caveats}
use Rattle.lc_guard.specs.Knowing.{all_known}
use Rattle.gk_sturdy.specs.declared.bound.Binding.{Binding}
use Rattle.hub_machine.specs.declared.faults.Fault.{Fault}
use Rattle.hub_machine.specs.Endings.{overrun_of, failed_where, all_overrun}
use Rattle.hub_machine.specs.State.{State, opening}
use Rattle.hub_machine.specs.Machine.{step, is_worn, is_barred, bind_unless, is_unwatchable, watch_unless, unchanged}
use Rattle.hub_machine.specs.Machine.{IsAllowed}
use Rattle.hub_machine.specs.Replays.{run_from}
use Rattle.hub_machine.specs.Lemmas.ReplayLaws.{replay-more}
use Rattle.hub_machine.specs.declared.steps.Step.{Step}
use Rattle.hub_machine.specs.declared.steps.Step.TheVariants as steps
use Rattle.hub_machine.specs.declared.steps.Step.TheVariants.{Bind, Watch}
use Rattle.hub_machine.specs.declared.steps.Reply.{Reply}
use Rattle.hub_machine.specs.declared.steps.Reply.TheVariants.{Worn, Barred, Halted, Full, Opened, Gone, Refused, Idle}
use Rattle.hub_machine.specs.declared.steps.Reply.TheVariants.{Sent, Ran, Taken}
use Rattle.hub_laws.specs.Laws.{AreAllowed}
use Rattle.sc_config.specs.Courses.{Setting, stops, bad, with_step, if_taken, set_up, binds}
use Rattle.sc_config.specs.Configs.{SetsUp}
use Rattle.sc_config.specs.Keeping.{IsAt, HasSet, was_taken}

-- ---- guards judge as before

schema_ended : (live : Bool) (a : ℕ) (w : WorldState) → (if live then gone a w else w).schema ≡ w.schema
schema_ended true a w = refl
schema_ended false a w = refl

schema_where : (k : ℕ) (o : Option Fault) (s : State) → (failed_where k o s).world.schema ≡ s.world.schema
schema_where k None s = refl
schema_where k (Some f) s = schema_ended (is_live (actor_of k) s.world.table) (actor_of k) s.world

schema_overrun : (ks : List ℕ) (s : State) → (all_overrun ks s).world.schema ≡ s.world.schema
schema_overrun [] s = refl
schema_overrun (k ∷ ks) s =
    schema_overrun ks (failed_where k (overrun_of k s) s) ∙ schema_where k (overrun_of k s) s

schema_bound : (worn barred : Bool) (b : Binding) (s : State)
    → (if worn then unchanged s Worn else bind_unless barred b s).state.world.schema ≡ s.world.schema
schema_bound true barred b s = refl
schema_bound false true b s = refl
schema_bound false false b s = schema_overrun (keys_of s.connections) (record s { world = binding b s.world })

schema_watched : (worn barred : Bool) (x : Watched) (s : State)
    → (if worn then unchanged s Worn else watch_unless barred x s).state.world.schema ≡ s.world.schema
schema_watched true barred x s = refl
schema_watched false true x s = refl
schema_watched false false x s = schema_overrun (keys_of s.connections) (record s { world = watching x s.world })

schema_kept : (e : Step) (s : State) → SetsUp e → (step s e).state.world.schema ≡ s.world.schema
schema_kept (Bind b) s so = schema_bound (is_worn s (Bind b)) (is_barred b s) b s
schema_kept (Watch x) s so = schema_watched (is_worn s (Watch x)) (is_unwatchable x s) x s
schema_kept (steps.Arrive space) s so = absurd so
schema_kept (steps.Packet k t) s so = absurd so
schema_kept (steps.Bad k f) s so = absurd so
schema_kept (steps.Close k) s so = absurd so
schema_kept (steps.Turn a) s so = absurd so
schema_kept steps.Work s so = absurd so
schema_kept steps.Stop s so = absurd so

-- ---- one step more

allowed_more : (s : State) (es : List Step) (e : Step) → AreAllowed s es → IsAllowed (run_from s es) e
    → AreAllowed s (es ++ e ∷ [])
allowed_more s [] e all may = (may, tt)
allowed_more s (f ∷ es) e all may = (all.0, allowed_more (step s f).state es e all.1 may)

sets_up_more : (es : List Step) (e : Step) → SetsUp e → AllByRecursion SetsUp es
    → AllByRecursion SetsUp (es ++ e ∷ [])
sets_up_more [] e so all = (so, tt)
sets_up_more (f ∷ es) e so all = (all.0, sets_up_more es e so all.1)

at_more : (c : Setting) (e : Step) (s now : State) → SetsUp e → IsAt c s → IsAllowed s e → now ≡ (step s e).state
    → IsAt (with_step e c) now
at_more c e s now so at may is = record {
  allowed = allowed_more (opening c.schema) c.steps e at.allowed (subst (λ t. IsAllowed t e) at.state may);
  set_up = sets_up_more c.steps e so at.set_up;
  state = is ∙ ap (λ t. (step t e).state) at.state ∙ sym (replay-more c.schema c.steps e);
  schema = ap (λ (t : State). t.world.schema) is ∙ schema_kept e s so ∙ at.schema;
}

-- ---- the course of what sets up

clash : false ≡ true → ⊥
clash is = cc

taken_so : (r : Reply) → was_taken r ≡ true → r ≡ Taken
taken_so Taken is = refl
taken_so r is = absurd (clash is)

module _ (n : ℕ) (e : Step) (c : Setting) (s : State) (at : IsAt c s) (reply : Reply)
    (said : reply ≡ (step s e).reply) where
  by_the_reply : set_up n e c ≡ if_taken n reply (with_step e c)
  by_the_reply = ap (λ r. if_taken n r (with_step e c)) (sym (said ∙ ap (λ t. (step t e).reply) at.state))

  pub taken : (now : State) → SetsUp e → IsAllowed s e → now ≡ (step s e).state → was_taken reply ≡ true
      → HasSet (set_up n e c) now
  taken now so may is_state answer =
      subst (λ d. HasSet d now)
      (sym (by_the_reply ∙ ap (λ r. if_taken n r (with_step e c)) (taken_so reply answer)))
      (at_more c e s now so at may is_state)

  not_taken_by : (r : Reply) → was_taken r ≡ false → if_taken n r (with_step e c) ≡ stops (bad n)
  not_taken_by Worn not = refl
  not_taken_by Barred not = refl
  not_taken_by Halted not = refl
  not_taken_by Full not = refl
  not_taken_by (Opened k) not = refl
  not_taken_by Gone not = refl
  not_taken_by (Refused f) not = refl
  not_taken_by Idle not = refl
  not_taken_by (Sent p) not = refl
  not_taken_by Ran not = refl
  not_taken_by Taken not = absurd (clash (sym not))

  pub not_taken : was_taken reply ≡ false → set_up n e c ≡ stops (bad n)
  not_taken not = by_the_reply ∙ not_taken_by reply not

-- ---- the course of a binding

module _ (n : ℕ) (b : Binding) (c : Setting) (s : State) (at : IsAt c s) where
  by_known : (known : Bool) → all_known s.world.schema (caveats b.cap.caveats) ≡ known
      → binds n b c ≡ (if known then set_up n (Bind b) c else stops (bad n))
  by_known known is =
      ap (λ k. if k then set_up n (Bind b) c else stops (bad n))
      (ap (λ ds. all_known ds (caveats b.cap.caveats)) (sym at.schema) ∙ is)

  -- what was asked of the guards' names tells of the state's schema
  pub as_asked : (ds : List Definition) (cs : List Caveat) (answer known : Bool) → ds ≡ s.world.schema
      → cs ≡ b.cap.caveats → answer ≡ all_known ds (caveats cs) → answer ≡ known
      → all_known s.world.schema (caveats b.cap.caveats) ≡ known
  as_asked ds cs answer known schema behind asked is =
      (λ i. all_known (sym schema i) (caveats (sym behind i))) ∙ sym asked ∙ is

  pub unknown : all_known s.world.schema (caveats b.cap.caveats) ≡ false → binds n b c ≡ stops (bad n)
  unknown is = by_known false is

  pub known : all_known s.world.schema (caveats b.cap.caveats) ≡ true → set_up n (Bind b) c ≡ binds n b c
  known is = sym (by_known true is)
