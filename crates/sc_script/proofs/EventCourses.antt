-- The course of an event is that of what it is; where its test fails it is bad.
use Rattle.std.proofs.Common.{◌≡◌, ℕ, Bool, true, false, ◌==◌, Result, IfOk, IfErr, refl, sym, ap, arith, subst}
use Rattle.std.proofs.Common.{if◌then◌else◌}
use Rattle.sc_events.specs.declared.events.ScriptEvent.{ScriptEvent}
use Rattle.sc_script.specs.declared.faults.ScriptFault.{ScriptFault}
use Rattle.sc_script.specs.Runs.{Running, Course, goes, stops, bad, after_event}
use Rattle.sc_script.specs.Keeping.{RunState, IsAt, HasRun, RunsAs, StopsAs}
use Rattle.sc_script.proofs.PartsPassed.{runs_so, stops_so}

pub where_so : (n : ℕ) (b : Bool) (c : Course) → true ≡ b → c ≡ (if b then c else stops (bad n))
where_so n b c is = ap (λ x. if x then c else stops (bad n)) is

pub where_not : (n : ℕ) (b : Bool) (c : Course) → false ≡ b → (if b then c else stops (bad n)) ≡ stops (bad n)
where_not n b c is = sym (ap (λ x. if x then c else stops (bad n)) is)

-- what is promised of this event is promised of the one that it is
module _ (s : RunState) (n : ℕ) (e f : ScriptEvent) (is : e ≡ f) (x : Result RunState ScriptFault) where
  pub event_runs : IfOk x (RunsAs s (λ N. after_event N n f)) → IfOk x (RunsAs s (λ N. after_event N n e))
  event_runs = runs_so s _ _ (λ N r at. ap (λ y. after_event N n y r) (sym is)) x

  pub event_stops : IfErr x (StopsAs s (λ N. after_event N n f)) → IfErr x (StopsAs s (λ N. after_event N n e))
  event_stops = stops_so s _ _ (λ N r at. ap (λ y. after_event N n y r) (sym is)) x

-- ---- a schema

pub first_goes : (n : ℕ) (s : RunState) (r : Running) → n ≡ 0 → IsAt r s
    → HasRun (if n == 0 then goes r else stops (bad n)) s
first_goes n s r is at =
    subst (λ k. HasRun (if k == 0 then goes r else stops (bad n)) s) (sym is) at

not_first : (n : ℕ) → (n ≡ 0 → ⊥) → false ≡ (n == 0)
not_first n later = by (n == 0) refl
  where
    by : (b : Bool) → (n == 0) ≡ b → false ≡ (n == 0)
    by true is = let first : n ≡ 0 = grind (arith, is) in absurd (later first)
    by false is = sym is

pub later_stops : (n : ℕ) (r : Running) → (n ≡ 0 → ⊥) → (if n == 0 then goes r else stops (bad n)) ≡ stops (bad n)
later_stops n r later = where_not n (n == 0) (goes r) (not_first n later)
