-- What is promised of a part is promised of what runs as it does.
use Rattle.std.proofs.Common.{◌≡◌, ℕ, ◌==◌, Bool, true, false, Result, IfOk, IfErr, refl, sym, ap, arith, subst}
use Rattle.std.proofs.Common.{if◌then◌else◌}
use Rattle.std.proofs.lemmas.Result.{IfOk-weaker, IfErr-weaker}
use Rattle.hub_machine.specs.State.{State}
use Rattle.sc_config.specs.declared.faults.ConfigFault.{ConfigFault}
use Rattle.sc_config.specs.Courses.{Setting, Course, goes, stops, bad}
use Rattle.sc_config.specs.Keeping.{IsAt, HasSet, IsStopped, SetsAs, StopsAs}

-- where it runs as that does from each configuration that is there
module _ (s : State) (part whole : Setting → Course) (same : (c : Setting) → IsAt c s → part c ≡ whole c)
    (x : Result State ConfigFault) where
  pub sets_where : IfOk x (SetsAs s part) → IfOk x (SetsAs s whole)
  sets_where = IfOk-weaker x _ _ (λ t p c at. subst (λ d. HasSet d t) (same c at) (p c at))

  pub stops_where : IfErr x (StopsAs s part) → IfErr x (StopsAs s whole)
  stops_where = IfErr-weaker x _ _ (λ f p c at. subst (λ d. IsStopped d f) (same c at) (p c at))

-- or from everywhere
module _ (s : State) (part whole : Setting → Course) (same : (c : Setting) → part c ≡ whole c)
    (x : Result State ConfigFault) where
  pub sets_so : IfOk x (SetsAs s part) → IfOk x (SetsAs s whole)
  sets_so = sets_where s part whole (λ c at. same c) x

  pub stops_so : IfErr x (StopsAs s part) → IfErr x (StopsAs s whole)
  stops_so = stops_where s part whole (λ c at. same c) x

-- ---- a schema

pub first_goes : (n : ℕ) (s : State) (c : Setting) → n ≡ 0 → IsAt c s
    → HasSet (if n == 0 then goes c else stops (bad n)) s
first_goes n s c is at = subst (λ k. HasSet (if k == 0 then goes c else stops (bad n)) s) (sym is) at

not_first : (n : ℕ) → (n ≡ 0 → ⊥) → false ≡ (n == 0)
not_first n later = by (n == 0) refl
  where
    by : (b : Bool) → (n == 0) ≡ b → false ≡ (n == 0)
    by true is = let first : n ≡ 0 = grind (arith, is) in absurd (later first)
    by false is = sym is

pub later_stops : (n : ℕ) (c : Setting) → (n ≡ 0 → ⊥) → (if n == 0 then goes c else stops (bad n)) ≡ stops (bad n)
later_stops n c later = sym (ap (λ b. if b then goes c else stops (bad n)) (not_first n later))
