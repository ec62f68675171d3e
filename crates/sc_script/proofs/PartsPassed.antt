-- What is promised of a part of a run is promised of what runs as it does, from the same state.
use Rattle.std.proofs.Common.{◌≡◌, Result, IfOk, IfErr, subst}
use Rattle.std.proofs.lemmas.Result.{IfOk-weaker, IfErr-weaker}
use Rattle.rl_stream.specs.Nexts.{Decider}
use Rattle.sc_script.specs.declared.faults.ScriptFault.{ScriptFault}
use Rattle.sc_script.specs.Runs.{Running, Course}
use Rattle.sc_script.specs.Keeping.{RunState, IsAt, HasRun, IsStopped, RunsAs, StopsAs}

module _ (s : RunState) (part whole : Decider → Running → Course)
    (same : (N : Decider) (r : Running) → IsAt r s → part N r ≡ whole N r) (x : Result RunState ScriptFault) where
  pub runs_so : IfOk x (RunsAs s part) → IfOk x (RunsAs s whole)
  runs_so = IfOk-weaker x _ _ (λ t p N d r at. subst (λ c. HasRun c t) (same N r at) (p N d r at))

  pub stops_so : IfErr x (StopsAs s part) → IfErr x (StopsAs s whole)
  stops_so = IfErr-weaker x _ _ (λ f p N d r at. subst (λ c. IsStopped c f) (same N r at) (p N d r at))
