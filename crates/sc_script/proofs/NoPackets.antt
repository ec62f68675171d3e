-- What is next in a stream and is no packet: the stream is put back, and where that is bad, a step is made.
use Rattle.std.proofs.Common.{◌≡◌, ℕ, Result, IfOk, IfErr, Option, Some, None, refl, ap, ◌∙◌, subst}
use Rattle.std.proofs.lemmas.Result.{IfOk-weaker, IfErr-weaker}
use Rattle.rl_stream.specs.declared.nexts.Next.{Next}
use Rattle.rl_stream.specs.declared.nexts.Next.TheVariants.{Whole, BadBytes, BadPacket, Waits}
use Rattle.rl_stream.specs.Streams.{StreamState}
use Rattle.hub_machine.specs.declared.faults.Fault.{Fault}
use Rattle.hub_machine.specs.declared.steps.Step.TheVariants as step
use Rattle.sc_script.specs.declared.faults.ScriptFault.{ScriptFault}
use Rattle.sc_script.specs.Runs.{Running, Course, goes, stepped, with_stream, with_no_packet}
use Rattle.sc_script.specs.Keeping.{RunState, HasRun, IsStopped, RunsAs, StopsAs, fault_of}

-- the course behind the stream that was put back, by the fault for which the connection ends
abbrev ended_for : ℕ → Option Fault → Running → Course
ended_for k None r = goes r
ended_for k (Some f) r = stepped (step.Bad k f) r

by_fault : (k : ℕ) (n : Next) (st : StreamState) (r : Running)
    → ended_for k (fault_of n) (with_stream k st r) ≡ with_no_packet k n st r
by_fault k (Whole p size) st r = refl
by_fault k (BadBytes number place) st r = refl
by_fault k BadPacket st r = refl
by_fault k Waits st r = refl

module _ (k : ℕ) (n : Next) (st : StreamState) (s put : RunState)
    (back : RunsAs s (λ N r. goes (with_stream k st r)) put) where
  by_this : (o : Option Fault) → o ≡ fault_of n → (r : Running)
      → ended_for k o (with_stream k st r) ≡ with_no_packet k n st r
  by_this o is r = ap (λ p. ended_for k p (with_stream k st r)) is ∙ by_fault k n st r

  pub not_bad : None ≡ fault_of n → RunsAs s (λ N. with_no_packet k n st) put
  not_bad none N d r at = subst (λ c. HasRun c put) (by_this None none r) (back N d r at)

  -- what is promised of the step behind is promised of both
  module _ (f : Fault) (is : Some f ≡ fault_of n) (x : Result RunState ScriptFault) where
    pub bad_runs : IfOk x (RunsAs put (λ N. stepped (step.Bad k f))) → IfOk x (RunsAs s (λ N. with_no_packet k n st))
    bad_runs = IfOk-weaker x _ _ (λ t p N d r at.
        subst (λ c. HasRun c t) (by_this (Some f) is r) (p N d (with_stream k st r) (back N d r at)))

    pub bad_stops : IfErr x (StopsAs put (λ N. stepped (step.Bad k f)))
        → IfErr x (StopsAs s (λ N. with_no_packet k n st))
    bad_stops = IfErr-weaker x _ _ (λ g p N d r at.
        subst (λ c. IsStopped c g) (by_this (Some f) is r) (p N d (with_stream k st r) (back N d r at)))
