-- Bytes of a connection come: its stream is taken out with them in it, and its packets are read; or they are dropped.
use Rattle.std.proofs.Common.{◌≡◌, ℕ, Bool, true, false, List, Result, IfOk, IfErr, sym, ap, ◌∙◌, subst, unwrap_or}
use Rattle.std.proofs.Common.{if◌then◌else◌}
use Rattle.std.proofs.lemmas.Result.{IfOk-weaker, IfErr-weaker}
use Rattle.ac_world.specs.Worlds.{entry_of, without_entry}
use Rattle.rl_stream.specs.Nexts.{Decider}
use Rattle.rl_stream.specs.Streams.{StreamState, no_stream, with_bytes}
use Rattle.hub_machine.specs.State.{is_there}
use Rattle.sc_script.specs.declared.faults.ScriptFault.{ScriptFault}
use Rattle.sc_script.specs.Runs.{Running, goes, stream_of, packets_read, without_stream, bytes_come}
use Rattle.sc_script.specs.Keeping.{RunState, IsAt, HasRun, IsStopped, RunsAs, StopsAs}

-- what the code keeps, with other streams
abbrev pub with_streams : List (ℕ × StreamState) → RunState → RunState
with_streams ss s = record { state = s.state; outs = s.outs; size = s.size; streams = ss }

-- where the run is, with a stream taken out
taken_out : (k : ℕ) (r : Running) (s : RunState) (ss : List (ℕ × StreamState)) → ss ≡ without_entry k s.streams
    → IsAt r s → IsAt (without_stream k r) (with_streams ss s)
taken_out k r s ss others at = record {
  allowed = at.allowed;
  state = at.state;
  sent = at.sent;
  size = at.size;
  streams = others ∙ ap (without_entry k) at.streams;
}

module _ (N : Decider) (k : ℕ) (b : List ℕ) (r : Running) (s : RunState) (at : IsAt r s) where
  by_there : (x : Bool) → is_there k s.state ≡ x → bytes_come N k b r
      ≡ (if x then packets_read N k (with_bytes b (stream_of k r)) (without_stream k r) else goes r)
  by_there x is =
      ap (λ y. if y then packets_read N k (with_bytes b (stream_of k r)) (without_stream k r) else goes r)
      (ap (is_there k) (sym at.state) ∙ is)

  pub all_dropped : is_there k s.state ≡ false → goes r ≡ bytes_come N k b r
  all_dropped is = sym (by_there false is)

  all_come : (st : StreamState) → is_there k s.state ≡ true
      → st ≡ with_bytes b (unwrap_or (entry_of k s.streams) no_stream)
      → packets_read N k st (without_stream k r) ≡ bytes_come N k b r
  all_come st is taken =
      ap (λ x. packets_read N k x (without_stream k r))
      (taken ∙ ap (λ es. with_bytes b (unwrap_or (entry_of k es) no_stream)) at.streams) ∙ sym (by_there true is)

-- what is promised of the packets that are read is promised of the bytes that come; s is before by its parts
module _ (k : ℕ) (b : List ℕ) (s before : RunState) (view : s ≡ before) (there : is_there k s.state ≡ true)
    (st : StreamState) (taken : st ≡ with_bytes b (unwrap_or (entry_of k s.streams) no_stream))
    (ss : List (ℕ × StreamState)) (others : ss ≡ without_entry k s.streams) (x : Result RunState ScriptFault) where
  pub come_runs : IfOk x (RunsAs (with_streams ss s) (λ N. packets_read N k st))
      → IfOk x (RunsAs before (λ N. bytes_come N k b))
  come_runs h = subst (λ y. IfOk x (RunsAs y (λ N. bytes_come N k b))) view (IfOk-weaker x _ _ (λ t p N d r at.
      subst (λ c. HasRun c t) (all_come N k b r s at st there taken)
      (p N d (without_stream k r) (taken_out k r s ss others at))) h)

  pub come_stops : IfErr x (StopsAs (with_streams ss s) (λ N. packets_read N k st))
      → IfErr x (StopsAs before (λ N. bytes_come N k b))
  come_stops h = subst (λ y. IfErr x (StopsAs y (λ N. bytes_come N k b))) view (IfErr-weaker x _ _ (λ f p N d r at.
      subst (λ c. IsStopped c f) (all_come N k b r s at st there taken)
      (p N d (without_stream k r) (taken_out k r s ss others at))) h)
