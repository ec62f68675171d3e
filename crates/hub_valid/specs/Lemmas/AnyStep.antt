-- What stays true in each change of which steps are made stays true in each step, and in each run of steps.
use Rattle.std.proofs.Common.{◌≡◌, ℕ, ◌-◌, ◌<◌, ◌≤◌, List, [], ◌∷◌, Bool, true, false, cond, Option, Some, None, refl, ap}
use Rattle.std.proofs.Common.{is_some}
use Rattle.gk_sturdy.specs.declared.bound.Binding.{Binding}
use Rattle.ac_table.specs.declared.batches.Batch.{Batch}
use Rattle.ac_table.specs.Tables.{lowest}
use Rattle.ac_world.specs.declared.spreads.Spread.{Spread as SpreadOf}
use Rattle.ac_world.specs.declared.turns.Turned.{Turned}
use Rattle.ac_world.specs.declared.turns.Turned.TheVariants as turned
use Rattle.ac_world.specs.Turns.{turn}
use Rattle.ac_world.specs.declared.watched.Watched.{Watched}
use Rattle.ac_world.specs.Worlds.{binding, watching, without_entry, is_system}
use Rattle.rl_packet.specs.declared.packets.Turn.{Turn as TurnRecord}
use Rattle.rl_ports.specs.Ports.{PortsState}
use Rattle.hub_machine.specs.declared.faults.Fault.{Fault}
use Rattle.hub_machine.specs.State.{State, ports_of, is_there}
use Rattle.hub_machine.specs.Admission.{Admitting, Admitted, refused, admitted, turn_admission}
use Rattle.hub_machine.specs.Endings.{nameless, closed, failed, dismissed, finished}
use Rattle.hub_machine.specs.Machine.{unchanged, is_barred, bind_unless, is_unwatchable, watch_unless, opened}
use Rattle.hub_machine.specs.Machine.{refusal, arrive_unless, accepted, judged, packet_at, bad_at}
use Rattle.hub_machine.specs.Machine.{close_at, telling_fault, exporting, told_unless, tell, fault_for, tell_fault}
use Rattle.hub_machine.specs.Machine.{after_turn, turn_of, rest, work_by, is_worn, done, step}
use Rattle.hub_machine.specs.Replays.{run_from}
use Rattle.hub_machine.specs.declared.steps.Step.{Step}
use Rattle.hub_machine.specs.declared.steps.Step.TheVariants.{Bind, Watch, Arrive, Packet, Bad, Close, Turn, Work, Stop}
use Rattle.hub_machine.specs.declared.steps.Reply.{Reply}
use Rattle.hub_machine.specs.declared.steps.Reply.TheVariants.{Worn, Halted, Idle}
use Rattle.hub_valid.specs.Lemmas.StepEnds.{finished_keeps}

-- the changes
pub record Keeps (P : State → Type 0) : Type 0 where
  pub binds : (b : Binding) (s : State) → is_barred b s ≡ false → P s → P (record s { world = binding b s.world })
  pub watches : (x : Watched) (s : State) → is_unwatchable x s ≡ false → P s
      → P (record s { world = watching x s.world })
  pub opens : (space : ℕ) (s : State) → P s → P (opened space s)
  pub fails : (k : ℕ) (f : Fault) (s : State) → is_there k s ≡ true → P s → P (failed k f s)
  pub dismisses : (a : ℕ) (s : State) → 9 ≤ a → a < 17 → P s → P (dismissed a s)
  pub closes : (k : ℕ) (s : State) → is_there k s ≡ true → P s → P (closed k s)
  pub accepts : (k : ℕ) (x : Admitting) (s : State) → is_there k s ≡ true → P s → P (accepted k x (nameless k s))
  pub exports : (k : ℕ) (b : Batch) (p : PortsState) (s : State) → is_there k s ≡ true → P s
      → P (exporting k b p s)
  pub turns : (a : ℕ) (s : State) → P s → P (record s { world = (turn a s.world).world })
  pub tells : (k : ℕ) (s : State) → P s → P (record s { faults = without_entry k s.faults })
  pub stops : (s : State) → P s → P (record s { stopped = true })

module _ (P : State → Type 0) (keeps : Keeps P) where
  ends_keep : (xs : List SpreadOf) (s : State) → P s → P (finished xs s)
  ends_keep xs s p = finished_keeps P keeps.fails keeps.dismisses xs s p

  bind_keeps : (c : Bool) (b : Binding) (s : State) → is_barred b s ≡ c → P s → P (bind_unless c b s).state
  bind_keeps true b s is p = p
  bind_keeps false b s is p = ends_keep [] (record s { world = binding b s.world }) (keeps.binds b s is p)

  watch_keeps : (c : Bool) (x : Watched) (s : State) → is_unwatchable x s ≡ c → P s → P (watch_unless c x s).state
  watch_keeps true x s is p = p
  watch_keeps false x s is p = ends_keep [] (record s { world = watching x s.world }) (keeps.watches x s is p)

  arrive_keeps : (o : Option Reply) (space : ℕ) (s : State) → P s → P (arrive_unless o space s).state
  arrive_keeps None space s p = ends_keep [] (opened space s) (keeps.opens space s p)
  arrive_keeps (Some r) space s p = p

  judged_keeps : (k : ℕ) (d : Admitted) (s : State) → is_there k s ≡ true → P s → P (judged k d (nameless k s)).state
  judged_keeps k (refused f) s there p = ends_keep [] (failed k f s) (keeps.fails k f s there p)
  judged_keeps k (admitted x) s there p = ends_keep [] (accepted k x (nameless k s)) (keeps.accepts k x s there p)

  packet_keeps : (k : ℕ) (o : Option PortsState) (t : TurnRecord) (s : State) → ports_of k s ≡ o → P s
      → P (packet_at k o t s).state
  packet_keeps k None t s is p = p
  packet_keeps k (Some ports) t s is p = judged_keeps k (turn_admission k ports s.world t) s (ap is_some is) p

  bad_keeps : (k : ℕ) (o : Option PortsState) (f : Fault) (s : State) → ports_of k s ≡ o → P s
      → P (bad_at k o f s).state
  bad_keeps k None f s is p = p
  bad_keeps k (Some ports) f s is p = ends_keep [] (failed k f s) (keeps.fails k f s (ap is_some is) p)

  close_keeps : (k : ℕ) (o : Option PortsState) (s : State) → ports_of k s ≡ o → P s → P (close_at k o s).state
  close_keeps k None s is p = p
  close_keeps k (Some ports) s is p = ends_keep [] (closed k s) (keeps.closes k s (ap is_some is) p)

  unless_keeps : (o : Option Fault) (k : ℕ) (ports : PortsState) (b : Batch) (s : State) → is_there k s ≡ true → P s
      → P (told_unless o k ports b s).state
  unless_keeps (Some f) k ports b s there p = ends_keep [] (failed k f s) (keeps.fails k f s there p)
  unless_keeps None k ports b s there p = ends_keep [] (exporting k b ports s) (keeps.exports k b ports s there p)

  tell_keeps : (k : ℕ) (o : Option PortsState) (b : Batch) (s : State) → ports_of k s ≡ o → P s
      → P (tell k o b s).state
  tell_keeps k None b s is p = ends_keep [] s p
  tell_keeps k (Some ports) b s is p = unless_keeps (telling_fault k b ports) k ports b s (ap is_some is) p

  fault_keeps : (a : ℕ) (o : Option Fault) (s : State) → P s → P (tell_fault a o s).state
  fault_keeps a None s p = p
  fault_keeps a (Some f) s p =
      ends_keep [] (record s { faults = without_entry (a - 16) s.faults }) (keeps.tells (a - 16) s p)

  after_keeps : (a : ℕ) (t : Turned) (s : State) → P s → P (after_turn a t s).state
  after_keeps a (turned.Ran xs) s p = ends_keep xs s p
  after_keeps a (turned.Taken b) s p = tell_keeps (a - 16) (ports_of (a - 16) s) b s refl p
  after_keeps a turned.Idle s p = p
  after_keeps a turned.Gone s p = fault_keeps a (fault_for a s) s p

  turn_keeps : (a : ℕ) (s : State) → P s → P (turn_of a s).state
  turn_keeps a s p =
      after_keeps a (turn a s.world).turned (record s { world = (turn a s.world).world }) (keeps.turns a s p)

  rest_keeps : (s : State) → P s → P (rest s).state
  rest_keeps s p = by s.stopped
    where
      by : (b : Bool) → P (cond b (unchanged s Halted) (unchanged s Idle)).state
      by true = p
      by false = p

  work_keeps : (o : Option ℕ) (s : State) → P s → P (work_by o s).state
  work_keeps None s p = rest_keeps s p
  work_keeps (Some a) s p = by (is_system a)
    where
      by : (b : Bool) → P (cond b (turn_of a s) (rest s)).state
      by true = turn_keeps a s p
      by false = rest_keeps s p

  done_keeps : (s : State) (e : Step) → P s → P (done s e).state
  done_keeps s (Bind b) p = bind_keeps (is_barred b s) b s refl p
  done_keeps s (Watch x) p = watch_keeps (is_unwatchable x s) x s refl p
  done_keeps s (Arrive space) p = arrive_keeps (refusal space s) space s p
  done_keeps s (Packet k t) p = packet_keeps k (ports_of k s) t s refl p
  done_keeps s (Bad k f) p = bad_keeps k (ports_of k s) f s refl p
  done_keeps s (Close k) p = close_keeps k (ports_of k s) s refl p
  done_keeps s (Turn a) p = turn_keeps a s p
  done_keeps s Work p = work_keeps (lowest s.world.table) s p
  done_keeps s Stop p = ends_keep [] (record s { stopped = true }) (keeps.stops s p)

  step_keeps : (s : State) (e : Step) → P s → P (step s e).state
  step_keeps s e p = by (is_worn s e)
    where
      by : (b : Bool) → P (cond b (unchanged s Worn) (done s e)).state
      by true = p
      by false = done_keeps s e p

  pub run_keeps : (s : State) (es : List Step) → P s → P (run_from s es)
  run_keeps s [] p = p
  run_keeps s (e ∷ es) p = run_keeps (step s e).state es (step_keeps s e p)
