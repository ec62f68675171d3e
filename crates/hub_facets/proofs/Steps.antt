-- The rows of all actors stand in their facets after each step, and so in each run of allowed steps.
use Rattle.std.proofs.Common.{◌≡◌, ℕ, zero, suc, ◌-◌, ◌≤◌, List, [], ◌∷◌, Bool, true, false, cond, Option, Some, None}
use Rattle.std.proofs.Common.{refl, sym, ◌∙◌, arith}
use Rattle.ps_schema.specs.declared.Definition.{Definition}
use Rattle.gk_sturdy.specs.declared.bound.Binding.{Binding}
use Rattle.ac_table.specs.declared.batches.Batch.{Batch}
use Rattle.ac_table.specs.Tables.{lowest}
use Rattle.ac_world.specs.declared.spreads.Spread.{Spread as SpreadOf}
use Rattle.ac_world.specs.declared.turns.Turned.{Turned}
use Rattle.ac_world.specs.declared.turns.Turned.TheVariants as turned
use Rattle.ac_world.specs.declared.watched.Watched.{Watched}
use Rattle.ac_world.specs.Turns.{turn}
use Rattle.ac_world.specs.Worlds.{actor_of, is_system, without_entry, binding, watching}
use Rattle.rl_packet.specs.declared.packets.Turn.{Turn as TurnRecord}
use Rattle.rl_ports.specs.Ports.{PortsState}
use Rattle.hub_machine.specs.declared.faults.Fault.{Fault}
use Rattle.hub_machine.specs.declared.steps.Reply.{Reply}
use Rattle.hub_machine.specs.declared.steps.Reply.TheVariants.{Worn, Halted, Idle}
use Rattle.hub_machine.specs.declared.steps.Step.{Step}
use Rattle.hub_machine.specs.declared.steps.Step.TheVariants.{Bind, Watch, Arrive, Packet, Bad, Close, Turn, Work, Stop}
use Rattle.hub_machine.specs.State.{State, opening, ports_of}
use Rattle.hub_machine.specs.Admission.{Admitted, refused, admitted, turn_admission}
use Rattle.hub_machine.specs.Endings.{nameless, closed, failed, finished}
use Rattle.hub_machine.specs.Machine.{unchanged, opened, refusal, arrive_unless, accepted, judged, packet_at, bad_at}
use Rattle.hub_machine.specs.Machine.{bind_unless, is_barred, is_unwatchable, watch_unless, close_at, exporting}
use Rattle.hub_machine.specs.Machine.{telling_fault, told_unless, tell, fault_for, tell_fault, after_turn, turn_of}
use Rattle.hub_machine.specs.Machine.{rest, work_by, is_worn, done, step}
use Rattle.hub_machine.specs.Replays.{run_from, replay}
use Rattle.hub_valid.specs.Validity.{IsValid}
use Rattle.hub_valid.specs.Lemmas.Hubs.{stays_valid}
use Rattle.hub_valid.specs.Lemmas.StepEnds.{finished_keeps}
use Rattle.hub_laws.specs.Laws.{AreAllowed}
use Rattle.hub_laws.proofs.Beginning.{may_begin}
use Rattle.hub_laws.proofs.Kept.{IsHub}
use Rattle.hub_laws.proofs.Opening.{replay_hub}
use Rattle.hub_laws.proofs.Steps.{IsNamed, named_of, step_hub}
use Rattle.hub_facets.proofs.Changes.{beginning_at_home, bound_at_home, arrived_at_home, sent_at_home, watching_at_home}
use Rattle.hub_facets.proofs.Turns.{turned_at_home}
use Rattle.hub_facets.proofs.Worlds.{AreAtHome, ended_at_home}

abbrev IsAtHome : State → Type 0
IsAtHome s = AreAtHome s.world

-- ---- endings

finished_home : (xs : List SpreadOf) (s : State) → IsAtHome s → IsAtHome (finished xs s)
finished_home xs s home =
    finished_keeps IsAtHome (λ k f t there h. ended_at_home (actor_of k) t.world h)
    (λ a t high low h. ended_at_home a t.world h) xs s home

-- ---- what comes from outside

arrive_home : (o : Option Reply) (space : ℕ) (s : State) → IsHub [] s → IsAtHome s
    → IsAtHome (arrive_unless o space s).state
arrive_home (Some r) space s h home = home
arrive_home None space s h home = finished_home [] (opened space s) (arrived_at_home s.world h.sound home)

-- who has names is a connection
come_of : (k : ℕ) (ports : PortsState) (s : State) → IsHub [] s → IsNamed k ports s → 1 ≤ k
come_of zero ports s h n = absurd (let clash : None ≡ Some ports = sym h.first ∙ n.kept in cc)
come_of (suc k) ports s h n = omega arith

judged_home : (k : ℕ) (ports : PortsState) (d : Admitted) (s : State) → IsHub [] s → IsNamed k ports s → IsAtHome s
    → IsAtHome (judged k d (nameless k s)).state
judged_home k ports (refused f) s h n home =
    finished_home [] (failed k f s) (ended_at_home (actor_of k) s.world home)
judged_home k ports (admitted x) s h n home =
    let come : 1 ≤ k = come_of k ports s h n in
    finished_home [] (accepted k x (nameless k s))
    (sent_at_home (actor_of k) x.acts s.world (omega (arith, come)) n.live h.sound home)

packet_home : (k : ℕ) (o : Option PortsState) (t : TurnRecord) (s : State) → IsHub [] s → ports_of k s ≡ o
    → IsAtHome s → IsAtHome (packet_at k o t s).state
packet_home k None t s h is home = home
packet_home k (Some ports) t s h is home =
    judged_home k ports (turn_admission k ports s.world t) s h (named_of k ports s is) home

bad_home : (k : ℕ) (o : Option PortsState) (f : Fault) (s : State) → IsAtHome s → IsAtHome (bad_at k o f s).state
bad_home k None f s home = home
bad_home k (Some ports) f s home = finished_home [] (failed k f s) (ended_at_home (actor_of k) s.world home)

close_home : (k : ℕ) (o : Option PortsState) (s : State) → IsAtHome s → IsAtHome (close_at k o s).state
close_home k None s home = home
close_home k (Some ports) s home = finished_home [] (closed k s) (ended_at_home (actor_of k) s.world home)

bind_home : (c : Bool) (b : Binding) (s : State) → IsAtHome s → IsAtHome (bind_unless c b s).state
bind_home true b s home = home
bind_home false b s home =
    finished_home [] (record s { world = binding b s.world }) (bound_at_home b s.world home)

watch_home : (c : Bool) (x : Watched) (s : State) → is_unwatchable x s ≡ c → IsHub [] s → IsAtHome s
    → IsAtHome (watch_unless c x s).state
watch_home true x s is h home = home
watch_home false x s is h home =
    finished_home [] (record s { world = watching x s.world })
    (watching_at_home x s.world h.sound (may_begin x s is) home)

-- ---- turns

fault_home : (a : ℕ) (o : Option Fault) (s : State) → IsAtHome s → IsAtHome (tell_fault a o s).state
fault_home a None s home = home
fault_home a (Some f) s home = finished_home [] (record s { faults = without_entry (a - 16) s.faults }) home

told_home : (o : Option Fault) (k : ℕ) (ports : PortsState) (b : Batch) (s : State) → IsAtHome s
    → IsAtHome (told_unless o k ports b s).state
told_home (Some f) k ports b s home = finished_home [] (failed k f s) (ended_at_home (actor_of k) s.world home)
told_home None k ports b s home = finished_home [] (exporting k b ports s) home

tell_home : (k : ℕ) (o : Option PortsState) (b : Batch) (s : State) → IsAtHome s → IsAtHome (tell k o b s).state
tell_home k None b s home = finished_home [] s home
tell_home k (Some ports) b s home = told_home (telling_fault k b ports) k ports b s home

after_home : (a : ℕ) (t : Turned) (s : State) → IsAtHome s → IsAtHome (after_turn a t s).state
after_home a (turned.Ran xs) s home = finished_home xs s home
after_home a (turned.Taken b) s home = tell_home (a - 16) (ports_of (a - 16) s) b s home
after_home a turned.Idle s home = home
after_home a turned.Gone s home = fault_home a (fault_for a s) s home

turn_home : (a : ℕ) (s : State) → IsHub [] s → IsAtHome s → IsAtHome (turn_of a s).state
turn_home a s h home =
    after_home a (turn a s.world).turned (record s { world = (turn a s.world).world })
    (turned_at_home a s.world h.sound home)

rest_home : (b : Bool) (s : State) → IsAtHome s → IsAtHome (cond b (unchanged s Halted) (unchanged s Idle)).state
rest_home true s home = home
rest_home false s home = home

work_home : (o : Option ℕ) (s : State) → IsHub [] s → IsAtHome s → IsAtHome (work_by o s).state
work_home None s h home = rest_home s.stopped s home
work_home (Some a) s h home = by (is_system a)
  where
    by : (b : Bool) → IsAtHome (cond b (turn_of a s) (rest s)).state
    by true = turn_home a s h home
    by false = rest_home s.stopped s home

-- ---- steps

done_home : (s : State) (e : Step) → IsHub [] s → IsAtHome s → IsAtHome (done s e).state
done_home s (Bind b) h home = bind_home (is_barred b s) b s home
done_home s (Watch x) h home = watch_home (is_unwatchable x s) x s refl h home
done_home s (Arrive space) h home = arrive_home (refusal space s) space s h home
done_home s (Packet k t) h home = packet_home k (ports_of k s) t s h refl home
done_home s (Bad k f) h home = bad_home k (ports_of k s) f s home
done_home s (Close k) h home = close_home k (ports_of k s) s home
done_home s (Turn a) h home = turn_home a s h home
done_home s Work h home = work_home (lowest s.world.table) s h home
done_home s Stop h home = finished_home [] (record s { stopped = true }) home

step_home : (s : State) (e : Step) → IsHub [] s → IsAtHome s → IsAtHome (step s e).state
step_home s e h home = by (is_worn s e)
  where
    by : (b : Bool) → IsAtHome (cond b (unchanged s Worn) (done s e)).state
    by true = home
    by false = done_home s e h home

run_home : (s : State) (es : List Step) → AreAllowed s es → IsValid s → IsHub [] s → IsAtHome s
    → IsAtHome (run_from s es)
run_home s [] may valid h home = home
run_home s (e ∷ es) may valid h home =
    run_home (step s e).state es may.1 (stays_valid.1 s e valid may.0) (step_hub s e may.0 valid h)
    (step_home s e h home)

pub replay_home : (ds : List Definition) (steps : List Step) → AreAllowed (opening ds) steps
    → AreAtHome (replay ds steps).world
replay_home ds steps may =
    run_home (opening ds) steps may (stays_valid.0 ds) (replay_hub ds [] tt) (beginning_at_home ds)
