-- In each state that a run reaches nobody is over any limit: a step that does something ends with its end.
use Rattle.std.proofs.Common.{◌≡◌, ℕ, ◌-◌, ◌^◌, ◌<◌, ◌≤◌, List, [], ◌∷◌, Bool, true, false, cond, Option, Some}
use Rattle.std.proofs.Common.{None, refl, ap, sym, ◌∙◌, arith}
use Rattle.std.specs.Prelude.{nat_lt}
use Rattle.std.specs.Option.{option_or}
use Rattle.std.proofs.lemmas.Bool.Decides.{nat_tests}
use Rattle.gk_sturdy.specs.declared.bound.Binding.{Binding}
use Rattle.ps_schema.specs.declared.Definition.{Definition}
use Rattle.ac_table.specs.declared.batches.Batch.{Batch}
use Rattle.ac_table.specs.declared.loads.Load.{Load}
use Rattle.ac_table.specs.Sums.{top, top_load}
use Rattle.ac_table.specs.Tables.{is_live, first_batch, popped, lowest}
use Rattle.ac_world.specs.declared.turns.Turned.TheVariants as turned
use Rattle.ac_world.specs.Sums.{deliveries}
use Rattle.ac_world.specs.Behaviours.{behaviour_of}
use Rattle.ac_world.specs.Turns.{After as TurnOf, begin_turn, all_turned, system_turn, connection_turn, turn_first}
use Rattle.ac_world.specs.declared.watched.Watched.{Watched}
use Rattle.ac_world.specs.Worlds.{WorldState, actor_of, without_entry, is_system, binding, watching}
use Rattle.rl_packet.specs.declared.packets.Turn.{Turn as TurnRecord}
use Rattle.rl_ports.specs.Ports.{PortsState}
use Rattle.hub_machine.specs.Limits.{most_deliveries, most_deliveries_weight}
use Rattle.hub_machine.specs.declared.faults.Fault.{Fault}
use Rattle.hub_machine.specs.declared.faults.Fault.TheVariants.{Overrun}
use Rattle.hub_machine.specs.State.{State, opening, ports_of, is_there}
use Rattle.hub_machine.specs.Admission.{Admitted, refused, admitted, turn_admission}
use Rattle.hub_machine.specs.Endings.{nameless, closed, failed, overrun_by, overrun_of}
use Rattle.hub_machine.specs.Machine.{opened, refusal, arrive_unless, accepted, judged, packet_at, bind_unless}
use Rattle.hub_machine.specs.Machine.{is_barred, is_unwatchable, watch_unless, bad_at, close_at, telling_fault}
use Rattle.hub_machine.specs.Machine.{exporting, told_unless, tell, fault_for, tell_fault, after_turn, turn_of, rest}
use Rattle.hub_machine.specs.Machine.{work_by, is_worn, done, step, unchanged}
use Rattle.hub_machine.specs.Replays.{run_from, replay}
use Rattle.hub_machine.specs.declared.steps.Step.{Step}
use Rattle.hub_machine.specs.declared.steps.Step.TheVariants.{Bind, Watch, Arrive, Packet, Bad, Close, Turn, Work, Stop}
use Rattle.hub_machine.specs.declared.steps.Reply.{Reply}
use Rattle.hub_machine.specs.declared.steps.Reply.TheVariants as reply
use Rattle.hub_laws.proofs.Presence.{presence}
use Rattle.hub_cascade.specs.Laws.{NobodyIsOver}
use Rattle.hub_cascade.specs.Sparing.{IsWithin}
use Rattle.hub_cascade.proofs.Ends.{none_over, unless_named}

-- nobody is over a limit
abbrev pub AreWithin : State → Type 0
AreWithin s = (k : ℕ) → overrun_of k s ≡ None

-- ---- each step

arrive_within : (o : Option Reply) (space : ℕ) (s : State) → AreWithin s → AreWithin (arrive_unless o space s).state
arrive_within None space s within = none_over [] (opened space s)
arrive_within (Some r) space s within = within

judged_within : (k : ℕ) (d : Admitted) (s : State) → AreWithin (judged k d (nameless k s)).state
judged_within k (refused f) s = none_over [] (failed k f s)
judged_within k (admitted x) s = none_over [] (accepted k x (nameless k s))

packet_within : (k : ℕ) (o : Option PortsState) (t : TurnRecord) (s : State) → AreWithin s
    → AreWithin (packet_at k o t s).state
packet_within k None t s within = within
packet_within k (Some ports) t s within = judged_within k (turn_admission k ports s.world t) s

bad_within : (k : ℕ) (o : Option PortsState) (f : Fault) (s : State) → AreWithin s → AreWithin (bad_at k o f s).state
bad_within k None f s within = within
bad_within k (Some ports) f s within = none_over [] (failed k f s)

close_within : (k : ℕ) (o : Option PortsState) (s : State) → AreWithin s → AreWithin (close_at k o s).state
close_within k None s within = within
close_within k (Some ports) s within = none_over [] (closed k s)

unless_within : (o : Option Fault) (k : ℕ) (ports : PortsState) (b : Batch) (s : State)
    → AreWithin (told_unless o k ports b s).state
unless_within (Some f) k ports b s = none_over [] (failed k f s)
unless_within None k ports b s = none_over [] (exporting k b ports s)

tell_within : (k : ℕ) (o : Option PortsState) (b : Batch) (s : State) → AreWithin (tell k o b s).state
tell_within k None b s = none_over [] s
tell_within k (Some ports) b s = unless_within (telling_fault k b ports) k ports b s

fault_within : (a : ℕ) (o : Option Fault) (s : State) → AreWithin s → AreWithin (tell_fault a o s).state
fault_within a None s within = within
fault_within a (Some f) s within = none_over [] (record s { faults = without_entry (a - 16) s.faults })

-- a turn: what the actor does, and then what the hub makes of it
abbrev after_this : ℕ → State → TurnOf → State
after_this a s t = (after_turn a t.turned (record s { world = t.world })).state

kind_within : (a : ℕ) (c : Bool) (b : Batch) (w : WorldState) (s : State)
    → AreWithin (after_this a s (cond c (system_turn a b w) (connection_turn a b w)))
kind_within a true b w s =
    none_over (all_turned (behaviour_of w.schema w.bindings w.watches a) a b.from b.events (begin_turn a w)).spreads
    (record s { world = (system_turn a b w).world })
kind_within a false b w s =
    let u : State = record s { world = (connection_turn a b w).world } in
    tell_within (a - 16) (ports_of (a - 16) u) b u

turn_within : (a : ℕ) (s : State) → AreWithin s → AreWithin (turn_of a s).state
turn_within a s within = by (is_live a s.world.table) (first_batch a s.world.table)
  where
    none : TurnOf
    none = record { world = s.world; turned = turned.Gone }

    by : (c : Bool) (o : Option Batch) → AreWithin (after_this a s (cond c (turn_first a o s.world) none))
    by true None = within
    by true (Some b) = kind_within a (is_system a) b (record s.world { table = popped a s.world.table }) s
    by false o = fault_within a (fault_for a s) s within

rest_within : (s : State) → AreWithin s → AreWithin (rest s).state
rest_within s within = by s.stopped
  where
    by : (c : Bool) → AreWithin (cond c (unchanged s reply.Halted) (unchanged s reply.Idle)).state
    by true = within
    by false = within

work_within : (o : Option ℕ) (s : State) → AreWithin s → AreWithin (work_by o s).state
work_within None s within = rest_within s within
work_within (Some a) s within = by (is_system a)
  where
    by : (c : Bool) → AreWithin (cond c (turn_of a s) (rest s)).state
    by true = turn_within a s within
    by false = rest_within s within

bind_within : (c : Bool) (b : Binding) (s : State) → AreWithin s → AreWithin (bind_unless c b s).state
bind_within true b s within = within
bind_within false b s within = none_over [] (record s { world = binding b s.world })

watch_within : (c : Bool) (x : Watched) (s : State) → AreWithin s → AreWithin (watch_unless c x s).state
watch_within true x s within = within
watch_within false x s within = none_over [] (record s { world = watching x s.world })

done_within : (s : State) (e : Step) → AreWithin s → AreWithin (done s e).state
done_within s (Bind b) within = bind_within (is_barred b s) b s within
done_within s (Watch x) within = watch_within (is_unwatchable x s) x s within
done_within s (Arrive space) within = arrive_within (refusal space s) space s within
done_within s (Packet k t) within = packet_within k (ports_of k s) t s within
done_within s (Bad k f) within = bad_within k (ports_of k s) f s within
done_within s (Close k) within = close_within k (ports_of k s) s within
done_within s (Turn a) within = turn_within a s within
done_within s Work within = work_within (lowest s.world.table) s within
done_within s Stop within = none_over [] (record s { stopped = true })

step_within : (s : State) (e : Step) → AreWithin s → AreWithin (step s e).state
step_within s e within = by (is_worn s e)
  where
    by : (c : Bool) → AreWithin (cond c (unchanged s reply.Worn) (done s e)).state
    by true = within
    by false = done_within s e within

run_within : (s : State) (es : List Step) → AreWithin s → AreWithin (run_from s es)
run_within s [] within = within
run_within s (e ∷ es) within = run_within (step s e).state es (step_within s e within)

-- at the beginning nobody has names
pub replay_within : (ds : List Definition) (steps : List Step) → AreWithin (replay ds steps)
replay_within ds steps = run_within (opening ds) steps (λ k. unless_named k (opening ds) refl)

-- ---- in numbers

below_top : (n m : ℕ) → m < 2 ^ 64 - 1 → nat_lt m (top n) ≡ false → n ≤ m
below_top n m small is =
    let least : top n ≤ m = grind (arith, nat_tests, is) in
    omega (arith, least, small)

both_none : (b c : Bool) (f g : Fault)
    → option_or (cond {A = Option Fault} b (Some f) None) (cond {A = Option Fault} c (Some g) None) ≡ None
    → (b ≡ false) × (c ≡ false)
both_none true c f g is = absurd cc
both_none false true f g is = absurd cc
both_none false false f g is = (refl, refl)

pub within_numbers : (l : Load) → overrun_by (top_load l) ≡ None
    → (l.count ≤ most_deliveries) × (l.weight ≤ most_deliveries_weight)
within_numbers l is =
    let tests = both_none (nat_lt most_deliveries (top l.count)) (nat_lt most_deliveries_weight (top l.weight))
    (Overrun 1 (top l.count)) (Overrun 2 (top l.weight)) is in (
      below_top l.count most_deliveries (omega arith) tests.0,
      below_top l.weight most_deliveries_weight (omega arith) tests.1,
    )

live_within : (k : ℕ) (s : State) → is_there k s ≡ true → overrun_of k s ≡ None → IsWithin (actor_of k) s.world
live_within k s there within =
    within_numbers (deliveries (actor_of k) s.world)
    (sym (ap (λ b. cond b (overrun_by (top_load (deliveries (actor_of k) s.world))) None) there) ∙ within)

pub nobody_over : NobodyIsOver
nobody_over ds steps may k come live =
    live_within k (replay ds steps) ((presence ds steps may).names k come live).1 (replay_within ds steps k)
