-- Where a step is refused, or has nothing to do, nothing changes.
use Rattle.std.proofs.Common.{◌≡◌, ℕ, ◌-◌, Bool, true, false, cond, Option, Some, None, refl}
use Rattle.ac_table.specs.declared.batches.Batch.{Batch}
use Rattle.ac_table.specs.Tables.{is_live, first_batch, lowest}
use Rattle.gk_sturdy.specs.declared.bound.Binding.{Binding}
use Rattle.ac_world.specs.declared.watched.Watched.{Watched}
use Rattle.ac_world.specs.Worlds.{WorldState, is_system}
use Rattle.ac_world.specs.Turns.{After as TurnOf, turn_first, turn_with}
use Rattle.rl_packet.specs.declared.packets.Turn.{Turn as TurnRecord}
use Rattle.rl_ports.specs.Ports.{PortsState}
use Rattle.hub_machine.specs.Faults.{Fault}
use Rattle.hub_machine.specs.State.{State, ports_of}
use Rattle.hub_machine.specs.Admission.{Admitted, refused, admitted, turn_admission}
use Rattle.hub_machine.specs.Endings.{nameless}
use Rattle.hub_machine.specs.Laws.{IsRefusal, RefusalChangesNothing}
use Rattle.hub_machine.specs.Machine.{After, done, is_worn, unchanged, is_barred, bind_unless, is_unwatchable}
use Rattle.hub_machine.specs.Machine.{watch_unless, refusal, arrive_unless, judged, packet_at}
use Rattle.hub_machine.specs.Machine.{bad_at, close_at, tell, told_unless, telling_fault, tell_fault, fault_for}
use Rattle.hub_machine.specs.Machine.{after_turn, turn_of, rest, work_by}
use Rattle.hub_machine.specs.declared.steps.Step.{Step}
use Rattle.hub_machine.specs.declared.steps.Step.TheVariants.{Bind, Watch, Arrive, Packet, Bad, Close, Turn, Work, Stop}
use Rattle.hub_machine.specs.declared.steps.Reply.{Reply}
use Rattle.hub_machine.specs.declared.steps.Reply.TheVariants.{Worn, Halted, Idle}
use Rattle.ac_world.specs.declared.turns.Turned.TheVariants as turning

abbrev Keeps : State → After → Type 0
Keeps s x = IsRefusal x.reply → x.state ≡ s

bind : (c : Bool) (b : Binding) (s : State) → Keeps s (bind_unless c b s)
bind true b s is = refl
bind false b s is = absurd is

watch : (c : Bool) (x : Watched) (s : State) → Keeps s (watch_unless c x s)
watch true x s is = refl
watch false x s is = absurd is

arrival : (o : Option Reply) (space : ℕ) (s : State) → Keeps s (arrive_unless o space s)
arrival (Some r) space s is = refl
arrival None space s is = absurd is

judgement : (k : ℕ) (d : Admitted) (s t : State) → Keeps t (judged k d s)
judgement k (refused f) s t is = absurd is
judgement k (admitted x) s t is = absurd is

packet : (k : ℕ) (o : Option PortsState) (t : TurnRecord) (s : State) → Keeps s (packet_at k o t s)
packet k None t s is = refl
packet k (Some ports) t s is = judgement k (turn_admission k ports s.world t) (nameless k s) s is

bad : (k : ℕ) (o : Option PortsState) (f : Fault) (s : State) → Keeps s (bad_at k o f s)
bad k None f s is = refl
bad k (Some ports) f s is = absurd is

closing : (k : ℕ) (o : Option PortsState) (s : State) → Keeps s (close_at k o s)
closing k None s is = refl
closing k (Some ports) s is = absurd is

-- ---- turns

telling : (o : Option Fault) (k : ℕ) (ports : PortsState) (b : Batch) (s t : State)
    → Keeps t (told_unless o k ports b s)
telling (Some f) k ports b s t is = absurd is
telling None k ports b s t is = absurd is

told : (k : ℕ) (o : Option PortsState) (b : Batch) (s t : State) → Keeps t (tell k o b s)
told k None b s t is = absurd is
told k (Some ports) b s t is = telling (telling_fault k b ports) k ports b s t is

fault_told : (a : ℕ) (o : Option Fault) (s : State) → Keeps s (tell_fault a o s)
fault_told a None s is = refl
fault_told a (Some f) s is = absurd is

-- what follows from a turn in s
abbrev follows : ℕ → State → TurnOf → After
follows a s t = after_turn a t.turned (record s { world = t.world })

with_batch : (a : ℕ) (b : Batch) (w : WorldState) (s : State) → Keeps s (follows a s (turn_with a b w))
with_batch a b w s = by (is_system a) refl
  where
    by : (y : Bool) → is_system a ≡ y → Keeps s (follows a s (turn_with a b w))
    by true q = rw q (λ is. absurd is)
    by false q = rw q (told (a - 16) _ b _ s)

first : (a : ℕ) (o : Option Batch) (s : State) → Keeps s (follows a s (turn_first a o s.world))
first a None s is = refl
first a (Some b) s is = with_batch a b _ s is

turned : (a : ℕ) (s : State) → Keeps s (turn_of a s)
turned a s = by (is_live a s.world.table)
  where
    by : (x : Bool) → Keeps s (follows a s (cond x (turn_first a (first_batch a s.world.table) s.world)
        (record { world = s.world; turned = turning.Gone })))
    by true = first a (first_batch a s.world.table) s
    by false = fault_told a (fault_for a s) s

rested : (s : State) → Keeps s (rest s)
rested s = by s.stopped
  where
    by : (x : Bool) → Keeps s (cond x (unchanged s Halted) (unchanged s Idle))
    by true is = refl
    by false is = refl

worked : (o : Option ℕ) (s : State) → Keeps s (work_by o s)
worked None s = rested s
worked (Some a) s = by (is_system a)
  where
    by : (x : Bool) → Keeps s (cond x (turn_of a s) (rest s))
    by true = turned a s
    by false = rested s

-- ---- steps

all_done : (s : State) (e : Step) → Keeps s (done s e)
all_done s (Bind b) = bind (is_barred b s) b s
all_done s (Watch x) = watch (is_unwatchable x s) x s
all_done s (Arrive space) = arrival (refusal space s) space s
all_done s (Packet k es) = packet k (ports_of k s) es s
all_done s (Bad k f) = bad k (ports_of k s) f s
all_done s (Close k) = closing k (ports_of k s) s
all_done s (Turn a) = turned a s
all_done s Work = worked (lowest s.world.table) s
all_done s Stop = λ is. absurd is

pub nothing_changes : RefusalChangesNothing
nothing_changes s e = by (is_worn s e)
  where
    by : (x : Bool) → Keeps s (cond x (unchanged s Worn) (done s e))
    by true = λ is. refl
    by false = all_done s e
