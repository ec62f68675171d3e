-- A step is barred exactly where one of its causes holds.
use Rattle.std.proofs.Common.{◌≡◌, ℕ, ◌-◌, ◌^◌, ◌<◌, ◌||◌, Bool, true, false, cond, Option, Some}
use Rattle.std.proofs.Common.{None, refl, ap, ◌∙◌, arith, nat_lt, nat_le, length}
use Rattle.std.proofs.lemmas.Bool.Decides.{nat_tests}
use Rattle.gk_sturdy.specs.declared.bound.Binding.{Binding}
use Rattle.ac_table.specs.declared.batches.Batch.{Batch}
use Rattle.ac_table.specs.Tables.{lowest}
use Rattle.ac_world.specs.declared.turns.Turned.{Turned}
use Rattle.ac_world.specs.declared.turns.Turned.TheVariants as turned
use Rattle.ac_world.specs.Turns.{turn}
use Rattle.ac_world.specs.declared.watched.Watched.{Watched}
use Rattle.ac_world.specs.Worlds.{is_system}
use Rattle.rl_packet.specs.declared.packets.Turn.{Turn as TurnRecord}
use Rattle.rl_ports.specs.Ports.{PortsState}
use Rattle.hub_machine.specs.declared.faults.Fault.{Fault}
use Rattle.hub_machine.specs.State.{State, ports_of}
use Rattle.hub_machine.specs.Admission.{Admitted, refused, admitted, turn_admission}
use Rattle.hub_machine.specs.Endings.{nameless}
use Rattle.hub_machine.specs.Machine.{After, unchanged, is_barred, bind_unless, is_unwatchable, watch_unless, refusal}
use Rattle.hub_machine.specs.Machine.{arrive_unless, judged, packet_at, bad_at, close_at, telling_fault, told_unless}
use Rattle.hub_machine.specs.Machine.{tell, fault_for, tell_fault, after_turn, turn_of, rest, work_by, is_worn, done}
use Rattle.hub_machine.specs.Machine.{step}
use Rattle.hub_machine.specs.declared.steps.Step.{Step}
use Rattle.hub_machine.specs.declared.steps.Step.TheVariants.{Bind, Watch, Arrive, Packet, Bad, Close, Turn, Work, Stop}
use Rattle.hub_machine.specs.declared.steps.Reply.{Reply}
use Rattle.hub_machine.specs.declared.steps.Reply.TheVariants as reply
use Rattle.hub_limits.specs.Barring.{HasCause, HasNumbers, BarsBinding, BarsWatcher}
use Rattle.hub_limits.specs.Laws.{BarredForACause}
use Rattle.hub_limits.proofs.Causes.{bars_binding, is_barred_by, bars_watcher, is_unwatchable_by}

-- ---- numbers

-- a number that is not used up is below the bound
fresh : (n m : ℕ) → nat_le n m ≡ false → m < n
fresh n m is = grind (arith, nat_tests, is)

-- a number below the bound is not used up
not_worn : (n m : ℕ) → m < n → nat_le n m ≡ false
not_worn n m l = grind (arith, nat_tests, l)

-- for an arrival
both_fresh : (n i m j : ℕ) → (nat_le n i || nat_le m j) ≡ false → (i < n) × (j < m)
both_fresh n i m j is = by (nat_le n i) (nat_le m j) refl refl is
  where
    by : (b c : Bool) → nat_le n i ≡ b → nat_le m j ≡ c → (b || c) ≡ false → (i < n) × (j < m)
    by false false first second none = (fresh n i first, fresh m j second)
    by false true first second none = absurd cc
    by true c first second none = absurd cc

-- for an arrival, the other way
neither_worn : (n i m j : ℕ) → i < n → j < m → (nat_le n i || nat_le m j) ≡ false
neither_worn n i m j k l = ap (λ b. b || nat_le m j) (not_worn n i k) ∙ not_worn m j l

-- where the test fails, the numbers are not used up
has_numbers : (s : State) (e : Step) → is_worn s e ≡ false → HasNumbers s e
has_numbers s (Arrive space) is = both_fresh (2 ^ 62) s.world.table.next (2 ^ 31) s.world.opened is
has_numbers s (Bind b) is = fresh (2 ^ 62) s.world.table.next is
has_numbers s (Watch x) is = fresh (2 ^ 62) s.world.table.next is
has_numbers s (Packet k t) is = fresh (2 ^ 62) s.world.table.next is
has_numbers s (Bad k f) is = fresh (2 ^ 62) s.world.table.next is
has_numbers s (Close k) is = fresh (2 ^ 62) s.world.table.next is
has_numbers s (Turn a) is = fresh (2 ^ 62) s.world.table.next is
has_numbers s Work is = fresh (2 ^ 62) s.world.table.next is
has_numbers s Stop is = fresh (2 ^ 62) s.world.table.next is

-- where the numbers are not used up, the test fails
pub is_unworn : (s : State) (e : Step) → HasNumbers s e → is_worn s e ≡ false
is_unworn s (Arrive space) n = neither_worn (2 ^ 62) s.world.table.next (2 ^ 31) s.world.opened n.0 n.1
is_unworn s (Bind b) n = not_worn (2 ^ 62) s.world.table.next n
is_unworn s (Watch x) n = not_worn (2 ^ 62) s.world.table.next n
is_unworn s (Packet k t) n = not_worn (2 ^ 62) s.world.table.next n
is_unworn s (Bad k f) n = not_worn (2 ^ 62) s.world.table.next n
is_unworn s (Close k) n = not_worn (2 ^ 62) s.world.table.next n
is_unworn s (Turn a) n = not_worn (2 ^ 62) s.world.table.next n
is_unworn s Work n = not_worn (2 ^ 62) s.world.table.next n
is_unworn s Stop n = not_worn (2 ^ 62) s.world.table.next n

-- ---- who is barred has a cause

-- a binding whose reply is that it is barred has a cause
bind_cause : (c : Bool) (b : Binding) (s : State) → is_barred b s ≡ c → (bind_unless c b s).reply ≡ reply.Barred
    → BarsBinding b s
bind_cause true b s is barred = bars_binding b s is
bind_cause false b s is barred = absurd cc

-- a watcher whose reply is that it is barred has a cause
watch_cause : (c : Bool) (x : Watched) (s : State) → is_unwatchable x s ≡ c
    → (watch_unless c x s).reply ≡ reply.Barred → BarsWatcher x s
watch_cause true x s is barred = bars_watcher x s is
watch_cause false x s is barred = absurd cc

-- the tests of an arrival
abbrev pub refused_by : Bool → Bool → Bool → Option Reply
refused_by b c d =
    cond b (Some reply.Barred) (cond c (Some reply.Halted) (cond d (Some reply.Full) None))

-- an arrival whose reply is that it is barred is at no dataspace, nor at the gatekeeper
arrive_cause : (space : ℕ) (s : State) → (arrive_unless (refusal space s) space s).reply ≡ reply.Barred → 8 < space
arrive_cause space s barred =
    by (nat_lt 8 space) s.stopped (nat_le 32 (length s.connections)) refl barred
  where
    by : (b c d : Bool) → nat_lt 8 space ≡ b → (arrive_unless (refused_by b c d) space s).reply ≡ reply.Barred
        → 8 < space
    by true c d far is = grind (arith, nat_tests, far)
    by false true d far is = absurd cc
    by false false true far is = absurd cc
    by false false false far is = absurd cc

-- ---- no other step is barred

-- the reply is another
abbrev IsFree : After → Type 0
IsFree x = x.reply ≡ reply.Barred → ⊥

-- a packet that is judged
judged_free : (k : ℕ) (d : Admitted) (s : State) → IsFree (judged k d s)
judged_free k (refused f) s is = absurd cc
judged_free k (admitted x) s is = absurd cc

-- a packet
packet_free : (k : ℕ) (o : Option PortsState) (t : TurnRecord) (s : State) → IsFree (packet_at k o t s)
packet_free k None t s is = absurd cc
packet_free k (Some ports) t s is = judged_free k (turn_admission k ports s.world t) (nameless k s) is

-- bytes that are no packet
bad_free : (k : ℕ) (o : Option PortsState) (f : Fault) (s : State) → IsFree (bad_at k o f s)
bad_free k None f s is = absurd cc
bad_free k (Some ports) f s is = absurd cc

-- a connection that closes
close_free : (k : ℕ) (o : Option PortsState) (s : State) → IsFree (close_at k o s)
close_free k None s is = absurd cc
close_free k (Some ports) s is = absurd cc

-- a connection that is told of a batch, or fails
unless_free : (o : Option Fault) (k : ℕ) (ports : PortsState) (b : Batch) (s : State)
    → IsFree (told_unless o k ports b s)
unless_free (Some f) k ports b s is = absurd cc
unless_free None k ports b s is = absurd cc

-- a connection that has a batch
tell_free : (k : ℕ) (o : Option PortsState) (b : Batch) (s : State) → IsFree (tell k o b s)
tell_free k None b s is = absurd cc
tell_free k (Some ports) b s is = unless_free (telling_fault k b ports) k ports b s is

-- a peer that is told of its fault
fault_free : (a : ℕ) (o : Option Fault) (s : State) → IsFree (tell_fault a o s)
fault_free a None s is = absurd cc
fault_free a (Some f) s is = absurd cc

-- what follows from a turn
after_free : (a : ℕ) (t : Turned) (s : State) → IsFree (after_turn a t s)
after_free a (turned.Ran xs) s is = absurd cc
after_free a (turned.Taken b) s is = tell_free (a - 16) (ports_of (a - 16) s) b s is
after_free a turned.Idle s is = absurd cc
after_free a turned.Gone s is = fault_free a (fault_for a s) s is

-- a turn
turn_free : (a : ℕ) (s : State) → IsFree (turn_of a s)
turn_free a s = after_free a (turn a s.world).turned (record s { world = (turn a s.world).world })

-- no turn is taken
rest_free : (s : State) → IsFree (rest s)
rest_free s = by s.stopped
  where
    by : (c : Bool) → IsFree (cond c (unchanged s reply.Halted) (unchanged s reply.Idle))
    by true is = absurd cc
    by false is = absurd cc

-- work
work_free : (o : Option ℕ) (s : State) → IsFree (work_by o s)
work_free None s = rest_free s
work_free (Some a) s = by (is_system a)
  where
    by : (c : Bool) → IsFree (cond c (turn_of a s) (rest s))
    by true = turn_free a s
    by false = rest_free s

-- ---- both ways

-- a step that is done, and whose reply is that it is barred, has a cause
cause_of : (s : State) (e : Step) → (done s e).reply ≡ reply.Barred → HasCause s e
cause_of s (Bind b) is = bind_cause (is_barred b s) b s refl is
cause_of s (Watch x) is = watch_cause (is_unwatchable x s) x s refl is
cause_of s (Arrive space) is = arrive_cause space s is
cause_of s (Packet k t) is = packet_free k (ports_of k s) t s is
cause_of s (Bad k f) is = bad_free k (ports_of k s) f s is
cause_of s (Close k) is = close_free k (ports_of k s) s is
cause_of s (Turn a) is = turn_free a s is
cause_of s Work is = work_free (lowest s.world.table) s is
cause_of s Stop is = absurd cc

-- a step that has a cause is barred where it is done
barred_by : (s : State) (e : Step) → HasCause s e → (done s e).reply ≡ reply.Barred
barred_by s (Bind b) cause = ap (λ c. (bind_unless c b s).reply) (is_barred_by b s cause)
barred_by s (Watch x) cause = ap (λ c. (watch_unless c x s).reply) (is_unwatchable_by x s cause)
barred_by s (Arrive space) far =
    let is : nat_lt 8 space ≡ true = grind (arith, nat_tests, far) in
    ap (λ b. (arrive_unless (refused_by b s.stopped (nat_le 32 (length s.connections))) space s).reply) is
barred_by s (Packet k t) cause = absurd cause
barred_by s (Bad k f) cause = absurd cause
barred_by s (Close k) cause = absurd cause
barred_by s (Turn a) cause = absurd cause
barred_by s Work cause = absurd cause
barred_by s Stop cause = absurd cause

-- the law: a step that is not done, since numbers are used up, has another reply
pub barred_for_a_cause : BarredForACause
barred_for_a_cause s e = (λ barred. by (is_worn s e) refl barred, λ c. back c.0 c.1)
  where
    by : (b : Bool) → is_worn s e ≡ b → (cond b (unchanged s reply.Worn) (done s e)).reply ≡ reply.Barred
        → HasNumbers s e × HasCause s e
    by true worn is = absurd cc
    by false unworn is = (has_numbers s e unworn, cause_of s e is)

    back : HasNumbers s e → HasCause s e → (step s e).reply ≡ reply.Barred
    back numbers cause =
        ap (λ b. (cond b (unchanged s reply.Worn) (done s e)).reply) (is_unworn s e numbers) ∙ barred_by s e cause
