-- Which replies steps of a peer, and work, can get.
use Rattle.std.proofs.Common.{◌≡◌, ℕ, ◌-◌, Bool, true, false, Option, None, Some, if◌then◌else◌, refl, subst}
use Rattle.rl_packet.specs.declared.packets.Turn.{Turn as TurnRecord}
use Rattle.rl_ports.specs.Ports.{PortsState}
use Rattle.hub_machine.specs.State.{State, ports_of}
use Rattle.hub_machine.specs.declared.faults.Fault.{Fault}
use Rattle.hub_machine.specs.Admission.{Admitted, refused, admitted, turn_admission}
use Rattle.hub_machine.specs.Endings.{nameless}
use Rattle.hub_machine.specs.Machine.{After, done, unchanged, judged, packet_at, bad_at, close_at, is_worn, rest, turn_of}
use Rattle.hub_machine.specs.Machine.{after_turn, tell, told_unless, telling_fault, tell_fault, fault_for, work_by}
use Rattle.hub_machine.specs.declared.steps.Step.{Step}
use Rattle.hub_machine.specs.declared.steps.Step.TheVariants.{Packet, Bad, Close, Work}
use Rattle.hub_machine.specs.declared.steps.Reply.{Reply}
use Rattle.hub_machine.specs.declared.steps.Reply.TheVariants as reply
use Rattle.hub_machine.specs.declared.steps.Reply.TheVariants.{Worn}
use Rattle.ac_table.specs.declared.batches.Batch.{Batch}
use Rattle.ac_table.specs.Tables.{lowest}
use Rattle.ac_world.specs.declared.turns.Turned.{Turned}
use Rattle.ac_world.specs.declared.turns.Turned.TheVariants as turned
use Rattle.ac_world.specs.Turns.{turn}
use Rattle.ac_world.specs.Worlds.{is_system}
use Rattle.srv_turns.specs.Replies.{IsPacketReply, IsBadReply, PacketsAreReplied, BadIsReplied, CanBeReplied}
use Rattle.srv_turns.specs.Rounds.{is_taken, is_ran}
use Rattle.srv_turns.specs.Rows.{is_of_peer}

module _ (P : Reply → Type 0) where
  worn_or : (b : Bool) (s : State) (x : After) → P Worn → P x.reply → P (if b then unchanged s Worn else x).reply
  worn_or true s x worn other = worn
  worn_or false s x worn other = other

judged_reply : (k : ℕ) (a : Admitted) (s : State) → IsPacketReply (judged k a s).reply
judged_reply k (refused f) s = tt
judged_reply k (admitted x) s = tt

packet_reply : (k : ℕ) (o : Option PortsState) (t : TurnRecord) (s : State)
    → IsPacketReply (packet_at k o t s).reply
packet_reply k None t s = tt
packet_reply k (Some ports) t s = judged_reply k (turn_admission k ports s.world t) (nameless k s)

bad_reply : (k : ℕ) (o : Option PortsState) (f : Fault) (s : State) → IsBadReply (bad_at k o f s).reply
bad_reply k None f s = tt
bad_reply k (Some ports) f s = tt

pub packet_replied : PacketsAreReplied
packet_replied k t r (s, is) = subst IsPacketReply is
    (worn_or IsPacketReply (is_worn s (Packet k t)) s (done s (Packet k t)) tt
    (packet_reply k (ports_of k s) t s))

pub bad_replied : BadIsReplied
bad_replied k f r (s, is) = subst IsBadReply is
    (worn_or IsBadReply (is_worn s (Bad k f)) s (done s (Bad k f)) tt (bad_reply k (ports_of k s) f s))

-- ---- none of them is told to have run

packet_never_ran : (r : Reply) → IsPacketReply r → is_ran r ≡ false
packet_never_ran reply.Ran is = absurd is
packet_never_ran r is = refl

bad_never_ran : (r : Reply) → IsBadReply r → is_ran r ≡ false
bad_never_ran reply.Ran is = absurd is
bad_never_ran r is = refl

abbrev NeverRan : Reply → Type 0
NeverRan r = is_ran r ≡ false

close_reply : (k : ℕ) (o : Option PortsState) (s : State) → NeverRan (close_at k o s).reply
close_reply k None s = refl
close_reply k (Some ports) s = refl

close_never_ran : (k : ℕ) (r : Reply) → CanBeReplied (Close k) r → NeverRan r
close_never_ran k r (s, is) = subst NeverRan is
    (worn_or NeverRan (is_worn s (Close k)) s (done s (Close k)) refl (close_reply k (ports_of k s) s))

pub peer_never_ran : (e : Step) (r : Reply) → is_of_peer e ≡ true → CanBeReplied e r → is_ran r ≡ false
peer_never_ran (Packet k t) r of can = packet_never_ran r (packet_replied k t r can)
peer_never_ran (Bad k f) r of can = bad_never_ran r (bad_replied k f r can)
peer_never_ran (Close k) r of can = close_never_ran k r can
peer_never_ran e r of can = absurd cc

-- ---- work is never told as taken

abbrev NeverTaken : Reply → Type 0
NeverTaken r = is_taken r ≡ false

rest_by : (b : Bool) (s : State) → NeverTaken (if b then unchanged s reply.Halted else unchanged s reply.Idle).reply
rest_by true s = refl
rest_by false s = refl

told_reply : (o : Option Fault) (k : ℕ) (ports : PortsState) (b : Batch) (s : State)
    → NeverTaken (told_unless o k ports b s).reply
told_reply None k ports b s = refl
told_reply (Some f) k ports b s = refl

tell_reply : (k : ℕ) (o : Option PortsState) (b : Batch) (s : State) → NeverTaken (tell k o b s).reply
tell_reply k None b s = refl
tell_reply k (Some ports) b s = told_reply (telling_fault k b ports) k ports b s

fault_reply : (a : ℕ) (o : Option Fault) (s : State) → NeverTaken (tell_fault a o s).reply
fault_reply a None s = refl
fault_reply a (Some f) s = refl

turn_reply : (a : ℕ) (t : Turned) (s : State) → NeverTaken (after_turn a t s).reply
turn_reply a (turned.Ran xs) s = refl
turn_reply a (turned.Taken b) s = tell_reply (a - 16) (ports_of (a - 16) s) b s
turn_reply a turned.Idle s = refl
turn_reply a turned.Gone s = fault_reply a (fault_for a s) s

work_at : (b : Bool) (a : ℕ) (s : State) → NeverTaken (if b then turn_of a s else rest s).reply
work_at true a s = turn_reply a (turn a s.world).turned (record s { world = (turn a s.world).world })
work_at false a s = rest_by s.stopped s

work_reply : (o : Option ℕ) (s : State) → NeverTaken (work_by o s).reply
work_reply None s = rest_by s.stopped s
work_reply (Some a) s = work_at (is_system a) a s

pub work_never_taken : (r : Reply) → CanBeReplied Work r → is_taken r ≡ false
work_never_taken r (s, is) = subst NeverTaken is
    (worn_or NeverTaken (is_worn s Work) s (done s Work) refl (work_reply (lowest s.world.table) s))
