-- A connection that closes, or that is refused, ends alone.
use Rattle.std.proofs.Common.{◌≡◌, ℕ, [], Bool, true, false, cond, Option, Some, None, refl, sym, subst}
use Rattle.ac_table.specs.Tables.{is_live}
use Rattle.ac_world.specs.Worlds.{actor_of, entry_of}
use Rattle.rl_packet.specs.declared.packets.Turn.{Turn as TurnRecord}
use Rattle.rl_ports.specs.Ports.{PortsState}
use Rattle.hub_machine.specs.declared.faults.Fault.{Fault}
use Rattle.hub_machine.specs.declared.faults.Fault.TheVariants.{Spread}
use Rattle.hub_machine.specs.State.{State, ports_of}
use Rattle.hub_machine.specs.Admission.{Admitted, refused, admitted, turn_admission}
use Rattle.hub_machine.specs.Endings.{nameless, closed, failed, finished}
use Rattle.hub_machine.specs.Machine.{unchanged, judged, packet_at, bad_at, close_at, is_worn, done}
use Rattle.hub_machine.specs.declared.steps.Step.TheVariants.{Packet, Bad, Close}
use Rattle.hub_machine.specs.declared.steps.Reply.TheVariants as reply
use Rattle.hub_laws.proofs.Presence.{dead_itself}
use Rattle.hub_cascade.specs.Laws.{EndsOne, AnEndingEndsOne}
use Rattle.hub_cascade.specs.Sparing.{EndsAlone}
use Rattle.hub_cascade.proofs.Ends.{live_but, within_failed, undone}
use Rattle.hub_cascade.proofs.Over.{AreWithin, replay_within}
use Rattle.hub_cascade.proofs.Told.{ended_back}

named_live : (b : Bool) (o : Option PortsState) (p : PortsState) → cond b o None ≡ Some p → b ≡ true
named_live true o p is = refl
named_live false o p is = absurd cc

-- it fails, or closes, and a step's end ends nobody else

fails_alone : (k : ℕ) (f : Fault) (p : PortsState) (s : State) → ports_of k s ≡ Some p → AreWithin s
    → EndsAlone k s (finished [] (failed k f s))
fails_alone k f p s there within =
    subst (EndsAlone k s) (sym (undone (failed k f s) (λ j. within_failed j k f s (within j)))) (record {
      was_live = named_live (is_live (actor_of k) s.world.table) (entry_of k s.connections) p there;
      ended = dead_itself (actor_of k) s.world;
      others = λ b other. live_but b (actor_of k) s.world other;
      told = λ b x other found. ended_back (actor_of k) b s.world x other found;
    })

closes_alone : (k : ℕ) (p : PortsState) (s : State) → ports_of k s ≡ Some p → AreWithin s
    → EndsAlone k s (finished [] (closed k s))
closes_alone k p s there within =
    subst (EndsAlone k s) (sym (undone (closed k s) (λ j. within_failed j k (Spread 0) s (within j)))) (record {
      was_live = named_live (is_live (actor_of k) s.world.table) (entry_of k s.connections) p there;
      ended = dead_itself (actor_of k) s.world;
      others = λ b other. live_but b (actor_of k) s.world other;
      told = λ b x other found. ended_back (actor_of k) b s.world x other found;
    })

-- ---- the steps

close_ends : (k : ℕ) (o : Option PortsState) (s : State) → ports_of k s ≡ o → AreWithin s
    → (close_at k o s).reply ≡ reply.Taken → EndsAlone k s (close_at k o s).state
close_ends k None s there within is = absurd cc
close_ends k (Some p) s there within is = closes_alone k p s there within

bad_ends : (k : ℕ) (o : Option PortsState) (g f : Fault) (s : State) → ports_of k s ≡ o → AreWithin s
    → (bad_at k o g s).reply ≡ reply.Refused f → EndsAlone k s (bad_at k o g s).state
bad_ends k None g f s there within is = absurd cc
bad_ends k (Some p) g f s there within is = fails_alone k g p s there within

judged_ends : (k : ℕ) (d : Admitted) (f : Fault) (p : PortsState) (s : State) → ports_of k s ≡ Some p → AreWithin s
    → (judged k d (nameless k s)).reply ≡ reply.Refused f → EndsAlone k s (judged k d (nameless k s)).state
judged_ends k (refused g) f p s there within is = fails_alone k g p s there within
judged_ends k (admitted x) f p s there within is = absurd cc

packet_ends : (k : ℕ) (o : Option PortsState) (t : TurnRecord) (f : Fault) (s : State) → ports_of k s ≡ o
    → AreWithin s → (packet_at k o t s).reply ≡ reply.Refused f → EndsAlone k s (packet_at k o t s).state
packet_ends k None t f s there within is = absurd cc
packet_ends k (Some p) t f s there within is = judged_ends k (turn_admission k p s.world t) f p s there within is

ends_one : (k : ℕ) (s : State) → AreWithin s → EndsOne k s
ends_one k s within = record {
  closed = closing (is_worn s (Close k));
  bad = λ f. sending f (is_worn s (Bad k f));
  refused = λ t f. asking t f (is_worn s (Packet k t));
}
  where
    closing : (c : Bool) → (cond c (unchanged s reply.Worn) (done s (Close k))).reply ≡ reply.Taken
        → EndsAlone k s (cond c (unchanged s reply.Worn) (done s (Close k))).state
    closing true is = absurd cc
    closing false is = close_ends k (ports_of k s) s refl within is

    sending : (f : Fault) (c : Bool) → (cond c (unchanged s reply.Worn) (done s (Bad k f))).reply ≡ reply.Refused f
        → EndsAlone k s (cond c (unchanged s reply.Worn) (done s (Bad k f))).state
    sending f true is = absurd cc
    sending f false is = bad_ends k (ports_of k s) f f s refl within is

    asking : (t : TurnRecord) (f : Fault) (c : Bool)
        → (cond c (unchanged s reply.Worn) (done s (Packet k t))).reply ≡ reply.Refused f
        → EndsAlone k s (cond c (unchanged s reply.Worn) (done s (Packet k t))).state
    asking t f true is = absurd cc
    asking t f false is = packet_ends k (ports_of k s) t f s refl within is

pub an_ending_ends_one : AnEndingEndsOne
an_ending_ends_one ds steps may k = ends_one k _ (replay_within ds steps)
