-- What a step leaves: the server goes on, as many connections have come as had, and those that have names are among them.
use Rattle.std.proofs.Common.{◌≡◌, ℕ, suc, ◌+◌, ◌-◌, ◌<◌, ◌≤◌, ◌⊎◌, inl, inr, List, [], ◌∷◌, Bool, true, false, cond}
use Rattle.std.proofs.Common.{Option, Some, None, refl, sym, subst, ap, ◌∙◌, arith}
use Rattle.std.specs.Prelude.{nat_le, length}
use Rattle.std.specs.List.{AllByRecursion}
use Rattle.std.specs.Map.{keys_of}
use Rattle.std.specs.Ordering.{nat_cmp}
use Rattle.std.proofs.lemmas.Bool.Decides.{nat_tests}
use Rattle.std.proofs.lemmas.Map.Keys.{sorted_head, sorted_tail}
use Rattle.ps_schema.specs.declared.Definition.{Definition}
use Rattle.ac_table.specs.declared.batches.Batch.{Batch}
use Rattle.ac_table.specs.Tables.{is_live}
use Rattle.ac_world.specs.declared.spreads.Spread.{Spread}
use Rattle.ac_world.specs.declared.turns.Turned.{Turned}
use Rattle.ac_world.specs.declared.turns.Turned.TheVariants as turned
use Rattle.ac_world.specs.Lemmas.Entries.{KeysAscend, AreAbove, ascend_none, ascend_with, ascend_without, each_with}
use Rattle.ac_world.specs.Lemmas.Entries.{each_without, each_found}
use Rattle.ac_world.specs.Turns.{turn}
use Rattle.ac_world.specs.Worlds.{with_entry, without_entry, entry_of, actor_of}
use Rattle.rl_packet.specs.declared.packets.Turn.{Turn as TurnRecord}
use Rattle.rl_ports.specs.Ports.{PortsState, ports_to}
use Rattle.hub_machine.specs.declared.faults.Fault.{Fault}
use Rattle.hub_machine.specs.Limits.{most_connections}
use Rattle.hub_machine.specs.State.{State, opening, ports_of}
use Rattle.hub_machine.specs.Admission.{Admitted, refused, admitted, turn_admission}
use Rattle.hub_machine.specs.Endings.{nameless, closed, failed, dismissed, finished}
use Rattle.hub_machine.specs.Machine.{unchanged, opened, refusal, arrive_unless, accepted, judged, packet_at, bad_at}
use Rattle.hub_machine.specs.Machine.{close_at, telling_fault, exporting, names_after, told_unless, tell, fault_for}
use Rattle.hub_machine.specs.Machine.{tell_fault, After, after_turn, turn_of, is_worn, done, step, actor_reference}
use Rattle.hub_machine.specs.declared.steps.Step.{Step}
use Rattle.hub_machine.specs.declared.steps.Step.TheVariants.{Arrive, Packet, Bad, Close, Turn}
use Rattle.hub_machine.specs.declared.steps.Reply.{Reply}
use Rattle.hub_machine.specs.declared.steps.Reply.TheVariants.{Worn, Full, Halted}
use Rattle.hub_valid.specs.Lemmas.Lives.{opened_ended}
use Rattle.hub_valid.specs.Lemmas.StepEnds.{finished_keeps}
use Rattle.hub_valid.specs.Lemmas.Turns.{turn_opens_none}

-- ---- names

abbrev pub Names : Type 0
Names = List (ℕ × PortsState)

-- a number from 1 to k
abbrev pub IsAmong : ℕ → ℕ × PortsState → Type 0
IsAmong k e = (1 ≤ e.0) × (e.0 ≤ k)

-- names are kept of some of the first k connections, of each once
pub record AreNames (k : ℕ) (es : Names) : Type 0 where
  pub ascend : KeysAscend es
  pub among : AllByRecursion (IsAmong k) es

names_without : (k j : ℕ) (es : Names) → AreNames k es → AreNames k (without_entry j es)
names_without k j es a = record {
  ascend = ascend_without j es a.ascend;
  among = each_without (IsAmong k) j es a.among;
}

names_with : (k j : ℕ) (p : PortsState) (es : Names) → IsAmong k (j, p) → AreNames k es
    → AreNames k (with_entry j p es)
names_with k j p es own a = record {
  ascend = ascend_with j p es a.ascend;
  among = each_with (IsAmong k) j p es own a.among;
}

names_more : (k : ℕ) (es : Names) → AreNames k es → AreNames (suc k) es
names_more k es a = record { ascend = a.ascend; among = all es a.among }
  where
    all : (xs : Names) → AllByRecursion (IsAmong k) xs → AllByRecursion (IsAmong (suc k)) xs
    all [] h = tt
    all (x ∷ xs) h = ((h.0.0, omega (arith, h.0.1)), all xs h.1)

-- numbers that ascend above m, none above k, are no more than k - m
few_above : (m k : ℕ) (es : Names) → m ≤ k → AreAbove m (keys_of es) → AllByRecursion (IsAmong k) es → KeysAscend es
    → length es + m ≤ k
few_above m k [] low above among s = omega (arith, low)
few_above m k (e ∷ es) low above among s =
    let later = few_above e.0 k es among.0.1 (sorted_head nat_cmp e.0 (keys_of es) s) among.1
    (sorted_tail nat_cmp e.0 (keys_of es) s) in
    let first : m < e.0 = grind (arith, nat_tests, above.0) in
    omega (arith, later, first)

pub few_names : (k : ℕ) (es : Names) → AreNames k es → length es ≤ k
few_names k es a =
    let few = few_above 0 k es (omega arith) (all es a.among) a.among a.ascend in
    omega (arith, few)
  where
    all : (xs : Names) → AllByRecursion (IsAmong k) xs → AreAbove 0 (keys_of xs)
    all [] h = tt
    all (x ∷ xs) h = (let some : 1 ≤ x.0 = h.0.0 in grind (arith, nat_tests, some), all xs h.1)

-- ---- states

-- the server goes on, and k connections have come
pub record IsOpen (k : ℕ) (s : State) : Type 0 where
  pub running : s.stopped ≡ false
  pub many : k ≡ s.world.opened
  pub names : AreNames k s.connections

-- at the beginning none has come
pub open_first : (ds : List Definition) → IsOpen 0 (opening ds)
open_first ds = record {
  running = refl;
  many = refl;
  names = record { ascend = ascend_none; among = tt };
}

-- the reply isn't that there are too many connections, nor that the numbers are used up
abbrev pub IsDone : Reply → Type 0
IsDone Full = ⊥
IsDone Worn = ⊥
IsDone r = Unit {0}

pub record Does (k : ℕ) (a : After) : Type 0 where
  pub state : IsOpen k a.state
  pub done : IsDone a.reply

-- the reply isn't that there are too many connections
abbrev pub HasRoom : Reply → Type 0
HasRoom Full = ⊥
HasRoom r = Unit {0}

pub record Stays (k : ℕ) (a : After) : Type 0 where
  pub state : IsOpen k a.state
  pub room : HasRoom a.reply

has_room : (r : Reply) → IsDone r → HasRoom r
has_room Full is = absurd is
has_room Worn is = tt
has_room r is = tt

-- the names that a live connection has are kept
pub kept_of : (j : ℕ) (ports : PortsState) (s : State) → ports_of j s ≡ Some ports
    → entry_of j s.connections ≡ Some ports
kept_of j ports s is = by (is_live (actor_of j) s.world.table) is
  where
    by : (b : Bool) → cond b (entry_of j s.connections) None ≡ Some ports → entry_of j s.connections ≡ Some ports
    by true found = found
    by false found = absurd cc

module _ (k : ℕ) where
  own_name : (j : ℕ) (ports p : PortsState) (s : State) → IsOpen k s → ports_of j s ≡ Some ports → IsAmong k (j, p)
  own_name j ports p s o is = each_found (IsAmong k) j ports s.connections o.names.among (kept_of j ports s is)

  -- a state in which as many have come
  alike : (s t : State) → t.stopped ≡ s.stopped → t.world.opened ≡ s.world.opened → AreNames k t.connections
      → IsOpen k s → IsOpen k t
  alike s t same as_many names p = record {
    running = cc;
    many = let h = p.many in cc;
    names = names;
  }

  -- ---- ends

  -- an end of either kind changes no number of those that have come
  failed_open : (j : ℕ) (f : Fault) (s : State) → IsOpen k s → IsOpen k (failed j f s)
  failed_open j f s p =
      alike s (failed j f s) refl (opened_ended (actor_of j) s.world) (names_without k j s.connections p.names) p

  closed_open : (j : ℕ) (s : State) → IsOpen k s → IsOpen k (closed j s)
  closed_open j s p =
      alike s (closed j s) refl (opened_ended (actor_of j) s.world) (names_without k j s.connections p.names) p

  dismissed_open : (a : ℕ) (s : State) → IsOpen k s → IsOpen k (dismissed a s)
  dismissed_open a s p = alike s (dismissed a s) refl (opened_ended a s.world) p.names p

  -- so the end of a step leaves it
  ends_open : (xs : List Spread) (s : State) → IsOpen k s → IsOpen k (finished xs s)
  ends_open xs s p =
      finished_keeps (IsOpen k) (λ j f t there q. failed_open j f t q) (λ a t high low q. dismissed_open a t q) xs s p

  -- ---- packets, and ends that a peer brings about

  -- a packet is done, or its connection ends
  judged_open : (j : ℕ) (ports : PortsState) (d : Admitted) (s : State) → ports_of j s ≡ Some ports → IsOpen k s
      → Does k (judged j d (nameless j s))
  judged_open j ports (refused f) s is p = record { state = ends_open [] (failed j f s) (failed_open j f s p); done = tt }
  judged_open j ports (admitted x) s is p = record {
    state = ends_open [] (accepted j x (nameless j s))
        (alike s (accepted j x (nameless j s)) refl refl
        (names_with k j x.ports (without_entry j s.connections) (own_name j ports x.ports s p is)
        (names_without k j s.connections p.names)) p);
    done = tt;
  }

  pub packet_open : (j : ℕ) (o : Option PortsState) (t : TurnRecord) (s : State) → ports_of j s ≡ o → IsOpen k s
      → Does k (packet_at j o t s)
  packet_open j None t s is p = record { state = p; done = tt }
  packet_open j (Some ports) t s is p = judged_open j ports (turn_admission j ports s.world t) s is p

  bad_open : (j : ℕ) (o : Option PortsState) (f : Fault) (s : State) → IsOpen k s → Does k (bad_at j o f s)
  bad_open j None f s p = record { state = p; done = tt }
  bad_open j (Some ports) f s p = record { state = ends_open [] (failed j f s) (failed_open j f s p); done = tt }

  close_open : (j : ℕ) (o : Option PortsState) (s : State) → IsOpen k s → Does k (close_at j o s)
  close_open j None s p = record { state = p; done = tt }
  close_open j (Some ports) s p = record { state = ends_open [] (closed j s) (closed_open j s p); done = tt }

  -- ---- turns

  -- a batch is told, or the connection ends
  unless_open : (o : Option Fault) (j : ℕ) (ports : PortsState) (b : Batch) (s : State) → ports_of j s ≡ Some ports
      → IsOpen k s → Does k (told_unless o j ports b s)
  unless_open (Some f) j ports b s is p = record {
    state = ends_open [] (failed j f s) (failed_open j f s p);
    done = tt;
  }
  unless_open None j ports b s is p =
      let after : PortsState = names_after j b ports in
      record {
        state = ends_open [] (exporting j b ports s)
            (alike s (exporting j b ports s) refl refl
            (names_with k j after s.connections (own_name j ports after s p is) p.names) p);
        done = tt;
      }

  tell_open : (j : ℕ) (o : Option PortsState) (b : Batch) (s : State) → ports_of j s ≡ o → IsOpen k s
      → Does k (tell j o b s)
  tell_open j None b s is p = record { state = ends_open [] s p; done = tt }
  tell_open j (Some ports) b s is p = unless_open (telling_fault j b ports) j ports b s is p

  -- a fault is told
  fault_open : (a : ℕ) (o : Option Fault) (s : State) → IsOpen k s → Does k (tell_fault a o s)
  fault_open a None s p = record { state = p; done = tt }
  fault_open a (Some f) s p =
      let t : State = record s { faults = without_entry (a - 16) s.faults } in
      record { state = ends_open [] t (alike s t refl refl p.names p); done = tt }

  -- what follows from a turn leaves it, whatever the turn was
  after_open : (a : ℕ) (t : Turned) (s : State) → IsOpen k s → Does k (after_turn a t s)
  after_open a (turned.Ran xs) s p = record { state = ends_open xs s p; done = tt }
  after_open a (turned.Taken b) s p = tell_open (a - 16) (ports_of (a - 16) s) b s refl p
  after_open a turned.Idle s p = record { state = p; done = tt }
  after_open a turned.Gone s p = fault_open a (fault_for a s) s p

  pub turn_open : (a : ℕ) (s : State) → IsOpen k s → Does k (turn_of a s)
  turn_open a s p =
      let t : State = record s { world = (turn a s.world).world } in
      after_open a (turn a s.world).turned t (alike s t refl (turn_opens_none a s.world) p.names p)

  -- ---- arrivals

  -- one more has come
  opened_open : (space : ℕ) (s : State) → IsOpen k s → IsOpen (suc k) (opened space s)
  opened_open space s p =
      let is = p.many in
      record {
        running = p.running;
        many = omega (arith, is);
        names = names_with (suc k) (s.world.opened + 1) (ports_to (actor_reference space)) s.connections
            (omega arith, omega (arith, is)) (names_more k s.connections p.names);
      }

-- a connection that comes is one more
pub arrives : (k : ℕ) (s : State) → IsOpen k s → Does (suc k) (arrive_unless None 1 s)
arrives k s p = record { state = ends_open (suc k) [] (opened 1 s) (opened_open k 1 s p); done = tt }

-- nothing is against one that comes to dataspace 1
pub may_come_in : (k : ℕ) (s : State) → k < 32 → IsOpen k s → refusal 1 s ≡ None
may_come_in k s room p =
    let few = few_names k s.connections p.names in
    let free : nat_le most_connections (length s.connections) ≡ false = grind (arith, nat_tests, few, room) in
    ap (λ b. cond b (Some Halted) (cond (nat_le most_connections (length s.connections)) (Some Full) None)) p.running
    ∙ ap (λ b. cond b (Some Full) None) free

-- ---- steps

-- the step ends no server, and makes no number of connections smaller
abbrev pub KeepsOpen : ℕ → Step → Type 0
KeepsOpen k e = (s : State) → IsOpen k s → Stays k (step s e)

-- where the numbers are used up nothing is done
done_or_worn : (k m : ℕ) (e : Step) (s : State) → IsOpen k s → Does m (done s e)
    → ((step s e).reply ≡ Worn) ⊎ Stays m (step s e)
done_or_worn k m e s p does = by (is_worn s e)
  where
    by : (worn : Bool) → ((cond worn (unchanged s Worn) (done s e)).reply ≡ Worn)
        ⊎ Stays m (cond worn (unchanged s Worn) (done s e))
    by true = inl refl
    by false = inr (record { state = does.state; room = has_room (done s e).reply does.done })

-- so a connection that comes is one more, or the numbers are used up
pub come : (k : ℕ) (s : State) → k < 32 → IsOpen k s
    → ((step s (Arrive 1)).reply ≡ Worn) ⊎ Stays (suc k) (step s (Arrive 1))
come k s room p =
    done_or_worn k (suc k) (Arrive 1) s p
    (subst (λ o. Does (suc k) (arrive_unless o 1 s)) (sym (may_come_in k s room p)) (arrives k s p))

module _ (k : ℕ) where
  keeps : (e : Step) → ((s : State) → IsOpen k s → Does k (done s e)) → KeepsOpen k e
  keeps e does s p = by (is_worn s e) (does s p)
    where
      by : (worn : Bool) → Does k (done s e) → Stays k (cond worn (unchanged s Worn) (done s e))
      by true d = record { state = p; room = tt }
      by false d = record { state = d.state; room = has_room (done s e).reply d.done }

  pub packet_keeps : (j : ℕ) (t : TurnRecord) → KeepsOpen k (Packet j t)
  packet_keeps j t = keeps (Packet j t) (λ s p. packet_open k j (ports_of j s) t s refl p)

  pub bad_keeps : (j : ℕ) (f : Fault) → KeepsOpen k (Bad j f)
  bad_keeps j f = keeps (Bad j f) (λ s p. bad_open k j (ports_of j s) f s p)

  pub close_keeps : (j : ℕ) → KeepsOpen k (Close j)
  close_keeps j = keeps (Close j) (λ s p. close_open k j (ports_of j s) s p)

  pub turn_keeps : (a : ℕ) → KeepsOpen k (Turn a)
  turn_keeps a = keeps (Turn a) (λ s p. turn_open k a s p)
