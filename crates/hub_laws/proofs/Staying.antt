-- What each step keeps of a connection that stays, but for its own turn: what it has got, and what it names of others.
use Rattle.std.proofs.Common.{◌≡◌, ◌≢◌, ℕ, ◌-◌, ◌<◌, ◌≤◌, nat_lt, List, [], ◌∷◌, Bool, true, false, cond}
use Rattle.std.proofs.Common.{Option, Some, None, is_some, inl, inr, refl, sym, ap, ◌∙◌, arith}
use Rattle.std.specs.Map.{keys_of}
use Rattle.std.proofs.lemmas.Bool.Decides.{nat_tests}
use Rattle.ac_table.specs.declared.batches.Batch.{Batch}
use Rattle.ac_table.specs.Tables.{Actor, IsTable, find_actor, is_live, rows_of, ended, first_batch}
use Rattle.ac_world.specs.declared.spreads.Spread.{Spread as SpreadOf}
use Rattle.ac_world.specs.declared.turns.Turned.{Turned}
use Rattle.ac_world.specs.declared.turns.Turned.TheVariants as turned
use Rattle.ac_world.specs.Outboxes.{retractions}
use Rattle.ac_world.specs.Turns.{After as TurnOf, connection_turn, turn_first, turn, system_turn}
use Rattle.ac_world.specs.Worlds.{WorldState, entry_of, with_entry, without_entry, is_system, actor_of, gone}
use Rattle.ac_world.specs.Worlds.{ended_of, watching}
use Rattle.ac_world.specs.declared.watched.Watched.{Watched}
use Rattle.ac_world.specs.Watchers.{next_watcher}
use Rattle.ac_world.specs.Lemmas.Entries.{put_found, put_other, out_other}
use Rattle.rl_packet.specs.declared.packets.Turn.{Turn as TurnRecord}
use Rattle.rl_ports.specs.Ports.{PortsState, speaking}
use Rattle.hub_machine.specs.declared.faults.Fault.{Fault}
use Rattle.hub_machine.specs.declared.faults.Fault.TheVariants.{BadPacket}
use Rattle.hub_machine.specs.declared.faults.Fault.TheVariants.{Spread}
use Rattle.hub_machine.specs.State.{State, is_there, ports_of}
use Rattle.hub_machine.specs.Lemmas.Dialects.{by_dialect}
use Rattle.hub_machine.specs.Admission.{Admitting, Admitted, refused, admitted, admission}
use Rattle.hub_machine.specs.Endings.{nameless, closed, failed, failed_where, dismissed, spread_out, all_spread_out}
use Rattle.hub_machine.specs.Endings.{overrun_of, all_overrun, finished}
use Rattle.hub_machine.specs.Machine.{unchanged, accepted, judged, packet_at, bad_at, close_at, telling_fault}
use Rattle.hub_machine.specs.Machine.{exporting, told_unless, tell, fault_for, tell_fault, after_turn, turn_of, rest}
use Rattle.hub_machine.specs.Machine.{work_by, is_unwatchable, watch_unless}
use Rattle.hub_machine.specs.declared.steps.Reply.TheVariants.{Halted, Idle}
use Rattle.hub_valid.specs.Lemmas.Admitted.{names_of, names_stay}
use Rattle.hub_laws.specs.Scratch.{exports_in}
use Rattle.hub_laws.proofs.EndingActors.{retractions_ascend, ended_none}
use Rattle.hub_laws.proofs.Beginning.{may_begin, nobody_yet}
use Rattle.hub_laws.proofs.Growing.{Grows, grows_not, grows_on, ended_grows, sent_grows, watching_grows}
use Rattle.hub_laws.proofs.Growing.{other_turn_grows}
use Rattle.hub_laws.proofs.Kept.{IsSound}
use Rattle.hub_laws.proofs.Leaving.{one_or_not}
use Rattle.hub_laws.proofs.Posting.{posted_to}
use Rattle.hub_laws.proofs.Steps.{IsNamed, named_of}

abbrev pub names_in : Option PortsState → PortsState
names_in None = record { exports = exports_in None; pinned = []; notes = []; handles = []; dialect = None }
names_in (Some p) = names_of p

-- what is kept of a connection's references
abbrev pub names_kept : ℕ → State → PortsState
names_kept k s = names_in (entry_of k s.connections)

-- Connection k, found in the later state, was there in the earlier one. It has taken nothing since, and it names the
-- same.
pub record Stays (k : ℕ) (s t : State) : Type 0 where
  pub grows : Grows (actor_of k) s.world t.world
  pub names : (x : Actor) → find_actor (actor_of k) t.world.table.actors ≡ Some x
      → names_kept k t ≡ names_kept k s

pub stays_not : (k : ℕ) (s : State) → Stays k s s
stays_not k s = record { grows = grows_not (actor_of k) s.world; names = λ x found. refl }

pub stays_on : (k : ℕ) (s t u : State) → Stays k s t → Stays k t u → Stays k s u
stays_on k s t u first later = record {
  grows = grows_on (actor_of k) s.world t.world u.world first.grows later.grows;
  names = λ x found.
      let before = later.grows.still x found in
      later.names x found ∙ first.names before.before before.found;
}

-- where the world alone changes
pub world_stays : (k : ℕ) (s : State) (w : WorldState) → Grows (actor_of k) s.world w
    → Stays k s (record s { world = w })
world_stays k s w grows = record { grows = grows; names = λ x found. refl }

-- where another connection names other things
pub other_stays : (k j : ℕ) (p : PortsState) (s : State) → k ≢ j
    → Stays k s (record s { connections = with_entry j p s.connections })
other_stays k j p s apart = record {
  grows = grows_not (actor_of k) s.world;
  names = λ x found. ap names_in (put_other j k p s.connections apart);
}

-- ---- a connection ends

-- who has ended isn't found
pub ended_not_found : (a : ℕ) (w : WorldState) (x : Actor) → find_actor a (ended_of a w).table.actors ≡ Some x → ⊥
ended_not_found a w x = by (is_live a w.table) refl
  where
    by : (c : Bool) → is_live a w.table ≡ c → find_actor a (cond c (gone a w) w).table.actors ≡ Some x → ⊥
    by true live found =
        let y = posted_to a a (retractions (rows_of a w.table.rows) []) (ended a w.table) x
        (retractions_ascend a w.table.rows) found in
        absurd (let none : None ≡ Some y.0 = sym (ended_none a w.table) ∙ y.1 in cc)
    by false dead found = absurd (let live : is_live a w.table ≡ true = ap is_some found in cc)

closed_stays : (k j : ℕ) (fs : List (ℕ × Fault)) (s : State) → Stays k s (record (closed j s) { faults = fs })
closed_stays k j fs s = record {
  grows = ended_grows (actor_of j) (actor_of k) s.world;
  names = λ x found. elim (one_or_not k j) [
    | inl same ↦ absurd (ended_not_found (actor_of j) s.world x
        (ap (λ i. find_actor (actor_of i) (ended_of (actor_of j) s.world).table.actors) (sym same) ∙ found))
    | inr apart ↦ ap names_in (out_other j k s.connections apart)
  ];
}

failed_stays : (k j : ℕ) (f : Fault) (s : State) → Stays k s (failed j f s)
failed_stays k j f s = closed_stays k j (with_entry j f s.faults) s

-- ---- a step ends

where_stays : (k j : ℕ) (o : Option Fault) (s : State) → Stays k s (failed_where j o s)
where_stays k j None s = stays_not k s
where_stays k j (Some f) s = failed_stays k j f s

spread_stays : (k : ℕ) (x : SpreadOf) (s : State) → Stays k s (spread_out x s)
spread_stays k x s = by (nat_lt x.actor 9) (nat_lt x.actor 17) (is_there (x.actor - 16) s)
  where
    by : (b c d : Bool) → Stays k s
        (cond b s (cond c (dismissed x.actor s) (cond d (failed (x.actor - 16) (Spread x.weight) s) s)))
    by true c d = stays_not k s
    by false true d = world_stays k s (ended_of x.actor s.world) (ended_grows x.actor (actor_of k) s.world)
    by false false true = failed_stays k (x.actor - 16) (Spread x.weight) s
    by false false false = stays_not k s

all_spread_stays : (k : ℕ) (xs : List SpreadOf) (s : State) → Stays k s (all_spread_out xs s)
all_spread_stays k [] s = stays_not k s
all_spread_stays k (x ∷ xs) s =
    stays_on k s (spread_out x s) _ (spread_stays k x s) (all_spread_stays k xs (spread_out x s))

all_overrun_stays : (k : ℕ) (js : List ℕ) (s : State) → Stays k s (all_overrun js s)
all_overrun_stays k [] s = stays_not k s
all_overrun_stays k (j ∷ js) s =
    let t : State = failed_where j (overrun_of j s) s in
    stays_on k s t _ (where_stays k j (overrun_of j s) s) (all_overrun_stays k js t)

pub finished_stays : (k : ℕ) (xs : List SpreadOf) (s : State) → Stays k s (finished xs s)
finished_stays k xs s =
    let t : State = all_spread_out xs s in
    stays_on k s t _ (all_spread_stays k xs s) (all_overrun_stays k (keys_of t.connections) t)

-- a connection fails, and with it a step ends
pub failing_stays : (k j : ℕ) (f : Fault) (s : State) → Stays k s (finished [] (failed j f s))
failing_stays k j f s = stays_on k s (failed j f s) _ (failed_stays k j f s) (finished_stays k [] (failed j f s))

pub bad_stays : (k j : ℕ) (o : Option PortsState) (f : Fault) (s : State) → Stays k s (bad_at j o f s).state
bad_stays k j None f s = stays_not k s
bad_stays k j (Some p) f s = failing_stays k j f s

pub close_stays : (k j : ℕ) (o : Option PortsState) (s : State) → Stays k s (close_at j o s).state
close_stays k j None s = stays_not k s
close_stays k j (Some p) s =
    stays_on k s (closed j s) _ (closed_stays k j s.faults s) (finished_stays k [] (closed j s))

-- ---- a packet is taken: it exports nothing, pins nothing and notes nothing

accepted_stays : (k j : ℕ) (p : PortsState) (x : Admitting) (s : State) → IsTable s.world.table → IsNamed j p s
    → names_of x.ports ≡ names_of p → Stays k s (accepted j x (nameless j s))
accepted_stays k j p x s table named is = record {
  grows = sent_grows (actor_of j) (actor_of k) x.acts s.world table named.live;
  names = λ y found. elim (one_or_not k j) [
    | inl same ↦
        (let others = without_entry j s.connections in
        ap (λ i. names_in (entry_of i (with_entry j x.ports others))) same
        ∙ ap names_in (put_found j x.ports others) ∙ is ∙ sym (ap names_in named.kept)
        ∙ ap (λ i. names_in (entry_of i s.connections)) (sym same))
    | inr apart ↦
        ap names_in (put_other j k x.ports (without_entry j s.connections) apart ∙ out_other j k s.connections apart)
  ];
}

admitted_stays : (k j : ℕ) (p : PortsState) (t : TurnRecord) (s : State) (d : Admitted) → IsTable s.world.table
    → IsNamed j p s → admission j (speaking t.dialect p) s.world t.events ≡ d
    → Stays k s (judged j d (nameless j s)).state
admitted_stays k j p t s (refused f) table named is = failing_stays k j f s
admitted_stays k j p t s (admitted x) table named is =
    let after : State = accepted j x (nameless j s) in
    stays_on k s after _
    (accepted_stays k j p x s table named (names_stay j (speaking t.dialect p) s.world t.events x is))
    (finished_stays k [] after)

pub packet_stays : (k j : ℕ) (o : Option PortsState) (t : TurnRecord) (s : State) → IsTable s.world.table
    → ports_of j s ≡ o → Stays k s (packet_at j o t s).state
packet_stays k j None t s table is = stays_not k s
packet_stays k j (Some p) t s table is =
    let named = named_of j p s is in
    by_dialect (λ d. Stays k s (judged j d (nameless j s)).state) j p s.world t (failing_stays k j BadPacket s)
    (admitted_stays k j p t s (admission j (speaking t.dialect p) s.world t.events) table named refl)

-- ---- a watcher begins

pub watch_stays : (k : ℕ) (c : Bool) (x : Watched) (s : State) → 1 ≤ k → is_unwatchable x s ≡ c → IsSound [] s.world
    → Stays k s (watch_unless c x s).state
watch_stays k true x s since is sound = stays_not k s
watch_stays k false x s since is sound =
    let may = may_begin x s is in
    let t : State = record s { world = watching x s.world } in
    let apart : actor_of k ≢ next_watcher s.world.watches =
    λ same. (let few = may.few in absurd (omega (arith, since, few, same))) in
    stays_on k s t _
    (world_stays k s t.world (watching_grows (actor_of k) x s.world sound.table (nobody_yet x s.world sound may) apart))
    (finished_stays k [] t)

-- ---- another's turn

pub fault_stays : (k a : ℕ) (o : Option Fault) (s : State) → Stays k s (tell_fault a o s).state
fault_stays k a None s = stays_not k s
fault_stays k a (Some f) s =
    let t : State = record s { faults = without_entry (a - 16) s.faults } in
    stays_on k s t _ (record { grows = grows_not (actor_of k) s.world; names = λ x found. refl })
    (finished_stays k [] t)

unless_stays : (k j : ℕ) (o : Option Fault) (p : PortsState) (b : Batch) (s : State) → k ≢ j
    → Stays k s (told_unless o j p b s).state
unless_stays k j None p b s apart =
    stays_on k s (exporting j b p s) _ (other_stays k j _ s apart) (finished_stays k [] (exporting j b p s))
unless_stays k j (Some f) p b s apart = failing_stays k j f s

tell_stays : (k j : ℕ) (o : Option PortsState) (b : Batch) (s : State) → k ≢ j → Stays k s (tell j o b s).state
tell_stays k j None b s apart = finished_stays k [] s
tell_stays k j (Some p) b s apart = unless_stays k j (telling_fault j b p) p b s apart

after_stays : (k a : ℕ) (t : Turned) (s : State) → ((b : Batch) → t ≡ turned.Taken b → k ≢ a - 16)
    → Stays k s (after_turn a t s).state
after_stays k a (turned.Ran xs) s apart = finished_stays k xs s
after_stays k a (turned.Taken b) s apart = tell_stays k (a - 16) (ports_of (a - 16) s) b s (apart b refl)
after_stays k a turned.Idle s apart = stays_not k s
after_stays k a turned.Gone s apart = fault_stays k a (fault_for a s) s

-- no batch is taken by a system actor
pub taken_by_connection : (a : ℕ) (w : WorldState) (b : Batch) → (turn a w).turned ≡ turned.Taken b
    → is_system a ≡ false
taken_by_connection a w b = by (is_live a w.table) (first_batch a w.table)
  where
    none : TurnOf
    none = record { world = w; turned = turned.Gone }

    kinds : (batch : Batch) (u : WorldState) (c : Bool) → is_system a ≡ c
        → (cond c (system_turn a batch u) (connection_turn a batch u)).turned ≡ turned.Taken b → is_system a ≡ false
    kinds batch u true system is = absurd cc
    kinds batch u false system is = system

    by : (c : Bool) (o : Option Batch) → (cond c (turn_first a o w) none).turned ≡ turned.Taken b
        → is_system a ≡ false
    by false o is = absurd cc
    by true None is = absurd cc
    by true (Some batch) is = kinds batch _ (is_system a) refl is

pub other_turn_stays : (k a : ℕ) (s : State) → IsSound [] s.world → actor_of k ≢ a → Stays k s (turn_of a s).state
other_turn_stays k a s sound apart =
    let t : TurnOf = turn a s.world in
    let u : State = record s { world = t.world } in
    stays_on k s u _ (world_stays k s t.world (other_turn_grows a (actor_of k) s.world sound apart))
    (after_stays k a t.turned u
    (λ b is same. let far = taken_by_connection a s.world b is in
    let high : 17 ≤ a = grind (arith, nat_tests, far) in
    apart (omega (arith, same, high))))

-- ---- work

rest_stays : (k : ℕ) (s : State) → Stays k s (rest s).state
rest_stays k s = by s.stopped
  where
    by : (c : Bool) → Stays k s (cond c (unchanged s Halted) (unchanged s Idle)).state
    by true = stays_not k s
    by false = stays_not k s

-- the turn of a system actor, which hasn't the number of a connection
system_stays : (k a : ℕ) (s : State) → 1 ≤ k → IsSound [] s.world → is_system a ≡ true → Stays k s (turn_of a s).state
system_stays k a s since sound low =
    other_turn_stays k a s sound
    (λ same. absurd (let l : a < 17 = grind (arith, nat_tests, low) in omega (arith, since, same, l)))

pub work_stays : (k : ℕ) (o : Option ℕ) (s : State) → 1 ≤ k → IsSound [] s.world → Stays k s (work_by o s).state
work_stays k None s since sound = rest_stays k s
work_stays k (Some a) s since sound = by (is_system a) refl
  where
    by : (c : Bool) → is_system a ≡ c → Stays k s (cond c (turn_of a s) (rest s)).state
    by true low = system_stays k a s since sound low
    by false high = rest_stays k s
