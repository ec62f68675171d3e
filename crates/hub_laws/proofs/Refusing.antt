-- What a refusal leaves.
use Rattle.std.proofs.Common.{◌≡◌, ◌≢◌, ℕ, ◌-◌, ◌==◌, List, [], Bool, true, false, cond, Option, Some, None, refl, ap}
use Rattle.std.proofs.Common.{sym, ◌∙◌, subst, arith, is_some, length}
use Rattle.std.specs.Prelude.{nat_lt, nat_le}
use Rattle.std.proofs.lemmas.Bool.Decides.{nat_tests}
use Rattle.std.specs.List.{AllByRecursion}
use Rattle.gk_sturdy.specs.declared.bound.Binding.{Binding}
use Rattle.ac_table.specs.declared.batches.Row.{Row}
use Rattle.ac_table.specs.declared.batches.Batch.{Batch}
use Rattle.ac_table.specs.Tables.{TableState, is_live, lowest}
use Rattle.ac_table.specs.Lemmas.Lists.{all_filter}
use Rattle.ac_world.specs.declared.turns.Turned.{Turned}
use Rattle.ac_world.specs.declared.turns.Turned.TheVariants as turned
use Rattle.ac_world.specs.Turns.{turn}
use Rattle.ac_world.specs.declared.watched.Watched.{Watched}
use Rattle.ac_world.specs.Worlds.{WorldState, actor_of, entry_of, is_system}
use Rattle.ac_world.specs.Lemmas.Entries.{put_found, put_other}
use Rattle.rl_packet.specs.declared.packets.Turn.{Turn as TurnRecord}
use Rattle.rl_ports.specs.Ports.{PortsState}
use Rattle.hub_machine.specs.Limits.{last_dataspace, most_connections}
use Rattle.hub_machine.specs.declared.faults.Fault.{Fault}
use Rattle.hub_machine.specs.State.{State, ports_of, is_there}
use Rattle.hub_machine.specs.Admission.{Admitted, refused, admitted, turn_admission}
use Rattle.hub_machine.specs.Endings.{nameless, failed, finished}
use Rattle.hub_machine.specs.Machine.{unchanged, refusal, arrive_unless, judged, packet_at, bad_at, close_at}
use Rattle.hub_machine.specs.Machine.{bind_unless, is_barred, watch_unless, is_unwatchable}
use Rattle.hub_machine.specs.Machine.{telling_fault, told_unless, tell, fault_for, tell_fault, after_turn, turn_of, rest}
use Rattle.hub_machine.specs.Machine.{work_by, is_worn, done, step}
use Rattle.hub_machine.specs.Replays.{replay}
use Rattle.hub_machine.specs.declared.steps.Step.{Step}
use Rattle.hub_machine.specs.declared.steps.Step.TheVariants.{Bind, Watch, Arrive, Packet, Bad, Close, Turn, Work, Stop}
use Rattle.hub_machine.specs.declared.steps.Reply.TheVariants.{Worn, Barred, Halted, Full, Idle, Refused}
use Rattle.hub_valid.specs.Lemmas.Lasting.{live_popped}
use Rattle.hub_valid.specs.Lemmas.Lists.{filter_same, all_from}
use Rattle.hub_valid.specs.Lemmas.Sparing.{AreLive, Spares, owners_are_live, spares_all, spares_then, still_live}
use Rattle.hub_valid.specs.Lemmas.Sparing.{spares_ended, spares_finished}
use Rattle.hub_valid.specs.Lemmas.StepEnds.{finished_keeps}
use Rattle.hub_valid.specs.Lemmas.Turns.{taken_is}
use Rattle.hub_laws.specs.Laws.{Refusals}
use Rattle.hub_laws.specs.Refusals.{whose, LeavesNothing, IsLeft}
use Rattle.hub_laws.proofs.Opening.{replay_hub}
use Rattle.hub_laws.proofs.Presence.{dead_after, dead_itself}
use Rattle.hub_laws.proofs.Staying.{taken_by_connection}

-- ---- a connection is refused

-- it isn't live, and its fault waits
record IsTold (k : ℕ) (f : Fault) (s : State) : Type 0 where
  ended : is_live (actor_of k) s.world.table ≡ false
  fault : entry_of k s.faults ≡ Some f

pub none_there : (k : ℕ) (s : State) → is_live (actor_of k) s.world.table ≡ false → is_there k s ≡ true → ⊥
none_there k s dead there = by (is_live (actor_of k) s.world.table) dead there
  where
    by : (b : Bool) → b ≡ false → is_some (cond b (entry_of k s.connections) None) ≡ true → ⊥
    by true dead there = cc
    by false dead there = cc

still_told : (k : ℕ) (f : Fault) (s : State) → IsTold k f s → IsTold k f (finished [] s)
still_told k f s told =
    finished_keeps (IsTold k f)
    (λ j g t there was.
    let ne : k ≢ j = λ same.
    none_there k t was.ended (ap (λ i. is_there i t) same ∙ there) in
    record {
      ended = dead_after (actor_of k) (actor_of j) t.world was.ended;
      fault = put_other j k g t.faults ne ∙ was.fault;
    })
    (λ b t high low was. record { ended = dead_after (actor_of k) b t.world was.ended; fault = was.fault })
    [] s told

-- no row is an ended connection's
none_own : (a : ℕ) (t : TableState) (rows : List Row) → is_live a t ≡ false → AreLive t
    → AllByRecursion (λ r. (r.owner == a) ≡ false) t.rows
none_own a t rows dead are_live =
    subst (AllByRecursion (λ r. (r.owner == a) ≡ false)) are_live
    (all_filter (λ r. Unit {0}) (λ r. (r.owner == a) ≡ false) (λ r. is_live r.owner t)
    (λ r live u. apart r live) t.rows (all_from (λ r. Unit {0}) (λ r. tt) t.rows))
  where
    apart : (r : Row) → is_live r.owner t ≡ true → (r.owner == a) ≡ false
    apart r live = by (r.owner == a) refl
      where
        by : (b : Bool) → (r.owner == a) ≡ b → b ≡ false
        by false is = refl
        by true is =
            let same : r.owner ≡ a = grind (arith, nat_tests, is) in
            let here : is_live a t ≡ true = subst (λ c. is_live c t ≡ true) same live in
            absurd cc

-- from s to u nobody but who goes with its rows has changed what the rows are
refused_left : (k : ℕ) (f : Fault) (s u : State) → AreLive s.world.table → Spares s.world.table u.world.table
    → LeavesNothing k f s (finished [] (failed k f u))
refused_left k f s u are_live spares =
    let v : State = failed k f u in
    let w : State = finished [] v in
    let one : Spares s.world.table v.world.table =
    spares_then s.world.table u.world.table v.world.table spares
    (spares_ended (actor_of k) u.world (still_live s.world.table u.world.table spares)) in
    let all : Spares s.world.table w.world.table =
    spares_then s.world.table v.world.table w.world.table one
    (spares_finished [] v (still_live s.world.table v.world.table one)) in
    let told : IsTold k f w =
    still_told k f v (record { ended = dead_itself (actor_of k) u.world; fault = put_found k f u.faults }) in
    record {
      ended = told.ended;
      fault = told.fault;
      no_handle = all.next;
      rows = all.rows;
      no_row = none_own (actor_of k) w.world.table w.world.table.rows told.ended
          (still_live s.world.table w.world.table all);
    }

-- where the fault is the one that was replied
named_left : (k : ℕ) (f g : Fault) (s u : State) → AreLive s.world.table → Spares s.world.table u.world.table → g ≡ f
    → LeavesNothing k f s (finished [] (failed k g u))
named_left k f g s u are_live spares same =
    subst (λ h. LeavesNothing k h s (finished [] (failed k g u))) same (refused_left k g s u are_live spares)

-- ---- steps

module _ (s : State) (are_live : AreLive s.world.table) (f : Fault) where
  -- a step of connection k that is replied the fault
  judged_left : (k : ℕ) (d : Admitted) → (judged k d (nameless k s)).reply ≡ Refused f
      → LeavesNothing k f s (judged k d (nameless k s)).state
  judged_left k (refused g) is =
      let same : g ≡ f = cc in named_left k f g s s are_live (spares_all s.world.table are_live) same
  judged_left k (admitted x) is = absurd cc

  packet_left : (k : ℕ) (o : Option PortsState) (t : TurnRecord) → (packet_at k o t s).reply ≡ Refused f
      → LeavesNothing k f s (packet_at k o t s).state
  packet_left k None t is = absurd cc
  packet_left k (Some ports) t is = judged_left k (turn_admission k ports s.world t) is

  bad_left : (k : ℕ) (o : Option PortsState) (g : Fault) → (bad_at k o g s).reply ≡ Refused f
      → LeavesNothing k f s (bad_at k o g s).state
  bad_left k None g is = absurd cc
  bad_left k (Some ports) g is =
      let same : g ≡ f = cc in named_left k f g s s are_live (spares_all s.world.table are_live) same

  close_left : (k : ℕ) (o : Option PortsState) → (close_at k o s).reply ≡ Refused f
      → LeavesNothing k f s (close_at k o s).state
  close_left k None is = absurd cc
  close_left k (Some ports) is = absurd cc

  arrive_left : (space : ℕ) → (arrive_unless (refusal space s) space s).reply ≡ Refused f → ⊥
  arrive_left space is = by (nat_lt last_dataspace space) s.stopped (nat_le most_connections (length s.connections)) is
    where
      by : (b c d : Bool)
          → (arrive_unless (cond b (Some Barred) (cond c (Some Halted) (cond d (Some Full) None))) space s).reply
          ≡ Refused f → ⊥
      by true c d is = cc
      by false true d is = cc
      by false false true is = cc
      by false false false is = cc

  -- ---- turns

  -- the batch is taken, and no row changes
  took : (a : ℕ) (b : Batch) → (turn a s.world).turned ≡ turned.Taken b
      → Spares s.world.table (turn a s.world).world.table
  took a b is =
      subst (λ (w : WorldState). Spares s.world.table w.table) (sym (taken_is a b s.world is).same)
      (record {
        live = λ c live. sym (live_popped c a s.world.table) ∙ live;
        rows = sym (filter_same _ _ s.world.table.rows
            (all_from _ (λ r. live_popped r.owner a s.world.table) s.world.table.rows) ∙ are_live);
        next = refl;
      })

  unless_left : (o : Option Fault) (k : ℕ) (ports : PortsState) (b : Batch) (u : State)
      → Spares s.world.table u.world.table → (told_unless o k ports b u).reply ≡ Refused f
      → LeavesNothing k f s (told_unless o k ports b u).state
  unless_left (Some g) k ports b u spares is = let same : g ≡ f = cc in named_left k f g s u are_live spares same
  unless_left None k ports b u spares is = absurd cc

  tell_left : (k : ℕ) (o : Option PortsState) (b : Batch) (u : State) → Spares s.world.table u.world.table
      → (tell k o b u).reply ≡ Refused f → LeavesNothing k f s (tell k o b u).state
  tell_left k None b u spares is = absurd cc
  tell_left k (Some ports) b u spares is = unless_left (telling_fault k b ports) k ports b u spares is

  fault_left : (a : ℕ) (o : Option Fault) (u : State) → (tell_fault a o u).reply ≡ Refused f → ⊥
  fault_left a None u is = cc
  fault_left a (Some g) u is = cc

  -- it is a connection's turn
  pub record IsTurnLeft (a : ℕ) (t : State) : Type 0 where
    pub far : is_system a ≡ false
    pub left : LeavesNothing (a - 16) f s t

  turn_left : (a : ℕ) → (turn_of a s).reply ≡ Refused f → IsTurnLeft a (turn_of a s).state
  turn_left a is = by (turn a s.world).turned refl is
    where
      u : State
      u = record s { world = (turn a s.world).world }

      by : (t : Turned) → (turn a s.world).turned ≡ t → (after_turn a t u).reply ≡ Refused f
          → IsTurnLeft a (after_turn a t u).state
      by (turned.Ran xs) turns is = absurd cc
      by (turned.Taken b) turns is = record {
        far = taken_by_connection a s.world b turns;
        left = tell_left (a - 16) (ports_of (a - 16) u) b u (took a b turns) is;
      }
      by turned.Idle turns is = absurd cc
      by turned.Gone turns is = absurd (fault_left a (fault_for a u) u is)

  rest_left : (rest s).reply ≡ Refused f → ⊥
  rest_left is = by s.stopped is
    where
      by : (b : Bool) → (cond b (unchanged s Halted) (unchanged s Idle)).reply ≡ Refused f → ⊥
      by true is = cc
      by false is = cc

  work_left : (o : Option ℕ) → (work_by o s).reply ≡ Refused f → ⊥
  work_left None is = rest_left is
  work_left (Some a) is = by (is_system a) refl is
    where
      by : (b : Bool) → is_system a ≡ b → (cond b (turn_of a s) (rest s)).reply ≡ Refused f → ⊥
      by true system is = let far = (turn_left a is).far in cc
      by false far is = rest_left is

  bind_left : (c : Bool) (b : Binding) → (bind_unless c b s).reply ≡ Refused f
      → IsLeft None f s (bind_unless c b s).state
  bind_left true b is = absurd cc
  bind_left false b is = absurd cc

  watch_left : (c : Bool) (x : Watched) → (watch_unless c x s).reply ≡ Refused f
      → IsLeft None f s (watch_unless c x s).state
  watch_left true x is = absurd cc
  watch_left false x is = absurd cc

  done_left : (e : Step) → (done s e).reply ≡ Refused f → IsLeft (whose e) f s (done s e).state
  done_left (Bind b) is = bind_left (is_barred b s) b is
  done_left (Watch x) is = watch_left (is_unwatchable x s) x is
  done_left (Arrive space) is = arrive_left space is
  done_left (Packet k t) is = packet_left k (ports_of k s) t is
  done_left (Bad k g) is = bad_left k (ports_of k s) g is
  done_left (Close k) is = close_left k (ports_of k s) is
  done_left (Turn a) is =
      let t = turn_left a is in
      subst (λ b. IsLeft (cond b None (Some (a - 16))) f s (turn_of a s).state) (sym t.far) t.left
  done_left Work is = work_left (lowest s.world.table) is
  done_left Stop is = absurd cc

  step_left : (e : Step) → (step s e).reply ≡ Refused f → IsLeft (whose e) f s (step s e).state
  step_left e is = by (is_worn s e) is
    where
      by : (b : Bool) → (cond b (unchanged s Worn) (done s e)).reply ≡ Refused f
          → IsLeft (whose e) f s (cond b (unchanged s Worn) (done s e)).state
      by true is = absurd cc
      by false is = done_left e is

pub refusals : Refusals
refusals ds steps may e f is =
    let s = replay ds steps in
    step_left s (owners_are_live s.world.table (replay_hub ds steps may).sound.table) f e is
