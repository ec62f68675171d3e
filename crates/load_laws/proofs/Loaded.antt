-- A server in which nothing but a load goes on, and what its steps send: no more than what may come of the world.
use Rattle.std.proofs.Common.{◌≡◌, ℕ, ◌+◌, ◌*◌, ◌-◌, ◌≤◌, List, [], length}
use Rattle.std.proofs.Common.{Option, Some, None, refl, arith}
use Rattle.std.specs.Prelude.{unwrap_or}
use Rattle.std.specs.List.{AllByRecursion}
use Rattle.pv_binary.specs.Written.{written}
use Rattle.ps_schema.specs.declared.Definition.{Definition}
use Rattle.ac_table.specs.declared.batches.Batch.{Batch}
use Rattle.ac_world.specs.declared.spreads.Spread.{Spread}
use Rattle.ac_world.specs.declared.turns.Turned.{Turned}
use Rattle.ac_world.specs.declared.turns.Turned.TheVariants as turned
use Rattle.ac_world.specs.Turns.{turn}
use Rattle.ac_world.specs.Worlds.{without_entry, actor_of}
use Rattle.ac_world.specs.Lemmas.Entries.{each_with, each_without, each_found}
use Rattle.rl_packet.specs.declared.packets.Dialect.TheVariants.{Newer}
use Rattle.rl_packet.specs.declared.packets.TurnEvent.{TurnEvent}
use Rattle.rl_packet.specs.declared.packets.Turn.{Turn as TurnRecord}
use Rattle.rl_packet.specs.Packets.{packet_value}
use Rattle.rl_ports.specs.Ports.{PortsState, ExportTable, ports_to}
use Rattle.hub_machine.specs.declared.faults.Fault.{Fault}
use Rattle.hub_machine.specs.State.{State, opening, ports_of}
use Rattle.hub_machine.specs.Admission.{Admitted, refused, admitted, turn_admission}
use Rattle.hub_machine.specs.Endings.{nameless, failed, dismissed, finished}
use Rattle.hub_machine.specs.Machine.{After, actor_reference, opened, accepted, judged, packet_at, exporting}
use Rattle.hub_machine.specs.Machine.{exports_after, names_after, telling_fault, told_unless, tell, fault_for, tell_fault}
use Rattle.hub_machine.specs.Machine.{after_turn, turn_of}
use Rattle.hub_machine.specs.declared.steps.Reply.{Reply}
use Rattle.hub_machine.specs.declared.steps.Reply.TheVariants as reply
use Rattle.hub_valid.specs.Lemmas.StepEnds.{finished_keeps}
use Rattle.load_laws.proofs.Costs.{table_cost, events_cost, Fits}
use Rattle.load_laws.proofs.Opened.{kept_of}
use Rattle.load_laws.proofs.Alone.{IsFirstAlone}
use Rattle.load_laws.proofs.Packets.{IsEvent, IsGood, packet_admits}
use Rattle.load_laws.proofs.Told.{no_fault, still_alone, packet_short, fault_short}
use Rattle.load_laws.proofs.Worlds.{IsLoading, IsTold, paid, world_turns, world_sends, world_arrives, world_ends}

-- how many bytes a reply sends
abbrev pub reply_size : Reply → ℕ
reply_size (reply.Sent p) = length (written (packet_value p))
reply_size r = 0

abbrev pub may_come : State → ℕ
may_come s = table_cost s.world.table

-- each names dataspace 1 alone
abbrev pub IsNamed : ℕ × PortsState → Type 0
IsNamed e = IsFirstAlone e.1

module _ (start n : ℕ) (few : n ≤ 20000) where
  pub record IsLoaded (s : State) : Type 0 where
    pub world : IsLoading start n few s.world
    pub names : AllByRecursion IsNamed s.connections

  -- a state in which no more than c may come
  record IsWithin (c : ℕ) (s : State) : Type 0 where
    pub loaded : IsLoaded s
    pub cost : may_come s ≤ c

  -- a step that leads to it with what it sends, a hundred bytes for each that might have come, and two hundred more
  pub record Pays (c : ℕ) (a : After) : Type 0 where
    pub loaded : IsLoaded a.state
    pub cost : reply_size a.reply + 100 * may_come a.state ≤ 100 * c + 200

  -- ---- ends

  failed_within : (c j : ℕ) (f : Fault) (s : State) → IsWithin c s → IsWithin c (failed j f s)
  failed_within c j f s w =
      let ends = world_ends start n few (actor_of j) s.world w.loaded.world in
      record {
        loaded = record {
          world = ends.world;
          names = each_without IsNamed j s.connections w.loaded.names;
        };
        cost = let a = ends.cost in let b = w.cost in omega (arith, a, b);
      }

  dismissed_within : (c a : ℕ) (s : State) → IsWithin c s → IsWithin c (dismissed a s)
  dismissed_within c a s w =
      let ends = world_ends start n few a s.world w.loaded.world in
      record {
        loaded = record { world = ends.world; names = w.loaded.names };
        cost = let x = ends.cost in let y = w.cost in omega (arith, x, y);
      }

  ends_within : (c : ℕ) (xs : List Spread) (s : State) → IsWithin c s → IsWithin c (finished xs s)
  ends_within c xs s w =
      finished_keeps (IsWithin c) (λ j f t there v. failed_within c j f t v)
      (λ a t high low v. dismissed_within c a t v) xs s w

  -- nothing is sent
  quiet : (c : ℕ) (a : After) → reply_size a.reply ≡ 0 → IsWithin c a.state → Pays c a
  quiet c a none w = record { loaded = w.loaded; cost = let x = w.cost in omega (arith, x, none) }

  within_self : (s : State) → IsLoaded s → IsWithin (may_come s) s
  within_self s l = record { loaded = l; cost = omega arith }

  -- ---- packets

  judged_pays : (j : ℕ) (es : List TurnEvent) (d : Admitted) (s : State) → IsGood start n few j (length es) d
      → IsLoaded s → Pays (may_come s + 4 * length es) (judged j d (nameless j s))
  judged_pays j es (refused f) s good l =
      let c : ℕ = may_come s + 4 * length es in
      let w : IsWithin c s = record { loaded = l; cost = omega arith } in
      quiet c (judged j (refused f) (nameless j s)) refl
      (ends_within c [] (failed j f s) (failed_within c j f s w))
  judged_pays j es (admitted x) s good l =
      let c : ℕ = may_come s + 4 * length es in
      let sends = world_sends start n few (actor_of j) x.acts s.world good.acts l.world in
      let count = good.count in
      let w : IsWithin c (accepted j x (nameless j s)) = record {
        loaded = record {
          world = sends.world;
          names = each_with IsNamed j x.ports (without_entry j s.connections) good.names
              (each_without IsNamed j s.connections l.names);
        };
        cost = let y = sends.cost in omega (arith, y, count);
      } in
      quiet c (judged j (admitted x) (nameless j s)) refl (ends_within c [] (accepted j x (nameless j s)) w)

  pub packet_pays : (j : ℕ) (o : Option PortsState) (t : TurnRecord) (s : State) → ports_of j s ≡ o
      → AllByRecursion (IsEvent start n few j) t.events → IsLoaded s
      → Pays (may_come s + 4 * length t.events) (packet_at j o t s)
  packet_pays j None t s is all l = record { loaded = l; cost = omega arith }
  packet_pays j (Some ports) t s is all l =
      judged_pays j t.events (turn_admission j ports s.world t) s
      (packet_admits start n few j ports s.world t
      (each_found IsNamed j ports s.connections l.names (kept_of j ports s is)) all) l

  -- ---- turns

  -- a batch is told
  unless_pays : (a c : ℕ) (o : Option Fault) (ports : PortsState) (b : Batch) (s : State) → o ≡ None → 17 ≤ a
      → AllByRecursion (Fits start n a) b.events → IsFirstAlone ports → IsLoaded s
      → may_come s + events_cost a b.events ≤ c → Pays c (told_unless o (a - 16) ports b s)
  unless_pays a c (Some f) ports b s none far fit own l less = absurd cc
  unless_pays a c None ports b s none far fit own l less =
      let k : ℕ = a - 16 in
      let exports : ExportTable = exports_after k b ports in
      let w : IsWithin (may_come s) (exporting k b ports s) = record {
        loaded = record {
          world = l.world;
          names = each_with IsNamed k (names_after k b ports) s.connections
              (still_alone start n a far k b ports fit own) l.names;
        };
        cost = omega arith;
      } in
      let ended = ends_within (may_come s) [] (exporting k b ports s) w in
      let short = packet_short start n a far exports (unwrap_or ports.dialect Newer) k b fit in
      record {
        loaded = ended.loaded;
        cost = let x = ended.cost in omega (arith, x, short, less);
      }

  tell_pays : (a c : ℕ) (o : Option PortsState) (b : Batch) (s : State) → ports_of (a - 16) s ≡ o → 17 ≤ a
      → AllByRecursion (Fits start n a) b.events → IsLoaded s → may_come s + events_cost a b.events ≤ c
      → Pays c (tell (a - 16) o b s)
  tell_pays a c None b s is far fit l less =
      quiet c (tell (a - 16) None b s) refl
      (ends_within c [] s (record { loaded = l; cost = omega (arith, less) }))
  tell_pays a c (Some ports) b s is far fit l less =
      unless_pays a c (telling_fault (a - 16) b ports) ports b s (no_fault start n a far (a - 16) b ports fit) far fit
      (each_found IsNamed (a - 16) ports s.connections l.names (kept_of (a - 16) ports s is)) l less

  -- a fault is told
  fault_pays : (a c : ℕ) (o : Option Fault) (s : State) → IsLoaded s → may_come s ≤ c → Pays c (tell_fault a o s)
  fault_pays a c None s l less = record { loaded = l; cost = omega (arith, less) }
  fault_pays a c (Some f) s l less =
      let t : State = record s { faults = without_entry (a - 16) s.faults } in
      let w : IsWithin c t = record { loaded = record { world = l.world; names = l.names }; cost = less } in
      let ended = ends_within c [] t w in
      let short = fault_short f in
      record { loaded = ended.loaded; cost = let x = ended.cost in omega (arith, x, short) }

  after_pays : (a c : ℕ) (t : Turned) (s : State) → IsTold start n few a t → IsLoaded s
      → may_come s + paid start n few a t ≤ c → Pays c (after_turn a t s)
  after_pays a c (turned.Ran xs) s told l less =
      quiet c (after_turn a (turned.Ran xs) s) refl
      (ends_within c xs s (record { loaded = l; cost = omega (arith, less) }))
  after_pays a c (turned.Taken b) s told l less =
      tell_pays a c (ports_of (a - 16) s) b s refl told.0 told.1 l less
  after_pays a c turned.Idle s told l less = record { loaded = l; cost = omega (arith, less) }
  after_pays a c turned.Gone s told l less = fault_pays a c (fault_for a s) s l (omega (arith, less))

  pub turn_pays : (a : ℕ) (s : State) → IsLoaded s → Pays (may_come s) (turn_of a s)
  turn_pays a s l =
      let well = world_turns start n few a s.world l.world in
      after_pays a (may_come s) (turn a s.world).turned (record s { world = (turn a s.world).world }) well.told
      (record { world = well.world; names = l.names }) well.cost

  -- ---- arrivals

  pub arrival_pays : (s : State) → IsLoaded s
      → Pays (may_come s) (record { state = finished [] (opened 1 s); reply = reply.Opened (s.world.opened + 1) })
  arrival_pays s l =
      let arrives = world_arrives start n few s.world l.world in
      let w : IsWithin (may_come s) (opened 1 s) = record {
        loaded = record {
          world = arrives.world;
          names = each_with IsNamed (s.world.opened + 1) (ports_to (actor_reference 1)) s.connections (refl, refl)
              l.names;
        };
        cost = arrives.cost;
      } in
      let ended = ends_within (may_come s) [] (opened 1 s) w in
      quiet (may_come s) (record { state = finished [] (opened 1 s); reply = reply.Opened (s.world.opened + 1) }) refl
      ended

  -- ---- the beginning

  pub loaded_first : (ds : List Definition) → IsLoaded (opening ds)
  loaded_first ds = record {
    world = record {
      table = record { rows = tt; inboxes = (tt, (tt, (tt, (tt, (tt, (tt, (tt, (tt, (tt, tt))))))))) };
      got = (tt, tt);
    };
    names = tt;
  }

  pub first_cost : (ds : List Definition) → may_come (opening ds) ≡ 1
  first_cost ds = refl
