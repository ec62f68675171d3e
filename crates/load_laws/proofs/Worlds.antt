-- A world in which nothing but a load goes on: dataspace 1 has got and is told of items alone, connections are told of
-- what is captured of them, and nobody else is told anything.
use Rattle.std.proofs.Common.{◌≡◌, ◌≢◌, ℕ, ◌+◌, ◌*◌, ◌<◌, ◌≤◌, inl, inr, List, [], ◌∷◌, ◌==◌, length}
use Rattle.std.proofs.Common.{Bool, true, false, cond, Option, Some, None, refl, sym, ap, subst, arith}
use Rattle.std.specs.Prelude.{unwrap_or}
use Rattle.std.specs.List.{AllByRecursion}
use Rattle.std.proofs.lemmas.Bool.Decides.{nat_tests}
use Rattle.ac_table.specs.declared.batches.Event.{Event}
use Rattle.ac_table.specs.declared.batches.Batch.{Batch}
use Rattle.ac_table.specs.Tables.{TableState, Actor, is_live, first_batch, popped}
use Rattle.ac_world.specs.declared.acts.Act.{Act}
use Rattle.ac_world.specs.declared.acts.Act.TheVariants as act
use Rattle.ac_world.specs.declared.turns.Turned.{Turned}
use Rattle.ac_world.specs.declared.turns.Turned.TheVariants as turned
use Rattle.ac_world.specs.Behaviours.{Behaviour, behaviour_of, dataspace}
use Rattle.ac_world.specs.Outboxes.{Plan, plan_over, acted, all_acted}
use Rattle.ac_world.specs.Turns.{Turning, After, all_turned, begin_turn, end_turn, system_turn, connection_turn}
use Rattle.ac_world.specs.Turns.{turn_with}
use Rattle.ac_world.specs.Turns.{turn_first, turn}
use Rattle.ac_world.specs.Worlds.{WorldState, Resident, no_resident, resident_of, entry_of, is_system, gone, ended_of}
use Rattle.ac_world.specs.Worlds.{sent, arrived, actor_of}
use Rattle.ac_world.specs.Lemmas.Entries.{ascend_none, each_with, each_without, each_found}
use Rattle.load_laws.proofs.Captures.{IsItem}
use Rattle.load_laws.proofs.Costs.{table_cost, plan_cost, events_cost, Fits, FitsTable, FitsPlan, put_fits, put_cost}
use Rattle.load_laws.proofs.Costs.{committed_fits, committed_cost, popped_fits, popped_cost, first_fits, placed_fits}
use Rattle.load_laws.proofs.Costs.{placed_cost, gone_fits, gone_cost}
use Rattle.load_laws.proofs.Turning.{GotItems, events_turn}

module _ (start n : ℕ) (few : n ≤ 20000) where
  abbrev pub Items : ℕ × Resident → Type 0
  Items e = GotItems start n few e.1.got

  pub record IsLoading (w : WorldState) : Type 0 where
    pub table : FitsTable start n w.table
    pub got : AllByRecursion Items w.residents

  -- what an actor has got is items
  resident_items : (a : ℕ) (w : WorldState) → IsLoading w → GotItems start n few (resident_of a w).got
  resident_items a w l = by (entry_of a w.residents) refl
    where
      by : (o : Option Resident) → entry_of a w.residents ≡ o → GotItems start n few (unwrap_or o no_resident).got
      by None is = tt
      by (Some r) is = each_found Items a r w.residents l.got is

  over_fits : (t : TableState) → FitsTable start n t → FitsPlan start n (plan_over t)
  over_fits t f = record { table = f; out = record { ascends = ascend_none; fit = tt } }

  -- ---- turns

  -- what the events cost that a connection takes
  abbrev pub paid : ℕ → Turned → ℕ
  paid a (turned.Taken b) = events_cost a b.events
  paid a (turned.Ran xs) = 0
  paid a turned.Idle = 0
  paid a turned.Gone = 0

  abbrev pub IsTold : ℕ → Turned → Type 0
  IsTold a (turned.Taken b) = (17 ≤ a) × AllByRecursion (Fits start n a) b.events
  IsTold a (turned.Ran xs) = Unit {0}
  IsTold a turned.Idle = Unit {0}
  IsTold a turned.Gone = Unit {0}

  -- a turn that leads from what may come, c, to a world and to what is told
  pub record TurnsWell (a c : ℕ) (x : After) : Type 0 where
    pub world : IsLoading x.world
    pub cost : table_cost x.world.table + paid a x.turned ≤ c
    pub told : IsTold a x.turned

  space_turn : (b : Batch) (w : WorldState) → AllByRecursion (Fits start n 1) b.events → IsLoading w
      → TurnsWell 1 (table_cost w.table + events_cost 1 b.events) (system_turn 1 b w)
  space_turn b w fit l =
      let begin : Turning = begin_turn 1 w in
      let all = events_turn start n few w.schema b.from b.events begin fit (over_fits w.table l.table)
      (resident_items 1 w l) in
      let t : Turning = all_turned (dataspace w.schema) 1 b.from b.events begin in
      record {
        world = record {
          table = committed_fits start n 1 t.plan all.plan;
          got = each_with Items 1 t.resident w.residents all.got l.got;
        };
        cost = let a = committed_cost start n 1 t.plan in let c = all.cost in omega (arith, a, c);
        told = tt;
      }

  -- nobody else of the system's actors is told anything
  none_told : (a : ℕ) (es : List Event) → a ≢ 1 → a < 17 → AllByRecursion (Fits start n a) es → es ≡ []
  none_told a [] other low fit = refl
  none_told a (e ∷ es) other low fit = absurd (by fit.0)
    where
      by : Fits start n a e → ⊥
      by (inl here) = other here.0
      by (inr far) = let l = far.0 in omega (arith, l, low)

  idle_turn : (a from : ℕ) (w : WorldState) → IsLoading w
      → TurnsWell a (table_cost w.table)
      (end_turn a w (all_turned (behaviour_of w.schema w.bindings w.watches a) a from [] (begin_turn a w)))
  idle_turn a from w l = record {
    world = record {
      table = l.table;
      got = each_with Items a (resident_of a w) w.residents (resident_items a w l) l.got;
    };
    cost = omega arith;
    told = tt;
  }

  other_turn : (a : ℕ) (b : Batch) (w : WorldState) → a ≢ 1 → a < 17 → AllByRecursion (Fits start n a) b.events
      → IsLoading w → TurnsWell a (table_cost w.table + events_cost a b.events) (system_turn a b w)
  other_turn a b w other low fit l =
      let none = none_told a b.events other low fit in
      let y : Behaviour = behaviour_of w.schema w.bindings w.watches a in
      let free : events_cost a b.events ≡ 0 = ap (events_cost a) none in
      let idle = idle_turn a b.from w l in
      let all : TurnsWell a (table_cost w.table) (system_turn a b w) =
      subst (λ es. TurnsWell a (table_cost w.table) (end_turn a w (all_turned y a b.from es (begin_turn a w)))) (sym none)
      idle in
      record {
        world = all.world;
        cost = let c = all.cost in omega (arith, c);
        told = all.told;
      }

  connection_turns : (a : ℕ) (b : Batch) (w : WorldState) → 17 ≤ a → AllByRecursion (Fits start n a) b.events
      → IsLoading w → TurnsWell a (table_cost w.table + events_cost a b.events) (connection_turn a b w)
  connection_turns a b w high fit l = record {
    world = record { table = l.table; got = l.got };
    cost = omega arith;
    told = (high, fit);
  }

  with_turns : (a : ℕ) (b : Batch) (w : WorldState) → AllByRecursion (Fits start n a) b.events → IsLoading w
      → TurnsWell a (table_cost w.table + events_cost a b.events) (turn_with a b w)
  with_turns a b w fit l = by (is_system a) (a == 1) refl refl
    where
      by : (system first : Bool) → is_system a ≡ system → (a == 1) ≡ first
          → TurnsWell a (table_cost w.table + events_cost a b.events)
          (cond system (system_turn a b w) (connection_turn a b w))
      by true true is one =
          let same : a ≡ 1 = grind (arith, nat_tests, one) in
          subst (λ c. TurnsWell c (table_cost w.table + events_cost c b.events) (system_turn c b w)) (sym same)
          (space_turn b w (subst (λ c. AllByRecursion (Fits start n c) b.events) same fit) l)
      by true false is one =
          let low : a < 17 = grind (arith, nat_tests, is) in
          let other : a ≢ 1 = λ same. (let is_one : (a == 1) ≡ true = grind (arith, nat_tests, same) in cc) in
          other_turn a b w other low fit l
      by false first is one =
          let high : 17 ≤ a = grind (arith, nat_tests, is) in connection_turns a b w high fit l

  first_turns : (a : ℕ) (o : Option Batch) (w : WorldState) → first_batch a w.table ≡ o → IsLoading w
      → TurnsWell a (table_cost w.table) (turn_first a o w)
  first_turns a None w is l = record { world = l; cost = omega arith; told = tt }
  first_turns a (Some b) w is l =
      let fit = first_fits start n a b w.table is l.table in
      let less = popped_cost start n a b w.table is in
      let u : WorldState = record w { table = popped a w.table } in
      let all = with_turns a b u fit (record { table = popped_fits start n a w.table l.table; got = l.got }) in
      record {
        world = all.world;
        cost = let c = all.cost in omega (arith, c, less);
        told = all.told;
      }

  pub world_turns : (a : ℕ) (w : WorldState) → IsLoading w → TurnsWell a (table_cost w.table) (turn a w)
  world_turns a w l = by (is_live a w.table)
    where
      by : (live : Bool) → TurnsWell a (table_cost w.table)
          (cond live (turn_first a (first_batch a w.table) w) (record { world = w; turned = turned.Gone }))
      by true = first_turns a (first_batch a w.table) w refl l
      by false = record { world = l; cost = omega arith; told = tt }

  -- ---- what a connection asserts

  abbrev pub IsAct : Act → Type 0
  IsAct (act.Assert target entity v) = (target ≡ 1) × IsItem start n v
  IsAct (act.Retract h) = ⊥
  IsAct (act.Message target entity v) = ⊥
  IsAct (act.Sync target entity peer) = ⊥

  record Acts (m : ℕ) (p q : Plan) : Type 0 where
    pub plan : FitsPlan start n q
    pub cost : plan_cost q ≤ plan_cost p + 4 * m

  acts_one : (a : ℕ) (x : Act) (p : Plan) → IsAct x → FitsPlan start n p → Acts 1 p (acted a x p)
  acts_one a (act.Assert target entity v) p own f =
      let cost = put_cost start n a 0 target entity v p f in
      let here = own.0 in
      let one : (target == 1) ≡ true = grind (arith, nat_tests, here) in
      let four : ◌≡◌ {A = ℕ} (cond (target == 1) 4 3) 4 = ap {B = ℕ} (λ b. cond b 4 3) one in
      record {
        plan = put_fits start n a 0 target entity v p (inl (own.0, own.1)) f;
        cost = omega (arith, cost, four);
      }
  acts_one a (act.Retract h) p own f = absurd own
  acts_one a (act.Message target entity v) p own f = absurd own
  acts_one a (act.Sync target entity peer) p own f = absurd own

  acts_all : (a : ℕ) (xs : List Act) (p : Plan) → AllByRecursion IsAct xs → FitsPlan start n p
      → Acts (length xs) p (all_acted a xs p)
  acts_all a [] p all f = record { plan = f; cost = omega arith }
  acts_all a (x ∷ xs) p all f =
      let first = acts_one a x p all.0 f in
      let later = acts_all a xs (acted a x p) all.1 first.plan in
      record { plan = later.plan; cost = let b = first.cost in let c = later.cost in omega (arith, b, c) }

  -- a world that is led to, and what may come in it
  pub record LeadsTo (c : ℕ) (w : WorldState) : Type 0 where
    pub world : IsLoading w
    pub cost : table_cost w.table ≤ c

  pub world_sends : (a : ℕ) (xs : List Act) (w : WorldState) → AllByRecursion IsAct xs → IsLoading w
      → LeadsTo (table_cost w.table + 4 * length xs) (sent a xs w)
  world_sends a xs w all l =
      let acts = acts_all a xs (plan_over w.table) all (over_fits w.table l.table) in
      let p : Plan = all_acted a xs (plan_over w.table) in
      record {
        world = record { table = committed_fits start n a p acts.plan; got = l.got };
        cost = let b = committed_cost start n a p in let c = acts.cost in omega (arith, b, c);
      }

  -- ---- who comes and who goes

  pub world_arrives : (w : WorldState) → IsLoading w → LeadsTo (table_cost w.table) (arrived w)
  world_arrives w l =
      let new : Actor = record { number = actor_of (w.opened + 1); inbox = [] } in
      record {
        world = record {
          table = record {
            rows = l.table.rows;
            inboxes = placed_fits start n new w.table.actors tt l.table.inboxes;
          };
          got = l.got;
        };
        cost = let c = placed_cost start n new w.table.actors refl in omega (arith, c);
      }

  pub world_ends : (a : ℕ) (w : WorldState) → IsLoading w → LeadsTo (table_cost w.table) (ended_of a w)
  world_ends a w l = by (is_live a w.table)
    where
      by : (live : Bool) → LeadsTo (table_cost w.table) (cond live (gone a w) w)
      by true = record {
        world = record {
          table = gone_fits start n a w.table l.table;
          got = each_without Items a w.residents l.got;
        };
        cost = gone_cost start n a w.table l.table;
      }
      by false = record { world = l; cost = omega arith }
