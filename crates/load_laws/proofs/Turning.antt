-- A turn of dataspace 1 over what a load asserts: nothing else is told, and what may come grows no greater.
use Rattle.std.proofs.Common.{◌≡◌, ℕ, ◌+◌, ◌<◌, ◌≤◌, ◌⊎◌, inl, inr, List, [], ◌∷◌, ◌++◌, ◌==◌}
use Rattle.std.proofs.Common.{Bool, true, false, cond, Option, Some, None, refl, sym, ap, ◌∙◌, subst, arith, map}
use Rattle.std.specs.Prelude.{option_and_then, nat_lt}
use Rattle.std.specs.List.{AllByRecursion}
use Rattle.std.specs.Map.{values_of}
use Rattle.std.proofs.lemmas.Bool.Decides.{nat_tests}
use Rattle.pv_value.specs.Plain.{Plain, sequence, plains}
use Rattle.pv_words.specs.Words.{number}
use Rattle.ps_schema.specs.declared.Definition.{Definition}
use Rattle.sr_caveat.specs.declared.caps.Cap.{Cap}
use Rattle.sr_caveat.specs.Caps.{cap_of}
use Rattle.sr_caveat.specs.Lemmas.Capped.{cap_back}
use Rattle.ds_space.specs.Spaces.{Rows, changed, has_row}
use Rattle.ds_space.specs.Limits.{most_wanted_weight}
use Rattle.ds_space.specs.Wants.{wants, wanted_weight}
use Rattle.ds_space.specs.Changes.{among, without}
use Rattle.ds_space.specs.References.{reference_value}
use Rattle.ds_space.specs.declared.space.SpaceEvent.TheVariants.{Add, Gone}
use Rattle.ds_space.specs.declared.space.Change.{Change}
use Rattle.ds_space.specs.declared.space.Change.TheVariants.{Left, Came}
use Rattle.ac_table.specs.declared.batches.Row.{Row}
use Rattle.ac_table.specs.declared.batches.Event.{Event}
use Rattle.ac_table.specs.declared.batches.Event.TheVariants.{Assert, Retract, Message, Sync}
use Rattle.ac_table.specs.Tables.{find_row}
use Rattle.ac_world.specs.declared.aims.Aim.{Aim}
use Rattle.ac_world.specs.Aims.{aim_of, aim_by}
use Rattle.ac_world.specs.Behaviours.{Behaviour, dataspace}
use Rattle.ac_world.specs.Allocating.{allocated}
use Rattle.ac_world.specs.Outboxes.{Plan, drop_row, drop_own, dropped}
use Rattle.ac_world.specs.Turns.{Turning, handle_for, drop_met, left, allocating, came_at}
use Rattle.ac_world.specs.Turns.{changed_by, all_changed, with_rows, regot, spreading, by_assertion, taken_in}
use Rattle.ac_world.specs.Turns.{turned_by, all_turned}
use Rattle.ac_world.specs.Lemmas.Entries.{each_with, each_without, values_pass, values_all}
use Rattle.load_laws.proofs.Captures.{IsOf, IsItem, key_for, captures}
use Rattle.load_laws.proofs.Costs.{plan_cost, event_cost, events_cost, IsIn, Fits, FitsPlan, put_fits, put_cost}
use Rattle.load_laws.proofs.Costs.{dropped_fits, dropped_cost}
use Rattle.load_laws.proofs.Keys.{all_of, keys_come, keys_stay}
use Rattle.sc_load.specs.Loads.{connection_of, drawn}

module _ (start n : ℕ) (few : n ≤ 20000) where
  -- ---- where a key aims

  -- at a connection, with what is captured
  pub record AimsWell (aim : Aim) : Type 0 where
    pub far : 17 ≤ aim.at.actor
    pub told : (d : ℕ) × (aim.value ≡ sequence (plains (number d ∷ [])))

  aims_well : (ds : List Definition) (i : ℕ) (aim : Aim) → i < n → aim_of ds (key_for start i) ≡ Some aim → AimsWell aim
  aims_well ds i aim own is =
      let c : Cap = record { actor = 16 + connection_of i; entity = i + 1; caveats = [] } in
      let back : cap_of (reference_value (record { actor = 16 + connection_of i; entity = i + 1 })) ≡ Some c =
      cap_back c (omega (arith, own, few), omega (arith, own, few), tt) in
      let at : option_and_then (aim_by ds (sequence (plains (captures start i)))) (Some c) ≡ Some aim =
      ap (option_and_then (aim_by ds (sequence (plains (captures start i))))) (sym back) ∙ is in
      let here : Aim = record {
        at = record { actor = 16 + connection_of i; entity = i + 1 };
        value = sequence (plains (captures start i));
      } in
      let one : here ≡ aim = cc in
      subst AimsWell one (record { far = omega arith; told = (drawn start i, refl) })

  -- ---- what is kept

  -- what it has got is items
  abbrev pub GotItems : Rows → Type 0
  GotItems got = AllByRecursion (IsItem start n) (values_of got)

  -- from t to u no more than m is added to what may come
  pub record Adds (m : ℕ) (t u : Turning) : Type 0 where
    pub plan : FitsPlan start n u.plan
    pub got : u.resident.got ≡ t.resident.got
    pub cost : plan_cost u.plan ≤ plan_cost t.plan + m

  nothing_added : (t : Turning) → FitsPlan start n t.plan → Adds 0 t t
  nothing_added t f = record { plan = f; got = refl; cost = omega arith }

  then_adds : (m : ℕ) (t u v : Turning) → Adds 0 t u → Adds m u v → Adds m t v
  then_adds m t u v a b = record {
    plan = b.plan;
    got = b.got ∙ a.got;
    cost = let x = a.cost in let y = b.cost in omega (arith, x, y);
  }

  -- ---- a key's row goes

  found_handle : (h : ℕ) (r : Row) (rows : List Row) → find_row h rows ≡ Some r → r.handle ≡ h
  found_handle h r [] is = absurd cc
  found_handle h r (q ∷ qs) is = by (q.handle == h) refl is (found_handle h r qs)
    where
      by : (b : Bool) → (q.handle == h) ≡ b → cond b (Some q) (find_row h qs) ≡ Some r
          → (find_row h qs ≡ Some r → r.handle ≡ h) → r.handle ≡ h
      by true same found later =
          let one : q ≡ r = cc in
          let here : q.handle ≡ h = grind (arith, nat_tests, same) in
          sym (ap (λ (x : Row). x.handle) one) ∙ here
      by false other found later = later found

  pub record Keeps (p q : Plan) : Type 0 where
    pub plan : FitsPlan start n q
    pub cost : plan_cost q ≤ plan_cost p

  dropped_keeps : (a h : ℕ) (p : Plan) → FitsPlan start n p → Keeps p (dropped a h p)
  dropped_keeps a h p f = at (find_row h p.table.rows) refl
    where
      at : (o : Option Row) → find_row h p.table.rows ≡ o → Keeps p (drop_own a o p)
      at None is = record { plan = f; cost = omega arith }
      at (Some r) is = by (r.owner == a)
        where
          here : find_row r.handle p.table.rows ≡ Some r
          here = subst (λ k. find_row k p.table.rows ≡ Some r) (sym (found_handle h r p.table.rows is)) is

          by : (b : Bool) → Keeps p (cond b (drop_row r p) p)
          by true = record { plan = dropped_fits start n r p here f; cost = dropped_cost start n r p here f }
          by false = record { plan = f; cost = omega arith }

  met_keeps : (a : ℕ) (o : Option ℕ) (p : Plan) → FitsPlan start n p → Keeps p (drop_met a o p)
  met_keeps a None p f = record { plan = f; cost = omega arith }
  met_keeps a (Some h) p f = dropped_keeps a h p f

  left_adds : (y : Behaviour) (a : ℕ) (k : Plain) (t : Turning) → FitsPlan start n t.plan → Adds 0 t (left y a k t)
  left_adds y a k t f =
      let m = met_keeps a (handle_for k t.resident.handles) t.plan f in
      record {
        plan = record {
          table = record { rows = m.plan.table.rows; inboxes = m.plan.table.inboxes };
          out = m.plan.out;
        };
        got = refl;
        cost = let c = m.cost in omega (arith, c);
      }

  lefts_add : (y : Behaviour) (a : ℕ) (ks : List Plain) (t : Turning) → FitsPlan start n t.plan
      → Adds 0 t (all_changed y a (map Left ks) t)
  lefts_add y a [] t f = nothing_added t f
  lefts_add y a (k ∷ ks) t f =
      let first = left_adds y a k t f in
      then_adds 0 t (left y a k t) (all_changed y a (map Left ks) (left y a k t)) first
      (lefts_add y a ks (left y a k t) first.plan)

  -- ---- a key's row comes

  came_adds : (g : Option Plain) (k : Plain) (o : Option Aim) (t : Turning) → ((aim : Aim) → o ≡ Some aim → AimsWell aim)
      → FitsPlan start n t.plan → Adds 3 t (came_at 1 g k o t)
  came_adds g k None t well f = record { plan = f; got = refl; cost = omega arith }
  came_adds g k (Some aim) t well f =
      let w = well aim refl in
      let p : Plan = (allocating 1 g t).plan in
      let fits : FitsPlan start n p = record {
        table = record { rows = f.table.rows; inboxes = f.table.inboxes };
        out = f.out;
      } in
      let facet : ℕ = (allocated 1 g t.resident.facets t.plan.table).facet in
      let cost = put_cost start n 1 facet aim.at.actor aim.at.entity aim.value p fits in
      let far = w.far in
      let other : (aim.at.actor == 1) ≡ false = grind (arith, nat_tests, far) in
      let three : ◌≡◌ {A = ℕ} (cond (aim.at.actor == 1) 4 3) 3 = ap {B = ℕ} (λ b. cond b 4 3) other in
      record {
        plan = put_fits start n 1 facet aim.at.actor aim.at.entity aim.value p (inr (far, w.told)) fits;
        got = refl;
        cost = omega (arith, cost, three);
      }

  -- ---- what it has got changes

  changed_then : (y : Behaviour) (a : ℕ) (xs ys : List Change) (t : Turning)
      → all_changed y a (xs ++ ys) t ≡ all_changed y a ys (all_changed y a xs t)
  changed_then y a [] ys t = refl
  changed_then y a (x ∷ xs) ys t = changed_then y a xs ys (changed_by y a x t)

  -- one key comes at most
  regot_adds : (ds : List Definition) (m : ℕ) (rows : Rows) (t : Turning) (came_keys : List Plain)
      → without (wants (values_of rows)) (wants (values_of t.resident.got)) ≡ came_keys
      → ((u : Turning) → FitsPlan start n u.plan → Adds m u (all_changed (dataspace ds) 1 (map Came came_keys) u))
      → FitsPlan start n t.plan → Adds m (with_rows rows t) (regot (dataspace ds) 1 rows t)
  regot_adds ds m rows t came_keys is comes f =
      let y : Behaviour = dataspace ds in
      let gone : List Plain = without (wants (values_of t.resident.got)) (wants (values_of rows)) in
      let u : Turning = all_changed y 1 (map Left gone) (with_rows rows t) in
      let lefts = lefts_add y 1 gone (with_rows rows t) f in
      let all = then_adds m (with_rows rows t) u (all_changed y 1 (map Came came_keys) u) lefts (comes u lefts.plan) in
      let same : all_changed y 1 (map Left gone ++ map Came came_keys) (with_rows rows t)
      ≡ all_changed y 1 (map Came came_keys) u = changed_then y 1 (map Left gone) (map Came came_keys) (with_rows rows t)
      in
      subst (λ ks. Adds m (with_rows rows t) (all_changed y 1 (map Left gone ++ map Came ks) (with_rows rows t))) (sym is)
      (subst (Adds m (with_rows rows t)) (sym same) all)

  -- ---- events

  -- what it has got after an event, and what may come
  pub record Turns (e : Event) (t u : Turning) : Type 0 where
    pub plan : FitsPlan start n u.plan
    pub got : GotItems u.resident.got
    pub cost : plan_cost u.plan ≤ plan_cost t.plan + event_cost 1 e

  module _ (ds : List Definition) (from : ℕ) where
    -- an item comes
    add_turns : (h entity i : ℕ) (v : Plain) (t : Turning) → i < n → IsOf start i v → FitsPlan start n t.plan
        → GotItems t.resident.got
        → Turns (Assert h entity v) t (regot (dataspace ds) 1 (changed t.resident.got (Add h v)) t)
    add_turns h entity i v t low own f items =
        let olds : List Plain = values_of t.resident.got in
        let rows : Rows = changed t.resident.got (Add h v) in
        let P : Plain → Type 0 = λ x. (x ≡ v) ⊎ (among x olds ≡ true) in
        let news : AllByRecursion P (values_of rows) =
        values_all P rows (each_with (λ e. P e.1) h v t.resident.got (inl refl)
        (values_pass P t.resident.got (all_of P olds (λ x e. inr e)))) in
        let got : GotItems rows =
        values_all (IsItem start n) rows (each_with (λ e. IsItem start n e.1) h v t.resident.got (i, low, own)
        (values_pass (IsItem start n) t.resident.got items)) in
        let adds : Adds 3 (with_rows rows t) (regot (dataspace ds) 1 rows t) =
        elim (keys_come start n i v own olds (values_of rows) news items) [
          | inl none ↦ regot_adds ds 3 rows t [] none (λ u g. record { plan = g; got = refl; cost = omega arith }) f
          | inr one ↦
              regot_adds ds 3 rows t (key_for start i ∷ []) one
              (λ u g. came_adds ((dataspace ds).group (key_for start i)) (key_for start i)
              ((dataspace ds).aim (key_for start i)) u (λ aim is. aims_well ds i aim low is) g) f
        ] in
        record {
          plan = adds.plan;
          got = subst GotItems (sym adds.got) got;
          cost = let c = adds.cost in omega (arith, c);
        }

    -- a value goes
    gone_turns : (h entity : ℕ) (t : Turning) → FitsPlan start n t.plan → GotItems t.resident.got
        → Turns (Retract h entity) t (regot (dataspace ds) 1 (changed t.resident.got (Gone h)) t)
    gone_turns h entity t f items =
        let olds : List Plain = values_of t.resident.got in
        let rows : Rows = changed t.resident.got (Gone h) in
        let P : Plain → Type 0 = λ x. among x olds ≡ true in
        let news : AllByRecursion P (values_of rows) =
        values_all P rows (each_without (λ e. P e.1) h t.resident.got
        (values_pass P t.resident.got (all_of P olds (λ x e. e)))) in
        let got : GotItems rows =
        values_all (IsItem start n) rows (each_without (λ e. IsItem start n e.1) h t.resident.got
        (values_pass (IsItem start n) t.resident.got items)) in
        let adds = regot_adds ds 0 rows t [] (keys_stay olds (values_of rows) news)
        (λ u g. nothing_added u g) f in
        record {
          plan = adds.plan;
          got = subst GotItems (sym adds.got) got;
          cost = let c = adds.cost in omega (arith, c);
        }

    still : (e : Event) (t u : Turning) → u.plan ≡ t.plan → u.resident ≡ t.resident → FitsPlan start n t.plan
        → GotItems t.resident.got → Turns e t u
    still e t u plan resident f items = record {
      plan = subst (FitsPlan start n) (sym plan) f;
      got = subst (λ r. GotItems r.got) (sym resident) items;
      cost = let same = ap plan_cost plan in omega (arith, same);
    }

    taken_turns : (h entity i : ℕ) (v : Plain) (t : Turning) → i < n → IsOf start i v → FitsPlan start n t.plan
        → GotItems t.resident.got → Turns (Assert h entity v) t (taken_in (dataspace ds) 1 from h v t)
    taken_turns h entity i v t low own f items =
        by (has_row h t.resident.got)
        (nat_lt most_wanted_weight (wanted_weight (values_of (changed t.resident.got (Add h v)))))
        (add_turns h entity i v t low own f items)
      where
        w : ℕ
        w = wanted_weight (values_of (changed t.resident.got (Add h v)))

        by : (b c : Bool) → Turns (Assert h entity v) t (regot (dataspace ds) 1 (changed t.resident.got (Add h v)) t)
            → Turns (Assert h entity v) t
            (cond b t (cond c (spreading (by_assertion t.plan.table 1 from w) t)
            (regot (dataspace ds) 1 (changed t.resident.got (Add h v)) t)))
        by true c turns = still (Assert h entity v) t t refl refl f items
        by false true turns =
            still (Assert h entity v) t (spreading (by_assertion t.plan.table 1 from w) t) refl refl f items
        by false false turns = turns

    event_turns : (e : Event) (t : Turning) → IsIn start n e → FitsPlan start n t.plan → GotItems t.resident.got
        → Turns e t (turned_by (dataspace ds) 1 from e t)
    event_turns (Assert h entity v) t own f items = taken_turns h entity own.0 v t own.1 own.2 f items
    event_turns (Retract h entity) t own f items = gone_turns h entity t f items
    event_turns (Message entity v) t own f items = absurd own
    event_turns (Sync entity peer) t own f items = absurd own

    -- all events of a batch
    pub record TurnsAll (es : List Event) (t u : Turning) : Type 0 where
      pub plan : FitsPlan start n u.plan
      pub got : GotItems u.resident.got
      pub cost : plan_cost u.plan ≤ plan_cost t.plan + events_cost 1 es

    is_in : (e : Event) → Fits start n 1 e → IsIn start n e
    is_in e (inl here) = here.1
    is_in e (inr far) = absurd (let l = far.0 in omega (arith, l))

    pub events_turn : (es : List Event) (t : Turning) → AllByRecursion (Fits start n 1) es → FitsPlan start n t.plan
        → GotItems t.resident.got → TurnsAll es t (all_turned (dataspace ds) 1 from es t)
    events_turn [] t all f items = record { plan = f; got = items; cost = omega arith }
    events_turn (e ∷ es) t all f items =
        let first = event_turns e t (is_in e all.0) f items in
        let later = events_turn es (turned_by (dataspace ds) 1 from e t) all.1 first.plan first.got in
        record {
          plan = later.plan;
          got = later.got;
          cost = let a = first.cost in let b = later.cost in omega (arith, a, b);
        }
