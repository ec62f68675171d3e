-- What of a table a turn of one actor spares, until it is posted: whatever is spared by each change of its rows and of
-- its facets.
use Rattle.std.proofs.Common.{◌≡◌, ℕ, ◌==◌, List, [], ◌∷◌, Bool, true, false, cond, refl, ◌∙◌, Option, Some, None}
use Rattle.std.specs.BTreeMap.{is_at}
use Rattle.std.specs.Map.{values_of, remove_entry}
use Rattle.pv_value.specs.Order.{order}
use Rattle.pv_value.specs.Plain.{Plain, boolean, sequence, plains}
use Rattle.ds_space.specs.Spaces.{Rows, changed, has_row}
use Rattle.ds_space.specs.declared.space.SpaceEvent.{SpaceEvent}
use Rattle.ds_space.specs.declared.space.SpaceEvent.TheVariants.{Add, Gone}
use Rattle.ds_space.specs.declared.space.Change.{Change}
use Rattle.ds_space.specs.declared.space.Change.TheVariants.{Left, Came}
use Rattle.ds_space.specs.declared.space.Fanned.{Fanned}
use Rattle.ac_table.specs.declared.batches.Row.{Row}
use Rattle.ac_table.specs.declared.batches.Event.{Event}
use Rattle.ac_table.specs.declared.batches.Event.TheVariants.{Assert, Retract, Message, Sync}
use Rattle.ac_table.specs.Facets.{least_free}
use Rattle.ac_table.specs.Tables.{TableState, find_row, tree_of, has_rows, asserted, retracted, faceted, without_facets}
use Rattle.ps_schema.specs.declared.Definition.{Definition}
use Rattle.ac_world.specs.declared.acts.Act.{Act}
use Rattle.ac_world.specs.declared.acts.Act.TheVariants as act
use Rattle.ac_world.specs.declared.aims.Aim.{Aim}
use Rattle.ac_world.specs.Aims.{aim_at, aim_for}
use Rattle.ac_world.specs.Behaviours.{Behaviour}
use Rattle.ac_world.specs.Allocating.{Released, facet_for, allocated_at, released_at}
use Rattle.ac_world.specs.Outboxes.{Plan, drop_row, drop_own, dropped, acted, all_acted}
use Rattle.ds_space.specs.Changes.{changes}
use Rattle.ac_world.specs.Turns.{Turning, drop_met, handle_for, releasing, row_gone, allocating, came_at}
use Rattle.ac_world.specs.Turns.{changed_by, all_changed, with_rows, regot, applied, taken_in}
use Rattle.ac_world.specs.Turns.{say_at, say_all, passed_on, turned_by, all_turned}

-- what f tells of a table is the same after each change of actor a's rows
pub record IsSparedByRows {X : Type 0} (f : TableState → X) (a : ℕ) : Type 0 where
  pub row_more : (facet target entity : ℕ) (v : Plain) (t : TableState)
      → f (asserted a facet target entity v t) ≡ f t
  pub row_less : (h : ℕ) (t : TableState) → f (retracted h t) ≡ f t

-- and of its facets
pub record IsSpared {X : Type 0} (f : TableState → X) (a : ℕ) : Type 0 where
  pub rows : IsSparedByRows f a
  pub facet_more : (n : ℕ) (t : TableState) → f (record t { trees = (faceted a 0 n t).trees }) ≡ f t
  pub facet_less : (n : ℕ) (t : TableState) → f (record t { trees = (without_facets a (n ∷ []) t).trees }) ≡ f t

if_same : {X Y : Type 0} (g : Y → X) (x : X) (b : Bool) (y z : Y) → g y ≡ x → g z ≡ x → g (cond b y z) ≡ x
if_same g x true y z same other = same
if_same g x false y z same other = other

-- ---- rows

module _ {X : Type 0} (f : TableState → X) (a : ℕ) (spared : IsSparedByRows f a) where
  own_spared : (o : Option Row) (p : Plan) → f (drop_own a o p).table ≡ f p.table
  own_spared None p = refl
  own_spared (Some r) p =
      if_same (λ (q : Plan). f q.table) (f p.table) (r.owner == a) (drop_row r p) p (spared.row_less r.handle p.table)
      refl

  pub dropped_spared : (h : ℕ) (p : Plan) → f (dropped a h p).table ≡ f p.table
  dropped_spared h p = own_spared (find_row h p.table.rows) p

  pub met_spared : (o : Option ℕ) (p : Plan) → f (drop_met a o p).table ≡ f p.table
  met_spared None p = refl
  met_spared (Some h) p = dropped_spared h p

  pub acted_spared : (x : Act) (p : Plan) → f (acted a x p).table ≡ f p.table
  acted_spared (act.Assert target entity v) p = spared.row_more 0 target entity v p.table
  acted_spared (act.Retract h) p = dropped_spared h p
  acted_spared (act.Message target entity v) p = refl
  acted_spared (act.Sync target entity peer) p = refl

  pub all_acted_spared : (xs : List Act) (p : Plan) → f (all_acted a xs p).table ≡ f p.table
  all_acted_spared [] p = refl
  all_acted_spared (x ∷ xs) p = all_acted_spared xs (acted a x p) ∙ acted_spared x p

module _ {X : Type 0} (f : TableState → X) (a : ℕ) (spared : IsSpared f a) where
  -- ---- the rows and the facets of a system actor

  releasing_spared : (g : Option Plain) (t : Turning) → f (releasing a g t).plan.table ≡ f t.plan.table
  releasing_spared None t = refl
  releasing_spared (Some g) t = by (facet_for (Some g) t.resident.facets)
    where
      by : (o : Option ℕ)
          → f (record t.plan.table { trees = (released_at a g o t.resident.facets t.plan.table).trees })
          ≡ f t.plan.table
      by None = refl
      by (Some n) = rest (has_rows a n t.plan.table)
        where
          rest : (b : Bool) → f (record t.plan.table {
            trees = (cond {A = Released} b (record { facets = t.resident.facets; trees = t.plan.table.trees }) (record {
              facets = remove_entry (is_at (order g)) t.resident.facets;
              trees = (without_facets a (n ∷ []) t.plan.table).trees;
            })).trees;
          }) ≡ f t.plan.table
          rest true = refl
          rest false = spared.facet_less n t.plan.table

  allocating_spared : (g : Option Plain) (t : Turning) → f (allocating a g t).plan.table ≡ f t.plan.table
  allocating_spared g t = by g (facet_for g t.resident.facets)
    where
      by : (g : Option Plain) (o : Option ℕ)
          → f (record t.plan.table { trees = (allocated_at a g o t.resident.facets t.plan.table).trees })
          ≡ f t.plan.table
      by g (Some n) = refl
      by (Some k) None = spared.facet_more (least_free (tree_of a t.plan.table)) t.plan.table
      by None None = refl

  came_spared : (g : Option Plain) (k : Plain) (o : Option Aim) (t : Turning)
      → f (came_at a g k o t).plan.table ≡ f t.plan.table
  came_spared g k None t = refl
  came_spared g k (Some aim) t =
      spared.rows.row_more _ aim.at.actor aim.at.entity aim.value (allocating a g t).plan.table ∙ allocating_spared g t

  changed_spared : (y : Behaviour) (c : Change) (t : Turning) → f (changed_by y a c t).plan.table ≡ f t.plan.table
  changed_spared y (Left k) t =
      releasing_spared (y.group k) (row_gone a k t) ∙ met_spared f a spared.rows (handle_for k t.resident.handles) t.plan
  changed_spared y (Came k) t = came_spared (y.group k) k (y.aim k) t

  all_changed_spared : (y : Behaviour) (cs : List Change) (t : Turning)
      → f (all_changed y a cs t).plan.table ≡ f t.plan.table
  all_changed_spared y [] t = refl
  all_changed_spared y (c ∷ cs) t = all_changed_spared y cs (changed_by y a c t) ∙ changed_spared y c t

  regot_spared : (y : Behaviour) (rows : Rows) (t : Turning) → f (regot y a rows t).plan.table ≡ f t.plan.table
  regot_spared y rows t =
      all_changed_spared y (changes (y.keys (values_of t.resident.got)) (y.keys (values_of rows))) (with_rows rows t)

  -- ---- events

  applied_spared : (y : Behaviour) (from : ℕ) (e : SpaceEvent) (t : Turning)
      → f (applied y a from e t).plan.table ≡ f t.plan.table
  applied_spared y from (Add h v) t =
      if_same (λ (u : Turning). f u.plan.table) (f t.plan.table) _ _ _ refl
      (regot_spared y (changed t.resident.got (Add h v)) t)
  applied_spared y from (Gone h) t = regot_spared y (changed t.resident.got (Gone h)) t

  taken_in_spared : (y : Behaviour) (from h : ℕ) (v : Plain) (t : Turning)
      → f (taken_in y a from h v t).plan.table ≡ f t.plan.table
  taken_in_spared y from h v t =
      if_same (λ (u : Turning). f u.plan.table) (f t.plan.table) (has_row h t.resident.got) t
      (applied y a from (Add h v) t) refl (applied_spared y from (Add h v) t)

  say_at_spared : (o : Option Aim) (p : Plan) → f (say_at o p).table ≡ f p.table
  say_at_spared None p = refl
  say_at_spared (Some aim) p = refl

  say_all_spared : (ds : List Definition) (fs : List Fanned) (p : Plan) → f (say_all ds fs p).table ≡ f p.table
  say_all_spared ds [] p = refl
  say_all_spared ds (x ∷ xs) p =
      say_all_spared ds xs (say_at (aim_for ds (sequence (plains x.captures)) x.observe) p)
      ∙ say_at_spared (aim_for ds (sequence (plains x.captures)) x.observe) p

  passed_on_spared : (ds : List Definition) (from : ℕ) (fs : List Fanned) (t : Turning)
      → f (passed_on ds from fs t).plan.table ≡ f t.plan.table
  passed_on_spared ds from fs t =
      if_same (λ (u : Turning). f u.plan.table) (f t.plan.table) _ _ _ refl (say_all_spared ds fs t.plan)

  turned_spared : (y : Behaviour) (from : ℕ) (e : Event) (t : Turning)
      → f (turned_by y a from e t).plan.table ≡ f t.plan.table
  turned_spared y from (Assert h entity v) t = taken_in_spared y from h v t
  turned_spared y from (Retract h entity) t = applied_spared y from (Gone h) t
  turned_spared y from (Message entity v) t = passed_on_spared y.schema from (y.fan (values_of t.resident.got) v) t
  turned_spared y from (Sync entity peer) t = say_at_spared (aim_at y.schema (boolean true) peer) t.plan

  pub all_turned_spared : (y : Behaviour) (from : ℕ) (es : List Event) (t : Turning)
      → f (all_turned y a from es t).plan.table ≡ f t.plan.table
  all_turned_spared y from [] t = refl
  all_turned_spared y from (e ∷ es) t =
      all_turned_spared y from es (turned_by y a from e t) ∙ turned_spared y from e t
