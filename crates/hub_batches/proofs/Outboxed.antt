-- What holds of each outbox to which an event is added holds of that of a turn.
use Rattle.std.proofs.Common.{ℕ, ◌==◌, List, [], ◌∷◌, Bool, true, false, cond, Option, Some, None}
use Rattle.std.specs.Prelude.{nat_lt}
use Rattle.std.specs.Map.{values_of}
use Rattle.pv_value.specs.Plain.{Plain, boolean, sequence, plains}
use Rattle.ps_schema.specs.declared.Definition.{Definition}
use Rattle.ds_space.specs.Limits.{most_wanted_weight}
use Rattle.ds_space.specs.Spaces.{Rows, changed, has_row}
use Rattle.ds_space.specs.declared.space.SpaceEvent.TheVariants.{Add, Gone}
use Rattle.ds_space.specs.declared.space.Change.{Change}
use Rattle.ds_space.specs.declared.space.Change.TheVariants.{Left, Came}
use Rattle.ds_space.specs.declared.space.Fanned.{Fanned}
use Rattle.ac_table.specs.declared.batches.Row.{Row}
use Rattle.ac_table.specs.declared.batches.Event.{Event}
use Rattle.ac_table.specs.declared.batches.Event.TheVariants.{Assert, Retract, Message, Sync}
use Rattle.ac_table.specs.Tables.{find_row}
use Rattle.ac_world.specs.declared.aims.Aim.{Aim}
use Rattle.ac_world.specs.Aims.{aim_at, aim_for}
use Rattle.ac_world.specs.Behaviours.{Behaviour, fanned_weight}
use Rattle.ac_world.specs.Outboxes.{Outbox, Plan, told, drop_row, drop_own}
use Rattle.ds_space.specs.Changes.{changes}
use Rattle.ac_world.specs.Turns.{Turning, handle_for, drop_met, came_at, changed_by, all_changed, with_rows, regot}
use Rattle.ac_world.specs.Turns.{spreading, by_assertion, by_message, taken_in, say_at, say_all, passed_on}
use Rattle.ac_world.specs.Turns.{turned_by, all_turned}

module _ (P : Outbox → Type 0) (more : (target : ℕ) (e : Event) (out : Outbox) → P out → P (told target e out)) where
  abbrev Has : Turning → Type 0
  Has t = P t.plan.out

  own_has : (a : ℕ) (o : Option Row) (p : Plan) → P p.out → P (drop_own a o p).out
  own_has a None p has = has
  own_has a (Some r) p has = by (r.owner == a)
    where
      by : (c : Bool) → P (cond c (drop_row r p) p).out
      by true = more r.target (Retract r.handle r.entity) p.out has
      by false = has

  met_has : (a : ℕ) (o : Option ℕ) (p : Plan) → P p.out → P (drop_met a o p).out
  met_has a None p has = has
  met_has a (Some h) p has = own_has a (find_row h p.table.rows) p has

  came_has : (a : ℕ) (g : Option Plain) (k : Plain) (o : Option Aim) (t : Turning) → Has t → Has (came_at a g k o t)
  came_has a g k None t has = has
  came_has a g k (Some aim) t has =
      more aim.at.actor (Assert t.plan.table.next aim.at.entity aim.value) t.plan.out has

  changed_has : (y : Behaviour) (a : ℕ) (c : Change) (t : Turning) → Has t → Has (changed_by y a c t)
  changed_has y a (Left k) t has = met_has a (handle_for k t.resident.handles) t.plan has
  changed_has y a (Came k) t has = came_has a (y.group k) k (y.aim k) t has

  all_changed_has : (y : Behaviour) (a : ℕ) (cs : List Change) (t : Turning) → Has t → Has (all_changed y a cs t)
  all_changed_has y a [] t has = has
  all_changed_has y a (c ∷ cs) t has = all_changed_has y a cs (changed_by y a c t) (changed_has y a c t has)

  regot_has : (y : Behaviour) (a : ℕ) (rows : Rows) (t : Turning) → Has t → Has (regot y a rows t)
  regot_has y a rows t has =
      all_changed_has y a (changes (y.keys (values_of t.resident.got)) (y.keys (values_of rows))) (with_rows rows t) has

  taken_in_has : (y : Behaviour) (a from h : ℕ) (v : Plain) (t : Turning) → Has t → Has (taken_in y a from h v t)
  taken_in_has y a from h v t has =
      by (has_row h t.resident.got)
      (nat_lt most_wanted_weight (y.weight (values_of (changed t.resident.got (Add h v)))))
    where
      by : (c d : Bool) → Has (cond c t (cond d
          (spreading (by_assertion t.plan.table a from (y.weight (values_of (changed t.resident.got (Add h v))))) t)
          (regot y a (changed t.resident.got (Add h v)) t)))
      by true d = has
      by false true = has
      by false false = regot_has y a (changed t.resident.got (Add h v)) t has

  say_at_has : (o : Option Aim) (p : Plan) → P p.out → P (say_at o p).out
  say_at_has None p has = has
  say_at_has (Some aim) p has = more aim.at.actor (Message aim.at.entity aim.value) p.out has

  say_all_has : (ds : List Definition) (fs : List Fanned) (p : Plan) → P p.out → P (say_all ds fs p).out
  say_all_has ds [] p has = has
  say_all_has ds (f ∷ fs) p has =
      let aim : Option Aim = aim_for ds (sequence (plains f.captures)) f.observe in
      say_all_has ds fs (say_at aim p) (say_at_has aim p has)

  passed_has : (ds : List Definition) (from : ℕ) (fs : List Fanned) (t : Turning) → Has t → Has (passed_on ds from fs t)
  passed_has ds from fs t has = by (nat_lt most_wanted_weight (fanned_weight fs))
    where
      by : (c : Bool) → Has (cond c
          (spreading (by_message t.plan.table from (fanned_weight fs)) t) (record t { plan = say_all ds fs t.plan }))
      by true = has
      by false = say_all_has ds fs t.plan has

  turned_has : (y : Behaviour) (a from : ℕ) (e : Event) (t : Turning) → Has t → Has (turned_by y a from e t)
  turned_has y a from (Assert h entity v) t has = taken_in_has y a from h v t has
  turned_has y a from (Retract h entity) t has = regot_has y a (changed t.resident.got (Gone h)) t has
  turned_has y a from (Message entity v) t has =
      passed_has y.schema from (y.fan (values_of t.resident.got) v) t has
  turned_has y a from (Sync entity peer) t has = say_at_has (aim_at y.schema (boolean true) peer) t.plan has

  pub all_turned_has : (y : Behaviour) (a from : ℕ) (es : List Event) (t : Turning) → Has t
      → Has (all_turned y a from es t)
  all_turned_has y a from [] t has = has
  all_turned_has y a from (e ∷ es) t has =
      all_turned_has y a from es (turned_by y a from e t) (turned_has y a from e t has)
