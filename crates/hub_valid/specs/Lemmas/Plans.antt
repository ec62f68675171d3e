-- What a turn does in the making leaves the live actors and their inboxes as they are, until it is posted; and the next
-- handle never goes back.
use Rattle.std.proofs.Common.{◌≡◌, ℕ, ◌≤◌, List, [], ◌∷◌, ◌==◌, Bool, true, false, cond, Option, Some, None, refl, ◌∙◌}
use Rattle.std.proofs.Common.{arith}
use Rattle.std.proofs.Common.{nat_lt}
use Rattle.std.specs.Map.{values_of}
use Rattle.pv_value.specs.Plain.{Plain, boolean, sequence, plains}
use Rattle.ds_space.specs.Limits.{most_wanted_weight}
use Rattle.ds_space.specs.Spaces.{Rows, changed, has_row}
use Rattle.ds_space.specs.declared.space.SpaceEvent.{SpaceEvent}
use Rattle.ds_space.specs.declared.space.SpaceEvent.TheVariants.{Add, Gone}
use Rattle.ds_space.specs.declared.space.Change.{Change}
use Rattle.ds_space.specs.declared.space.Change.TheVariants.{Left, Came}
use Rattle.ds_space.specs.declared.space.Fanned.{Fanned}
use Rattle.ac_table.specs.declared.batches.Row.{Row}
use Rattle.ac_table.specs.declared.batches.Event.{Event}
use Rattle.ac_table.specs.declared.batches.Event.TheVariants as event
use Rattle.ac_table.specs.Tables.{TableState, find_row}
use Rattle.ps_schema.specs.declared.Definition.{Definition}
use Rattle.ac_world.specs.declared.acts.Act.{Act}
use Rattle.ac_world.specs.declared.acts.Act.TheVariants as act
use Rattle.ac_world.specs.Outboxes.{Plan, drop_row, drop_own, acted, all_acted}
use Rattle.ac_world.specs.declared.aims.Aim.{Aim}
use Rattle.ac_world.specs.Aims.{aim_at, aim_for}
use Rattle.ac_world.specs.Behaviours.{Behaviour, fanned_weight}
use Rattle.ds_space.specs.Changes.{changes}
use Rattle.ac_world.specs.Turns.{Turning, handle_for, drop_met, row_gone, left, came_at, changed_by, all_changed}
use Rattle.ac_world.specs.Turns.{with_rows, regot, spreading, by_assertion, by_message, applied, taken_in}
use Rattle.ac_world.specs.Turns.{say_at, say_all, passed_on, answer_to, turned_by, all_turned}

-- from t to u no actor comes or goes, no inbox changes, and handles were drawn at most
pub record GoesOn (t u : TableState) : Type 0 where
  pub actors : u.actors ≡ t.actors
  pub later : t.next ≤ u.next

goes_nowhere : (t : TableState) → GoesOn t t
goes_nowhere t = record { actors = refl; later = omega arith }

goes_then : (t u v : TableState) → GoesOn t u → GoesOn u v → GoesOn t v
goes_then t u v first later = record {
  actors = later.actors ∙ first.actors;
  later = omega (arith, first.later, later.later);
}

-- ---- what a connection does

goes_on_drop_own : (a : ℕ) (o : Option Row) (p : Plan) → GoesOn p.table (drop_own a o p).table
goes_on_drop_own a None p = goes_nowhere p.table
goes_on_drop_own a (Some r) p = by (r.owner == a)
  where
    by : (b : Bool) → GoesOn p.table (cond b (drop_row r p) p).table
    by true = record { actors = refl; later = omega arith }
    by false = goes_nowhere p.table

goes_on_acted : (a : ℕ) (x : Act) (p : Plan) → GoesOn p.table (acted a x p).table
goes_on_acted a (act.Assert target entity v) p = record { actors = refl; later = omega arith }
goes_on_acted a (act.Retract handle) p = goes_on_drop_own a (find_row handle p.table.rows) p
goes_on_acted a (act.Message target entity v) p = goes_nowhere p.table
goes_on_acted a (act.Sync target entity peer) p = goes_nowhere p.table

pub goes_on_all_acted : (a : ℕ) (xs : List Act) (p : Plan) → GoesOn p.table (all_acted a xs p).table
goes_on_all_acted a [] p = goes_nowhere p.table
goes_on_all_acted a (x ∷ xs) p =
    goes_then p.table (acted a x p).table (all_acted a xs (acted a x p)).table (goes_on_acted a x p)
    (goes_on_all_acted a xs (acted a x p))

-- ---- a system actor's turn

abbrev pub TurnsOn : Turning → Turning → Type 0
TurnsOn t u = GoesOn t.plan.table u.plan.table

goes_on_drop_met : (a : ℕ) (o : Option ℕ) (p : Plan) → GoesOn p.table (drop_met a o p).table
goes_on_drop_met a None p = goes_nowhere p.table
goes_on_drop_met a (Some h) p = goes_on_drop_own a (find_row h p.table.rows) p

goes_on_row_gone : (a : ℕ) (k : Plain) (t : Turning) → TurnsOn t (row_gone a k t)
goes_on_row_gone a k t = goes_on_drop_met a (handle_for k t.resident.handles) t.plan

-- where a facet goes, neither an actor nor a handle does
goes_on_left : (y : Behaviour) (a : ℕ) (k : Plain) (t : Turning) → TurnsOn t (left y a k t)
goes_on_left y a k t = (let gone = goes_on_row_gone a k t in record { actors = gone.actors; later = gone.later })

goes_on_came_at : (a : ℕ) (g : Option Plain) (k : Plain) (o : Option Aim) (t : Turning) → TurnsOn t (came_at a g k o t)
goes_on_came_at a g k None t = goes_nowhere t.plan.table
goes_on_came_at a g k (Some aim) t = record { actors = refl; later = omega arith }

goes_on_changed_by : (y : Behaviour) (a : ℕ) (c : Change) (t : Turning) → TurnsOn t (changed_by y a c t)
goes_on_changed_by y a (Left k) t = goes_on_left y a k t
goes_on_changed_by y a (Came k) t = goes_on_came_at a (y.group k) k (y.aim k) t

goes_on_all_changed : (y : Behaviour) (a : ℕ) (cs : List Change) (t : Turning) → TurnsOn t (all_changed y a cs t)
goes_on_all_changed y a [] t = goes_nowhere t.plan.table
goes_on_all_changed y a (c ∷ cs) t =
    goes_then t.plan.table (changed_by y a c t).plan.table (all_changed y a cs (changed_by y a c t)).plan.table
    (goes_on_changed_by y a c t) (goes_on_all_changed y a cs (changed_by y a c t))

goes_on_regot : (y : Behaviour) (a : ℕ) (rows : Rows) (t : Turning) → TurnsOn t (regot y a rows t)
goes_on_regot y a rows t =
    goes_on_all_changed y a (changes (y.keys (values_of t.resident.got)) (y.keys (values_of rows))) (with_rows rows t)

goes_on_applied : (y : Behaviour) (a from : ℕ) (e : SpaceEvent) (t : Turning) → TurnsOn t (applied y a from e t)
goes_on_applied y a from (Gone h) t = goes_on_regot y a (changed t.resident.got (Gone h)) t
goes_on_applied y a from (Add h v) t =
    by (nat_lt most_wanted_weight (y.weight (values_of (changed t.resident.got (Add h v)))))
  where
    by : (b : Bool) → TurnsOn t (cond b
        (spreading (by_assertion t.plan.table a from (y.weight (values_of (changed t.resident.got (Add h v))))) t)
        (regot y a (changed t.resident.got (Add h v)) t))
    by true = goes_nowhere t.plan.table
    by false = goes_on_regot y a (changed t.resident.got (Add h v)) t

goes_on_taken_in : (y : Behaviour) (a from h : ℕ) (v : Plain) (t : Turning) → TurnsOn t (taken_in y a from h v t)
goes_on_taken_in y a from h v t = by (has_row h t.resident.got)
  where
    by : (b : Bool) → TurnsOn t (cond b t (applied y a from (Add h v) t))
    by true = goes_nowhere t.plan.table
    by false = goes_on_applied y a from (Add h v) t

goes_on_say_at : (o : Option Aim) (p : Plan) → GoesOn p.table (say_at o p).table
goes_on_say_at None p = goes_nowhere p.table
goes_on_say_at (Some aim) p = goes_nowhere p.table

goes_on_say_all : (ds : List Definition) (fs : List Fanned) (p : Plan) → GoesOn p.table (say_all ds fs p).table
goes_on_say_all ds [] p = goes_nowhere p.table
goes_on_say_all ds (f ∷ fs) p =
    let aim : Option Aim = aim_for ds (sequence (plains f.captures)) f.observe in
    goes_then p.table (say_at aim p).table (say_all ds fs (say_at aim p)).table (goes_on_say_at aim p)
    (goes_on_say_all ds fs (say_at aim p))

goes_on_passed_on : (ds : List Definition) (from : ℕ) (fs : List Fanned) (t : Turning)
    → TurnsOn t (passed_on ds from fs t)
goes_on_passed_on ds from fs t = by (nat_lt most_wanted_weight (fanned_weight fs))
  where
    by : (b : Bool) → TurnsOn t (cond b
        (spreading (by_message t.plan.table from (fanned_weight fs)) t) (record t { plan = say_all ds fs t.plan }))
    by true = goes_nowhere t.plan.table
    by false = goes_on_say_all ds fs t.plan

goes_on_answer_to : (ds : List Definition) (peer : Plain) (p : Plan) → GoesOn p.table (answer_to ds peer p).table
goes_on_answer_to ds peer p = goes_on_say_at (aim_at ds (boolean true) peer) p

goes_on_turned_by : (y : Behaviour) (a from : ℕ) (e : Event) (t : Turning) → TurnsOn t (turned_by y a from e t)
goes_on_turned_by y a from (event.Assert h entity v) t = goes_on_taken_in y a from h v t
goes_on_turned_by y a from (event.Retract h entity) t = goes_on_applied y a from (Gone h) t
goes_on_turned_by y a from (event.Message entity v) t =
    goes_on_passed_on y.schema from (y.fan (values_of t.resident.got) v) t
goes_on_turned_by y a from (event.Sync entity peer) t = goes_on_answer_to y.schema peer t.plan

pub goes_on_all_turned : (y : Behaviour) (a from : ℕ) (es : List Event) (t : Turning)
    → TurnsOn t (all_turned y a from es t)
goes_on_all_turned y a from [] t = goes_nowhere t.plan.table
goes_on_all_turned y a from (e ∷ es) t =
    goes_then t.plan.table (turned_by y a from e t).plan.table
    (all_turned y a from es (turned_by y a from e t)).plan.table
    (goes_on_turned_by y a from e t) (goes_on_all_turned y a from es (turned_by y a from e t))
