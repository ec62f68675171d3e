-- What an actor has got follows the events of its batch.
use Rattle.std.proofs.Common.{◌≡◌, ℕ, ◌||◌, List, [], ◌∷◌, Bool, true, false, cond, refl, ap, ◌∙◌}
use Rattle.std.specs.Prelude.{nat_lt}
use Rattle.std.specs.Map.{values_of}
use Rattle.ps_schema.specs.declared.Definition.{Definition}
use Rattle.ds_space.specs.Limits.{most_wanted_weight}
use Rattle.ds_space.specs.Spaces.{changed, has_row}
use Rattle.ds_space.specs.declared.space.SpaceEvent.TheVariants.{Add, Gone}
use Rattle.ds_space.specs.declared.space.Fanned.{Fanned}
use Rattle.ac_table.specs.declared.batches.Event.{Event}
use Rattle.ac_table.specs.declared.batches.Event.TheVariants.{Assert, Retract, Message, Sync}
use Rattle.ac_world.specs.Behaviours.{Behaviour, fanned_weight}
use Rattle.ac_world.specs.Turns.{Turning, regot, spreading, by_assertion, by_message, say_all, passed_on, turned_by}
use Rattle.hub_laws.proofs.Logs.{got-regot}
use Rattle.hub_batches.specs.Laws.{GotInOrder}
use Rattle.hub_batches.specs.Telling.{got_with, got_with_all}

passed_got : (ds : List Definition) (from : ℕ) (fs : List Fanned) (t : Turning)
    → (passed_on ds from fs t).resident.got ≡ t.resident.got
passed_got ds from fs t = by (nat_lt most_wanted_weight (fanned_weight fs))
  where
    by : (c : Bool) → (cond c
        (spreading (by_message t.plan.table from (fanned_weight fs)) t)
        (record t { plan = say_all ds fs t.plan })).resident.got ≡ t.resident.got
    by true = refl
    by false = refl

turned_got : (y : Behaviour) (a from : ℕ) (e : Event) (t : Turning)
    → (turned_by y a from e t).resident.got ≡ got_with y e t.resident.got
turned_got y a from (Assert h entity v) t =
    by (has_row h t.resident.got)
    (nat_lt most_wanted_weight (y.weight (values_of (changed t.resident.got (Add h v)))))
  where
    by : (c d : Bool) → (cond c t (cond d
        (spreading (by_assertion t.plan.table a from (y.weight (values_of (changed t.resident.got (Add h v))))) t)
        (regot y a (changed t.resident.got (Add h v)) t))).resident.got
        ≡ cond (c || d) t.resident.got (changed t.resident.got (Add h v))
    by true d = refl
    by false true = refl
    by false false = got-regot y a (changed t.resident.got (Add h v)) t
turned_got y a from (Retract h entity) t = got-regot y a (changed t.resident.got (Gone h)) t
turned_got y a from (Message entity v) t = passed_got y.schema from (y.fan (values_of t.resident.got) v) t
turned_got y a from (Sync entity peer) t = refl

pub got_in_order : GotInOrder
got_in_order y a from [] t = refl
got_in_order y a from (e ∷ es) t =
    got_in_order y a from es (turned_by y a from e t) ∙ ap (got_with_all y es) (turned_got y a from e t)
