-- What one event tells others in the turn of a system actor whose rows are those of what it wants.
use Rattle.std.proofs.Common.{◌≡◌, ℕ, ◌||◌, List, [], ◌++◌, Bool, true, false, cond, Option, sym, ap, ◌∙◌, append-nil}
use Rattle.std.specs.Prelude.{nat_lt}
use Rattle.std.specs.Map.{values_of}
use Rattle.pv_value.specs.Plain.{Plain}
use Rattle.pv_value.specs.WellFormed.{Ascend}
use Rattle.ds_space.specs.Limits.{most_wanted_weight}
use Rattle.ds_space.specs.Spaces.{changed, has_row}
use Rattle.ds_space.specs.declared.space.SpaceEvent.TheVariants.{Add, Gone}
use Rattle.ac_table.specs.declared.batches.Event.{Event}
use Rattle.ac_table.specs.declared.batches.Event.TheVariants.{Assert, Retract, Message, Sync}
use Rattle.ac_world.specs.declared.watched.Watched.{Watched}
use Rattle.ac_world.specs.Behaviours.{Behaviour}
use Rattle.ac_world.specs.Outboxes.{told_to}
use Rattle.ac_world.specs.Turns.{Turning, regot, spreading, by_assertion, taken_in, turned_by}
use Rattle.hub_laws.specs.Wanting.{IsMet}
use Rattle.hub_laws.proofs.Said.{answers_syncs}
use Rattle.hub_batches.specs.Laws.{RowsGoFirst}
use Rattle.hub_batches.specs.Telling.{told_of_change, is_passed_over, told_of}
use Rattle.hub_batches.proofs.Rows.{regot_tells}
use Rattle.hub_batches.proofs.Said.{Says}

module _ (y : Behaviour) (o : Option Watched) (a from b : ℕ) (t : Turning) (rise : (vs : List Plain) → Ascend (y.keys vs))
    (met : IsMet y o a t.resident t.plan.table.rows) where
  -- one that is passed over tells nothing
  assertion_tells : (h : ℕ) (v : Plain)
      → told_to b (taken_in y a from h v t).plan.out
      ≡ told_to b t.plan.out
      ++ cond (is_passed_over y h v t.resident.got) [] (told_of_change y b (changed t.resident.got (Add h v)) t)
  assertion_tells h v =
      by (has_row h t.resident.got)
      (nat_lt most_wanted_weight (y.weight (values_of (changed t.resident.got (Add h v)))))
    where
      by : (c d : Bool) → told_to b (cond c t (cond d
          (spreading (by_assertion t.plan.table a from (y.weight (values_of (changed t.resident.got (Add h v))))) t)
          (regot y a (changed t.resident.got (Add h v)) t))).plan.out
          ≡ told_to b t.plan.out ++ cond (c || d) [] (told_of_change y b (changed t.resident.got (Add h v)) t)
      by true d = sym (append-nil (told_to b t.plan.out))
      by false true = sym (append-nil (told_to b t.plan.out))
      by false false = regot_tells y o a b (changed t.resident.got (Add h v)) t rise met

  retraction_tells : (h : ℕ)
      → told_to b (regot y a (changed t.resident.got (Gone h)) t).plan.out
      ≡ told_to b t.plan.out ++ told_of_change y b (changed t.resident.got (Gone h)) t
  retraction_tells h = regot_tells y o a b (changed t.resident.got (Gone h)) t rise met

  pub turned_tells : (said : List Plain → Plain → List Event) (e : Event) → Says y said b
      → told_to b (turned_by y a from e t).plan.out ≡ told_to b t.plan.out ++ told_of y said b e t
  turned_tells said (Assert h entity v) says = assertion_tells h v
  turned_tells said (Retract h entity) says = retraction_tells h
  turned_tells said (Message entity v) says = says from v t
  turned_tells said (Sync entity peer) says = (answers_syncs y a from entity peer t).told b

pub rows_go_first : RowsGoFirst
rows_go_first y o a from b t rise met = record {
  comes = λ h entity v heard.
      assertion_tells y o a from b t rise met h v
      ∙ ap (λ c. told_to b t.plan.out ++ cond c [] (told_of_change y b (changed t.resident.got (Add h v)) t)) heard;
  goes = λ h entity. retraction_tells y o a from b t rise met h;
}
