-- A system actor's turn over retractions: nobody spreads, and retractions are all that is told.
use Rattle.std.proofs.Common.{◌≡◌, ℕ, ◌==◌, List, [], ◌∷◌, ◌++◌, map, Bool, true, false, cond, Option, Some, None, ap}
use Rattle.std.proofs.Common.{sym, ◌∙◌, subst, append-nil}
use Rattle.std.specs.List.{AllByRecursion}
use Rattle.std.specs.Map.{values_of}
use Rattle.pv_value.specs.Plain.{Plain}
use Rattle.ds_space.specs.Changes.{without, changes}
use Rattle.ds_space.specs.Spaces.{Rows, changed}
use Rattle.ds_space.specs.declared.space.Change.TheVariants.{Left, Came}
use Rattle.ds_space.specs.declared.space.SpaceEvent.TheVariants.{Gone}
use Rattle.ac_table.specs.declared.batches.Row.{Row}
use Rattle.ac_table.specs.declared.batches.Event.{Event}
use Rattle.ac_table.specs.declared.batches.Event.TheVariants.{Assert, Retract, Message, Sync}
use Rattle.ac_table.specs.Tables.{find_row}
use Rattle.ac_world.specs.Behaviours.{Behaviour}
use Rattle.ac_world.specs.Outboxes.{Plan, drop_row, drop_own}
use Rattle.ac_world.specs.Turns.{Turning, handle_for, drop_met, left, all_changed, with_rows, regot}
use Rattle.ac_world.specs.Turns.{turned_by, all_turned}
use Rattle.hub_valid.specs.Lemmas.WorldPlans.{AreTold, told_pass}
use Rattle.hub_cascade.specs.Sparing.{IsRetraction}
use Rattle.hub_cascade.proofs.Fewer.{WantsNoMore}

-- nobody has spread, and retractions are all that is told
pub record IsQuiet (t : Turning) : Type 0 where
  pub spreads : t.spreads ≡ []
  pub told : AreTold IsRetraction t.plan.out

-- ---- rows go

own_quiet : (a : ℕ) (o : Option Row) (p : Plan) → AreTold IsRetraction p.out → AreTold IsRetraction (drop_own a o p).out
own_quiet a None p all = all
own_quiet a (Some r) p all = by (r.owner == a)
  where
    by : (c : Bool) → AreTold IsRetraction (cond c (drop_row r p) p).out
    by true = told_pass IsRetraction r.target (Retract r.handle r.entity) p.out tt all
    by false = all

met_quiet : (a : ℕ) (o : Option ℕ) (p : Plan) → AreTold IsRetraction p.out → AreTold IsRetraction (drop_met a o p).out
met_quiet a None p all = all
met_quiet a (Some h) p all = own_quiet a (find_row h p.table.rows) p all

left_quiet : (y : Behaviour) (a : ℕ) (k : Plain) (t : Turning) → IsQuiet t → IsQuiet (left y a k t)
left_quiet y a k t quiet = record {
  spreads = quiet.spreads;
  told = met_quiet a (handle_for k t.resident.handles) t.plan quiet.told;
}

all_left_quiet : (y : Behaviour) (a : ℕ) (ks : List Plain) (t : Turning) → IsQuiet t
    → IsQuiet (all_changed y a (map Left ks) t)
all_left_quiet y a [] t quiet = quiet
all_left_quiet y a (k ∷ ks) t quiet = all_left_quiet y a ks (left y a k t) (left_quiet y a k t quiet)

-- ---- events

gone_quiet : (y : Behaviour) (a h : ℕ) (t : Turning) → WantsNoMore y → IsQuiet t
    → IsQuiet (regot y a (changed t.resident.got (Gone h)) t)
gone_quiet y a h t no_more quiet =
    subst (λ cs. IsQuiet (all_changed y a cs (with_rows rows t))) (sym leave)
    (all_left_quiet y a (without before after) (with_rows rows t)
    (record { spreads = quiet.spreads; told = quiet.told }))
  where
    rows : Rows
    rows = changed t.resident.got (Gone h)

    before : List Plain
    before = y.keys (values_of t.resident.got)

    after : List Plain
    after = y.keys (values_of rows)

    leave : changes before after ≡ map Left (without before after)
    leave =
        ap (λ ks. map Left (without before after) ++ map Came ks) (no_more h t.resident.got)
        ∙ append-nil (map Left (without before after))

pub all_quiet : (y : Behaviour) (a from : ℕ) (es : List Event) (t : Turning) → WantsNoMore y
    → AllByRecursion IsRetraction es → IsQuiet t → IsQuiet (all_turned y a from es t)
all_quiet y a from [] t no_more all quiet = quiet
all_quiet y a from (e ∷ es) t no_more all quiet =
    all_quiet y a from es (turned_by y a from e t) no_more all.1 (one e all.0)
  where
    one : (e : Event) → IsRetraction e → IsQuiet (turned_by y a from e t)
    one (Assert h entity v) is = absurd is
    one (Retract h entity) is = gone_quiet y a h t no_more quiet
    one (Message entity v) is = absurd is
    one (Sync entity peer) is = absurd is
