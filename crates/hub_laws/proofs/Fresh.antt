-- Before the first connection comes: what waits tells of rows alone, and nothing waits for the gatekeeper.
use Rattle.std.proofs.Common.{◌≡◌, ℕ, ◌<◌, ◌≤◌, ◌==◌, List, [], ◌∷◌, ◌++◌, Bool, true, false, cond, Option, Some, None}
use Rattle.std.proofs.Common.{refl, ap, sym, ◌∙◌, subst, arith, nat_lt, append-nil}
use Rattle.std.specs.List.{AllByRecursion}
use Rattle.std.specs.Map.{values_of}
use Rattle.ds_space.specs.Limits.{most_wanted_weight}
use Rattle.ds_space.specs.Spaces.{Rows, changed, has_row}
use Rattle.ds_space.specs.declared.space.SpaceEvent.TheVariants.{Add}
use Rattle.ds_space.specs.declared.space.Change.{Change}
use Rattle.ds_space.specs.declared.space.Change.TheVariants.{Left, Came}
use Rattle.ac_table.specs.declared.batches.Row.{Row}
use Rattle.ac_table.specs.declared.batches.Event.{Event}
use Rattle.ac_table.specs.declared.batches.Event.TheVariants.{Assert, Retract, Message, Sync}
use Rattle.ac_table.specs.Tables.{TableState, find_row}
use Rattle.ac_world.specs.Outboxes.{Outbox, Plan, drop_own, drop_row, told, told_to, posted, retractions}
use Rattle.ac_world.specs.declared.aims.Aim.{Aim}
use Rattle.ac_world.specs.Behaviours.{Behaviour}
use Rattle.ac_world.specs.Lemmas.Entries.{KeysAscend, all_append}
use Rattle.ds_space.specs.Changes.{changes}
use Rattle.ac_world.specs.Turns.{Turning, handle_for, drop_met, came_at, changed_by, all_changed, with_rows, regot}
use Rattle.ac_world.specs.Turns.{turned_by, all_turned}
use Rattle.hub_laws.specs.Standing.{events_of}
use Rattle.hub_laws.proofs.Kept.{IsOfRow, AreQuiet, FitsEvent}
use Rattle.hub_laws.proofs.Moving.{told_to-told}
use Rattle.hub_laws.proofs.Posting.{posted_to}
use Rattle.hub_laws.proofs.Serving.{events_posted}

-- ---- what is told

abbrev pub TellsOfRows : Outbox → Type 0
TellsOfRows out = (b : ℕ) → AllByRecursion IsOfRow (told_to b out)

pub told_of_rows : (target : ℕ) (e : Event) (out : Outbox) → IsOfRow e → TellsOfRows out
    → TellsOfRows (told target e out)
told_of_rows target e out is of b =
    rw (told_to-told b target e out) (all_append IsOfRow (told_to b out) _ (of b) (one (target == b)))
  where
    one : (c : Bool) → AllByRecursion IsOfRow (cond c (e ∷ []) [])
    one true = (is, tt)
    one false = tt

pub retractions_of_rows : (rs : List Row) (out : Outbox) → TellsOfRows out → TellsOfRows (retractions rs out)
retractions_of_rows [] out of = of
retractions_of_rows (r ∷ rs) out of =
    retractions_of_rows rs (told r.target (Retract r.handle r.entity) out)
    (told_of_rows r.target (Retract r.handle r.entity) out tt of)

-- of the rows of the system's actors the gatekeeper isn't told
pub none_told : (a : ℕ) (rows : List Row) (es : List Event) → a < 17 → AllByRecursion IsOfRow es
    → AllByRecursion (FitsEvent rows 0 a) es → es ≡ []
none_told a rows [] system of fits = refl
none_told a rows (Assert h entity v ∷ es) system of fits =
    absurd (let one : 1 ≤ 0 = fits.0.1 system in omega (arith, one))
none_told a rows (Retract h entity ∷ es) system of fits =
    absurd (let one : 1 ≤ 0 = fits.0 system in omega (arith, one))
none_told a rows (Message entity v ∷ es) system of fits = absurd of.0
none_told a rows (Sync entity peer ∷ es) system of fits = absurd of.0

-- ---- a turn over events that tell of rows

dropped_of_rows : (a h : ℕ) (p : Plan) (o : Option Row) → TellsOfRows p.out → TellsOfRows (drop_own a o p).out
dropped_of_rows a h p None of = of
dropped_of_rows a h p (Some r) of = by (r.owner == a)
  where
    by : (c : Bool) → TellsOfRows (cond c (drop_row r p) p).out
    by true = told_of_rows r.target (Retract r.handle r.entity) p.out tt of
    by false = of

changed_of_rows : (y : Behaviour) (a : ℕ) (c : Change) (u : Turning) → TellsOfRows u.plan.out
    → TellsOfRows (changed_by y a c u).plan.out
changed_of_rows y a (Left k) u of = by (handle_for k u.resident.handles)
  where
    by : (o : Option ℕ) → TellsOfRows (drop_met a o u.plan).out
    by None = of
    by (Some h) = dropped_of_rows a h u.plan (find_row h u.plan.table.rows) of
changed_of_rows y a (Came k) u of = by (y.aim k)
  where
    by : (o : Option Aim) → TellsOfRows (came_at a (y.group k) k o u).plan.out
    by None = of
    by (Some aim) =
        told_of_rows aim.at.actor (Assert u.plan.table.next aim.at.entity aim.value) u.plan.out tt of

all_changed_of_rows : (y : Behaviour) (a : ℕ) (cs : List Change) (u : Turning) → TellsOfRows u.plan.out
    → TellsOfRows (all_changed y a cs u).plan.out
all_changed_of_rows y a [] u of = of
all_changed_of_rows y a (c ∷ cs) u of =
    all_changed_of_rows y a cs (changed_by y a c u) (changed_of_rows y a c u of)

regot_of_rows : (y : Behaviour) (a : ℕ) (rows : Rows) (u : Turning) → TellsOfRows u.plan.out
    → TellsOfRows (regot y a rows u).plan.out
regot_of_rows y a rows u of =
    all_changed_of_rows y a (changes (y.keys (values_of u.resident.got)) (y.keys (values_of rows))) (with_rows rows u) of

turned_of_rows : (y : Behaviour) (a from : ℕ) (e : Event) (u : Turning) → IsOfRow e → TellsOfRows u.plan.out
    → TellsOfRows (turned_by y a from e u).plan.out
turned_of_rows y a from (Assert h entity v) u is of =
    by (has_row h u.resident.got)
    (nat_lt most_wanted_weight (y.weight (values_of (changed u.resident.got (Add h v))))) _ _ of
    (regot_of_rows y a (changed u.resident.got (Add h v)) u of)
  where
    by : (b c : Bool) (s v : Turning) → TellsOfRows s.plan.out → TellsOfRows v.plan.out
        → TellsOfRows (cond b u (cond c s v)).plan.out
    by true c s v passed got = of
    by false true s v passed got = passed
    by false false s v passed got = got
turned_of_rows y a from (Retract h entity) u is of = regot_of_rows y a _ u of
turned_of_rows y a from (Message entity v) u is of = absurd is
turned_of_rows y a from (Sync entity peer) u is of = absurd is

pub all_turned_of_rows : (y : Behaviour) (a from : ℕ) (es : List Event) (u : Turning) → AllByRecursion IsOfRow es
    → TellsOfRows u.plan.out → TellsOfRows (all_turned y a from es u).plan.out
all_turned_of_rows y a from [] u all of = of
all_turned_of_rows y a from (e ∷ es) u all of =
    all_turned_of_rows y a from es (turned_by y a from e u) all.1 (turned_of_rows y a from e u all.0 of)

-- ---- what is posted

pub quiet_posted : (from : ℕ) (out : Outbox) (t : TableState) → KeysAscend out → TellsOfRows out
    → told_to 0 out ≡ [] → AreQuiet t.actors → AreQuiet (posted from out t).actors
quiet_posted from out t ascend of none quiet = record {
  none = λ x found.
      let y = posted_to from 0 out t x ascend found in
      events_posted from (told_to 0 out) y.0.inbox x.inbox y.2
      ∙ ap (λ es. events_of y.0.inbox ++ es) none ∙ append-nil (events_of y.0.inbox) ∙ quiet.none y.0 y.1;
  of_rows = λ a x found.
      let y = posted_to from a out t x ascend found in
      subst (AllByRecursion IsOfRow) (sym (events_posted from (told_to a out) y.0.inbox x.inbox y.2))
      (all_append IsOfRow (events_of y.0.inbox) (told_to a out) (quiet.of_rows a y.0 y.1) (of a));
}
