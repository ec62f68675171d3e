-- What the parts of the proof of the laws promise one another.
use Rattle.std.proofs.Common.{◌≡◌, ◌≢◌, ℕ, ◌<◌, List, [], ◌∷◌, ◌++◌, true, false, Option, Some}
use Rattle.std.proofs.Common.{◌⊎◌}
use Rattle.std.specs.List.{AllByRecursion}
use Rattle.std.specs.List.Sorted.{IsStrictlySortedBy}
use Rattle.std.specs.Map.{keys_of}
use Rattle.std.specs.Ordering.{nat_cmp}
use Rattle.pv_value.specs.Plain.{Plain}
use Rattle.ds_space.specs.Spaces.{Rows}
use Rattle.ac_table.specs.declared.batches.Row.{Row}
use Rattle.ac_table.specs.declared.batches.Event.{Event}
use Rattle.ac_table.specs.declared.batches.Event.TheVariants.{Assert, Retract, Message, Sync}
use Rattle.ac_table.specs.declared.batches.Batch.{Batch}
use Rattle.ac_table.specs.Tables.{TableState, Actor, IsTable, find_actor, is_live, ended, rows_of}
use Rattle.ac_table.specs.Tables.{rows_of_others}
use Rattle.ac_world.specs.Outboxes.{Outbox, Plan, plan_over, put, dropped, said, told_to, posted, retractions}
use Rattle.ac_world.specs.Behaviours.{Behaviour}
use Rattle.ac_world.specs.declared.watched.Watched.{Watched}
use Rattle.ac_world.specs.Turns.{Turning, regot, all_turned}
use Rattle.ac_world.specs.Lemmas.Entries.{KeysAscend}
use Rattle.hub_laws.specs.Standing.{took_all, value_alone}
use Rattle.hub_laws.specs.Wanting.{IsMet}
use Rattle.hub_laws.proofs.Kept.{made_in, IsNear, Reaches, IsGood, IsLawful, FitsEvent, Moves, AreGood, Runs}
use Rattle.hub_laws.proofs.Kept.{IsServedBy}

-- ---- lists

abbrev pub TookAllAppend : Type 1
TookAllAppend =
    (X : Type 0) (f : ℕ → Plain → X) (es ds : List Event) (got : List (ℕ × X))
    → took_all f (es ++ ds) got ≡ took_all f ds (took_all f es got)

abbrev pub NearTook : Type 1
NearTook =
    (X : Type 0) (f : ℕ → Plain → X) (ends : List ℕ) (rows : List Row) (es : List Event) (should kept : List (ℕ × X))
    → IsNear ends rows should kept → IsNear ends rows (took_all f es should) (took_all f es kept)

-- ---- plans

abbrev pub IsSaid : Event → Type 0
IsSaid (Assert h entity v) = ⊥
IsSaid (Retract h entity) = ⊥
IsSaid (Message entity v) = Unit {0}
IsSaid (Sync entity peer) = Unit {0}

abbrev pub BeginMoves : Type 1
BeginMoves = (a : ℕ) (t : TableState) → IsTable t → Moves a t (plan_over t)

abbrev pub PutMoves : Type 1
PutMoves =
    (a : ℕ) (t : TableState) (p : Plan) → Moves a t p → is_live a t ≡ true → (facet target entity : ℕ) (v : Plain)
    → Moves a t (put a facet target entity v p)

abbrev pub DroppedMoves : Type 1
DroppedMoves = (a : ℕ) (t : TableState) (p : Plan) → Moves a t p → (h : ℕ) → Moves a t (dropped a h p)

abbrev pub SaidMoves : Type 1
SaidMoves =
    (a : ℕ) (t : TableState) (p : Plan) → Moves a t p → (target : ℕ) (e : Event) → IsSaid e → Moves a t
    (said target e p)

abbrev pub BeginGood : Type 0
BeginGood = (a : ℕ) (t : TableState) → AllByRecursion IsGood t.rows → AreGood a (plan_over t)

abbrev pub PutGood : Type 1
PutGood =
    (a : ℕ) (t : TableState) (p : Plan) → Moves a t p → AreGood a p → (facet target entity : ℕ) (v : Plain)
    → Reaches a target → AreGood a (put a facet target entity v p)

abbrev pub DroppedGood : Type 1
DroppedGood =
    (a : ℕ) (t : TableState) (p : Plan) → Moves a t p → AreGood a p → (h : ℕ) → AreGood a (dropped a h p)

abbrev pub SaidGood : Type 0
SaidGood = (a : ℕ) (p : Plan) → AreGood a p → (target : ℕ) (e : Event) → IsSaid e → AreGood a (said target e p)

-- ---- what is posted

-- an inbox after the events for its actor were posted, if any
abbrev pub IsPostedTo : ℕ → List Event → List Batch → List Batch → Type 0
IsPostedTo from es old new =
    ((new ≡ old) × (es ≡ [])) ⊎ (new ≡ old ++ record { from = from; events = es } ∷ [])

abbrev pub PostedTo : Type 0
PostedTo =
    (from b : ℕ) (out : Outbox) (t : TableState) (x : Actor) → KeysAscend out
    → find_actor b (posted from out t).actors ≡ Some x
    → (y : Actor) × (find_actor b t.actors ≡ Some y) × IsPostedTo from (told_to b out) y.inbox x.inbox

abbrev pub PostedTable : Type 0
PostedTable =
    (from : ℕ) (out : Outbox) (t : TableState)
    → ((posted from out t).rows ≡ t.rows) × ((posted from out t).next ≡ t.next)
    × ((b : ℕ) → is_live b (posted from out t) ≡ is_live b t) × (IsTable t → IsTable (posted from out t))

-- who was served before a plan is served after it
abbrev pub ServedAfter : Type 1
ServedAfter =
    (X : Type 0) (f : ℕ → Plain → X) (ends : List ℕ) (a b : ℕ) (t : TableState) (p : Plan) (got : List (ℕ × X))
    (old new : List Batch) → IsTable t → Moves a t p → AreGood a p → IsServedBy f ends t.rows t.next b got old
    → IsPostedTo a (told_to b p.out) old new → IsServedBy f ends p.table.rows p.table.next b got new

-- and after the ending of actor a
abbrev pub ServedAfterEnd : Type 1
ServedAfterEnd =
    (X : Type 0) (f : ℕ → Plain → X) (ends : List ℕ) (a b : ℕ) (t : TableState) (got : List (ℕ × X))
    (old new : List Batch) → IsTable t → AllByRecursion IsGood t.rows → IsServedBy f ends t.rows t.next b got old
    → IsPostedTo a (told_to b (retractions (rows_of a t.rows) [])) old new
    → IsServedBy f ends (rows_of_others a t.rows) t.next b got new

abbrev pub RetractionsAscend : Type 0
RetractionsAscend = (a : ℕ) (rows : List Row) → KeysAscend (retractions (rows_of a rows) [])

abbrev pub EndedTable : Type 0
EndedTable =
    (a : ℕ) (t : TableState) → IsTable t → IsTable (ended a t) × (is_live a (ended a t) ≡ false)
    × ((b : ℕ) → b ≢ a → is_live b (ended a t) ≡ is_live b t)

-- ---- wants

-- a system actor's rows follow its wants
abbrev pub RegotMet : Behaviour → Type 1
RegotMet y =
    (o : Option Watched) (a : ℕ) → IsLawful y a → (t : TableState) (u : Turning) (rows : Rows) → is_live a t ≡ true
    → Moves a t u.plan → AreGood a u.plan → IsMet y o a u.resident u.plan.table.rows
    → Moves a t (regot y a rows u).plan × AreGood a (regot y a rows u).plan
    × IsMet y o a (regot y a rows u).resident (regot y a rows u).plan.table.rows
    × ((regot y a rows u).resident.got ≡ rows) × ((regot y a rows u).spreads ≡ u.spreads)

-- ---- a system actor's turn

abbrev pub TurnRuns : Behaviour → Type 1
TurnRuns y =
    (o : Option Watched) (a : ℕ) → IsLawful y a → (from : ℕ) (t : TableState) (full : Rows) (u : Turning)
    (es : List Event) → IsTable t → is_live a t ≡ true → AllByRecursion IsGood t.rows
    → AllByRecursion (FitsEvent t.rows a from) es
    → IsStrictlySortedBy nat_cmp (keys_of u.resident.got ++ made_in es)
    → Runs y o a t full u → Runs y o a t (took_all value_alone es full) (all_turned y a from es u)

-- the handles got are some of those that were got and came
abbrev pub TurnLog : Behaviour → Type 0
TurnLog y =
    (a from : ℕ) (u : Turning) (es : List Event) (rest : List ℕ)
    → IsStrictlySortedBy nat_cmp (keys_of u.resident.got ++ made_in es ++ rest)
    → IsStrictlySortedBy nat_cmp (keys_of (all_turned y a from es u).resident.got ++ rest)

abbrev pub TurnBelow : Behaviour → Type 0
TurnBelow y =
    (a from next : ℕ) (u : Turning) (es : List Event)
    → AllByRecursion (λ h. h < next) (keys_of u.resident.got ++ made_in es)
    → AllByRecursion (λ h. h < next) (keys_of (all_turned y a from es u).resident.got)
