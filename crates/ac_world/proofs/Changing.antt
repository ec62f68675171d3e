-- A system actor's turn, one change and one event at a time; and an event that the actor has done.
use Rattle.std.proofs.Common.{◌≡◌, ◌<◌, ◌≤◌, ℕ, List, [], ◌∷◌, ◌++◌, true, false, cond, nat_lt, refl, ap, sym, ◌∙◌}
use Rattle.std.proofs.Common.{arith, if◌then◌else◌, Result, Ok, Err, OnOk, Option, Some, None, Vec, Global}
use Rattle.std.proofs.lemmas.Bool.Decides.{nat_tests}
use Rattle.std.specs.Map.{values_of}
use Rattle.ac_table.specs.declared.batches.Event.{Event}
use Rattle.ds_space.specs.Limits.{most_wanted_weight}
use Rattle.ds_space.specs.Changes.{changes}
use Rattle.ds_space.specs.Spaces.{Rows, changed, Fits, IsOver}
use Rattle.ds_space.specs.declared.space.SpaceEvent.{SpaceEvent}
use Rattle.ds_space.specs.declared.space.SpaceEvent.TheVariants.{Add, Gone}
use Rattle.ds_space.specs.declared.space.Change.{Change}
use Rattle.ds_space.specs.declared.space.Change.TheVariants.{Left, Came}
use Rattle.ds_space.specs.declared.space.Applied.TheVariants.{Done, Over}
use Rattle.ac_world.specs.declared.aims.Aim.{Aim}
use Rattle.ac_world.specs.declared.residents.Resident.{Resident as ResidentBy}
use Rattle.ac_world.specs.Behaviours.{Behaviour, fanned_weight}
use Rattle.ac_world.specs.Keeping.{TurningBy, turning, turning_by, TurnsBy, Stands, GoesOn}
use Rattle.ac_world.specs.Staying.{Lasting}
use Rattle.ac_world.specs.Systems.{IsAppliedBy}
use Rattle.ac_world.specs.Turns.{Turning, changed_by, all_changed, with_rows, regot, spreading, by_assertion, applied}
use Rattle.ac_world.specs.Turns.{came_at, turned_by, all_turned, say_all, by_message, passes_on}
use Rattle.ac_world.specs.Outboxes.{Plan}
use Rattle.ac_world.specs.declared.spreads.Spread.{Spread}
use Rattle.ds_space.specs.declared.space.Fanned.{Fanned}
use Rattle.pv_value.specs.Plain.{Plain}
use Rattle.ps_schema.specs.declared.Definition.{Definition}

-- ---- one part of a turn after another

pub turns_then : {S : Type 0} (rows_of : S → Rows) (behaviour : S → Behaviour) (t u v : TurningBy S)
    (f g h : Behaviour → Turning → Turning) → ((y : Behaviour) (x : Turning) → h y x ≡ g y (f y x))
    → TurnsBy rows_of behaviour t f u → TurnsBy rows_of behaviour u g v → TurnsBy rows_of behaviour t h v
turns_then rows_of behaviour t u v f g h both first later = (
  later.0 ∙ (λ i. g (first.1 i) (first.0 i)) ∙ sym (both (behaviour t.resident.system) (turning_by rows_of t)),
  later.1 ∙ first.1,
)

pub turns_not : {S : Type 0} (rows_of : S → Rows) (behaviour : S → Behaviour) (t : TurningBy S)
    → TurnsBy rows_of behaviour t (λ y x. x) t
turns_not rows_of behaviour t = (refl, refl)

-- what a call says of its turn and of the behaviour, where it comes to an end
pub turns_on : {S : Type 0} {X E : Type 0} (rows_of : S → Rows) (behaviour : S → Behaviour) (t u : TurningBy S)
    (f : Behaviour → Turning → Turning) (r : Result X E)
    → OnOk r (turning_by rows_of u ≡ f (behaviour t.resident.system) (turning_by rows_of t))
    → OnOk r (u.resident.system ≡ t.resident.system) → OnOk r (TurnsBy rows_of behaviour t f u)
turns_on rows_of behaviour t u f (Ok x) turns same = (turns, ap behaviour same)
turns_on rows_of behaviour t u f (Err e) turns same = tt

-- ---- an actor goes on, and stands

pub goes_not : {S : Type 0} (rows_of : S → Rows) (behaviour : S → Behaviour) (lasting : S → Lasting) (a : ℕ)
    (t : TurningBy S) → Stands a (turning_by rows_of t) → GoesOn rows_of behaviour lasting a t (λ y x. x) t
goes_not rows_of behaviour lasting a t s = record { stands = s; turns = (refl, refl); lasts = refl }

-- by what is the same of where it begins
pub goes_as : {S : Type 0} (rows_of : S → Rows) (behaviour : S → Behaviour) (lasting : S → Lasting) (a : ℕ)
    (t u : TurningBy S) (f g : Behaviour → Turning → Turning)
    → f (behaviour t.resident.system) (turning_by rows_of t) ≡ g (behaviour t.resident.system) (turning_by rows_of t)
    → GoesOn rows_of behaviour lasting a t f u → GoesOn rows_of behaviour lasting a t g u
goes_as rows_of behaviour lasting a t u f g same goes =
    record { stands = goes.stands; turns = (goes.turns.0 ∙ same, goes.turns.1); lasts = goes.lasts }

pub goes_then : {S : Type 0} (rows_of : S → Rows) (behaviour : S → Behaviour) (lasting : S → Lasting) (a : ℕ)
    (t u v : TurningBy S) (f g h : Behaviour → Turning → Turning)
    → ((y : Behaviour) (x : Turning) → h y x ≡ g y (f y x)) → GoesOn rows_of behaviour lasting a t f u
    → GoesOn rows_of behaviour lasting a u g v → GoesOn rows_of behaviour lasting a t h v
goes_then rows_of behaviour lasting a t u v f g h both first later = record {
  stands = later.stands;
  turns = turns_then rows_of behaviour t u v f g h both first.turns later.turns;
  lasts = later.lasts ∙ first.lasts;
}

-- what a call says of an actor that is kept as it is, where it comes to an end
pub goes_on : {S : Type 0} {X E : Type 0} (rows_of : S → Rows) (behaviour : S → Behaviour) (lasting : S → Lasting)
    (a : ℕ) (t u : TurningBy S) (f : Behaviour → Turning → Turning) (r : Result X E)
    → OnOk r (Stands a (turning_by rows_of u))
    → OnOk r (turning_by rows_of u ≡ f (behaviour t.resident.system) (turning_by rows_of t))
    → OnOk r (u.resident.system ≡ t.resident.system) → OnOk r (GoesOn rows_of behaviour lasting a t f u)
goes_on rows_of behaviour lasting a t u f (Ok x) stands turns same =
    record { stands = stands; turns = (turns, ap behaviour same); lasts = ap lasting same }
goes_on rows_of behaviour lasting a t u f (Err e) stands turns same = tt

-- ---- who spread so far is nothing to a change

unspread : (y : Behaviour) (a : ℕ) (c : Change) (t : Turning) (ss : List Spread)
    → record (changed_by y a c t) { spreads = ss } ≡ changed_by y a c (record t { spreads = ss })
unspread y a (Left k) t ss = refl
unspread y a (Came k) t ss = by (y.aim k)
  where
    by : (o : Option Aim) → record (came_at a (y.group k) k o t) { spreads = ss }
        ≡ came_at a (y.group k) k o (record t { spreads = ss })
    by None = refl
    by (Some aim) = refl

all_unspread : (y : Behaviour) (a : ℕ) (cs : List Change) (t : Turning) (ss : List Spread)
    → record (all_changed y a cs t) { spreads = ss } ≡ all_changed y a cs (record t { spreads = ss })
all_unspread y a [] t ss = refl
all_unspread y a (c ∷ cs) t ss =
    all_unspread y a cs (changed_by y a c t) ss ∙ ap (all_changed y a cs) (unspread y a c t ss)

-- ---- one more change

pub all_changed-push : (y : Behaviour) (a : ℕ) (cs : List Change) (c : Change) (t : Turning)
    → all_changed y a (cs ++ c ∷ []) t ≡ changed_by y a c (all_changed y a cs t)
all_changed-push y a [] c t = refl
all_changed-push y a (x ∷ xs) c t = all_changed-push y a xs c (changed_by y a x t)

-- ---- one more event

pub all_turned-push : (y : Behaviour) (a from : ℕ) (es : List Event) (e : Event) (t : Turning)
    → all_turned y a from (es ++ e ∷ []) t ≡ turned_by y a from e (all_turned y a from es t)
all_turned-push y a from [] e t = refl
all_turned-push y a from (x ∷ xs) e t = all_turned-push y a from xs e (turned_by y a from x t)

-- ---- an event that the actor has done

not_above : (n m : ℕ) → m ≤ n → nat_lt n m ≡ false
not_above n m h = grind (arith, nat_tests)

is_above : (n m : ℕ) → n < m → nat_lt n m ≡ true
is_above n m h = grind (arith, nat_tests)

regot-fits : (y : Behaviour) (a from : ℕ) (e : SpaceEvent) (t : Turning)
    → Fits y.weight (values_of (changed t.resident.got e)) e
    → regot y a (changed t.resident.got e) t ≡ applied y a from e t
regot-fits y a from (Add h v) t fits =
    sym (ap (λ b. cond b
    (spreading (by_assertion t.plan.table a from (y.weight (values_of (changed t.resident.got (Add h v))))) t)
    (regot y a (changed t.resident.got (Add h v)) t)) (not_above _ _ fits))
regot-fits y a from (Gone h) t fits = refl

-- its rows are those after the event, and its changes are what the turn does
pub applied-done : (y : Behaviour) (a from : ℕ) (e : SpaceEvent) (t : Turning) (rows : Rows) (cs : List Change)
    → rows ≡ changed t.resident.got e
    → cs ≡ changes (y.keys (values_of t.resident.got)) (y.keys (values_of (changed t.resident.got e)))
    → Fits y.weight (values_of (changed t.resident.got e)) e
    → all_changed y a cs (with_rows rows t) ≡ applied y a from e t
applied-done y a from e t rows cs is are fits =
    ap (λ r. all_changed y a cs (with_rows r t)) is
    ∙ ap (λ ds. all_changed y a ds (with_rows (changed t.resident.got e) t)) are
    ∙ regot-fits y a from e t fits

-- or it is passed over
pub applied-over : (y : Behaviour) (a from : ℕ) (e : SpaceEvent) (t : Turning) (w : ℕ)
    → IsOver y.weight (values_of (changed t.resident.got e)) e w
    → spreading (by_assertion t.plan.table a from w) t ≡ applied y a from e t
applied-over y a from (Add h v) t w over =
    let weight : ℕ = y.weight (values_of (changed t.resident.got (Add h v))) in
    ap (λ n. spreading (by_assertion t.plan.table a from n) t) over.1
    ∙ sym (ap (λ b. cond b (spreading (by_assertion t.plan.table a from weight) t)
    (regot y a (changed t.resident.got (Add h v)) t))
    (ap (nat_lt most_wanted_weight) (sym over.1) ∙ is_above _ _ over.0))
applied-over y a from (Gone h) t w over = absurd over

-- the actor after the event, and its changes
pub goes_done : {S : Type 0} (rows_of : S → Rows) (behaviour : S → Behaviour) (lasting : S → Lasting) (a from : ℕ)
    (e : SpaceEvent) (s : S) (cs : Vec Change Global) (r new : ResidentBy S) (p after : Plan) (ss : List Spread)
    → IsAppliedBy rows_of behaviour (behaviour r.system) (rows_of r.system) e (Done s cs)
    → lasting s ≡ lasting r.system
    → GoesOn rows_of behaviour lasting a (turning (record r { system = s }) p []) (λ y. all_changed y a cs.items)
    (turning new after [])
    → GoesOn rows_of behaviour lasting a (turning r p ss) (λ y. applied y a from e) (turning new after ss)
goes_done rows_of behaviour lasting a from e s cs r new p after ss told stays goes =
    let t : Turning = turning_by rows_of (turning r p ss) in
    let y : Behaviour = behaviour r.system in
    let none : Turning = turning_by rows_of (turning (record r { system = s }) p []) in
    record {
      stands = record { live = goes.stands.live; rooted = goes.stands.rooted; own_facets = goes.stands.own_facets };
      turns = (
        ap (λ (u : Turning). record u { spreads = ss }) goes.turns.0
            ∙ all_unspread (behaviour s) a cs.items none ss
            ∙ ap (λ (z : Behaviour). all_changed z a cs.items (with_rows (rows_of s) t)) told.1
            ∙ applied-done y a from e t (rows_of s) cs.items told.0 told.2 told.3,
        goes.turns.1 ∙ told.1,
      );
      lasts = goes.lasts ∙ stays;
    }

-- or the actor as before, and one more that spread
pub goes_over : {S : Type 0} (rows_of : S → Rows) (behaviour : S → Behaviour) (lasting : S → Lasting) (a from : ℕ)
    (e : SpaceEvent) (s : S) (w : ℕ) (r : ResidentBy S) (p : Plan) (ss new : List Spread)
    → IsAppliedBy rows_of behaviour (behaviour r.system) (rows_of r.system) e (Over s w)
    → lasting s ≡ lasting r.system → new ≡ by_assertion p.table a from w ss
    → Stands a (turning_by rows_of (turning r p ss))
    → GoesOn rows_of behaviour lasting a (turning r p ss) (λ y. applied y a from e)
    (turning (record r { system = s }) p new)
goes_over rows_of behaviour lasting a from e s w r p ss new told stays is stands =
    let t : Turning = turning_by rows_of (turning r p ss) in
    record {
      stands = record { live = stands.live; rooted = stands.rooted; own_facets = stands.own_facets };
      turns = (
        (λ i. record {
          resident = record { got = told.0 i; handles = t.resident.handles; facets = t.resident.facets };
          plan = p;
          spreads = is i;
        })
            ∙ applied-over (behaviour r.system) a from e t w told.2,
        told.1,
      );
      lasts = stays;
    }

-- ---- a message

-- it goes to each to whom the actor passes it on
pub passes_each : (y : Behaviour) (ds : List Definition) (from : ℕ) (m : Plain) (t : Turning) (list : List Fanned)
    (new : Plan) → y.schema ≡ ds → list ≡ y.fan (values_of t.resident.got) m
    → fanned_weight (y.fan (values_of t.resident.got) m) ≤ most_wanted_weight → new ≡ say_all ds list t.plan
    → record t { plan = new } ≡ passes_on y from m t
passes_each y ds from m t list new judged same light is =
    let few : nat_lt most_wanted_weight (fanned_weight (y.fan (values_of t.resident.got) m)) ≡ false =
    grind (arith, nat_tests, light) in
    (λ i. record t { plan = (is ∙ (λ j. say_all (sym judged j) (same j) t.plan)) i })
    ∙ ap (λ b. if b then spreading (by_message t.plan.table from (fanned_weight (y.fan (values_of t.resident.got) m))) t
    else record t { plan = say_all y.schema (y.fan (values_of t.resident.got) m) t.plan }) (sym few)

-- or it would be too much
pub passes_none : (y : Behaviour) (from : ℕ) (m : Plain) (t : Turning) (weight : ℕ) (new : List Spread)
    → most_wanted_weight < weight → weight ≡ fanned_weight (y.fan (values_of t.resident.got) m)
    → new ≡ by_message t.plan.table from weight t.spreads → record t { spreads = new } ≡ passes_on y from m t
passes_none y from m t weight new heavy same is =
    let much : nat_lt most_wanted_weight (fanned_weight (y.fan (values_of t.resident.got) m)) ≡ true =
    grind (arith, nat_tests, heavy, same) in
    (λ i. record t { spreads = (is ∙ ap (λ n. by_message t.plan.table from n t.spreads) same) i })
    ∙ ap (λ b. if b then spreading (by_message t.plan.table from (fanned_weight (y.fan (values_of t.resident.got) m))) t
    else record t { plan = say_all y.schema (y.fan (values_of t.resident.got) m) t.plan }) (sym much)
