-- What a system actor has got after events of a batch: its handles and those of the events to come still ascend, and
-- are still below the next one.
use Rattle.std.proofs.Common.{◌≡◌, ℕ, ◌<◌, List, [], ◌∷◌, ◌++◌, Bool, true, false, Option, Some, None, ◌⊎◌, inl}
use Rattle.std.proofs.Common.{refl, ap, arith, ◌∙◌, cond, Ordering, Less, Equal, Greater, inr}
use Rattle.std.proofs.Common.{if◌then◌else◌, nat_lt, append_assoc}
use Rattle.std.proofs.lemmas.List.{append-nil}
use Rattle.std.specs.BTreeMap.{is_at}
use Rattle.std.specs.List.{AllByRecursion}
use Rattle.std.specs.List.Sorted.{IsStrictlySortedBy}
use Rattle.std.specs.Map.{keys_of, values_of}
use Rattle.std.specs.Ordering.{nat_cmp, match_ordering}
use Rattle.pv_value.specs.Plain.{Plain}
use Rattle.ds_space.specs.Limits.{most_wanted_weight}
use Rattle.ds_space.specs.Spaces.{Rows, changed, has_row}
use Rattle.ds_space.specs.declared.space.SpaceEvent.TheVariants.{Add}
use Rattle.ds_space.specs.declared.space.Change.{Change}
use Rattle.ds_space.specs.declared.space.Change.TheVariants.{Left, Came}
use Rattle.ds_space.specs.declared.space.Fanned.{Fanned}
use Rattle.ac_table.specs.declared.batches.Event.{Event}
use Rattle.ac_table.specs.declared.batches.Event.TheVariants.{Assert, Retract, Message, Sync}
use Rattle.ac_table.specs.declared.batches.Batch.{Batch}
use Rattle.ac_table.specs.Lemmas.Lists.{cmp_above}
use Rattle.ps_schema.specs.declared.Definition.{Definition}
use Rattle.ac_world.specs.declared.aims.Aim.{Aim}
use Rattle.ac_world.specs.Behaviours.{Behaviour, fanned_weight}
use Rattle.ds_space.specs.Changes.{changes}
use Rattle.ac_world.specs.Turns.{Turning, came_at, changed_by, all_changed, with_rows, regot}
use Rattle.ac_world.specs.Turns.{taken_in, passed_on, turned_by, all_turned}
use Rattle.ac_world.specs.Worlds.{Deliveries, with_entry, without_entry, delivered, all_delivered}
use Rattle.hub_laws.specs.Standing.{took, took_all, events_of, at_object}
use Rattle.hub_laws.proofs.Kept.{made_by, made_in, IsLog}
use Rattle.hub_laws.proofs.Promised.{TurnLog, TurnBelow}
use Rattle.hub_laws.proofs.Moving.{made_in-append}

-- ---- what ascends still does with one number less, or with one entry more behind or one entry less

all_but_one : (P : ℕ → Type 0) (ks : List ℕ) (h : ℕ) (rest : List ℕ) → AllByRecursion P (ks ++ h ∷ rest)
    → AllByRecursion P (ks ++ rest)
all_but_one P [] h rest all = all.1
all_but_one P (k ∷ ks) h rest all = (all.0, all_but_one P ks h rest all.1)

ascend_but_one : (ks : List ℕ) (h : ℕ) (rest : List ℕ) → IsStrictlySortedBy nat_cmp (ks ++ h ∷ rest)
    → IsStrictlySortedBy nat_cmp (ks ++ rest)
unfolding IsStrictlySortedBy
ascend_but_one [] h rest s = s.1
ascend_but_one (k ∷ ks) h rest s =
    (all_but_one (λ j. nat_cmp k j ≡ Less) ks h rest s.0, ascend_but_one ks h rest s.1)

pub one_of_all : (P : ℕ → Type 0) (ks : List ℕ) (h : ℕ) (rest : List ℕ) → AllByRecursion P (ks ++ h ∷ rest) → P h
one_of_all P [] h rest all = all.0
one_of_all P (k ∷ ks) h rest all = one_of_all P ks h rest all.1

keys_with : {X : Type 0} (h : ℕ) (x : X) (es : List (ℕ × X)) (rest : List ℕ)
    → IsStrictlySortedBy nat_cmp (keys_of es ++ h ∷ rest)
    → keys_of (with_entry h x es) ++ rest ≡ keys_of es ++ h ∷ rest
unfolding IsStrictlySortedBy
keys_with h x [] rest s = refl
keys_with h x (e ∷ es) rest s =
    rw (cmp_above h e.0 (grind (arith, one_of_all (λ j. nat_cmp e.0 j ≡ Less) (keys_of es) h rest s.0)))
    (ap (λ t. e.0 ∷ t) (keys_with h x es rest s.1))

all_without_rest : {X : Type 0} (P : ℕ → Type 0) (h : ℕ) (es : List (ℕ × X)) (rest : List ℕ)
    → AllByRecursion P (keys_of es ++ rest) → AllByRecursion P (keys_of (without_entry h es) ++ rest)
all_without_rest P h [] rest all = all
all_without_rest {X = X} P h (e ∷ es) rest all = split (is_at (nat_cmp h) e.0) (all_without_rest P h es rest all.1)
  where
    split : (b : Bool) → AllByRecursion P (keys_of (without_entry h es) ++ rest)
        → AllByRecursion P (keys_of (cond b es (e ∷ without_entry h es)) ++ rest)
    split true less = all.1
    split false less = (all.0, less)

ascend_without_rest : {X : Type 0} (h : ℕ) (es : List (ℕ × X)) (rest : List ℕ)
    → IsStrictlySortedBy nat_cmp (keys_of es ++ rest)
    → IsStrictlySortedBy nat_cmp (keys_of (without_entry h es) ++ rest)
unfolding IsStrictlySortedBy
ascend_without_rest h [] rest s = s
ascend_without_rest {X = X} h (e ∷ es) rest s = split (is_at (nat_cmp h) e.0) (ascend_without_rest h es rest s.1)
  where
    split : (b : Bool) → IsStrictlySortedBy nat_cmp (keys_of (without_entry h es) ++ rest)
        → IsStrictlySortedBy nat_cmp (keys_of (cond b es (e ∷ without_entry h es)) ++ rest)
    split true less = s.1
    split false less = (all_without_rest (λ j. nat_cmp e.0 j ≡ Less) h es rest s.0, less)

all_with_rest : {X : Type 0} (P : ℕ → Type 0) (h : ℕ) (x : X) (es : List (ℕ × X)) (rest : List ℕ)
    → AllByRecursion P (keys_of es ++ h ∷ rest) → AllByRecursion P (keys_of (with_entry h x es) ++ rest)
all_with_rest P h x [] rest all = all
all_with_rest {X = X} P h x (e ∷ es) rest all = split (nat_cmp h e.0) (all_with_rest P h x es rest all.1)
  where
    split : (o : Ordering) → AllByRecursion P (keys_of (with_entry h x es) ++ rest)
        → AllByRecursion P
        (keys_of (match_ordering o ((h, x) ∷ e ∷ es) ((e.0, x) ∷ es) (e ∷ with_entry h x es)) ++ rest)
    split Less more = (one_of_all P (e.0 ∷ keys_of es) h rest all, all_but_one P (e.0 ∷ keys_of es) h rest all)
    split Equal more = all_but_one P (e.0 ∷ keys_of es) h rest all
    split Greater more = (all.0, more)

-- ---- what one event does to what a system actor has got

got-came_at : (a : ℕ) (g : Option Plain) (k : Plain) (aim : Option Aim) (t : Turning)
    → (came_at a g k aim t).resident.got ≡ t.resident.got
got-came_at a g k None t = refl
got-came_at a g k (Some aim) t = refl

got-changed_by : (y : Behaviour) (a : ℕ) (c : Change) (t : Turning) → (changed_by y a c t).resident.got ≡ t.resident.got
got-changed_by y a (Left k) t = refl
got-changed_by y a (Came k) t = got-came_at a (y.group k) k (y.aim k) t

got-all_changed : (y : Behaviour) (a : ℕ) (cs : List Change) (t : Turning)
    → (all_changed y a cs t).resident.got ≡ t.resident.got
got-all_changed y a [] t = refl
got-all_changed y a (c ∷ cs) t = got-all_changed y a cs (changed_by y a c t) ∙ got-changed_by y a c t

pub got-regot : (y : Behaviour) (a : ℕ) (rows : Rows) (t : Turning) → (regot y a rows t).resident.got ≡ rows
got-regot y a rows t =
    got-all_changed y a (changes (y.keys (values_of t.resident.got)) (y.keys (values_of rows))) (with_rows rows t)

-- an assertion that comes is got, or it is passed over
abbrev IsGotOrPassed : ℕ → Plain → Rows → Rows → Type 0
IsGotOrPassed h v old new = (new ≡ with_entry h v old) ⊎ (new ≡ old)

got-taken_in : (y : Behaviour) (a from h : ℕ) (v : Plain) (t : Turning)
    → IsGotOrPassed h v t.resident.got (taken_in y a from h v t).resident.got
got-taken_in y a from h v t =
    one_of (has_row h t.resident.got)
    (nat_lt most_wanted_weight (y.weight (values_of (changed t.resident.got (Add h v))))) _ _ refl
    (got-regot y a (with_entry h v t.resident.got) t)
  where
    one_of : (b c : Bool) (s u : Turning) → s.resident.got ≡ t.resident.got
        → u.resident.got ≡ with_entry h v t.resident.got
        → IsGotOrPassed h v t.resident.got (if b then t else if c then s else u).resident.got
    one_of true c s u passed got = inr refl
    one_of false true s u passed got = inr passed
    one_of false false s u passed got = inl got

got-passed_on : (ds : List Definition) (from : ℕ) (fs : List Fanned) (t : Turning)
    → (passed_on ds from fs t).resident.got ≡ t.resident.got
got-passed_on ds from fs t = one_of (nat_lt most_wanted_weight (fanned_weight fs)) _ _ refl refl
  where
    one_of : (b : Bool) (s u : Turning) → s.resident.got ≡ t.resident.got → u.resident.got ≡ t.resident.got
        → (if b then s else u).resident.got ≡ t.resident.got
    one_of true s u first second = first
    one_of false s u first second = second

-- ---- handles that ascend

pub log_turned_by : (y : Behaviour) (a from : ℕ) (e : Event) (t : Turning) (rest : List ℕ)
    → IsStrictlySortedBy nat_cmp (keys_of t.resident.got ++ (made_by e ++ rest))
    → IsStrictlySortedBy nat_cmp (keys_of (turned_by y a from e t).resident.got ++ rest)
log_turned_by y a from (Assert h entity v) t rest s = elim (got-taken_in y a from h v t) [
  | inl got ↦ rw (got, keys_with h v t.resident.got rest s) s
  | inr passed ↦ rw passed (ascend_but_one (keys_of t.resident.got) h rest s)
]
log_turned_by y a from (Retract h entity) t rest s =
    rw (got-regot y a (without_entry h t.resident.got) t) (ascend_without_rest h t.resident.got rest s)
log_turned_by y a from (Message entity v) t rest s =
    rw (got-passed_on y.schema from (y.fan (values_of t.resident.got) v) t) s
log_turned_by y a from (Sync entity peer) t rest s = s

log_all_turned : (y : Behaviour) (a from : ℕ) (t : Turning) (es : List Event) (rest : List ℕ)
    → IsStrictlySortedBy nat_cmp (keys_of t.resident.got ++ (made_in es ++ rest))
    → IsStrictlySortedBy nat_cmp (keys_of (all_turned y a from es t).resident.got ++ rest)
log_all_turned y a from t [] rest s = s
log_all_turned y a from t (e ∷ es) rest s =
    log_all_turned y a from (turned_by y a from e t) es rest
    (log_turned_by y a from e t (made_in es ++ rest) (rw (append_assoc (made_by e) (made_in es) rest) at s))

pub turn_log : (y : Behaviour) → TurnLog y
turn_log y a from u es rest s =
    log_all_turned y a from u es rest (rw (append_assoc (keys_of u.resident.got) (made_in es) rest) at s)

-- ---- what holds of each handle

all_turned_by : (y : Behaviour) (P : ℕ → Type 0) (a from : ℕ) (e : Event) (t : Turning) (rest : List ℕ)
    → AllByRecursion P (keys_of t.resident.got ++ (made_by e ++ rest))
    → AllByRecursion P (keys_of (turned_by y a from e t).resident.got ++ rest)
all_turned_by y P a from (Assert h entity v) t rest all = elim (got-taken_in y a from h v t) [
  | inl got ↦ rw got (all_with_rest P h v t.resident.got rest all)
  | inr passed ↦ rw passed (all_but_one P (keys_of t.resident.got) h rest all)
]
all_turned_by y P a from (Retract h entity) t rest all =
    rw (got-regot y a (without_entry h t.resident.got) t) (all_without_rest P h t.resident.got rest all)
all_turned_by y P a from (Message entity v) t rest all =
    rw (got-passed_on y.schema from (y.fan (values_of t.resident.got) v) t) all
all_turned_by y P a from (Sync entity peer) t rest all = all

all_all_turned : (y : Behaviour) (P : ℕ → Type 0) (a from : ℕ) (t : Turning) (es : List Event) (rest : List ℕ)
    → AllByRecursion P (keys_of t.resident.got ++ (made_in es ++ rest))
    → AllByRecursion P (keys_of (all_turned y a from es t).resident.got ++ rest)
all_all_turned y P a from t [] rest all = all
all_all_turned y P a from t (e ∷ es) rest all =
    all_all_turned y P a from (turned_by y a from e t) es rest
    (all_turned_by y P a from e t (made_in es ++ rest) (rw (append_assoc (made_by e) (made_in es) rest) at all))

pub turn_below : (y : Behaviour) → TurnBelow y
turn_below y a from next u es all =
    let at_end : AllByRecursion (λ h. h < next) (keys_of u.resident.got ++ (made_in es ++ []))
    = rw (append-nil (made_in es)) all
    in rw (append-nil (keys_of (all_turned y a from es u).resident.got)) at
    (all_all_turned y (λ h. h < next) a from u es [] at_end)

-- ---- an actor that keeps all that it is told

pub log_took : {X : Type 0} (f : ℕ → Plain → X) (e : Event) (got : List (ℕ × X)) (rest : List ℕ)
    → IsStrictlySortedBy nat_cmp (keys_of got ++ (made_by e ++ rest))
    → IsStrictlySortedBy nat_cmp (keys_of (took f e got) ++ rest)
log_took f (Assert h entity v) got rest s = rw (keys_with h (f entity v) got rest s) s
log_took f (Retract h entity) got rest s = ascend_without_rest h got rest s
log_took f (Message entity v) got rest s = s
log_took f (Sync entity peer) got rest s = s

pub log_took_all : {X : Type 0} (f : ℕ → Plain → X) (es : List Event) (got : List (ℕ × X)) (rest : List ℕ)
    → IsStrictlySortedBy nat_cmp (keys_of got ++ (made_in es ++ rest))
    → IsStrictlySortedBy nat_cmp (keys_of (took_all f es got) ++ rest)
log_took_all f [] got rest s = s
log_took_all f (e ∷ es) got rest s =
    log_took_all f es (took f e got) rest
    (log_took f e got (made_in es ++ rest) (rw (append_assoc (made_by e) (made_in es) rest) at s))

all_took : {X : Type 0} (P : ℕ → Type 0) (f : ℕ → Plain → X) (e : Event) (got : List (ℕ × X)) (rest : List ℕ)
    → AllByRecursion P (keys_of got ++ (made_by e ++ rest)) → AllByRecursion P (keys_of (took f e got) ++ rest)
all_took P f (Assert h entity v) got rest all = all_with_rest P h (f entity v) got rest all
all_took P f (Retract h entity) got rest all = all_without_rest P h got rest all
all_took P f (Message entity v) got rest all = all
all_took P f (Sync entity peer) got rest all = all

pub all_took_all : {X : Type 0} (P : ℕ → Type 0) (f : ℕ → Plain → X) (es : List Event) (got : List (ℕ × X))
    (rest : List ℕ)
    → AllByRecursion P (keys_of got ++ (made_in es ++ rest)) → AllByRecursion P (keys_of (took_all f es got) ++ rest)
all_took_all P f [] got rest all = all
all_took_all P f (e ∷ es) got rest all =
    all_took_all P f es (took f e got) rest
    (all_took P f e got (made_in es ++ rest) (rw (append_assoc (made_by e) (made_in es) rest) at all))

connection_took_one : (e : Event) (got : Deliveries) → delivered e got ≡ took at_object e got
connection_took_one (Assert h entity v) got = refl
connection_took_one (Retract h entity) got = refl
connection_took_one (Message entity v) got = refl
connection_took_one (Sync entity peer) got = refl

-- what was delivered to a connection is what it took
pub connection_took : (es : List Event) (got : Deliveries) → all_delivered es got ≡ took_all at_object es got
connection_took [] got = refl
connection_took (e ∷ es) got =
    ap (all_delivered es) (connection_took_one e got) ∙ connection_took es (took at_object e got)

-- ---- the logs after a batch

-- a system actor takes a batch from its inbox
pub system_log : (y : Behaviour) (a next : ℕ) (b : Batch) (rest : List Batch) (u : Turning)
    → IsLog next (keys_of u.resident.got) (b ∷ rest)
    → IsLog next (keys_of (all_turned y a b.from b.events u).resident.got) rest
system_log y a next b rest u log =
    let e : made_in (events_of (b ∷ rest)) ≡ made_in b.events ++ made_in (events_of rest)
    = made_in-append b.events (events_of rest)
    in (
      log_all_turned y a b.from u b.events (made_in (events_of rest)) (rw e at log.0),
      all_all_turned y (λ h. h < next) a b.from u b.events (made_in (events_of rest)) (rw e at log.1),
    )

-- another actor takes a batch from its own
pub connection_log : (next : ℕ) (b : Batch) (rest : List Batch) (got : Deliveries)
    → IsLog next (keys_of got) (b ∷ rest) → IsLog next (keys_of (all_delivered b.events got)) rest
connection_log next b rest got log =
    let e : made_in (events_of (b ∷ rest)) ≡ made_in b.events ++ made_in (events_of rest)
    = made_in-append b.events (events_of rest)
    in rw (connection_took b.events got) (
      log_took_all at_object b.events got (made_in (events_of rest)) (rw e at log.0),
      all_took_all (λ h. h < next) at_object b.events got (made_in (events_of rest)) (rw e at log.1),
    )
