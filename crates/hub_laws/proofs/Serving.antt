-- Who was served before a plan is served after its events are posted, and after a batch is taken.
use Rattle.std.proofs.Common.{◌≡◌, ℕ, ◌<◌, ◌≤◌, List, [], ◌∷◌, ◌++◌, false, Option, Some, None}
use Rattle.std.proofs.Common.{◌⊎◌, inl, inr, refl, ap, sym, ◌∙◌, subst, arith, append-nil, append_assoc}
use Rattle.std.specs.List.{AllByRecursion}
use Rattle.std.specs.List.Sorted.{IsStrictlySortedBy}
use Rattle.std.specs.Map.{keys_of}
use Rattle.std.specs.Ordering.{nat_cmp}
use Rattle.std.proofs.lemmas.Bool.Decides.{nat_tests}
use Rattle.std.proofs.lemmas.Grind.{flat_map-append}
use Rattle.std.proofs.lemmas.Map.Keys.{sorted_head, sorted_tail}
use Rattle.pv_value.specs.Plain.{Plain}
use Rattle.ac_table.specs.declared.batches.Row.{Row}
use Rattle.ac_table.specs.declared.batches.Event.{Event}
use Rattle.ac_table.specs.declared.batches.Event.TheVariants.{Assert, Retract, Message, Sync}
use Rattle.ac_table.specs.declared.batches.Batch.{Batch}
use Rattle.ac_table.specs.Tables.{TableState, IsTable, find_row, handles}
use Rattle.ac_table.specs.Lemmas.Lists.{all_weaker}
use Rattle.ac_world.specs.Outboxes.{Plan, told_to}
use Rattle.ac_world.specs.Worlds.{entry_of}
use Rattle.ac_world.specs.Lemmas.Entries.{all_append, ascend_cons}
use Rattle.hub_laws.specs.Standing.{stands, took_all, events_of}
use Rattle.hub_laws.proofs.Kept.{made_by, made_in, IsLog, is_in, IsExcused, IsNear, IsOwnedBy, FitsEvent, FitsBatch}
use Rattle.hub_laws.proofs.Kept.{IsServedBy, Moves}
use Rattle.hub_laws.proofs.Promised.{IsPostedTo, ServedAfter}
use Rattle.hub_laws.proofs.Finding.{find_row-below}
use Rattle.hub_laws.proofs.Logs.{log_took_all, all_took_all}
use Rattle.hub_laws.proofs.Moving.{made_in-append}
use Rattle.hub_laws.proofs.Lists.{took_all_append, near_took, kept_of}
use Rattle.hub_laws.proofs.Lists.{entry_of-stands}

-- ---- lists that are joined

pub all_before : {X : Type 0} (P : X → Type 0) (xs ys : List X) → AllByRecursion P (xs ++ ys) → AllByRecursion P xs
all_before P [] ys a = tt
all_before P (x ∷ xs) ys a = (a.0, all_before P xs ys a.1)

pub all_behind : {X : Type 0} (P : X → Type 0) (xs ys : List X) → AllByRecursion P (xs ++ ys) → AllByRecursion P ys
all_behind P [] ys a = a
all_behind P (x ∷ xs) ys a = all_behind P xs ys a.1

pub events_of_push : (bs : List Batch) (b : Batch) → events_of (bs ++ b ∷ []) ≡ events_of bs ++ b.events
events_of_push bs b =
    flat_map-append (λ (b : Batch). b.events) bs (b ∷ []) ∙ ap (λ es. events_of bs ++ es) (append-nil b.events)

pub events_posted : (from : ℕ) (es : List Event) (old new : List Batch) → IsPostedTo from es old new
    → events_of new ≡ events_of old ++ es
events_posted from es old new (inl p) =
    ap events_of p.0 ∙ sym (ap (λ ds. events_of old ++ ds) p.1 ∙ append-nil (events_of old))
events_posted from es old new (inr p) = ap events_of p ∙ events_of_push old (record { from = from; events = es })

-- numbers below n ascend, and behind them others that aren't
pub ascend_append : (n : ℕ) (xs ys : List ℕ) → IsStrictlySortedBy nat_cmp xs → AllByRecursion (λ h. h < n) xs
    → IsStrictlySortedBy nat_cmp ys → AllByRecursion (λ h. n ≤ h) ys → IsStrictlySortedBy nat_cmp (xs ++ ys)
ascend_append n [] ys s below t above = t
ascend_append n (x ∷ xs) ys s below t above =
    ascend_cons x _
    (all_append _ xs ys (sorted_head nat_cmp _ _ s)
    (all_weaker _ _ (λ h l. let lower : x < n = below.0 in grind (arith, nat_tests)) ys above))
    (ascend_append n xs ys (sorted_tail nat_cmp _ _ s) below.1 t above)

-- ---- rows change

-- a row that stands now stood before, or is new
abbrev pub Follows : ℕ → List Row → List Row → Type 0
Follows next old new = (h : ℕ) (r : Row) → find_row h new ≡ Some r → (find_row h old ≡ Some r) ⊎ (next ≤ h)

stands_none : {X : Type 0} (f : ℕ → Plain → X) (b next h : ℕ) (rows : List Row)
    → IsStrictlySortedBy nat_cmp (handles rows) → AllByRecursion (λ r. r.handle < next) rows → next ≤ h
    → entry_of h (stands f b rows) ≡ None
stands_none f b next h rows s below l =
    entry_of-stands f b h rows s ∙ ap (kept_of f b) (find_row-below h next rows below l)

-- what is excused stays so
near_follows : {X : Type 0} (ends : List ℕ) (next : ℕ) (old new : List Row) (should kept : List (ℕ × X))
    → Follows next old new → ((h : ℕ) → next ≤ h → entry_of h should ≡ None)
    → IsNear ends old should kept → IsNear ends new should kept
near_follows ends next old new should kept follows none k = record {
  should_ascends = k.should_ascends;
  kept_ascends = k.kept_ascends;
  near = λ h. at h (k.near h);
}
  where
    by_row : (h : ℕ) → entry_of h kept ≡ None → IsExcused ends (find_row h old) → (o : Option Row) → find_row h new ≡ o
        → (entry_of h kept ≡ entry_of h should) ⊎ ((entry_of h kept ≡ None) × IsExcused ends (find_row h new))
    by_row h gone excused None is = inr (gone, rw is tt)
    by_row h gone excused (Some r) is = split (follows h r is)
      where
        split : (find_row h old ≡ Some r) ⊎ (next ≤ h)
            → (entry_of h kept ≡ entry_of h should) ⊎ ((entry_of h kept ≡ None) × IsExcused ends (find_row h new))
        split (inl was) = inr (gone, rw is (rw was at excused))
        split (inr l) = inl (gone ∙ sym (none h l))

    at : (h : ℕ)
        → (entry_of h kept ≡ entry_of h should) ⊎ ((entry_of h kept ≡ None) × IsExcused ends (find_row h old))
        → (entry_of h kept ≡ entry_of h should) ⊎ ((entry_of h kept ≡ None) × IsExcused ends (find_row h new))
    at h (inl same) = inl same
    at h (inr out) = by_row h out.0 out.1 (find_row h new) refl

-- events that fit still do
module _ (b next : ℕ) (old new : List Row) (follows : Follows next old new) where
  owned_follows : (from h : ℕ) → h < next → IsOwnedBy from b (find_row h old) → (o : Option Row) → find_row h new ≡ o
      → IsOwnedBy from b (find_row h new)
  owned_follows from h below owned None is = rw is tt
  owned_follows from h below owned (Some r) is = split (follows h r is)
    where
      split : (find_row h old ≡ Some r) ⊎ (next ≤ h) → IsOwnedBy from b (find_row h new)
      split (inl was) = rw is (rw was at owned)
      split (inr l) = absurd (omega arith)

  event_follows : (from : ℕ) (e : Event) → AllByRecursion (λ h. h < next) (made_by e) → FitsEvent old b from e
      → FitsEvent new b from e
  event_follows from (Assert h entity v) below fits =
      (owned_follows from h below.0 fits.0 (find_row h new) refl, fits.1)
  event_follows from (Retract h entity) below fits = fits
  event_follows from (Message entity v) below fits = tt
  event_follows from (Sync entity peer) below fits = tt

  events_follow : (from : ℕ) (es : List Event) → AllByRecursion (λ h. h < next) (made_in es)
      → AllByRecursion (FitsEvent old b from) es → AllByRecursion (FitsEvent new b from) es
  events_follow from [] below fits = tt
  events_follow from (e ∷ es) below fits = (
    event_follows from e (all_before _ (made_by e) (made_in es) below) fits.0,
    events_follow from es (all_behind _ (made_by e) (made_in es) below) fits.1,
  )

  batches_follow : (bs : List Batch) → AllByRecursion (λ h. h < next) (made_in (events_of bs))
      → AllByRecursion (FitsBatch old b) bs → AllByRecursion (FitsBatch new b) bs
  batches_follow [] below fits = tt
  batches_follow (x ∷ xs) below fits =
      let all : AllByRecursion (λ h. h < next) (made_in x.events ++ made_in (events_of xs)) =
      rw (made_in-append x.events (events_of xs)) at below in (
        events_follow x.from x.events (all_before _ (made_in x.events) _ all) fits.0,
        batches_follow xs (all_behind _ (made_in x.events) _ all) fits.1,
      )

-- ---- events are posted

-- what an actor is told leads from what stood at it to what stands at it
pub record Leads {X : Type 0} (f : ℕ → Plain → X) (a b next later : ℕ) (old new : List Row) (es : List Event)
    : Type 0 where
  pub ascend : IsStrictlySortedBy nat_cmp (handles old)
  pub below : AllByRecursion (λ r. r.handle < next) old
  pub rises : next ≤ later
  pub follows : Follows next old new
  pub moved : took_all f es (stands f b old) ≡ stands f b new
  pub made_ascend : IsStrictlySortedBy nat_cmp (made_in es)
  pub made_new : AllByRecursion (λ h. (next ≤ h) × (h < later)) (made_in es)
  pub fits : AllByRecursion (FitsEvent new b a) es

pub log_posted : (next later : ℕ) (got : List ℕ) (es : List Event) (old new : List Batch) → next ≤ later
    → events_of new ≡ events_of old ++ es → IsStrictlySortedBy nat_cmp (made_in es)
    → AllByRecursion (λ h. (next ≤ h) × (h < later)) (made_in es) → IsLog next got old → IsLog later got new
log_posted next later got es old new l is s m log =
    let all : got ++ made_in (events_of new) ≡ (got ++ made_in (events_of old)) ++ made_in es =
    ap (λ ds. got ++ made_in ds) is ∙ ap (λ hs. got ++ hs) (made_in-append (events_of old) es)
    ∙ sym (append_assoc got (made_in (events_of old)) (made_in es)) in (
      rw all (ascend_append next _ _ log.0 log.1 s (all_weaker _ _ (λ h p. p.0) (made_in es) m)),
      rw all (all_append _ (got ++ made_in (events_of old)) (made_in es)
          (all_weaker _ _ (λ h p. omega (arith, p, l)) _ log.1) (all_weaker _ _ (λ h p. p.1) (made_in es) m)),
    )

pub served_on : {X : Type 0} (f : ℕ → Plain → X) (ends : List ℕ) (a b next later : ℕ) (rows less : List Row)
    (es : List Event) (got : List (ℕ × X)) (old new : List Batch) → Leads f a b next later rows less es
    → IsPostedTo a es old new → IsServedBy f ends rows next b got old → IsServedBy f ends less later b got new
served_on {X = X} f ends a b next later rows less es got old new k posted s = record {
  near = λ lives. near lives;
  log = log_posted next later (keys_of got) es old new k.rises events k.made_ascend k.made_new s.log;
  fits = fits posted;
}
  where
    events : events_of new ≡ events_of old ++ es
    events = events_posted a es old new posted

    near : is_in ends b ≡ false → IsNear ends less (stands f b less) (took_all f (events_of new) got)
    near lives =
        let taken : took_all f (events_of new) got ≡ took_all f es (took_all f (events_of old) got) =
        ap (λ ds. took_all f ds got) events ∙ took_all_append X f (events_of old) es got in
        let before : IsNear ends less (stands f b rows) (took_all f (events_of old) got) =
        near_follows ends next rows less _ _ k.follows (λ h l. stands_none f b next h rows k.ascend k.below l)
        (s.near lives) in
        rw (taken, sym k.moved) (near_took X f ends less es _ _ before)

    still : AllByRecursion (FitsBatch less b) old
    still =
        batches_follow b next rows less k.follows old (all_behind _ (keys_of got) _ s.log.1) s.fits

    fits : IsPostedTo a es old new → AllByRecursion (FitsBatch less b) new
    fits (inl p) = rw p.0 still
    fits (inr p) = rw p (all_append _ old _ still (k.fits, tt))

pub leads_from : {X : Type 0} (f : ℕ → Plain → X) (a b : ℕ) (t : TableState) (p : Plan) → IsTable t → Moves a t p
    → AllByRecursion (FitsEvent p.table.rows b a) (told_to b p.out)
    → Leads f a b t.next p.table.next t.rows p.table.rows (told_to b p.out)
leads_from f a b t p k m fits = record {
  ascend = k.rows_ascend;
  below = k.rows_below_next;
  rises = m.later;
  follows = λ h r is. follows h r (m.old h r is);
  moved = m.moved f b;
  made_ascend = m.made_ascend b;
  made_new = m.made_new b;
  fits = fits;
}
  where
    follows : (h : ℕ) (r : Row) → (find_row h t.rows ≡ Some r) ⊎ ((t.next ≤ h) × (r.owner ≡ a))
        → (find_row h t.rows ≡ Some r) ⊎ (t.next ≤ h)
    follows h r (inl was) = inl was
    follows h r (inr new) = inr new.0

pub served_after : ServedAfter
served_after X f ends a b t p got old new k m good s posted =
    served_on f ends a b t.next p.table.next t.rows p.table.rows (told_to b p.out) got old new
    (leads_from f a b t p k m (good.told b)) posted s

-- ---- the first batch is taken

pub popped_served : (X : Type 0) (f : ℕ → Plain → X) (ends : List ℕ) (rows : List Row) (next a : ℕ)
    (got : List (ℕ × X)) (b : Batch) (rest : List Batch) → IsServedBy f ends rows next a got (b ∷ rest)
    → IsServedBy f ends rows next a (took_all f b.events got) rest
popped_served X f ends rows next a got b rest s =
    let made : made_in (events_of (b ∷ rest)) ≡ made_in b.events ++ made_in (events_of rest) =
    made_in-append b.events (events_of rest) in
    record {
      near = λ lives. subst (IsNear ends rows (stands f a rows)) (took_all_append X f b.events (events_of rest) got)
          (s.near lives);
      log = (
        log_took_all f b.events got (made_in (events_of rest)) (rw made at s.log.0),
        all_took_all (λ h. h < next) f b.events got (made_in (events_of rest)) (rw made at s.log.1),
      );
      fits = s.fits.1;
    }
