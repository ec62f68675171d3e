-- What is valid stays so with more actors and later handles; and valid tables: each change keeps them valid.
use Rattle.std.proofs.Common.{◌≡◌, ℕ, ◌≤◌, ◌==◌, nat_lt, not, List, [], ◌∷◌, ◌++◌, Bool, true, false, cond, Option}
use Rattle.std.proofs.Common.{Some, None, refl, arith, subst, slice_get, drop}
use Rattle.std.specs.List.{AllByRecursion}
use Rattle.std.specs.Map.{values_of}
use Rattle.gk_sturdy.specs.declared.bound.Binding.{Binding}
use Rattle.ac_table.specs.declared.batches.Row.{Row}
use Rattle.ac_table.specs.declared.batches.Event.{Event}
use Rattle.ac_table.specs.declared.batches.Event.TheVariants.{Assert, Retract, Message, Sync}
use Rattle.ac_table.specs.declared.batches.Batch.{Batch}
use Rattle.ac_table.specs.Tables.{TableState, Actor, find_actor, find_row, placed, joined, ended, with_inbox, pushed}
use Rattle.ac_table.specs.Tables.{popped, first_batch, first_in}
use Rattle.ac_world.specs.Worlds.{Resident, Deliveries}
use Rattle.hub_valid.specs.Lemmas.Filtered.{all_kept}
use Rattle.hub_valid.specs.Validity.{Lived, HoldsObjects, IsValidRow, IsValidEvent, IsValidBatch, IsValidActor}
use Rattle.hub_valid.specs.Validity.{IsValidResident}
use Rattle.hub_valid.specs.Validity.{IsValidDelivery, AreValidDeliveries, IsValidBinding}
use Rattle.hub_valid.specs.Lemmas.Values.{all_weaker, all_append, IsWithin, later_at, later_value, later_inside}

-- ---- what is valid stays so with more actors and later handles

pub later_row : (m n : Lived) (next after : ℕ) (r : Row) → IsWithin m n → next ≤ after → IsValidRow m next r
    → IsValidRow n after r
later_row m n next after r l s v =
    (omega (arith, v.0), later_at m n r.target r.entity l v.1, later_value m n r.value l v.2)

pub later_event : (m n : Lived) (next after : ℕ) (e : Event) → IsWithin m n → next ≤ after → IsValidEvent m next e
    → IsValidEvent n after e
later_event m n next after (Assert h entity x) l s v = (omega (arith, v.0), v.1, later_value m n x l v.2)
later_event m n next after (Retract h entity) l s v = (omega (arith, v.0), v.1)
later_event m n next after (Message entity x) l s v = (v.0, later_value m n x l v.1)
later_event m n next after (Sync entity peer) l s v = (v.0, later_inside m n peer l v.1)

pub later_batch : (m n : Lived) (next after : ℕ) (b : Batch) → IsWithin m n → next ≤ after → IsValidBatch m next b
    → IsValidBatch n after b
later_batch m n next after b l s v =
    all_weaker (IsValidEvent m next) (IsValidEvent n after) (λ e. later_event m n next after e l s) b.events v

pub later_actor : (m n : Lived) (next after : ℕ) (x : Actor) → IsWithin m n → next ≤ after → IsValidActor m next x
    → IsValidActor n after x
later_actor m n next after x l s v =
    all_weaker (IsValidBatch m next) (IsValidBatch n after) (λ b. later_batch m n next after b l s) x.inbox v

pub later_resident : (m n : Lived) (e : ℕ × Resident) → IsWithin m n → IsValidResident m e → IsValidResident n e
later_resident m n e l v =
    all_weaker (HoldsObjects m) (HoldsObjects n) (λ x. later_value m n x l) (values_of e.1.got) v

pub later_deliveries : (m n : Lived) (e : ℕ × Deliveries) → IsWithin m n → AreValidDeliveries m e → AreValidDeliveries n e
later_deliveries m n e l v =
    all_weaker (IsValidDelivery m) (IsValidDelivery n) (λ d valid. (valid.0, later_value m n d.1.value l valid.1)) e.1 v

pub later_binding : (m n : Lived) (b : Binding) → IsWithin m n → IsValidBinding m b → IsValidBinding n b
later_binding m n b l v = (v.0, later_at m n b.cap.actor b.cap.entity l v.1)

-- ---- tables

-- the rows and the inboxes of a world are those of its table
pub record IsValidTable (n : Lived) (t : TableState) : Type 0 where
  pub rows : AllByRecursion (IsValidRow n t.next) t.rows
  pub inboxes : AllByRecursion (IsValidActor n t.next) t.actors

pub rows_later : (m n : Lived) (next after : ℕ) (rows : List Row) → IsWithin m n → next ≤ after
    → AllByRecursion (IsValidRow m next) rows → AllByRecursion (IsValidRow n after) rows
rows_later m n next after rows l s v =
    all_weaker (IsValidRow m next) (IsValidRow n after) (λ r. later_row m n next after r l s) rows v

pub inboxes_later : (m n : Lived) (next after : ℕ) (xs : List Actor) → IsWithin m n → next ≤ after
    → AllByRecursion (IsValidActor m next) xs → AllByRecursion (IsValidActor n after) xs
inboxes_later m n next after xs l s v =
    all_weaker (IsValidActor m next) (IsValidActor n after) (λ x. later_actor m n next after x l s) xs v

pub row_found : (P : Row → Type 0) (h : ℕ) (rows : List Row) (r : Row) → AllByRecursion P rows
    → find_row h rows ≡ Some r → P r
row_found P h [] r all is = absurd cc
row_found P h (x ∷ xs) r all is = split (x.handle == h) is (row_found P h xs r all.1)
  where
    split : (b : Bool) → cond b (Some x) (find_row h xs) ≡ Some r → (find_row h xs ≡ Some r → P r) → P r
    split true found later = (let same : x ≡ r = cc in subst P same all.0)
    split false found later = later found

pub actor_found : (P : Actor → Type 0) (a : ℕ) (xs : List Actor) (y : Actor) → AllByRecursion P xs
    → find_actor a xs ≡ Some y → P y
actor_found P a [] y all is = absurd cc
actor_found P a (x ∷ xs) y all is = split (x.number == a) is (actor_found P a xs y all.1)
  where
    split : (b : Bool) → cond b (Some x) (find_actor a xs) ≡ Some y → (find_actor a xs ≡ Some y → P y) → P y
    split true found later = (let same : x ≡ y = cc in subst P same all.0)
    split false found later = later found

-- ---- actors come and go

placed_pass : (P : Actor → Type 0) (new : Actor) (xs : List Actor) → P new → AllByRecursion P xs
    → AllByRecursion P (placed new xs)
placed_pass P new [] p all = (p, tt)
placed_pass P new (x ∷ xs) p all = split (nat_lt new.number x.number) (placed_pass P new xs p all.1)
  where
    split : (b : Bool) → AllByRecursion P (placed new xs)
        → AllByRecursion P (cond b (new ∷ x ∷ xs) (x ∷ placed new xs))
    split true rest = (p, all)
    split false rest = (all.0, rest)

pub joined_valid : (n : Lived) (a : ℕ) (t : TableState) → IsValidTable n t → IsValidTable n (joined a t)
joined_valid n a t v = record {
  rows = v.rows;
  inboxes = placed_pass (IsValidActor n t.next) (record { number = a; inbox = [] }) t.actors tt v.inboxes;
}

pub ended_valid : (n : Lived) (a : ℕ) (t : TableState) → IsValidTable n t → IsValidTable n (ended a t)
ended_valid n a t v = record {
  rows = all_kept (IsValidRow n t.next) (λ r. not (r.owner == a)) t.rows v.rows;
  inboxes = all_kept (IsValidActor n t.next) (λ x. not (x.number == a)) t.actors v.inboxes;
}

-- ---- inboxes

-- an inbox changes, and each of its batches passes as before
pub inboxes_pass : (P : Batch → Type 0) (a : ℕ) (change : List Batch → List Batch)
    → ((bs : List Batch) → AllByRecursion P bs → AllByRecursion P (change bs)) → (xs : List Actor)
    → AllByRecursion (λ x. AllByRecursion P x.inbox) xs
    → AllByRecursion (λ x. AllByRecursion P x.inbox) (with_inbox a change xs)
inboxes_pass P a change keep [] all = tt
inboxes_pass P a change keep (x ∷ xs) all = split (x.number == a) (inboxes_pass P a change keep xs all.1)
  where
    split : (b : Bool) → AllByRecursion (λ x. AllByRecursion P x.inbox) (with_inbox a change xs)
        → AllByRecursion (λ x. AllByRecursion P x.inbox)
        (cond b (record { number = x.number; inbox = change x.inbox } ∷ xs) (x ∷ with_inbox a change xs))
    split true rest = (keep x.inbox all.0, all.1)
    split false rest = (all.0, rest)

pub pushed_valid : (n : Lived) (a : ℕ) (b : Batch) (t : TableState) → IsValidTable n t → IsValidBatch n t.next b
    → IsValidTable n (pushed a b t)
pushed_valid n a b t v fits = record {
  rows = v.rows;
  inboxes = inboxes_pass (IsValidBatch n t.next) a (λ bs. bs ++ b ∷ [])
      (λ bs all. all_append (IsValidBatch n t.next) bs (b ∷ []) all (fits, tt)) t.actors v.inboxes;
}

all_dropped : {X : Type 0} (P : X → Type 0) (xs : List X) → AllByRecursion P xs → AllByRecursion P (drop 1 xs)
all_dropped P [] all = tt
all_dropped P (x ∷ xs) all = all.1

pub popped_valid : (n : Lived) (a : ℕ) (t : TableState) → IsValidTable n t → IsValidTable n (popped a t)
popped_valid n a t v = record {
  rows = v.rows;
  inboxes = inboxes_pass (IsValidBatch n t.next) a (drop 1) (all_dropped (IsValidBatch n t.next)) t.actors v.inboxes;
}

-- the batch that an actor takes next is valid
pub first_valid : (n : Lived) (a : ℕ) (t : TableState) (b : Batch) → IsValidTable n t → first_batch a t ≡ Some b
    → IsValidBatch n t.next b
first_valid n a t b v is = by_actor (find_actor a t.actors) refl is
  where
    by_inbox : (bs : List Batch) → AllByRecursion (IsValidBatch n t.next) bs → slice_get bs 0 ≡ Some b
        → IsValidBatch n t.next b
    by_inbox [] all is = absurd cc
    by_inbox (c ∷ cs) all is =
        let same : c ≡ b = grind (arith, is) in
        subst (IsValidBatch n t.next) same all.0

    by_actor : (o : Option Actor) → find_actor a t.actors ≡ o → first_in o ≡ Some b → IsValidBatch n t.next b
    by_actor None found is = absurd cc
    by_actor (Some x) found is =
        by_inbox x.inbox (actor_found (IsValidActor n t.next) a t.actors x v.inboxes found) is
