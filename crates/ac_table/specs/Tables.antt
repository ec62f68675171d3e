-- The table of the machine: live actors, the batches that wait for each, their facets, and rows; and what each change
-- makes of it.
-- A row is an assertion of the Syndicate protocol (section "Actors and assertions"), a batch what one turn made for one
-- actor. Rows, events and batches are the code's own types.
use Rattle.std.specs.Prelude.{ℕ, ◌+◌, Bool, not, ◌==◌, nat_lt, IsTrue, List, [], ◌∷◌, ◌++◌, map, drop, slice_get}
use Rattle.std.specs.Prelude.{Option, Some, None, is_some, unwrap_or, if◌then◌else◌, length, filter, ◌<◌, ◌&&◌, ◌≡◌}
use Rattle.std.specs.BTreeMap.{is_at, insert_entry}
use Rattle.std.specs.List.{AllByRecursion, list_any}
use Rattle.std.specs.List.Sorted.{IsStrictlySortedBy}
use Rattle.std.specs.Map.{remove_entry, set_value}
use Rattle.std.specs.Ordering.{nat_cmp}
use Rattle.pv_value.specs.Plain.{Plain}
use Rattle.ac_table.specs.Facets.{Tree, root_alone, is_facet, AreBelow}
use Rattle.ac_table.specs.Maps.{value_at, is_key}
pub use Rattle.ac_table.specs.declared.batches.Row.{Row}
pub use Rattle.ac_table.specs.declared.batches.Event.{Event}
pub use Rattle.ac_table.specs.declared.batches.Event.TheVariants.{Assert, Retract, Message, Sync}
pub use Rattle.ac_table.specs.declared.batches.Batch.{Batch}

-- a live actor, and what waits for it, the earliest batch first
pub record Actor : Type 0 where
  pub number : ℕ
  pub inbox : List Batch

-- next is the next handle; the rows ascend by handle, the live actors and their trees of facets by number
pub record TableState : Type 0 where
  pub next : ℕ
  pub rows : List Row
  pub actors : List Actor
  pub trees : List (ℕ × Tree)

abbrev pub opening : TableState
opening = record { next = 1; rows = []; actors = []; trees = [] }

-- ---- looking

abbrev pub find_actor : ℕ → List Actor → Option Actor
find_actor a [] = None
find_actor a (x ∷ xs) = if x.number == a then Some x else find_actor a xs

abbrev pub is_live : ℕ → TableState → Bool
is_live a t = is_some (find_actor a t.actors)

-- the facets of an actor
abbrev pub tree_of : ℕ → TableState → Tree
tree_of a t = unwrap_or (value_at a t.trees) []

abbrev pub has_facet : ℕ → ℕ → TableState → Bool
has_facet a facet t = is_facet facet (tree_of a t)

abbrev pub find_row : ℕ → List Row → Option Row
find_row h [] = None
find_row h (r ∷ rs) = if r.handle == h then Some r else find_row h rs

abbrev pub rows_of : ℕ → List Row → List Row
rows_of a rows = filter (λ r. r.owner == a) rows

abbrev pub rows_of_others : ℕ → List Row → List Row
rows_of_others a rows = filter (λ r. not (r.owner == a)) rows

abbrev pub handles : List Row → List ℕ
handles rows = map (λ r. r.handle) rows

abbrev pub first_in : Option Actor → Option Batch
first_in None = None
first_in (Some x) = slice_get x.inbox 0

-- the batch that an actor takes next
abbrev pub first_batch : ℕ → TableState → Option Batch
first_batch a t = first_in (find_actor a t.actors)

-- whether a batch waits
abbrev pub is_waited_on : Actor → Bool
is_waited_on x = nat_lt 0 (length x.inbox)

-- the least of the actors for which a batch waits
abbrev pub lowest_in : List Actor → Option ℕ
lowest_in [] = None
lowest_in (x ∷ xs) = if is_waited_on x then Some x.number else lowest_in xs

abbrev pub lowest : TableState → Option ℕ
lowest t = lowest_in t.actors

-- how many batches wait
abbrev pub waiting_in : List Actor → ℕ
waiting_in [] = 0
waiting_in (x ∷ xs) = length x.inbox + waiting_in xs

abbrev pub waiting : TableState → ℕ
waiting t = waiting_in t.actors

-- ---- changing

-- one more actor, at its place by number
abbrev pub placed : Actor → List Actor → List Actor
placed new [] = new ∷ []
placed new (x ∷ xs) = if nat_lt new.number x.number then new ∷ x ∷ xs else x ∷ placed new xs

-- it has facet 0
abbrev pub joined : ℕ → TableState → TableState
joined a t = record t {
  actors = placed (record { number = a; inbox = [] }) t.actors;
  trees = insert_entry nat_cmp t.trees a root_alone;
}

-- one more row, under the next handle
abbrev pub asserted : ℕ → ℕ → ℕ → ℕ → Plain → TableState → TableState
asserted owner facet target entity value t = record {
  next = t.next + 1;
  rows = t.rows ++ record {
    handle = t.next;
    owner = owner;
    facet = facet;
    target = target;
    entity = entity;
    value = value;
  } ∷ [];
  actors = t.actors;
  trees = t.trees;
}

abbrev pub without_row : ℕ → List Row → List Row
without_row h rows = filter (λ r. not (r.handle == h)) rows

abbrev pub retracted : ℕ → TableState → TableState
retracted h t = record t { rows = without_row h t.rows }

-- an actor's tree of facets changes
abbrev pub with_tree : ℕ → Tree → TableState → TableState
with_tree a tree t = record t { trees = set_value (is_at (nat_cmp a)) t.trees tree }

-- one more facet of an actor, right below another
abbrev pub faceted : ℕ → ℕ → ℕ → TableState → TableState
faceted a parent facet t = with_tree a (insert_entry nat_cmp (tree_of a t) facet parent) t

-- whether a row is an actor's, in one of these facets
abbrev pub stands_in : ℕ → List ℕ → Row → Bool
stands_in a facets r = r.owner == a && is_key r.facet facets

-- whether rows of an actor stand in a facet
abbrev pub has_rows : ℕ → ℕ → TableState → Bool
has_rows a f t = list_any (stands_in a (f ∷ [])) t.rows

-- these facets of an actor go, with exactly their rows
abbrev pub without_facets : ℕ → List ℕ → TableState → TableState
without_facets a facets t = with_tree a (filter (λ e. not (is_key e.0 facets)) (tree_of a t)) (record t {
  rows = filter (λ r. not (stands_in a facets r)) t.rows;
})

-- a facet stops: it and those below it go, with exactly their rows, whose handles are told
pub record IsStopped (a facet : ℕ) (old new : TableState) (told : List ℕ) : Type 0 where
  pub facets : List ℕ
  pub below : AreBelow facet (tree_of a old) facets
  pub state : new ≡ without_facets a facets old
  pub rows : told ≡ handles (filter (stands_in a facets) old.rows)

-- an actor goes, with its inbox, its facets and its rows; rows that others made at it stay
abbrev pub ended : ℕ → TableState → TableState
ended a t = record {
  next = t.next;
  rows = rows_of_others a t.rows;
  actors = filter (λ x. not (x.number == a)) t.actors;
  trees = remove_entry (is_at (nat_cmp a)) t.trees;
}

-- an actor's inbox changes
abbrev pub with_inbox : ℕ → (List Batch → List Batch) → List Actor → List Actor
with_inbox a change [] = []
with_inbox a change (x ∷ xs) =
    if x.number == a then record { number = x.number; inbox = change x.inbox } ∷ xs else x ∷ with_inbox a change xs

-- one more batch waits, behind the others
abbrev pub pushed : ℕ → Batch → TableState → TableState
pushed a b t = record t { actors = with_inbox a (λ bs. bs ++ b ∷ []) t.actors }

-- the first batch is taken, where there is one
abbrev pub popped : ℕ → TableState → TableState
popped a t = record t { actors = with_inbox a (drop 1) t.actors }

-- ---- what is true of every table

pub record IsTable (t : TableState) : Type 0 where
  pub rows_ascend : IsStrictlySortedBy nat_cmp (handles t.rows)
  pub rows_below_next : AllByRecursion (λ r. r.handle < t.next) t.rows
  pub actors_ascend : IsStrictlySortedBy nat_cmp (map (λ x. x.number) t.actors)
  pub owners_live : AllByRecursion (λ r. IsTrue (is_live r.owner t)) t.rows
