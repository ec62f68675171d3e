-- A live actor is found, and is put back with something else in it.
use Rattle.std.proofs.Common.{◌≡◌, ℕ, List, Some, refl}
use Rattle.std.specs.BTreeMap.{BTreeMap, get, WritesThrough}
use Rattle.std.specs.BTreeSet.{BTreeSet}
use Rattle.std.specs.Map.{values_of}
use Rattle.std.specs.Ordering.{nat_cmp}
use Rattle.ac_table.specs.Inboxes.{is_busy, CountsOn}
use Rattle.ac_table.specs.Kept.{SetChangesAt, IsWhole}
use Rattle.ac_table.specs.Placed.{FacetState, SameRows}
use Rattle.ac_table.specs.Tables.{Row, Batch}
use Rattle.ac_table.specs.declared.table.LiveActor.{LiveActor}
use Rattle.ac_table.proofs.Counting.{counted_same, counted_set}
use Rattle.ac_table.proofs.Keeps.{renewed_from, kept_renewed, busy_same, busy_set}
use Rattle.ac_table.proofs.Standing.{standing_same}

-- with other rows: their handles, what they weigh, and the facets that they stand in
abbrev pub with_rows : LiveActor → BTreeSet ℕ → ℕ → List (ℕ × FacetState) → LiveActor
with_rows s own weight facets = record { own = own; row_weight = weight; inbox = s.inbox; facets = facets }

-- with another inbox
abbrev pub with_batches : LiveActor → List Batch → LiveActor
with_batches s bs = record { own = s.own; row_weight = s.row_weight; inbox = bs; facets = s.facets }

-- the table is whole where the actor has the same rows, and each of its facets has
pub whole_refaceted : (a next : ℕ) (s : LiveActor) (own : BTreeSet ℕ) (facets : List (ℕ × FacetState))
    (rows : List (ℕ × Row)) (actors new : BTreeMap ℕ LiveActor) (busy : List ℕ) (waiting : ℕ)
    → IsWhole next rows actors.entries busy waiting → get nat_cmp actors a ≡ Some s
    → WritesThrough nat_cmp (nat_cmp a) actors (with_rows s own s.row_weight facets) new
    → own.keys ≡ s.own.keys → SameRows s.facets facets → IsWhole next rows new.entries busy waiting
whole_refaceted a next s own facets rows actors new busy waiting whole was writes same same_rows =
    let t = with_rows s own s.row_weight facets in
    let re = renewed_from a s t actors new was writes in
    record {
      kept = kept_renewed a next s t rows actors.entries new.entries busy busy whole.kept re same refl
          (busy_same a s t actors.entries new.entries busy whole.kept.busy_is re refl);
      counted = counted_same a waiting s t actors.entries new.entries whole.counted was writes.0 refl;
      standing = standing_same a s t actors.entries new.entries (values_of rows) whole.standing re same_rows;
    }

-- and where its inbox alone is another
pub whole_refilled : (a next : ℕ) (s : LiveActor) (bs : List Batch) (rows : List (ℕ × Row))
    (actors new : BTreeMap ℕ LiveActor) (busy more : List ℕ) (waiting after : ℕ)
    → IsWhole next rows actors.entries busy waiting → get nat_cmp actors a ≡ Some s
    → WritesThrough nat_cmp (nat_cmp a) actors (with_batches s bs) new → SetChangesAt a (is_busy bs) busy more
    → CountsOn s.inbox bs waiting after → IsWhole next rows new.entries more after
whole_refilled a next s bs rows actors new busy more waiting after whole was writes set counts =
    let t = with_batches s bs in
    let re = renewed_from a s t actors new was writes in
    record {
      kept = kept_renewed a next s t rows actors.entries new.entries busy more whole.kept re refl refl
          (busy_set a (is_busy bs) (Some t) actors.entries new.entries busy more whole.kept.busy_is re.changes set
          refl);
      counted = counted_set a waiting after s t actors.entries new.entries whole.counted was writes.0 counts;
      standing = standing_same a s t actors.entries new.entries (values_of rows) whole.standing re (λ f h. refl);
    }
