-- What the maps find, against what the lists say.
use Rattle.std.proofs.Common.{◌≡◌, ℕ, true, false, List, [], ◌∷◌, map, refl, ap, arith, sym, ◌∙◌}
use Rattle.std.proofs.Common.{is_some, Some, None, Option, slice_get, Result, Ok, Err, IsErr, IsErrAnd, subst}
use Rattle.std.specs.Map.{values_of}
use Rattle.ac_table.specs.Faults.{actor_fault, row_fault, Faults}
use Rattle.ac_table.specs.Lemmas.Entries.{is_at_same}
use Rattle.ac_table.specs.Sums.{inbox_of}
use Rattle.ac_table.specs.Tables.{Row, Actor, Batch, TableState, find_actor, find_row, first_batch, first_in, is_live}
use Rattle.ac_table.specs.Kept.{by_handle, seen, state_of, value_at}
use Rattle.ac_table.specs.declared.TableFault.{TableFault}
use Rattle.ac_table.specs.declared.TableFault.TheVariants.{NoActor, NoRow, NoMemory}
use Rattle.ac_table.specs.declared.table.LiveActor.{LiveActor}

abbrev pub actor_at : ℕ → Option LiveActor → Option Actor
actor_at a None = None
actor_at a (Some s) = Some (seen (a, s))

pub find_actor-seen : (a : ℕ) (es : List (ℕ × LiveActor)) → find_actor a (map seen es) ≡ actor_at a (value_at a es)
find_actor-seen a [] = refl
find_actor-seen a (e ∷ es) = grind (arith, is_at_same a e.0, find_actor-seen a es)

pub is_live-seen : (a next : ℕ) (rows : List (ℕ × Row)) (actors : List (ℕ × LiveActor))
    → is_live a (state_of next rows actors) ≡ is_some (value_at a actors)
is_live-seen a next rows actors = grind (arith, find_actor-seen a actors)

pub find_row-by_handle : (h : ℕ) (rows : List Row) → value_at h (map by_handle rows) ≡ find_row h rows
find_row-by_handle h [] = refl
find_row-by_handle h (r ∷ rs) = grind (arith, is_at_same h r.handle, find_row-by_handle h rs)

-- the first batch of a live actor
abbrev pub front_of : Option LiveActor → Option Batch
front_of None = None
front_of (Some s) = slice_get s.inbox 0

pub first_at : (a : ℕ) (s : Option LiveActor) → first_in (actor_at a s) ≡ front_of s
first_at a None = refl
first_at a (Some s) = refl

pub first_batch-seen : (a next : ℕ) (rows : List (ℕ × Row)) (actors : List (ℕ × LiveActor))
    → first_batch a (state_of next rows actors) ≡ front_of (value_at a actors)
first_batch-seen a next rows actors = ap first_in (find_actor-seen a actors) ∙ first_at a (value_at a actors)

-- the batches of a live actor
abbrev pub inbox_at : Option LiveActor → List Batch
inbox_at None = []
inbox_at (Some s) = s.inbox

inbox_of_at : (a : ℕ) (s : Option LiveActor) → inbox_of (actor_at a s) ≡ inbox_at s
inbox_of_at a None = refl
inbox_of_at a (Some s) = refl

pub inbox-seen : (a : ℕ) (actors : List (ℕ × LiveActor))
    → inbox_of (find_actor a (map seen actors)) ≡ inbox_at (value_at a actors)
inbox-seen a actors = ap inbox_of (find_actor-seen a actors) ∙ inbox_of_at a (value_at a actors)

-- ---- whether an actor is live

pub live_from : (a next : ℕ) (rows : List (ℕ × Row)) (actors : List (ℕ × LiveActor)) (s : LiveActor)
    → value_at a actors ≡ Some s
    → is_live a (state_of next rows actors) ≡ true
live_from a next rows actors s is = is_live-seen a next rows actors ∙ ap is_some is

pub ended_from : (a next : ℕ) (rows : List (ℕ × Row)) (actors : List (ℕ × LiveActor)) → value_at a actors ≡ None
    → is_live a (state_of next rows actors) ≡ false
ended_from a next rows actors is = is_live-seen a next rows actors ∙ ap is_some is

none_from_some : {X : Type 0} (x : Option X) → is_some x ≡ false → x ≡ None
none_from_some None is = refl
none_from_some (Some x) is = absurd cc

-- and the other way round
pub none_from : (a next : ℕ) (rows : List (ℕ × Row)) (actors : List (ℕ × LiveActor))
    → is_live a (state_of next rows actors) ≡ false → value_at a actors ≡ None
none_from a next rows actors is = none_from_some (value_at a actors) (sym (is_live-seen a next rows actors) ∙ is)

pub no_fault : (a next : ℕ) (rows : List (ℕ × Row)) (actors : List (ℕ × LiveActor)) (s : LiveActor)
    → value_at a actors ≡ Some s
    → actor_fault a (state_of next rows actors) ≡ None
no_fault a next rows actors s is = rw (live_from a next rows actors s is) refl

pub fault_from : (a next : ℕ) (rows : List (ℕ × Row)) (actors : List (ℕ × LiveActor)) → value_at a actors ≡ None
    → actor_fault a (state_of next rows actors) ≡ Some NoActor
fault_from a next rows actors is = rw (ended_from a next rows actors is) refl

pub row_missing : (h next : ℕ) (rows : List (ℕ × Row)) (actors : List (ℕ × LiveActor))
    → find_row h (values_of rows) ≡ None
    → row_fault h (state_of next rows actors) ≡ Some NoRow
row_missing h next rows actors is = rw is refl

pub row_present : (h next : ℕ) (rows : List (ℕ × Row)) (actors : List (ℕ × LiveActor)) (r : Row)
    → find_row h (values_of rows) ≡ Some r → row_fault h (state_of next rows actors) ≡ None
row_present h next rows actors r is = rw is refl

-- where memory is wanting there is no other cause
pub memory_fault : {X : Type 0} (cause : Option TableFault) (old new : TableState) (r : Result X TableFault)
    → cause ≡ None → IsErr r → IsErrAnd r (λ e. e ≡ NoMemory) → Faults cause old new r
memory_fault {X = X} cause old new (Ok x) none err is = absurd cc
memory_fault {X = X} cause old new (Err e) none err is =
    subst (λ (e : TableFault). Faults {X = X} cause old new (Err e)) (sym is) none
