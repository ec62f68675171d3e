-- A batch for an actor that isn't live changes nothing.
use Rattle.std.proofs.Common.{◌≡◌, ℕ, false, List, [], ◌∷◌, refl, ap, arith, sym, ◌∙◌, Some, Err, is_some}
use Rattle.ac_table.specs.declared.batches.Batch.{Batch}
use Rattle.ac_table.specs.declared.TableFault.{TableFault}
use Rattle.ac_table.specs.declared.TableFault.TheVariants.{NoActor, NoFacet, NoRow, NoMemory}
use Rattle.ac_table.specs.Faults.{actor_fault, Faults}
use Rattle.ac_table.specs.Tables.{Actor, TableState, find_actor, is_live, with_inbox, pushed}

with_inbox-none : (a : ℕ) (f : List Batch → List Batch) (xs : List Actor) → is_some (find_actor a xs) ≡ false
    → with_inbox a f xs ≡ xs
with_inbox-none a f [] none = refl
with_inbox-none a f (x ∷ xs) none = grind (arith, none, with_inbox-none a f xs)

pub pushed-none : (a : ℕ) (b : Batch) (t : TableState) → is_live a t ≡ false → pushed a b t ≡ t
pushed-none a b t none = ap (λ xs. record t { actors = xs }) (with_inbox-none a _ t.actors none)

not_live : (a : ℕ) (t : TableState) → actor_fault a t ≡ Some NoActor → is_live a t ≡ false
not_live a t fault = grind (arith, fault)

-- a fault other than want of memory
pub pushed_at_fault : (a : ℕ) (b : Batch) (old new : TableState) (e : TableFault)
    → Faults {X = Unit {0}} (actor_fault a old) old new (Err e) → (e ≡ NoMemory → ⊥) → new ≡ pushed a b old
pushed_at_fault a b old new NoMemory fault memory = absurd (memory refl)
pushed_at_fault a b old new NoActor fault memory =
    fault.1 ∙ sym (pushed-none a b old (not_live a old fault.0))
pushed_at_fault a b old new NoFacet fault memory = grind (arith, fault.0)
pushed_at_fault a b old new NoRow fault memory = grind (arith, fault.0)
