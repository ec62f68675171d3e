-- Exports by which what a value names has the same numbers: it goes out the same by the one and by the other.
use Rattle.std.proofs.Common.{◌≡◌, ℕ, Bool, true, false, List, [], ◌∷◌, map, Option, Some, None, refl, ap, ◌∙◌}
use Rattle.std.specs.Prelude.{is_some, unwrap_or, if◌then◌else◌}
use Rattle.std.specs.List.{AllByRecursion, flat_map}
use Rattle.std.specs.Ordering.{nat_cmp}
use Rattle.pv_value.specs.Plain.{Plain}
use Rattle.pv_value.specs.Sets.{ascending_by}
use Rattle.ds_space.specs.declared.references.Reference.{Reference}
use Rattle.ds_space.specs.References.{reference_of}
use Rattle.ac_table.specs.Lemmas.Lists.{all_weaker}
use Rattle.ac_world.specs.declared.held.Held.{Held}
use Rattle.rl_ports.specs.Ports.{ExportTable, place_of, number_of}
use Rattle.rl_wire.specs.Crossing.{held_in, is_own, foreign_of, foreign_in, actor_at, wire_value, reference_out}
use Rattle.rl_wire.specs.Crossing.{all_exported, crossed_out, numbers_out}
use Rattle.rl_wire.specs.Lemmas.Exporting.{place_later}
use Rattle.rl_wire.specs.Lemmas.Later.{all_of_front, all_of_rest, crossed_alike}
use Rattle.hub_laws.specs.Noting.{note_of}
use Rattle.hub_laws.specs.Settled.{holding_of, HasNumbers}

-- the reference is exported by x, and y has it under the same number
abbrev pub Agrees : ExportTable → ExportTable → Plain → Type 0
Agrees x y r = (is_some (place_of r x.in_force) ≡ true) × (place_of r y.in_force ≡ place_of r x.in_force)

number_same : (x y : ExportTable) (r : Plain) → Agrees x y r → number_of r y ≡ number_of r x
number_same x y r agrees = rw agrees.1 (by (place_of r x.in_force) agrees.0)
  where
    by : (o : Option ℕ) → is_some o ≡ true → unwrap_or o y.next ≡ unwrap_or o x.next
    by None is = absurd cc
    by (Some n) is = refl

reference_same : (x y : ExportTable) (a : ℕ) (p : Plain) (o : Option Reference)
    → AllByRecursion (Agrees x y) (foreign_of a p o) → reference_out y a p o ≡ reference_out x a p o
reference_same x y a p None agrees = refl
reference_same x y a p (Some r) agrees = by (is_own a p r) agrees
  where
    by : (b : Bool) → AllByRecursion (Agrees x y) (if b then [] else p ∷ [])
        → (if b then wire_value 1 r.entity else wire_value 0 (number_of p y))
        ≡ (if b then wire_value 1 r.entity else wire_value 0 (number_of p x))
    by true is = refl
    by false is = ap (wire_value 0) (number_same x y p is.0)

references_same : (x y : ExportTable) (a : ℕ) (ps : List Plain)
    → AllByRecursion (Agrees x y) (flat_map (λ p. foreign_of a p (reference_of p)) ps)
    → AllByRecursion (λ p. reference_out y a p (reference_of p) ≡ reference_out x a p (reference_of p)) ps
references_same x y a [] agrees = tt
references_same x y a (p ∷ ps) agrees =
    let here : List Plain = foreign_of a p (reference_of p) in
    let others : List Plain = flat_map (λ q. foreign_of a q (reference_of q)) ps in (
      reference_same x y a p (reference_of p) (all_of_front _ here others agrees),
      references_same x y a ps (all_of_rest _ here others agrees),
    )

pub crossed_out_same : (x y : ExportTable) (k : ℕ) (v : Plain) → AllByRecursion (Agrees x y) (foreign_in k v)
    → crossed_out y k v ≡ crossed_out x k v
crossed_out_same x y k v agrees = crossed_alike _ _ v (references_same x y (actor_at k) (held_in v) agrees)

numbers_same : (x y : ExportTable) (rs : List Plain) → AllByRecursion (Agrees x y) rs
    → map (λ r. number_of r y) rs ≡ map (λ r. number_of r x) rs
numbers_same x y [] agrees = refl
numbers_same x y (r ∷ rs) agrees = λ i. number_same x y r agrees.0 i ∷ numbers_same x y rs agrees.1 i

pub numbers_out_same : (x y : ExportTable) (k : ℕ) (v : Plain) → AllByRecursion (Agrees x y) (foreign_in k v)
    → numbers_out y k v ≡ numbers_out x k v
numbers_out_same x y k v agrees = ap (ascending_by nat_cmp) (numbers_same x y (foreign_in k v) agrees)

-- ---- what a connection has got

abbrev pub AllAgree : ExportTable → ExportTable → ℕ → List (ℕ × Held) → Type 0
AllAgree x y k got = AllByRecursion (λ e. AllByRecursion (Agrees x y) (foreign_in k e.1.value)) got

pub holdings_same : (x y : ExportTable) (k : ℕ) (got : List (ℕ × Held)) → AllAgree x y k got
    → map (holding_of y k) got ≡ map (holding_of x k) got
holdings_same x y k [] agrees = refl
holdings_same x y k (e ∷ es) agrees =
    λ i. record { oid = e.1.entity; handle = e.0; value = crossed_out_same x y k e.1.value agrees.0 i }
    ∷ holdings_same x y k es agrees.1 i

pub notes_same : (x y : ExportTable) (k : ℕ) (got : List (ℕ × Held)) → AllAgree x y k got
    → map (note_of y k) got ≡ map (note_of x k) got
notes_same x y k [] agrees = refl
notes_same x y k (e ∷ es) agrees =
    λ i. (e.0, numbers_out_same x y k e.1.value agrees.0 i) ∷ notes_same x y k es agrees.1 i

pub numbers_stay : (x y : ExportTable) (k : ℕ) (got : List (ℕ × Held)) → AllAgree x y k got
    → AllByRecursion (HasNumbers y k) got
numbers_stay x y k got agrees =
    all_weaker (λ e. AllByRecursion (Agrees x y) (foreign_in k e.1.value)) (HasNumbers y k)
    (λ e all. all_weaker (Agrees x y) (λ r. is_some (place_of r y.in_force) ≡ true)
    (λ r agree. ap is_some agree.1 ∙ agree.0) (foreign_in k e.1.value) all)
    got agrees

-- later exports agree
pub agrees_later : (x : ExportTable) (more : List Plain) (k : ℕ) (got : List (ℕ × Held))
    → AllByRecursion (HasNumbers x k) got → AllAgree x (all_exported x more) k got
agrees_later x more k got numbers =
    all_weaker (HasNumbers x k) (λ e. AllByRecursion (Agrees x (all_exported x more)) (foreign_in k e.1.value))
    (λ e all. all_weaker (λ r. is_some (place_of r x.in_force) ≡ true) (Agrees x (all_exported x more))
    (λ r there. (there, place_later r x more there)) (foreign_in k e.1.value) all)
    got numbers
