-- What a connection was told goes out the same by its later exports.
use Rattle.std.proofs.Common.{◌≡◌, ℕ, List, [], ◌∷◌, ◌++◌, Bool, true, false, Option, Some, None}
use Rattle.std.proofs.Common.{refl, ap}
use Rattle.std.specs.Prelude.{if◌then◌else◌}
use Rattle.std.specs.List.{AllByRecursion, flat_map}
use Rattle.pv_value.specs.Plain.{Plain, integer, record_of, sequence, set_of, dictionary, embedded}
use Rattle.pv_value.specs.Plain.{boolean, double, string, byte_string, symbol}
use Rattle.pv_value.specs.Plain.{Plains, no_more, then_more, PlainPairs, no_pairs, then_pair}
use Rattle.pv_value.specs.Plain.{plains, listed, pairs, paired}
use Rattle.pv_value.specs.Order.{order}
use Rattle.pv_value.specs.Sets.{ascending_by}
use Rattle.ds_space.specs.declared.references.Reference.{Reference}
use Rattle.ds_space.specs.References.{reference_of}
use Rattle.rl_ports.specs.Ports.{ExportTable, number_of}
use Rattle.rl_wire.specs.Crossing.{by_keys, crossed, all_crossed, all_pairs_crossed, held_in, all_held_in}
use Rattle.rl_wire.specs.Crossing.{all_pairs_held_in, is_own, foreign_of, foreign_in, actor_at, reference_out}
use Rattle.rl_wire.specs.Crossing.{wire_value}
use Rattle.rl_wire.specs.Crossing.{all_exported, crossed_out}
use Rattle.rl_wire.specs.Lemmas.Exporting.{IsExported, number_stays}

-- ---- lists

pub all_of_front : {A : Type 0} (P : A → Type 0) (xs ys : List A) → AllByRecursion P (xs ++ ys) → AllByRecursion P xs
all_of_front P [] ys all = tt
all_of_front P (x ∷ xs) ys all = (all.0, all_of_front P xs ys all.1)

pub all_of_rest : {A : Type 0} (P : A → Type 0) (xs ys : List A) → AllByRecursion P (xs ++ ys) → AllByRecursion P ys
all_of_rest P [] ys all = all
all_of_rest P (x ∷ xs) ys all = all_of_rest P xs ys all.1

-- ---- two ways that agree on what a value holds

mutual
  pub crossed_alike : (f g : Plain → Plain) (v : Plain) → AllByRecursion (λ x. f x ≡ g x) (held_in v)
      → crossed f v ≡ crossed g v
  crossed_alike f g (embedded x) same = ap embedded same.0
  crossed_alike f g (record_of l fs) same =
      rw (
        crossed_alike f g l (all_of_front _ (held_in l) (all_held_in fs) same),
        all_crossed_alike f g fs (all_of_rest _ (held_in l) (all_held_in fs) same),
      ) refl
  crossed_alike f g (sequence xs) same = ap sequence (all_crossed_alike f g xs same)
  crossed_alike f g (set_of xs) same =
      ap (λ ys. set_of (plains (ascending_by order (listed ys)))) (all_crossed_alike f g xs same)
  crossed_alike f g (dictionary ps) same =
      ap (λ qs. dictionary (pairs (by_keys (paired qs)))) (all_pairs_crossed_alike f g ps same)
  crossed_alike f g (boolean b) same = refl
  crossed_alike f g (double d) same = refl
  crossed_alike f g (integer n) same = refl
  crossed_alike f g (string s) same = refl
  crossed_alike f g (byte_string b) same = refl
  crossed_alike f g (symbol s) same = refl

  all_crossed_alike : (f g : Plain → Plain) (xs : Plains) → AllByRecursion (λ x. f x ≡ g x) (all_held_in xs)
      → all_crossed f xs ≡ all_crossed g xs
  all_crossed_alike f g no_more same = refl
  all_crossed_alike f g (then_more x xs) same =
      rw (
        crossed_alike f g x (all_of_front _ (held_in x) (all_held_in xs) same),
        all_crossed_alike f g xs (all_of_rest _ (held_in x) (all_held_in xs) same),
      ) refl

  all_pairs_crossed_alike : (f g : Plain → Plain) (ps : PlainPairs)
      → AllByRecursion (λ x. f x ≡ g x) (all_pairs_held_in ps) → all_pairs_crossed f ps ≡ all_pairs_crossed g ps
  all_pairs_crossed_alike f g no_pairs same = refl
  all_pairs_crossed_alike f g (then_pair k v ps) same =
      let here = all_of_front _ (held_in k ++ held_in v) (all_pairs_held_in ps) same in
      rw (
        crossed_alike f g k (all_of_front _ (held_in k) (held_in v) here),
        crossed_alike f g v (all_of_rest _ (held_in k) (held_in v) here),
        all_pairs_crossed_alike f g ps (all_of_rest _ (held_in k ++ held_in v) (all_pairs_held_in ps) same),
      ) refl

-- ---- what is exported has the same number later

reference_later : (exports : ExportTable) (more : List Plain) (a : ℕ) (x : Plain) (o : Option Reference)
    → AllByRecursion (IsExported exports) (foreign_of a x o)
    → reference_out (all_exported exports more) a x o ≡ reference_out exports a x o
reference_later exports more a x None there = refl
reference_later exports more a x (Some r) there = by (is_own a x r) there
  where
    by : (b : Bool) → AllByRecursion (IsExported exports) (if b then [] else x ∷ [])
        → (if b then wire_value 1 r.entity else wire_value 0 (number_of x (all_exported exports more)))
        ≡ (if b then wire_value 1 r.entity else wire_value 0 (number_of x exports))
    by true is = refl
    by false is = ap (wire_value 0) (number_stays x exports more is.0)

references_later : (exports : ExportTable) (more : List Plain) (a : ℕ) (xs : List Plain)
    → AllByRecursion (IsExported exports) (flat_map (λ x. foreign_of a x (reference_of x)) xs)
    → AllByRecursion (λ x. reference_out (all_exported exports more) a x (reference_of x)
    ≡ reference_out exports a x (reference_of x)) xs
references_later exports more a [] there = tt
references_later exports more a (x ∷ xs) there = (
  reference_later exports more a x (reference_of x)
      (all_of_front _ (foreign_of a x (reference_of x)) (flat_map (λ y. foreign_of a y (reference_of y)) xs) there),
  references_later exports more a xs
      (all_of_rest _ (foreign_of a x (reference_of x)) (flat_map (λ y. foreign_of a y (reference_of y)) xs) there),
)

-- where the references in a value are exported, it goes out the same once more are
pub crossed_out_later : (exports : ExportTable) (more : List Plain) (k : ℕ) (v : Plain)
    → AllByRecursion (IsExported exports) (foreign_in k v)
    → crossed_out (all_exported exports more) k v ≡ crossed_out exports k v
crossed_out_later exports more k v there =
    crossed_alike _ _ v (references_later exports more (actor_at k) (held_in v) there)
