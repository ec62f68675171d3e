-- Shapes in the order of their outlines: each is found by its outline.
use Rattle.std.proofs.Common.{◌≡◌, List, [], ◌∷◌, map}
use Rattle.std.proofs.Common.{Bool, true, false, cond, ◌&&◌, ◌||◌, Option, Some, is_some, refl, ap}
use Rattle.std.proofs.Common.{◌∙◌}
use Rattle.std.specs.declared.cmp.Ordering.TheVariants.{Less}
use Rattle.std.specs.Ordering.{is_eq}
use Rattle.std.specs.List.{list_any, AllByRecursion}
use Rattle.std.specs.List.Sorted.{IsStrictlySortedBy}
use Rattle.ds_shape.specs.Outlines.{Outline}
use Rattle.ds_skeleton.specs.Places.{outline_order, same_outline}
use Rattle.ds_skeleton.specs.Shapes.{Shape, shape_at, is_kept, AreInOrder}
use Rattle.ds_skeleton.proofs.Same.{outline_self, outline_turns}

all_of : {X : Type 0} (P Q R : X → Type 0) → ((x : X) → P x → Q x → R x) → (xs : List X) → AllByRecursion P xs
    → AllByRecursion Q xs → AllByRecursion R xs
all_of P Q R f [] p q = tt
all_of P Q R f (x ∷ xs) p q = (f x p.0 q.0, all_of P Q R f xs p.1 q.1)

all_from : {X Y : Type 0} (P : Y → Type 0) (f : X → Y) (xs : List X) → AllByRecursion P (map f xs)
    → AllByRecursion (λ x. P (f x)) xs
all_from P f [] h = tt
all_from P f (x ∷ xs) h = (h.0, all_from P f xs h.1)

abbrev Finds : List Shape → Shape → Type 0
Finds S x = shape_at S x.outline ≡ Some x

passes_on : (s x : Shape) (S : List Shape) → outline_order s.outline x.outline ≡ Less → Finds S x → Finds (s ∷ S) x
passes_on s x S below found =
    ap (λ b. cond {A = Option Shape} b (Some s) (shape_at S x.outline))
    (outline_turns x.outline s.outline ∙ ap is_eq below)
    ∙ found

each_found : (S : List Shape) → AreInOrder S → AllByRecursion (Finds S) S
unfolding IsStrictlySortedBy
each_found [] o = tt
each_found (s ∷ ss) o = (
  ap (λ b. cond {A = Option Shape} b (Some s) (shape_at ss s.outline)) (outline_self s.outline),
  all_of (λ x. outline_order s.outline x.outline ≡ Less) (Finds ss) (Finds (s ∷ ss))
      (λ x below found. passes_on s x ss below found) ss
      (all_from (λ z. outline_order s.outline z ≡ Less) (λ x. x.outline) ss o.0) (each_found ss o.1),
)

none_of : {X : Type 0} (P : X → Type 0) (p : X → Bool) (xs : List X) → AllByRecursion P xs
    → ((x : X) → P x → p x ≡ false) → list_any p xs ≡ false
none_of P p [] a h = refl
none_of P p (x ∷ xs) a h = ap (λ b. b || list_any p xs) (h x a.0) ∙ none_of P p xs a.1 h

any_of : {X : Type 0} (P : X → Type 0) (p r : X → Bool) (b : Bool) (xs : List X) → AllByRecursion P xs
    → ((x : X) → P x → p x ≡ (r x && b)) → list_any p xs ≡ (list_any r xs && b)
any_of P p r b [] a h = refl
any_of P p r b (x ∷ xs) a h =
    ap (λ t. t || list_any p xs) (h x a.0) ∙ ap (λ t. (r x && b) || t) (any_of P p r b xs a.1 h)
    ∙ split_or (r x) (list_any r xs) b
  where
    split_or : (u w b : Bool) → ((u && b) || (w && b)) ≡ ((u || w) && b)
    split_or true true true = refl
    split_or true true false = refl
    split_or true false true = refl
    split_or true false false = refl
    split_or false w b = refl

kept_any : (S : List Shape) (o : Outline) → list_any (λ s. same_outline o s.outline) S ≡ is_kept S o
kept_any [] o = refl
kept_any (s ∷ ss) o = by (same_outline o s.outline) (kept_any ss o)
  where
    by : (b : Bool) → list_any (λ s. same_outline o s.outline) ss ≡ is_kept ss o
        → (b || list_any (λ s. same_outline o s.outline) ss)
        ≡ is_some (cond {A = Option Shape} b (Some s) (shape_at ss o))
    by true i = refl
    by false i = i

pub none_found : (S : List Shape) (p : Shape → Bool) → AreInOrder S
    → ((x : Shape) → shape_at S x.outline ≡ Some x → p x ≡ false) → list_any p S ≡ false
none_found S p o h = none_of (Finds S) p S (each_found S o) h

-- what holds at the shape of one outline alone
pub any_found : (S : List Shape) (p : Shape → Bool) (o : Outline) (b : Bool) → AreInOrder S
    → ((x : Shape) → shape_at S x.outline ≡ Some x → p x ≡ (same_outline o x.outline && b))
    → list_any p S ≡ (is_kept S o && b)
any_found S p o b ordered h =
    any_of (Finds S) p (λ x. same_outline o x.outline) b S (each_found S ordered) h ∙ ap (λ t. t && b) (kept_any S o)
