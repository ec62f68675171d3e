-- Entries, places and outlines that are found to be one are one.
use Rattle.std.proofs.Common.{◌≡◌, Bool, true, false, ◌&&◌, refl, ap}
use Rattle.std.specs.declared.cmp.Ordering.{Ordering}
use Rattle.std.specs.declared.cmp.Ordering.TheVariants.{Less, Equal, Greater}
use Rattle.std.specs.Ordering.{is_eq, ordering_then}
use Rattle.std.specs.Cmp.{IsTotalOrder, on_total}
use Rattle.std.proofs.lemmas.Cmp.{tied_itself}
use Rattle.pv_value.specs.Plain.{Plain}
use Rattle.pv_value.specs.Order.{order}
use Rattle.pv_value.specs.EntryOrder.{entry_order}
use Rattle.pv_value.specs.Lemmas.OrderLaws.{order_total, order_same}
use Rattle.pv_value.specs.Lemmas.EntryOrderLaws.{entry_order_total}
use Rattle.pv_value.specs.declared.Entry.{Entry}
use Rattle.pv_words.specs.Lemmas.Same.{same_is, same_self}
use Rattle.pv_words.specs.Parts.{same}
use Rattle.ds_shape.specs.Outlines.{Outline}
use Rattle.ds_shape.specs.Keys.{outline_value}
use Rattle.ds_shape.specs.Lemmas.Telling.{outline_tells}
use Rattle.ds_space.specs.Lemmas.Keys.{same_turns}
use Rattle.ds_skeleton.specs.Places.{Place, outline_order, same_outline, same_entry, same_place}

pub both_eq : (r s : Ordering) → is_eq (ordering_then r s) ≡ (is_eq r && is_eq s)
both_eq Less s = refl
both_eq Equal s = refl
both_eq Greater s = refl

-- ---- entries

then_both : (r s : Ordering) → ordering_then r s ≡ Equal → (r ≡ Equal) × (s ≡ Equal)
then_both Less s e = cc
then_both Equal s e = (refl, e)
then_both Greater s e = cc

is_equal : (o : Ordering) → is_eq o ≡ true → o ≡ Equal
is_equal Less e = cc
is_equal Equal e = refl
is_equal Greater e = cc

pub entry_of_parts : (a b c d : Plain) → a ≡ b → c ≡ d → let p : Entry = record { key = a; value = c } in
    let q : Entry = record { key = b; value = d } in p ≡ q
entry_of_parts a b c d e f = cc

pub exact_entry : (p q : Entry) → entry_order p q ≡ Equal → p ≡ q
exact_entry p q e =
    let both = then_both (order p.key q.key) (order p.value q.value) e in
    entry_of_parts p.key q.key p.value q.value (order_same p.key q.key both.0) (order_same p.value q.value both.1)

pub entry_is : (p q : Entry) → same_entry p q ≡ true → p ≡ q
entry_is p q e = exact_entry p q (is_equal (entry_order p q) e)

pub entry_self : (p : Entry) → same_entry p p ≡ true
entry_self p = ap is_eq (tied_itself entry_order_total p)

-- ---- outlines

pub outline_total : IsTotalOrder outline_order
outline_total = on_total outline_value order_total

pub outline_is : (s t : Outline) → same_outline s t ≡ true → s ≡ t
outline_is s t e = outline_tells s t (same_is (outline_value s) (outline_value t) e)

pub outline_self : (s : Outline) → same_outline s s ≡ true
outline_self s = same_self (outline_value s)

pub outline_turns : (s t : Outline) → same_outline s t ≡ same_outline t s
outline_turns s t = same_turns (outline_value s) (outline_value t)

-- ---- places

and_parts : (a b : Bool) → (a && b) ≡ true → (a ≡ true) × (b ≡ true)
and_parts true b e = (refl, e)
and_parts false b e = cc

pub place_is : (p q : Place) → same_place p q ≡ true → p ≡ q
place_is p q e =
    let both = and_parts (same_outline p.outline q.outline) (same p.constants q.constants) e in
    λ i. record {
      outline = outline_is p.outline q.outline both.0 i;
      constants = same_is p.constants q.constants both.1 i;
    }

pub place_self : (p : Place) → same_place p p ≡ true
place_self p = rw (outline_self p.outline, same_self p.constants) refl
