-- The order by marks is total, and it tells the same values apart as the order of values.
use Rattle.std.proofs.Common.{◌≡◌, refl, ap, sym, ◌∙◌}
use Rattle.std.specs.declared.cmp.Ordering.{Ordering}
use Rattle.std.specs.declared.cmp.Ordering.TheVariants.{Less, Equal, Greater}
use Rattle.std.specs.Ordering.{ordering_then, nat_cmp, is_eq, eq_by_cmp}
use Rattle.std.specs.Cmp.{IsTotalOrder, then_total, on_total}
use Rattle.std.proofs.lemmas.Cmp.{nat_cmp_total, tied_itself}
use Rattle.pv_value.specs.Plain.{Plain}
use Rattle.pv_value.specs.Order.{order}
use Rattle.pv_value.specs.Lemmas.OrderLaws.{order_total, order_same}
use Rattle.pv_marks.specs.Marks.{mark}
use Rattle.pv_marks.specs.MarkedOrder.{marked_order}

pub marked_order_total : IsTotalOrder marked_order
marked_order_total = then_total (on_total mark nat_cmp_total) order_total

then_is : (r s : Ordering) → (s ≡ Equal → r ≡ Equal) → is_eq (ordering_then r s) ≡ is_eq s
then_is Equal s h = refl
then_is Less Less h = refl
then_is Less Equal h = let e : Less ≡ Equal = h refl in absurd cc
then_is Less Greater h = refl
then_is Greater Less h = refl
then_is Greater Equal h = let e : Greater ≡ Equal = h refl in absurd cc
then_is Greater Greater h = refl

-- values are equal by marks where they are equal
pub marked_same : (x y : Plain) → eq_by_cmp marked_order x y ≡ eq_by_cmp order x y
marked_same x y =
    then_is (nat_cmp (mark x) (mark y)) (order x y)
    (λ e. ap (λ z. nat_cmp (mark x) (mark z)) (sym (order_same x y e)) ∙ tied_itself nat_cmp_total (mark x))

then_Equal : (r s : Ordering) → ordering_then r s ≡ Equal → s ≡ Equal
then_Equal Less s e = cc
then_Equal Equal s e = e
then_Equal Greater s e = cc

pub marked_order_same : (x y : Plain) → marked_order x y ≡ Equal → x ≡ y
marked_order_same x y e = order_same x y (then_Equal (nat_cmp (mark x) (mark y)) (order x y) e)
