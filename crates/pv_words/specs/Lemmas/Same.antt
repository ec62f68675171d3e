-- Values that compare alike are one.
use Rattle.std.proofs.Common.{◌≡◌, true, refl, ap}
use Rattle.std.specs.declared.cmp.Ordering.{Ordering}
use Rattle.std.specs.declared.cmp.Ordering.TheVariants.{Less, Equal, Greater}
use Rattle.std.specs.Ordering.{is_eq}
use Rattle.std.proofs.lemmas.Cmp.{tied_itself}
use Rattle.pv_value.specs.Plain.{Plain}
use Rattle.pv_value.specs.Order.{order}
use Rattle.pv_value.specs.Lemmas.OrderLaws.{order_total, order_same}
use Rattle.pv_words.specs.Parts.{same}

Equal-is_eq : (o : Ordering) → is_eq o ≡ true → o ≡ Equal
Equal-is_eq Less e = cc
Equal-is_eq Equal e = refl
Equal-is_eq Greater e = cc

pub same_is : (x y : Plain) → same x y ≡ true → x ≡ y
same_is x y e = order_same x y (Equal-is_eq (order x y) e)

pub same_self : (x : Plain) → same x x ≡ true
same_self x = ap is_eq (tied_itself order_total x)
