use Rattle.std.proofs.Common.{◌≡◌, true, refl}
use Rattle.std.specs.declared.cmp.Ordering.{Ordering}
use Rattle.std.specs.declared.cmp.Ordering.TheVariants.{Less, Equal, Greater}
use Rattle.std.specs.Ordering.{eq_by_cmp, is_eq}
use Rattle.pv_value.specs.Plain.{Plain}
use Rattle.pv_value.specs.Order.{order}
use Rattle.pv_value.specs.Lemmas.OrderLaws.{order_same}
use Rattle.row_steps.proofs.steps.difference.Goals as goal

-- values that compare as equal are the same
same : (v w : Plain) → true ≡ eq_by_cmp order v w → v ≡ w
same v w e = by (order v w) refl e
  where
    by : (o : Ordering) → order v w ≡ o → true ≡ is_eq o → v ≡ w
    by Less is e = absurd cc
    by Equal is e = order_same v w is
    by Greater is e = absurd cc

pub returns-then-eq : goal.returns-then-eq
returns-then-eq c _ = same c.args.given.now c.args.wanted.now c.if-eq.ensures
