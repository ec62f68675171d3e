use Rattle.std.proofs.Common.{◌≡◌, None, ap, sym, ◌∙◌, subst, ℕ}
use Rattle.gk_sturdy.specs.Bindings.{binding_for}
use Rattle.gk_sturdy.proofs.Places.{Puts, kept_push, not_some}
use Rattle.gk_sturdy.proofs.bound.Bindings.add.Goals as goal

pub invariant_of-self-2 : goal.invariant_of-self-2
invariant_of-self-2 c =
    let i = c.self.inside in
    let b = c.args.binding in
    let absent : binding_for b.oid i.list.items ≡ None =
    ap (binding_for b.oid) c.self.view_is ∙ not_some _ (sym c.has.ensures ∙ c.if-has.false) in
    kept_push i.list.items c.put.new.list.items i.places.entries c.put.new.places.entries b c.self.invariant absent
    c.in_ok-put.ensures.list
    (subst (λ (n : ℕ). Puts i.places.entries c.put.new.places.entries b.oid n) i.list.ok.0 c.in_ok-put.ensures.places)
