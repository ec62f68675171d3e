use Rattle.std.proofs.Common.{slice_get, ap, sym, ◌∙◌}
use Rattle.gk_sturdy.specs.Bindings.{binding_for}
use Rattle.gk_sturdy.proofs.Places.{binding_at, found, lent}
use Rattle.gk_sturdy.proofs.bound.Bindings.get.Goals as goal

pub returns-clause-found : goal.returns-clause-found
returns-clause-found c =
    let list = c.self.inside.list.items in
    let oid = c.args.oid.now in
    lent c.get-2.result c.deref.result.now c.in_ok-place.place.now c.get-2.ensures.lookup
    ∙ ap (λ l. slice_get l c.in_ok-place.place.now) c.deref.ensures.value
    ∙ ap (binding_at list) (c.in_ok-place.ensures.value ∙ c.self.invariant.placed oid)
    ∙ sym (found oid list) ∙ ap (binding_for oid) c.self.view_is
