use Rattle.std.proofs.Common.{◌≡◌, [], sym, subst, ◌∙◌}
use Rattle.std.specs.BTreeMap.{is_at}
use Rattle.std.specs.Map.{lookup}
use Rattle.pv_value.specs.Order.{order}
use Rattle.ac_world.specs.Keeping.{IsToldBy, turning, turning_by}
use Rattle.ac_world.specs.Turns.{Turning}
use Rattle.ac_world.proofs.OwnFacets.{own_facet_passes}
use Rattle.ac_world.proofs.Standing.{stands_first_allocated, first_allocated_there}
use Rattle.ac_world.proofs.residents.Resident.allocate.Goals as goal

pub returns-in-Some-facet-clause-there : goal.returns-in-Some-facet-clause-there
returns-in-Some-facet-clause-there g c =
    let k = c.in-Some.group.now in
    let fs = c.args.self.now.groups.facets in
    let told : c.args.facet ≡ lookup (is_at (order k)) fs =
    subst (λ x. IsToldBy x fs c.args.facet) (sym c.in-Some.ensures) c.requires.facet in
    (own_facet_passes _ (is_at (order k)) c.in-Some-facet.facet fs (sym told ∙ c.in-Some-facet.is)
    c.requires.stands.own_facets.there).1

pub returns-clause-stands : goal.returns-clause-stands
returns-clause-stands g c =
    let t : Turning = turning_by g.Y.System.rows (turning c.args.self.now c.args.plan.now []) in
    let made = c.in_ok-facet.ensures in
    let s = stands_first_allocated c.args.actor c.in-Some.group.now t c.requires.stands c.in_ok-facet.facet
    c.put_facet.new.self.facets c.allocate_facet.new.self made.some made.free c.in_ok-put_facet.ensures.facets
    made.made in
    record { live = s.live; rooted = s.rooted; own_facets = s.own_facets }

pub returns-clause-there : goal.returns-clause-there
returns-clause-there g c =
    let t : Turning = turning_by g.Y.System.rows (turning c.args.self.now c.args.plan.now []) in
    first_allocated_there c.args.actor c.in-Some.group.now t c.requires.stands c.in_ok-facet.facet
    c.allocate_facet.new.self
    c.in_ok-facet.ensures.made
