use Rattle.std.proofs.Common.{◌≡◌, [], true, false, Bool, not, refl, sym, subst, ◌∙◌}
use Rattle.std.specs.BTreeMap.{is_at}
use Rattle.std.specs.Map.{lookup}
use Rattle.pv_value.specs.Order.{order}
use Rattle.ac_table.specs.Tables.{has_rows}
use Rattle.ac_world.specs.Keeping.{IsToldBy, turning, turning_by}
use Rattle.ac_world.specs.Turns.{Turning}
use Rattle.ac_world.proofs.OwnFacets.{own_facet_passes}
use Rattle.ac_world.proofs.Standing.{stands_emptied}
use Rattle.ac_world.proofs.residents.Resident.release.Goals as goal

not_true : (b : Bool) → not b ≡ true → b ≡ false
not_true true is = absurd cc
not_true false is = refl

pub release_facet-requires-clause-there : goal.release_facet-requires-clause-there
release_facet-requires-clause-there g c =
    let k = c.in-Some.group.now in
    let fs = c.args.self.now.groups.facets in
    let told : c.args.facet ≡ lookup (is_at (order k)) fs =
    subst (λ x. IsToldBy x fs c.args.facet) (sym c.in-Some.ensures) c.requires.facet in
    (own_facet_passes _ (is_at (order k)) c.in-Some-facet.facet fs (sym told ∙ c.in-Some-facet.is)
    c.requires.stands.own_facets.there).1

pub release_facet-requires-clause-below : goal.release_facet-requires-clause-below
release_facet-requires-clause-below g c =
    let k = c.in-Some.group.now in
    let fs = c.args.self.now.groups.facets in
    let told : c.args.facet ≡ lookup (is_at (order k)) fs =
    subst (λ x. IsToldBy x fs c.args.facet) (sym c.in-Some.ensures) c.requires.facet in
    (own_facet_passes _ (is_at (order k)) c.in-Some-facet.facet fs (sym told ∙ c.in-Some-facet.is)
    c.requires.stands.own_facets.there).0

pub returns-clause-stands : goal.returns-clause-stands
returns-clause-stands g c =
    let a = c.args.actor in
    let f = c.in-Some-facet.facet in
    let k = c.in-Some.group.now in
    let t : Turning = turning_by g.Y.System.rows (turning c.args.self.now c.args.plan.now []) in
    let told : c.args.facet ≡ lookup (is_at (order k)) t.resident.facets =
    subst (λ x. IsToldBy x t.resident.facets c.args.facet) (sym c.in-Some.ensures) c.requires.facet in
    let none : has_rows a f t.plan.table ≡ false =
    not_true (has_rows a f t.plan.table) (sym c.in_ok-release_facet.ensures.stopped ∙ c.if-not-branch.false) in
    let s = stands_emptied a k t c.requires.stands f c.take_facet.new.self.facets c.release_facet.new.self
    (sym told ∙ c.in-Some-facet.is) none c.in_ok-take_facet.ensures.facets c.in_ok-release_facet.ensures.state in
    record { live = s.live; rooted = s.rooted; own_facets = s.own_facets }
