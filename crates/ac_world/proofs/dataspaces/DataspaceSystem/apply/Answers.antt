use Rattle.std.proofs.Common.{refl, subst}
use Rattle.std.specs.Map.{values_of}
use Rattle.ds_space.specs.Spaces.{IsApplied, changed}
use Rattle.ds_space.specs.declared.space.Applied.TheVariants.{Done}
use Rattle.ac_world.proofs.Spaces.{fits_by, exact}
use Rattle.ac_world.proofs.dataspaces.DataspaceSystem.apply.Goals as goal

pub returns-in-Done-clause-applied : goal.returns-in-Done-clause-applied
returns-in-Done-clause-applied g c =
    let old = g.S.Space.rows c.self.inside.space in
    let taken : IsApplied g.S.Space.rows (g.S.Space.rows c.replace-space.result) c.args.event
    (Done c.in-Done.space c.in-Done.changes) = rw c.in-Done.is at c.in_ok-space.ensures in
    let told : IsApplied g.S.Space.rows old c.args.event (Done c.in-Done.space c.in-Done.changes) =
    subst (λ x. IsApplied g.S.Space.rows (g.S.Space.rows x) c.args.event (Done c.in-Done.space c.in-Done.changes))
    c.replace-space.ensures.value taken in
    λ ds. rw (← c.self.view_is) (
      told.0,
      refl,
      exact (values_of old) (values_of (changed old c.args.event)) c.in-Done.changes.items told.2,
      fits_by ds (values_of (changed old c.args.event)) c.args.event told.3,
    )
