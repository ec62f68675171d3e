use Rattle.std.proofs.Common.{rules}
use Rattle.std.proofs.lemmas.Fn.{always_returns_same}
use Rattle.ds_skeleton.specs.Places.{outline_order}
use Rattle.ds_skeleton.proofs.Places.{searched}
use Rattle.ds_skeleton.proofs.finding.position.Goals as goal

pub returns-clause-place : goal.returns-clause-place
returns-clause-place c =
    searched c.args.outline.now c.args.shapes.now c.binary_search_by.result c.requires
    (c.binary_search_by.ensures.position (λ s. outline_order s.outline c.args.outline.now)
    (always_returns_same _ _ _ (λ a r q k. search rules)))
