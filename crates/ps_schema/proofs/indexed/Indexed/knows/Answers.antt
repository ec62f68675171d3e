use Rattle.std.proofs.Common.{ap, ◌∙◌, is_some}
use Rattle.ps_schema.proofs.Indexes.{known_place}
use Rattle.ps_schema.proofs.indexed.Indexed.knows.Goals as goal

pub returns : goal.returns
returns c =
    c.is_some.ensures ∙ ap is_some c.place.ensures.place ∙ known_place 0 c.args.self.now c.args.name.now
