use Rattle.std.proofs.Common.{ap, ◌∙◌}
use Rattle.ps_schema.specs.Places.{place_of}
use Rattle.ps_schema.proofs.Indexes.{found_place}
use Rattle.ps_schema.proofs.indexed.Indexed.place.Goals as goal

pub returns-clause-found : goal.returns-clause-found
returns-clause-found c =
    found_place c.copied.result c.args.self.now c.args.name.now
    (c.copied.ensures ∙ c.get.ensures.value ∙ c.self.invariant c.args.name.now
    ∙ ap (λ ds. place_of ds c.args.name.now) c.self.view_is)
