use Rattle.std.proofs.Common.{◌∙◌, sym, ap}
use Rattle.ac_table.specs.Facets.{is_facet}
use Rattle.ac_table.specs.Placed.{tree_in}
use Rattle.ac_table.proofs.Placing.{facet-seen}
use Rattle.ac_table.proofs.facets.Facets.has.Goals as goal

pub returns : goal.returns
returns c = let i = c.self.inside in
    c.contains_key.ensures ∙ sym (facet-seen c.args.facet i.all.entries)
    ∙ ap (λ fs. is_facet c.args.facet (tree_in fs)) c.self.view_is
