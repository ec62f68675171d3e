use Rattle.std.proofs.Common.{Some, ◌++◌, ap, sym, ◌∙◌}
use Rattle.dp_pattern.specs.Gathered.{gathered}
use Rattle.dp_pattern.proofs.Gathering.{found_gathered}
use Rattle.dp_pattern.proofs.matching.captures.Goals as goal

pub returns : goal.returns
returns c =
    ap Some (c.in_ok-from_vec.ensures ∙ c.in_ok-gather.ensures
    ∙ ap (λ xs. xs ++ gathered c.args.pattern.now c.args.value.now) c.new-found.ensures.items)
    ∙ found_gathered c.args.pattern.now c.args.value.now (sym c.matches.ensures ∙ c.if-not-matches.false)
