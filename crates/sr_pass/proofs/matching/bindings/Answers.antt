-- The goals of `bindings` that the check leaves.
use Rattle.std.proofs.Common.{Some, ◌++◌, ap, sym, ◌∙◌}
use Rattle.sr_pass.specs.Gathered.{gathered}
use Rattle.sr_pass.proofs.Gathering.{found_gathered}
use Rattle.sr_pass.proofs.matching.bindings.Goals as goal

pub returns : goal.returns
returns c =
    ap Some (c.in_ok-gather.ensures
    ∙ ap (λ xs. xs ++ gathered c.args.pattern.now c.args.value.now) c.new-found.ensures.items)
    ∙ found_gathered c.args.pattern.now c.args.value.now (sym c.matches.ensures ∙ c.if-not-matches.false)
