-- The goals of `made` that the check leaves.
use Rattle.std.proofs.Common.{sym, ◌∙◌}
use Rattle.sr_caveat.specs.Lemmas.Told.{if_ok_is}
use Rattle.sr_pass.proofs.Reckoning.{made_fits, large_refused}
use Rattle.sr_pass.proofs.filling.made.Goals as goal

pub returns : goal.returns
returns c =
    if_ok_is c.fill.result _ _
    (made_fits c.args.template.now c.args.bindings.now
    (sym c.gives_small.ensures ∙ c.if-not-gives_small.false)) c.fill.ensures

pub returns-then-not-gives_small : goal.returns-then-not-gives_small
returns-then-not-gives_small c =
    large_refused c.args.template.now c.args.bindings.now
    (sym c.gives_small.ensures ∙ c.if-not-gives_small.true)
