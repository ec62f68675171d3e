use Rattle.std.proofs.Common.{sym, ◌∙◌}
use Rattle.kp_bound.proofs.Reading.{never_bare}
use Rattle.kp_bound.proofs.forms.bare_value_of.Goals as goal

pub returns-then-has_embedded-clause-none : goal.returns-then-has_embedded-clause-none
returns-then-has_embedded-clause-none c =
    never_bare c.args.bytes.now c.in-Some.value (rw c.in-Some.is at c.in_ok-found.ensures.only)
    (sym c.has_embedded.ensures ∙ c.if-has_embedded.true)
