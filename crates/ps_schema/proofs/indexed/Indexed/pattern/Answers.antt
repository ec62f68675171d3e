use Rattle.std.proofs.Common.{ap, sym, ◌∙◌, option_copied}
use Rattle.ps_schema.proofs.indexed.Indexed.pattern.Goals as goal

pub returns-in_err-place : goal.returns-in_err-place
returns-in_err-place c = ap option_copied c.from_residual.ensures ∙ sym c.in_err-place.ensures.found
