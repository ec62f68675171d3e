use Rattle.std.proofs.Common.{ap, ◌∙◌, arith}
use Rattle.std.proofs.lemmas.Fmt.{parse-decimal}
use Rattle.std.specs.Result.{result_ok}
use Rattle.dsd_serve.proofs.numbers.parsed.Goals as goal

pub returns : goal.returns
returns c = λ n few is.
    c.ok.ensures.value
    ∙ ap result_ok (parse-decimal 32 n _ c.parse.result few (omega (arith, few)) is c.parse.ensures.value.0)
