use Rattle.std.proofs.Common.{ap, sym, ◌∙◌, Ok, Err, codes, Vec, Global}
use Rattle.ps_schema.specs.declared.Pattern.{Pattern}
use Rattle.ps_read.specs.Clauses.{meaning, with_signs}
use Rattle.ps_read.proofs.Grammar.{handed_on, either_of, each_of}
use Rattle.ps_read.proofs.clauses.meaning.Goals as goal

pub returns-in_err-all : goal.returns-in_err-all
returns-in_err-all c =
    handed_on (λ (v : Vec Pattern Global). v.items) (λ p. p) c.in_err-all.field-0.0 c.from_residual.result
    (with_signs (codes "/") c.args.at c.args.values.now) (meaning c.args.at c.args.values.now)
    c.from_residual.ensures.1
    (λ m e. either_of c.args.at c.args.values.now c.in-Some.behind.now c.in-Some-split_first.field-0-1.now
    c.in-Some.first.now c.in-Some-split_first.sign.now (Err m) c.in-Some.ensures.cases.0
    c.in-Some-split_first.ensures.cases.0 (sym c.is_sign.ensures ∙ c.if-is_sign.true) e)
    c.in_err-all.ensures

pub returns-in_err-all-2 : goal.returns-in_err-all-2
returns-in_err-all-2 c =
    handed_on (λ (v : Vec Pattern Global). v.items)
    (λ p. p) c.in_err-all-2.field-0.0 c.from_residual-in_err-all-2.result
    (with_signs (codes "&") c.args.at c.args.values.now) (meaning c.args.at c.args.values.now)
    c.from_residual-in_err-all-2.ensures.1
    (λ m e. each_of c.args.at c.args.values.now c.in-Some.behind.now c.in-Some-split_first.field-0-1.now
    c.in-Some.first.now c.in-Some-split_first.sign.now (Err m) c.in-Some.ensures.cases.0
    c.in-Some-split_first.ensures.cases.0 (sym c.is_sign.ensures ∙ c.if-is_sign.false) e)
    c.in_err-all-2.ensures

pub returns-in_ok-all : goal.returns-in_ok-all
returns-in_ok-all c =
    either_of c.args.at c.args.values.now c.in-Some.behind.now c.in-Some-split_first.field-0-1.now c.in-Some.first.now
    c.in-Some-split_first.sign.now (Ok c.in_ok-all.all.items) c.in-Some.ensures.cases.0
    c.in-Some-split_first.ensures.cases.0 (sym c.is_sign.ensures ∙ c.if-is_sign.true) c.in_ok-all.ensures
    ∙ ap (λ p. Ok p) (sym c.pattern.ensures)

pub returns-in_ok-all-2 : goal.returns-in_ok-all-2
returns-in_ok-all-2 c =
    each_of c.args.at c.args.values.now c.in-Some.behind.now c.in-Some-split_first.field-0-1.now c.in-Some.first.now
    c.in-Some-split_first.sign.now (Ok c.in_ok-all-2.all.items) c.in-Some.ensures.cases.0
    c.in-Some-split_first.ensures.cases.0 (sym c.is_sign.ensures ∙ c.if-is_sign.false) c.in_ok-all-2.ensures
    ∙ ap (λ p. Ok p) (sym c.pattern-else-is_sign.ensures)
