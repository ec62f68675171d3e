-- One of the three words isn't what it has to be.
use Rattle.std.proofs.Common.{ℕ, rules}
use Rattle.dsd_top.specs.Numbers.{IsNumberWithin}
use Rattle.dsd_top.proofs.Minted.{refuted}
use Rattle.dsd_query.specs.Limits.{most_lines}
use Rattle.dsd_query.specs.Queries.{IsReferenceIn, IsPatternIn, IsQuestion}
use Rattle.dsd_query.proofs.words.question_in.Goals as goal

pub returns-in_default : goal.returns-in_default
returns-in_default c = λ q is.
    let none : (n : ℕ) → IsNumberWithin 1 most_lines c.args.lines.now n → ⊥ = search rules in none q.lines is.2

pub returns-in_err-reference : goal.returns-in_err-reference
returns-in_err-reference c =
    refuted (λ v. v) (IsReferenceIn c.args.reference.now) (λ q. q)
    (IsQuestion c.args.reference.now c.args.pattern.now c.args.lines.now) c.from_residual.result
    c.in_err-reference.field-0.0 c.from_residual.ensures.1 (λ none q is. none q.reference is.0)
    c.in_err-reference.ensures

pub returns-in_err-pattern : goal.returns-in_err-pattern
returns-in_err-pattern c =
    refuted (λ v. v) (IsPatternIn c.args.pattern.now) (λ q. q)
    (IsQuestion c.args.reference.now c.args.pattern.now c.args.lines.now) c.from_residual-in_err-pattern.result
    c.in_err-pattern.field-0.0 c.from_residual-in_err-pattern.ensures.1 (λ none q is. none q.pattern is.1)
    c.in_err-pattern.ensures
