use Rattle.std.proofs.Common.{sym, ◌∙◌, ◌+◌, length, codes}
use Rattle.ps_read.specs.Clauses.{clauses, definitions_of}
use Rattle.ps_read.specs.Pieces.{pieces}
use Rattle.ps_read.specs.Written.{is_sign}
use Rattle.ps_read.proofs.Grammar.{gives_same, behind_version}
use Rattle.ps_read.proofs.clauses.definitions_of.Goals as goal

pub returns-in-Some-behind : goal.returns-in-Some-behind
returns-in-Some-behind c =
    let is = rw c.in-Some-behind.is at c.first_clause.ensures.clauses in
    gives_same (λ v. v.items) c.clauses.result
    (clauses (length c.first_clause.result.0.now + 1) (pieces (is_sign (codes ".")) c.in-Some-behind.rest.now))
    (definitions_of c.args.values.now)
    (behind_version c.args.values.now c.first_clause.result.0.now c.in-Some-behind.rest.now is
    (sym c.header.ensures ∙ c.in_default.is))
    c.clauses.ensures
