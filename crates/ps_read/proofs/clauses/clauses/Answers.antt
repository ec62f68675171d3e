use Rattle.std.proofs.Common.{◌∙◌, ◌+◌, arith, length, codes, [], Ok, Err}
use Rattle.ps_read.specs.Clauses.{clauses, unended, clause_of}
use Rattle.ps_read.specs.Pieces.{pieces}
use Rattle.ps_read.specs.Written.{is_sign}
use Rattle.ps_read.proofs.Firsts.{definitions_all, definitions_misfit}
use Rattle.ps_read.proofs.Grammar.{handed_on, last_clause, bad_clause, good_clause}
use Rattle.ps_read.proofs.clauses.clauses.Goals as goal

pub returns-in_err-unended : goal.returns-in_err-unended
returns-in_err-unended c =
    let is = rw c.in_default.is at c.first_clause.ensures.clauses in
    handed_on {T = Unit {0}} (λ u. []) (λ v. v.items) c.in_err-unended.field-0.0 c.from_residual.result
    (unended c.clauses.at c.first_clause.result.0.now)
    (clauses c.args.place (pieces (is_sign (codes ".")) c.args.values.now)) c.from_residual.ensures.1
    (λ m e. last_clause c.args.place c.clauses.at c.args.values.now c.clauses.rest.now c.first_clause.result.0.now
    c.clauses.defs.items (Err m) c.clauses.invariant.read is e ∙ definitions_misfit c.clauses.defs.items m)
    c.in_err-unended.ensures

pub returns-in_default : goal.returns-in_default
returns-in_default c =
    let is = rw c.in_default.is at c.first_clause.ensures.clauses in
    last_clause c.args.place c.clauses.at c.args.values.now c.clauses.rest.now c.first_clause.result.0.now
    c.clauses.defs.items (Ok []) c.clauses.invariant.read is c.in_ok-unended.ensures
    ∙ definitions_all c.clauses.defs.items

pub returns-in_err-definition : goal.returns-in_err-definition
returns-in_err-definition c =
    let is = rw c.in-Some.is at c.first_clause.ensures.clauses in
    handed_on (λ d. d) (λ v. v.items) c.in_err-definition.field-0.0 c.from_residual-in_err-definition.result
    (clause_of c.clauses.at c.first_clause.result.0.now)
    (clauses c.args.place (pieces (is_sign (codes ".")) c.args.values.now))
    c.from_residual-in_err-definition.ensures.1
    (λ m e. bad_clause c.args.place c.clauses.at c.args.values.now c.clauses.rest.now c.first_clause.result.0.now
    c.in-Some.after.now c.clauses.defs.items m c.clauses.invariant.read is e)
    c.in_err-definition.ensures

pub clauses-preserved : goal.clauses-preserved
clauses-preserved c =
    let is = rw c.in-Some.is at c.first_clause.ensures.clauses in
    let lengths = rw c.in-Some.is at c.first_clause.ensures.lengths in
    record {
      read = good_clause c.args.place c.clauses.at (c.clauses.at + (length c.first_clause.result.0.now + 1))
          c.args.values.now c.clauses.rest.now c.first_clause.result.0.now c.in-Some.after.now c.clauses.defs.items
          c.add.new.defs.items c.in_ok-definition.definition c.clauses.invariant.read is c.in_ok-definition.ensures
          c.in_ok-add.ensures (omega arith);
      place = omega (arith, lengths, c.clauses.invariant.place);
    }
