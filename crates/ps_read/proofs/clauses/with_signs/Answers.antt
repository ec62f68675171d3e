use Rattle.std.proofs.Common.{ap, sym, ◌∙◌, arith, length}
use Rattle.ps_read.specs.Clauses.{pattern_at, with_signs}
use Rattle.ps_read.proofs.Grammar.{handed_on, none_left, misfit_stops, last_pattern, wrong_sign, right_sign, no_pattern}
use Rattle.ps_read.proofs.clauses.with_signs.Goals as goal

pub returns-in_err-pattern_at : goal.returns-in_err-pattern_at
returns-in_err-pattern_at c =
    handed_on (λ p. p) (λ v. v.items) c.in_err-pattern_at.field-0.0 c.from_residual.result
    (pattern_at c.signs.at c.in-Some.first.now) (with_signs c.args.sign.now c.args.place c.args.values.now)
    c.from_residual.ensures.1
    (λ m e. misfit_stops c.args.sign.now c.args.place c.signs.at c.args.values.now c.signs.rest.now c.signs.all.items
    c.in-Some.first.now c.in-Some.behind.now m c.signs.invariant.read c.in-Some.ensures.cases.0 e)
    c.in_err-pattern_at.ensures

pub returns-in_default-split_first : goal.returns-in_default-split_first
returns-in_default-split_first c =
    last_pattern c.args.sign.now c.args.place c.signs.at c.args.values.now c.signs.rest.now c.signs.all.items
    c.push.new.self.items c.in-Some.first.now c.in-Some.behind.now c.in_ok-pattern_at.field-0 c.signs.invariant.read
    c.in-Some.ensures.cases.0 (none_left c.in-Some.behind.now c.in_default-split_first.ensures.cases)
    c.in_ok-pattern_at.ensures c.in_ok-push.ensures.items

pub returns-then-not-is_sign : goal.returns-then-not-is_sign
returns-then-not-is_sign c =
    wrong_sign c.args.sign.now c.args.place c.signs.at c.args.values.now c.signs.rest.now c.signs.all.items
    c.in-Some.first.now c.in-Some-split_first.second.now c.in-Some.behind.now c.in-Some-split_first.after.now
    c.in_ok-pattern_at.field-0 c.signs.invariant.read c.in-Some.ensures.cases.0 c.in-Some-split_first.ensures.cases.0
    c.in_ok-pattern_at.ensures (sym c.is_sign.ensures ∙ c.if-not-is_sign.true)

pub signs-preserved : goal.signs-preserved
signs-preserved c = record {
  read = right_sign c.args.sign.now c.args.place c.signs.at c.args.values.now c.signs.rest.now c.signs.all.items
      c.push.new.self.items c.in-Some.first.now c.in-Some-split_first.second.now c.in-Some.behind.now
      c.in-Some-split_first.after.now c.in_ok-pattern_at.field-0 c.signs.invariant.read c.in-Some.ensures.cases.0
      c.in-Some-split_first.ensures.cases.0 c.in_ok-pattern_at.ensures (sym c.is_sign.ensures ∙ c.if-not-is_sign.false)
      c.in_ok-push.ensures.items;
  place = omega (
    arith,
    c.signs.invariant.place,
    ap length c.in-Some.ensures.cases.0,
    ap length c.in-Some-split_first.ensures.cases.0,
  );
}

pub returns : goal.returns
returns c =
    no_pattern c.args.sign.now c.args.place c.signs.at c.args.values.now c.signs.rest.now c.signs.all.items
    c.signs.invariant.read (none_left c.signs.rest.now c.in_default.ensures.cases)
