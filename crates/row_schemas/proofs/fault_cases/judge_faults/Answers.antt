use Rattle.std.proofs.Common.{ℕ, ◌<◌, ◌-◌, ◌^◌, ◌==◌, ◌∷◌, [], List, Bor, length, map, lit<, subst, arith}
use Rattle.std.specs.List.{All}
use Rattle.std.proofs.lemmas.Iterator.Consumers.{YieldsList-at, YieldsList-turn, YieldsList-end}
use Rattle.std.proofs.lemmas.Iterator.Splits.{YieldsList-from_str_split}
use Rattle.std.proofs.lemmas.List.Elements.{All-push}
use Rattle.std.proofs.lemmas.List.Splits.{length-slice_split}
use Rattle.std.proofs.lemmas.List.Sums.{count_by-le-length}
use Rattle.std.proofs.lemmas.List.{length-map, map-append}
use Rattle.row_cases.specs.Cases.{is_case}
use Rattle.row_cases.specs.Findings.{AreJudged}
use Rattle.row_cases.specs.Lemmas.Judging.{judged_more}
use Rattle.row_schemas.specs.FaultCases.{FaultLineHolds}
use Rattle.row_schemas.proofs.fault_cases.judge_faults.Goals as goal

pub loop-line-preserved : goal.loop-line-preserved
loop-line-preserved c =
    let text = c.args.text.now in
    let road =
    YieldsList-at c.into_iter-line-iterator.ensures.into_iter_gives
    (YieldsList-from_str_split 10 text (lit< tt) c.split-line-items.ensures.text c.split-line-items.ensures.has_more
    c.split-line-items.ensures.pattern) in
    let turn =
    YieldsList-turn road c.loop-line.yielded _ c.loop-line.yielded_by _ _ c.in-Some.line c.in-Some.is
    c.next.ensures.steps in
    let lines = map (λ x. x.now) c.loop-line.yielded in
    let parts = length-slice_split (λ b. b == 10) text in
    let most = count_by-le-length (λ b. b == 10) text in
    let same = length-map c.loop-line.yielded (λ (x : Bor (List ℕ)). x.now) in
    let small : length lines < 2 ^ 64 - 1 = omega (arith, turn.0, parts, most, same) in
    rw (map-append (λ (x : Bor (List ℕ)). x.now) c.loop-line.yielded (c.in-Some.line ∷ []))
    (judged_more is_case lines c.in-Some.line.now _ _ _ c.loop-line.findings c.judge_line.new.findings small
    (All-push FaultLineHolds lines c.in-Some.line.now) c.in_ok-judge_line.ensures c.loop-line.invariant)

pub returns : goal.returns
returns c =
    let road =
    YieldsList-at c.into_iter-line-iterator.ensures.into_iter_gives
    (YieldsList-from_str_split 10 c.args.text.now (lit< tt) c.split-line-items.ensures.text
    c.split-line-items.ensures.has_more c.split-line-items.ensures.pattern) in
    let all = YieldsList-end road c.loop-line.yielded _ c.loop-line.yielded_by _ _ c.in-None.is c.next.ensures.steps in
    let Are : List (List ℕ) → Type 0 = λ lines.
    AreJudged is_case lines (All FaultLineHolds lines) c.loop-line.findings in
    subst Are all.0 c.loop-line.invariant
