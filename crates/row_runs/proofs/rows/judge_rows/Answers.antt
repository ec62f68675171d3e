use Rattle.std.proofs.Common.{◌≡◌, ◌+◌, ◌-◌, ◌^◌, ◌<◌, List, [], ◌∷◌, ◌++◌, length, map, take, refl, sym, ap, ◌∙◌}
use Rattle.std.proofs.Common.{subst, arith}
use Rattle.std.specs.List.{All}
use Rattle.std.proofs.lemmas.List.Elements.{All-push}
use Rattle.std.proofs.lemmas.List.{length-map, length-take, map-append, take_more, take_all}
use Rattle.row_cases.specs.Findings.{AreJudged}
use Rattle.row_cases.specs.Lemmas.Judging.{judged_more, noted_case}
use Rattle.row_files.specs.Rows.{RowTold, row_told}
use Rattle.row_files.specs.declared.rows.Row.{Row}
use Rattle.row_runs.specs.Outcomes.{RowHolds, is_row}
use Rattle.row_runs.proofs.rows.judge_rows.Goals as goal

pub loop-row-preserved : goal.loop-row-preserved
loop-row-preserved c =
    let all = c.args.rows.now in
    let i = c.loop-row.row-index in
    let row = c.row-item.result in
    let so_far = map row_told (take i all) in
    let next : map row_told (take (i + 1) all) ≡ so_far ++ row_told row ∷ [] =
    ap (map row_told) (take_more all i row (omega arith)
    ∙ ap (λ (r : Row). take i all ++ r ∷ []) (sym c.row-item.is)) ∙ map-append row_told (take i all) (row ∷ []) in
    let small : length so_far < 2 ^ 64 - 1 = omega (arith, length-map (take i all) row_told, length-take i all) in
    let Are : List RowTold → Type 0 = λ rows. AreJudged is_row rows (All RowHolds rows) c.note.new.self in
    subst Are (sym next)
    (judged_more is_row so_far (row_told row) _ _ _ c.loop-row.findings c.note.new.self small
    (All-push RowHolds so_far (row_told row))
    (noted_case (is_row (row_told row)) (RowHolds (row_told row)) _ _ _ refl c.in_ok-judge_row.ensures
    c.in_ok-note.ensures.passed c.in_ok-note.ensures.failed)
    c.loop-row.invariant)

pub returns : goal.returns
returns c =
    let all = c.args.rows.now in
    let Are : List Row → Type 0 = λ rows.
    AreJudged is_row (map row_told rows) (All RowHolds (map row_told rows)) c.loop-row.findings in
    subst Are (take_all c.loop-row.row-index all (omega arith)) c.loop-row.invariant
