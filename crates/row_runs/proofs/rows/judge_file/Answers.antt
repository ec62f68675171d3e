use Rattle.std.proofs.Common.{List, map, sym, subst}
use Rattle.row_files.specs.Rows.{row_told, AreRowsIn}
use Rattle.row_files.specs.declared.rows.Row.{Row}
use Rattle.row_runs.proofs.Holding.{file_holds}
use Rattle.row_runs.proofs.rows.judge_file.Goals as goal

pub returns-in-Ok : goal.returns-in-Ok
returns-in-Ok c =
    let text = c.args.text.now in
    let Are : List Row → Type 0 = λ rows. AreRowsIn text (map row_told rows) in
    file_holds text c.deref.result.now c.judge_rows.result (subst Are (sym c.deref.ensures.value) c.in-Ok.ensures)
    c.judge_rows.ensures
