use Rattle.std.proofs.Common.{◌≡◌, ◌+◌, List, [], ◌∷◌, ◌++◌, map, take, refl, sym, ap, ◌∙◌, subst, arith}
use Rattle.std.proofs.lemmas.List.{map-append, take_more, take_all}
use Rattle.out_ports.specs.MemHost.{told_files}
use Rattle.row_files.specs.Rows.{file_told}
use Rattle.row_files.specs.declared.rows.RowFile.{RowFile}
use Rattle.row_runs.proofs.outcomes.files_of.Goals as goal

pub loop-file-preserved : goal.loop-file-preserved
loop-file-preserved c =
    let all = c.args.files.now in
    let i = c.loop-file.file-index in
    let file = c.file-item.result in
    let next : map file_told (take (i + 1) all) ≡ map file_told (take i all) ++ file_told file ∷ [] =
    ap (map file_told) (take_more all i file (omega arith)
    ∙ ap (λ (r : RowFile). take i all ++ r ∷ []) (sym c.file-item.is)) ∙ map-append file_told (take i all) (file ∷ []) in
    c.in_ok-push_file.ensures ∙ ap (λ l. l ++ file_told file ∷ []) c.loop-file.invariant ∙ sym next

pub returns : goal.returns
returns c =
    let all = c.args.files.now in
    let Are : List RowFile → Type 0 = λ files. told_files c.loop-file.all.items ≡ map file_told files in
    subst Are (take_all c.loop-file.file-index all (omega arith)) c.loop-file.invariant
