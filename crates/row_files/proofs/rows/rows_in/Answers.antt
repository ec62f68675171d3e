use Rattle.std.proofs.Common.{◌∙◌, ◌++◌, ◌∷◌, [], List, map, take, ap, sym, subst, arith}
use Rattle.std.specs.List.{FoldsTo}
use Rattle.std.proofs.lemmas.Fn.{FoldsTo-push}
use Rattle.std.proofs.lemmas.List.{map-append, take_more}
use Rattle.row_files.specs.Sections.{SectionTold, section_told}
use Rattle.row_files.specs.Rows.{AddsSection, row_told}
use Rattle.row_files.proofs.rows.rows_in.Goals as goal

pub loop-section-preserved : goal.loop-section-preserved
loop-section-preserved c =
    let xs = c.args.sections.now in
    let i = c.loop-section.section-index in
    let s = c.section-item.result in
    let more = take_more xs i s (omega arith) ∙ ap (λ x. take i xs ++ x ∷ []) (sym c.section-item.is) in
    let told = ap (map section_told) more ∙ map-append section_told (take i xs) (s ∷ []) in
    let Are : List SectionTold → Type 0 = λ ss. FoldsTo AddsSection [] ss (map row_told c.add_section.new.rows.items) in
    subst Are (sym told)
    (FoldsTo-push AddsSection [] (map section_told (take i xs)) (map row_told c.loop-section.rows.items) (section_told
    s)
    (map row_told c.add_section.new.rows.items) c.loop-section.invariant c.in_default.ensures)
