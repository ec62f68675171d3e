use Rattle.std.proofs.Common.{◌≡◌, ◌∙◌, ◌++◌, ◌∷◌, [], Some, map, ap, sym}
use Rattle.std.proofs.lemmas.List.{map-append}
use Rattle.row_files.specs.Sections.{section_told, with_more}
use Rattle.row_files.proofs.Lining.{with_more_last}
use Rattle.row_files.proofs.sections.add_more.Goals as goal

pub returns : goal.returns
returns c =
    let text = c.args.line.now ++ 10 ∷ [] in
    let front = c.pop.new.self.items in
    let last = c.in-Some.last in
    let section = c.in_ok-section.section in
    let new : map section_told c.push.new.self.items ≡ map section_told front ++ section_told section ∷ [] =
    ap (map section_told) c.in_ok-push.ensures.items ∙ map-append section_told front (section ∷ []) in
    let longer = ap (λ t. map section_told front ++ t ∷ []) c.in_ok-section.ensures in
    let old : map section_told c.args.sections.now.items ≡ map section_told front ++ section_told last ∷ [] =
    ap (map section_told) c.in-Some.ensures.items ∙ map-append section_told front (last ∷ []) in
    ap (with_more text) old ∙ with_more_last text (map section_told front) (section_told last)
    ∙ ap Some (sym (new ∙ longer))
