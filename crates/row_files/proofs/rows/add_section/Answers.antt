use Rattle.std.proofs.Common.{◌≡◌, ◌∙◌, ◌++◌, ◌∷◌, [], map, inl, codes, string_bytes, ap, sym, rules}
use Rattle.std.proofs.lemmas.List.{map-append}
use Rattle.row_files.specs.Rows.{row_told, empty_row}
use Rattle.row_files.proofs.rows.add_section.Goals as goal

pub returns-then-eq : goal.returns-then-eq
returns-then-eq c =
    let old = c.args.rows.now.items in
    let row = c.in_ok-new.field-0 in
    let word : string_bytes c.args.section.now.keyword ≡ codes "row" = search rules in
    let none : string_bytes c.args.section.now.body ≡ [] = sym c.as_str-then-eq.ensures.value ∙ c.in_ok-bare.ensures in
    let told = c.in_ok-new.ensures ∙ ap (empty_row c.args.section.now.line) c.as_str-then-eq-2.ensures.value in
    inl (
      word,
      none,
      ap (map row_told) c.in_ok-push.ensures.items ∙ map-append row_told old (row ∷ [])
          ∙ ap (λ t. map row_told old ++ t ∷ []) told,
    )
