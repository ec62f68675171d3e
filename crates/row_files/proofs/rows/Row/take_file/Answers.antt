use Rattle.std.proofs.Common.{ℕ, List, [], ◌∷◌, ◌++◌, map, ap, ◌∙◌}
use Rattle.std.proofs.lemmas.List.{map-append}
use Rattle.row_files.specs.Rows.{row_told, file_told}
use Rattle.row_files.proofs.rows.Row.take_file.Goals as goal

pub returns : goal.returns
returns c =
    let file = c.in_ok-file.file in
    let old = c.args.self.now.files.items in
    let row = row_told c.args.self.now in
    let rest = c.word_and_rest.ensures.rest in
    let more = ap (map file_told) c.in_ok-push.ensures.items ∙ map-append file_told old (file ∷ [])
    ∙ ap (λ (name : List ℕ). map file_told old ++ (name, file.bytes.items) ∷ [])
    (c.in_ok-file.ensures.name ∙ c.word_and_rest.ensures.word) in (
      file.bytes.items,
      rw rest at c.in_ok-placed.ensures,
      rw rest at c.in_ok-file.ensures.bytes,
      ap (λ (files : List (List ℕ × List ℕ)). record row { files = files })
          more,
    )
