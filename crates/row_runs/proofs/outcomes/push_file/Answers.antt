use Rattle.std.proofs.Common.{rules, ◌≡◌, ℕ, List, [], ◌∷◌, ◌++◌, map, ap, ◌∙◌, string_bytes}
use Rattle.std.proofs.lemmas.List.{map-append}
use Rattle.out_ports.specs.declared.memory.host.MemFile.{MemFile}
use Rattle.row_runs.proofs.outcomes.push_file.Goals as goal

pub returns : goal.returns
returns c =
    let old = c.args.all.now.items in
    let file = c.args.file.now in
    let name : string_bytes c.in_ok-name.name ≡ string_bytes file.name = search rules in
    let bytes : c.in_ok-bytes.bytes.items ≡ file.bytes.items = search rules in
    let told : MemFile → List ℕ × List ℕ = λ f. (string_bytes f.name, f.bytes.items) in
    ap (map told) c.in_ok-push.ensures.items ∙ map-append told old _
    ∙ ap (λ (n : List ℕ). map told old ++ (n, c.in_ok-bytes.bytes.items) ∷ []) name
    ∙ ap (λ (b : List ℕ). map told old ++ (string_bytes file.name, b) ∷ []) bytes
