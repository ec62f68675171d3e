use Rattle.std.proofs.Common.{◌≡◌, inl, inr, codes, string_bytes, rules}
use Rattle.row_files.proofs.Lining.{on_ok}
use Rattle.row_files.proofs.rows.Row.take.Goals as goal

pub returns-in-input : goal.returns-in-input
returns-in-input c =
    let word : string_bytes c.args.section.now.keyword ≡ codes "input" = search rules in
    let rest = c.as_str-rest.ensures.value in
    let body = c.as_str-body.ensures.value in
    on_ok c.take_input.result _ _ _ (λ p h. inr (inl (word, rw (rest, body) at p, rw (rest, body) at h)))
    c.take_input.ensures.placed c.take_input.ensures.taken

pub returns-in-output : goal.returns-in-output
returns-in-output c =
    let word : string_bytes c.args.section.now.keyword ≡ codes "output" = search rules in
    let rest = c.as_str-rest.ensures.value in
    let body = c.as_str-body.ensures.value in
    on_ok c.take_output.result _ _ _ (λ p h. inr (inr (inl (word, rw (rest, body) at p, rw (rest, body) at h))))
    c.take_output.ensures.placed c.take_output.ensures.taken

pub returns-in-file : goal.returns-in-file
returns-in-file c =
    let word : string_bytes c.args.section.now.keyword ≡ codes "file" = search rules in
    let rest = c.as_str-rest.ensures.value in
    let body = c.as_str-body.ensures.value in
    let said = c.take_file.ensures in
    on_ok c.take_file.result _ _ _ (λ p h. inr (inr (inr (inr (word, rw (rest, body) at h))))) said said
