use Rattle.std.proofs.Common.{◌∷◌, map, sym, ◌∙◌, subst, rules, ap}
use Rattle.pv_value.specs.Plain.{pairs}
use Rattle.pv_value.specs.View.{key_and_value}
use Rattle.pv_value.specs.WellFormed.{KeysAscend}
use Rattle.pv_words.specs.Parts.{value_under}
use Rattle.pv_words.proofs.Halves.{in_halves, front_ascends, behind_ascends, rest_ascends}
use Rattle.pv_words.proofs.Halves.{found_behind, found_here, found_before}
use Rattle.pv_words.proofs.parts.+value_among.Goals as goal

pub value_among-requires : goal.value_among-requires
value_among-requires t c =
    let before = map key_and_value c.split_at.result.0.now in
    let e = key_and_value c.in_ok-entry.entry.now in
    let behind = map key_and_value c.in_ok-entry.behind.now in
    let cut =
    in_halves c.args.entries.now c.split_at.result.0.now c.split_at.result.1.now c.in_ok-entry.entry.now
    c.in_ok-entry.behind.now c.split_at.ensures.by_index.0 c.in_ok-entry.ensures.cases.0
    in
    (search rules, rest_ascends e behind (behind_ascends before (e ∷ behind) (subst KeysAscend cut c.requires)))

pub value_among-requires-in-Greater : goal.value_among-requires-in-Greater
value_among-requires-in-Greater t c =
    let before = map key_and_value c.split_at.result.0.now in
    let e = key_and_value c.in_ok-entry.entry.now in
    let behind = map key_and_value c.in_ok-entry.behind.now in
    let cut =
    in_halves c.args.entries.now c.split_at.result.0.now c.split_at.result.1.now c.in_ok-entry.entry.now
    c.in_ok-entry.behind.now c.split_at.ensures.by_index.0 c.in_ok-entry.ensures.cases.0
    in
    (search rules, front_ascends before (e ∷ behind) (subst KeysAscend cut c.requires))

pub returns-in-Less : goal.returns-in-Less
returns-in-Less t c =
    let before = map key_and_value c.split_at.result.0.now in
    let e = key_and_value c.in_ok-entry.entry.now in
    let behind = map key_and_value c.in_ok-entry.behind.now in
    let cut =
    in_halves c.args.entries.now c.split_at.result.0.now c.split_at.result.1.now c.in_ok-entry.entry.now
    c.in_ok-entry.behind.now c.split_at.ensures.by_index.0 c.in_ok-entry.ensures.cases.0
    in
    c.value_among.ensures
    ∙ found_behind before e behind c.args.key.now (sym c.in-Less.ensures) (subst KeysAscend cut c.requires)
    ∙ ap (λ ps. value_under (pairs ps) c.args.key.now) (sym cut)

pub returns-in-Equal : goal.returns-in-Equal
returns-in-Equal t c =
    let before = map key_and_value c.split_at.result.0.now in
    let e = key_and_value c.in_ok-entry.entry.now in
    let behind = map key_and_value c.in_ok-entry.behind.now in
    let cut =
    in_halves c.args.entries.now c.split_at.result.0.now c.split_at.result.1.now c.in_ok-entry.entry.now
    c.in_ok-entry.behind.now c.split_at.ensures.by_index.0 c.in_ok-entry.ensures.cases.0
    in
    found_here before e behind c.args.key.now (sym c.in-Equal.ensures) (subst KeysAscend cut c.requires)
    ∙ ap (λ ps. value_under (pairs ps) c.args.key.now) (sym cut)

pub returns-in-Greater : goal.returns-in-Greater
returns-in-Greater t c =
    let before = map key_and_value c.split_at.result.0.now in
    let e = key_and_value c.in_ok-entry.entry.now in
    let behind = map key_and_value c.in_ok-entry.behind.now in
    let cut =
    in_halves c.args.entries.now c.split_at.result.0.now c.split_at.result.1.now c.in_ok-entry.entry.now
    c.in_ok-entry.behind.now c.split_at.ensures.by_index.0 c.in_ok-entry.ensures.cases.0
    in
    c.value_among-in-Greater.ensures
    ∙ found_before before e behind c.args.key.now (sym c.in-Greater.ensures) (subst KeysAscend cut c.requires)
    ∙ ap (λ ps. value_under (pairs ps) c.args.key.now) (sym cut)
