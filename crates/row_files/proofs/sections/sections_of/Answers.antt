use Rattle.std.proofs.Common.{◌≡◌, ◌∙◌, ◌+◌, ◌==◌, ◌++◌, ◌∷◌, [], Some, map, drop, length, get_or}
use Rattle.std.proofs.Common.{lit<, ap, sym, arith}
use Rattle.std.proofs.lemmas.Iterator.Consumers.{YieldsList-at, YieldsList-turn, YieldsList-end}
use Rattle.std.proofs.lemmas.Iterator.Splits.{YieldsList-from_str_split}
use Rattle.std.proofs.lemmas.List.{length_push, drop_all}
use Rattle.std.proofs.lemmas.List.Splits.{length-slice_split}
use Rattle.std.proofs.lemmas.List.Sums.{count_by-le-length}
use Rattle.row_files.specs.Lines.{lines_of}
use Rattle.row_files.specs.Sections.{section_told, with_line, with_lines}
use Rattle.row_files.proofs.Lining.{with_next}
use Rattle.row_files.proofs.sections.sections_of.Goals as goal

pub loop-line-preserved : goal.loop-line-preserved
loop-line-preserved c =
    let text = c.args.text.now in
    let lines = lines_of text in
    let n = length c.loop-line.yielded in
    let line = c.in-Some.line.now in
    let place = c.loop-line.place in
    let ss = map section_told c.loop-line.sections.items in
    let more = map section_told c.add_line.new.sections.items in
    let road =
    YieldsList-at c.into_iter-line-iterator.ensures.into_iter_gives
    (YieldsList-from_str_split 10 text (lit< tt) c.split-line-items.ensures.text c.split-line-items.ensures.has_more
    c.split-line-items.ensures.pattern) in
    let turn =
    YieldsList-turn road c.loop-line.yielded _ c.loop-line.yielded_by _ _ c.in-Some.line c.in-Some.is
    c.next.ensures.steps in
    let parts = length-slice_split (λ b. b == 10) text in
    let most = count_by-le-length (λ b. b == 10) text in
    let longer = length_push c.loop-line.yielded c.in-Some.line in
    let at : place ≡ n + 1 = c.loop-line.invariant.1 in
    let next : c.saturating_add-place.result ≡ place + 1 = omega (arith, turn.0, parts, most) in
    let told : with_line place (get_or lines n line) ss ≡ Some more =
    ap (λ l. with_line place l ss) (sym turn.1) ∙ c.in_default.ensures in
    let new =
    ap (λ p. with_lines p (drop (length (c.loop-line.yielded ++ c.in-Some.line ∷ [])) lines) more) next
    ∙ ap (λ m. with_lines (place + 1) (drop m lines) more) longer in
    (new ∙ sym (with_next place lines n line ss more turn.0 told) ∙ c.loop-line.invariant.0, next ∙ omega (arith, longer))

pub returns : goal.returns
returns c =
    let lines = lines_of c.args.text.now in
    let road =
    YieldsList-at c.into_iter-line-iterator.ensures.into_iter_gives
    (YieldsList-from_str_split 10 c.args.text.now (lit< tt) c.split-line-items.ensures.text
    c.split-line-items.ensures.has_more c.split-line-items.ensures.pattern) in
    let all = YieldsList-end road c.loop-line.yielded _ c.loop-line.yielded_by _ _ c.in-None.is c.next.ensures.steps in
    let ss = map section_told c.loop-line.sections.items in
    let none = drop_all (length c.loop-line.yielded) lines (omega (arith, all.1)) in
    sym c.loop-line.invariant.0 ∙ ap (λ ls. with_lines c.loop-line.place ls ss) none
