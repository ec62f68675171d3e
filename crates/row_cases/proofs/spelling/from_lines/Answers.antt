use Rattle.std.proofs.Common.{ℕ, ◌∙◌, ◌++◌, List, map, lit<, ap, subst}
use Rattle.std.proofs.lemmas.Iterator.Consumers.{YieldsList-at, YieldsList-end}
use Rattle.std.proofs.lemmas.Iterator.Splits.{YieldsList-from_str_split}
use Rattle.row_cases.specs.Forms.{PartByPart, AreDigits}
use Rattle.row_cases.proofs.Parting.{parts_more, now_more}
use Rattle.row_cases.proofs.spelling.from_lines.Goals as goal

pub loop-line-preserved : goal.loop-line-preserved
loop-line-preserved c =
    let out = c.loop-line.out.items in
    let more = c.in_ok-extend_from_slice.ensures.items ∙ ap (λ t. out ++ t) c.deref.ensures.value in
    rw (now_more c.loop-line.yielded c.in-Some.line)
    (parts_more AreDigits (map (λ x. x.now) c.loop-line.yielded) c.in-Some.line.now out c.in_ok-bytes.bytes.items
    c.extend_from_slice.new.self.items c.loop-line.invariant c.in_ok-bytes.ensures more)

pub returns : goal.returns
returns c =
    let road =
    YieldsList-at c.into_iter-line-iterator.ensures.into_iter_gives
    (YieldsList-from_str_split 10 c.args.body.now (lit< tt) c.split-line-items.ensures.text
    c.split-line-items.ensures.has_more c.split-line-items.ensures.pattern) in
    let all = YieldsList-end road c.loop-line.yielded _ c.loop-line.yielded_by _ _ c.in-None.is c.next.ensures.steps in
    let Are : List (List ℕ) → Type 0 = λ parts. PartByPart AreDigits parts c.loop-line.out.items in
    subst Are all.0 c.loop-line.invariant
