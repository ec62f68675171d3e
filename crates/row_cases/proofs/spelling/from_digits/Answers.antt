use Rattle.std.proofs.Common.{ℕ, ◌∙◌, ◌++◌, List, map, lit<, ap, subst}
use Rattle.std.proofs.lemmas.Iterator.Consumers.{YieldsList-at, YieldsList-end}
use Rattle.std.proofs.lemmas.Iterator.Splits.{YieldsList-from_str_split}
use Rattle.row_cases.specs.Forms.{PartByPart, ArePair}
use Rattle.row_cases.proofs.Parting.{parts_more, now_more}
use Rattle.row_cases.proofs.spelling.from_digits.Goals as goal

pub loop-word-preserved : goal.loop-word-preserved
loop-word-preserved c =
    let out = c.loop-word.out.items in
    let more = c.in_ok-extend_from_slice-in-Ok.ensures.items ∙ ap (λ t. out ++ t) c.deref.ensures.value in
    rw (now_more c.loop-word.yielded c.in-Some.word)
    (parts_more ArePair (map (λ x. x.now) c.loop-word.yielded) c.in-Some.word.now out c.in-Ok.bytes.items
    c.extend_from_slice.new.self.items c.loop-word.invariant c.in-Ok.ensures.ok more)

pub returns : goal.returns
returns c =
    let road =
    YieldsList-at c.into_iter-word-iterator.ensures.into_iter_gives
    (YieldsList-from_str_split 32 c.args.line.now (lit< tt) c.split-word-items.ensures.text
    c.split-word-items.ensures.has_more c.split-word-items.ensures.pattern) in
    let all = YieldsList-end road c.loop-word.yielded _ c.loop-word.yielded_by _ _ c.in-None.is c.next.ensures.steps in
    let Are : List (List ℕ) → Type 0 = λ parts. PartByPart ArePair parts c.loop-word.out.items in
    subst Are all.0 c.loop-word.invariant
