use Rattle.std.proofs.Common.{ℕ, List, map, lit<, subst}
use Rattle.std.proofs.lemmas.Iterator.Consumers.{YieldsList-at, YieldsList-end}
use Rattle.std.proofs.lemmas.Iterator.Splits.{YieldsList-from_str_split}
use Rattle.row_cases.specs.Forms.{AreEscaped}
use Rattle.row_cases.proofs.Parting.{parts_so_far_more, now_more}
use Rattle.row_cases.proofs.spelling.escaped.Goals as goal

pub loop-part-preserved : goal.loop-part-preserved
loop-part-preserved c =
    let told = c.in_ok-push_part.ensures in
    rw (now_more c.loop-part.yielded c.in-Some.part)
    (parts_so_far_more c.loop-part.is_behind (map (λ x. x.now) c.loop-part.yielded) c.in-Some.part.now
    c.loop-part.out.items told.0 c.push_part.new.out.items c.loop-part.invariant told.1 told.2)

pub returns : goal.returns
returns c =
    let road =
    YieldsList-at c.into_iter-part-iterator.ensures.into_iter_gives
    (YieldsList-from_str_split 37 c.args.body.now (lit< tt) c.split-part-items.ensures.text
    c.split-part-items.ensures.has_more c.split-part-items.ensures.pattern) in
    let all = YieldsList-end road c.loop-part.yielded _ c.loop-part.yielded_by _ _ c.in-None.is c.next.ensures.steps in
    let Are : List (List ℕ) → Type 0 = λ parts. AreEscaped parts c.loop-part.out.items in
    subst Are all.0 c.loop-part.invariant.escaped
