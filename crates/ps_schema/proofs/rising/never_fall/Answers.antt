use Rattle.std.proofs.Common.{◌≡◌, ◌<◌, ◌≤◌, List, length, get_or, ap, ◌∙◌, arith}
use Rattle.ps_schema.specs.declared.Definition.{Definition}
use Rattle.ps_schema.proofs.Climbs.{none_falls, none_falls_next}
use Rattle.ps_schema.proofs.rising.never_fall.Goals as goal

pub loop-definition-preserved : goal.loop-definition-preserved
loop-definition-preserved c =
    let ds = c.args.defs.now in
    let i = c.loop-definition.definition-index in
    let d = c.definition-item.result in
    let same = c.all-definition-items.ensures in
    let h : i < length ds = omega (arith, ap length same) in
    let e : d ≡ get_or ds i d = c.definition-item.is ∙ ap (λ (l : List Definition). get_or l i d) same in
    none_falls_next ds c.args.ranks.now ds i d h e c.loop-definition.invariant (c.rises.ensures c.if-not-rises.false)

pub returns : goal.returns
returns c = λ _.
    let ds = c.args.defs.now in
    let i = c.loop-definition.definition-index in
    let h : length ds ≤ i = omega (arith, ap length c.all-definition-items.ensures) in
    none_falls ds c.args.ranks.now i h c.loop-definition.invariant
