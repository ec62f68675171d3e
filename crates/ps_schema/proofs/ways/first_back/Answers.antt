use Rattle.std.proofs.Common.{◌≡◌, ◌<◌, ℕ, List, length, get_or, subst, ap, ◌∙◌, arith}
use Rattle.ps_schema.specs.Rising.{Rises}
use Rattle.ps_schema.specs.declared.Definition.{Definition}
use Rattle.ps_schema.proofs.Climbs.{stays}
use Rattle.ps_schema.proofs.Visits.{none_on, first_on}
use Rattle.ps_schema.proofs.ways.first_back.Goals as goal

pub loop-definition-preserved-then-rises : goal.loop-definition-preserved-then-rises
loop-definition-preserved-then-rises c =
    let ds = c.args.defs.now in
    let i = c.loop-definition.definition-index in
    let d = c.definition-item.result in
    let same = c.all-definition-items.ensures in
    let h : i < length ds = omega (arith, ap length same) in
    let e : d ≡ get_or ds i d = c.definition-item.is ∙ ap (λ (l : List Definition). get_or l i d) same in
    let P : List ℕ → Type 0 = λ ranks. (a : List ℕ) → Rises ds ranks 0 a in
    let Q : List ℕ → Type 0 = λ ranks. Rises ds ranks 1 d.name in
    let stay = stays ds c.in_ok-ranks.ranks.items
    (subst P c.deref.ensures.value (c.never_fall-ranked.ensures c.if-ranked.true)) d.name
    (subst Q c.deref-then-ranked.ensures.value (c.rises.ensures c.if-rises.true)) in record {
      none = λ n. c.loop-definition.invariant.none (none_on ds ds i d h e stay n);
      first = λ a f. c.loop-definition.invariant.first a (first_on ds ds i d a h e stay f);
    }
