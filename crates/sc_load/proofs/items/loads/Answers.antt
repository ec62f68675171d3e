-- One item more.
use Rattle.std.proofs.Common.{◌≡◌, ◌≤◌, ◌+◌, [], ◌∷◌, codes, sym, ap, ◌∙◌, subst, arith}
use Rattle.std.specs.List.{AllByRecursion}
use Rattle.rl_packet.specs.Wired.{IsTurnEvent}
use Rattle.pv_words.specs.Words.{labelled, number}
use Rattle.sc_load.specs.Limits.{most_items}
use Rattle.sc_load.specs.Loads.{next, given}
use Rattle.sc_load.proofs.Drawing.{load_of, drawn_more, loaded_more, may_more}
use Rattle.sc_load.proofs.items.loads.Goals as goal

pub loop-further-preserved : goal.loop-further-preserved
loop-further-preserved c =
    let l = c.loop-further in
    let i = c.args.first in
    let few : i + l.further ≤ most_items = omega (arith, c.requires, c.loop-further-test.true) in
    let load : c.in_ok-load.load ≡ load_of (i + l.further) (given (next l.draws.number)) =
    c.in_ok-load.ensures
    ∙ (λ j. labelled (codes "Load")
    (c.number.ensures j ∷ (c.number-in-loop-further.ensures ∙ ap number c.draw.ensures.given) j ∷ [])) in record {
      may = subst (AllByRecursion IsTurnEvent) (sym c.in_ok-push.ensures.items)
          (may_more (i + l.further) _ c.in_ok-load.load l.events.items few load l.invariant.may);
      events = λ start is. c.in_ok-push.ensures.items
          ∙ loaded_more start i l.further l.draws.number c.in_ok-load.load l.events.items (l.invariant.draws start is)
          load (l.invariant.events start is);
      draws = λ start is. c.draw.ensures.number
          ∙ drawn_more start i l.further l.draws.number (l.invariant.draws start is);
    }
