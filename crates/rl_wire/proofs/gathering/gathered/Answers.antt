-- The last element comes to those gathered behind it.
use Rattle.std.proofs.Common.{◌∙◌, sym, ap}
use Rattle.rl_wire.proofs.Gathers.{elements_onto, elements_all, elements_last}
use Rattle.rl_wire.proofs.gathering.gathered.Goals as goal

pub loop-element-init : goal.loop-element-init
loop-element-init c = rw c.new-gathered.ensures.empty (elements_all c.args.elements.items)

pub loop-element-preserved : goal.loop-element-preserved
loop-element-preserved c =
    ap (λ ks. elements_onto ks c.pop.new.self.items) c.in_ok-insert.ensures.keys
    ∙ sym (elements_last c.loop-element.gathered.keys c.pop.new.self.items c.in-Some.element)
    ∙ ap (elements_onto c.loop-element.gathered.keys) (sym c.in-Some.ensures.items)
    ∙ c.loop-element.invariant
