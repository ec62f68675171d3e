use Rattle.std.proofs.Common.{rules, ◌≡◌, [], ◌∷◌, replicate}
use Rattle.turn_gate.specs.declared.view.Held.TheVariants as held
use Rattle.turn_gate.proofs.Moves.{starts}
use Rattle.turn_gate.proofs.gate.Gate.begin_at.Goals as goal

pub new-requires : goal.new-requires
new-requires g c = let value : c.of-opening.result.value ≡ c.args.t = c.of-opening.ensures in
    let items : c.push.new.self.items ≡ held.Value c.args.t ∷ [] = search rules in
    rw value rw items (starts g.T.Replayed.next c.args.t (replicate 535 0))
