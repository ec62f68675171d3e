use Rattle.rl_stream.proofs.nexts.turn_next.Goals as goal

pub returns-in-Some : goal.returns-in-Some
returns-in-Some c =
    let begins = rw c.in-Some.is at c.in_ok-turn.ensures.turn in
    let good = rw c.in-Some.is at c.in_ok-turn.ensures.good in
    λ place. c.whole_turn.ensures c.args.rest.now place (rw c.front_of.ensures at begins) good
