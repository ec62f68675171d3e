use Rattle.std.proofs.Common.{◌≡◌, ◌-◌, length, map, subst, sym, ◌∙◌, ap}
use Rattle.std.specs.Prelude.{IfSome, IfNone}
use Rattle.std.specs.List.{AllByRecursion}
use Rattle.pv_value.specs.Plain.{sequence, plains}
use Rattle.pv_binary.specs.Reads.{BeginsWith}
use Rattle.rl_packet.specs.Packets.{aimed_value, turn_value, spoken}
use Rattle.rl_packet.specs.Grammar.{IsTurnEvent, IsTurn}
use Rattle.rl_packet.specs.Spelled.{BeginsAll, NoEvents}
use Rattle.rl_packet.proofs.Fronts.{turn_begins}
use Rattle.rl_packet.proofs.Missing.{no_turn_begins}
use Rattle.rl_packet.proofs.Spoken.{spoken_turn, spoken_value}
use Rattle.rl_packet.proofs.spelled.spoken_in.Goals as goal

pub returns-in_default-2-clause-none : goal.returns-in_default-2-clause-none
returns-in_default-2-clause-none c =
    let d = c.args.dialect in
    let more = c.in-Some.rest.now in
    let none : NoEvents d more =
    subst (λ o. IfNone o (NoEvents d more)) c.in_default-2.is c.in_ok-events.ensures.none in
    no_turn_begins d c.args.bytes.now more c.in-Some.ensures.found none

pub returns-clause-turn : goal.returns-clause-turn
returns-clause-turn c =
    let d = c.args.dialect in
    let bytes = c.args.bytes.now in
    let more = c.in-Some.rest.now in
    let rest = c.in-Some-2.rest.now in
    let es = c.in-Some-2.events.items in
    let all : BeginsAll 63 more (map (aimed_value d) es) rest =
    subst (λ o. IfSome o (λ x. BeginsAll 63 more (map (aimed_value d) x.0.items) x.1.now)) c.in-Some-2.is
    c.in_ok-events.ensures.events in
    let is : turn_value c.of-turn.result ≡ sequence (plains (map (aimed_value d) es)) =
    ap turn_value (c.of-turn.ensures ∙ ap (spoken d) c.from_vec.ensures) ∙ spoken_value d es in
    subst (λ v. BeginsWith bytes (length bytes - length rest) v) (sym is)
    (turn_begins d bytes more es rest c.in-Some.ensures.found all)

pub returns-clause-good : goal.returns-clause-good
returns-clause-good c =
    let d = c.args.dialect in
    let es = c.in-Some-2.events.items in
    let all : AllByRecursion IsTurnEvent es =
    subst (λ o. IfSome o (λ x. AllByRecursion IsTurnEvent x.0.items)) c.in-Some-2.is c.in_ok-events.ensures.good in
    subst IsTurn (sym (c.of-turn.ensures ∙ ap (spoken d) c.from_vec.ensures)) (spoken_turn d es all)
