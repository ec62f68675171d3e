use Rattle.std.proofs.Common.{subst, sym}
use Rattle.rl_stream.specs.Nexts.{IsNext}
use Rattle.rl_stream.specs.declared.nexts.Next.TheVariants as next
use Rattle.srv_turns.proofs.Ending.{turn_said, error_said, nothing_said, sends_inside, error_inside}
use Rattle.srv_turns.proofs.Reading.{turn_read, error_read, passed}
use Rattle.srv_turns.proofs.reader.packet.Goals as goal

pub returns-in-Turn-clause-reads : goal.returns-in-Turn-clause-reads
returns-in-Turn-clause-reads g c = λ b st size before reading is.
    let e = turn_said c.args.packet c.in-Turn.turn (sym c.in-Turn.ensures) in
    turn_read c.args.connection b st before _ reading size c.bytes_have_courses.ensures c.in-Turn.turn
    (subst (λ p. IsNext st.rest st.place (next.Whole p size)) e is) _ _ _ c.send.ensures

pub returns-in-Error-clause-reads : goal.returns-in-Error-clause-reads
returns-in-Error-clause-reads g c = λ b st size before reading is.
    let e = error_said c.args.packet (sym c.in-Error.ensures) in
    error_read c.args.connection b st before _ reading size c.bytes_have_courses.ensures e.0 e.1
    (subst (λ p. IsNext st.rest st.place (next.Whole p size)) e.2 is) _ _ _ c.close.ensures

pub returns-in-Nothing-clause-reads : goal.returns-in-Nothing-clause-reads
returns-in-Nothing-clause-reads g c = λ b st size before reading is.
    let e = nothing_said c.args.connection c.args.packet (sym c.in-Nothing.ensures) in
    passed c.args.connection b st before _ reading size c.args.packet is e.0 e.1

pub returns-in-Turn-clause-inside : goal.returns-in-Turn-clause-inside
returns-in-Turn-clause-inside g c = sends_inside c.args.connection c.in-Turn.turn _ _ _ _ c.send.ensures

pub returns-in-Error-clause-inside : goal.returns-in-Error-clause-inside
returns-in-Error-clause-inside g c = error_inside c.args.connection _ _ _ _ c.close.ensures
