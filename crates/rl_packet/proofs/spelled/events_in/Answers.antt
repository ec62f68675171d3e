use Rattle.std.proofs.Common.{subst, arith}
use Rattle.std.specs.Prelude.{IfSome, IfNone}
use Rattle.rl_packet.specs.Packets.{aimed_value}
use Rattle.rl_packet.specs.Wired.{IsTurnEvent}
use Rattle.rl_packet.specs.Spelled.{Begins, NoAimed}
use Rattle.rl_packet.proofs.Fronts.{all_step, all_ended, all_good}
use Rattle.rl_packet.proofs.Missing.{leave_step, aimed_shorter, no_more_events, nothing_left}
use Rattle.rl_packet.proofs.spelled.events_in.Goals as goal

pub returns-in-Some-clause-events : goal.returns-in-Some-clause-events
returns-in-Some-clause-events c =
    let d = c.args.dialect in
    all_ended d c.args.bytes.now c.loop.rest.now c.in-Some.after.now c.loop.events.items c.in-Some.ensures.found
    c.loop.invariant.behind

pub loop-preserved : goal.loop-preserved
loop-preserved c =
    let d = c.args.dialect in
    let event = c.in-Some-2.event in
    let rest = c.loop.rest.now in
    let after = c.in-Some-2.after.now in
    let good : IsTurnEvent event =
    subst (λ o. IfSome o (λ x. IsTurnEvent x.0)) c.in-Some-2.is c.in_ok-event.ensures.good in
    let one : Begins 63 rest (aimed_value d event) after =
    subst (λ o. IfSome o (λ x. Begins 63 rest (aimed_value d x.0) x.1.now)) c.in-Some-2.is
    c.in_ok-event.ensures.event in
    record {
      good = all_good c.loop.events.items c.push.new.self.items event c.in_ok-push.ensures.items c.loop.invariant.good
          good;
      behind = all_step d c.args.bytes.now rest after c.loop.events.items c.push.new.self.items event
          c.in_ok-push.ensures.items one c.loop.invariant.behind;
      leave = leave_step d c.args.bytes.now rest after (aimed_value d event) c.in_default.ensures.none one
          c.loop.invariant.leave;
      short = omega (arith, aimed_shorter d rest event after one, c.loop.invariant.short);
    }

pub returns-in_default-2-clause-none : goal.returns-in_default-2-clause-none
returns-in_default-2-clause-none c =
    let d = c.args.dialect in
    let rest = c.loop.rest.now in
    let none : NoAimed d rest = subst (λ o. IfNone o (NoAimed d rest)) c.in_default-2.is c.in_ok-event.ensures.none in
    no_more_events d c.args.bytes.now rest c.in_default.ensures.none none c.loop.invariant.leave

pub returns-clause-none : goal.returns-clause-none
returns-clause-none c =
    let d = c.args.dialect in
    nothing_left d c.args.bytes.now c.loop.rest.now (omega (arith, c.loop-test.false, c.loop.invariant.short))
    c.loop.invariant.leave
