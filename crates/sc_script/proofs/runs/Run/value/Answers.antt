-- A value: the event that it writes binds a reference that is read back, where it binds one, and its course is the
-- value's.
use Rattle.std.proofs.Common.{◌≡◌, Some, sym, ap, ◌∙◌}
use Rattle.sc_events.specs.Events.{event_of}
use Rattle.sc_events.specs.Lemmas.Sound.{sound_event}
use Rattle.sc_schema.specs.Courses.{after_value}
use Rattle.sc_script.specs.Runs.{after_event, doing}
use Rattle.sc_script.proofs.PartsPassed.{runs_so, stops_so}
use Rattle.sc_script.proofs.runs.Run.value.Goals as goal

pub event-requires : goal.event-requires
event-requires g c =
    sound_event c.args.value.now c.in-Some.event (sym c.in_ok-event.ensures ∙ c.in-Some.is)

pub returns-in-Some-clause-run : goal.returns-in-Some-clause-run
returns-in-Some-clause-run g c =
    let n = c.args.place in
    let is : Some c.in-Some.event ≡ event_of c.args.value.now = sym c.in-Some.is ∙ c.in_ok-event.ensures in
    runs_so c.args.self (λ N. after_event N n c.in-Some.event)
    (λ N. after_value (doing N) n (event_of c.args.value.now))
    (λ N r at. ap (λ o. after_value (doing N) n o r) is) c.event.result c.event.ensures.run

pub returns-in-Some-clause-stop : goal.returns-in-Some-clause-stop
returns-in-Some-clause-stop g c =
    let n = c.args.place in
    let is : Some c.in-Some.event ≡ event_of c.args.value.now = sym c.in-Some.is ∙ c.in_ok-event.ensures in
    stops_so c.args.self (λ N. after_event N n c.in-Some.event)
    (λ N. after_value (doing N) n (event_of c.args.value.now))
    (λ N r at. ap (λ o. after_value (doing N) n o r) is) c.event.result c.event.ensures.stop
