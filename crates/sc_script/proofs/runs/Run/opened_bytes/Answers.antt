use Rattle.std.proofs.Common.{sym, ap, ◌∙◌}
use Rattle.sc_events.specs.declared.events.ScriptEvent.TheVariants.{Bytes}
use Rattle.sc_script.specs.Runs.{after_event, bytes_come}
use Rattle.sc_script.proofs.PartsPassed.{runs_so, stops_so}
use Rattle.sc_script.proofs.EventCourses.{where_so, where_not}
use Rattle.sc_script.proofs.runs.Run.opened_bytes.Goals as goal

pub returns-then-not-was_opened-clause-stop : goal.returns-then-not-was_opened-clause-stop
returns-then-not-was_opened-clause-stop g c = λ N d r at.
    where_not c.args.place _ _ (sym c.if-not-was_opened.true ∙ c.was_opened.ensures r at)

pub returns-clause-run : goal.returns-clause-run
returns-clause-run g c =
    let k = c.args.connection in
    let n = c.args.place in
    runs_so c.args.self (λ N. bytes_come N k c.as_slice.result.now) (λ N. after_event N n (Bytes k c.args.sent))
    (λ N r at. where_so n _ _ (sym c.if-not-was_opened.false ∙ c.was_opened.ensures r at)
    ∙ ap (λ b. after_event N n (Bytes k b) r) c.as_slice.ensures.same) c.bytes.result c.bytes.ensures.run

pub returns-clause-stop : goal.returns-clause-stop
returns-clause-stop g c =
    let k = c.args.connection in
    let n = c.args.place in
    stops_so c.args.self (λ N. bytes_come N k c.as_slice.result.now) (λ N. after_event N n (Bytes k c.args.sent))
    (λ N r at. where_so n _ _ (sym c.if-not-was_opened.false ∙ c.was_opened.ensures r at)
    ∙ ap (λ b. after_event N n (Bytes k b) r) c.as_slice.ensures.same) c.bytes.result c.bytes.ensures.stop
