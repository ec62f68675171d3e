-- The next value of an input is one more behind those so far.
use Rattle.std.proofs.Common.{false, subst}
use Rattle.sc_events.specs.Readings.{AreReadAs}
use Rattle.sc_events.proofs.SoFar.{one_more, is_shorter, no_more_read, same_fault}
use Rattle.sc_events.proofs.inputs.Values.next.Goals as goal

pub returns-in-Ok-Some-clause-next : goal.returns-in-Ok-Some-clause-next
returns-in-Ok-Some-clause-next c = λ f bytes vs s. record {
  form = s.form;
  total = s.total;
  read = one_more _ bytes vs _ _ _ s.read (rw c.in-Ok-Some.field-0-is at c.in-Ok-Some.ensures.next);
}

pub returns-in-Ok-Some-clause-shorter : goal.returns-in-Ok-Some-clause-shorter
returns-in-Ok-Some-clause-shorter c =
    is_shorter _ _ _ _ (rw c.in-Ok-Some.field-0-is at c.in-Ok-Some.ensures.next)

pub returns-in-Err-clause-stop : goal.returns-in-Err-clause-stop
returns-in-Err-clause-stop c = λ bad f bytes vs s.
    subst (λ g. AreReadAs g bytes vs false) s.form
    (no_more_read _ _ bytes vs _ s.total s.read (c.in-Err.ensures.stop (same_fault _ _ bad)))
