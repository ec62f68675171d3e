use Rattle.pv_text.specs.Reading.{next_at}
use Rattle.pv_read.specs.Lemmas.Answering.{ok_so, some_so, only_so, exact_so, fault_so}
use Rattle.pv_text.proofs.Whole.{next_found, next_shorter, next_read, next_end, next_stands, next_fails}
use Rattle.pv_text.proofs.values.next_value.Goals as goal

pub returns-clause-next : goal.returns-clause-next
returns-clause-next c =
    ok_so _ (next_at c.args.total c.args.bytes.now) c.next_of.result c.next_of.ensures _
    (λ o e. next_found c.args.total c.args.bytes.now _ e)

pub returns-clause-shorter : goal.returns-clause-shorter
returns-clause-shorter c =
    ok_so _ (next_at c.args.total c.args.bytes.now) c.next_of.result c.next_of.ensures _
    (λ o e. some_so _ _ o (next_at c.args.total c.args.bytes.now) e
    (λ x h. next_shorter c.args.total c.args.bytes.now _ _ h))

pub returns-clause-only : goal.returns-clause-only
returns-clause-only c =
    λ v rest l. only_so _ (next_at c.args.total c.args.bytes.now) c.next_of.result c.next_of.ensures _
    (next_read c.args.total c.args.bytes.now v rest l)

pub returns-clause-only_end : goal.returns-clause-only_end
returns-clause-only_end c =
    λ l. only_so _ (next_at c.args.total c.args.bytes.now) c.next_of.result c.next_of.ensures _
    (next_end c.args.total c.args.bytes.now l)

pub returns-clause-exact : goal.returns-clause-exact
returns-clause-exact c =
    exact_so _ (next_at c.args.total c.args.bytes.now) c.next_of.result c.next_of.ensures _
    (next_stands c.args.total c.args.bytes.now)

pub returns-clause-only_fault : goal.returns-clause-only_fault
returns-clause-only_fault c =
    λ f s. fault_so _ (next_at c.args.total c.args.bytes.now) c.next_of.result c.next_of.ensures f
    (next_fails c.args.total c.args.bytes.now f s)
