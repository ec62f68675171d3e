use Rattle.pv_text.specs.Reading.{text_values}
use Rattle.pv_read.specs.Lemmas.Answering.{ok_so, only_so, exact_so, fault_so}
use Rattle.pv_text.proofs.All.{all_found, all_read, all_stand, all_fail}
use Rattle.pv_text.proofs.values.read_all.Goals as goal

pub returns-clause-found : goal.returns-clause-found
returns-clause-found c =
    ok_so _ (text_values c.args.text.now) c.checked_values.result c.checked_values.ensures _
    (λ vs e. all_found c.args.text.now _ e)

pub returns-clause-only : goal.returns-clause-only
returns-clause-only c =
    λ vs l. only_so _ (text_values c.args.text.now) c.checked_values.result c.checked_values.ensures vs
    (all_read c.args.text.now vs l)

pub returns-clause-exact : goal.returns-clause-exact
returns-clause-exact c =
    exact_so _ (text_values c.args.text.now) c.checked_values.result c.checked_values.ensures _
    (all_stand c.args.text.now)

pub returns-clause-only_fault : goal.returns-clause-only_fault
returns-clause-only_fault c =
    λ f s. fault_so _ (text_values c.args.text.now) c.checked_values.result c.checked_values.ensures f
    (all_fail c.args.text.now f s)
