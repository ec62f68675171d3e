use Rattle.std.proofs.Common.{◌≡◌, ◌-◌, length}
use Rattle.pv_text.specs.Reading.{values_in}
use Rattle.pv_read.specs.Lemmas.Fronts.{with_front}
use Rattle.pv_text.proofs.values.all_values.Given as goal

abbrev pub invariant-loop : goal.invariant-loop
invariant-loop l =
    with_front l.values.items (values_in (length l.text) (length l.text - l.counter) l.rest) ≡ values_in (length l.text)
    (length l.text) l.text
