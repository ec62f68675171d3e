-- A configuration: its first value, which may give the schema; one value more; a value that stops it; and its end.
use Rattle.std.proofs.Common.{◌<◌, [], ◌∷◌, refl, arith}
use Rattle.std.proofs.lemmas.List.Elements.{All-from_get_or}
use Rattle.sc_events.specs.declared.inputs.Form.TheVariants.{Text}
use Rattle.sc_schema.specs.Lemmas.FaultsPassed.{err_so}
use Rattle.sc_config.specs.declared.faults.ConfigFault.TheVariants as fault
use Rattle.sc_config.proofs.TextCourses.{none_there, none_read, first_at_fault, first_stops, first_done, begun}
use Rattle.sc_config.proofs.TextCourses.{one_done, one_stops, all_done, cut_off, is_few, by_told}
use Rattle.sc_config.proofs.configs.configured.Goals as goal

pub returns-in-Err-clause-stop : goal.returns-in-Err-clause-stop
returns-in-Err-clause-stop g c =
    let text = c.args.text.now in
    by_told text c.in-Err.fault (fault.Bad 0) _ c.in-Err.ensures.stop
    (λ none. none_read text (none Text text [] c.of-values.ensures))

pub returns-in-Ok-None-clause-hub : goal.returns-in-Ok-None-clause-hub
returns-in-Ok-None-clause-hub g c =
    let text = c.args.text.now in
    let next = rw c.in-Ok-None.field-0-is at c.in-Ok-None.ensures.next in
    none_there text [] _ refl c.in_ok-begun_without-in-Ok-None.ensures (next Text text [] c.of-values.ensures)

pub returns-in_err-begun-clause-stop : goal.returns-in_err-begun-clause-stop
returns-in_err-begun-clause-stop g c =
    let text = c.args.text.now in
    let next = rw c.in-Ok-Some.field-0-is at c.in-Ok-Some.ensures.next in
    let read = next Text text [] c.of-values.ensures in
    let are = All-from_get_or (λ b. b < 256) text 0 (λ i within. omega (arith, c.type_inv.text i)) in
    err_so _ _ _ c.from_residual-in_err-begun.ensures.1 (first_at_fault text _ c.in-Ok-Some.value read
    (c.one_reading.ensures.on Text text (c.in-Ok-Some.value ∷ []) _ are read) _ c.in_err-begun.ensures.stop)

pub returns-in_err-hub-clause-stop : goal.returns-in_err-hub-clause-stop
returns-in_err-hub-clause-stop g c =
    let text = c.args.text.now in
    let next = rw c.in-Ok-Some.field-0-is at c.in-Ok-Some.ensures.next in
    let read = next Text text [] c.of-values.ensures in
    let are = All-from_get_or (λ b. b < 256) text 0 (λ i within. omega (arith, c.type_inv.text i)) in
    let b = c.in_ok-begun.ensures.hub in
    err_so _ _ _ c.from_residual-in_err-hub.ensures.1 (first_stops text _ c.in-Ok-Some.value read
    (c.one_reading.ensures.on Text text (c.in-Ok-Some.value ∷ []) _ are read) b.0 _ b.1 (begun b.0 _ b.2) _
    c.in_err-hub.ensures.stop)

pub loop-value-init : goal.loop-value-init
loop-value-init g c =
    let text = c.args.text.now in
    let next = rw c.in-Ok-Some.field-0-is at c.in-Ok-Some.ensures.next in
    let b = c.in_ok-begun.ensures.hub in
    first_done text _ c.in-Ok-Some.value (next Text text [] c.of-values.ensures) b.0 _ _ b.1 (begun b.0 _ b.2)
    c.in_ok-hub.ensures.set

pub returns-in_err-hub-in-Ok-Some-next_value-clause-stop : goal.returns-in_err-hub-in-Ok-Some-next_value-clause-stop
returns-in_err-hub-in-Ok-Some-next_value-clause-stop g c =
    let l = c.loop-value in
    let text = c.args.text.now in
    let next = rw c.in-Ok-Some-next_value.field-0-is at c.in-Ok-Some-next_value.ensures.next in
    let are = All-from_get_or (λ b. b < 256) text 0 (λ i within. omega (arith, c.type_inv.text i)) in
    err_so _ _ _ c.from_residual-in_err-hub-in-Ok-Some-next_value.ensures.1 (one_stops text l.place l.values _ l.hub
    c.in-Ok-Some-next_value.value l.invariant (λ vs s. next Text text vs s)
    (λ vs s. c.one_reading.ensures.on Text text vs _ are s) _ c.in_err-hub-in-Ok-Some-next_value.ensures.stop)

pub returns-in-Ok-None-next_value-clause-hub : goal.returns-in-Ok-None-next_value-clause-hub
returns-in-Ok-None-next_value-clause-hub g c =
    let l = c.loop-value in
    let next = rw c.in-Ok-None-next_value.field-0-is at c.in-Ok-None-next_value.ensures.next in
    all_done c.args.text.now l.place l.values l.hub l.invariant (λ vs s. next Text c.args.text.now vs s)

pub returns-in-Err-next_value-clause-stop : goal.returns-in-Err-next_value-clause-stop
returns-in-Err-next_value-clause-stop g c =
    let l = c.loop-value in
    let text = c.args.text.now in
    by_told text c.in-Err-next_value.fault (fault.Bad l.place) _ c.in-Err-next_value.ensures.stop
    (λ none. cut_off text l.place l.values l.hub l.invariant (λ vs s. none Text text vs s))

pub overflow_add-place : goal.overflow_add-place
overflow_add-place g c =
    let l = c.loop-value in
    let next = rw c.in-Ok-Some-next_value.field-0-is at c.in-Ok-Some-next_value.ensures.next in
    omega (
      arith,
      is_few c.args.text.now l.place l.values _ l.hub c.in-Ok-Some-next_value.value l.invariant
          (λ vs s. next Text c.args.text.now vs s),
    )

pub loop-value-preserved : goal.loop-value-preserved
loop-value-preserved g c =
    let l = c.loop-value in
    let next = rw c.in-Ok-Some-next_value.field-0-is at c.in-Ok-Some-next_value.ensures.next in
    one_done c.args.text.now l.place l.values _ l.hub c.in-Ok-Some-next_value.value l.invariant
    (λ vs s. next Text c.args.text.now vs s) _ c.in_ok-hub-in-Ok-Some-next_value.ensures.set
