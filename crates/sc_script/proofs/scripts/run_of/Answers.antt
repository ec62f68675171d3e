-- The run of an input: its first value, which may give the schema; one value more; a value that stops it; and its end.
use Rattle.std.proofs.Common.{◌<◌, [], ◌∷◌, arith}
use Rattle.std.proofs.lemmas.List.Elements.{All-from_get_or}
use Rattle.sc_script.specs.declared.faults.ScriptFault.TheVariants as fault
use Rattle.sc_schema.specs.Lemmas.FaultsPassed.{err_so}
use Rattle.sc_script.proofs.InputCourses.{none_there, none_read, first_at_fault, first_stops, first_done}
use Rattle.sc_script.proofs.InputCourses.{one_done, one_stops, all_done, cut_off, is_few, by_told}
use Rattle.sc_script.proofs.scripts.run_of.Goals as goal

pub returns-in-Err-clause-stop : goal.returns-in-Err-clause-stop
returns-in-Err-clause-stop g c =
    let form = c.args.form in
    let bytes = c.args.bytes.now in
    by_told form bytes c.in-Err.fault (fault.Bad 0) _ c.in-Err.ensures.stop
    (λ none. none_read form bytes (omega (arith, c.if-bytes-gt-INPUT_BYTES.false))
    (none form bytes [] c.of-values.ensures))

pub returns-in-Ok-None-clause-run : goal.returns-in-Ok-None-clause-run
returns-in-Ok-None-clause-run g c =
    let form = c.args.form in
    let bytes = c.args.bytes.now in
    let next = rw c.in-Ok-None.field-0-is at c.in-Ok-None.ensures.next in
    none_there form bytes _ (omega (arith, c.if-bytes-gt-INPUT_BYTES.false)) (next form bytes [] c.of-values.ensures)
    c.in_ok-begun_without-in-Ok-None.ensures

pub returns-in_err-begun_by-clause-stop : goal.returns-in_err-begun_by-clause-stop
returns-in_err-begun_by-clause-stop g c =
    let form = c.args.form in
    let bytes = c.args.bytes.now in
    let next = rw c.in-Ok-Some.field-0-is at c.in-Ok-Some.ensures.next in
    let read = next form bytes [] c.of-values.ensures in
    let are = All-from_get_or (λ b. b < 256) bytes 0 (λ i within. omega (arith, c.type_inv.bytes i)) in
    err_so _ _ _ c.from_residual-in_err-begun_by.ensures.1 (first_at_fault form bytes _ c.in-Ok-Some.value read
    (omega (arith, c.if-bytes-gt-INPUT_BYTES.false))
    (c.one_reading.ensures.on form bytes (c.in-Ok-Some.value ∷ []) _ are read) _ c.in_err-begun_by.ensures.stop)

pub returns-in_err-run-clause-stop : goal.returns-in_err-run-clause-stop
returns-in_err-run-clause-stop g c =
    let form = c.args.form in
    let bytes = c.args.bytes.now in
    let next = rw c.in-Ok-Some.field-0-is at c.in-Ok-Some.ensures.next in
    let read = next form bytes [] c.of-values.ensures in
    let are = All-from_get_or (λ b. b < 256) bytes 0 (λ i within. omega (arith, c.type_inv.bytes i)) in
    let begun = c.in_ok-begun_by.ensures.run in
    err_so _ _ _ c.from_residual-in_err-run.ensures.1 (first_stops form bytes _ c.in-Ok-Some.value read
    (omega (arith, c.if-bytes-gt-INPUT_BYTES.false))
    (c.one_reading.ensures.on form bytes (c.in-Ok-Some.value ∷ []) _ are read) begun.0 _ begun.1 begun.2 _
    c.in_err-run.ensures.stop)

pub loop-value-init : goal.loop-value-init
loop-value-init g c =
    let form = c.args.form in
    let bytes = c.args.bytes.now in
    let next = rw c.in-Ok-Some.field-0-is at c.in-Ok-Some.ensures.next in
    let begun = c.in_ok-begun_by.ensures.run in record {
      short = omega (arith, c.if-bytes-gt-INPUT_BYTES.false);
      done = first_done form bytes _ c.in-Ok-Some.value (next form bytes [] c.of-values.ensures) begun.0 begun.1 _
          begun.2 _ c.in_ok-run.ensures.run;
    }

pub returns-in_err-run-in-Ok-Some-next_value-clause-stop : goal.returns-in_err-run-in-Ok-Some-next_value-clause-stop
returns-in_err-run-in-Ok-Some-next_value-clause-stop g c =
    let l = c.loop-value in
    let form = c.args.form in
    let bytes = c.args.bytes.now in
    let next = rw c.in-Ok-Some-next_value.field-0-is at c.in-Ok-Some-next_value.ensures.next in
    let are = All-from_get_or (λ b. b < 256) bytes 0 (λ i within. omega (arith, c.type_inv.bytes i)) in
    err_so _ _ _ c.from_residual-in_err-run-in-Ok-Some-next_value.ensures.1 (one_stops form bytes l.place l.values _
    l.run c.in-Ok-Some-next_value.value l.invariant.done (λ vs s. next form bytes vs s) l.invariant.short
    (λ vs s. c.one_reading.ensures.on form bytes vs _ are s) _ c.in_err-run-in-Ok-Some-next_value.ensures.stop)

pub returns-in-Ok-None-next_value-clause-run : goal.returns-in-Ok-None-next_value-clause-run
returns-in-Ok-None-next_value-clause-run g c =
    let l = c.loop-value in
    let next = rw c.in-Ok-None-next_value.field-0-is at c.in-Ok-None-next_value.ensures.next in
    all_done c.args.form c.args.bytes.now l.place l.values l.run l.invariant.done l.invariant.short
    (λ vs s. next c.args.form c.args.bytes.now vs s)

pub returns-in-Err-next_value-clause-stop : goal.returns-in-Err-next_value-clause-stop
returns-in-Err-next_value-clause-stop g c =
    let l = c.loop-value in
    let form = c.args.form in
    let bytes = c.args.bytes.now in
    by_told form bytes c.in-Err-next_value.fault (fault.Bad l.place) _ c.in-Err-next_value.ensures.stop
    (λ none. cut_off form bytes l.place l.values l.run l.invariant.done l.invariant.short
    (λ vs s. none form bytes vs s))

pub overflow_add-place : goal.overflow_add-place
overflow_add-place g c =
    let l = c.loop-value in
    let next = rw c.in-Ok-Some-next_value.field-0-is at c.in-Ok-Some-next_value.ensures.next in
    omega (
      arith,
      l.invariant.short,
      is_few c.args.form c.args.bytes.now l.place l.values _ l.run c.in-Ok-Some-next_value.value l.invariant.done
          (λ vs s. next c.args.form c.args.bytes.now vs s),
    )

pub loop-value-preserved : goal.loop-value-preserved
loop-value-preserved g c =
    let l = c.loop-value in
    let next = rw c.in-Ok-Some-next_value.field-0-is at c.in-Ok-Some-next_value.ensures.next in record {
      short = l.invariant.short;
      done = one_done c.args.form c.args.bytes.now l.place l.values _ l.run c.in-Ok-Some-next_value.value
          l.invariant.done (λ vs s. next c.args.form c.args.bytes.now vs s) _
          c.in_ok-run-in-Ok-Some-next_value.ensures.run;
    }
