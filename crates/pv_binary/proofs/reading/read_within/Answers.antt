use Rattle.std.proofs.Common.{length, subst, arith}
use Rattle.pv_read.specs.Answers.{Fails}
use Rattle.pv_read.specs.declared.ReadFault.{ReadFault}
use Rattle.pv_binary.specs.declared.faults.BinKind.{BinKind}
use Rattle.pv_binary.specs.Reading.{value_at}
use Rattle.pv_binary.proofs.Whole.{are_bytes, leads_law, none_leads}
use Rattle.pv_binary.proofs.reading.read_within.Goals as goal

pub returns-in-Ok-clause-found : goal.returns-in-Ok-clause-found
returns-in-Ok-clause-found c =
    let bytes = c.args.bytes.now in
    let all = are_bytes bytes (λ i. omega (arith, c.type_inv.bytes i)) in
    leads_law (length bytes) c.args.budget bytes c.in-Ok.value c.read_value.new.input.now all c.in-Ok.ensures

pub returns-in-Err-Bad-clause-none : goal.returns-in-Err-Bad-clause-none
returns-in-Err-Bad-clause-none c =
    let bytes = c.args.bytes.now in
    none_leads c.args.budget bytes _
    (subst (λ (e : ReadFault BinKind). Fails e (value_at (length bytes) c.args.budget bytes)) c.in-Err-Bad.field-0-is
    c.in-Err-Bad.ensures)
