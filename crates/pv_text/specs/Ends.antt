-- What the end of the text is, as a fault.
use Rattle.pv_read.specs.Results.{Fault}
use Rattle.pv_lex.specs.declared.faults.TextKind.{TextKind}
use Rattle.pv_text.specs.declared.reading.End.{End}

abbrev pub end_fault : End → Fault TextKind
end_fault e = record { kind = e.kind; place = e.place }
