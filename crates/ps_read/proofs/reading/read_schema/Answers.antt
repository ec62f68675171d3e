use Rattle.ps_read.proofs.reading.read_schema.Goals as goal

pub returns-in-Err-Bad-clause-err : goal.returns-in-Err-Bad-clause-err
returns-in-Err-Bad-clause-err c =
    rw c.in-Err-Bad.field-0-is (rw c.in-Err-Bad.field-0-is at c.in-Err-Bad.ensures.exact)
