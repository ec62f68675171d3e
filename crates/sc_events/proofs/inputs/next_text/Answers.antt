use Rattle.sc_events.proofs.inputs.next_text.Goals as goal

pub returns-in-Err-Bad-clause-stop : goal.returns-in-Err-Bad-clause-stop
returns-in-Err-Bad-clause-stop c =
    let e = c.in-Err-Bad.field-0-is in
    λ bad. (
      (_, rw e at c.in-Err-Bad.ensures.exact),
      λ v more to. let h = c.in-Err-Bad.ensures.only v more to in rw e at h,
    )
