-- What was answered to a step: nothing was sent, a packet is noted, or the run stops.
use Rattle.std.proofs.Common.{refl, inl, inr}
use Rattle.std.proofs.lemmas.Result.{IfOk-weaker, IfErr-weaker}
use Rattle.sc_script.proofs.runs.Run.replied.Goals as goal

pub returns-in-Worn-clause-stop : goal.returns-in-Worn-clause-stop
returns-in-Worn-clause-stop g c = inl (c.in-Worn.is, refl)

pub returns-in-Full-clause-stop : goal.returns-in-Full-clause-stop
returns-in-Full-clause-stop g c = inr (inl (c.in-Full.is, refl))

pub returns-in-Sent-clause-run : goal.returns-in-Sent-clause-run
returns-in-Sent-clause-run g c =
    IfOk-weaker c.note.result _ _ (λ t h. inr (c.in-Sent.packet, c.in-Sent.is, h.0, h.1)) c.note.ensures.run

pub returns-in-Sent-clause-stop : goal.returns-in-Sent-clause-stop
returns-in-Sent-clause-stop g c =
    IfErr-weaker c.note.result _ _ (λ f h. inr (inr (c.in-Sent.packet, c.in-Sent.is, h))) c.note.ensures.stop

pub returns-in_default-clause-run : goal.returns-in_default-clause-run
returns-in_default-clause-run g c =
    inl ((c.in_default.not-Worn, c.in_default.not-Full, c.in_default.not-Sent), refl)
