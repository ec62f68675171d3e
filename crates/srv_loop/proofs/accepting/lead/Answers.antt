use Rattle.std.proofs.Common.{◌∙◌}
use Rattle.srv_loop.proofs.One.{not_opened, is_served-led, isnt_served-led, one_dismissed}
use Rattle.srv_loop.proofs.accepting.lead.Goals as goal

pub returns-in_default-clause-opened : goal.returns-in_default-clause-opened
returns-in_default-clause-opened g c =
    not_opened _ _ _ _ _ _ (rw c.in_default.is at c.in_ok-number.ensures.opened) c.welcome.ensures.dismissed

pub returns-then-start_both-clause-opened : goal.returns-then-start_both-clause-opened
returns-then-start_both-clause-opened g c =
    let link = rw c.in-Some.is at c.in_ok-number.ensures.jobs in
    let opened = rw c.in-Some.is at c.in_ok-number.ensures.opened in
    is_served-led _ _ _ _ _ _ _ _ _ _ _ link.0 link.1 opened c.welcome.ensures.dismissed c.if-start_both.ensures.jobs

pub returns-clause-opened : goal.returns-clause-opened
returns-clause-opened g c =
    let link = rw c.in-Some.is at c.in_ok-number.ensures.jobs in
    isnt_served-led _ _ _ _ _ _ _ _ _ _ _ link.0 link.1
    (c.dismiss.ensures.opened ∙ rw c.in-Some.is at c.in_ok-number.ensures.opened)
    (
    let welcomed = g.D.Desk.deeds c.welcome.new.self in
    one_dismissed _ _ welcomed _ c.welcome.ensures.dismissed c.in_ok-dismiss.ensures.dismissed)
    c.if-start_both.ensures.jobs
