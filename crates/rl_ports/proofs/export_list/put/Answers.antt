-- A number that came and went leaves each other one as it was, and there was none at the reference.
use Rattle.std.proofs.Common.{◌≡◌, ◌∙◌, ap, subst, Some, None, ℕ}
use Rattle.pv_value.specs.Plain.{Plain}
use Rattle.rl_ports.specs.Kept.{Export}
use Rattle.rl_ports.proofs.Keeps.{Puts, came_and_went}
use Rattle.rl_ports.proofs.export_list.put.Goals as goal

pub returns-clause-same_numbers : goal.returns-clause-same_numbers
returns-clause-same_numbers c =
    let r = c.args.export.reference in
    let old = c.args.numbers.now.entries in
    let more = c.insert.new.self.entries in
    let new = c.remove.new.self.entries in
    let key : c.in_ok-copy.field-0 ≡ r = c.in_ok-copy.ensures ∙ c.value.ensures in
    let gone : c.value-in-Err.result.now ≡ r =
    c.value-in-Err.ensures ∙ ap (λ (p : ℕ × Export). p.1.reference) c.in-Err.ensures.value_returned in
    came_and_went r c.args.number old more new c.requires
    (subst (λ (k : Plain). Puts old more k (Some c.args.number)) key c.in_ok-insert.ensures.updates.0)
    (subst (λ (k : Plain). Puts more new k None) gone c.remove.ensures.updates.0)
