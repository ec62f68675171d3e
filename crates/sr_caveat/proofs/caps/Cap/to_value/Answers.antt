-- The goals of `to_value` that the check leaves.
use Rattle.std.proofs.Common.{◌≡◌, subst, ap, ◌∙◌}
use Rattle.sr_caveat.specs.Caps.{Cap, cap_value, IsSound}
use Rattle.sr_caveat.specs.Lemmas.Capped.{if_ok_back}
use Rattle.sr_caveat.specs.Lemmas.Told.{if_ok_is}
use Rattle.sr_caveat.proofs.caps.Cap.to_value.Goals as goal

pub returns-clause-read_back : goal.returns-clause-read_back
returns-clause-read_back c =
    let inside = c.self.inside in
    let here : Cap = record { actor = inside.actor; entity = inside.entity; caveats = c.as_slice.result.now } in
    let same : here ≡ c.args.self.now =
    (λ i. record { actor = inside.actor; entity = inside.entity; caveats = c.as_slice.ensures i }) ∙ c.self.view_is in
    if_ok_back c.written.result c.args.self.now (subst IsSound c.self.view_is c.self.invariant)
    (if_ok_is c.written.result _ _ (ap cap_value same) c.written.ensures)
