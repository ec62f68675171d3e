use Rattle.std.proofs.Common.{◌≡◌, ◌++◌, sym, ap, ◌∙◌, append-nil, arith}
use Rattle.pv_value.specs.Plain.{plains}
use Rattle.sr_caveat.specs.Caps.{caveats_from}
use Rattle.sr_caveat.specs.Lemmas.Dropping.{drop_end}
use Rattle.sc_events.specs.Lemmas.Sound.{reference_sound}
use Rattle.sc_events.proofs.events.reference_to.Goals as goal

pub invariant_of-result : goal.invariant_of-result
invariant_of-result c =
    let own = c.loop-caveat.own.items in
    let values = c.args.caveats.now in
    let all : c.in_ok-from_vec.field-0 ≡ caveats_from (plains values) =
    c.in_ok-from_vec.ensures ∙ sym (append-nil own)
    ∙ ap (λ vs. own ++ caveats_from (plains vs)) (sym (drop_end values c.loop-caveat.caveat-index (omega arith)))
    ∙ c.loop-caveat.invariant in
    reference_sound c.args.actor (plains values) c.in_ok-from_vec.field-0 (omega arith) all
