-- The goals of `read_cap` that the check leaves.
use Rattle.std.proofs.Common.{◌-◌, length, take, drop, sym, ap, ◌∙◌, arith}
use Rattle.pv_value.specs.Plain.{sequence, plains}
use Rattle.pv_value.specs.View.{view_node}
use Rattle.sr_caveat.specs.Caps.{cap_read}
use Rattle.sr_caveat.specs.Lemmas.Capped.{made_sound}
use Rattle.sr_caveat.proofs.Told.{short_cap}
use Rattle.sr_caveat.proofs.caps.read_cap.Goals as goal

pub returns-then-items-lt2 : goal.returns-then-items-lt2
returns-then-items-lt2 c =
    short_cap c.as_slice-items.result.now (omega arith)
    ∙ ap (λ xs. cap_read (sequence (plains xs))) c.as_slice-items.ensures.same
    ∙ ap cap_read (sym (ap view_node c.in-Seq.is) ∙ c.value.view_is)

pub invariant_of-result : goal.invariant_of-result
invariant_of-result c =
    let items = c.as_slice-items.result.now in
    made_sound c.index-items-1.result (plains (take (length items - 2) (drop 2 items))) c.in-Some-Some.actor
    c.in-Some-Some.entity c.in_ok-from_vec-in-Some-Some.field-0 c.if-actor.true c.in-Some-Some.ensures'
    (c.in_ok-from_vec-in-Some-Some.ensures ∙ c.in_ok-caveats-in-Some-Some.ensures)
