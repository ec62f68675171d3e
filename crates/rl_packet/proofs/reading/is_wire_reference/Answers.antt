use Rattle.std.proofs.Common.{◌≡◌, false, nat_eq, length, is_some, Some, subst, sym, ap, ◌∙◌}
use Rattle.pv_value.specs.Plain.{Plain, sequence, plains}
use Rattle.pv_value.specs.View.{view_node}
use Rattle.rl_packet.specs.Grammar.{is_wire_reference}
use Rattle.rl_packet.proofs.Wires.{few_items, no_oid, by_count}
use Rattle.rl_packet.proofs.reading.is_wire_reference.Goals as goal
use Rattle.rl_packet.proofs.reading.is_wire_reference.Goals.{then-items-lt2-via-then-items-lt2}
use Rattle.rl_packet.proofs.reading.is_wire_reference.Goals.{then-items-lt2-via-else-items-lt2+then-is_none}

pub returns-then-items-lt2 : goal.returns-then-items-lt2
returns-then-items-lt2 c =
    let P : Plain → Type 0 = λ v. false ≡ is_wire_reference v in
    let xs = c.as_slice-items.result.now in
    let seen = ap (λ ys. sequence (plains ys)) c.as_slice-items.ensures.same
    ∙ sym (ap view_node c.in-Seq.is) ∙ c.inside.view_is in
    subst P seen
    (elim c.then-items-lt2.branch [
      | then-items-lt2-via-then-items-lt2 w ↦ few_items xs w.if-items-lt2.true
      | then-items-lt2-via-else-items-lt2+then-is_none w ↦
          no_oid xs w.index-items-1.result w.if-items-lt2.false w.index-items-1.is
          (ap is_some (sym w.number_in.ensures) ∙ w.if-is_none.ensures)
    ])

pub returns-in-Some-eq0 : goal.returns-in-Some-eq0
returns-in-Some-eq0 c =
    let xs = c.as_slice-items.result.now in
    let P : Plain → Type 0 = λ v. nat_eq (length xs) 2 ≡ is_wire_reference v in
    let seen = ap (λ ys. sequence (plains ys)) c.as_slice-items.ensures.same
    ∙ sym (ap view_node c.in-Seq.is) ∙ c.inside.view_is in
    subst P seen
    (by_count xs c.index-items-0.result c.index-items-1.result c.if-items-lt2.false c.index-items-0.is
    c.index-items-1.is (ap is_some (sym c.number_in.ensures) ∙ c.if-is_none.ensures)
    (ap Some (sym c.in-Some-eq0.field-0-test) ∙ sym c.in-Some-eq0.is ∙ c.number_in-2.ensures))
