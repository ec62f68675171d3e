use Rattle.std.proofs.Common.{subst, sym, ap, length, ◌∙◌, arith}
use Rattle.std.proofs.lemmas.Bool.{ltb-true, ltb-false}
use Rattle.pv_value.specs.View.{view_node}
use Rattle.rl_packet.specs.Grammar.{NoneIs, IsTurnEventOf}
use Rattle.rl_packet.specs.declared.reading.PacketFault.TheVariants.{BadPacket}
use Rattle.rl_packet.proofs.Refusals.{not_two_parts}
use Rattle.rl_packet.proofs.reading.turn_event_of.Goals as goal
use Rattle.rl_packet.proofs.reading.turn_event_of.Goals.{in_default-as_slice-via-then-as_slice-lt2}
use Rattle.rl_packet.proofs.reading.turn_event_of.Goals.{in_default-as_slice-via-else-as_slice-lt2+else-this-lt3}

pub returns-in_default-as_slice-clause-bad : goal.returns-in_default-as_slice-clause-bad
returns-in_default-as_slice-clause-bad c =
    let same = ap length c.as_slice.ensures.same in
    subst (λ v. NoneIs (IsTurnEventOf c.args.dialect v) BadPacket) (sym (ap view_node c.in-Seq.is) ∙ c.value.view_is)
    (not_two_parts c.args.dialect c.in-Seq.parts
    (λ e. elim c.in_default-as_slice.branch [
      | in_default-as_slice-via-then-as_slice-lt2 w ↦ omega (arith, ltb-true)
      | in_default-as_slice-via-else-as_slice-lt2+else-this-lt3 w ↦ omega (arith, ltb-false)
    ]))
