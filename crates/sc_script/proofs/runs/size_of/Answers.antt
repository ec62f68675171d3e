use Rattle.std.proofs.Common.{length, min, sym, ap, ◌∙◌}
use Rattle.rl_packet.specs.Packets.{packet_value}
use Rattle.sc_script.proofs.runs.size_of.Goals as goal

pub returns : goal.returns
returns c =
    let v = packet_value c.args.packet.now in
    c.packet_size.ensures.size
    ∙ ap (λ n. min n 18446744073709551615)
    (sym (c.canonical_is_exact.ensures.size v c.packet_size.ensures.whole) ∙ c.canonical_is_exact.ensures.length v)
