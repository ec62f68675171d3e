use Rattle.std.proofs.Common.{sym, ◌∙◌, ap}
use Rattle.rl_packet.specs.Grammar.{is_record}
use Rattle.rl_packet.proofs.reading.record_packet.Goals as goal

pub returns-in_ok-copy-in-None : goal.returns-in_ok-copy-in-None
returns-in_ok-copy-in-None c =
    let same = c.in_ok-copy-in-None.ensures in
    ((ap is_record same ∙ c.requires, λ m d s e. c.in-None.ensures m d (s, sym same ∙ e)), sym same)
