use Rattle.std.proofs.Common.{Some, option_copied, codes, ap, sym, ◌∙◌}
use Rattle.pv_value.specs.Plain.{pairs}
use Rattle.pv_value.specs.View.{view_node}
use Rattle.gk_sturdy.specs.Refs.{under}
use Rattle.gk_sturdy.proofs.Reading.{list_in}
use Rattle.gk_sturdy.proofs.refs.caveats_in.Goals as goal

pub returns-in_ok-copy-in-Seq : goal.returns-in_ok-copy-in-Seq
returns-in_ok-copy-in-Seq c =
    ap Some c.in_ok-copy-in-Seq.ensures
    ∙ list_in (under (codes "caveats") (pairs c.args.entries.now)) c.in-Some.caveats.now c.in-Seq.caveats
    (sym c.in_ok-caveats.ensures ∙ ap option_copied c.in-Some.is)
    (sym c.caveats.view_is ∙ ap view_node c.in-Seq.is)
    (sym c.has_embedded.ensures ∙ c.if-has_embedded.false)
