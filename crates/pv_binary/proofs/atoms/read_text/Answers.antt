use Rattle.std.proofs.Common.{List, ℕ, sym, ◌∙◌, ap}
use Rattle.pv_binary.specs.declared.faults.BinKind.{BinKind}
use Rattle.pv_read.specs.Lemmas.Binds.{ok_pair}
use Rattle.pv_binary.proofs.Texts.{text_good, text_bad}
use Rattle.pv_binary.proofs.atoms.read_text.Goals as goal

pub returns-in_default : goal.returns-in_default
returns-in_default c = text_bad c.args.bytes.now c.in_ok-text.text.now c.in_ok-text.rest.now c.in_ok-text.ensures
    c.in_default.ensures

pub returns : goal.returns
returns c =
    let u = c.in-Some.ensures in
    text_good c.args.bytes.now c.in_ok-text.text.now c.in_ok-text.rest.now c.in_ok-text.ensures u.1
    ∙ ap (λ (s : List ℕ). ok_pair {E = BinKind} s c.in_ok-text.rest.now) (sym u.0)
