use Rattle.std.proofs.Common.{◌≡◌, ◌∙◌, refl}
use Rattle.b2s_mac.specs.Blake2s.{compress}
use Rattle.b2s_mac.proofs.Compressing.{compress_count}
use Rattle.b2s_mac.proofs.compress.compress.Goals as goal

pub returns : goal.returns
unfolding compress
returns c = λ t same.
    let here : c.joined.result ≡ compress c.args.h.now c.args.block.now c.args.count c.args.last =
    rw (c.joined.ensures, c.rounds.ensures, c.work_vector-v.ensures, c.words-m.ensures) refl in
    here ∙ compress_count c.args.h.now c.args.block.now c.args.count t c.args.last same
