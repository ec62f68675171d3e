use Rattle.std.proofs.Common.{◌≡◌, ap, sym, ◌∙◌, arith, drop, nat_eq, length}
use Rattle.std.proofs.lemmas.List.{length-drop}
use Rattle.gk_sturdy.proofs.Alike.{alike, alike_all, alike_most}
use Rattle.gk_sturdy.proofs.links.is_same.Goals as goal

pub returns : goal.returns
returns c =
    let given = c.args.given.now in
    let link = c.args.link.now in
    let i = c.loop-i.i in
    let whole : length given ≡ 16 = omega (arith, c.if-given-ne-LINK_BYTES.false) in
    let both : length given ≡ length link = omega (arith, whole, c.told-link) in
    let rest = alike_most (drop i given) (drop i link) in
    let all : c.loop-i.alike ≡ alike given link =
    omega (arith, rest, length-drop i given, whole, c.loop-i.invariant.1, c.loop-i-test.false) in
    ap (λ n. nat_eq n 16) all ∙ ap (nat_eq (alike given link)) (sym whole) ∙ alike_all given link both
