use Rattle.std.proofs.Common.{◌≡◌, ◌++◌, ℕ, true, false, List, [], ◌∷◌, sym, ap, ◌∙◌}
use Rattle.ps_schema.specs.Names.{knows}
use Rattle.ps_schema.specs.Seen.{among}
use Rattle.ps_schema.proofs.Visits.{sees_named}
use Rattle.ps_schema.proofs.ways.see_name.Goals as goal

pub returns : goal.returns
returns c =
    let n : among c.args.seen.now.items c.args.name.now ≡ false =
    ap (λ (bs : List (List ℕ)). among bs c.args.name.now) (sym c.deref.ensures.value)
    ∙ sym c.is_among.ensures ∙ c.if-is_among.false in
    let k : knows c.args.defs.now c.args.name.now ≡ true =
    ap (knows c.args.defs.now) (sym c.as_bytes.ensures.same) ∙ sym c.knows.ensures ∙ c.if-not-knows.false in
    let e : c.push.new.self.items ≡ c.args.seen.now.items ++ c.args.name.now ∷ [] =
    c.in_ok-push.ensures.items ∙ ap (λ (a : List ℕ). c.args.seen.now.items ++ a ∷ []) c.in_ok-copy.ensures in
    sees_named c.args.defs.now c.args.name.now c.args.seen.now.items c.push.new.self.items n k e
