use Rattle.std.proofs.Common.{◌≡◌, ◌<◌, ◌≤◌, ℕ, Bool, List, length, sym, ap, subst, ◌∙◌, arith}
use Rattle.std.specs.Bool.{Decides}
use Rattle.ps_schema.specs.Schemas.{leads, LeadsBack}
use Rattle.ps_schema.specs.Seen.{among, Sees}
use Rattle.ps_schema.proofs.Visits.{walk_on, walk_decides}
use Rattle.ps_schema.proofs.ways.leads_back.Goals as goal

pub names-preserved-in_ok-see_behind-2 : goal.names-preserved-in_ok-see_behind-2
names-preserved-in_ok-see_behind-2 c =
    let P : List ℕ → Type 0 =
    λ n. Sees c.args.defs.now (leads c.args.defs.now n) c.names.seen.items c.see_behind-in-names.new.seen.items in
    let h : c.names.at < length c.names.seen.items = omega arith in
    walk_on c.args.defs.now (leads c.args.defs.now c.args.name.now) c.names.at c.index.result.now
    c.names.seen.items c.see_behind-in-names.new.seen.items h c.index.ensures c.names.invariant
    (subst P c.in_ok-next.ensures c.in_ok-see_behind-2.ensures)

pub names-preserved : goal.names-preserved
names-preserved c =
    let P : List ℕ → Type 0 =
    λ n. Sees c.args.defs.now (leads c.args.defs.now n) c.names.seen.items c.see_behind-in-names.new.seen.items in
    let h : c.names.at < length c.names.seen.items = omega arith in
    walk_on c.args.defs.now (leads c.args.defs.now c.args.name.now) c.names.at c.index.result.now
    c.names.seen.items c.see_behind-in-names.new.seen.items h c.index.ensures c.names.invariant
    (subst P c.in_ok-next.ensures c.in_ok-see_behind-2.ensures)

pub returns : goal.returns
returns c =
    let h : length c.names.seen.items ≤ c.names.at = omega arith in
    let r : among c.names.seen.items c.args.name.now ≡ c.is_among.result =
    ap (λ (bs : List (List ℕ)). among bs c.args.name.now) (sym c.deref.ensures.value) ∙ sym c.is_among.ensures in
    let Q : Bool → Type 0 = λ b. Decides b (LeadsBack c.args.defs.now c.args.name.now) in
    subst Q r (walk_decides c.args.defs.now c.args.name.now c.names.at c.names.seen.items c.names.invariant h)
