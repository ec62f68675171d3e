use Rattle.std.proofs.Common.{sym, subst, ℕ, not, ◌==◌}
use Rattle.std.specs.BTreeMap.{BTreeMap}
use Rattle.ac_table.specs.Placed.{KeepsLinks}
use Rattle.ac_table.specs.declared.facets.Facet.{Facet}
use Rattle.ac_table.proofs.Placing.{links_same, spared_kept}
use Rattle.ac_table.proofs.Refaceting.{relinked, same_relinked, keeps_relinked}
use Rattle.ac_table.proofs.facets.unlink.Goals as goal

pub returns-in_default-get_mut-clause-kept : goal.returns-in_default-get_mut-clause-kept
returns-in_default-get_mut-clause-kept c =
    subst (λ (m : BTreeMap ℕ Facet). KeepsLinks (λ k. not (k == c.args.facet)) c.args.all.now.entries m.entries)
    (sym c.get_mut.follows.holds-at-none) (links_same (λ k. not (k == c.args.facet)) c.args.all.now.entries)

pub returns-clause-same : goal.returns-clause-same
returns-clause-same c =
    let y = relinked c.in-Some-get_mut.it.now c.remove.new.self in
    same_relinked _ c.in-Some-get_mut.it.now c.remove.new.self c.args.all.now (c.get_mut.follows.lender y)
    (sym c.in-Some-get_mut.ensures.value) (c.get_mut.follows.holds y)

pub returns-clause-kept : goal.returns-clause-kept
returns-clause-kept c =
    let x = c.in-Some-get_mut.it.now in
    let y = relinked x c.remove.new.self in
    keeps_relinked _ x c.remove.new.self c.args.all.now (c.get_mut.follows.lender y)
    (sym c.in-Some-get_mut.ensures.value) (λ k. not (k == c.args.facet)) (c.get_mut.follows.holds y)
    (spared_kept c.args.facet x.below.keys c.remove.new.self.keys c.remove.ensures.updates.0)
