use Rattle.std.proofs.Common.{◌≡◌, sym, subst, ℕ, List, true}
use Rattle.std.specs.BTreeMap.{BTreeMap}
use Rattle.ac_table.specs.Maps.{is_key}
use Rattle.ac_table.specs.Placed.{KeepsLinks}
use Rattle.ac_table.specs.declared.facets.Facet.{Facet}
use Rattle.ac_table.proofs.Placing.{refaceted_from, linked_here, links_same, grown, key_same}
use Rattle.ac_table.proofs.Refaceting.{relinked, same_relinked, keeps_relinked}
use Rattle.ac_table.proofs.facets.link.Goals as goal

pub returns-in_default-clause-kept : goal.returns-in_default-clause-kept
returns-in_default-clause-kept c =
    subst (λ (m : BTreeMap ℕ Facet). KeepsLinks (λ k. true) c.args.all.now.entries m.entries)
    (sym c.get_mut.follows.holds-at-none) (links_same (λ k. true) c.args.all.now.entries)

pub returns-in_err-insert-clause-same : goal.returns-in_err-insert-clause-same
returns-in_err-insert-clause-same c =
    let y = relinked c.in-Some.it.now c.insert.new.self in
    same_relinked c.args.facet c.in-Some.it.now c.insert.new.self c.args.all.now (c.get_mut.follows.lender y)
    (sym c.in-Some.ensures.value) (c.get_mut.follows.holds y)

pub returns-in_err-insert-clause-kept : goal.returns-in_err-insert-clause-kept
returns-in_err-insert-clause-kept c =
    let y = relinked c.in-Some.it.now c.insert.new.self in
    keeps_relinked c.args.facet c.in-Some.it.now c.insert.new.self c.args.all.now (c.get_mut.follows.lender y)
    (sym c.in-Some.ensures.value) (λ k. true) (c.get_mut.follows.holds y)
    (λ k s have. subst (λ (ks : List ℕ). is_key k ks ≡ true) (sym c.in_err-insert.ensures.err) have)

pub returns-clause-same : goal.returns-clause-same
returns-clause-same c =
    let y = relinked c.in-Some.it.now c.insert.new.self in
    same_relinked c.args.facet c.in-Some.it.now c.insert.new.self c.args.all.now (c.get_mut.follows.lender y)
    (sym c.in-Some.ensures.value) (c.get_mut.follows.holds y)

pub returns-clause-kept : goal.returns-clause-kept
returns-clause-kept c =
    let y = relinked c.in-Some.it.now c.insert.new.self in
    keeps_relinked c.args.facet c.in-Some.it.now c.insert.new.self c.args.all.now (c.get_mut.follows.lender y)
    (sym c.in-Some.ensures.value) (λ k. true) (c.get_mut.follows.holds y)
    (grown c.args.number c.in-Some.it.now.below.keys c.insert.new.self.keys c.in_ok-insert.ensures.updates.0)

pub returns-clause-linked : goal.returns-clause-linked
returns-clause-linked c =
    let x = c.in-Some.it.now in
    let y = relinked x c.insert.new.self in
    let new = c.get_mut.follows.lender y in
    let re = refaceted_from c.args.facet x y c.args.all.now new (sym c.in-Some.ensures.value)
    (c.get_mut.follows.holds y) in
    linked_here c.args.facet c.args.number x y c.args.all.now.entries new.entries re
    (key_same c.args.number x.below.keys c.insert.new.self.keys c.in_ok-insert.ensures.updates.0)
