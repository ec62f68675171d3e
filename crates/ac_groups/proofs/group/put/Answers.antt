use Rattle.std.proofs.Common.{None, Some, refl, sym, ap, ◌∙◌, cond}
use Rattle.std.specs.BTreeMap as tree
use Rattle.std.specs.BTreeMap.{is_at}
use Rattle.std.specs.Map.{lookup}
use Rattle.pv_value.specs.Order.{order}
use Rattle.pv_words.specs.Parts.{same}
use Rattle.ac_groups.specs.Kept.{Group}
use Rattle.ac_groups.proofs.Members.{written, put_there, handle_set, handles_stay, facets_stay, alone, on_err}
use Rattle.ac_groups.proofs.group.put.Goals as goal

pub returns-in_err-insert-clause-handles_stand : goal.returns-in_err-insert-clause-handles_stand
returns-in_err-insert-clause-handles_stand c =
    let old = c.args.groups.now in
    let o = c.args.group in
    let was = c.in-Some.it.now in
    let w : Group = record { facet = was.facet; handles = c.insert.new.self } in
    let new = c.get_mut.follows.lender w in
    let r = written old new o o was w refl c.in-Some.ensures.value (c.get_mut.follows.holds w) in
    on_err c.from_residual-in_err-insert.result (handles_stay old new o (Some was) (Some w) r
    (λ d. ap (λ es. lookup (is_at (order d)) es) c.in_err-insert.ensures.err))

pub returns-in_err-insert-clause-facets : goal.returns-in_err-insert-clause-facets
returns-in_err-insert-clause-facets c =
    let old = c.args.groups.now in
    let o = c.args.group in
    let was = c.in-Some.it.now in
    let w : Group = record { facet = was.facet; handles = c.insert.new.self } in
    let new = c.get_mut.follows.lender w in
    let r = written old new o o was w refl c.in-Some.ensures.value (c.get_mut.follows.holds w) in
    facets_stay old new o (Some was) (Some w) r refl

pub returns-in-Some-clause-handles : goal.returns-in-Some-clause-handles
returns-in-Some-clause-handles c =
    let old = c.args.groups.now in
    let o = c.args.group in
    let was = c.in-Some.it.now in
    let w : Group = record { facet = was.facet; handles = c.insert.new.self } in
    let new = c.get_mut.follows.lender w in
    let r = written old new o o was w refl c.in-Some.ensures.value (c.get_mut.follows.holds w) in
    handle_set old new o (Some was) (Some w) r c.args.rest.now (Some c.args.handle)
    (λ d. c.in_ok-insert.ensures.updates.0 d
    ∙ ap (λ k. cond (same k d) (Some c.args.handle) (tree.get order was.handles d)) c.in_ok-rest.ensures)

pub returns-in-Some-clause-facets : goal.returns-in-Some-clause-facets
returns-in-Some-clause-facets c =
    let old = c.args.groups.now in
    let o = c.args.group in
    let was = c.in-Some.it.now in
    let w : Group = record { facet = was.facet; handles = c.insert.new.self } in
    let new = c.get_mut.follows.lender w in
    let r = written old new o o was w refl c.in-Some.ensures.value (c.get_mut.follows.holds w) in
    facets_stay old new o (Some was) (Some w) r refl

pub returns-clause-handles : goal.returns-clause-handles
returns-clause-handles c =
    let old = c.args.groups.now in
    let o = c.args.group in
    let w : Group = record { facet = None; handles = c.insert-2.new.self } in
    let new = c.insert-3.new.self in
    let r = put_there old c.get_mut.follows.lender-at-none new o o w refl c.get_mut.follows.holds-at-none
    (sym c.in_default.ensures.value) c.in_ok-insert-3.ensures.updates.0 in
    handle_set old new o None (Some w) r c.args.rest.now (Some c.args.handle)
    (λ d. alone c.new-handles.result c.insert-2.new.self c.in_ok-rest.rest c.args.rest.now d c.args.handle
    c.new-handles.ensures.empty c.in_ok-rest.ensures (c.in_ok-insert-2.ensures.updates.0 d))

pub returns-clause-facets : goal.returns-clause-facets
returns-clause-facets c =
    let old = c.args.groups.now in
    let o = c.args.group in
    let w : Group = record { facet = None; handles = c.insert-2.new.self } in
    let new = c.insert-3.new.self in
    let r = put_there old c.get_mut.follows.lender-at-none new o o w refl c.get_mut.follows.holds-at-none
    (sym c.in_default.ensures.value) c.in_ok-insert-3.ensures.updates.0 in
    facets_stay old new o None (Some w) r refl
