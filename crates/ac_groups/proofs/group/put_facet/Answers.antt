use Rattle.std.proofs.Common.{None, Some, refl, sym, ap}
use Rattle.std.specs.BTreeMap.{is_at}
use Rattle.std.specs.Map.{lookup}
use Rattle.pv_value.specs.Order.{order}
use Rattle.ac_groups.specs.Kept.{Group}
use Rattle.ac_groups.proofs.Members.{written, put_there, handles_stay, facet_set}
use Rattle.ac_groups.proofs.group.put_facet.Goals as goal

pub returns-in-Some-clause-handles : goal.returns-in-Some-clause-handles
returns-in-Some-clause-handles c =
    let old = c.args.groups.now in
    let o = c.args.group in
    let was = c.in-Some.it.now in
    let w : Group = record { facet = Some c.args.facet; handles = was.handles } in
    let new = c.get_mut.follows.lender w in
    let r = written old new o o was w refl c.in-Some.ensures.value (c.get_mut.follows.holds w) in
    handles_stay old new o (Some was) (Some w) r (λ d. refl)

pub returns-clause-handles : goal.returns-clause-handles
returns-clause-handles c =
    let old = c.args.groups.now in
    let o = c.args.group in
    let w : Group = record { facet = Some c.args.facet; handles = c.new.result } in
    let new = c.insert.new.self in
    let r = put_there old c.get_mut.follows.lender-at-none new o o w refl c.get_mut.follows.holds-at-none
    (sym c.in_default.ensures.value) c.in_ok-insert.ensures.updates.0 in
    handles_stay old new o None (Some w) r (λ d. ap (λ es. lookup (is_at (order d)) es) c.new.ensures.empty)

pub returns-in-Some-clause-facets : goal.returns-in-Some-clause-facets
returns-in-Some-clause-facets c =
    let old = c.args.groups.now in
    let o = c.args.group in
    let was = c.in-Some.it.now in
    let w : Group = record { facet = Some c.args.facet; handles = was.handles } in
    let new = c.get_mut.follows.lender w in
    let r = written old new o o was w refl c.in-Some.ensures.value (c.get_mut.follows.holds w) in
    facet_set old new o (Some was) (Some w) r (Some c.args.facet) refl

pub returns-clause-facets : goal.returns-clause-facets
returns-clause-facets c =
    let old = c.args.groups.now in
    let o = c.args.group in
    let w : Group = record { facet = Some c.args.facet; handles = c.new.result } in
    let new = c.insert.new.self in
    let r = put_there old c.get_mut.follows.lender-at-none new o o w refl c.get_mut.follows.holds-at-none
    (sym c.in_default.ensures.value) c.in_ok-insert.ensures.updates.0 in
    facet_set old new o None (Some w) r (Some c.args.facet) refl
