use Rattle.std.proofs.Common.{None, Some, refl, sym, ◌∙◌}
use Rattle.ac_groups.specs.Kept.{Group}
use Rattle.ac_groups.proofs.Members.{written, written_out, none_there, handles_stay, facet_set, bare_handle}
use Rattle.ac_groups.proofs.group.take_facet.Goals as goal

pub returns-in_default-clause-facets : goal.returns-in_default-clause-facets
returns-in_default-clause-facets c =
    let old = c.args.groups.now in
    let new = c.get_mut.follows.lender-at-none in
    let o = c.args.group.now in
    facet_set old new o None None
    (none_there old new o o refl c.get_mut.follows.holds-at-none (sym c.in_default.ensures.value)) None refl

pub returns-then-is_bare-clause-handles : goal.returns-then-is_bare-clause-handles
returns-then-is_bare-clause-handles c =
    let old = c.args.groups.now in
    let o = c.args.group.now in
    let was = c.in-Some.it.now in
    let w : Group = record { facet = None; handles = was.handles } in
    let mid = c.get_mut.follows.lender w in
    let new = c.remove.new.self in
    let r = written old mid o o was w refl c.in-Some.ensures.value (c.get_mut.follows.holds w) in
    let out = written_out old mid new o o (Some was) (Some w) refl r c.remove.ensures.updates.0 in
    handles_stay old new o (Some was) None out (λ d. bare_handle w d (sym c.is_bare.ensures ∙ c.if-is_bare.true))

pub returns-else-is_bare-clause-handles : goal.returns-else-is_bare-clause-handles
returns-else-is_bare-clause-handles c =
    let old = c.args.groups.now in
    let o = c.args.group.now in
    let was = c.in-Some.it.now in
    let w : Group = record { facet = None; handles = was.handles } in
    let new = c.get_mut.follows.lender w in
    let r = written old new o o was w refl c.in-Some.ensures.value (c.get_mut.follows.holds w) in
    handles_stay old new o (Some was) (Some w) r (λ d. refl)

pub returns-then-is_bare-clause-facets : goal.returns-then-is_bare-clause-facets
returns-then-is_bare-clause-facets c =
    let old = c.args.groups.now in
    let o = c.args.group.now in
    let was = c.in-Some.it.now in
    let w : Group = record { facet = None; handles = was.handles } in
    let mid = c.get_mut.follows.lender w in
    let new = c.remove.new.self in
    let r = written old mid o o was w refl c.in-Some.ensures.value (c.get_mut.follows.holds w) in
    let out = written_out old mid new o o (Some was) (Some w) refl r c.remove.ensures.updates.0 in
    facet_set old new o (Some was) None out None refl

pub returns-else-is_bare-clause-facets : goal.returns-else-is_bare-clause-facets
returns-else-is_bare-clause-facets c =
    let old = c.args.groups.now in
    let o = c.args.group.now in
    let was = c.in-Some.it.now in
    let w : Group = record { facet = None; handles = was.handles } in
    let new = c.get_mut.follows.lender w in
    let r = written old new o o was w refl c.in-Some.ensures.value (c.get_mut.follows.holds w) in
    facet_set old new o (Some was) (Some w) r None refl
