use Rattle.std.proofs.Common.{None, Some, refl, sym, ◌∙◌}
use Rattle.pv_words.specs.Parts.{same}
use Rattle.ac_groups.specs.Kept.{Group}
use Rattle.ac_groups.proofs.Members.{written, written_out, none_there, handle_set, facets_stay}
use Rattle.ac_groups.proofs.Members.{nothing, bare_handle, bare_facet}
use Rattle.ac_groups.proofs.group.take.Goals as goal

pub returns-in_default-clause-handles : goal.returns-in_default-clause-handles
returns-in_default-clause-handles c =
    let old = c.args.groups.now in
    let new = c.get_mut.follows.lender-at-none in
    let o = c.args.group.now in
    handle_set old new o None None
    (none_there old new o o refl c.get_mut.follows.holds-at-none (sym c.in_default.ensures.value)) c.args.rest.now None
    (λ d. nothing (same c.args.rest.now d))

pub returns-then-is_bare-clause-handles : goal.returns-then-is_bare-clause-handles
returns-then-is_bare-clause-handles c =
    let old = c.args.groups.now in
    let o = c.args.group.now in
    let was = c.in-Some.it.now in
    let w : Group = record { facet = was.facet; handles = c.remove-handle.new.self } in
    let mid = c.get_mut.follows.lender w in
    let new = c.remove.new.self in
    let r = written old mid o o was w refl c.in-Some.ensures.value (c.get_mut.follows.holds w) in
    let out = written_out old mid new o o (Some was) (Some w) refl r c.remove.ensures.updates.0 in
    handle_set old new o (Some was) None out c.args.rest.now None
    (λ d. bare_handle w d (sym c.is_bare.ensures ∙ c.if-is_bare.true) ∙ c.remove-handle.ensures.updates.0 d)

pub returns-then-is_bare-clause-facets : goal.returns-then-is_bare-clause-facets
returns-then-is_bare-clause-facets c =
    let old = c.args.groups.now in
    let o = c.args.group.now in
    let was = c.in-Some.it.now in
    let w : Group = record { facet = was.facet; handles = c.remove-handle.new.self } in
    let mid = c.get_mut.follows.lender w in
    let new = c.remove.new.self in
    let r = written old mid o o was w refl c.in-Some.ensures.value (c.get_mut.follows.holds w) in
    let out = written_out old mid new o o (Some was) (Some w) refl r c.remove.ensures.updates.0 in
    facets_stay old new o (Some was) None out (bare_facet w (sym c.is_bare.ensures ∙ c.if-is_bare.true))

pub returns-else-is_bare-clause-handles : goal.returns-else-is_bare-clause-handles
returns-else-is_bare-clause-handles c =
    let old = c.args.groups.now in
    let o = c.args.group.now in
    let was = c.in-Some.it.now in
    let w : Group = record { facet = was.facet; handles = c.remove-handle.new.self } in
    let new = c.get_mut.follows.lender w in
    let r = written old new o o was w refl c.in-Some.ensures.value (c.get_mut.follows.holds w) in
    handle_set old new o (Some was) (Some w) r c.args.rest.now None c.remove-handle.ensures.updates.0

pub returns-else-is_bare-clause-facets : goal.returns-else-is_bare-clause-facets
returns-else-is_bare-clause-facets c =
    let old = c.args.groups.now in
    let o = c.args.group.now in
    let was = c.in-Some.it.now in
    let w : Group = record { facet = was.facet; handles = c.remove-handle.new.self } in
    let new = c.get_mut.follows.lender w in
    let r = written old new o o was w refl c.in-Some.ensures.value (c.get_mut.follows.holds w) in
    facets_stay old new o (Some was) (Some w) r refl
