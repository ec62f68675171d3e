use Rattle.std.proofs.Common.{◌≡◌, map, true, false, ap, sym, ◌∙◌}
use Rattle.std.specs.Map.{values_of}
use Rattle.ds_space.specs.Changes.{among}
use Rattle.ds_space.specs.Spaces.{Rows}
use Rattle.ds_space.specs.declared.space.Change.TheVariants.{Left}
use Rattle.ds_space.specs.declared.space.SpaceEvent.TheVariants.{Gone}
use Rattle.ac_watch.specs.Watching.{Watch, keys_from, key_changes, weight_of_all}
use Rattle.ac_watch.proofs.Events.{follows, weighs, one_less_weighs, rest_weighs, one_less_wants, last_wants}
use Rattle.ac_watch.proofs.Events.{still_stands, stands_no_more}
use Rattle.ac_watch.proofs.Wanting.{no_changes}
use Rattle.ac_watch.proofs.Weights.{part_fits, rest_is, rest_fits}
use Rattle.ac_watch.proofs.watching.Watching.remove.Goals as goal

pub invariant_of-result : goal.invariant_of-result
invariant_of-result g c =
    let v = c.in-Some.value in
    let new : Rows = c.remove.new.self in
    let stands : among v (values_of new) ≡ true =
    still_stands c.in-Some.last (among v (values_of new)) c.in-Some.ensures.last c.if-not-last.true in
    let stays =
    one_less_weighs c.self.inside.name c.args.handle v c.self.inside.rows new c.in-Some.ensures.value
    c.in-Some.ensures.removed stands in
    (c.self.invariant.0 ∙ stays, c.self.invariant.1)

pub returns-then-not-last : goal.returns-then-not-last
returns-then-not-last g c =
    let w : Watch = record { name = c.self.inside.name; got = c.self.inside.rows } in
    let v = c.in-Some.value in
    let new : Rows = c.remove.new.self in
    let stands : among v (values_of new) ≡ true =
    still_stands c.in-Some.last (among v (values_of new)) c.in-Some.ensures.last c.if-not-last.true in
    let wants =
    one_less_wants w.name c.args.handle v w.got new c.in-Some.ensures.value c.in-Some.ensures.removed stands in
    let all =
    follows (Gone c.args.handle) w c.args.self new _ c.self.view_is c.in-Some.ensures.removed
    (c.new.ensures.items ∙ sym wants) in
    (all.0, all.1, all.2, tt)

pub weight_without-weight-requires : goal.weight_without-weight-requires
weight_without-weight-requires g c =
    let v = c.in-Some.value in
    let new : Rows = c.remove.new.self in
    let gone : among v (values_of new) ≡ false =
    stands_no_more c.in-Some.last (among v (values_of new)) c.in-Some.ensures.last c.if-not-last.false in
    part_fits c.self.inside.weight (weight_of_all c.in_ok-made-in-Some.made) (weighs c.self.inside.name new)
    (rest_weighs c.self.inside.name c.args.handle v c.self.inside.rows new c.in-Some.ensures.value
    c.in-Some.ensures.removed c.self.inside.weight c.in_ok-made-in-Some.made c.self.invariant.0
    c.in_ok-made-in-Some.ensures gone)

pub invariant_of-result-in-Some : goal.invariant_of-result-in-Some
invariant_of-result-in-Some g c =
    let v = c.in-Some.value in
    let new : Rows = c.remove.new.self in
    let part = weight_of_all c.in_ok-made-in-Some.made in
    let after = c.weight_without-weight.result in
    let gone : among v (values_of new) ≡ false =
    stands_no_more c.in-Some.last (among v (values_of new)) c.in-Some.ensures.last c.if-not-last.false in
    let sum =
    rest_weighs c.self.inside.name c.args.handle v c.self.inside.rows new c.in-Some.ensures.value
    c.in-Some.ensures.removed c.self.inside.weight c.in_ok-made-in-Some.made c.self.invariant.0
    c.in_ok-made-in-Some.ensures gone in (
      rest_is c.self.inside.weight part (weighs c.self.inside.name new) after c.weight_without-weight.ensures sum,
      rest_fits c.self.inside.weight part after c.weight_without-weight.ensures c.self.invariant.1,
    )

pub returns-in_ok-changes-in-Some : goal.returns-in_ok-changes-in-Some
returns-in_ok-changes-in-Some g c =
    let w : Watch = record { name = c.self.inside.name; got = c.self.inside.rows } in
    let v = c.in-Some.value in
    let new : Rows = c.remove.new.self in
    let gone : among v (values_of new) ≡ false =
    stands_no_more c.in-Some.last (among v (values_of new)) c.in-Some.ensures.last c.if-not-last.false in
    let wants =
    last_wants w.name c.args.handle v w.got new c.in-Some.ensures.value c.in-Some.ensures.removed gone in
    let all =
    follows (Gone c.args.handle) w c.args.self new _ c.self.view_is c.in-Some.ensures.removed
    (c.in_ok-changes-in-Some.ensures ∙ ap (λ vs. map Left (keys_from v 0 vs)) c.in_ok-made-in-Some.ensures
    ∙ sym wants) in
    (all.0, all.1, all.2, tt)

pub returns-in-None : goal.returns-in-None
returns-in-None g c =
    let w : Watch = record { name = c.self.inside.name; got = c.self.inside.rows } in
    let same : c.remove.new.self ≡ w.got = c.in-None.ensures.unchanged in
    let all =
    follows (Gone c.args.handle) w c.args.self c.remove.new.self _ c.self.view_is c.in-None.ensures.removed
    (c.new-in-None.ensures.items ∙ sym (no_changes w.name (values_of w.got))
    ∙ ap (λ (rows : Rows). key_changes w.name (values_of w.got) (values_of rows)) (sym same)) in
    (all.0, all.1, all.2, tt)
