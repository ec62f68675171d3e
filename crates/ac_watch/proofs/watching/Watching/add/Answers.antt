use Rattle.std.proofs.Common.{◌≡◌, ◌≤◌, map, None, refl, sym, ap, ◌∙◌}
use Rattle.std.proofs.lemmas.Bool.{ltb-true, ltb-false}
use Rattle.std.specs.BTreeMap.{is_at}
use Rattle.std.specs.Map.{lookup, values_of}
use Rattle.std.specs.Ordering.{nat_cmp}
use Rattle.ds_space.specs.Limits.{most_wanted_weight}
use Rattle.ds_space.specs.Spaces.{changed}
use Rattle.ds_space.specs.declared.space.Change.TheVariants.{Came}
use Rattle.ds_space.specs.declared.space.SpaceEvent.TheVariants.{Add}
use Rattle.ac_watch.specs.Watching.{Watch, keys_from, weight_of_all, watcher_weight}
use Rattle.ac_watch.proofs.Events.{follows, within, weighs, one_more_weighs, sum_weighs, whole_weighs}
use Rattle.ac_watch.proofs.Events.{one_more_wants, first_wants}
use Rattle.ac_watch.proofs.Weights.{summed}
use Rattle.ac_watch.proofs.watching.Watching.add.Goals as goal

pub invariant_of-result : goal.invariant_of-result
invariant_of-result g c =
    let none : lookup (is_at (nat_cmp c.args.handle)) c.self.inside.rows ≡ None =
    ap (λ (w : Watch). lookup (is_at (nat_cmp c.args.handle)) w.got) c.self.view_is ∙ c.requires in
    let stays =
    one_more_weighs c.self.inside.name c.args.handle c.args.value c.self.inside.rows _ none
    c.in_ok-add.ensures.added (sym c.stands.ensures ∙ c.if-stands.true) in
    (c.self.invariant.0 ∙ sym stays, c.self.invariant.1)

pub returns-then-stands : goal.returns-then-stands
returns-then-stands g c =
    let h = c.args.handle in
    let v = c.args.value in
    let w : Watch = record { name = c.self.inside.name; got = c.self.inside.rows } in
    let none : lookup (is_at (nat_cmp h)) w.got ≡ None =
    ap (λ (o : Watch). lookup (is_at (nat_cmp h)) o.got) c.self.view_is ∙ c.requires in
    let more = c.in_ok-add.ensures.added in
    let stands = sym c.stands.ensures ∙ c.if-stands.true in
    let all =
    follows (Add h v) w c.args.self _ _ c.self.view_is more
    (c.new.ensures.items ∙ sym (one_more_wants w.name h v w.got _ none more stands)) in (
      all.0,
      all.1,
      all.2,
      within h v w c.args.self _ c.self.inside.weight c.self.view_is more
          (c.self.invariant.0 ∙ sym (one_more_weighs w.name h v w.got _ none more stands)) c.self.invariant.1,
    )

pub returns-then-is_over : goal.returns-then-is_over
returns-then-is_over g c =
    let h = c.args.handle in
    let v = c.args.value in
    let after = c.weight_with-after.result in
    let w : Watch = record { name = c.self.inside.name; got = c.self.inside.rows } in
    let none : lookup (is_at (nat_cmp h)) w.got ≡ None =
    ap (λ (o : Watch). lookup (is_at (nat_cmp h)) o.got) c.self.view_is ∙ c.requires in
    let sum =
    sum_weighs w.name h v w.got (changed w.got (Add h v)) none refl c.self.inside.weight c.in_ok-made.made
    c.self.invariant.0 c.in_ok-made.ensures (sym c.stands.ensures ∙ c.if-stands.false) in (
      ap (λ (o : Watch). o.got) c.self.view_is,
      ap (λ (o : Watch). o.name) c.self.view_is,
      (
        ltb-true most_wanted_weight after (sym c.is_over.ensures ∙ c.if-is_over.true),
        summed c.self.inside.weight (weight_of_all c.in_ok-made.made) (weighs w.name (changed w.got (Add h v))) after
            c.weight_with-after.ensures sum
            ∙ ap (λ (o : Watch). watcher_weight o.name (values_of (changed o.got (Add h v)))) c.self.view_is,
      ),
    )

pub invariant_of-result-2 : goal.invariant_of-result-2
invariant_of-result-2 g c =
    let h = c.args.handle in
    let none : lookup (is_at (nat_cmp h)) c.self.inside.rows ≡ None =
    ap (λ (w : Watch). lookup (is_at (nat_cmp h)) w.got) c.self.view_is ∙ c.requires in
    let fits : c.weight_with-after.result ≤ most_wanted_weight =
    ltb-false most_wanted_weight c.weight_with-after.result (sym c.is_over.ensures ∙ c.if-is_over.false) in (
      whole_weighs c.self.inside.name h c.args.value c.self.inside.rows _ none c.in_ok-add-2.ensures.added
          c.self.inside.weight c.weight_with-after.result c.in_ok-made.made c.self.invariant.0 c.in_ok-made.ensures
          (sym c.stands.ensures ∙ c.if-stands.false) c.weight_with-after.ensures fits,
      fits,
    )

pub returns : goal.returns
returns g c =
    let h = c.args.handle in
    let v = c.args.value in
    let after = c.weight_with-after.result in
    let w : Watch = record { name = c.self.inside.name; got = c.self.inside.rows } in
    let none : lookup (is_at (nat_cmp h)) w.got ≡ None =
    ap (λ (o : Watch). lookup (is_at (nat_cmp h)) o.got) c.self.view_is ∙ c.requires in
    let more = c.in_ok-add-2.ensures.added in
    let first = sym c.stands.ensures ∙ c.if-stands.false in
    let fits : after ≤ most_wanted_weight =
    ltb-false most_wanted_weight after (sym c.is_over.ensures ∙ c.if-is_over.false) in
    let all =
    follows (Add h v) w c.args.self _ _ c.self.view_is more
    (c.in_ok-changes.ensures ∙ ap (λ vs. map Came (keys_from v 0 vs)) c.in_ok-made.ensures
    ∙ sym (first_wants w.name h v w.got _ none more first)) in (
      all.0,
      all.1,
      all.2,
      within h v w c.args.self _ after c.self.view_is more
          (whole_weighs w.name h v w.got _ none more c.self.inside.weight after c.in_ok-made.made c.self.invariant.0
          c.in_ok-made.ensures first c.weight_with-after.ensures fits) fits,
    )
