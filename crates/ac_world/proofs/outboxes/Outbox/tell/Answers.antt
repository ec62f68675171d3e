use Rattle.std.proofs.Common.{◌≡◌, ap, ◌∙◌, unwrap_or, [], ◌∷◌, ◌++◌, List, Option}
use Rattle.std.specs.BTreeMap.{insert_entry}
use Rattle.std.specs.Ordering.{nat_cmp}
use Rattle.ac_table.specs.declared.batches.Event.{Event}
use Rattle.ac_world.specs.Outboxes.{Outbox, told, told_to}
use Rattle.ac_world.proofs.outboxes.Outbox.tell.Goals as goal
use Rattle.ac_world.proofs.outboxes.Outbox.tell.Goals.{in-Some, in-None}
use Rattle.ac_world.specs.Lemmas.Entries.{put_back}

pub returns : goal.returns
returns c =
    let target = c.args.target in
    let es = c.self.inside.lists.entries in
    let so_far : c.match-remove.events.items ≡ told_to target es =
    elim c.match-remove.branch [
      | in-Some w ↦ ap (λ v. v.items) w.events-is ∙ w.into_vec-events.ensures.events
          ∙ ap (λ (o : Option (List Event)). unwrap_or o []) w.in-Some.ensures.value
      | in-None w ↦ ap (λ v. v.items) w.events-is ∙ w.new-events.ensures.items
          ∙ ap (λ (o : Option (List Event)). unwrap_or o []) w.in-None.ensures.value
    ] in
    let events : c.from_vec.result ≡ told_to target es ++ c.args.event ∷ [] =
    c.from_vec.ensures ∙ c.in_ok-push.ensures.items
    ∙ ap (λ (l : List Event). l ++ c.args.event ∷ []) so_far in
    c.in_ok-insert.ensures.entries
    ∙ ap (λ (l : Outbox). insert_entry nat_cmp l target c.from_vec.result) c.remove.ensures.entries
    ∙ put_back target c.from_vec.result es c.self.invariant
    ∙ ap (insert_entry nat_cmp es target) events
    ∙ ap (told target c.args.event) c.self.view_is
