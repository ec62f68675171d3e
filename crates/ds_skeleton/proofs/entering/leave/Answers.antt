use Rattle.std.proofs.Common.{◌≡◌, ◌+◌, ◌∷◌, Bool, cond, ap, sym, ◌∙◌, rules}
use Rattle.std.specs.BTreeMap as tree
use Rattle.pv_value.specs.Plain.{Plain}
use Rattle.pv_value.specs.Order.{order}
use Rattle.pv_words.specs.Lemmas.Same.{same_is}
use Rattle.pv_words.specs.Parts.{same}
use Rattle.ds_facts.specs.Lemmas.Members.{facts_are_members}
use Rattle.ds_skeleton.specs.Places.{count}
use Rattle.ds_skeleton.specs.Indexes.{goes_with}
use Rattle.ds_skeleton.proofs.Entries.{keys_out, no_key, at_some}
use Rattle.ds_skeleton.proofs.Exact.{exact}
use Rattle.ds_skeleton.proofs.Moves.{value_went, seen_alike, with_first, among_first}
use Rattle.ds_skeleton.proofs.Walks.{walked_in_order, keeps_dropped}
use Rattle.ds_skeleton.proofs.entering.leave.Goals as goal

pub unobserve-requires-clause-in_order : goal.unobserve-requires-clause-in_order
unobserve-requires-clause-in_order c =
    walked_in_order (keeps_dropped c.args.value.now) c.args.index.now.shapes.items c.drop_all.new.shapes.items
    c.in_ok-drop_all.ensures c.requires.whole.index.in_order

pub unobserve-requires-clause-index : goal.unobserve-requires-clause-index
unobserve-requires-clause-index c =
    let vs = tree.keys c.args.index.now.values in
    let ws = tree.keys c.remove.new.self in
    let v = c.args.value.now in
    let more : (f : Plain → Bool) → count f vs ≡ count f ws + cond (f v) 1 0 =
    λ f. at_some (tree.get order c.args.index.now.values v) (search rules) (λ n some.
    keys_out (same v) f v n c.args.index.now.values.entries c.remove.new.self.entries (same_is v) some
    c.remove.ensures.entries) in
    seen_alike ws vs (v ∷ ws) c.drop_all.new.shapes.items (λ f. sym (with_first ws vs v more f))
    (λ o. sym (among_first ws vs v more o))
    (value_went vs ws vs c.args.index.now.shapes.items c.drop_all.new.shapes.items v more c.requires.whole.index
    c.in_ok-drop_all.ensures)

pub unobserve-requires-clause-gone : goal.unobserve-requires-clause-gone
unobserve-requires-clause-gone c =
    no_key (same c.args.value.now) c.remove.new.self.entries c.remove.ensures.updates.1

pub returns-clause-keys : goal.returns-clause-keys
returns-clause-keys c q =
    let vs = tree.keys c.args.index.now.values in
    let ws = tree.keys c.remove.new.self in
    let v = c.args.value.now in
    let more : (f : Plain → Bool) → count f vs ≡ count f ws + cond (f v) 1 0 =
    λ f. at_some (tree.get order c.args.index.now.values v) (search rules) (λ n some.
    keys_out (same v) f v n c.args.index.now.values.entries c.remove.new.self.entries (same_is v) some
    c.remove.ensures.entries) in
    c.in_ok-keys.ensures.keys q
    ∙ ap (λ xs. goes_with xs c.args.value.now q) c.deref.ensures.value
    ∙ exact vs ws c.args.index.now.shapes.items v more
    (no_key (same v) c.remove.new.self.entries c.remove.ensures.updates.1) c.requires.whole.index q

pub returns-clause-whole : goal.returns-clause-whole
returns-clause-whole c =
    let vs = tree.keys c.args.index.now.values in
    let ws = tree.keys c.remove.new.self in
    let v = c.args.value.now in
    let more : (f : Plain → Bool) → count f vs ≡ count f ws + cond (f v) 1 0 =
    λ f. at_some (tree.get order c.args.index.now.values v) (search rules) (λ n some.
    keys_out (same v) f v n c.args.index.now.values.entries c.remove.new.self.entries (same_is v) some
    c.remove.ensures.entries) in
    record {
      index = c.in_ok-unobserve.ensures.index;
      facts =
          c.in_ok-remove.ensures ws
          (facts_are_members vs (v ∷ ws) c.args.index.now.facts (λ o. sym (among_first ws vs v more o))
          c.requires.whole.facts)
          (no_key (same v) c.remove.new.self.entries c.remove.ensures.updates.1);
    }
