use Rattle.std.proofs.Common.{◌∷◌, ap, ◌∙◌}
use Rattle.std.specs.BTreeMap as tree
use Rattle.ds_facts.specs.Keeping.{AreFacts}
use Rattle.ds_facts.specs.Lemmas.Members.{facts_are_members}
use Rattle.ds_skeleton.specs.Indexes.{IsIndex, goes_with}
use Rattle.ds_skeleton.proofs.Exact.{exact}
use Rattle.ds_skeleton.proofs.Moves.{value_came, seen_alike, with_first, among_first}
use Rattle.ds_skeleton.proofs.Walks.{walked_in_order, keeps_bumped}
use Rattle.ds_skeleton.proofs.entering.enter.Goals as goal

pub observe-requires : goal.observe-requires
observe-requires c =
    walked_in_order (keeps_bumped c.args.value.now) c.args.index.now.shapes.items c.bump_all.new.shapes.items
    c.in_ok-bump_all.ensures c.requires

pub returns-clause-whole : goal.returns-clause-whole
returns-clause-whole c others a =
    let ws = tree.keys c.args.index.now.values in
    let v = c.args.value.now in
    let facts : AreFacts ws c.add.new.self =
    facts_are_members (v ∷ others) ws c.add.new.self (among_first others ws v a.more)
    (c.in_ok-add.ensures others a.facts) in
    record {
      index =
          seen_alike ws (v ∷ others) ws c.observe.new.shapes.items (with_first others ws v a.more)
          (among_first others ws v a.more)
          (c.in_ok-observe.ensures.index others facts
          (value_came others ws others c.args.index.now.shapes.items c.bump_all.new.shapes.items v a.more a.index
          c.in_ok-bump_all.ensures));
      facts = facts;
    }

pub returns-clause-keys : goal.returns-clause-keys
returns-clause-keys c others a q =
    let ws = tree.keys c.args.index.now.values in
    let v = c.args.value.now in
    let facts : AreFacts ws c.add.new.self =
    facts_are_members (v ∷ others) ws c.add.new.self (among_first others ws v a.more)
    (c.in_ok-add.ensures others a.facts) in
    let whole : IsIndex ws c.observe.new.shapes.items =
    seen_alike ws (v ∷ others) ws c.observe.new.shapes.items (with_first others ws v a.more)
    (among_first others ws v a.more)
    (c.in_ok-observe.ensures.index others facts
    (value_came others ws others c.args.index.now.shapes.items c.bump_all.new.shapes.items v a.more a.index
    c.in_ok-bump_all.ensures)) in
    c.in_ok-keys.ensures.keys q
    ∙ ap (λ xs. goes_with xs c.args.value.now q) c.deref.ensures.value
    ∙ exact ws others c.observe.new.shapes.items v a.more a.gone whole q
