use Rattle.std.proofs.Common.{◌+◌, ◌∷◌, refl, ap, sym, ◌∙◌, subst}
use Rattle.std.specs.List.{list_any}
use Rattle.std.specs.BTreeMap as tree
use Rattle.pv_value.specs.Order.{order}
use Rattle.pv_words.specs.Parts.{same}
use Rattle.ds_facts.specs.Keeping.{AreFacts}
use Rattle.ds_skeleton.specs.Places.{same_entry}
use Rattle.ds_skeleton.specs.Leaves.{number}
use Rattle.ds_skeleton.specs.Indexes.{IsIndexOf, AreCounts}
use Rattle.ds_skeleton.proofs.Entries.{keys_in, no_key}
use Rattle.ds_skeleton.proofs.Empty.{none_ascend}
use Rattle.ds_skeleton.proofs.Tallies.{counted_in, only_in_alike, only_in-same, among_counts, among_again, among_found}
use Rattle.ds_skeleton.proofs.tally.count_in.Goals as goal

pub returns-then-first-clause-whole : goal.returns-then-first-clause-whole
returns-then-first-clause-whole c =
    let none = c.in_ok-first.ensures.first c.if-first.true in
    c.in_ok-keys.ensures.whole (tree.keys c.args.index.now.values) (record {
      more = λ f.
          keys_in order f c.args.value.now 1 c.args.index.now.values.entries c.count_value.new.values.entries none
          (c.in_ok-first.ensures.entries c.if-first.true);
      gone = no_key (same c.args.value.now) c.args.index.now.values.entries none;
      index = c.requires.index;
      facts = c.requires.facts;
    })

pub returns-then-first-clause-values : goal.returns-then-first-clause-values
returns-then-first-clause-values c vs h =
    subst (λ counts. AreCounts counts (c.args.value.now ∷ vs)) (sym c.in_ok-keys.ensures.values)
    (counted_in c.args.index.now.values c.count_value.new.values c.args.value.now vs
    (number (tree.get order c.args.index.now.values c.args.value.now) + 1) h c.in_ok-first.ensures.counts refl)

pub returns-then-first-clause-keys : goal.returns-then-first-clause-keys
returns-then-first-clause-keys c vs h q =
    let none = c.in_ok-first.ensures.first c.if-first.true in
    let counts =
    counted_in c.args.index.now.values c.count_value.new.values c.args.value.now vs
    (number (tree.get order c.args.index.now.values c.args.value.now) + 1) h c.in_ok-first.ensures.counts refl in
    c.in_ok-keys.ensures.keys (tree.keys c.args.index.now.values) (record {
      more = λ f.
          keys_in order f c.args.value.now 1 c.args.index.now.values.entries c.count_value.new.values.entries none
          (c.in_ok-first.ensures.entries c.if-first.true);
      gone = no_key (same c.args.value.now) c.args.index.now.values.entries none;
      index = c.requires.index;
      facts = c.requires.facts;
    }) q
    ∙ only_in_alike (tree.keys c.count_value.new.values) (tree.keys c.args.index.now.values) (c.args.value.now ∷ vs)
    vs q
    (among_counts c.count_value.new.values (c.args.value.now ∷ vs) counts)
    (among_counts c.args.index.now.values vs h)

pub returns-clause-whole : goal.returns-clause-whole
returns-clause-whole c =
    let same = sym (c.in_ok-first.ensures.keys c.if-first.false) in
    record {
      index = subst (λ ks. IsIndexOf ks ks c.args.index.now.shapes.items) same c.requires.index;
      facts = subst (λ ks. AreFacts ks c.args.index.now.facts) same c.requires.facts;
    }

pub returns-clause-values : goal.returns-clause-values
returns-clause-values c vs h =
    counted_in c.args.index.now.values c.count_value.new.values c.args.value.now vs
    (number (tree.get order c.args.index.now.values c.args.value.now) + 1) h c.in_ok-first.ensures.counts refl

pub returns-clause-keys : goal.returns-clause-keys
returns-clause-keys c vs h q =
    ap (list_any (same_entry q)) c.new.ensures.items
    ∙ sym (only_in-same (c.args.value.now ∷ vs) vs q
    (among_again c.args.value.now vs
    (among_found c.args.index.now.values c.args.value.now vs h (c.in_ok-first.ensures.again c.if-first.false))))

pub returns-clause-ascending : goal.returns-clause-ascending
returns-clause-ascending c = none_ascend c.new.result.items c.new.ensures.items
