use Rattle.std.proofs.Common.{◌≡◌, ◌+◌, ◌-◌, ◌<◌, ◌∷◌, None, cond, refl, ap, sym, ◌∙◌, subst, arith}
use Rattle.std.specs.List.{list_any}
use Rattle.std.specs.BTreeMap as tree
use Rattle.pv_value.specs.Plain.{Plain}
use Rattle.pv_value.specs.Order.{order}
use Rattle.pv_words.specs.Lemmas.Same.{same_self}
use Rattle.pv_words.specs.Parts.{same}
use Rattle.ds_facts.specs.Keeping.{AreFacts}
use Rattle.ds_skeleton.specs.Places.{same_entry, count}
use Rattle.ds_skeleton.specs.Leaves.{number, kept}
use Rattle.ds_skeleton.specs.Indexes.{IsIndexOf}
use Rattle.ds_skeleton.proofs.Empty.{none_ascend}
use Rattle.ds_skeleton.proofs.Tallies.{counted_out, none_kept, number_counts, only_in_alike, only_in-same, among_counts}
use Rattle.ds_skeleton.proofs.Tallies.{among_again, among_from_count, at_most_one, more_than_one}
use Rattle.ds_skeleton.proofs.tally.count_out.Goals as goal

pub returns-then-is_last-clause-values : goal.returns-then-is_last-clause-values
returns-then-is_last-clause-values c vs h =
    counted_out c.args.index.now.values c.leave.new.index.values c.args.value.now vs None h c.in_ok-keys.ensures.values
    (none_kept (number (tree.get order c.args.index.now.values c.args.value.now))
    (at_most_one _ (sym c.is_last.ensures ∙ c.if-is_last.true)))

pub returns-then-is_last-clause-keys : goal.returns-then-is_last-clause-keys
returns-then-is_last-clause-keys c vs h q =
    let counts =
    counted_out c.args.index.now.values c.leave.new.index.values c.args.value.now vs None h c.in_ok-keys.ensures.values
    (none_kept (number (tree.get order c.args.index.now.values c.args.value.now))
    (at_most_one _ (sym c.is_last.ensures ∙ c.if-is_last.true))) in
    c.in_ok-keys.ensures.keys q
    ∙ only_in_alike (tree.keys c.args.index.now.values) (tree.keys c.leave.new.index.values) (c.args.value.now ∷ vs)
    vs q
    (among_counts c.args.index.now.values (c.args.value.now ∷ vs) h)
    (among_counts c.leave.new.index.values vs counts)

pub returns-clause-whole : goal.returns-clause-whole
returns-clause-whole c =
    let many : 1 < number (tree.get order c.args.index.now.values c.in_ok-again.again) =
    subst (λ v. 1 < number (tree.get order c.args.index.now.values v)) (sym c.in_ok-again.ensures)
    (more_than_one _ (sym c.is_last.ensures ∙ c.if-is_last.false)) in
    let same = sym (c.in_ok-count_down.ensures.keys many) in
    record {
      index = subst (λ ks. IsIndexOf ks ks c.args.index.now.shapes.items) same c.requires.whole.index;
      facts = subst (λ ks. AreFacts ks c.args.index.now.facts) same c.requires.whole.facts;
    }

pub returns-clause-values : goal.returns-clause-values
returns-clause-values c vs h =
    let old = tree.get order c.args.index.now.values in
    let new = tree.get order c.count_down.new.counts in
    counted_out c.args.index.now.values c.count_down.new.counts c.args.value.now vs
    (kept (number (old c.args.value.now) - 1)) h
    (subst (λ v. (q : Plain) → new q ≡ cond (same v q) (kept (number (old v) - 1)) (old q)) c.in_ok-again.ensures
    c.in_ok-count_down.ensures.counts)
    refl

pub returns-clause-keys : goal.returns-clause-keys
returns-clause-keys c vs h q =
    let many =
    number_counts c.args.index.now.values (c.args.value.now ∷ vs) h c.args.value.now
    ∙ ap (λ b. cond b 1 0 + count (same c.args.value.now) vs) (same_self c.args.value.now) in
    ap (list_any (same_entry q)) c.new.ensures.items
    ∙ sym (only_in-same (c.args.value.now ∷ vs) vs q
    (among_again c.args.value.now vs
    (among_from_count c.args.value.now vs
    (omega (arith, many, more_than_one _ (sym c.is_last.ensures ∙ c.if-is_last.false))))))

pub returns-clause-ascending : goal.returns-clause-ascending
returns-clause-ascending c = none_ascend c.new.result.items c.new.ensures.items
