use Rattle.std.proofs.Common.{◌≡◌, cond, true, false, ◌&&◌, ◌||◌, refl, rules, ap, sym, ◌∙◌}
use Rattle.std.specs.BTreeMap as tree
use Rattle.pv_value.specs.Order.{order}
use Rattle.pv_words.specs.Lemmas.Same.{same_is}
use Rattle.pv_words.specs.Parts.{same}
use Rattle.ds_skeleton.specs.Places.{stands, count}
use Rattle.ds_skeleton.specs.Leaves.{number, leaf_at, has_leaf_at, captured_at, observed_at}
use Rattle.ds_skeleton.proofs.Answered.{then_three}
use Rattle.ds_skeleton.proofs.Parts.{or_there, counted_there, counted_new}
use Rattle.ds_skeleton.proofs.shape.Shape.watch.Goals as goal

pub returns-then-joined-clause-watched : goal.returns-then-joined-clause-watched
returns-then-joined-clause-watched c are =
    let old = c.args.self.now.leaves in
    let k = c.args.constants in
    let stands : has_leaf_at old k ≡ true = sym c.in_ok-joined.ensures.stands ∙ c.if-joined.true in
    record {
      outline = refl;
      observations = search rules;
      leaves = λ q.
          c.in_ok-joined.ensures.leaves q
          ∙ or_there (same k q) (has_leaf_at old q) (λ e. ap (has_leaf_at old) (sym (same_is k q e)) ∙ stands);
      counts = λ q l.
          c.in_ok-joined.ensures.counts q l
          ∙ counted_there (same k q) (has_leaf_at old q) _ (captured_at (leaf_at old q) l)
          (λ e. ap (has_leaf_at old) (sym (same_is k q e)) ∙ stands);
      observers = λ q o.
          c.in_ok-joined.ensures.observers q o
          ∙ ap (λ b. cond (b && (same k q && same c.args.observer.now o)) true (observed_at (leaf_at old q) o))
          c.if-joined.true;
    }

pub returns-clause-watched : goal.returns-clause-watched
returns-clause-watched c =
    let old = c.args.self.now.leaves in
    let mid = c.join.new.leaves in
    let k = c.args.constants in
    let none : has_leaf_at old k ≡ false = sym c.in_ok-joined.ensures.stands ∙ c.if-joined.false in
    let vs = tree.keys c.args.values.now in
    then_three c.begin.result
    (λ leaves counts observers are. record {
      outline = refl;
      observations = search rules;
      leaves = λ q. leaves q ∙ ap (λ b. same k q || b) (c.in_ok-joined.ensures.leaves q);
      counts = λ q l.
          counted_new (same k q) (has_leaf_at old q) (count (stands c.args.self.now.outline q l) vs)
          (number (tree.get order c.in_ok-captured.captured l)) (captured_at (leaf_at old q) l) _
          (captured_at (leaf_at mid q) l)
          (λ e. ap (has_leaf_at old) (sym (same_is k q e)) ∙ none)
          (λ e. c.in_ok-captured.ensures are l
          ∙ ap (λ x. count (stands c.args.self.now.outline x l) vs) (same_is k q e))
          (counts q l) (c.in_ok-joined.ensures.counts q l);
      observers = λ q o.
          observers q o
          ∙ ap (λ b. cond (same k q && same c.args.observer.now o) true b)
          (c.in_ok-joined.ensures.observers q o
          ∙ ap (λ b. cond (b && (same k q && same c.args.observer.now o)) true (observed_at (leaf_at old q) o))
          c.if-joined.false);
    })
    c.begin.ensures.leaves c.begin.ensures.counts c.begin.ensures.observers
