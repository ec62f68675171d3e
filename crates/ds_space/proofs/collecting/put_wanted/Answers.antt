use Rattle.std.proofs.Common.{◌≡◌, ◌||◌, Bool, Option, Some, None, option_copied, OnOk, subst, sym, ap, ◌∙◌}
use Rattle.std.specs.Prelude.{option_and_then}
use Rattle.std.specs.List.{list_any}
use Rattle.std.specs.BTreeMap as tree
use Rattle.std.specs.BTreeSet as sorted
use Rattle.pv_value.specs.Plain.{Plain}
use Rattle.pv_value.specs.Order.{order}
use Rattle.dp_pattern.specs.Patterns.{Pattern}
use Rattle.dp_pattern.specs.Matching.{matched}
use Rattle.ds_space.specs.Wants.{observer_of, is_key, gives}
use Rattle.ds_space.specs.Lemmas.Keys.{or_false, any_none}
use Rattle.ds_space.proofs.collecting.put_wanted.Goals as goal

pub returns-in-Some : goal.returns-in-Some
returns-in-Some c =
    let found : Some c.in-Some.pattern.now ≡ observer_of c.args.observe.now =
    ap option_copied (sym c.in-Some.is) ∙ c.pattern.ensures in
    subst (λ (x : Option Pattern). OnOk c.put_captured.result
    ((q : Plain) → sorted.contains order c.put_captured.new.keys q
    ≡ (sorted.contains order c.args.keys.now q
    || list_any (λ v. is_key q c.args.observe.now (option_and_then (λ p. matched p v) x))
    (tree.values c.args.rows.now))))
    found c.put_captured.ensures

pub returns-in-None : goal.returns-in-None
returns-in-None c q =
    let none : observer_of c.args.observe.now ≡ None = sym c.pattern.ensures ∙ ap option_copied c.in-None.is in
    let old : Bool = sorted.contains order c.args.keys.now q in
    sym (ap (λ b. old || b)
    (any_none (gives q c.args.observe.now) (tree.values c.args.rows.now)
    (λ v. ap (λ (x : Option Pattern). is_key q c.args.observe.now (option_and_then (λ p. matched p v) x)) none))
    ∙ or_false old)
