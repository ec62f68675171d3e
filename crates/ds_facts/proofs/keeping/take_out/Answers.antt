use Rattle.std.proofs.Common.{◌≡◌, false, cond, Some, None, refl, ap, sym, ◌∙◌}
use Rattle.std.specs.BTreeMap as tree
use Rattle.pv_value.specs.EntryOrder.{entry_order}
use Rattle.pv_words.specs.Parts.{same}
use Rattle.ds_facts.specs.Atoms.{Entry, same_entry}
use Rattle.ds_facts.specs.Keeping.{is_in}
use Rattle.ds_facts.proofs.Places.{taken_at, nothing_at, put_away, none_in, none_less}
use Rattle.ds_facts.proofs.keeping.take_out.Goals as goal

pub returns-in_default-clause-keeps : goal.returns-in_default-clause-keeps
returns-in_default-clause-keeps c =
    let p = c.args.entry.now in
    let value = c.args.value.now in
    let f = λ (e : Entry). tree.get entry_order c.args.places.now e in
    let g = λ (e : Entry). tree.get entry_order c.get_mut.follows.lender-at-none e in
    let none : f p ≡ None = sym c.in_default.ensures.value in
    taken_at f g p value None
    (λ e. ap (λ m. tree.get entry_order m e) c.get_mut.follows.holds-at-none ∙ nothing_at f p none e)
    (λ v. none_less (same value v) ∙ ap (λ o. cond (same value v) false (is_in o v)) (sym none))

pub returns-then-is_empty-clause-keeps : goal.returns-then-is_empty-clause-keeps
returns-then-is_empty-clause-keeps c =
    let list = c.remove.new.self in
    let p = c.args.entry.now in
    let value = c.args.value.now in
    let f = λ (e : Entry). tree.get entry_order c.args.places.now e in
    let m = λ (e : Entry). tree.get entry_order (c.get_mut.follows.lender list) e in
    let g = λ (e : Entry). tree.get entry_order c.remove-then-is_empty.new.self e in
    let there : f p ≡ Some c.in-Some.list.now = sym c.in-Some.ensures.value in
    let empty = c.is_empty.ensures.0 c.if-is_empty.true in
    taken_at f g p value None
    (λ e. put_away (same_entry p e) (g e) (m e) (f e) list (c.remove-then-is_empty.ensures.updates.0 e)
    (((c.get_mut.follows.holds list).3 (rw there refl)).0 e))
    (λ v. sym (none_in list empty v) ∙ c.remove.ensures.members v
    ∙ ap (λ o. cond (same value v) false (is_in o v)) (sym there))

pub returns-else-is_empty-clause-keeps : goal.returns-else-is_empty-clause-keeps
returns-else-is_empty-clause-keeps c =
    let list = c.remove.new.self in
    let p = c.args.entry.now in
    let value = c.args.value.now in
    let f = λ (e : Entry). tree.get entry_order c.args.places.now e in
    let g = λ (e : Entry). tree.get entry_order (c.get_mut.follows.lender list) e in
    let there : f p ≡ Some c.in-Some.list.now = sym c.in-Some.ensures.value in
    taken_at f g p value (Some list) (λ e. ((c.get_mut.follows.holds list).3 (rw there refl)).0 e)
    (λ v. c.remove.ensures.members v ∙ ap (λ o. cond (same value v) false (is_in o v)) (sym there))
