use Rattle.std.proofs.Common.{◌≡◌, Bool, true, false, cond, ◌||◌, List, Some, None, ap, sym, ◌∙◌}
use Rattle.std.specs.BTreeMap as tree
use Rattle.std.specs.BTreeSet as sorted
use Rattle.std.specs.List.{list_any}
use Rattle.pv_value.specs.Plain.{Plain}
use Rattle.pv_value.specs.Order.{order}
use Rattle.pv_value.specs.EntryOrder.{entry_order}
use Rattle.pv_words.specs.Lemmas.Same.{same_self}
use Rattle.pv_words.specs.Parts.{same}
use Rattle.ds_facts.specs.Atoms.{Entry, same_entry}
use Rattle.ds_facts.specs.Keeping.{is_in}
use Rattle.ds_facts.proofs.Places.{put_at, alone, put_over, has_one, filled_at}
use Rattle.ds_facts.proofs.keeping.put.Goals as goal

pub returns-in_default-clause-keeps : goal.returns-in_default-clause-keeps
returns-in_default-clause-keeps c =
    let list = c.one-alone.result in
    let p = c.args.entry.now in
    let value = c.args.value.now in
    let f = λ (e : Entry). tree.get entry_order c.args.places.now e in
    let g = λ (e : Entry). tree.get entry_order c.insert.new.self e in
    let none : f p ≡ None = ap f (sym c.in_ok-place.ensures) ∙ sym c.in_ok-before.ensures.old ∙ c.in_default.is in
    put_at f g p value (Some list)
    (λ e. c.in_ok-before.ensures.updates.0 e
    ∙ ap (λ q. cond (same_entry q e) (Some list) (f e)) c.in_ok-place.ensures)
    (λ v. ap (λ (ks : List Plain). list_any (same v) ks) c.one-alone.ensures
    ∙ ap (λ w. same v w || false) c.in_ok-copy.ensures
    ∙ alone value v ∙ ap (λ o. cond (same value v) true (is_in o v)) (sym none))

pub returns-clause-keeps : goal.returns-clause-keeps
returns-clause-keeps c =
    let first = c.one-alone.result in
    let list = c.insert-2.new.self in
    let p = c.args.entry.now in
    let value = c.args.value.now in
    let f = λ (e : Entry). tree.get entry_order c.args.places.now e in
    let m = λ (e : Entry). tree.get entry_order c.insert.new.self e in
    let g = λ (e : Entry). tree.get entry_order c.insert-3.new.self e in
    let there : f p ≡ Some c.in-Some.list =
    ap f (sym c.in_ok-place.ensures) ∙ sym c.in_ok-before.ensures.old ∙ c.in-Some.is in
    put_at f g p value (Some list)
    (λ e. put_over (same_entry p e) (g e) (m e) (f e) list first
    (c.in_ok-insert-2.ensures.updates.0 e
    ∙ ap (λ q. cond (same_entry q e) (Some list) (m e)) c.in_ok-again.ensures)
    (c.in_ok-before.ensures.updates.0 e
    ∙ ap (λ q. cond (same_entry q e) (Some first) (f e)) c.in_ok-place.ensures))
    (λ v. c.in_ok-insert.ensures.members v
    ∙ ap (λ w. cond (same w v) true (sorted.contains order c.in-Some.list v)) c.in_ok-copy-2.ensures
    ∙ ap (λ o. cond (same value v) true (is_in o v)) (sym there))

pub returns-clause-filled : goal.returns-clause-filled
returns-clause-filled c =
    let first = c.one-alone.result in
    let list = c.insert-2.new.self in
    let p = c.args.entry.now in
    let value = c.args.value.now in
    let f = λ (e : Entry). tree.get entry_order c.args.places.now e in
    let m = λ (e : Entry). tree.get entry_order c.insert.new.self e in
    let g = λ (e : Entry). tree.get entry_order c.insert-3.new.self e in
    filled_at f g p list
    (λ e. put_over (same_entry p e) (g e) (m e) (f e) list first
    (c.in_ok-insert-2.ensures.updates.0 e
    ∙ ap (λ q. cond (same_entry q e) (Some list) (m e)) c.in_ok-again.ensures)
    (c.in_ok-before.ensures.updates.0 e
    ∙ ap (λ q. cond (same_entry q e) (Some first) (f e)) c.in_ok-place.ensures))
    (has_one list value
    (c.in_ok-insert.ensures.members value
    ∙ ap (λ w. cond (same w value) true (sorted.contains order c.in-Some.list value)) c.in_ok-copy-2.ensures
    ∙ ap (λ (b : Bool). cond b true (sorted.contains order c.in-Some.list value)) (same_self value)))
