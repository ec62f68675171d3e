use Rattle.std.proofs.Common.{◌≡◌, not, None, ap, sym, ◌∙◌}
use Rattle.std.specs.List.{list_any}
use Rattle.std.specs.Map.{values_of, lookup, remove_entry}
use Rattle.std.specs.BTreeMap.{insert_entry, is_at}
use Rattle.std.specs.Ordering.{nat_cmp}
use Rattle.pv_words.specs.Parts.{same}
use Rattle.ds_rows.specs.Counts.{times, kept, count_at}
use Rattle.ds_rows.proofs.Counted.{Rows, counted_in, counted_among}
use Rattle.ds_rows.proofs.Gone.{removed_again}
use Rattle.ds_rows.proofs.rows.Rows.add.Goals as goal

pub invariant_of-self-in-Ok : goal.invariant_of-self-in-Ok
invariant_of-self-in-Ok c =
    let h = c.args.handle in
    let rows : Rows = c.self.inside.by_handle.entries in
    let none : lookup (is_at (nat_cmp h)) rows ≡ None = ap (lookup (is_at (nat_cmp h))) c.self.view_is ∙ c.requires in
    counted_in rows c.insert.new.self.entries h c.args.value c.self.inside.by_value.entries
    c.count_in.new.counts.entries c.self.invariant none
    (c.in_ok-insert.ensures.entries ∙ ap (insert_entry nat_cmp rows h) c.in_ok-copy.ensures) c.in-Ok.ensures.counts

pub invariant_of-self-in-Err : goal.invariant_of-self-in-Err
invariant_of-self-in-Err c =
    let h = c.args.handle in
    let rows : Rows = c.self.inside.by_handle.entries in
    let none : lookup (is_at (nat_cmp h)) rows ≡ None = ap (lookup (is_at (nat_cmp h))) c.self.view_is ∙ c.requires in
    let back : c.remove.new.self.entries ≡ rows =
    c.remove.ensures.entries ∙ ap (remove_entry (is_at (nat_cmp h))) c.in_ok-insert.ensures.entries
    ∙ removed_again h c.in_ok-copy.field-0 rows none in
    λ v.
    ap (count_at v) c.in-Err.ensures.undone ∙ c.self.invariant v
    ∙ ap (λ (rs : Rows). kept (times v (values_of rs))) (sym back)

pub returns-in-Ok-clause-first : goal.returns-in-Ok-clause-first
returns-in-Ok-clause-first c =
    let v = c.args.value in
    c.in-Ok.ensures.first
    ∙ ap not (counted_among c.self.inside.by_handle.entries c.self.inside.by_value.entries c.self.invariant v)
    ∙ ap (λ (rs : Rows). not (list_any (same v) (values_of rs))) c.self.view_is

pub returns-in-Err-clause-undone : goal.returns-in-Err-clause-undone
returns-in-Err-clause-undone c =
    let h = c.args.handle in
    let rows : Rows = c.self.inside.by_handle.entries in
    let none : lookup (is_at (nat_cmp h)) rows ≡ None = ap (lookup (is_at (nat_cmp h))) c.self.view_is ∙ c.requires in
    c.remove.ensures.entries ∙ ap (remove_entry (is_at (nat_cmp h))) c.in_ok-insert.ensures.entries
    ∙ removed_again h c.in_ok-copy.field-0 rows none ∙ c.self.view_is
