use Rattle.std.proofs.Common.{◌≡◌, ◌∙◌, sym, ap, Result, Ok, Err, is_err, false, OnOk}
use Rattle.std.specs.BTreeMap.{is_at}
use Rattle.std.specs.Ordering.{nat_cmp}
use Rattle.std.specs.Set.{remove_key}
use Rattle.ac_table.specs.Lemmas.Lists.{insert_entry-above, insert_key-above, remove_key-above}
use Rattle.ac_table.proofs.keeping.put_owned.Goals as goal

on_ok : {X E : Type 0} (P : Type 0) (r : Result X E) → is_err r ≡ false → OnOk r P → P
on_ok P (Ok x) is p = p
on_ok P (Err e) is p = absurd cc

pub returns-then-is_err-clause-same_own : goal.returns-then-is_err-clause-same_own
returns-then-is_err-clause-same_own c = let h = c.args.row.handle in
    c.remove.ensures.keys
    ∙ ap (remove_key (is_at (nat_cmp h))) (c.in_ok-insert.ensures.keys ∙ insert_key-above h _ c.requires.above_own)
    ∙ remove_key-above h _ c.requires.above_own

pub returns-clause-rows : goal.returns-clause-rows
returns-clause-rows c = let h = c.args.row.handle in
    on_ok _ c.insert-2.result (sym c.if-is_err.ensures.value) c.insert-2.ensures.entries
    ∙ insert_entry-above h _ _ c.requires.above

pub returns-clause-own : goal.returns-clause-own
returns-clause-own c = let h = c.args.row.handle in
    c.in_ok-insert.ensures.keys ∙ insert_key-above h _ c.requires.above_own
