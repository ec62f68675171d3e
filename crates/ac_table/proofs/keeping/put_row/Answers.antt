use Rattle.std.proofs.Common.{◌∙◌, sym}
use Rattle.ac_table.proofs.Members.{on_ok, on_error}
use Rattle.ac_table.proofs.Standing.{put_back}
use Rattle.ac_table.proofs.keeping.put_row.Goals as goal

pub returns-then-is_err-clause-same_rows : goal.returns-then-is_err-clause-same_rows
returns-then-is_err-clause-same_rows c =
    on_error _ c.put_owned.result (sym c.if-is_err.ensures.value) c.put_owned.ensures.same_rows

pub returns-then-is_err-clause-same_own : goal.returns-then-is_err-clause-same_own
returns-then-is_err-clause-same_own c =
    on_error _ c.put_owned.result (sym c.if-is_err.ensures.value) c.put_owned.ensures.same_own

pub returns-then-is_err-clause-tree : goal.returns-then-is_err-clause-tree
returns-then-is_err-clause-tree c = c.remove_row.ensures.tree ∙ c.put.ensures.tree

pub returns-then-is_err-clause-same_facets : goal.returns-then-is_err-clause-same_facets
returns-then-is_err-clause-same_facets c =
    put_back c.args.row.facet c.args.row.handle c.args.facets.now c.put.new.self c.remove_row.new.self
    c.in_ok-put.ensures.put c.remove_row.ensures.gone c.requires.absent

pub returns-clause-rows : goal.returns-clause-rows
returns-clause-rows c = on_ok _ c.put_owned.result (sym c.if-is_err.ensures.value) c.put_owned.ensures.rows

pub returns-clause-own : goal.returns-clause-own
returns-clause-own c = on_ok _ c.put_owned.result (sym c.if-is_err.ensures.value) c.put_owned.ensures.own

pub returns-clause-ordered : goal.returns-clause-ordered
returns-clause-ordered c = on_ok _ c.put_owned.result (sym c.if-is_err.ensures.value) c.put_owned.ensures.ordered
