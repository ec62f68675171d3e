use Rattle.std.proofs.Common.{sym}
use Rattle.ac_table.proofs.Finding.{is_live-seen}
use Rattle.ac_table.proofs.table.Table.live.Goals as goal

pub returns : goal.returns
returns c = let i = c.self.inside in
    rw (c.contains_key.ensures, ← c.self.view_is) (sym (is_live-seen c.args.actor i.next i.rows.entries
    i.actors.entries))
