use Rattle.std.proofs.Common.{◌≡◌, ◌<◌, List, [], ◌∷◌, Option, Some, None, is_some, slice_get, length, refl, sym, ap}
use Rattle.std.proofs.Common.{◌∙◌, arith}
use Rattle.std.proofs.lemmas.Bool.Decides.{nat_tests}
use Rattle.ac_table.specs.Inboxes.{is_busy}
use Rattle.ac_table.specs.Kept.{waits_at, value_at}
use Rattle.ac_table.specs.Tables.{Batch, TableState, first_batch}
use Rattle.ac_table.specs.declared.table.LiveActor.{LiveActor}
use Rattle.ac_table.proofs.Finding.{front_of, first_batch-seen}
use Rattle.ac_table.proofs.table.Table.busy.Goals as goal

has_first : (bs : List Batch) → is_busy bs ≡ is_some (slice_get bs 0)
has_first [] = refl
has_first (b ∷ bs) = let some : 0 < length (b ∷ bs) = omega arith in grind (arith, nat_tests, some)

waits_first : (s : Option LiveActor) → waits_at s ≡ is_some (front_of s)
waits_first None = refl
waits_first (Some s) = has_first s.inbox

pub returns : goal.returns
returns c a = let i = c.self.inside in
    c.self.invariant.kept.busy_is a
    ∙ waits_first (value_at a i.actors.entries)
    ∙ sym (ap (λ (o : Option Batch). is_some o) (first_batch-seen a i.next i.rows.entries i.actors.entries))
    ∙ ap (λ (t : TableState). is_some (first_batch a t)) c.self.view_is
