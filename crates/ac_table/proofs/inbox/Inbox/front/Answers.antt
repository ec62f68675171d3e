use Rattle.std.proofs.Common.{◌≡◌, ap, refl, List, [], ◌∷◌, Option, Some, None, option_copied, slice_get, Bor, arith}
use Rattle.std.proofs.Common.{◌∙◌}
use Rattle.std.specs.Slice.{IsItemAt}
use Rattle.ac_table.specs.Tables.{Batch}
use Rattle.ac_table.proofs.inbox.Inbox.front.Goals as goal

front_is : {X : Type 0} (xs : List X) (r : Option (Bor X)) → IsItemAt xs 0 r → option_copied r ≡ slice_get xs 0
front_is [] None h = refl
front_is [] (Some y) h = absurd cc
front_is (x ∷ xs) None h = grind (arith, h.0)
front_is (x ∷ xs) (Some y) h = ap Some h.1

pub returns : goal.returns
returns c = front_is _ _ c.front.ensures.item ∙ ap (λ (bs : List Batch). slice_get bs 0) c.self.view_is
