-- Entries in the order of their keys' marks: what is found among them is what is found among entries by ascending keys.
use Rattle.std.proofs.Common.{◌≡◌, List, [], ◌∷◌, false, cond, Option, Some, None, refl, sym, ap, ◌∙◌}
use Rattle.std.specs.declared.cmp.Ordering.TheVariants.{Less}
use Rattle.std.specs.BTreeMap.{is_at}
use Rattle.std.specs.List.{AllByRecursion}
use Rattle.std.specs.List.Sorted.{IsStrictlySortedBy}
use Rattle.std.specs.Map.{keys_of, lookup}
use Rattle.std.specs.Ordering.{is_eq}
use Rattle.std.proofs.lemmas.Map.Keys.{sorted_head, sorted_tail}
use Rattle.pv_value.specs.Plain.{Plain}
use Rattle.pv_words.specs.Parts.{same}
use Rattle.pv_marks.specs.MarkedOrder.{marked_order}
use Rattle.pv_marks.specs.Lemmas.MarkedOrderLaws.{marked_same}
use Rattle.ac_groups.proofs.Entries.{found}

abbrev pub marked_at : {X : Type 0} → Plain → List (Plain × X) → Option X
marked_at q es = lookup (is_at (marked_order q)) es

abbrev pub MarksAscend : {X : Type 0} → List (Plain × X) → Type 0
MarksAscend es = IsStrictlySortedBy marked_order (keys_of es)

-- the same is found
pub found_marked : {X : Type 0} (q : Plain) (es : List (Plain × X)) → marked_at q es ≡ found q es
found_marked q [] = refl
found_marked q (e ∷ es) =
    ap (λ b. cond b (Some e.1) (marked_at q es)) (marked_same q e.0)
    ∙ ap (λ o. cond (same q e.0) (Some e.1) o) (found_marked q es)

found_above : {X : Type 0} (q : Plain) (es : List (Plain × X))
    → AllByRecursion (λ j. marked_order q j ≡ Less) (keys_of es) → found q es ≡ None
found_above q [] above = refl
found_above q (e ∷ es) above =
    let apart : same q e.0 ≡ false = sym (marked_same q e.0) ∙ ap is_eq above.0 in
    ap (λ b. cond b (Some e.1) (found q es)) apart ∙ found_above q es above.1

-- the first of them is in no other place
pub found_behind : {X : Type 0} (e : Plain × X) (es : List (Plain × X)) → MarksAscend (e ∷ es) → found e.0 es ≡ None
found_behind e es s = found_above e.0 es (sorted_head marked_order e.0 (keys_of es) s)

pub tail_ascends : {X : Type 0} (e : Plain × X) (es : List (Plain × X)) → MarksAscend (e ∷ es) → MarksAscend es
tail_ascends e es s = sorted_tail marked_order e.0 (keys_of es) s
