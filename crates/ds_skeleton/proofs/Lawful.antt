-- Laws of the index.
use Rattle.std.proofs.Common.{◌≡◌, ◌+◌, List, [], ◌∷◌, Bool, true, cond, ◌&&◌, ltb, Some, refl, ap, sym, ◌∙◌}
use Rattle.std.specs.List.{list_any}
use Rattle.pv_value.specs.Plain.{Plain}
use Rattle.dp_pattern.specs.Patterns.{Pattern}
use Rattle.dp_pattern.specs.Matching.{matched}
use Rattle.ds_shape.specs.Splitting.{outline_of, constants_of}
use Rattle.ds_space.specs.Changes.{among}
use Rattle.ds_space.specs.Wants.{observer_of}
use Rattle.ds_skeleton.specs.Places.{Place, place_of, placed, stands, catches, catches_by, count}
use Rattle.ds_skeleton.specs.Shapes.{Shape}
use Rattle.ds_skeleton.specs.Indexes.{IsIndex}
use Rattle.ds_skeleton.specs.Laws.{is_captures, counted, LeavesCountCaptures, CountsAreWants}
use Rattle.ds_skeleton.proofs.Counts.{any-count}
use Rattle.ds_skeleton.proofs.Kept.{watched}
use Rattle.ds_skeleton.proofs.Wanted.{caught_by, wanted_is}

abbrev at : Pattern → Place
at p = record { outline = outline_of p; constants = constants_of p }

at_place : (o : Plain) (p : Pattern) → observer_of o ≡ Some p → place_of o ≡ Some (at p)
unfolding place_of
at_place o p e = ap placed e

count_same : (f g : Plain → Bool) (vs : List Plain) → ((v : Plain) → f v ≡ g v) → count f vs ≡ count g vs
count_same f g [] h = refl
count_same f g (v ∷ vs) h = λ i. cond (h v i) 1 0 + count_same f g vs h i

counted_at : (vs : List Plain) (S : List Shape) → IsIndex vs S
    → (o : Plain) (p : Pattern) → among o vs ≡ true → observer_of o ≡ Some p
    → (c : Plain) → counted S p c ≡ count (stands (outline_of p) (constants_of p) c) vs
counted_at vs S index o p e f c =
    index.counts (at p) c
    ∙ ap (λ b. cond b (count (stands (outline_of p) (constants_of p) c) vs) 0)
    (watched vs vs S index o (at p) e (at_place o p f))

pub leaves_count : LeavesCountCaptures
leaves_count vs S index o p e f c =
    counted_at vs S index o p e f c
    ∙ sym (count_same (λ v. is_captures c (matched p v)) (stands (outline_of p) (constants_of p) c) vs (caught_by p c))

pub counts_are : CountsAreWants
counts_are vs S index o p e f c =
    wanted_is vs (record { key = o; value = c })
    ∙ ap (λ b. b && list_any (catches o c) vs) e
    ∙ any-count (catches o c) vs
    ∙ ap (ltb 0)
    (count_same (catches o c) (stands (outline_of p) (constants_of p) c) vs
    (λ v. ap (λ q. catches_by q c v) (at_place o p f))
    ∙ sym (counted_at vs S index o p e f c))
