-- Nothing is in order, and is the index of nothing.
use Rattle.std.proofs.Common.{◌≡◌, ℕ, List, [], refl, sym, subst}
use Rattle.std.specs.List.Sorted.{IsStrictlySortedBy}
use Rattle.std.specs.Map.{keys_of}
use Rattle.pv_value.specs.Plain.{Plain}
use Rattle.pv_value.specs.EntryOrder.{entry_order}
use Rattle.pv_value.specs.declared.Entry.{Entry}
use Rattle.ds_skeleton.specs.Places.{outline_order}
use Rattle.ds_skeleton.specs.Shapes.{Shape}
use Rattle.ds_skeleton.specs.Indexes.{IsIndexOf}

pub none_ascend : (qs : List Entry) → qs ≡ [] → IsStrictlySortedBy entry_order qs
unfolding IsStrictlySortedBy
none_ascend qs e = subst (IsStrictlySortedBy entry_order) (sym e) tt

nothing_ordered : IsStrictlySortedBy outline_order []
unfolding IsStrictlySortedBy
nothing_ordered = tt

nothing : IsIndexOf [] [] []
nothing = record {
  in_order = nothing_ordered;
  outlines_are = λ s. refl;
  leaves_are = λ p. refl;
  counts = λ p c. refl;
  observers = λ p o. refl;
}

pub none_whole : (es : List (Plain × ℕ)) (S : List Shape) → es ≡ [] → S ≡ [] → IsIndexOf (keys_of es) (keys_of es) S
none_whole es S e f =
    subst (λ T. IsIndexOf (keys_of es) (keys_of es) T) (sym f)
    (subst (λ (fs : List (Plain × ℕ)). IsIndexOf (keys_of fs) (keys_of fs) []) (sym e) nothing)
