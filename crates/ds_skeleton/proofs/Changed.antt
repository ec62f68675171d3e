-- The changes of a space, from keys as entries.
use Rattle.std.proofs.Common.{◌≡◌, List, [], ◌∷◌, ◌++◌, map, Bool, true, false, ◌&&◌, not, refl, ap, sym, ◌∙◌}
use Rattle.std.specs.List.{list_any}
use Rattle.std.specs.List.Sorted.{IsStrictlySortedBy}
use Rattle.pv_value.specs.Plain.{Plain}
use Rattle.pv_value.specs.EntryOrder.{entry_order}
use Rattle.pv_value.specs.WellFormed.{Ascend}
use Rattle.pv_value.specs.declared.Entry.{Entry}
use Rattle.ds_space.specs.Wants.{wanted}
use Rattle.ds_space.specs.declared.space.Change.{Change}
use Rattle.ds_space.specs.declared.space.Change.TheVariants.{Left, Came}
use Rattle.ds_space.specs.Changes.{AreChanges, only_over}
use Rattle.ds_skeleton.specs.Places.{same_entry}
use Rattle.ds_skeleton.specs.Indexes.{only_in}
use Rattle.ds_skeleton.specs.Keys.{key_value}
use Rattle.ds_skeleton.proofs.Wanted.{only_keys, keys_ascend}

none_ascend : Ascend []
unfolding IsStrictlySortedBy
none_ascend = tt

map_twice : {A B C : Type 0} (f : B → C) (g : A → B) (xs : List A) → map (λ x. f (g x)) xs ≡ map f (map g xs)
map_twice f g [] = refl
map_twice f g (x ∷ xs) = ap (λ l. f (g x) ∷ l) (map_twice f g xs)

nothing_behind : {A : Type 0} (xs : List A) → xs ≡ xs ++ []
nothing_behind [] = refl
nothing_behind (x ∷ xs) = ap (λ l. x ∷ l) (nothing_behind xs)

pub changes_came : (old new : List Plain) (qs : List Entry) (cs : List Change) → IsStrictlySortedBy entry_order qs
    → ((q : Entry) → list_any (same_entry q) qs ≡ only_in new old q) → ((k : Plain) → only_over old new k ≡ false)
    → cs ≡ map (λ q. Came (key_value q)) qs → AreChanges old new cs
changes_came old new qs cs s h none is = record {
  left = [];
  came = map key_value qs;
  are = is ∙ map_twice Came key_value qs;
  left_ascends = none_ascend;
  came_ascends = keys_ascend qs s;
  left_are = λ k. sym (none k);
  came_are = only_keys new old qs h;
}

pub changes_left : (old new : List Plain) (qs : List Entry) (cs : List Change) → IsStrictlySortedBy entry_order qs
    → ((q : Entry) → list_any (same_entry q) qs ≡ only_in old new q) → ((k : Plain) → only_over new old k ≡ false)
    → cs ≡ map (λ q. Left (key_value q)) qs → AreChanges old new cs
changes_left old new qs cs s h none is = record {
  left = map key_value qs;
  came = [];
  are = is ∙ map_twice Left key_value qs ∙ nothing_behind (map Left (map key_value qs));
  left_ascends = keys_ascend qs s;
  came_ascends = none_ascend;
  left_are = only_keys old new qs h;
  came_are = λ k. sym (none k);
}

never : (b : Bool) → (b && not b) ≡ false
never true = refl
never false = refl

pub unchanged : (vs : List Plain) (cs : List Change) → cs ≡ [] → AreChanges vs vs cs
unchanged vs cs is = record {
  left = [];
  came = [];
  are = is;
  left_ascends = none_ascend;
  came_ascends = none_ascend;
  left_are = λ k. sym (never (wanted vs k));
  came_are = λ k. sym (never (wanted vs k));
}
