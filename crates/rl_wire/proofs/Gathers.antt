-- Lists gathered from their last element to the first.
use Rattle.std.proofs.Common.{◌≡◌, List, [], ◌∷◌, ◌++◌, map, refl, ap, sym, ◌∙◌}
use Rattle.std.specs.BTreeSet.{insert_key}
use Rattle.std.specs.BTreeMap.{insert_entry}
use Rattle.pv_value.specs.Plain.{Plain}
use Rattle.pv_value.specs.View.{key_and_value}
use Rattle.pv_value.specs.Order.{order}
use Rattle.pv_value.specs.Sets.{ascending_by}
use Rattle.pv_value.specs.Plain.{set_of, dictionary, plains, pairs}
use Rattle.pv_value.specs.Sets.{set_from, dictionary_from, IsMade}
use Rattle.pv_value.specs.WellFormed.{Ascend, KeysAscend}
use Rattle.pv_value.specs.Lemmas.SetFrom.{set_from_ok, value_or}
use Rattle.pv_value.specs.Lemmas.DictionaryFrom.{dictionary_from_ok}
use Rattle.pv_value.specs.declared.Entry.{Entry}
use Rattle.std.specs.Prelude.{Ok}
use Rattle.std.proofs.lemmas.List.Sorted.{IsPermutation-refl}
use Rattle.rl_wire.specs.Crossing.{by_keys}

-- the elements come to those that are gathered
abbrev pub elements_onto : List Plain → List Plain → List Plain
elements_onto ks [] = ks
elements_onto ks (x ∷ xs) = insert_key order (elements_onto ks xs) x

pub elements_all : (xs : List Plain) → elements_onto [] xs ≡ ascending_by order xs
elements_all [] = refl
elements_all (x ∷ xs) = rw (elements_all xs) refl

pub elements_last : (ks xs : List Plain) (x : Plain)
    → elements_onto ks (xs ++ x ∷ []) ≡ elements_onto (insert_key order ks x) xs
elements_last ks [] x = refl
elements_last ks (y ∷ ys) x = rw (elements_last ks ys x) refl

-- the same of entries
abbrev pub entries_onto : List (Plain × Plain) → List Entry → List (Plain × Plain)
entries_onto ps [] = ps
entries_onto ps (e ∷ es) = insert_entry order (entries_onto ps es) e.key e.value

pub entries_all : (es : List Entry) → entries_onto [] es ≡ by_keys (map key_and_value es)
entries_all [] = refl
entries_all (e ∷ es) = rw (entries_all es) refl

pub entries_last : (ps : List (Plain × Plain)) (es : List Entry) (e : Entry)
    → entries_onto ps (es ++ e ∷ []) ≡ entries_onto (insert_entry order ps e.key e.value) es
entries_last ps [] e = refl
entries_last ps (d ∷ es) e = rw (entries_last ps es e) refl

-- ---- what is made of what is in order

pub set_made : (xs : List Plain) (v : Plain) → Ascend xs → IsMade (Ok v) (set_from xs) → v ≡ set_of (plains xs)
set_made xs v sorted made =
    sym (ap (value_or v) made) ∙ ap (value_or v) (set_from_ok xs xs (IsPermutation-refl xs) sorted)

pub dictionary_made : (ps : List (Plain × Plain)) (v : Plain) → KeysAscend ps → IsMade (Ok v) (dictionary_from ps)
    → v ≡ dictionary (pairs ps)
dictionary_made ps v sorted made =
    sym (ap (value_or v) made) ∙ ap (value_or v) (dictionary_from_ok ps ps (IsPermutation-refl ps) sorted)
