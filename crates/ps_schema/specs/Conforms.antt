-- Which values conform to a schema. Preserves Schema, section "Patterns"; that embedded values may have a pattern, and
-- that a dictionary may have other keys than those that are named, are choices of this project.
use Rattle.std.specs.Prelude.{◌≡◌, ℕ, zero, suc, ◌*◌, Bool, true, false, ◌&&◌, ◌||◌, List, length, Option, Some, None}
use Rattle.std.specs.Prelude.{if◌then◌else◌}
use Rattle.std.specs.Ordering.{eq_by_cmp}
use Rattle.pv_value.specs.Plain.{Plain, record_of, sequence, set_of, dictionary, embedded, Plains, no_more, then_more}
use Rattle.pv_value.specs.Plain.{PlainPairs, no_pairs, then_pair}
use Rattle.pv_value.specs.Order.{order}
use Rattle.pv_value.specs.Weight.{node_count}
use Rattle.pv_words.specs.Kinds.{is_of_kind}
use Rattle.ps_schema.specs.Patterns.{PlainPattern, any_value, of_kind, literal, reference, embedded_as, record_with}
use Rattle.ps_schema.specs.Patterns.{record_of_both, tuple, tuple_with_rest, set_of_all, dictionary_of_all}
use Rattle.ps_schema.specs.Patterns.{dictionary_with, one_of, all_of, PlainPatterns, no_patterns, then_pattern}
use Rattle.ps_schema.specs.Patterns.{PlainFields, no_fields, then_field}
use Rattle.ps_schema.specs.Names.{pattern_under}
use Rattle.ps_schema.specs.declared.Definition.{Definition}

-- ---- values, by what is inside

abbrev pub is_value : Plain → Plain → Bool
is_value w v = eq_by_cmp order v w

abbrev pub is_embedded : (Plain → Bool) → Plain → Bool
is_embedded inside (embedded x) = inside x
is_embedded inside v = false

abbrev pub is_record : (Plain → Bool) → (Plains → Bool) → Plain → Bool
is_record label fields (record_of l fs) = label l && fields fs
is_record label fields v = false

abbrev pub is_sequence : (Plains → Bool) → Plain → Bool
is_sequence items (sequence xs) = items xs
is_sequence items v = false

abbrev pub is_set : (Plains → Bool) → Plain → Bool
is_set elements (set_of xs) = elements xs
is_set elements v = false

abbrev pub is_dictionary : (PlainPairs → Bool) → Plain → Bool
is_dictionary entries (dictionary ps) = entries ps
is_dictionary entries v = false

abbrev pub are_none : Plains → Bool
are_none no_more = true
are_none (then_more x xs) = false

abbrev pub are_all : (Plain → Bool) → Plains → Bool
are_all test no_more = true
are_all test (then_more x xs) = test x && are_all test xs

abbrev pub are_all_pairs : (Plain → Bool) → (Plain → Bool) → PlainPairs → Bool
are_all_pairs keys values no_pairs = true
are_all_pairs keys values (then_pair k v ps) = (keys k && values v) && are_all_pairs keys values ps

-- whether a value under this key is there, and such
abbrev pub have : Plain → (Plain → Bool) → PlainPairs → Bool
have key test no_pairs = false
have key test (then_pair k v ps) = if is_value key k then test v else have key test ps

-- ---- patterns

-- whether a value matches a pattern, by what says which values match a name
abbrev mutual
  pub matches : (List ℕ → Plain → Bool) → PlainPattern → Plain → Bool
  matches named any_value v = true
  matches named (of_kind k) v = is_of_kind k v
  matches named (literal w) v = is_value w v
  matches named (reference a) v = named a v
  matches named (embedded_as p) v = is_embedded (matches named p) v
  matches named (record_with l ps) v = is_record (is_value l) (begin_with named ps are_none) v
  matches named (record_of_both p q) v = is_record (matches named p) (λ fs. matches named q (sequence fs)) v
  matches named (tuple ps) v = is_sequence (begin_with named ps are_none) v
  matches named (tuple_with_rest ps q) v = is_sequence (begin_with named ps (are_all (matches named q))) v
  matches named (set_of_all p) v = is_set (are_all (matches named p)) v
  matches named (dictionary_of_all p q) v = is_dictionary (are_all_pairs (matches named p) (matches named q)) v
  matches named (dictionary_with fs) v = is_dictionary (have_all named fs) v
  matches named (one_of ps) v = matches_one named ps v
  matches named (all_of ps) v = matches_each named ps v

  -- whether the first items match these patterns in turn, and the others pass a test
  pub begin_with : (List ℕ → Plain → Bool) → PlainPatterns → (Plains → Bool) → Plains → Bool
  begin_with named no_patterns others xs = others xs
  begin_with named (then_pattern p ps) others no_more = false
  begin_with named (then_pattern p ps) others (then_more x xs) = matches named p x && begin_with named ps others xs

  pub have_all : (List ℕ → Plain → Bool) → PlainFields → PlainPairs → Bool
  have_all named no_fields ps = true
  have_all named (then_field k p fs) ps = have k (matches named p) ps && have_all named fs ps

  pub matches_one : (List ℕ → Plain → Bool) → PlainPatterns → Plain → Bool
  matches_one named no_patterns v = false
  matches_one named (then_pattern p ps) v = matches named p v || matches_one named ps v

  pub matches_each : (List ℕ → Plain → Bool) → PlainPatterns → Plain → Bool
  matches_each named no_patterns v = true
  matches_each named (then_pattern p ps) v = matches named p v && matches_each named ps v

-- ---- names

-- a name without a definition is matched by nothing
abbrev pub matches_defined : (List ℕ → Plain → Bool) → Option PlainPattern → Plain → Bool
matches_defined named (Some p) v = matches named p v
matches_defined named None v = false

-- what matches names, as their definitions say; a schema has just one such meaning
abbrev pub IsMeaning : List Definition → (List ℕ → Plain → Bool) → Type 0
IsMeaning ds named = (a : List ℕ) (v : Plain) → named a v ≡ matches_defined named (pattern_under ds a) v

-- what matches a name, where so many names may stand behind one another
abbrev pub matches_within : List Definition → ℕ → List ℕ → Plain → Bool
matches_within ds zero a v = false
matches_within ds (suc n) a v = matches_defined (matches_within ds n) (pattern_under ds a) v

-- whether the value conforms to what the name stands for: at the value, and at each value inside, no more names stand
-- behind one another than there are
unfoldable pub conforms : List Definition → List ℕ → Plain → Bool
conforms ds a v = matches_within ds (suc (node_count v) * suc (length ds)) a v

-- the value conforms to what the name stands for
abbrev pub Conforms : List Definition → List ℕ → Plain → Type 0
Conforms ds a v = conforms ds a v ≡ true
