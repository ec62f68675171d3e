-- Which pattern a value writes. Preserves Schema, section "Patterns".
use Rattle.std.specs.Prelude.{ℕ, Bool, true, false, ◌&&◌, not, List, Option, Some, None, option_map}
use Rattle.std.specs.Prelude.{option_and_then, codes}
use Rattle.std.specs.Prelude.{if◌then◌else◌, ◌==◌}
use Rattle.std.specs.List.{list_any}
use Rattle.pv_value.specs.Plain.{Plain, boolean, double, integer, string, byte_string, symbol, record_of, sequence}
use Rattle.pv_value.specs.Plain.{set_of, dictionary, embedded, Plains, no_more, then_more, PlainPairs, no_pairs}
use Rattle.pv_value.specs.Plain.{then_pair}
use Rattle.pv_words.specs.Words.{is_word}
use Rattle.ps_schema.specs.Patterns.{PlainPattern, any_value, of_kind, literal, reference, embedded_as, record_with}
use Rattle.ps_schema.specs.Patterns.{record_of_both, tuple, tuple_with_rest, set_of_all, dictionary_of_all}
use Rattle.ps_schema.specs.Patterns.{dictionary_with, one_of, all_of, PlainPatterns, no_patterns, then_pattern}
use Rattle.ps_schema.specs.Patterns.{PlainFields, no_fields, then_field}
use Rattle.ps_read.specs.Names.{symbol_pattern}

-- whether the value is the symbol of this word
abbrev pub is_sign : List ℕ → Plain → Bool
is_sign w (symbol s) = is_word s w
is_sign w v = false

-- `<word>`
abbrev pub is_bare : List ℕ → Plain → Bool
is_bare w (record_of (symbol s) no_more) = is_word s w
is_bare w v = false

-- two patterns, where both are there
abbrev pub pair_of : Option PlainPattern → Option PlainPattern → Option (PlainPattern × PlainPattern)
pair_of (Some p) (Some q) = Some (p, q)
pair_of (Some p) None = None
pair_of None o = None

abbrev pub both : (PlainPattern → PlainPattern → PlainPattern) → Option PlainPattern → Option PlainPattern
    → Option PlainPattern
both f o q = option_map (λ x. f x.0 x.1) (pair_of o q)

abbrev pub in_front : Option PlainPattern → Option PlainPatterns → Option PlainPatterns
in_front (Some p) (Some ps) = Some (then_pattern p ps)
in_front (Some p) None = None
in_front None o = None

abbrev pub with_field : Plain → Option PlainPattern → Option PlainFields → Option PlainFields
with_field k (Some p) (Some fs) = Some (then_field k p fs)
with_field k (Some p) None = None
with_field k None o = None

-- items, and a last one that stands for all others
abbrev pub with_rest : Option PlainPatterns → Option PlainPattern → Option PlainPattern
with_rest (Some ps) (Some q) = Some (tuple_with_rest ps q)
with_rest (Some ps) None = None
with_rest None o = None

-- whether the entry is `...:...`
abbrev pub is_and_so_on : Plain → Plain → Bool
is_and_so_on k v = is_sign (codes "...") k && is_sign (codes "...") v

-- `<<lit> v>`, `<<rec> L F>`, or a record whose label is the value itself
abbrev pub both_of : PlainPatterns → Option PlainPattern
both_of (then_pattern p (then_pattern q no_patterns)) = Some (record_of_both p q)
both_of ps = None

abbrev pub record_pattern : Plain → Plains → Option PlainPatterns → Option PlainPattern
record_pattern l (then_more v no_more) ps =
    if is_bare (codes "lit") l then Some (literal v) else option_map (record_with l) ps
record_pattern l (then_more u (then_more v no_more)) ps =
    if is_bare (codes "rec") l then option_and_then both_of ps else option_map (record_with l) ps
record_pattern l fs ps = option_map (record_with l) ps

-- `...` alone
abbrev pub is_and_others : Plains → Bool
is_and_others (then_more d no_more) = is_sign (codes "...") d
is_and_others xs = false

abbrev pub before_items : Option PlainPattern → Option PlainPattern → Option PlainPattern
before_items (Some p) (Some (tuple ps)) = Some (tuple (then_pattern p ps))
before_items (Some p) (Some (tuple_with_rest ps q)) = Some (tuple_with_rest (then_pattern p ps) q)
before_items p o = None

-- an item's pattern before those of the items behind it, which are `...` alone or not
abbrev pub first_item : Bool → Option PlainPattern → Option PlainPattern → Option PlainPattern
first_item true p o = option_map (tuple_with_rest no_patterns) p
first_item false p o = before_items p o

-- `{K: V ...:...}`, or a dictionary with these two keys
abbrev pub two_entries : Plain → Plain → Plain → Plain → Option PlainPattern → Option PlainPattern
    → Option PlainPattern → Option PlainPattern → Option PlainPattern
two_entries j u k v pj pu pk pv =
    if is_and_so_on j u then both dictionary_of_all pk pv
    else (if is_and_so_on k v then both dictionary_of_all pj pu
    else option_map dictionary_with (with_field j pu (with_field k pv (Some no_fields))))

abbrev mutual
  -- the pattern that a value writes; none where it is of no form
  pub pattern_of : Plain → Option PlainPattern
  pattern_of (boolean b) = Some (literal (boolean b))
  pattern_of (double n) = Some (literal (double n))
  pattern_of (integer z) = Some (literal (integer z))
  pattern_of (string s) = Some (literal (string s))
  pattern_of (byte_string s) = Some (literal (byte_string s))
  pattern_of (symbol s) = symbol_pattern s
  pattern_of (embedded x) = option_map embedded_as (pattern_of x)
  pattern_of (record_of l fs) = record_pattern l fs (patterns_of fs)
  pattern_of (sequence xs) = items_of xs
  pattern_of (set_of (then_more x no_more)) = option_map set_of_all (pattern_of x)
  pattern_of (set_of xs) = None
  pattern_of (dictionary (then_pair j u (then_pair k v no_pairs))) =
      two_entries j u k v (pattern_of j) (pattern_of u) (pattern_of k) (pattern_of v)
  pattern_of (dictionary ps) = option_map dictionary_with (fields_of ps)

  pub patterns_of : Plains → Option PlainPatterns
  patterns_of no_more = Some no_patterns
  patterns_of (then_more x xs) = in_front (pattern_of x) (patterns_of xs)

  pub items_of : Plains → Option PlainPattern
  items_of no_more = Some (tuple no_patterns)
  items_of (then_more x xs) = first_item (is_and_others xs) (pattern_of x) (items_of xs)

  pub fields_of : PlainPairs → Option PlainFields
  fields_of no_pairs = Some no_fields
  fields_of (then_pair k v ps) = with_field k (pattern_of v) (fields_of ps)

abbrev pub has_point : List ℕ → Bool
has_point s = list_any (λ c. c == 46) s

-- whether no name in the pattern is of another schema
abbrev mutual
  pub is_supported : PlainPattern → Bool
  is_supported any_value = true
  is_supported (of_kind k) = true
  is_supported (literal v) = true
  is_supported (reference a) = not (has_point a)
  is_supported (embedded_as p) = is_supported p
  is_supported (record_with l ps) = are_supported ps
  is_supported (record_of_both p q) = is_supported p && is_supported q
  is_supported (tuple ps) = are_supported ps
  is_supported (tuple_with_rest ps q) = are_supported ps && is_supported q
  is_supported (set_of_all p) = is_supported p
  is_supported (dictionary_of_all p q) = is_supported p && is_supported q
  is_supported (dictionary_with fs) = fields_supported fs
  is_supported (one_of ps) = are_supported ps
  is_supported (all_of ps) = are_supported ps

  pub are_supported : PlainPatterns → Bool
  are_supported no_patterns = true
  are_supported (then_pattern p ps) = is_supported p && are_supported ps

  pub fields_supported : PlainFields → Bool
  fields_supported no_fields = true
  fields_supported (then_field k p fs) = is_supported p && fields_supported fs

-- `[P .. Q ...]`, of which these are the items before `...`
abbrev pub open_items : Plains → Option PlainPattern
open_items no_more = None
open_items (then_more x no_more) = option_map (tuple_with_rest no_patterns) (pattern_of x)
open_items (then_more x (then_more y ys)) = before_items (pattern_of x) (open_items (then_more y ys))
