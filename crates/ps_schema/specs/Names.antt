-- Which names have definitions, and the first that has two, or none.
use Rattle.std.specs.Prelude.{ℕ, Bool, false, ◌||◌, List, [], ◌∷◌, Option, Some, None, if◌then◌else◌}
use Rattle.std.specs.Str.{bytes_eq}
use Rattle.ps_schema.specs.Patterns.{PlainPattern, any_value, of_kind, literal, reference, embedded_as, record_with}
use Rattle.ps_schema.specs.Patterns.{record_of_both, tuple, tuple_with_rest, set_of_all, dictionary_of_all}
use Rattle.ps_schema.specs.Patterns.{dictionary_with, one_of, all_of, PlainPatterns, no_patterns, then_pattern}
use Rattle.ps_schema.specs.Patterns.{PlainFields, no_fields, then_field}
use Rattle.ps_schema.specs.declared.Definition.{Definition}

-- whether a definition has this name
abbrev pub knows : List Definition → List ℕ → Bool
knows [] a = false
knows (d ∷ ds) a = bytes_eq d.name a || knows ds a

-- the pattern that the name stands for
abbrev pub pattern_under : List Definition → List ℕ → Option PlainPattern
pattern_under [] a = None
pattern_under (d ∷ ds) a = if bytes_eq d.name a then Some d.pattern else pattern_under ds a

-- the first name that is also that of a later definition
abbrev pub named_twice : List Definition → Option (List ℕ)
named_twice [] = None
named_twice (d ∷ ds) = if knows ds d.name then Some d.name else named_twice ds

-- the first one, or else the second
abbrev pub first_of : Option (List ℕ) → Option (List ℕ) → Option (List ℕ)
first_of (Some a) o = Some a
first_of None o = o

-- the first name in a pattern that has no definition
abbrev mutual
  pub missing : List Definition → PlainPattern → Option (List ℕ)
  missing ds any_value = None
  missing ds (of_kind k) = None
  missing ds (literal v) = None
  missing ds (reference a) = if knows ds a then None else Some a
  missing ds (embedded_as p) = missing ds p
  missing ds (record_with l ps) = missing_in_all ds ps
  missing ds (record_of_both p q) = first_of (missing ds p) (missing ds q)
  missing ds (tuple ps) = missing_in_all ds ps
  missing ds (tuple_with_rest ps q) = first_of (missing_in_all ds ps) (missing ds q)
  missing ds (set_of_all p) = missing ds p
  missing ds (dictionary_of_all p q) = first_of (missing ds p) (missing ds q)
  missing ds (dictionary_with fs) = missing_in_fields ds fs
  missing ds (one_of ps) = missing_in_all ds ps
  missing ds (all_of ps) = missing_in_all ds ps

  pub missing_in_all : List Definition → PlainPatterns → Option (List ℕ)
  missing_in_all ds no_patterns = None
  missing_in_all ds (then_pattern p ps) = first_of (missing ds p) (missing_in_all ds ps)

  pub missing_in_fields : List Definition → PlainFields → Option (List ℕ)
  missing_in_fields ds no_fields = None
  missing_in_fields ds (then_field k p fs) = first_of (missing ds p) (missing_in_fields ds fs)

-- the first name in these definitions' patterns that has no definition among all
abbrev pub missing_from : List Definition → List Definition → Option (List ℕ)
missing_from ds [] = None
missing_from ds (d ∷ es) = first_of (missing ds d.pattern) (missing_from ds es)
