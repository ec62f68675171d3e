-- What a schema is: each name has one definition, no name lacks one, and no name leads back to itself at one value.
use Rattle.std.specs.Prelude.{◌≡◌, ℕ, Bool, true, false, ◌||◌, List, [], ◌∷◌, Option, Some, None, ◌⊎◌}
use Rattle.std.specs.Str.{bytes_eq}
use Rattle.ps_schema.specs.Patterns.{PlainPattern, reference, one_of, all_of, PlainPatterns, no_patterns, then_pattern}
use Rattle.ps_schema.specs.Names.{pattern_under, named_twice, missing_from}
use Rattle.ps_schema.specs.declared.Definition.{Definition}
use Rattle.ps_schema.specs.declared.faults.SchemaFault.{SchemaFault}
use Rattle.ps_schema.specs.declared.faults.SchemaFault.TheVariants.{NoMemory, Unguarded, NoSuchName, NameTwice}
use Rattle.std.specs.Prelude.{string_bytes}

-- whether the pattern asks for this name at the same value
abbrev mutual
  pub asks : PlainPattern → List ℕ → Bool
  asks (reference b) a = bytes_eq b a
  asks (one_of ps) a = one_asks ps a
  asks (all_of ps) a = one_asks ps a
  asks p a = false

  pub one_asks : PlainPatterns → List ℕ → Bool
  one_asks no_patterns a = false
  one_asks (then_pattern p ps) a = asks p a || one_asks ps a

abbrev pub asked_by : Option PlainPattern → List ℕ → Bool
asked_by (Some p) b = asks p b
asked_by None b = false

-- whether the first name's pattern asks for the second at the same value
abbrev pub leads : List Definition → List ℕ → List ℕ → Bool
leads ds a b = asked_by (pattern_under ds a) b

-- from the first name over these to the last, each leads to the next
abbrev pub IsWay : List Definition → List ℕ → List (List ℕ) → List ℕ → Type 0
IsWay ds a [] b = leads ds a b ≡ true
IsWay ds a (c ∷ cs) b = (leads ds a c ≡ true) × IsWay ds c cs b

-- there is a way from the name back to itself
abbrev pub LeadsBack : List Definition → List ℕ → Type 0
LeadsBack ds a = (cs : List (List ℕ)) × IsWay ds a cs a

pub record IsSchema (ds : List Definition) : Type 0 where
  pub each_once : named_twice ds ≡ None
  pub closed : missing_from ds ds ≡ None
  pub guarded : (a : List ℕ) → LeadsBack ds a → ⊥

-- ---- what is wrong with definitions

-- among the last definitions it is the name of the first one that leads back to itself
abbrev pub IsFirstBack : List Definition → List Definition → List ℕ → Type 0
IsFirstBack ds [] a = ⊥
IsFirstBack ds (d ∷ es) a =
    (LeadsBack ds d.name × (d.name ≡ a)) ⊎ ((LeadsBack ds d.name → ⊥) × IsFirstBack ds es a)

-- a name that has two definitions comes first, then one that has none, then one that leads back to itself
abbrev pub IsRefused : List Definition → SchemaFault → Type 0
IsRefused ds NoMemory = Unit {0}
IsRefused ds (NameTwice a) = named_twice ds ≡ Some (string_bytes a)
IsRefused ds (NoSuchName a) = (named_twice ds ≡ None) × (missing_from ds ds ≡ Some (string_bytes a))
IsRefused ds (Unguarded a) =
    (named_twice ds ≡ None) × (missing_from ds ds ≡ None) × IsFirstBack ds ds (string_bytes a)
