-- Which values write patterns, templates and caveats. Sturdyref document, "caveats".
use Rattle.std.specs.Prelude.{ℕ, min, ◌-◌, ◌^◌, ◌+◌, Bool, true, nat_lt, List, Option, Some, None}
use Rattle.std.specs.Prelude.{option_map, unwrap_or, codes, if◌then◌else◌}
use Rattle.pv_value.specs.Plain.{Plain, symbol, record_of, sequence, dictionary, Plains, no_more, then_more}
use Rattle.pv_value.specs.Plain.{PlainPairs, no_pairs, then_pair}
use Rattle.sr_caveat.specs.Embedded.{has_embedded}
use Rattle.pv_words.specs.declared.kinds.AtomKind.TheVariants.{Boolean, Double, SignedInteger, String, ByteString}
use Rattle.pv_words.specs.declared.kinds.AtomKind.TheVariants.{Symbol}
use Rattle.pv_words.specs.Words.{is_word, number_in}
use Rattle.sr_caveat.specs.Patterns.{Kind, Atom, Embedded}
use Rattle.sr_caveat.specs.Patterns.{Pattern, discard, of_kind, bind, all_of, none_of, literal, record_with}
use Rattle.sr_caveat.specs.Patterns.{sequence_with, dictionary_with, Patterns, no_patterns, then_pattern}
use Rattle.sr_caveat.specs.Patterns.{Template, attenuate, binding, constant, record_from, sequence_from, dictionary_of}
use Rattle.sr_caveat.specs.Patterns.{Templates, no_templates, then_template}
use Rattle.sr_caveat.specs.Patterns.{Caveat, rewrite, one_of, reject, guard, Caveats, no_caveats}
use Rattle.sr_caveat.specs.Patterns.{then_caveat, Rewrites, no_rewrites, then_rewrite, reject_all}

-- ---- patterns

-- `Boolean`, `Double`, `SignedInteger`, `String`, `ByteString`, `Symbol`, `Embedded`
abbrev pub kind_named : List ℕ → Option Kind
kind_named s =
    if is_word s (codes "Boolean") then Some (Atom Boolean)
    else if is_word s (codes "Double") then Some (Atom Double)
    else if is_word s (codes "SignedInteger") then Some (Atom SignedInteger)
    else if is_word s (codes "String") then Some (Atom String)
    else if is_word s (codes "ByteString") then Some (Atom ByteString)
    else if is_word s (codes "Symbol") then Some (Atom Symbol)
    else if is_word s (codes "Embedded") then Some Embedded
    else None

-- `<_>`
abbrev pub bare_pattern : List ℕ → Option Pattern
bare_pattern s = if is_word s (codes "_") then Some discard else None

-- the keys of a dictionary, in order
abbrev pub keys_in : PlainPairs → Plains
keys_in no_pairs = no_more
keys_in (then_pair k v ps) = then_more k (keys_in ps)

abbrev pub keys_of_value : Plain → Plains
keys_of_value (dictionary ps) = keys_in ps
keys_of_value v = no_more

-- `<bind p>`, `<and [p ..]>`, `<not p>`, `<lit v>`, `<arr [p ..]>`, `<dict {k: p ..}>`, by the field's value and by the
-- pattern, the patterns of its items and the patterns under its keys that it writes
abbrev pub short_pattern : List ℕ → Plain → Option Pattern → Option Patterns → Option Patterns → Option Pattern
short_pattern s x p ps fs =
    if is_word s (codes "bind") then option_map bind p
    else if is_word s (codes "and") then option_map all_of ps
    else if is_word s (codes "not") then option_map none_of p
    else if is_word s (codes "lit") then Some (literal x)
    else if is_word s (codes "arr") then option_map sequence_with ps
    else if is_word s (codes "dict") then option_map (dictionary_with (keys_of_value x)) fs
    else None

-- `<rec label [p ..]>`
abbrev pub record_pattern : List ℕ → Plain → Option Patterns → Option Pattern
record_pattern s label ps = if is_word s (codes "rec") then option_map (record_with label) ps else None

abbrev pub with_pattern : Option Pattern → Option Patterns → Option Patterns
with_pattern (Some p) (Some ps) = Some (then_pattern p ps)
with_pattern (Some p) None = None
with_pattern None ps = None

abbrev mutual
  pub pattern_of : Plain → Option Pattern
  pattern_of (symbol s) = option_map of_kind (kind_named s)
  pattern_of (record_of (symbol s) no_more) = bare_pattern s
  pattern_of (record_of (symbol s) (then_more x no_more)) =
      short_pattern s x (pattern_of x) (patterns_of x) (patterns_under_keys x)
  pattern_of (record_of (symbol s) (then_more label (then_more x no_more))) = record_pattern s label (patterns_of x)
  pattern_of v = None

  -- `[p ..]`
  pub patterns_of : Plain → Option Patterns
  patterns_of (sequence xs) = patterns_in xs
  patterns_of v = None

  pub patterns_in : Plains → Option Patterns
  patterns_in no_more = Some no_patterns
  patterns_in (then_more x xs) = with_pattern (pattern_of x) (patterns_in xs)

  -- `{k: p ..}`
  pub patterns_under_keys : Plain → Option Patterns
  patterns_under_keys (dictionary ps) = patterns_in_pairs ps
  patterns_under_keys v = None

  pub patterns_in_pairs : PlainPairs → Option Patterns
  patterns_in_pairs no_pairs = Some no_patterns
  patterns_in_pairs (then_pair k v ps) = with_pattern (pattern_of v) (patterns_in_pairs ps)

-- how many values a pattern binds; what is inside `not` binds nothing
abbrev mutual
  pub binds : Pattern → ℕ
  binds discard = 0
  binds (of_kind k) = 0
  binds (bind p) = 1 + binds p
  binds (all_of ps) = all_binds ps
  binds (none_of p) = 0
  binds (literal u) = 0
  binds (record_with l ps) = all_binds ps
  binds (sequence_with ps) = all_binds ps
  binds (dictionary_with ks ps) = all_binds ps

  pub all_binds : Patterns → ℕ
  all_binds no_patterns = 0
  all_binds (then_pattern p ps) = binds p + all_binds ps

-- ---- templates and caveats

-- how many values a template can name that stands behind this pattern; the count stops at 2 ^ 64 - 1
abbrev pub names_of : Option Pattern → ℕ
names_of None = 0
names_of (Some p) = min (binds p) (2 ^ 64 - 1)

-- `<ref n>`, where the pattern before it binds n + 1 values or more
abbrev pub bound_place : ℕ → Option ℕ → Option Template
bound_place names (Some n) = if nat_lt n names then Some (binding n) else None
bound_place names None = None

-- `<ref n>`, `<lit v>`, `<arr [t ..]>`, `<dict {k: t ..}>`, by the field's value and by what it writes
abbrev pub short_template : ℕ → List ℕ → Plain → Option Templates → Option Templates → Option Template
short_template names s x ts fs =
    if is_word s (codes "ref") then bound_place names (number_in x)
    else if is_word s (codes "lit") then Some (constant x)
    else if is_word s (codes "arr") then option_map sequence_from ts
    else if is_word s (codes "dict") then option_map (dictionary_of (keys_of_value x)) fs
    else None

abbrev pub attenuated_by : Option Template → Option Caveats → Option Template
attenuated_by (Some t) (Some cs) = Some (attenuate t cs)
attenuated_by (Some t) None = None
attenuated_by None cs = None

-- `<attenuate t [caveat ..]>`, `<rec label [t ..]>`
abbrev pub long_template : List ℕ → Plain → Option Template → Option Caveats → Option Templates → Option Template
long_template s label t cs ts =
    if is_word s (codes "attenuate") then attenuated_by t cs
    else if is_word s (codes "rec") then option_map (record_from label) ts
    else None

abbrev pub with_template : Option Template → Option Templates → Option Templates
with_template (Some t) (Some ts) = Some (then_template t ts)
with_template (Some t) None = None
with_template None ts = None

-- `<or [rewrite ..]>`, `<reject p>`, `<guard Name>`, the last where own caveats are read
abbrev pub guard_named : Bool → Plain → Option Caveat
guard_named true (symbol name) = Some (guard name)
guard_named own v = None

abbrev pub short_caveat : Bool → List ℕ → Plain → Option Pattern → Option Rewrites → Option Caveat
short_caveat own s x p rs =
    if is_word s (codes "or") then option_map one_of rs
    else if is_word s (codes "reject") then option_map reject p
    else if is_word s (codes "guard") then guard_named own x
    else None

abbrev pub rewrite_by : Option Pattern → Option Template → Option Caveat
rewrite_by (Some p) (Some t) = Some (rewrite p t)
rewrite_by (Some p) None = None
rewrite_by None t = None

-- `<rewrite p t>`
abbrev pub long_caveat : List ℕ → Option Pattern → Option Template → Option Caveat
long_caveat s p t = if is_word s (codes "rewrite") then rewrite_by p t else None

-- a caveat, where it is a rewrite
abbrev pub if_rewrite : Option Caveat → Option Caveat
if_rewrite (Some (rewrite p t)) = Some (rewrite p t)
if_rewrite c = None

abbrev pub with_rewrite : Option Caveat → Option Rewrites → Option Rewrites
with_rewrite (Some (rewrite p t)) (Some rs) = Some (then_rewrite p t rs)
with_rewrite c rs = None

-- a caveat that is not of the grammar stands as one that refuses every value
abbrev pub standing : Option Caveat → Caveat
standing c = unwrap_or c reject_all

-- a template behind a pattern that binds so many values, and a caveat; none where it is not of the grammar or where a
-- `ref` names no value that is bound
abbrev mutual
  pub template_of : Bool → ℕ → Plain → Option Template
  template_of own names (record_of (symbol s) (then_more x no_more)) =
      short_template names s x (templates_of own names x) (templates_under_keys own names x)
  template_of own names (record_of (symbol s) (then_more x (then_more y no_more))) =
      long_template s x (template_of own names x) (caveats_of own y) (templates_of own names y)
  template_of own names v = None

  -- `[t ..]`
  pub templates_of : Bool → ℕ → Plain → Option Templates
  templates_of own names (sequence xs) = templates_in own names xs
  templates_of own names v = None

  pub templates_in : Bool → ℕ → Plains → Option Templates
  templates_in own names no_more = Some no_templates
  templates_in own names (then_more x xs) = with_template (template_of own names x) (templates_in own names xs)

  -- `{k: t ..}`
  pub templates_under_keys : Bool → ℕ → Plain → Option Templates
  templates_under_keys own names (dictionary ps) = templates_in_pairs own names ps
  templates_under_keys own names v = None

  pub templates_in_pairs : Bool → ℕ → PlainPairs → Option Templates
  templates_in_pairs own names no_pairs = Some no_templates
  templates_in_pairs own names (then_pair k v ps) =
      with_template (template_of own names v) (templates_in_pairs own names ps)

  -- `[caveat ..]`, where each is read by itself
  pub caveats_of : Bool → Plain → Option Caveats
  caveats_of own (sequence xs) = Some (caveats_in own xs)
  caveats_of own v = None

  pub caveats_in : Bool → Plains → Caveats
  caveats_in own no_more = no_caveats
  caveats_in own (then_more x xs) = then_caveat (standing (caveat_in own x)) (caveats_in own xs)

  pub caveat_in : Bool → Plain → Option Caveat
  caveat_in own (record_of (symbol s) (then_more x no_more)) = short_caveat own s x (pattern_of x) (rewrites_of own x)
  caveat_in own (record_of (symbol s) (then_more x (then_more y no_more))) =
      long_caveat s (pattern_of x) (template_of own (names_of (pattern_of x)) y)
  caveat_in own v = None

  -- `[rewrite ..]`
  pub rewrites_of : Bool → Plain → Option Rewrites
  rewrites_of own (sequence xs) = rewrites_in own xs
  rewrites_of own v = None

  pub rewrites_in : Bool → Plains → Option Rewrites
  rewrites_in own no_more = Some no_rewrites
  rewrites_in own (then_more x xs) = with_rewrite (caveat_in own x) (rewrites_in own xs)

-- the caveat that a value writes, where own caveats are read or those of the wire. One that is malformed, or that holds
-- an embedded value anywhere, refuses every value
abbrev pub caveat_of : Bool → Plain → Caveat
caveat_of own v = if has_embedded v then reject_all else standing (caveat_in own v)
