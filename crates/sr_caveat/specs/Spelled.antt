-- The value that writes a pattern, a template, a caveat. Sturdyref document, "caveats".
use Rattle.std.specs.Prelude.{ℕ, List, [], ◌∷◌, codes}
use Rattle.pv_value.specs.Plain.{Plain, symbol, sequence, dictionary, Plains, no_more, then_more}
use Rattle.pv_value.specs.Plain.{PlainPairs, no_pairs, then_pair}
use Rattle.pv_words.specs.declared.kinds.AtomKind.TheVariants.{Boolean, Double, SignedInteger, String, ByteString}
use Rattle.pv_words.specs.declared.kinds.AtomKind.TheVariants.{Symbol}
use Rattle.pv_words.specs.Words.{labelled, number}
use Rattle.sr_caveat.specs.Patterns.{Kind, Atom, Embedded}
use Rattle.sr_caveat.specs.Patterns.{Pattern, discard, of_kind, bind, all_of, none_of, literal, record_with}
use Rattle.sr_caveat.specs.Patterns.{sequence_with, dictionary_with, Patterns, no_patterns, then_pattern}
use Rattle.sr_caveat.specs.Patterns.{Template, attenuate, binding, constant, record_from, sequence_from, dictionary_of}
use Rattle.sr_caveat.specs.Patterns.{Templates, no_templates, then_template}
use Rattle.sr_caveat.specs.Patterns.{Caveat, rewrite, one_of, reject, guard, Caveats, no_caveats}
use Rattle.sr_caveat.specs.Patterns.{then_caveat, Rewrites, no_rewrites, then_rewrite}

-- `<word x>`, `<word x y>`
abbrev pub with_one : List ℕ → Plain → Plain
with_one word x = labelled word (x ∷ [])

abbrev pub with_two : List ℕ → Plain → Plain → Plain
with_two word x y = labelled word (x ∷ y ∷ [])

-- keys with values, as far as both go
abbrev pub paired_with : Plains → Plains → PlainPairs
paired_with no_more xs = no_pairs
paired_with (then_more k ks) no_more = no_pairs
paired_with (then_more k ks) (then_more x xs) = then_pair k x (paired_with ks xs)

abbrev pub kind_name : Kind → List ℕ
kind_name (Atom Boolean) = codes "Boolean"
kind_name (Atom Double) = codes "Double"
kind_name (Atom SignedInteger) = codes "SignedInteger"
kind_name (Atom String) = codes "String"
kind_name (Atom ByteString) = codes "ByteString"
kind_name (Atom Symbol) = codes "Symbol"
kind_name Embedded = codes "Embedded"

abbrev mutual
  pub pattern_value : Pattern → Plain
  pattern_value discard = labelled (codes "_") []
  pattern_value (of_kind k) = symbol (kind_name k)
  pattern_value (bind p) = with_one (codes "bind") (pattern_value p)
  pattern_value (all_of ps) = with_one (codes "and") (sequence (pattern_values ps))
  pattern_value (none_of p) = with_one (codes "not") (pattern_value p)
  pattern_value (literal u) = with_one (codes "lit") u
  pattern_value (record_with l ps) = with_two (codes "rec") l (sequence (pattern_values ps))
  pattern_value (sequence_with ps) = with_one (codes "arr") (sequence (pattern_values ps))
  pattern_value (dictionary_with ks ps) = with_one (codes "dict") (dictionary (paired_with ks (pattern_values ps)))

  pub pattern_values : Patterns → Plains
  pattern_values no_patterns = no_more
  pattern_values (then_pattern p ps) = then_more (pattern_value p) (pattern_values ps)

abbrev mutual
  pub template_value : Template → Plain
  template_value (attenuate t cs) = with_two (codes "attenuate") (template_value t) (sequence (caveat_values cs))
  template_value (binding n) = with_one (codes "ref") (number n)
  template_value (constant v) = with_one (codes "lit") v
  template_value (record_from l ts) = with_two (codes "rec") l (sequence (template_values ts))
  template_value (sequence_from ts) = with_one (codes "arr") (sequence (template_values ts))
  template_value (dictionary_of ks ts) = with_one (codes "dict") (dictionary (paired_with ks (template_values ts)))

  pub template_values : Templates → Plains
  template_values no_templates = no_more
  template_values (then_template t ts) = then_more (template_value t) (template_values ts)

  pub caveat_value : Caveat → Plain
  caveat_value (rewrite p t) = with_two (codes "rewrite") (pattern_value p) (template_value t)
  caveat_value (one_of rs) = with_one (codes "or") (sequence (rewrite_values rs))
  caveat_value (reject p) = with_one (codes "reject") (pattern_value p)
  caveat_value (guard name) = with_one (codes "guard") (symbol name)

  pub caveat_values : Caveats → Plains
  caveat_values no_caveats = no_more
  caveat_values (then_caveat c cs) = then_more (caveat_value c) (caveat_values cs)

  pub rewrite_values : Rewrites → Plains
  rewrite_values no_rewrites = no_more
  rewrite_values (then_rewrite p t rs) =
      then_more (with_two (codes "rewrite") (pattern_value p) (template_value t)) (rewrite_values rs)
