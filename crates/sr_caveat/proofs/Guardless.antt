-- What is read from the wire holds no guard.
use Rattle.std.proofs.Common.{◌≡◌, ℕ, Bool, true, false, List, [], ◌++◌, Option, Some, None, option_map, cond, refl}
use Rattle.std.proofs.Common.{ltb}
use Rattle.std.specs.Prelude.{codes}
use Rattle.pv_value.specs.Plain.{Plain, symbol, record_of, sequence, dictionary, Plains, no_more, then_more}
use Rattle.pv_value.specs.Plain.{PlainPairs, no_pairs, then_pair}
use Rattle.pv_words.specs.Words.{is_word, number_in}
use Rattle.sr_caveat.specs.Embedded.{has_embedded}
use Rattle.sr_caveat.specs.Patterns.{Pattern, Template, Templates, Caveat, rewrite, one_of, reject, guard, Rewrites}
use Rattle.sr_caveat.specs.Patterns.{binding, constant, record_from, sequence_from, dictionary_of, reject_all}
use Rattle.sr_caveat.specs.Patterns.{Caveats}
use Rattle.sr_caveat.specs.Written.{keys_of_value, bound_place, short_template, attenuated_by, long_template}
use Rattle.sr_caveat.specs.Written.{with_template}
use Rattle.sr_caveat.specs.Written.{guard_named, short_caveat, rewrite_by, long_caveat, with_rewrite, standing}
use Rattle.sr_caveat.specs.Written.{names_of}
use Rattle.sr_caveat.specs.Written.{pattern_of, template_of, templates_of, templates_in, templates_under_keys}
use Rattle.sr_caveat.specs.Written.{templates_in_pairs, caveats_of, caveats_in, caveat_in, rewrites_of, rewrites_in}
use Rattle.sr_caveat.specs.Laws.{guards_in_template, guards_in_templates, guards_in, guards_in_caveats}
use Rattle.sr_caveat.specs.Laws.{guards_in_rewrites}
use Rattle.sr_caveat.specs.Laws.{NoGuardFromTheWire}
use Rattle.pv_words.specs.Lemmas.Found.{If, if_cond, if_map}

no_more_guards : (xs ys : List (List ℕ)) → xs ≡ [] → ys ≡ [] → xs ++ ys ≡ []
no_more_guards xs ys e f = λ i. e i ++ f i

abbrev Free : Template → Type 0
Free t = guards_in_template t ≡ []

abbrev AllFree : Templates → Type 0
AllFree ts = guards_in_templates ts ≡ []

abbrev RulesFree : Rewrites → Type 0
RulesFree rs = guards_in_rewrites rs ≡ []

abbrev CaveatFree : Caveat → Type 0
CaveatFree c = guards_in c ≡ []

abbrev CaveatsFree : Caveats → Type 0
CaveatsFree cs = guards_in_caveats cs ≡ []

place_free : (names : ℕ) (o : Option ℕ) → If (bound_place names o) Free
place_free names None = tt
place_free names (Some n) = if_cond Free (ltb n names) (Some (binding n)) None refl tt

short_free : (names : ℕ) (s : List ℕ) (x : Plain) (ts us : Option Templates) → If ts AllFree → If us AllFree
    → If (short_template names s x ts us) Free
short_free names s x ts us h k =
    if_cond Free (is_word s (codes "ref")) (bound_place names (number_in x)) _ (place_free names (number_in x))
    (if_cond Free (is_word s (codes "lit")) (Some (constant x)) _ refl
    (if_cond Free (is_word s (codes "arr")) (option_map sequence_from ts) _
    (if_map sequence_from AllFree Free ts (λ a e. e) h)
    (if_cond Free (is_word s (codes "dict")) (option_map (dictionary_of (keys_of_value x)) us) None
    (if_map (dictionary_of (keys_of_value x)) AllFree Free us (λ a e. e) k) tt)))

attenuated_free : (t : Option Template) (cs : Option Caveats) → If t Free → If cs CaveatsFree
    → If (attenuated_by t cs) Free
attenuated_free None cs h k = tt
attenuated_free (Some t) None h k = tt
attenuated_free (Some t) (Some cs) h k = no_more_guards (guards_in_template t) (guards_in_caveats cs) h k

long_free : (s : List ℕ) (x : Plain) (t : Option Template) (cs : Option Caveats) (ts : Option Templates) → If t Free
    → If cs CaveatsFree → If ts AllFree → If (long_template s x t cs ts) Free
long_free s x t cs ts h k l =
    if_cond Free (is_word s (codes "attenuate")) (attenuated_by t cs) _ (attenuated_free t cs h k)
    (if_cond Free (is_word s (codes "rec")) (option_map (record_from x) ts) None
    (if_map (record_from x) AllFree Free ts (λ a e. e) l) tt)

with_free : (t : Option Template) (ts : Option Templates) → If t Free → If ts AllFree → If (with_template t ts) AllFree
with_free None ts h k = tt
with_free (Some t) None h k = tt
with_free (Some t) (Some ts) h k = no_more_guards (guards_in_template t) (guards_in_templates ts) h k

guard_free : (x : Plain) → If (guard_named false x) CaveatFree
guard_free x = tt

short_caveat_free : (s : List ℕ) (x : Plain) (p : Option Pattern) (rs : Option Rewrites) → If rs RulesFree
    → If (short_caveat false s x p rs) CaveatFree
short_caveat_free s x p rs h =
    if_cond CaveatFree (is_word s (codes "or")) (option_map one_of rs) _
    (if_map one_of RulesFree CaveatFree rs (λ a e. e) h)
    (if_cond CaveatFree (is_word s (codes "reject")) (option_map reject p) _
    (if_map reject (λ q. Unit {0}) CaveatFree p (λ a e. refl) (any p))
    (if_cond CaveatFree (is_word s (codes "guard")) (guard_named false x) None (guard_free x) tt))
  where
    any : (q : Option Pattern) → If q (λ r. Unit {0})
    any None = tt
    any (Some r) = tt

rewrite_free : (p : Option Pattern) (t : Option Template) → If t Free → If (rewrite_by p t) CaveatFree
rewrite_free None t h = tt
rewrite_free (Some p) None h = tt
rewrite_free (Some p) (Some t) h = h

long_caveat_free : (s : List ℕ) (p : Option Pattern) (t : Option Template) → If t Free
    → If (long_caveat s p t) CaveatFree
long_caveat_free s p t h =
    if_cond CaveatFree (is_word s (codes "rewrite")) (rewrite_by p t) None (rewrite_free p t h) tt

with_rewrite_free : (c : Option Caveat) (rs : Option Rewrites) → If c CaveatFree → If rs RulesFree
    → If (with_rewrite c rs) RulesFree
with_rewrite_free None rs h k = tt
with_rewrite_free (Some (rewrite p t)) None h k = tt
with_rewrite_free (Some (rewrite p t)) (Some rs) h k = no_more_guards (guards_in_template t) (guards_in_rewrites rs) h k
with_rewrite_free (Some (one_of ss)) rs h k = tt
with_rewrite_free (Some (reject p)) rs h k = tt
with_rewrite_free (Some (guard name)) rs h k = tt

standing_free : (c : Option Caveat) → If c CaveatFree → CaveatFree (standing c)
standing_free None h = refl
standing_free (Some c) h = h

mutual
  template_free : (n : ℕ) (v : Plain) → If (template_of false n v) Free
  template_free n (record_of (symbol s) (then_more x no_more)) =
      short_free n s x (templates_of false n x) (templates_under_keys false n x) (list_free n x) (under_free n x)
  template_free n (record_of (symbol s) (then_more x (then_more y no_more))) =
      long_free s x (template_of false n x) (caveats_of false y) (templates_of false n y) (template_free n x)
      (caveats_free y) (list_free n y)
  template_free n v = tt

  list_free : (n : ℕ) (v : Plain) → If (templates_of false n v) AllFree
  list_free n (sequence xs) = each_free n xs
  list_free n v = tt

  each_free : (n : ℕ) (xs : Plains) → If (templates_in false n xs) AllFree
  each_free n no_more = refl
  each_free n (then_more x xs) =
      with_free (template_of false n x) (templates_in false n xs) (template_free n x) (each_free n xs)

  under_free : (n : ℕ) (v : Plain) → If (templates_under_keys false n v) AllFree
  under_free n (dictionary ps) = pairs_free n ps
  under_free n v = tt

  pairs_free : (n : ℕ) (ps : PlainPairs) → If (templates_in_pairs false n ps) AllFree
  pairs_free n no_pairs = refl
  pairs_free n (then_pair k v ps) =
      with_free (template_of false n v) (templates_in_pairs false n ps) (template_free n v) (pairs_free n ps)

  caveats_free : (v : Plain) → If (caveats_of false v) CaveatsFree
  caveats_free (sequence xs) = all_caveats_free xs
  caveats_free v = tt

  all_caveats_free : (xs : Plains) → CaveatsFree (caveats_in false xs)
  all_caveats_free no_more = refl
  all_caveats_free (then_more x xs) =
      no_more_guards (guards_in (standing (caveat_in false x))) (guards_in_caveats (caveats_in false xs))
      (standing_free (caveat_in false x) (caveat_free x)) (all_caveats_free xs)

  caveat_free : (v : Plain) → If (caveat_in false v) CaveatFree
  caveat_free (record_of (symbol s) (then_more x no_more)) =
      short_caveat_free s x (pattern_of x) (rewrites_of false x) (rewrites_free x)
  caveat_free (record_of (symbol s) (then_more x (then_more y no_more))) =
      long_caveat_free s (pattern_of x) (template_of false (names_of (pattern_of x)) y)
      (template_free (names_of (pattern_of x)) y)
  caveat_free v = tt

  rewrites_free : (v : Plain) → If (rewrites_of false v) RulesFree
  rewrites_free (sequence xs) = all_rewrites_free xs
  rewrites_free v = tt

  all_rewrites_free : (xs : Plains) → If (rewrites_in false xs) RulesFree
  all_rewrites_free no_more = refl
  all_rewrites_free (then_more x xs) =
      with_rewrite_free (caveat_in false x) (rewrites_in false xs) (caveat_free x) (all_rewrites_free xs)

pub no_guard : NoGuardFromTheWire
no_guard v = by (has_embedded v)
  where
    by : (b : Bool) → CaveatFree (cond {A = Caveat} b reject_all (standing (caveat_in false v)))
    by true = refl
    by false = standing_free (caveat_in false v) (caveat_free v)
