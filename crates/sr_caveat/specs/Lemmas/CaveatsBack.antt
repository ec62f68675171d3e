-- A caveat that was read is read back from the value that writes it, which holds no embedded value where the one that
-- was read holds none.
use Rattle.std.proofs.Common.{◌≡◌, ℕ, ◌^◌, Bool, true, false, ◌||◌, ltb, List, [], ◌∷◌, Option, Some, None}
use Rattle.std.proofs.Common.{option_map}
use Rattle.std.proofs.Common.{cond, refl, sym, ap, ◌∙◌, pos}
use Rattle.std.specs.Prelude.{codes}
use Rattle.pv_value.specs.Plain.{Plain, integer, symbol, record_of, sequence, dictionary, Plains, no_more, then_more}
use Rattle.pv_value.specs.Plain.{PlainPairs, no_pairs, then_pair}
use Rattle.pv_words.specs.Words.{is_word, labelled, number_in}
use Rattle.sr_caveat.specs.Embedded.{has_embedded, any_embedded, any_pair_embedded}
use Rattle.sr_caveat.specs.Patterns.{Pattern, Template, Templates, Caveat, rewrite, one_of, reject, guard, Rewrites}
use Rattle.sr_caveat.specs.Patterns.{constant, record_from, sequence_from, dictionary_of}
use Rattle.sr_caveat.specs.Patterns.{reject_all}
use Rattle.sr_caveat.specs.Patterns.{Caveats, then_caveat}
use Rattle.sr_caveat.specs.Spelled.{paired_with, pattern_value, template_value, template_values}
use Rattle.sr_caveat.specs.Spelled.{caveat_value, caveat_values, rewrite_values}
use Rattle.sr_caveat.specs.Written.{keys_in, keys_of_value, bound_place, short_template, attenuated_by, long_template}
use Rattle.sr_caveat.specs.Written.{with_template, guard_named, short_caveat, rewrite_by, long_caveat, with_rewrite}
use Rattle.sr_caveat.specs.Written.{standing, names_of, pattern_of, template_of, templates_of, templates_in}
use Rattle.sr_caveat.specs.Written.{templates_under_keys, templates_in_pairs, caveats_of, caveats_in, caveat_in}
use Rattle.sr_caveat.specs.Written.{rewrites_of, rewrites_in, caveat_of}
use Rattle.sr_caveat.specs.Laws.{CaveatsAreReadBack}
use Rattle.sr_caveat.specs.Caps.{IsReadBack}
use Rattle.pv_words.specs.Lemmas.Found.{If, if_cond, if_map}
use Rattle.sr_caveat.specs.Lemmas.PatternsBack.{pattern_back}

-- ---- tests

or_first : (a b : Bool) → (a || b) ≡ false → a ≡ false
or_first false b e = refl
or_first true b e = absurd cc

or_second : (a b : Bool) → (a || b) ≡ false → b ≡ false
or_second false b e = e
or_second true b e = absurd cc

or_neither : (a b : Bool) → a ≡ false → b ≡ false → (a || b) ≡ false
or_neither false b e f = f
or_neither true b e f = absurd cc

one_none : (b : Bool) → b ≡ false → (b || false) ≡ false
one_none b e = or_neither b false e refl

-- ---- what is read back

abbrev Quiet : Bool → Bool → Type 0
Quiet from to = from ≡ false → to ≡ false

abbrev Back : ℕ → Plain → Template → Type 0
Back n v t = (template_of true n (template_value t) ≡ Some t) × Quiet (has_embedded v) (has_embedded (template_value t))

abbrev AllBack : ℕ → Plains → Templates → Type 0
AllBack n xs ts =
    (templates_in true n (template_values ts) ≡ Some ts) × Quiet (any_embedded xs) (any_embedded (template_values ts))

abbrev ListBack : ℕ → Plain → Templates → Type 0
ListBack n x ts =
    (templates_in true n (template_values ts) ≡ Some ts) × Quiet (has_embedded x) (any_embedded (template_values ts))

abbrev PairsBack : ℕ → PlainPairs → Templates → Type 0
PairsBack n ps ts =
    (templates_in_pairs true n (paired_with (keys_in ps) (template_values ts)) ≡ Some ts)
    × (keys_in (paired_with (keys_in ps) (template_values ts)) ≡ keys_in ps)
    × Quiet (any_pair_embedded ps) (any_pair_embedded (paired_with (keys_in ps) (template_values ts)))

abbrev KeyedBack : ℕ → Plain → Templates → Type 0
KeyedBack n x ts =
    (templates_in_pairs true n (paired_with (keys_of_value x) (template_values ts)) ≡ Some ts)
    × (keys_in (paired_with (keys_of_value x) (template_values ts)) ≡ keys_of_value x)
    × Quiet (has_embedded x) (any_pair_embedded (paired_with (keys_of_value x) (template_values ts)))

abbrev CaveatBack : Plain → Caveat → Type 0
CaveatBack v c = (caveat_in true (caveat_value c) ≡ Some c) × Quiet (has_embedded v) (has_embedded (caveat_value c))

abbrev CaveatsBack : Plains → Caveats → Type 0
CaveatsBack xs cs =
    (caveats_in true (caveat_values cs) ≡ cs) × Quiet (any_embedded xs) (any_embedded (caveat_values cs))

abbrev CaveatListBack : Plain → Caveats → Type 0
CaveatListBack x cs =
    (caveats_in true (caveat_values cs) ≡ cs) × Quiet (has_embedded x) (any_embedded (caveat_values cs))

abbrev RulesBack : Plains → Rewrites → Type 0
RulesBack xs rs =
    (rewrites_in true (rewrite_values rs) ≡ Some rs) × Quiet (any_embedded xs) (any_embedded (rewrite_values rs))

abbrev RuleListBack : Plain → Rewrites → Type 0
RuleListBack x rs =
    (rewrites_in true (rewrite_values rs) ≡ Some rs) × Quiet (has_embedded x) (any_embedded (rewrite_values rs))

-- the records of words
abbrev short : List ℕ → Plain → Plain
short s x = labelled s (x ∷ [])

abbrev long : List ℕ → Plain → Plain → Plain
long s x y = labelled s (x ∷ y ∷ [])

inside_short : (s : List ℕ) (x : Plain) → has_embedded (short s x) ≡ false → has_embedded x ≡ false
inside_short s x e = or_first (has_embedded x) false e

first_long : (s : List ℕ) (x y : Plain) → has_embedded (long s x y) ≡ false → has_embedded x ≡ false
first_long s x y e = or_first (has_embedded x) (has_embedded y || false) e

second_long : (s : List ℕ) (x y : Plain) → has_embedded (long s x y) ≡ false → has_embedded y ≡ false
second_long s x y e = or_first (has_embedded y) false (or_second (has_embedded x) (has_embedded y || false) e)

both_long : (a b : Bool) → a ≡ false → b ≡ false → (a || (b || false)) ≡ false
both_long a b e f = or_neither a (b || false) e (one_none b f)

-- ---- templates

place_back : (n : ℕ) (s : List ℕ) (x : Plain) → If (bound_place n (number_in x)) (Back n (short s x))
place_back n s (integer (pos m)) = by (ltb m (2 ^ 63)) refl (ltb m n) refl
  where
    by : (a : Bool) → ltb m (2 ^ 63) ≡ a → (b : Bool) → ltb m n ≡ b
        → If (bound_place n (cond {A = Option ℕ} a (Some m) None)) (Back n (short s (integer (pos m))))
    by false e b f = tt
    by true e false f = rw f tt
    by true e true f = rw f (rw (e, f) refl, λ q. refl)
place_back n s x = tt

short_back : (n : ℕ) (s : List ℕ) (x : Plain) (ts us : Option Templates) → If ts (ListBack n x) → If us (KeyedBack n x)
    → If (short_template n s x ts us) (Back n (short s x))
short_back n s x ts us h k =
    if_cond (Back n (short s x)) (is_word s (codes "ref")) (bound_place n (number_in x)) _ (place_back n s x)
    (if_cond (Back n (short s x)) (is_word s (codes "lit")) (Some (constant x)) _ (refl, λ e. e)
    (if_cond (Back n (short s x)) (is_word s (codes "arr")) (option_map sequence_from ts) _
    (if_map sequence_from (ListBack n x) (Back n (short s x)) ts
    (λ a f. (
      ap (option_map sequence_from) f.0,
      λ e. one_none (any_embedded (template_values a))
          (f.1 (inside_short s x e)),
    )) h)
    (if_cond (Back n (short s x)) (is_word s (codes "dict")) (option_map (dictionary_of (keys_of_value x)) us) None
    (if_map (dictionary_of (keys_of_value x)) (KeyedBack n x) (Back n (short s x)) us
    (λ a f. (
      (λ i. option_map (dictionary_of (f.1 i)) (f.0 i)),
      λ e. one_none (any_pair_embedded (paired_with (keys_of_value x) (template_values a))) (f.2 (inside_short s x e)),
    )) k) tt)))

attenuated_back : (n : ℕ) (s : List ℕ) (x y : Plain) (t : Option Template) (cs : Option Caveats) → If t (Back n x)
    → If cs (CaveatListBack y) → If (attenuated_by t cs) (Back n (long s x y))
attenuated_back n s x y None cs h k = tt
attenuated_back n s x y (Some t) None h k = tt
attenuated_back n s x y (Some t) (Some cs) h k = (
  (λ i. attenuated_by (h.0 i) (Some (k.0 i))),
  λ e. both_long (has_embedded (template_value t)) (any_embedded (caveat_values cs)) (h.1 (first_long s x y e))
      (k.1 (second_long s x y e)),
)

long_back : (n : ℕ) (s : List ℕ) (x y : Plain) (t : Option Template) (cs : Option Caveats) (ts : Option Templates)
    → If t (Back n x) → If cs (CaveatListBack y) → If ts (ListBack n y)
    → If (long_template s x t cs ts) (Back n (long s x y))
long_back n s x y t cs ts h k l =
    if_cond (Back n (long s x y)) (is_word s (codes "attenuate")) (attenuated_by t cs) _
    (attenuated_back n s x y t cs h k)
    (if_cond (Back n (long s x y)) (is_word s (codes "rec")) (option_map (record_from x) ts) None
    (if_map (record_from x) (ListBack n y) (Back n (long s x y)) ts
    (λ a f. (
      ap (option_map (record_from x)) f.0,
      λ e. both_long (has_embedded x) (any_embedded (template_values a)) (first_long s x y e)
          (f.1 (second_long s x y e)),
    )) l) tt)

with_back : (n : ℕ) (x : Plain) (xs : Plains) (t : Option Template) (ts : Option Templates) → If t (Back n x)
    → If ts (AllBack n xs) → If (with_template t ts) (AllBack n (then_more x xs))
with_back n x xs None ts h k = tt
with_back n x xs (Some t) None h k = tt
with_back n x xs (Some t) (Some ts) h k = (
  (λ i. with_template (h.0 i) (k.0 i)),
  λ e. or_neither (has_embedded (template_value t)) (any_embedded (template_values ts))
      (h.1 (or_first (has_embedded x) (any_embedded xs) e)) (k.1 (or_second (has_embedded x) (any_embedded xs) e)),
)

with_keyed_back : (n : ℕ) (k x : Plain) (ps : PlainPairs) (t : Option Template) (ts : Option Templates)
    → If t (Back n x)
    → If ts (PairsBack n ps) → If (with_template t ts) (PairsBack n (then_pair k x ps))
with_keyed_back n k x ps None ts h l = tt
with_keyed_back n k x ps (Some t) None h l = tt
with_keyed_back n k x ps (Some t) (Some ts) h l =
    let rest = any_pair_embedded (paired_with (keys_in ps) (template_values ts)) in (
      (λ i. with_template (h.0 i) (l.0 i)),
      ap (then_more k) l.1,
      λ e.
          let here = or_first (has_embedded k || has_embedded x) (any_pair_embedded ps) e in
          or_neither (has_embedded k || has_embedded (template_value t)) rest
          (or_neither (has_embedded k) (has_embedded (template_value t))
          (or_first (has_embedded k) (has_embedded x) here)
          (h.1 (or_second (has_embedded k) (has_embedded x) here)))
          (l.2 (or_second (has_embedded k || has_embedded x) (any_pair_embedded ps) e)),
    )

-- ---- caveats

guard_back : (own : Bool) (s : List ℕ) (x : Plain) → If (guard_named own x) (CaveatBack (short s x))
guard_back true s (symbol name) = (refl, λ e. refl)
guard_back true s x = tt
guard_back false s x = tt

short_caveat_back : (own : Bool) (s : List ℕ) (x : Plain) (p : Option Pattern) (rs : Option Rewrites)
    → If p (λ q. (pattern_of (pattern_value q) ≡ Some q) × (pattern_value q ≡ x)) → If rs (RuleListBack x)
    → If (short_caveat own s x p rs) (CaveatBack (short s x))
short_caveat_back own s x p rs h k =
    if_cond (CaveatBack (short s x)) (is_word s (codes "or")) (option_map one_of rs) _
    (if_map one_of (RuleListBack x) (CaveatBack (short s x)) rs
    (λ a f. (ap (option_map one_of) f.0, λ e. one_none (any_embedded (rewrite_values a)) (f.1 (inside_short s x e)))) k)
    (if_cond (CaveatBack (short s x)) (is_word s (codes "reject")) (option_map reject p) _
    (if_map reject (λ q. (pattern_of (pattern_value q) ≡ Some q) × (pattern_value q ≡ x)) (CaveatBack (short s x)) p
    (λ a f. (
      ap (option_map reject) f.0,
      λ e. one_none (has_embedded (pattern_value a)) (ap has_embedded f.1 ∙ inside_short s x e),
    )) h)
    (if_cond (CaveatBack (short s x)) (is_word s (codes "guard")) (guard_named own x) None (guard_back own s x) tt))

abbrev PatternBack : Plain → Pattern → Type 0
PatternBack x q = (pattern_of (pattern_value q) ≡ Some q) × (pattern_value q ≡ x)

rewrite_back : (s : List ℕ) (x y : Plain) (p : Option Pattern) (t : Option Template) → If p (PatternBack x)
    → If t (Back (names_of p) y) → If (rewrite_by p t) (CaveatBack (long s x y))
rewrite_back s x y None t h k = tt
rewrite_back s x y (Some p) None h k = tt
rewrite_back s x y (Some p) (Some t) h k = (
  (λ i. rewrite_by (h.0 i) (template_of true (names_of (h.0 i)) (template_value t)))
      ∙ ap (rewrite_by (Some p)) k.0,
  λ e. both_long (has_embedded (pattern_value p)) (has_embedded (template_value t))
      (ap has_embedded h.1 ∙ first_long s x y e) (k.1 (second_long s x y e)),
)

long_caveat_back : (s : List ℕ) (x y : Plain) (p : Option Pattern) (t : Option Template) → If p (PatternBack x)
    → If t (Back (names_of p) y) → If (long_caveat s p t) (CaveatBack (long s x y))
long_caveat_back s x y p t h k =
    if_cond (CaveatBack (long s x y)) (is_word s (codes "rewrite")) (rewrite_by p t) None (rewrite_back s x y p t h k)
    tt

with_rewrite_back : (x : Plain) (xs : Plains) (c : Option Caveat) (rs : Option Rewrites) → If c (CaveatBack x)
    → If rs (RulesBack xs) → If (with_rewrite c rs) (RulesBack (then_more x xs))
with_rewrite_back x xs None rs h k = tt
with_rewrite_back x xs (Some (rewrite p t)) None h k = tt
with_rewrite_back x xs (Some (rewrite p t)) (Some rs) h k = (
  (λ i. with_rewrite (h.0 i) (k.0 i)),
  λ e. or_neither (has_embedded (caveat_value (rewrite p t))) (any_embedded (rewrite_values rs))
      (h.1 (or_first (has_embedded x) (any_embedded xs) e)) (k.1 (or_second (has_embedded x) (any_embedded xs) e)),
)
with_rewrite_back x xs (Some (one_of ss)) rs h k = tt
with_rewrite_back x xs (Some (reject p)) rs h k = tt
with_rewrite_back x xs (Some (guard name)) rs h k = tt

standing_back : (v : Plain) (c : Option Caveat) → If c (CaveatBack v) → CaveatBack v (standing c)
standing_back v None h = (refl, λ e. refl)
standing_back v (Some c) h = h

pattern_both : (x : Plain) (o : Option Pattern) → pattern_of x ≡ o → If o (λ q. pattern_value q ≡ x)
    → If o (PatternBack x)
pattern_both x None e h = tt
pattern_both x (Some q) e h = (ap pattern_of h ∙ e, h)

pattern_is_back : (x : Plain) → If (pattern_of x) (PatternBack x)
pattern_is_back x = pattern_both x (pattern_of x) refl (pattern_back x)

-- ---- all together

mutual
  template_back : (own : Bool) (n : ℕ) (v : Plain) → If (template_of own n v) (Back n v)
  template_back own n (record_of (symbol s) (then_more x no_more)) =
      short_back n s x (templates_of own n x) (templates_under_keys own n x) (list_back own n x) (keyed_back own n x)
  template_back own n (record_of (symbol s) (then_more x (then_more y no_more))) =
      long_back n s x y (template_of own n x) (caveats_of own y) (templates_of own n y) (template_back own n x)
      (caveat_list_back own y) (list_back own n y)
  template_back own n v = tt

  list_back : (own : Bool) (n : ℕ) (v : Plain) → If (templates_of own n v) (ListBack n v)
  list_back own n (sequence xs) = each_back own n xs
  list_back own n v = tt

  each_back : (own : Bool) (n : ℕ) (xs : Plains) → If (templates_in own n xs) (AllBack n xs)
  each_back own n no_more = (refl, λ e. refl)
  each_back own n (then_more x xs) =
      with_back n x xs (template_of own n x) (templates_in own n xs) (template_back own n x) (each_back own n xs)

  keyed_back : (own : Bool) (n : ℕ) (v : Plain) → If (templates_under_keys own n v) (KeyedBack n v)
  keyed_back own n (dictionary ps) = pairs_back own n ps
  keyed_back own n v = tt

  pairs_back : (own : Bool) (n : ℕ) (ps : PlainPairs) → If (templates_in_pairs own n ps) (PairsBack n ps)
  pairs_back own n no_pairs = (refl, refl, λ e. refl)
  pairs_back own n (then_pair k v ps) =
      with_keyed_back n k v ps (template_of own n v) (templates_in_pairs own n ps) (template_back own n v)
      (pairs_back own n ps)

  caveat_list_back : (own : Bool) (v : Plain) → If (caveats_of own v) (CaveatListBack v)
  caveat_list_back own (sequence xs) = caveats_back own xs
  caveat_list_back own v = tt

  caveats_back : (own : Bool) (xs : Plains) → CaveatsBack xs (caveats_in own xs)
  caveats_back own no_more = (refl, λ e. refl)
  caveats_back own (then_more x xs) =
      let here = standing_back x (caveat_in own x) (caveat_back own x) in
      let rest = caveats_back own xs in (
        (λ i. then_caveat (standing (here.0 i)) (rest.0 i)),
        λ e. or_neither (has_embedded (caveat_value (standing (caveat_in own x))))
            (any_embedded (caveat_values (caveats_in own xs)))
            (here.1 (or_first (has_embedded x) (any_embedded xs) e))
            (rest.1 (or_second (has_embedded x) (any_embedded xs) e)),
      )

  caveat_back : (own : Bool) (v : Plain) → If (caveat_in own v) (CaveatBack v)
  caveat_back own (record_of (symbol s) (then_more x no_more)) =
      short_caveat_back own s x (pattern_of x) (rewrites_of own x) (pattern_is_back x) (rewrite_list_back own x)
  caveat_back own (record_of (symbol s) (then_more x (then_more y no_more))) =
      long_caveat_back s x y (pattern_of x) (template_of own (names_of (pattern_of x)) y) (pattern_is_back x)
      (template_back own (names_of (pattern_of x)) y)
  caveat_back own v = tt

  rewrite_list_back : (own : Bool) (v : Plain) → If (rewrites_of own v) (RuleListBack v)
  rewrite_list_back own (sequence xs) = rewrites_back own xs
  rewrite_list_back own v = tt

  rewrites_back : (own : Bool) (xs : Plains) → If (rewrites_in own xs) (RulesBack xs)
  rewrites_back own no_more = (refl, λ e. refl)
  rewrites_back own (then_more x xs) =
      with_rewrite_back x xs (caveat_in own x) (rewrites_in own xs) (caveat_back own x) (rewrites_back own xs)

pub read_back : CaveatsAreReadBack
read_back own v = by (has_embedded v) refl
  where
    again : (c : Caveat) → has_embedded (caveat_value c) ≡ false → caveat_in true (caveat_value c) ≡ Some c
        → caveat_of true (caveat_value c) ≡ c
    again c e f =
        ap (λ b. cond {A = Caveat} b reject_all (standing (caveat_in true (caveat_value c)))) e ∙ ap standing f

    by : (b : Bool) → has_embedded v ≡ b
        → caveat_of true (caveat_value (cond {A = Caveat} b reject_all (standing (caveat_in own v))))
        ≡ cond {A = Caveat} b reject_all (standing (caveat_in own v))
    by true e = again reject_all refl refl
    by false e =
        let here = standing_back v (caveat_in own v) (caveat_back own v) in
        again (standing (caveat_in own v)) (here.1 e) here.0

-- a caveat that is read back holds no embedded value
pub nothing_embedded : (c : Caveat) → IsReadBack c → has_embedded (caveat_value c) ≡ false
nothing_embedded c back = by (has_embedded (caveat_value c)) refl
  where
    by : (b : Bool) → has_embedded (caveat_value c) ≡ b → b ≡ false
    by false is = refl
    by true is =
        let all : reject_all ≡ c
        = sym (ap (λ b. cond {A = Caveat} b reject_all (standing (caveat_in true (caveat_value c)))) is) ∙ back in
        sym is ∙ ap (λ d. has_embedded (caveat_value d)) (sym all)
