-- What a reference's caveats let pass of values that hold objects holds objects.
use Rattle.std.proofs.Common.{◌≡◌, ℕ, Bool, true, false, ◌||◌, List, [], ◌∷◌, ◌++◌, Option, Some, None}
use Rattle.std.proofs.Common.{refl, sym, ap, ◌∙◌, subst, cond, nat_lt}
use Rattle.std.specs.Prelude.{option_and_then, option_map, length, ◌==◌, is_some, codes}
use Rattle.std.specs.List.{AllByRecursion}
use Rattle.pv_value.specs.Plain.{Plain, integer, record_of, sequence, set_of, dictionary, embedded, boolean, double}
use Rattle.pv_value.specs.Plain.{string, byte_string, symbol, Plains, no_more, then_more, PlainPairs, no_pairs}
use Rattle.pv_value.specs.Plain.{then_pair, plains, listed}
use Rattle.pv_value.specs.Lemmas.Ascending.{or_false}
use Rattle.pv_words.specs.Words.{is_word, number_in}
use Rattle.pv_words.specs.Parts.{same, value_under}
use Rattle.sr_caveat.specs.Embedded.{has_embedded, any_embedded, any_pair_embedded}
use Rattle.sr_caveat.specs.Patterns.{Pattern, discard, of_kind, bind, all_of, none_of, literal, record_with}
use Rattle.sr_caveat.specs.Patterns.{sequence_with, dictionary_with, Patterns, no_patterns, then_pattern}
use Rattle.sr_caveat.specs.Patterns.{Template, attenuate, binding, constant, record_from, sequence_from, dictionary_of}
use Rattle.sr_caveat.specs.Patterns.{Templates, no_templates, then_template}
use Rattle.sr_caveat.specs.Patterns.{Caveat, rewrite, one_of, reject, guard, Caveats}
use Rattle.sr_caveat.specs.Patterns.{Rewrites, no_rewrites, then_rewrite, reject_all, listed_caveats}
use Rattle.sr_caveat.specs.Spelled.{caveat_value, paired_with}
use Rattle.sr_pass.specs.Binding.{is_kind, fields_of, items_of, with_value, under_keys, values_under}
use Rattle.sr_pass.specs.Binding.{where_true, where_none, bound, all_bound, each_bound}
use Rattle.sr_caveat.specs.declared.caps.Cap.{Cap}
use Rattle.sr_caveat.specs.Caps.{cap_of, cap_value, attenuated, IsReadBack}
use Rattle.sr_pass.specs.Filling.{is_reference, if_reference, reference_with, dictionary_under, with_first, filled}
use Rattle.sr_pass.specs.Filling.{all_filled}
use Rattle.sr_caveat.specs.Written.{keys_in, keys_of_value, bound_place, short_template, attenuated_by, long_template}
use Rattle.sr_caveat.specs.Written.{with_template, guard_named, short_caveat, rewrite_by, with_rewrite}
use Rattle.sr_caveat.specs.Written.{standing, names_of, pattern_of, template_of, templates_of, templates_in}
use Rattle.sr_caveat.specs.Written.{templates_under_keys, templates_in_pairs, caveats_of, caveats_in, caveat_in}
use Rattle.sr_caveat.specs.Written.{rewrites_of, rewrites_in}
use Rattle.ps_schema.specs.declared.Definition.{Definition}
use Rattle.ps_schema.specs.Conforms.{conforms}
use Rattle.sr_pass.specs.Passing.{if_fits, fits, rewritten, ruled, applied, passed}
use Rattle.pv_words.specs.Lemmas.Found.{If, if_cond, if_map}
use Rattle.sr_caveat.specs.Lemmas.CaveatsBack.{read_back, nothing_embedded}
use Rattle.sr_caveat.specs.Lemmas.Capped.{cap_sound}
use Rattle.rl_wire.specs.Crossing.{held_in, all_held_in, all_pairs_held_in}
use Rattle.rl_wire.specs.Lemmas.Later.{all_of_front, all_of_rest}
use Rattle.hub_valid.specs.Validity.{Lived, IsObjectValue, HoldsObjects}
use Rattle.hub_valid.specs.Promises.{PassedIsValid}
use Rattle.hub_valid.specs.Lemmas.Values.{FoundHold, one_more_holds, both_hold, value_holds}
use Rattle.hub_valid.specs.Lemmas.Values.{all_append, all_got, cap_is_object, object_found, sequence_holds}

-- ---- a value without an embedded one holds none

module _ (P : Plain → Type 0) where
  mutual
    pub quiet_holds : (v : Plain) → has_embedded v ≡ false → AllByRecursion P (held_in v)
    quiet_holds (embedded x) e = absurd cc
    quiet_holds (record_of l fs) e =
        all_append P (held_in l) (all_held_in fs) (quiet_holds l (or_false (has_embedded l) (any_embedded fs) e).0)
        (all_quiet_hold fs (or_false (has_embedded l) (any_embedded fs) e).1)
    quiet_holds (sequence xs) e = all_quiet_hold xs e
    quiet_holds (set_of xs) e = all_quiet_hold xs e
    quiet_holds (dictionary ps) e = all_pairs_quiet_hold ps e
    quiet_holds (boolean b) e = tt
    quiet_holds (double d) e = tt
    quiet_holds (integer n) e = tt
    quiet_holds (string s) e = tt
    quiet_holds (byte_string b) e = tt
    quiet_holds (symbol s) e = tt

    all_quiet_hold : (xs : Plains) → any_embedded xs ≡ false → AllByRecursion P (all_held_in xs)
    all_quiet_hold no_more e = tt
    all_quiet_hold (then_more x xs) e =
        all_append P (held_in x) (all_held_in xs) (quiet_holds x (or_false (has_embedded x) (any_embedded xs) e).0)
        (all_quiet_hold xs (or_false (has_embedded x) (any_embedded xs) e).1)

    all_pairs_quiet_hold : (ps : PlainPairs) → any_pair_embedded ps ≡ false → AllByRecursion P (all_pairs_held_in ps)
    all_pairs_quiet_hold no_pairs e = tt
    all_pairs_quiet_hold (then_pair k v ps) e =
        let here = (or_false (has_embedded k || has_embedded v) (any_pair_embedded ps) e).0 in
        all_append P (held_in k ++ held_in v) (all_pairs_held_in ps)
        (all_append P (held_in k) (held_in v) (quiet_holds k (or_false (has_embedded k) (has_embedded v) here).0)
        (quiet_holds v (or_false (has_embedded k) (has_embedded v) here).1))
        (all_pairs_quiet_hold ps (or_false (has_embedded k || has_embedded v) (any_pair_embedded ps) e).1)

-- ---- what is bound of a value that holds objects

module _ (n : Lived) where
  abbrev AllHold : Plains → Type 0
  AllHold xs = AllByRecursion (IsObjectValue n) (all_held_in xs)

  fields_hold : (label v : Plain) → HoldsObjects n v → If (fields_of label v) AllHold
  fields_hold label (record_of l xs) h =
      if_cond AllHold (same l label) (Some xs) None (all_of_rest (IsObjectValue n) (held_in l) (all_held_in xs) h) tt
  fields_hold label v h = tt

  items_hold : (v : Plain) → HoldsObjects n v → If (items_of v) AllHold
  items_hold (sequence xs) h = h
  items_hold v h = tt

  with_value_hold : (o : Option Plain) (q : Option Plains) → If o (HoldsObjects n) → If q AllHold
      → If (with_value o q) AllHold
  with_value_hold None q a b = tt
  with_value_hold (Some x) None a b = tt
  with_value_hold (Some x) (Some xs) a b = all_append (IsObjectValue n) (held_in x) (all_held_in xs) a b

  under_keys_hold : (ks : Plains) (ps : PlainPairs) → AllByRecursion (IsObjectValue n) (all_pairs_held_in ps)
      → If (under_keys ks ps) AllHold
  under_keys_hold no_more ps h = tt
  under_keys_hold (then_more k ks) ps h =
      with_value_hold (value_under ps k) (under_keys ks ps) (value_holds n ps k h) (under_keys_hold ks ps h)

  values_hold : (ks : Plains) (v : Plain) → HoldsObjects n v → If (values_under ks v) AllHold
  values_hold ks (dictionary ps) h = under_keys_hold ks ps h
  values_hold ks v h = tt

  where_true_holds : (b : Bool) → FoundHold n (where_true b)
  where_true_holds b = if_cond (AllByRecursion (HoldsObjects n)) b (Some []) None tt tt

  where_none_holds : (o : Option (List Plain)) → FoundHold n (where_none o)
  where_none_holds None = tt
  where_none_holds (Some bs) = tt

  of_parts : (ps : Patterns) (o : Option Plains) → If o AllHold
      → ((xs : Plains) → AllHold xs → FoundHold n (each_bound ps xs)) → FoundHold n (option_and_then (each_bound ps) o)
  of_parts ps None h by = tt
  of_parts ps (Some xs) h by = by xs h

  mutual
    bound_holds : (p : Pattern) (v : Plain) → HoldsObjects n v → FoundHold n (bound p v)
    bound_holds discard v h = tt
    bound_holds (of_kind k) v h = where_true_holds (is_kind k v)
    bound_holds (bind p) v h = one_more_holds n v (bound p v) h (bound_holds p v h)
    bound_holds (all_of ps) v h = all_bound_hold ps v h
    bound_holds (none_of p) v h = where_none_holds (bound p v)
    bound_holds (literal u) v h = where_true_holds (same u v)
    bound_holds (record_with l ps) v h = of_parts ps (fields_of l v) (fields_hold l v h) (λ xs. each_bound_hold ps xs)
    bound_holds (sequence_with ps) v h = of_parts ps (items_of v) (items_hold v h) (λ xs. each_bound_hold ps xs)
    bound_holds (dictionary_with ks ps) v h =
        of_parts ps (values_under ks v) (values_hold ks v h) (λ xs. each_bound_hold ps xs)

    all_bound_hold : (ps : Patterns) (v : Plain) → HoldsObjects n v → FoundHold n (all_bound ps v)
    all_bound_hold no_patterns v h = tt
    all_bound_hold (then_pattern p ps) v h =
        both_hold n (bound p v) (all_bound ps v) (bound_holds p v h) (all_bound_hold ps v h)

    each_bound_hold : (ps : Patterns) (xs : Plains) → AllHold xs → FoundHold n (each_bound ps xs)
    each_bound_hold no_patterns no_more h = tt
    each_bound_hold no_patterns (then_more x xs) h = tt
    each_bound_hold (then_pattern p ps) no_more h = tt
    each_bound_hold (then_pattern p ps) (then_more x xs) h =
        both_hold n (bound p x) (each_bound ps xs)
        (bound_holds p x (all_of_front (IsObjectValue n) (held_in x) (all_held_in xs) h))
        (each_bound_hold ps xs (all_of_rest (IsObjectValue n) (held_in x) (all_held_in xs) h))

-- ---- templates that were read: no value in them holds an embedded one, and each caveat is one that was read

abbrev KeysAreQuiet : Plains → Templates → Type 0
KeysAreQuiet no_more ts = Unit {0}
KeysAreQuiet (then_more k ks) no_templates = Unit {0}
KeysAreQuiet (then_more k ks) (then_template t ts) = (has_embedded k ≡ false) × KeysAreQuiet ks ts

abbrev mutual
  IsRead : Template → Type 0
  IsRead (attenuate t cs) = IsRead t × AllByRecursion IsReadBack (listed_caveats cs)
  IsRead (binding n) = Unit {0}
  IsRead (constant v) = has_embedded v ≡ false
  IsRead (record_from l ts) = (has_embedded l ≡ false) × AreRead ts
  IsRead (sequence_from ts) = AreRead ts
  IsRead (dictionary_of ks ts) = KeysAreQuiet ks ts × AreRead ts

  AreRead : Templates → Type 0
  AreRead no_templates = Unit {0}
  AreRead (then_template t ts) = IsRead t × AreRead ts

abbrev RulesAreRead : Rewrites → Type 0
RulesAreRead no_rewrites = Unit {0}
RulesAreRead (then_rewrite p t rs) = IsRead t × RulesAreRead rs

abbrev CaveatIsRead : Caveat → Type 0
CaveatIsRead (rewrite p t) = IsRead t
CaveatIsRead (one_of rs) = RulesAreRead rs
CaveatIsRead (reject p) = Unit {0}
CaveatIsRead (guard name) = Unit {0}

-- ---- what templates make of values that hold objects

module _ (n : Lived) where
  attenuated_is_object : (cs : List Caveat) (x : Plain) (c : Cap) → AllByRecursion IsReadBack cs
      → IsObjectValue n x → cap_of x ≡ Some c → IsObjectValue n (cap_value (attenuated cs c))
  attenuated_is_object cs x c read h is =
      let sound = cap_sound x c is in
      cap_is_object n (attenuated cs c) (sound.0, sound.1, all_append IsReadBack c.caveats cs sound.2 read)
      (object_found n x c h is)

  reference_holds : (cs : List Caveat) (v : Plain) → AllByRecursion IsReadBack cs → HoldsObjects n v
      → If (reference_with cs v) (HoldsObjects n)
  reference_holds cs (embedded x) read h = by (cap_of x) refl
    where
      by : (o : Option Cap) → cap_of x ≡ o
          → If (option_and_then (λ c. if_reference (attenuated cs c)) o) (HoldsObjects n)
      by None is = tt
      by (Some c) is =
          if_cond (HoldsObjects n) (is_reference (attenuated cs c)) (Some (embedded (cap_value (attenuated cs c)))) None
          (attenuated_is_object cs x c read h.0 is, tt) tt
  reference_holds cs v read h = tt

  of_filled : (cs : List Caveat) (o : Option Plain) → AllByRecursion IsReadBack cs → If o (HoldsObjects n)
      → If (option_and_then (reference_with cs) o) (HoldsObjects n)
  of_filled cs None read h = tt
  of_filled cs (Some v) read h = reference_holds cs v read h

  first_holds : (o : Option Plain) (q : Option (List Plain)) → If o (HoldsObjects n) → FoundHold n q
      → FoundHold n (with_first o q)
  first_holds None q h k = tt
  first_holds (Some x) None h k = tt
  first_holds (Some x) (Some xs) h k = (h, k)

  record_holds : (l : Plain) (o : Option (List Plain)) → has_embedded l ≡ false → FoundHold n o
      → If (option_map (λ xs. record_of l (plains xs)) o) (HoldsObjects n)
  record_holds l None quiet h = tt
  record_holds l (Some xs) quiet h =
      all_append (IsObjectValue n) (held_in l) (all_held_in (plains xs)) (quiet_holds (IsObjectValue n) l quiet)
      (sequence_holds n xs h)

  list_holds : (o : Option (List Plain)) → FoundHold n o
      → If (option_map (λ xs. sequence (plains xs)) o) (HoldsObjects n)
  list_holds None h = tt
  list_holds (Some xs) h = sequence_holds n xs h

  -- the keys that have a value are those that have a template
  keyed_hold : (ks : Plains) (ts : Templates) (bs xs : List Plain) → KeysAreQuiet ks ts → all_filled ts bs ≡ Some xs
      → AllByRecursion (HoldsObjects n) xs
      → AllByRecursion (IsObjectValue n) (all_pairs_held_in (paired_with ks (plains xs)))
  keyed_hold no_more ts bs xs quiet is h = tt
  keyed_hold (then_more k ks) no_templates bs xs quiet is h = let none : [] ≡ xs = cc in rw (← none) tt
  keyed_hold (then_more k ks) (then_template t ts) bs xs quiet is h =
      by (filled t bs) (all_filled ts bs) (keyed_hold ks ts bs) is
    where
      by : (o : Option Plain) (q : Option (List Plain))
          → ((ys : List Plain) → KeysAreQuiet ks ts → q ≡ Some ys → AllByRecursion (HoldsObjects n) ys
          → AllByRecursion (IsObjectValue n) (all_pairs_held_in (paired_with ks (plains ys))))
          → with_first o q ≡ Some xs
          → AllByRecursion (IsObjectValue n) (all_pairs_held_in (paired_with (then_more k ks) (plains xs)))
      by None q later is = absurd cc
      by (Some y) None later is = absurd cc
      by (Some y) (Some ys) later is =
          let one : y ∷ ys ≡ xs = cc in
          let all = subst (AllByRecursion (HoldsObjects n)) (sym one) h in
          subst (λ zs. AllByRecursion (IsObjectValue n) (all_pairs_held_in (paired_with (then_more k ks) (plains zs))))
          one
          (all_append (IsObjectValue n) (held_in k ++ held_in y) (all_pairs_held_in (paired_with ks (plains ys)))
          (all_append (IsObjectValue n) (held_in k) (held_in y) (quiet_holds (IsObjectValue n) k quiet.0) all.0)
          (later ys quiet.1 refl all.1))

  dictionary_holds : (ks : Plains) (ts : Templates) (bs : List Plain) → KeysAreQuiet ks ts
      → FoundHold n (all_filled ts bs) → If (option_and_then (dictionary_under ks) (all_filled ts bs)) (HoldsObjects n)
  dictionary_holds ks ts bs quiet h = by (all_filled ts bs) refl h
    where
      by : (o : Option (List Plain)) → all_filled ts bs ≡ o → FoundHold n o
          → If (option_and_then (dictionary_under ks) o) (HoldsObjects n)
      by None is k = tt
      by (Some xs) is k =
          if_cond (HoldsObjects n) (length (listed ks) == length xs)
          (Some (dictionary (paired_with ks (plains xs)))) None (keyed_hold ks ts bs xs quiet is k) tt

  mutual
    filled_holds : (t : Template) (bs : List Plain) → IsRead t → AllByRecursion (HoldsObjects n) bs
        → If (filled t bs) (HoldsObjects n)
    filled_holds (attenuate t cs) bs read h =
        of_filled (listed_caveats cs) (filled t bs) read.1 (filled_holds t bs read.0 h)
    filled_holds (binding i) bs read h = all_got (HoldsObjects n) bs i h
    filled_holds (constant v) bs read h = quiet_holds (IsObjectValue n) v read
    filled_holds (record_from l ts) bs read h =
        record_holds l (all_filled ts bs) read.0 (all_filled_hold ts bs read.1 h)
    filled_holds (sequence_from ts) bs read h = list_holds (all_filled ts bs) (all_filled_hold ts bs read h)
    filled_holds (dictionary_of ks ts) bs read h = dictionary_holds ks ts bs read.0 (all_filled_hold ts bs read.1 h)

    all_filled_hold : (ts : Templates) (bs : List Plain) → AreRead ts → AllByRecursion (HoldsObjects n) bs
        → FoundHold n (all_filled ts bs)
    all_filled_hold no_templates bs read h = tt
    all_filled_hold (then_template t ts) bs read h =
        first_holds (filled t bs) (all_filled ts bs) (filled_holds t bs read.0 h) (all_filled_hold ts bs read.1 h)

-- ---- what was read of a value that holds no embedded one

-- templates under these keys
abbrev KeyedAreRead : Plains → Templates → Type 0
KeyedAreRead ks ts = KeysAreQuiet ks ts × AreRead ts

place_read : (n : ℕ) (o : Option ℕ) → If (bound_place n o) IsRead
place_read n None = tt
place_read n (Some m) = if_cond IsRead (nat_lt m n) (Some (binding m)) None tt tt

short_read : (n : ℕ) (s : List ℕ) (x : Plain) (ts us : Option Templates) → has_embedded x ≡ false → If ts AreRead
    → If us (KeyedAreRead (keys_of_value x)) → If (short_template n s x ts us) IsRead
short_read n s x ts us e h k =
    if_cond IsRead (is_word s (codes "ref")) (bound_place n (number_in x)) _ (place_read n (number_in x))
    (if_cond IsRead (is_word s (codes "lit")) (Some (constant x)) _ e
    (if_cond IsRead (is_word s (codes "arr")) (option_map sequence_from ts) _
    (if_map sequence_from AreRead IsRead ts (λ a f. f) h)
    (if_cond IsRead (is_word s (codes "dict")) (option_map (dictionary_of (keys_of_value x)) us) None
    (if_map (dictionary_of (keys_of_value x)) (KeyedAreRead (keys_of_value x)) IsRead us (λ a f. f) k) tt)))

attenuated_read : (t : Option Template) (cs : Option Caveats) → If t IsRead
    → If cs (λ ds. AllByRecursion IsReadBack (listed_caveats ds)) → If (attenuated_by t cs) IsRead
attenuated_read None cs h k = tt
attenuated_read (Some t) None h k = tt
attenuated_read (Some t) (Some cs) h k = (h, k)

long_read : (s : List ℕ) (x : Plain) (t : Option Template) (cs : Option Caveats) (ts : Option Templates)
    → has_embedded x ≡ false → If t IsRead → If cs (λ ds. AllByRecursion IsReadBack (listed_caveats ds))
    → If ts AreRead → If (long_template s x t cs ts) IsRead
long_read s x t cs ts e h k l =
    if_cond IsRead (is_word s (codes "attenuate")) (attenuated_by t cs) _ (attenuated_read t cs h k)
    (if_cond IsRead (is_word s (codes "rec")) (option_map (record_from x) ts) None
    (if_map (record_from x) AreRead IsRead ts (λ a f. (e, f)) l) tt)

with_read : (t : Option Template) (ts : Option Templates) → If t IsRead → If ts AreRead
    → If (with_template t ts) AreRead
with_read None ts h k = tt
with_read (Some t) None h k = tt
with_read (Some t) (Some ts) h k = (h, k)

with_keyed_read : (k : Plain) (ks : Plains) (t : Option Template) (ts : Option Templates) → has_embedded k ≡ false
    → If t IsRead → If ts (KeyedAreRead ks) → If (with_template t ts) (KeyedAreRead (then_more k ks))
with_keyed_read k ks None ts e h l = tt
with_keyed_read k ks (Some t) None e h l = tt
with_keyed_read k ks (Some t) (Some ts) e h l = ((e, l.0), (h, l.1))

caveats_read : (own : Bool) (xs : Plains) → any_embedded xs ≡ false
    → AllByRecursion IsReadBack (listed_caveats (caveats_in own xs))
caveats_read own no_more e = tt
caveats_read own (then_more x xs) e =
    let here = or_false (has_embedded x) (any_embedded xs) e in (
      subst IsReadBack (ap (λ b. cond {A = Caveat} b reject_all (standing (caveat_in own x))) here.0)
          (read_back own x),
      caveats_read own xs here.1,
    )

caveat_list_read : (own : Bool) (v : Plain) → has_embedded v ≡ false
    → If (caveats_of own v) (λ ds. AllByRecursion IsReadBack (listed_caveats ds))
caveat_list_read own (sequence xs) e = caveats_read own xs e
caveat_list_read own v e = tt

mutual
  template_read : (own : Bool) (n : ℕ) (v : Plain) → has_embedded v ≡ false → If (template_of own n v) IsRead
  template_read own n (record_of (symbol s) (then_more x no_more)) e =
      let here = (or_false (has_embedded x) false e).0 in
      short_read n s x (templates_of own n x) (templates_under_keys own n x) here (list_read own n x here)
      (keyed_read own n x here)
  template_read own n (record_of (symbol s) (then_more x (then_more y no_more))) e =
      let here = or_false (has_embedded x) (has_embedded y || false) e in
      let next = (or_false (has_embedded y) false here.1).0 in
      long_read s x (template_of own n x) (caveats_of own y) (templates_of own n y) here.0
      (template_read own n x here.0) (caveat_list_read own y next) (list_read own n y next)
  template_read own n v e = tt

  list_read : (own : Bool) (n : ℕ) (v : Plain) → has_embedded v ≡ false → If (templates_of own n v) AreRead
  list_read own n (sequence xs) e = each_read own n xs e
  list_read own n v e = tt

  each_read : (own : Bool) (n : ℕ) (xs : Plains) → any_embedded xs ≡ false → If (templates_in own n xs) AreRead
  each_read own n no_more e = tt
  each_read own n (then_more x xs) e =
      let here = or_false (has_embedded x) (any_embedded xs) e in
      with_read (template_of own n x) (templates_in own n xs) (template_read own n x here.0) (each_read own n xs here.1)

  keyed_read : (own : Bool) (n : ℕ) (v : Plain) → has_embedded v ≡ false
      → If (templates_under_keys own n v) (KeyedAreRead (keys_of_value v))
  keyed_read own n (dictionary ps) e = pairs_read own n ps e
  keyed_read own n v e = tt

  pairs_read : (own : Bool) (n : ℕ) (ps : PlainPairs) → any_pair_embedded ps ≡ false
      → If (templates_in_pairs own n ps) (KeyedAreRead (keys_in ps))
  pairs_read own n no_pairs e = (tt, tt)
  pairs_read own n (then_pair k v ps) e =
      let rest = or_false (has_embedded k || has_embedded v) (any_pair_embedded ps) e in
      let here = or_false (has_embedded k) (has_embedded v) rest.0 in
      with_keyed_read k (keys_in ps) (template_of own n v) (templates_in_pairs own n ps) here.0
      (template_read own n v here.1) (pairs_read own n ps rest.1)

guard_read : (own : Bool) (x : Plain) → If (guard_named own x) CaveatIsRead
guard_read true (symbol name) = tt
guard_read true x = tt
guard_read false x = tt

short_caveat_read : (own : Bool) (s : List ℕ) (x : Plain) (p : Option Pattern) (rs : Option Rewrites)
    → If rs RulesAreRead → If (short_caveat own s x p rs) CaveatIsRead
short_caveat_read own s x p rs h =
    if_cond CaveatIsRead (is_word s (codes "or")) (option_map one_of rs) _
    (if_map one_of RulesAreRead CaveatIsRead rs (λ a f. f) h)
    (if_cond CaveatIsRead (is_word s (codes "reject")) (option_map reject p) _ (refusal p)
    (if_cond CaveatIsRead (is_word s (codes "guard")) (guard_named own x) None (guard_read own x) tt))
  where
    refusal : (o : Option Pattern) → If (option_map reject o) CaveatIsRead
    refusal None = tt
    refusal (Some q) = tt

rewrite_read : (p : Option Pattern) (t : Option Template) → If t IsRead → If (rewrite_by p t) CaveatIsRead
rewrite_read None t h = tt
rewrite_read (Some p) None h = tt
rewrite_read (Some p) (Some t) h = h

with_rewrite_read : (c : Option Caveat) (rs : Option Rewrites) → If c CaveatIsRead → If rs RulesAreRead
    → If (with_rewrite c rs) RulesAreRead
with_rewrite_read None rs h k = tt
with_rewrite_read (Some (rewrite p t)) None h k = tt
with_rewrite_read (Some (rewrite p t)) (Some rs) h k = (h, k)
with_rewrite_read (Some (one_of ss)) rs h k = tt
with_rewrite_read (Some (reject p)) rs h k = tt
with_rewrite_read (Some (guard name)) rs h k = tt

mutual
  caveat_read : (own : Bool) (v : Plain) → has_embedded v ≡ false → If (caveat_in own v) CaveatIsRead
  caveat_read own (record_of (symbol s) (then_more x no_more)) e =
      short_caveat_read own s x (pattern_of x) (rewrites_of own x)
      (rule_list_read own x (or_false (has_embedded x) false e).0)
  caveat_read own (record_of (symbol s) (then_more x (then_more y no_more))) e =
      let rest = (or_false (has_embedded x) (has_embedded y || false) e).1 in
      if_cond CaveatIsRead (is_word s (codes "rewrite"))
      (rewrite_by (pattern_of x) (template_of own (names_of (pattern_of x)) y)) None
      (rewrite_read (pattern_of x) (template_of own (names_of (pattern_of x)) y)
      (template_read own (names_of (pattern_of x)) y (or_false (has_embedded y) false rest).0)) tt
  caveat_read own v e = tt

  rule_list_read : (own : Bool) (v : Plain) → has_embedded v ≡ false → If (rewrites_of own v) RulesAreRead
  rule_list_read own (sequence xs) e = rules_read own xs e
  rule_list_read own v e = tt

  rules_read : (own : Bool) (xs : Plains) → any_embedded xs ≡ false → If (rewrites_in own xs) RulesAreRead
  rules_read own no_more e = tt
  rules_read own (then_more x xs) e =
      let here = or_false (has_embedded x) (any_embedded xs) e in
      with_rewrite_read (caveat_in own x) (rewrites_in own xs) (caveat_read own x here.0) (rules_read own xs here.1)

standing_read : (c : Option Caveat) → If c CaveatIsRead → CaveatIsRead (standing c)
standing_read None h = tt
standing_read (Some c) h = h

-- a caveat that is read back
is_read : (c : Caveat) → IsReadBack c → CaveatIsRead c
is_read c back =
    let e = nothing_embedded c back in
    let same = ap (λ b. cond {A = Caveat} b reject_all (standing (caveat_in true (caveat_value c)))) e in
    subst CaveatIsRead (sym same ∙ back)
    (standing_read (caveat_in true (caveat_value c)) (caveat_read true (caveat_value c) e))

-- ---- what passes

module _ (n : Lived) (ds : List Definition) where
  of_bound : (t : Template) (o : Option (List Plain)) → IsRead t → FoundHold n o
      → If (option_and_then (filled t) o) (HoldsObjects n)
  of_bound t None read h = tt
  of_bound t (Some bs) read h = filled_holds n t bs read h

  rewritten_holds : (rs : Rewrites) (v : Plain) → RulesAreRead rs → HoldsObjects n v
      → If (rewritten rs v) (HoldsObjects n)
  rewritten_holds no_rewrites v read h = tt
  rewritten_holds (then_rewrite p t rs) v read h =
      by (bound p v) refl (bound_holds n p v h) (rewritten_holds rs v read.1 h)
    where
      by : (o : Option (List Plain)) → bound p v ≡ o → FoundHold n o → If (rewritten rs v) (HoldsObjects n)
          → If (rewritten (then_rewrite p t rs) v) (HoldsObjects n)
      by None is b later = rw is later
      by (Some bs) is b later = rw is (filled_holds n t bs read.0 b)

  ruled_holds : (c : Caveat) (v : Plain) → CaveatIsRead c → HoldsObjects n v → If (ruled ds c v) (HoldsObjects n)
  ruled_holds (rewrite p t) v read h = of_bound t (bound p v) read (bound_holds n p v h)
  ruled_holds (one_of rs) v read h = rewritten_holds rs v read h
  ruled_holds (reject p) v read h = if_cond (HoldsObjects n) (is_some (bound p v)) None (Some v) tt h
  ruled_holds (guard name) v read h = if_cond (HoldsObjects n) (conforms ds name v) (Some v) None h tt

  of_ruled : (o : Option Plain) → If o (HoldsObjects n) → If (option_and_then if_fits o) (HoldsObjects n)
  of_ruled None h = tt
  of_ruled (Some v) h = if_cond (HoldsObjects n) (fits v) (Some v) None h tt

  of_passed : (c : Caveat) (o : Option Plain) → CaveatIsRead c → If o (HoldsObjects n)
      → If (option_and_then (applied ds c) o) (HoldsObjects n)
  of_passed c None read h = tt
  of_passed c (Some v) read h = of_ruled (ruled ds c v) (ruled_holds c v read h)

  passed_holds : (cs : List Caveat) (v : Plain) → AllByRecursion IsReadBack cs → HoldsObjects n v
      → If (passed ds cs v) (HoldsObjects n)
  passed_holds [] v back h = h
  passed_holds (c ∷ cs) v back h =
      of_passed c (passed ds cs v) (is_read c back.0) (passed_holds cs v back.1 h)

-- through the reference that a value is
pub through_holds : (ds : List Definition) (n : Lived) (x v : Plain) (c : Cap) → cap_of x ≡ Some c → HoldsObjects n v
    → If (passed ds c.caveats v) (HoldsObjects n)
through_holds ds n x v c is h = passed_holds n ds c.caveats v (cap_sound x c is).2 h

pub passed_is_valid : PassedIsValid
passed_is_valid ds n x v w c is h through = subst (λ o. If o (HoldsObjects n)) through (through_holds ds n x v c is h)
