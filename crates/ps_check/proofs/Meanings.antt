-- In a schema names have one meaning.
use Rattle.std.proofs.Common.{◌≡◌, ℕ, zero, suc, ◌+◌, ◌*◌, ◌<◌, ◌≤◌, Bool, true, false, ◌&&◌, ◌||◌, List, length}
use Rattle.std.proofs.Common.{Option, Some, None, refl, sym, ap, ◌∙◌, arith}
use Rattle.std.specs.Prelude.{if◌then◌else◌}
use Rattle.std.proofs.Math.Nat.{mul-le-mul_left}
use Rattle.pv_value.specs.Plain.{Plain, boolean, record_of, sequence}
use Rattle.pv_value.specs.Plain.{set_of, dictionary, embedded, Plains, no_more, then_more, PlainPairs, no_pairs}
use Rattle.pv_value.specs.Plain.{then_pair}
use Rattle.pv_value.specs.Weight.{node_count, node_counts, pair_node_counts}
use Rattle.ps_schema.specs.Patterns.{PlainPattern, any_value, of_kind, literal, reference, embedded_as, record_with}
use Rattle.ps_schema.specs.Patterns.{record_of_both, tuple, tuple_with_rest, set_of_all, dictionary_of_all}
use Rattle.ps_schema.specs.Patterns.{dictionary_with, one_of, all_of, PlainPatterns, no_patterns, then_pattern}
use Rattle.ps_schema.specs.Patterns.{PlainFields, no_fields, then_field}
use Rattle.ps_schema.specs.Names.{pattern_under}
use Rattle.ps_schema.specs.Schemas.{asks, one_asks, IsSchema}
use Rattle.ps_schema.specs.Laws.{EndsWithin}
use Rattle.ps_schema.specs.Lemmas.Ends.{its_own_name, same_name, ways_end}
use Rattle.ps_schema.specs.Conforms.{conforms, matches, begin_with, have_all, matches_one, matches_each, are_all}
use Rattle.ps_schema.specs.Conforms.{are_all_pairs, are_none, have, is_value, is_embedded, is_record, is_sequence}
use Rattle.ps_schema.specs.Conforms.{is_set, is_dictionary, IsMeaning, matches_defined, matches_within}
use Rattle.ps_schema.specs.declared.Definition.{Definition}
use Rattle.ps_check.specs.Laws.{HasMeaning, OneMeaning}

-- ---- tests

both_and : (a b c d : Bool) → a ≡ b → c ≡ d → (a && c) ≡ (b && d)
both_and a b c d e f = λ i. e i && f i

both_or : (a b c d : Bool) → a ≡ b → c ≡ d → (a || c) ≡ (b || d)
both_or a b c d e f = λ i. e i || f i

both_if : (t a b c d : Bool) → a ≡ b → c ≡ d → (if t then a else c) ≡ (if t then b else d)
both_if t a b c d e f = λ i. if t then e i else f i

first_holds : (a b : Bool) → a ≡ true → (a || b) ≡ true
first_holds true b e = refl
first_holds false b e = absurd cc

second_holds : (a b : Bool) → b ≡ true → (a || b) ≡ true
second_holds true b e = refl
second_holds false b e = e

-- ---- nodes

pub one_node : (v : Plain) → 1 ≤ node_count v
one_node (boolean b) = omega arith
one_node v = omega arith

-- ---- tests that agree on all values of fewer nodes

abbrev Same : (Plain → Bool) → (Plain → Bool) → ℕ → Type 0
Same f g n = (x : Plain) → node_count x < n → f x ≡ g x

embeds_agree : (f g : Plain → Bool) (v : Plain) → Same f g (node_count v) → is_embedded f v ≡ is_embedded g v
embeds_agree f g (embedded x) h = h x (omega arith)
embeds_agree f g v h = refl

record_agrees : (f g : Plain → Bool) (d e : Plains → Bool) (v : Plain) → Same f g (node_count v)
    → ((xs : Plains) → node_counts xs + 1 < node_count v → d xs ≡ e xs) → is_record f d v ≡ is_record g e v
record_agrees f g d e (record_of l fs) h k =
    both_and (f l) (g l) (d fs) (e fs) (h l (omega arith)) (k fs (omega (arith, one_node l)))
record_agrees f g d e v h k = refl

abbrev SameItems : (Plains → Bool) → (Plains → Bool) → ℕ → Type 0
SameItems f g n = (xs : Plains) → node_counts xs < n → f xs ≡ g xs

sequence_agrees : (f g : Plains → Bool) (v : Plain) → SameItems f g (node_count v) → is_sequence f v ≡ is_sequence g v
sequence_agrees f g (sequence xs) h = h xs (omega arith)
sequence_agrees f g v h = refl

set_agrees : (f g : Plains → Bool) (v : Plain) → SameItems f g (node_count v) → is_set f v ≡ is_set g v
set_agrees f g (set_of xs) h = h xs (omega arith)
set_agrees f g v h = refl

dictionary_agrees : (f g : PlainPairs → Bool) (v : Plain)
    → ((ps : PlainPairs) → pair_node_counts ps < node_count v → f ps ≡ g ps) → is_dictionary f v ≡ is_dictionary g v
dictionary_agrees f g (dictionary ps) h = h ps (omega arith)
dictionary_agrees f g v h = refl

all_agree : (f g : Plain → Bool) (n : ℕ) → Same f g n → SameItems (are_all f) (are_all g) n
all_agree f g n h no_more l = refl
all_agree f g n h (then_more x xs) l =
    both_and (f x) (g x) (are_all f xs) (are_all g xs) (h x (omega (arith, l))) (all_agree f g n h xs (omega
    (arith, l)))

pairs_agree : (f g d e : Plain → Bool) (n : ℕ) → Same f g n → Same d e n → (ps : PlainPairs)
    → pair_node_counts ps < n → are_all_pairs f d ps ≡ are_all_pairs g e ps
pairs_agree f g d e n h k no_pairs l = refl
pairs_agree f g d e n h k (then_pair a b ps) l =
    both_and (f a && d b) (g a && e b) (are_all_pairs f d ps) (are_all_pairs g e ps)
    (both_and (f a) (g a) (d b) (e b) (h a (omega (arith, l))) (k b (omega (arith, l))))
    (pairs_agree f g d e n h k ps (omega (arith, l)))

have_agrees : (key : Plain) (f g : Plain → Bool) (n : ℕ) → Same f g n → (ps : PlainPairs)
    → pair_node_counts ps < n → have key f ps ≡ have key g ps
have_agrees key f g n h no_pairs l = refl
have_agrees key f g n h (then_pair a b ps) l =
    both_if (is_value key a) (f b) (g b) (have key f ps) (have key g ps) (h b (omega (arith, l)))
    (have_agrees key f g n h ps (omega (arith, l)))

-- ---- patterns

abbrev Meaning : Type 0
Meaning = List ℕ → Plain → Bool

-- both mean the same at values of fewer nodes
abbrev Below : Meaning → Meaning → ℕ → Type 0
Below m o n = (b : List ℕ) (u : Plain) → node_count u < n → m b u ≡ o b u

below_less : (m o : Meaning) (k n : ℕ) → k < n → Below m o n → Below m o k
below_less m o k n h s = λ b u l. s b u (omega (arith, h, l))

mutual
  agree : (m o : Meaning) (p : PlainPattern) (v : Plain) → ((b : List ℕ) → asks p b ≡ true → m b v ≡ o b v)
      → Below m o (node_count v) → matches m p v ≡ matches o p v
  agree m o any_value v f s = refl
  agree m o (of_kind k) v f s = refl
  agree m o (literal w) v f s = refl
  agree m o (reference a) v f s = f a (its_own_name a)
  agree m o (embedded_as p) v f s =
      embeds_agree (matches m p) (matches o p) v (λ x h. agree m o p x (λ b e. s b x h) (below_less m o
      (node_count x) (node_count v) h s))
  agree m o (record_with l ps) v f s =
      record_agrees (is_value l) (is_value l) (begin_with m ps are_none) (begin_with o ps are_none) v (λ x h. refl)
      (λ xs h. begins_agree m o ps are_none are_none (node_count v) s (λ ys k. refl) xs (omega (arith, h)))
  agree m o (record_of_both p q) v f s =
      record_agrees (matches m p) (matches o p) (λ xs. matches m q (sequence xs)) (λ xs. matches o q (sequence xs)) v
      (λ x h. agree m o p x (λ b e. s b x h) (below_less m o (node_count x) (node_count v) h s))
      (λ xs h. let l : node_count (sequence xs) < node_count v = omega (arith, h) in
      agree m o q (sequence xs) (λ b e. s b (sequence xs) l) (below_less m o (node_count (sequence xs))
      (node_count v) l s))
  agree m o (tuple ps) v f s =
      sequence_agrees (begin_with m ps are_none) (begin_with o ps are_none) v
      (begins_agree m o ps are_none are_none (node_count v) s (λ ys k. refl))
  agree m o (tuple_with_rest ps q) v f s =
      sequence_agrees (begin_with m ps (are_all (matches m q))) (begin_with o ps (are_all (matches o q))) v
      (begins_agree m o ps (are_all (matches m q)) (are_all (matches o q)) (node_count v) s
      (all_agree (matches m q) (matches o q) (node_count v) (λ x h. agree m o q x (λ b e. s b x h) (below_less m o
      (node_count x) (node_count v) h s))))
  agree m o (set_of_all p) v f s =
      set_agrees (are_all (matches m p)) (are_all (matches o p)) v
      (all_agree (matches m p) (matches o p) (node_count v) (λ x h. agree m o p x (λ b e. s b x h) (below_less m o
      (node_count x) (node_count v) h s)))
  agree m o (dictionary_of_all p q) v f s =
      dictionary_agrees (are_all_pairs (matches m p) (matches m q)) (are_all_pairs (matches o p) (matches o q)) v
      (pairs_agree (matches m p) (matches o p) (matches m q) (matches o q) (node_count v)
      (λ x h. agree m o p x (λ b e. s b x h) (below_less m o (node_count x) (node_count v) h s))
      (λ x h. agree m o q x (λ b e. s b x h) (below_less m o (node_count x) (node_count v) h s)))
  agree m o (dictionary_with fs) v f s =
      dictionary_agrees (have_all m fs) (have_all o fs) v (fields_agree m o fs (node_count v) s)
  agree m o (one_of ps) v f s = one_agrees m o ps v f s
  agree m o (all_of ps) v f s = each_agrees m o ps v f s

  begins_agree : (m o : Meaning) (ps : PlainPatterns) (d e : Plains → Bool) (n : ℕ) → Below m o n → SameItems d e n
      → SameItems (begin_with m ps d) (begin_with o ps e) n
  begins_agree m o no_patterns d e n s k xs l = k xs l
  begins_agree m o (then_pattern p ps) d e n s k no_more l = refl
  begins_agree m o (then_pattern p ps) d e n s k (then_more x xs) l =
      both_and (matches m p x) (matches o p x) (begin_with m ps d xs) (begin_with o ps e xs)
      (let h : node_count x < n = omega (arith, l) in
      agree m o p x (λ b e. s b x h) (below_less m o (node_count x) n h s)) (begins_agree m o ps d e n s k xs (omega
      (arith, l)))

  fields_agree : (m o : Meaning) (fs : PlainFields) (n : ℕ) → Below m o n → (ps : PlainPairs)
      → pair_node_counts ps < n → have_all m fs ps ≡ have_all o fs ps
  fields_agree m o no_fields n s ps l = refl
  fields_agree m o (then_field k p fs) n s ps l =
      both_and (have k (matches m p) ps) (have k (matches o p) ps) (have_all m fs ps) (have_all o fs ps)
      (have_agrees k (matches m p) (matches o p) n (λ x h. agree m o p x (λ b e. s b x h) (below_less m o
      (node_count x) n h s)) ps l) (fields_agree m o fs n s ps l)

  one_agrees : (m o : Meaning) (ps : PlainPatterns) (v : Plain)
      → ((b : List ℕ) → one_asks ps b ≡ true → m b v ≡ o b v) → Below m o (node_count v)
      → matches_one m ps v ≡ matches_one o ps v
  one_agrees m o no_patterns v f s = refl
  one_agrees m o (then_pattern p ps) v f s =
      both_or (matches m p v) (matches o p v) (matches_one m ps v) (matches_one o ps v)
      (agree m o p v (λ b e. f b (first_holds (asks p b) (one_asks ps b) e)) s)
      (one_agrees m o ps v (λ b e. f b (second_holds (asks p b) (one_asks ps b) e)) s)

  each_agrees : (m o : Meaning) (ps : PlainPatterns) (v : Plain)
      → ((b : List ℕ) → one_asks ps b ≡ true → m b v ≡ o b v) → Below m o (node_count v)
      → matches_each m ps v ≡ matches_each o ps v
  each_agrees m o no_patterns v f s = refl
  each_agrees m o (then_pattern p ps) v f s =
      both_and (matches m p v) (matches o p v) (matches_each m ps v) (matches_each o ps v)
      (agree m o p v (λ b e. f b (first_holds (asks p b) (one_asks ps b) e)) s)
      (each_agrees m o ps v (λ b e. f b (second_holds (asks p b) (one_asks ps b) e)) s)

-- ---- names

-- what a pattern asks for ends as it does, and each pattern ends within one name more than there are
asked_ends : (ds : List Definition) (k : ℕ) (p : PlainPattern) (a : List ℕ) → EndsWithin ds k p → asks p a ≡ true
    → EndsWithin ds k (reference a)
asked_ends ds zero p a h e = absurd (h a e)
asked_ends ds (suc k) p a h e = λ b q t u. h b q (ap (asks p) (sym (same_name a b t)) ∙ e) u

each_ends : (ds : List Definition) → IsSchema ds → (p : PlainPattern) → EndsWithin ds (suc (length ds)) p
each_ends ds s p = λ a q e u. ways_end ds s a q u

same_defined : (m o : Meaning) (v : Plain) (x : Option PlainPattern)
    → ((q : PlainPattern) → x ≡ Some q → matches m q v ≡ matches o q v)
    → matches_defined m x v ≡ matches_defined o x v
same_defined m o v None h = refl
same_defined m o v (Some q) h = h q refl

same_at : (ds : List Definition) (m o : Meaning) → IsMeaning ds m → IsMeaning ds o → (k : ℕ) (p : PlainPattern)
    (v : Plain) → EndsWithin ds k p → Below m o (node_count v) → matches m p v ≡ matches o p v
same_at ds m o hm ho zero p v h s = agree m o p v (λ b e. absurd (h b e)) s
same_at ds m o hm ho (suc k) p v h s =
    agree m o p v
    (λ b e. hm b v
    ∙ same_defined m o v (pattern_under ds b) (λ q u. same_at ds m o hm ho k q v (h b q e u) s)
    ∙ sym (ho b v))
    s

same_below : (ds : List Definition) → IsSchema ds → (m o : Meaning) → IsMeaning ds m → IsMeaning ds o → (n : ℕ)
    → Below m o n
same_below ds s m o hm ho zero = λ b u l. absurd (omega (arith, l))
same_below ds s m o hm ho (suc n) = λ b u l.
    same_at ds m o hm ho (suc (length ds)) (reference b) u (each_ends ds s (reference b))
    (λ c t k. same_below ds s m o hm ho n c t (omega (arith, k, l)))

-- ---- enough names

-- at values of fewer nodes it doesn't matter how many names may stand behind one another
abbrev Stable : List Definition → ℕ → Type 0
Stable ds n = (i j : ℕ) → suc (length ds) * n ≤ i → suc (length ds) * n ≤ j
    → Below (matches_within ds i) (matches_within ds j) n

stable_at : (ds : List Definition) (k : ℕ) (p : PlainPattern) (v : Plain) (i j : ℕ) → EndsWithin ds k p
    → suc (length ds) * node_count v + k ≤ i → suc (length ds) * node_count v + k ≤ j → Stable ds (node_count v)
    → matches (matches_within ds i) p v ≡ matches (matches_within ds j) p v
stable_at ds zero p v i j h a b s =
    agree (matches_within ds i) (matches_within ds j) p v (λ b e. absurd (h b e))
    (s i j (omega (arith, a)) (omega (arith, b)))
stable_at ds (suc k) p v zero j h a b s = absurd (omega (arith, a))
stable_at ds (suc k) p v (suc i) zero h a b s = absurd (omega (arith, b))
stable_at ds (suc k) p v (suc i) (suc j) h a b s =
    agree (matches_within ds (suc i)) (matches_within ds (suc j)) p v
    (λ c e. same_defined (matches_within ds i) (matches_within ds j) v (pattern_under ds c)
    (λ q u. stable_at ds k q v i j (h c q e u) (omega (arith, a)) (omega (arith, b)) s))
    (s (suc i) (suc j) (omega (arith, a)) (omega (arith, b)))

stable : (ds : List Definition) → IsSchema ds → (t n : ℕ) → n ≤ t → Stable ds n
stable ds s zero n h = λ i j a b c u l. absurd (omega (arith, h, l))
stable ds s (suc t) n h = λ i j a b c u l.
    let m : suc (length ds) * (node_count u + 1) ≤ suc (length ds) * n =
    mul-le-mul_left (suc (length ds)) (omega (arith, l)) in
    stable_at ds (suc (length ds)) (reference c) u i j (each_ends ds s (reference c))
    (omega (arith, a, m)) (omega (arith, b, m)) (stable ds s t (node_count u) (omega (arith, h, l)))

-- ---- the laws

enough : (ds : List Definition) → IsSchema ds → (a : List ℕ) (v : Plain) (k i j : ℕ)
    → EndsWithin ds k (reference a) → suc (length ds) * node_count v + k ≤ i
    → suc (length ds) * node_count v + k ≤ j → matches_within ds i a v ≡ matches_within ds j a v
enough ds s a v k i j h b c =
    stable_at ds k (reference a) v i j h b c (stable ds s (node_count v) (node_count v) (omega arith))

pub has_meaning : HasMeaning
unfolding conforms
has_meaning ds s a v =
    ap (λ (n : ℕ). matches_within ds n a v) more ∙ by (pattern_under ds a) refl
  where
    steps : ℕ
    steps = suc (length ds) * node_count v + length ds

    more : suc (node_count v) * suc (length ds) ≡ suc steps
    more = omega arith

    by : (x : Option PlainPattern) → pattern_under ds a ≡ x
        → matches_defined (matches_within ds steps) x v ≡ matches_defined (conforms ds) x v
    by None u = refl
    by (Some q) u =
        agree (matches_within ds steps) (conforms ds) q v
        (λ b e. enough ds s b v (length ds) steps (suc (node_count v) * suc (length ds))
        (asked_ends ds (length ds) q b (ways_end ds s a q u) e) (omega arith) (omega arith))
        (λ b t l. let m : suc (length ds) * (node_count t + 1) ≤ suc (length ds) * node_count v =
        mul-le-mul_left (suc (length ds)) (omega (arith, l)) in
        enough ds s b t (suc (length ds)) steps (suc (node_count t) * suc (length ds))
        (each_ends ds s (reference b)) (omega (arith, m)) (omega arith))

pub one_meaning : OneMeaning
one_meaning ds s named h a v =
    same_below ds s named (conforms ds) h (has_meaning ds s) (suc (node_count v)) a v (omega arith)
