-- What lists of values write, by their ends and by how many they are.
use Rattle.std.proofs.Common.{◌≡◌, ◌+◌, ◌<◌, ◌≤◌, ℕ, List, [], ◌∷◌, ◌++◌, length, get_or, Bool, true, false}
use Rattle.std.proofs.Common.{Option, Some, None, option_map, option_and_then, codes, map, drop, refl, sym, ap}
use Rattle.std.proofs.Common.{◌∙◌, ◌≢◌, ◌==◌, arith, Result, Ok, Err, IfOk}
use Rattle.std.proofs.lemmas.Bool.Decides.{Decides-eqb}
use Rattle.ps_read.specs.Names.{equals_pattern}
use Rattle.std.proofs.lemmas.List.{at_drop_more}
use Rattle.std.proofs.lemmas.Slice.Eq.{bytes_eq-Decides}
use Rattle.pv_value.specs.Plain.{Plain, symbol}
use Rattle.pv_value.specs.Plain.{set_of, dictionary, plains}
use Rattle.pv_value.specs.Plain.{pairs}
use Rattle.pv_value.specs.View.{key_and_value}
use Rattle.pv_value.specs.declared.Entry.{Entry}
use Rattle.pv_value.specs.Lemmas.Measures.{measure, measure_all}
use Rattle.ps_schema.specs.Patterns.{PlainPattern, record_with, record_of_both, tuple, tuple_with_rest}
use Rattle.ps_schema.specs.Patterns.{dictionary_with, PlainPatterns, no_patterns, patterns, PlainFields}
use Rattle.ps_schema.specs.Patterns.{no_fields}
use Rattle.ps_schema.specs.View.{listed_fields}
use Rattle.ps_schema.specs.declared.Field.{Field}
use Rattle.ps_read.specs.Written.{is_sign, is_bare, both, both_of, in_front, with_field, with_rest, record_pattern}
use Rattle.ps_read.specs.Written.{is_and_others, before_items, first_item, pattern_of, patterns_of, items_of, fields_of}
use Rattle.ps_read.specs.Written.{open_items}

-- ---- measures of the ends of lists

pub measure_last : (xs : List Plain) (x : Plain)
    → measure_all (plains xs) + measure x < measure_all (plains (xs ++ x ∷ []))
measure_last [] x = omega arith
measure_last (y ∷ ys) x = omega (arith, measure_last ys x)

-- ---- patterns, those first that were read

abbrev pub before : List PlainPattern → Option PlainPatterns → Option PlainPatterns
before [] r = r
before (p ∷ ps) r = in_front (Some p) (before ps r)

pub before_push : (ps : List PlainPattern) (p : PlainPattern) (r : Option PlainPatterns)
    → before (ps ++ p ∷ []) r ≡ before ps (in_front (Some p) r)
before_push [] p r = refl
before_push (q ∷ qs) p r = ap (in_front (Some q)) (before_push qs p r)

pub before_none : (ps : List PlainPattern) → before ps None ≡ None
before_none [] = refl
before_none (q ∷ qs) = ap (in_front (Some q)) (before_none qs)

pub before_all : (ps : List PlainPattern) → before ps (Some no_patterns) ≡ Some (patterns ps)
before_all [] = refl
before_all (q ∷ qs) = ap (in_front (Some q)) (before_all qs)

pub patterns_drop : (xs : List Plain) (i : ℕ) (x : Plain) → i < length xs → x ≡ get_or xs i x
    → patterns_of (plains (drop i xs)) ≡ in_front (pattern_of x) (patterns_of (plains (drop (i + 1) xs)))
patterns_drop xs i x h is =
    at_drop_more (λ (ys : List Plain). patterns_of (plains ys)) xs i x h ∙ rw (← is) refl

-- ---- fields, those first that were read

abbrev pub fields_before : List Field → Option PlainFields → Option PlainFields
fields_before [] r = r
fields_before (f ∷ fs) r = with_field f.key (Some f.pattern) (fields_before fs r)

pub fields_before_push : (fs : List Field) (f : Field) (r : Option PlainFields)
    → fields_before (fs ++ f ∷ []) r ≡ fields_before fs (with_field f.key (Some f.pattern) r)
fields_before_push [] f r = refl
fields_before_push (g ∷ gs) f r = ap (with_field g.key (Some g.pattern)) (fields_before_push gs f r)

pub fields_before_none : (fs : List Field) → fields_before fs None ≡ None
fields_before_none [] = refl
fields_before_none (g ∷ gs) = ap (with_field g.key (Some g.pattern)) (fields_before_none gs)

pub fields_before_all : (fs : List Field) → fields_before fs (Some no_fields) ≡ Some (listed_fields fs)
fields_before_all [] = refl
fields_before_all (g ∷ gs) = ap (with_field g.key (Some g.pattern)) (fields_before_all gs)

pub fields_drop : (es : List Entry) (i : ℕ) (e : Entry) → i < length es → e ≡ get_or es i e
    → fields_of (pairs (map key_and_value (drop i es)))
    ≡ with_field e.key (pattern_of e.value) (fields_of (pairs (map key_and_value (drop (i + 1) es))))
fields_drop es i e h is =
    at_drop_more (λ (es : List Entry). fields_of (pairs (map key_and_value es))) es i e h ∙ rw (← is) refl

-- ---- items

tuple_before : (o : Option PlainPattern) (r : Option PlainPatterns)
    → before_items o (option_map tuple r) ≡ option_map tuple (in_front o r)
tuple_before None r = refl
tuple_before (Some p) None = refl
tuple_before (Some p) (Some ps) = refl

rest_before : (o : Option PlainPattern) (r : Option PlainPatterns) (q : Option PlainPattern)
    → before_items o (with_rest r q) ≡ with_rest (in_front o r) q
rest_before None r q = refl
rest_before (Some p) None q = refl
rest_before (Some p) (Some ps) None = refl
rest_before (Some p) (Some ps) (Some q) = refl

others_not : (xs : List Plain) (d : Plain) → is_sign (codes "...") d ≡ false
    → is_and_others (plains (xs ++ d ∷ [])) ≡ false
others_not [] d e = e
others_not (x ∷ []) d e = refl
others_not (x ∷ y ∷ ys) d e = refl

others_more : (x : Plain) (xs : List Plain) (d : Plain) → is_and_others (plains ((x ∷ xs) ++ d ∷ [])) ≡ false
others_more x [] d = refl
others_more x (y ∷ ys) d = refl

first_closed : (b : Bool) (o q : Option PlainPattern) → b ≡ false → first_item b o q ≡ before_items o q
first_closed true o q e = absurd cc
first_closed false o q e = refl

first_open : (b : Bool) (o q : Option PlainPattern) → b ≡ true
    → first_item b o q ≡ option_map (tuple_with_rest no_patterns) o
first_open true o q e = refl
first_open false o q e = absurd cc

-- the last one isn't `...`
pub items_closed : (xs : List Plain) (d : Plain) → is_sign (codes "...") d ≡ false
    → items_of (plains (xs ++ d ∷ [])) ≡ option_map tuple (patterns_of (plains (xs ++ d ∷ [])))
items_closed [] d e = tuple_before (pattern_of d) (Some no_patterns)
items_closed (x ∷ xs) d e =
    first_closed (is_and_others (plains (xs ++ d ∷ []))) (pattern_of x) (items_of (plains (xs ++ d ∷ [])))
    (others_not xs d e)
    ∙ ap (before_items (pattern_of x)) (items_closed xs d e)
    ∙ tuple_before (pattern_of x) (patterns_of (plains (xs ++ d ∷ [])))

dots_alone : (d : Plain) → is_sign (codes "...") d ≡ true → pattern_of d ≡ None
dots_alone (symbol s) e =
    let same : s ≡ codes "..." = (bytes_eq-Decides s (codes "...")).0 e in
    ap (λ (t : List ℕ). pattern_of (symbol t)) same
dots_alone v e = absurd cc

-- the last one is `...`
pub items_open : (xs : List Plain) (d : Plain) → is_sign (codes "...") d ≡ true
    → items_of (plains (xs ++ d ∷ [])) ≡ open_items (plains xs)
items_open [] d e = ap (λ (o : Option PlainPattern). before_items o (Some (tuple no_patterns))) (dots_alone d e)
items_open (x ∷ []) d e =
    first_open (is_and_others (plains (d ∷ []))) (pattern_of x) (items_of (plains (d ∷ []))) e
items_open (x ∷ y ∷ ys) d e =
    first_closed (is_and_others (plains ((y ∷ ys) ++ d ∷ []))) (pattern_of x)
    (items_of (plains ((y ∷ ys) ++ d ∷ []))) (others_more y ys d)
    ∙ ap (before_items (pattern_of x)) (items_open (y ∷ ys) d e)

pub open_is : (xs : List Plain) (q : Plain)
    → open_items (plains (xs ++ q ∷ [])) ≡ with_rest (patterns_of (plains xs)) (pattern_of q)
open_is [] q = alone (pattern_of q)
  where
    alone : (o : Option PlainPattern)
        → option_map (tuple_with_rest no_patterns) o ≡ with_rest (Some no_patterns) o
    alone None = refl
    alone (Some p) = refl
open_is (x ∷ []) q =
    ap (before_items (pattern_of x)) (open_is [] q)
    ∙ rest_before (pattern_of x) (Some no_patterns) (pattern_of q)
open_is (x ∷ y ∷ ys) q =
    ap (before_items (pattern_of x)) (open_is (y ∷ ys) q)
    ∙ rest_before (pattern_of x) (patterns_of (plains (y ∷ ys))) (pattern_of q)

-- ---- records and dictionaries

pub two_is_both : (o q : Option PlainPattern)
    → both record_of_both o q ≡ option_and_then both_of (in_front o (in_front q (Some no_patterns)))
two_is_both None q = refl
two_is_both (Some p) None = refl
two_is_both (Some p) (Some q) = refl

pub record_long : (l : Plain) (fs : List Plain) (ps : Option PlainPatterns) → 3 ≤ length fs
    → record_pattern l (plains fs) ps ≡ option_map (record_with l) ps
record_long l [] ps h = absurd (omega arith)
record_long l (x ∷ []) ps h = absurd (omega arith)
record_long l (x ∷ y ∷ []) ps h = absurd (omega arith)
record_long l (x ∷ y ∷ z ∷ zs) ps h = refl

pub set_long : (xs : List Plain) → 2 ≤ length xs → pattern_of (set_of (plains xs)) ≡ None
set_long [] h = absurd (omega arith)
set_long (x ∷ []) h = absurd (omega arith)
set_long (x ∷ y ∷ ys) h = refl

pub dictionary_long : (es : List Entry) → 3 ≤ length es
    → pattern_of (dictionary (pairs (map key_and_value es)))
    ≡ option_map dictionary_with (fields_of (pairs (map key_and_value es)))
dictionary_long [] h = absurd (omega arith)
dictionary_long (x ∷ []) h = absurd (omega arith)
dictionary_long (x ∷ y ∷ []) h = absurd (omega arith)
dictionary_long (x ∷ y ∷ z ∷ zs) h = refl

pub dictionary_one : (es : List Entry) → length es < 2 → 1 ≤ length es
    → pattern_of (dictionary (pairs (map key_and_value es)))
    ≡ option_map dictionary_with (fields_of (pairs (map key_and_value es)))
dictionary_one [] h k = absurd (omega arith)
dictionary_one (x ∷ []) h k = refl
dictionary_one (x ∷ y ∷ ys) h k = absurd (omega arith)

-- ---- lists of one or two

pub one_item : (xs : List Plain) (x : Plain) → 1 ≤ length xs → length xs < 2 → x ≡ get_or xs 0 x → xs ≡ x ∷ []
one_item [] x h k e = absurd (omega arith)
one_item (y ∷ []) x h k e = ap (λ z. z ∷ []) (sym e)
one_item (y ∷ z ∷ zs) x h k e = absurd (omega arith)

pub two_items : (xs : List Plain) (x y : Plain) → 2 ≤ length xs → length xs < 3 → x ≡ get_or xs 0 x
    → y ≡ get_or xs 1 y → xs ≡ x ∷ y ∷ []
two_items [] x y h k d e = absurd (omega arith)
two_items (v ∷ []) x y h k d e = absurd (omega arith)
two_items (v ∷ w ∷ []) x y h k d e = λ i. sym d i ∷ sym e i ∷ []
two_items (u ∷ v ∷ w ∷ ws) x y h k d e = absurd (omega arith)

pub record_two : (l x y : Plain) → is_bare (codes "rec") l ≡ true
    → both record_of_both (pattern_of x) (pattern_of y)
    ≡ record_pattern l (plains (x ∷ y ∷ [])) (patterns_of (plains (x ∷ y ∷ [])))
record_two l x y b = rw b (two_is_both (pattern_of x) (pattern_of y))

-- ---- answers

pub map_both : {A B C : Type 0} (o : Option A) (g : A → B) (f : B → C)
    → option_map (λ a. f (g a)) o ≡ option_map f (option_map g o)
map_both None g f = refl
map_both (Some a) g f = refl

pub ok_is : {T E : Type 0} (r : Result T E) (a b : T) → a ≡ b → IfOk r (λ p. p ≡ a) → IfOk r (λ p. p ≡ b)
ok_is (Ok x) a b e h = h ∙ e
ok_is (Err m) a b e h = tt

-- ---- symbols

pub no_equals : (s : List ℕ) → ((rest : List ℕ) → s ≢ 61 ∷ rest) → equals_pattern s ≡ None
no_equals [] n = refl
no_equals (c ∷ cs) n = by (c == 61) refl
  where
    by : (b : Bool) → (c == 61) ≡ b → equals_pattern (c ∷ cs) ≡ None
    by true e = absurd (n cs (ap (λ (d : ℕ). d ∷ cs) ((Decides-eqb c 61).0 e)))
    by false e = rw e refl
