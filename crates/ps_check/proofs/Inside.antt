-- What is inside of what is held against a pattern has fewer nodes, and is what the table of patterns looks at.
use Rattle.std.proofs.Common.{◌≡◌, ℕ, zero, suc, ◌+◌, ◌<◌, ◌≤◌, Bool, true, false, ◌&&◌, List, [], ◌∷◌, length, map}
use Rattle.std.proofs.Common.{Some, None, refl, ap, arith, get_or}
use Rattle.std.specs.Prelude.{if◌then◌else◌}
use Rattle.pv_value.specs.Plain.{Plain, record_of, sequence}
use Rattle.pv_value.specs.Plain.{set_of, dictionary, embedded, Plains, PlainPairs, no_pairs}
use Rattle.pv_value.specs.Plain.{then_pair, plains, pairs}
use Rattle.pv_value.specs.Weight.{node_count, node_counts, pair_node_counts}
use Rattle.pv_value.specs.View.{key_and_value}
use Rattle.pv_value.specs.declared.Entry.{Entry}
use Rattle.pv_words.specs.Parts.{value_under}
use Rattle.ps_schema.specs.Conforms.{is_value, is_embedded, is_record, is_sequence, is_set, is_dictionary, have}
use Rattle.ps_check.specs.Subjects.{inside_of, label_of, fields_of, fields_under, items_of, elements_of, entries_of}
use Rattle.ps_check.specs.Subjects.{held}
use Rattle.ps_check.specs.Subjects.{counted, items_counted, entries_counted}
use Rattle.ps_check.proofs.Meanings.{one_node}

-- ---- fewer nodes

pub inside_fewer : (v : Plain) → counted (inside_of v) < node_count v
inside_fewer (embedded x) = omega arith
inside_fewer v = omega (arith, one_node v)

pub label_fewer : (v : Plain) → counted (label_of v) < node_count v
label_fewer (record_of l fs) = omega arith
label_fewer v = omega (arith, one_node v)

pub fields_fewer : (v : Plain) → counted (fields_of v) < node_count v
fields_fewer (record_of l fs) = omega (arith, one_node l)
fields_fewer v = omega (arith, one_node v)

under_fewer : (b : Bool) (fs : Plains) → items_counted (if b then Some fs else None) ≤ node_counts fs
under_fewer true fs = omega arith
under_fewer false fs = omega arith

pub fields_under_fewer : (l v : Plain) → items_counted (fields_under l v) < node_count v
fields_under_fewer l (record_of m fs) = omega (arith, under_fewer (is_value l m) fs)
fields_under_fewer l v = omega (arith, one_node v)

pub items_fewer : (v : Plain) → items_counted (items_of v) < node_count v
items_fewer (sequence xs) = omega arith
items_fewer v = omega (arith, one_node v)

pub elements_fewer : (v : Plain) → items_counted (elements_of v) < node_count v
elements_fewer (set_of xs) = omega arith
elements_fewer v = omega (arith, one_node v)

pub entries_fewer : (v : Plain) → entries_counted (entries_of v) < node_count v
entries_fewer (dictionary ps) = omega arith
entries_fewer v = omega (arith, one_node v)

-- ---- in lists

pub item_fewer : (xs : List Plain) (i : ℕ) (x : Plain) → i < length xs → x ≡ get_or xs i x
    → node_count x ≤ node_counts (plains xs)
item_fewer [] i x h e = absurd (omega arith)
item_fewer (y ∷ ys) zero x h e = omega (arith, ap node_count e)
item_fewer (y ∷ ys) (suc i) x h e = omega (arith, item_fewer ys i x (omega arith) e)

pub entry_fewer : (es : List Entry) (i : ℕ) (x : Entry) → i < length es → x ≡ get_or es i x
    → node_count x.key + node_count x.value ≤ pair_node_counts (pairs (map key_and_value es))
entry_fewer [] i x h e = absurd (omega arith)
entry_fewer (y ∷ ys) zero x h e =
    omega (arith, ap (λ (z : Entry). node_count z.key) e, ap (λ (z : Entry). node_count z.value) e)
entry_fewer (y ∷ ys) (suc i) x h e = omega (arith, entry_fewer ys i x (omega arith) e)

pub value_fewer : (ps : PlainPairs) (k : Plain) → counted (value_under ps k) ≤ pair_node_counts ps
value_fewer no_pairs k = omega arith
value_fewer (then_pair j v ps) k = by (is_value k j) (value_fewer ps k)
  where
    by : (b : Bool) → counted (value_under ps k) ≤ pair_node_counts ps
        → counted (if b then Some v else value_under ps k) ≤ node_count j + node_count v + pair_node_counts ps
    by true h = omega arith
    by false h = omega (arith, h)

-- ---- what the table looks at

pub embedded_is : (f : Plain → Bool) (v : Plain) → is_embedded f v ≡ held f (inside_of v)
embedded_is f (embedded x) = refl
embedded_is f v = refl

pub record_is : (l : Plain) (f : Plains → Bool) (v : Plain)
    → is_record (is_value l) f v ≡ held f (fields_under l v)
record_is l f (record_of m fs) = by (is_value l m)
  where
    by : (b : Bool) → (b && f fs) ≡ held f (if b then Some fs else None)
    by true = refl
    by false = refl
record_is l f v = refl

pub record_of_is : (f g : Plain → Bool) (v : Plain)
    → is_record f (λ xs. g (sequence xs)) v ≡ (held f (label_of v) && held g (fields_of v))
record_of_is f g (record_of l fs) = refl
record_of_is f g v = refl

pub sequence_is : (f : Plains → Bool) (v : Plain) → is_sequence f v ≡ held f (items_of v)
sequence_is f (sequence xs) = refl
sequence_is f v = refl

pub set_is : (f : Plains → Bool) (v : Plain) → is_set f v ≡ held f (elements_of v)
set_is f (set_of xs) = refl
set_is f v = refl

pub dictionary_is : (f : PlainPairs → Bool) (v : Plain) → is_dictionary f v ≡ held f (entries_of v)
dictionary_is f (dictionary ps) = refl
dictionary_is f v = refl

pub have_is : (k : Plain) (f : Plain → Bool) (ps : PlainPairs) → have k f ps ≡ held f (value_under ps k)
have_is k f no_pairs = refl
have_is k f (then_pair j v ps) = by (is_value k j) (have_is k f ps)
  where
    by : (b : Bool) → have k f ps ≡ held f (value_under ps k)
        → (if b then f v else have k f ps) ≡ held f (if b then Some v else value_under ps k)
    by true h = refl
    by false h = h
