-- What is reckoned of a template is the weight and the depth of what it gives.
use Rattle.std.proofs.Common.{◌≡◌, ℕ, zero, suc, ◌+◌, ◌≤◌, max, List, [], ◌∷◌, ◌++◌, length, Bool}
use Rattle.std.proofs.Common.{true, false}
use Rattle.std.proofs.Common.{Option, Some, None, option_map, option_and_then, cond, ◌==◌, ◌&&◌, leb, refl, sym, ap}
use Rattle.std.proofs.Common.{◌∙◌, arith}
use Rattle.std.specs.Prelude.{slice_get}
use Rattle.std.proofs.lemmas.Bool.Decides.{nat_tests}
use Rattle.pv_value.specs.Plain.{Plain, record_of, sequence}
use Rattle.pv_value.specs.Plain.{dictionary, embedded, Plains, no_more, then_more, plains, listed}
use Rattle.pv_value.specs.Weight.{weight, size_with, sizes_with, pair_sizes_with}
use Rattle.pv_value.specs.Depth.{depth, deepest, deepest_pair}
use Rattle.sr_caveat.specs.Patterns.{Template, attenuate, binding, constant, record_from, sequence_from, dictionary_of}
use Rattle.sr_caveat.specs.Patterns.{Templates, no_templates, then_template, Caveat, Caveats, caveats, listed_caveats}
use Rattle.sr_caveat.specs.Patterns.{no_caveats, then_caveat}
use Rattle.sr_caveat.specs.Spelled.{caveat_values, paired_with}
use Rattle.sr_caveat.specs.Limits.{value_weight, value_depth}
use Rattle.sr_caveat.specs.Caps.{cap_of, cap_value, attenuated}
use Rattle.sr_caveat.specs.declared.caps.Cap.{Cap}
use Rattle.sr_caveat.specs.Lemmas.Capped.{cap_is}
use Rattle.sr_weight.specs.Lemmas.Appended.{appended_weight}
use Rattle.sr_pass.specs.Filling.{is_reference, if_reference, reference_with, dictionary_under, with_first, filled}
use Rattle.sr_pass.specs.Filling.{all_filled}
use Rattle.sr_pass.specs.Passing.{fits, if_fits}
use Rattle.pv_words.specs.Lemmas.Found.{If}
use Rattle.std.proofs.Common.{◌<◌, get_or}
use Rattle.sr_pass.specs.Sizes.{weight_at, depth_at, filled_weight, filled_weights, filled_depth, filled_depths}

-- the numbers are those of a value, of a list
abbrev Sized : ℕ → ℕ → Plain → Type 0
Sized w d v = (w ≡ size_with 48 v) × (d ≡ depth v)

abbrev AllSized : ℕ → ℕ → Plains → Type 0
AllSized w d xs = (w ≡ sizes_with 48 xs) × (d ≡ deepest xs)

-- ---- bindings and compounds

binding_sized : (bs : List Plain) (n : ℕ) → If (slice_get bs n) (Sized (weight_at bs n) (depth_at bs n))
unfolding weight
binding_sized [] n = tt
binding_sized (b ∷ bs) zero = (refl, refl)
binding_sized (b ∷ bs) (suc n) = binding_sized bs n

constant_sized : (v : Plain) → Sized (weight v) (depth v) v
unfolding weight
constant_sized v = (refl, refl)

record_sized : (l : Plain) (w d : ℕ) (o : Option (List Plain)) → If o (λ xs. AllSized w d (plains xs))
    → If (option_map (λ xs. record_of l (plains xs)) o) (Sized (50 + weight l + w) (suc (max (depth l) d)))
unfolding weight
record_sized l w d None h = tt
record_sized l w d (Some xs) h =
    let hw = h.0 in let hd = h.1 in
    (omega arith, omega arith)

sequence_sized : (w d : ℕ) (o : Option (List Plain)) → If o (λ xs. AllSized w d (plains xs))
    → If (option_map (λ xs. sequence (plains xs)) o) (Sized (50 + w) (suc d))
sequence_sized w d None h = tt
sequence_sized w d (Some xs) h =
    let hw = h.0 in let hd = h.1 in
    (omega arith, omega arith)

paired_weight : (ks : Plains) (xs : List Plain) → length (listed ks) ≡ length xs
    → pair_sizes_with 48 (paired_with ks (plains xs)) ≡ sizes_with 48 ks + sizes_with 48 (plains xs)
paired_weight no_more [] e = refl
paired_weight no_more (x ∷ xs) e = absurd (omega arith)
paired_weight (then_more k ks) [] e = absurd (omega arith)
paired_weight (then_more k ks) (x ∷ xs) e = omega (arith, paired_weight ks xs (omega arith))

paired_depth : (ks : Plains) (xs : List Plain) → length (listed ks) ≡ length xs
    → deepest_pair (paired_with ks (plains xs)) ≡ max (deepest ks) (deepest (plains xs))
paired_depth no_more [] e = refl
paired_depth no_more (x ∷ xs) e = absurd (omega arith)
paired_depth (then_more k ks) [] e = absurd (omega arith)
paired_depth (then_more k ks) (x ∷ xs) e = omega (arith, paired_depth ks xs (omega arith))

dictionary_sized : (ks : Plains) (w d : ℕ) (o : Option (List Plain)) → If o (λ xs. AllSized w d (plains xs))
    → If (option_and_then (dictionary_under ks) o) (Sized (50 + sizes_with 48 ks + w) (suc (max (deepest ks) d)))
dictionary_sized ks w d None h = tt
dictionary_sized ks w d (Some xs) h = by (length (listed ks) == length xs) refl
  where
    by : (b : Bool) → (length (listed ks) == length xs) ≡ b
        → If (cond {A = Option Plain} b (Some (dictionary (paired_with ks (plains xs)))) None)
        (Sized (50 + sizes_with 48 ks + w) (suc (max (deepest ks) d)))
    by false e = tt
    by true e =
        let n : length (listed ks) ≡ length xs = grind (arith, nat_tests) in
        let pw = paired_weight ks xs n in let pd = paired_depth ks xs n in
        let hw = h.0 in let hd = h.1 in
        (omega arith, omega arith)

-- ---- references

appended_depth : (cs ds : List Caveat)
    → deepest (caveat_values (caveats (cs ++ ds)))
    ≡ max (deepest (caveat_values (caveats cs))) (deepest (caveat_values (caveats ds)))
appended_depth [] ds = omega arith
appended_depth (c ∷ cs) ds = omega (arith, appended_depth cs ds)

caveats_back : (cs : Caveats) → caveats (listed_caveats cs) ≡ cs
caveats_back no_caveats = refl
caveats_back (then_caveat c cs) = ap (then_caveat c) (caveats_back cs)

kept_sized : (w d : ℕ) (b : Bool) (v : Plain) → Sized w d v → If (cond {A = Option Plain} b (Some v) None) (Sized w d)
kept_sized w d true v h = h
kept_sized w d false v h = tt

attenuated_sized : (w d : ℕ) (cs : List Caveat) (c : Cap) → Sized w d (embedded (cap_value c))
    → Sized (w + sizes_with 48 (caveat_values (caveats cs))) (max d (suc (suc (deepest (caveat_values (caveats cs))))))
    (embedded (cap_value (attenuated cs c)))
attenuated_sized w d cs c h =
    let aw = appended_weight c.caveats cs in let ad = appended_depth c.caveats cs in
    let hw = h.0 in let hd = h.1 in
    (omega arith, omega arith)

inside_sized : (w d : ℕ) (cs : List Caveat) (x : Plain) (o : Option Cap) → ((c : Cap) → o ≡ Some c → x ≡ cap_value c)
    → Sized w d (embedded x)
    → If (option_and_then (λ c. if_reference (attenuated cs c)) o)
    (Sized (w + sizes_with 48 (caveat_values (caveats cs))) (max d (suc (suc (deepest (caveat_values (caveats cs)))))))
inside_sized w d cs x None is h = tt
inside_sized w d cs x (Some c) is h =
    let e : x ≡ cap_value c = is c refl in
    kept_sized (w + sizes_with 48 (caveat_values (caveats cs)))
    (max d (suc (suc (deepest (caveat_values (caveats cs))))))
    (is_reference (attenuated cs c)) (embedded (cap_value (attenuated cs c)))
    (attenuated_sized w d cs c (rw e at h))

reference_sized : (w d : ℕ) (cs : List Caveat) (o : Option Plain) → If o (Sized w d)
    → If (option_and_then (reference_with cs) o)
    (Sized (w + sizes_with 48 (caveat_values (caveats cs))) (max d (suc (suc (deepest (caveat_values (caveats cs)))))))
reference_sized w d cs None h = tt
reference_sized w d cs (Some (embedded x)) h = inside_sized w d cs x (cap_of x) (λ c e. cap_is x c e) h
reference_sized w d cs (Some v) h = tt

-- ---- templates

first_sized : (v w d e : ℕ) (o : Option Plain) (r : Option (List Plain)) → If o (Sized v d)
    → If r (λ xs. AllSized w e (plains xs)) → If (with_first o r) (λ xs. AllSized (v + w) (max d e) (plains xs))
first_sized v w d e None r h k = tt
first_sized v w d e (Some x) None h k = tt
first_sized v w d e (Some x) (Some xs) h k =
    let hw = h.0 in let hd = h.1 in let kw = k.0 in let kd = k.1 in
    (omega arith, omega arith)

mutual
  pub sized : (t : Template) (bs : List Plain)
      → If (filled t bs) (Sized (filled_weight t bs) (filled_depth t bs))
  sized (attenuate t cs) bs = by (listed_caveats cs) (caveats_back cs) (filled t bs) (sized t bs)
    where
      by : (ds : List Caveat) → caveats ds ≡ cs → (o : Option Plain)
          → If o (Sized (filled_weight t bs) (filled_depth t bs))
          → If (option_and_then (reference_with ds) o)
          (Sized (filled_weight t bs + sizes_with 48 (caveat_values cs))
          (max (filled_depth t bs) (suc (suc (deepest (caveat_values cs))))))
      by ds is o h =
          rw (← is) (reference_sized (filled_weight t bs) (filled_depth t bs) ds o h)
  sized (binding n) bs = binding_sized bs n
  sized (constant v) bs = constant_sized v
  sized (record_from l ts) bs =
      record_sized l (filled_weights ts bs) (filled_depths ts bs) (all_filled ts bs) (all_sized ts bs)
  sized (sequence_from ts) bs =
      sequence_sized (filled_weights ts bs) (filled_depths ts bs) (all_filled ts bs) (all_sized ts bs)
  sized (dictionary_of ks ts) bs =
      dictionary_sized ks (filled_weights ts bs) (filled_depths ts bs) (all_filled ts bs)
      (all_sized ts bs)

  pub all_sized : (ts : Templates) (bs : List Plain)
      → If (all_filled ts bs) (λ xs. AllSized (filled_weights ts bs) (filled_depths ts bs)
      (plains xs))
  all_sized no_templates bs = (refl, refl)
  all_sized (then_template t ts) bs =
      first_sized (filled_weight t bs) (filled_weights ts bs) (filled_depth t bs)
      (filled_depths ts bs) (filled t bs) (all_filled ts bs) (sized t bs) (all_sized ts bs)

-- ---- what is too large is not made, and what is made fits

by_size : (v : Plain) (w d : ℕ) → Sized w d v → (leb w value_weight && leb d value_depth) ≡ fits v
unfolding weight
by_size v w d h = λ i. leb (h.0 i) value_weight && leb (h.1 i) value_depth

pub made_fits : (t : Template) (bs : List Plain)
    → (leb (filled_weight t bs) value_weight && leb (filled_depth t bs) value_depth) ≡ true
    → filled t bs ≡ option_and_then if_fits (filled t bs)
made_fits t bs small = by (filled t bs) (sized t bs)
  where
    by : (o : Option Plain) → If o (Sized (filled_weight t bs) (filled_depth t bs)) → o ≡ option_and_then if_fits o
    by None h = refl
    by (Some v) h =
        let e : fits v ≡ true = sym (by_size v (filled_weight t bs) (filled_depth t bs) h) ∙ small in
        ap (λ b. cond {A = Option Plain} b (Some v) None) (sym e)

pub large_refused : (t : Template) (bs : List Plain)
    → (leb (filled_weight t bs) value_weight && leb (filled_depth t bs) value_depth) ≡ false
    → None ≡ option_and_then if_fits (filled t bs)
large_refused t bs large = by (filled t bs) (sized t bs)
  where
    by : (o : Option Plain) → If o (Sized (filled_weight t bs) (filled_depth t bs))
        → None ≡ option_and_then if_fits o
    by None h = refl
    by (Some v) h =
        let e : fits v ≡ false = sym (by_size v (filled_weight t bs) (filled_depth t bs) h) ∙ large in
        ap (λ b. cond {A = Option Plain} b (Some v) None) (sym e)

-- ---- what stands at a place

pub there_sized : (bs : List Plain) (n : ℕ) (b : Plain) → n < length bs → b ≡ get_or bs n b
    → (weight_at bs n ≡ weight b) × (depth_at bs n ≡ depth b)
there_sized [] n b h e = absurd (omega arith)
there_sized (a ∷ rest) zero b h e = (ap weight (sym e), ap depth (sym e))
there_sized (a ∷ rest) (suc n) b h e = there_sized rest n b (omega arith) e

pub none_sized : (bs : List Plain) (n : ℕ) → length bs ≤ n → (weight_at bs n ≡ 0) × (depth_at bs n ≡ 0)
none_sized [] n h = (refl, refl)
none_sized (a ∷ rest) zero h = absurd (omega arith)
none_sized (a ∷ rest) (suc n) h = none_sized rest n (omega arith)
