-- The parts of a pattern say what the pattern says.
use Rattle.std.proofs.Common.{◌≡◌, ◌↔◌, Bool, true, false, cond, ◌&&◌, List, [], ◌∷◌, ◌++◌, map}
use Rattle.std.proofs.Common.{Option, Some, None, option_map, option_and_then, refl, sym, ap, ◌∙◌, subst}
use Rattle.std.specs.List.{list_all}
use Rattle.std.specs.declared.cmp.Ordering.{Ordering}
use Rattle.std.specs.declared.cmp.Ordering.TheVariants.{Less, Equal, Greater}
use Rattle.std.specs.Ordering.{is_eq, ordering_then}
use Rattle.std.proofs.lemmas.List.Folds.{list_all-append}
use Rattle.pv_value.specs.Plain.{Plain, record_of, sequence, dictionary, plains}
use Rattle.pv_value.specs.Order.{order, orders}
use Rattle.pv_words.specs.Parts.{same, both}
use Rattle.dp_pattern.specs.declared.Group.{Group}
use Rattle.dp_pattern.specs.declared.Group.TheVariants.{InRecord, InSequence, InDictionary}
use Rattle.dp_pattern.specs.Patterns.{Pattern, discard, bind, literal, group}
use Rattle.dp_pattern.specs.Patterns.{Fields, no_fields, then_field}
use Rattle.dp_pattern.specs.Matching.{is_of, part_of, matched, matched_fields}
use Rattle.ds_shape.specs.Paths.{Step, part_by, part_at, with_first, parts_at, sequence_at}
use Rattle.ds_shape.specs.Outlines.{Test, Outline, is_there, passes}
use Rattle.ds_shape.specs.Splitting.{Constant, step_of, test_under, constant_under, tests, field_tests}
use Rattle.ds_shape.specs.Splitting.{constants, field_constants, captures, field_captures, outline_of, constants_of}
use Rattle.ds_shape.specs.Standing.{is_found, captured_by, Says}
use Rattle.ds_shape.specs.Lemmas.Orders.{plains_same}
use Rattle.pv_words.specs.Lemmas.Same.{same_is, same_self}
use Rattle.ds_shape.specs.Lemmas.Parts.{first_map, parts_append, parts_under}

abbrev pub has : Plain → Constant → Bool
has v c = is_found c.value (part_at c.path v)

-- what the parts say, constant by constant
abbrev pub said : List Test → List Constant → List (List Step) → Plain → Option (List Plain)
said ts cs ps v =
    cond {A = Option (List Plain)} (list_all (passes v) ts && list_all (has v) cs) (parts_at ps v) None

-- ---- the steps to a group's parts

step_is : (g : Group) (v k : Plain) → part_by (step_of g k) v ≡ part_of g v k
step_is (InRecord label e) (record_of l fs) k = refl
step_is (InSequence e) (sequence xs) k = refl
step_is InDictionary (dictionary ps) k = refl
step_is g v k = refl

-- ---- what is under a step is what is of the part there

tests_at : (s : Step) (v w : Plain) (ts : List Test) → part_by s v ≡ Some w
    → list_all (passes v) (map (test_under (s ∷ [])) ts) ≡ list_all (passes w) ts
tests_at s v w [] e = refl
tests_at s v w (t ∷ ts) e =
    ap
    (λ o. is_there t.kind (option_and_then (part_at t.path) o)
    && list_all (passes v) (map (test_under (s ∷ [])) ts)) e
    ∙ ap (λ b. passes w t && b) (tests_at s v w ts e)

constants_at : (s : Step) (v w : Plain) (cs : List Constant) → part_by s v ≡ Some w
    → list_all (has v) (map (constant_under (s ∷ [])) cs) ≡ list_all (has w) cs
constants_at s v w [] e = refl
constants_at s v w (c ∷ cs) e =
    ap
    (λ o. is_found c.value (option_and_then (part_at c.path) o)
    && list_all (has v) (map (constant_under (s ∷ [])) cs)) e
    ∙ ap (λ b. has w c && b) (constants_at s v w cs e)

-- a part that is missing matches nothing
abbrev said_under : Step → Pattern → Plain → Option (List Plain)
said_under s p v =
    said (map (test_under (s ∷ [])) (tests p)) (map (constant_under (s ∷ [])) (constants p))
    (map (λ path. s ∷ path) (captures p)) v

cond_none : (b : Bool) → cond {A = Option (List Plain)} b None None ≡ None
cond_none true = refl
cond_none false = refl

missing : (s : Step) (v : Plain) (p : Pattern) → part_by s v ≡ None → said_under s p v ≡ None
missing s v discard e = rw e refl
missing s v (bind p) e = rw e (cond_none _)
missing s v (literal u) e = rw e refl
missing s v (group g fs) e = rw e refl

under : (s : Step) (v w : Plain) (p : Pattern) → part_by s v ≡ Some w
    → said (tests p) (constants p) (captures p) w ≡ said_under s p v
under s v w p e =
    sym
    (ap
    (λ b. cond {A = Option (List Plain)} (b && list_all (has v) (map (constant_under (s ∷ [])) (constants p)))
    (parts_at (map (λ path. s ∷ path) (captures p)) v) None) (tests_at s v w (tests p) e)
    ∙ ap
    (λ b. cond {A = Option (List Plain)} (list_all (passes w) (tests p) && b)
    (parts_at (map (λ path. s ∷ path) (captures p)) v) None) (constants_at s v w (constants p) e)
    ∙ ap
    (λ o. cond {A = Option (List Plain)} (list_all (passes w) (tests p) && list_all (has w) (constants p)) o None)
    (parts_under s v w (captures p) e))

part_says : (s : Step) (v : Plain) (p : Pattern) (o : Option Plain) → part_by s v ≡ o
    → ((w : Plain) → matched p w ≡ said (tests p) (constants p) (captures p) w)
    → option_and_then (matched p) o ≡ said_under s p v
part_says s v p None e h = sym (missing s v p e)
part_says s v p (Some w) e h = h w ∙ under s v w p e

-- ---- one part and the others

both_none : (x : Option (List Plain)) → both x None ≡ None
both_none None = refl
both_none (Some xs) = refl

four : (a b d e : Bool) (x y : Option (List Plain))
    → both (cond {A = Option (List Plain)} (a && b) x None) (cond {A = Option (List Plain)} (d && e) y None)
    ≡ cond {A = Option (List Plain)} ((a && d) && (b && e)) (both x y) None
four true true true true x y = refl
four true true true false x y = both_none x
four true true false e x y = both_none x
four true false true e x y = refl
four true false false e x y = refl
four false b d e x y = refl

two_parts : (ts us : List Test) (cs ds : List Constant) (ps qs : List (List Step)) (v : Plain)
    → both (said ts cs ps v) (said us ds qs v) ≡ said (ts ++ us) (cs ++ ds) (ps ++ qs) v
two_parts ts us cs ds ps qs v =
    four (list_all (passes v) ts) (list_all (has v) cs) (list_all (passes v) us) (list_all (has v) ds) (parts_at ps v)
    (parts_at qs v)
    ∙ (λ i. cond {A = Option (List Plain)}
    (sym (list_all-append (passes v) ts us) i && sym (list_all-append (has v) cs ds) i)
    (sym (parts_append ps qs v) i) None)

bound : (b : Bool) (v : Plain) (x : Option (List Plain))
    → option_map (λ cs. v ∷ cs) (cond {A = Option (List Plain)} b x None)
    ≡ cond {A = Option (List Plain)} b (with_first (Some v) x) None
bound true v x = first_map v x
bound false v x = refl

lone : (b : Bool)
    → cond {A = Option (List Plain)} b (Some []) None
    ≡ cond {A = Option (List Plain)} (true && (b && true)) (Some []) None
lone true = refl
lone false = refl

grouped : (b t c : Bool) (x : Option (List Plain))
    → cond {A = Option (List Plain)} b (cond {A = Option (List Plain)} (t && c) x None) None
    ≡ cond {A = Option (List Plain)} ((b && t) && c) x None
grouped true t c x = refl
grouped false t c x = refl

mutual
  matched_said : (p : Pattern) (v : Plain) → matched p v ≡ said (tests p) (constants p) (captures p) v
  matched_said discard v = refl
  matched_said (bind p) v =
      ap (option_map (λ cs. v ∷ cs)) (matched_said p v)
      ∙ bound (list_all (passes v) (tests p) && list_all (has v) (constants p)) v (parts_at (captures p) v)
  matched_said (literal u) v = lone (same u v)
  matched_said (group g fs) v =
      ap (λ o. cond {A = Option (List Plain)} (is_of g v) o None) (fields_said g fs v)
      ∙ grouped (is_of g v) (list_all (passes v) (field_tests g fs)) (list_all (has v) (field_constants g fs))
      (parts_at (field_captures g fs) v)

  fields_said : (g : Group) (fs : Fields) (v : Plain)
      → matched_fields g fs v ≡ said (field_tests g fs) (field_constants g fs) (field_captures g fs) v
  fields_said g no_fields v = refl
  fields_said g (then_field k p fs) v =
      ap (λ o. both o (matched_fields g fs v))
      (part_says (step_of g k) v p (part_of g v k) (step_is g v k) (matched_said p))
      ∙ ap (both (said_under (step_of g k) p v)) (fields_said g fs v)
      ∙ two_parts (map (test_under (step_of g k ∷ [])) (tests p)) (field_tests g fs)
      (map (constant_under (step_of g k ∷ [])) (constants p)) (field_constants g fs)
      (map (λ path. step_of g k ∷ path) (captures p)) (field_captures g fs) v

-- ---- the constants as one value

both_equal : (r s : Ordering) → is_eq (ordering_then r s) ≡ (is_eq r && is_eq s)
both_equal Less s = refl
both_equal Equal s = refl
both_equal Greater s = refl

abbrev listed : List Plain → Option (List Plain) → Bool
listed ks o = is_found (sequence (plains ks)) (option_map (λ xs. sequence (plains xs)) o)

and_false : (b : Bool) → (b && false) ≡ false
and_false true = refl
and_false false = refl

one_more : (k : Plain) (ks : List Plain) (o : Option Plain) (a : Option (List Plain))
    → (is_found k o && listed ks a) ≡ listed (k ∷ ks) (with_first o a)
one_more k ks None a = refl
one_more k ks (Some x) None = and_false (same k x)
one_more k ks (Some x) (Some xs) = sym (both_equal (order k x) (orders (plains ks) (plains xs)))

constants_as_one : (cs : List Constant) (v : Plain)
    → list_all (has v) cs ≡ listed (map (λ c. c.value) cs) (parts_at (map (λ c. c.path) cs) v)
constants_as_one [] v = refl
constants_as_one (c ∷ cs) v =
    ap (λ b. has v c && b) (constants_as_one cs v)
    ∙ one_more c.value (map (λ c. c.value) cs) (part_at c.path v) (parts_at (map (λ c. c.path) cs) v)

pub matched_captured : (p : Pattern) (v : Plain) → matched p v ≡ captured_by (outline_of p) (constants_of p) v
matched_captured p v =
    matched_said p v
    ∙ ap
    (λ b. cond {A = Option (List Plain)} (list_all (passes v) (tests p) && b) (parts_at (captures p) v) None)
    (constants_as_one (constants p) v)

-- ---- the same as a relation

found_is : (k : Plain) (o : Option Plain) → is_found k o ≡ true → o ≡ Some k
found_is k None e = cc
found_is k (Some x) e = ap Some (sym (same_is k x e))

some_is : (a : Option (List Plain)) (cs : List Plain)
    → option_map (λ xs. sequence (plains xs)) a ≡ Some (sequence (plains cs)) → a ≡ Some cs
some_is None cs e = absurd cc
some_is (Some xs) cs e =
    let one : sequence (plains xs) ≡ sequence (plains cs) = cc in
    ap Some (plains_same xs cs one)

captured_parts : (t c : Bool) (a : Option (List Plain)) (cs : List Plain)
    → cond {A = Option (List Plain)} (t && c) a None ≡ Some cs → (t ≡ true) × (c ≡ true) × (a ≡ Some cs)
captured_parts true true a cs e = (refl, refl, e)
captured_parts true false a cs e = absurd cc
captured_parts false c a cs e = absurd cc

pub captured_says : (o : Outline) (k v : Plain) (cs : List Plain) → captured_by o k v ≡ Some cs → Says o k v cs
captured_says o k v cs e =
    let h =
    captured_parts (list_all (passes v) o.tests) (is_found k (sequence_at o.constants v)) (parts_at o.captures v) cs e
    in
    record {
      tests = h.0;
      constants = found_is k (sequence_at o.constants v) h.1;
      captures = ap (option_map (λ xs. sequence (plains xs))) h.2;
    }

pub says_captured : (o : Outline) (k v : Plain) (cs : List Plain) → Says o k v cs → captured_by o k v ≡ Some cs
says_captured o k v cs h =
    (λ i. cond {A = Option (List Plain)} (h.tests i && is_found k (h.constants i)) (parts_at o.captures v) None)
    ∙ ap (λ b. cond {A = Option (List Plain)} b (parts_at o.captures v) None) (same_self k)
    ∙ some_is (parts_at o.captures v) cs h.captures

pub matched_says : (p : Pattern) (v : Plain) (cs : List Plain)
    → (matched p v ≡ Some cs) ↔ Says (outline_of p) (constants_of p) v cs
matched_says p v cs = (
  λ e. captured_says (outline_of p) (constants_of p) v cs (sym (matched_captured p v) ∙ e),
  λ h. matched_captured p v ∙ says_captured (outline_of p) (constants_of p) v cs h,
)

-- ---- patterns of one outline

some_same : {A : Type 0} (x y : A) → Some x ≡ Some y → x ≡ y
some_same x y e = cc

pub tell : (p q : Pattern) (v : Plain) (cs ds : List Plain) → outline_of p ≡ outline_of q → matched p v ≡ Some cs
    → (matched q v ≡ Some ds) ↔ ((constants_of p ≡ constants_of q) × (cs ≡ ds))
tell p q v cs ds o e =
    let h = (matched_says p v cs).0 e in
    let moved : Says (outline_of q) (constants_of p) v cs = subst (λ o. Says o (constants_of p) v cs) o h in (
      λ f.
          let g = (matched_says q v ds).0 f in (
            some_same (constants_of p) (constants_of q) (sym moved.constants ∙ g.constants),
            plains_same cs ds (some_same _ _ (sym moved.captures ∙ g.captures)),
          ),
      λ s.
          (matched_says q v ds).1
          (subst (λ xs. Says (outline_of q) (constants_of q) v xs) s.1
          (subst (λ k. Says (outline_of q) k v cs) s.0 moved)),
    )
