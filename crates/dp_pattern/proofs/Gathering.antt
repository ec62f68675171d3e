-- What is gathered of a value that matches is what is captured, and as many values as there are binds.
use Rattle.std.proofs.Common.{◌≡◌, ◌+◌, suc, List, [], ◌∷◌, ◌++◌, length, length-append, true}
use Rattle.std.proofs.Common.{Option, Some, None}
use Rattle.std.proofs.Common.{is_some, option_map, option_and_then, unwrap_or, refl, ap, ◌∙◌}
use Rattle.pv_value.specs.Plain.{Plain}
use Rattle.dp_pattern.specs.Patterns.{Group, Pattern, discard, bind, literal, group, Fields, no_fields, then_field}
use Rattle.pv_words.specs.Parts.{same, both}
use Rattle.dp_pattern.specs.Matching.{is_of, part_of, matched, matched_fields}
use Rattle.dp_pattern.specs.Gathered.{gathered, gathered_fields}
use Rattle.pv_words.specs.Lemmas.Found.{If, if_cond, if_map, if_both, found_is, counted_is}
use Rattle.dp_pattern.specs.Laws.{binds, field_binds, CapturesAreBinds}

abbrev Gathers : Pattern → Plain → List Plain → Type 0
Gathers p v cs = cs ≡ gathered p v

if_part : (p : Pattern) (Q : List Plain → Type 0) (R : List Plain → Type 0) (o : Option Plain) (n : Option (List Plain))
    → ((w : Plain) → If (matched p w) (Gathers p w)) → If n Q
    → ((ds es : List Plain) → ds ≡ unwrap_or (option_map (gathered p) o) [] → Q es → R (ds ++ es))
    → If (both (option_and_then (matched p) o) n) R
if_part p Q R None n h b f = tt
if_part p Q R (Some w) n h b f = if_both (Gathers p w) Q R (matched p w) n f (h w) b

mutual
  matched_gathered : (p : Pattern) (v : Plain) → If (matched p v) (λ cs. cs ≡ gathered p v)
  matched_gathered discard v = refl
  matched_gathered (bind p) v =
      if_map (λ ds. v ∷ ds) (Gathers p v) (λ cs. cs ≡ v ∷ gathered p v) (matched p v) (λ ds e. ap (λ xs. v ∷ xs) e)
      (matched_gathered p v)
  matched_gathered (literal u) v = if_cond (λ cs. cs ≡ []) (same u v) (Some []) None refl tt
  matched_gathered (group g fs) v =
      if_cond (λ cs. cs ≡ gathered_fields g fs v) (is_of g v) (matched_fields g fs v) None
      (fields_gathered g fs v) tt

  fields_gathered : (g : Group) (fs : Fields) (v : Plain)
      → If (matched_fields g fs v) (λ cs. cs ≡ gathered_fields g fs v)
  fields_gathered g no_fields v = refl
  fields_gathered g (then_field k p fs) v =
      if_part p (λ cs. cs ≡ gathered_fields g fs v)
      (λ cs. cs ≡ unwrap_or (option_map (gathered p) (part_of g v k)) [] ++ gathered_fields g fs v)
      (part_of g v k) (matched_fields g fs v) (λ w. matched_gathered p w) (fields_gathered g fs v)
      (λ ds es a b. λ i. a i ++ b i)

pub found_gathered : (p : Pattern) (v : Plain) → is_some (matched p v) ≡ true → Some (gathered p v) ≡ matched p v
found_gathered p v = found_is (matched p v) (gathered p v) (matched_gathered p v)

-- ---- binds

abbrev Counts : Pattern → List Plain → Type 0
Counts p cs = length cs ≡ binds p

if_counted : (p : Pattern) (fs : Fields) (o : Option Plain) (n : Option (List Plain))
    → ((w : Plain) → If (matched p w) (Counts p)) → If n (λ cs. length cs ≡ field_binds fs)
    → If (both (option_and_then (matched p) o) n) (λ cs. length cs ≡ binds p + field_binds fs)
if_counted p fs None n h b = tt
if_counted p fs (Some w) n h b =
    if_both (Counts p) (λ cs. length cs ≡ field_binds fs) (λ cs. length cs ≡ binds p + field_binds fs) (matched p w) n
    (λ ds es a b. length-append ds es ∙ (λ i. a i + b i)) (h w) b

mutual
  matched_binds : (p : Pattern) (v : Plain) → If (matched p v) (λ cs. length cs ≡ binds p)
  matched_binds discard v = refl
  matched_binds (bind p) v =
      if_map (λ ds. v ∷ ds) (Counts p) (λ cs. length cs ≡ suc (binds p)) (matched p v) (λ ds e. ap suc e)
      (matched_binds p v)
  matched_binds (literal u) v = if_cond (λ cs. length cs ≡ 0) (same u v) (Some []) None refl tt
  matched_binds (group g fs) v =
      if_cond (λ cs. length cs ≡ field_binds fs) (is_of g v) (matched_fields g fs v) None
      (matched_field_binds g fs v) tt

  matched_field_binds : (g : Group) (fs : Fields) (v : Plain)
      → If (matched_fields g fs v) (λ cs. length cs ≡ field_binds fs)
  matched_field_binds g no_fields v = refl
  matched_field_binds g (then_field k p fs) v =
      if_counted p fs (part_of g v k) (matched_fields g fs v) (λ w. matched_binds p w) (matched_field_binds g fs v)

pub captures_binds : CapturesAreBinds
captures_binds p v cs = counted_is (matched p v) (binds p) cs (matched_binds p v)
