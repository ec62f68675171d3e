-- What one field has, and then what the fields behind it have.
use Rattle.std.proofs.Common.{◌≡◌, ◌<◌, ◌+◌, ℕ, List, [], ◌∷◌, ◌++◌, length, get_or, map, drop, sym, ap, ◌∙◌}
use Rattle.std.proofs.lemmas.List.{at_drop_more, map-append}
use Rattle.dp_pattern.specs.declared.Field.{Field}
use Rattle.dp_pattern.specs.declared.Group.{Group}
use Rattle.dp_pattern.specs.View.{listed_fields}
use Rattle.ds_shape.specs.Paths.{Step}
use Rattle.ds_shape.specs.Splitting.{step_of, test_under, constant_under, tests, field_tests, constants}
use Rattle.ds_shape.specs.Splitting.{field_constants, captures, field_captures}
use Rattle.ds_shape.proofs.Under.{tests_further, constants_further, captures_further}

pub tests_of_field : (path : List Step) (g : Group) (fs : List Field) (i : ℕ) (f : Field) → i < length fs
    → f ≡ get_or fs i f
    → map (test_under path) (field_tests g (listed_fields (drop i fs)))
    ≡ map (test_under (path ++ step_of g f.key ∷ [])) (tests f.pattern)
    ++ map (test_under path) (field_tests g (listed_fields (drop (i + 1) fs)))
tests_of_field path g fs i f h is =
    let rest = field_tests g (listed_fields (drop (i + 1) fs)) in
    let s = step_of g f.key in
    at_drop_more (λ (xs : List Field). map (test_under path) (field_tests g (listed_fields xs))) fs i f h
    ∙ rw (← is) (map-append (test_under path) (map (test_under (s ∷ [])) (tests f.pattern)) rest)
    ∙ ap (λ ts. ts ++ map (test_under path) rest) (sym (tests_further path s (tests f.pattern)))

pub constants_of_field : (path : List Step) (g : Group) (fs : List Field) (i : ℕ) (f : Field) → i < length fs
    → f ≡ get_or fs i f
    → map (constant_under path) (field_constants g (listed_fields (drop i fs)))
    ≡ map (constant_under (path ++ step_of g f.key ∷ [])) (constants f.pattern)
    ++ map (constant_under path) (field_constants g (listed_fields (drop (i + 1) fs)))
constants_of_field path g fs i f h is =
    let rest = field_constants g (listed_fields (drop (i + 1) fs)) in
    let s = step_of g f.key in
    at_drop_more (λ (xs : List Field). map (constant_under path) (field_constants g (listed_fields xs))) fs i f h
    ∙ rw (← is) (map-append (constant_under path) (map (constant_under (s ∷ [])) (constants f.pattern)) rest)
    ∙ ap (λ cs. cs ++ map (constant_under path) rest) (sym (constants_further path s (constants f.pattern)))

pub captures_of_field : (path : List Step) (g : Group) (fs : List Field) (i : ℕ) (f : Field) → i < length fs
    → f ≡ get_or fs i f
    → map (λ p. path ++ p) (field_captures g (listed_fields (drop i fs)))
    ≡ map (λ p. (path ++ step_of g f.key ∷ []) ++ p) (captures f.pattern)
    ++ map (λ p. path ++ p) (field_captures g (listed_fields (drop (i + 1) fs)))
captures_of_field path g fs i f h is =
    let rest = field_captures g (listed_fields (drop (i + 1) fs)) in
    let s = step_of g f.key in
    at_drop_more (λ (xs : List Field). map (λ p. path ++ p) (field_captures g (listed_fields xs))) fs i f h
    ∙ rw (← is) (map-append (λ p. path ++ p) (map (λ p. s ∷ p) (captures f.pattern)) rest)
    ∙ ap (λ ps. ps ++ map (λ p. path ++ p) rest) (sym (captures_further path s (captures f.pattern)))
