-- Records of words, by how many fields they have, and groups by their keys.
use Rattle.std.proofs.Common.{◌≡◌, suc, ◌+◌, ◌<◌, ◌≤◌, ℕ, List, [], ◌∷◌, ◌++◌, length, get_or, Bool, true, false, ◌&&◌}
use Rattle.std.proofs.Common.{Option, Some, None, option_map, map, drop, refl, sym, ap, ◌∙◌, arith}
use Rattle.std.proofs.lemmas.List.{at_drop_more}
use Rattle.pv_value.specs.View.{key_and_value}
use Rattle.pv_value.specs.declared.Entry.{Entry}
use Rattle.pv_value.specs.Plain.{Plain, plains, pairs, PlainPairs, no_pairs, then_pair}
use Rattle.pv_words.specs.Words.{labelled, number}
use Rattle.dp_pattern.specs.Patterns.{Extent, Group, InRecord, InSequence, InDictionary, Pattern, group}
use Rattle.dp_pattern.specs.Patterns.{Fields, no_fields, then_field}
use Rattle.dp_pattern.specs.Written.{is_place, are_places, group_of, grouped, with_field, pattern_of, fields_in}
use Rattle.dp_pattern.specs.Written.{places_in, keys_fit, items_from, count_of}
use Rattle.dp_pattern.specs.View.{listed_fields}
use Rattle.dp_pattern.specs.declared.Field.{Field}

pub pattern_long : (s : List ℕ) (fs : List Plain) → 3 ≤ length fs → pattern_of (labelled s fs) ≡ None
pattern_long s [] h = absurd (omega arith)
pattern_long s (x ∷ []) h = absurd (omega arith)
pattern_long s (x ∷ y ∷ []) h = absurd (omega arith)
pattern_long s (x ∷ y ∷ z ∷ zs) h = refl

pub group_long : (s : List ℕ) (fs : List Plain) → 2 ≤ length fs → group_of (labelled s fs) ≡ None
group_long s [] h = absurd (omega arith)
group_long s (x ∷ []) h = absurd (omega arith)
group_long s (x ∷ y ∷ ys) h = refl

pub one_item : (xs : List Plain) (x : Plain) → length xs ≡ 1 → x ≡ get_or xs 0 x → xs ≡ x ∷ []
one_item [] x h e = absurd (omega arith)
one_item (y ∷ []) x h e = ap (λ z. z ∷ []) (sym e)
one_item (y ∷ z ∷ zs) x h e = absurd (omega arith)

pub two_items : (xs : List Plain) (x y : Plain) → length xs ≡ 2 → x ≡ get_or xs 0 x → y ≡ get_or xs 1 y → xs ≡ x ∷ y
    ∷ []
two_items [] x y h d e = absurd (omega arith)
two_items (v ∷ []) x y h d e = absurd (omega arith)
two_items (v ∷ w ∷ []) x y h d e = λ i. sym d i ∷ sym e i ∷ []
two_items (u ∷ v ∷ w ∷ ws) x y h d e = absurd (omega arith)

-- ---- fields, those first that were read

abbrev pub before : List Field → Option Fields → Option Fields
before [] r = r
before (f ∷ fs) r = with_field f.key (Some f.pattern) (before fs r)

pub before_push : (fs : List Field) (f : Field) (r : Option Fields)
    → before (fs ++ f ∷ []) r ≡ before fs (with_field f.key (Some f.pattern) r)
before_push [] f r = refl
before_push (g ∷ gs) f r = ap (with_field g.key (Some g.pattern)) (before_push gs f r)

pub before_none : (fs : List Field) → before fs None ≡ None
before_none [] = refl
before_none (g ∷ gs) = ap (with_field g.key (Some g.pattern)) (before_none gs)

pub before_all : (fs : List Field) → before fs (Some no_fields) ≡ Some (listed_fields fs)
before_all [] = refl
before_all (g ∷ gs) = ap (with_field g.key (Some g.pattern)) (before_all gs)

pub fields_drop : (es : List Entry) (i : ℕ) (e : Entry) → i < length es → e ≡ get_or es i e
    → fields_in (pairs (map key_and_value (drop i es)))
    ≡ with_field e.key (pattern_of e.value) (fields_in (pairs (map key_and_value (drop (i + 1) es))))
fields_drop es i e h is =
    at_drop_more (λ (es : List Entry). fields_in (pairs (map key_and_value es))) es i e h ∙ rw (← is) refl

pub places_drop : (xs : List Plain) (n i : ℕ) (x : Plain) → i < length xs → x ≡ get_or xs i x
    → items_from n (plains (drop i xs))
    ≡ with_field (number n) (pattern_of x) (items_from (suc n) (plains (drop (i + 1) xs)))
places_drop xs n i x h is =
    at_drop_more (λ (ys : List Plain). items_from n (plains ys)) xs i x h ∙ rw (← is) refl

pub one_longer : {T : Type 0} (xs : List T) (x : T) → length (xs ++ x ∷ []) ≡ suc (length xs)
one_longer [] x = refl
one_longer (y ∷ ys) x = ap suc (one_longer ys x)

pub counted : (fs : List Field) → count_of (listed_fields fs) ≡ length fs
counted [] = refl
counted (f ∷ fs) = ap suc (counted fs)

-- ---- the keys of fields

places_by : (k : Plain) (o : Option Pattern) (gs : Option Fields) (ps : PlainPairs) (fs : Fields)
    → ((hs : Fields) → gs ≡ Some hs → are_places hs ≡ places_in ps) → with_field k o gs ≡ Some fs
    → are_places fs ≡ (is_place k && places_in ps)
places_by k None gs ps fs f e = cc
places_by k (Some p) None ps fs f e = cc
places_by k (Some p) (Some hs) ps no_fields f e = cc
places_by k (Some p) (Some hs) ps (then_field l q gs) f e =
    let a : k ≡ l = cc in
    let b : hs ≡ gs = cc in
    rw (a, ← b, f hs refl)

places_of : (ps : PlainPairs) (fs : Fields) → fields_in ps ≡ Some fs → are_places fs ≡ places_in ps
places_of no_pairs no_fields e = refl
places_of no_pairs (then_field k p fs) e = cc
places_of (then_pair k v ps) fs e = places_by k (pattern_of v) (fields_in ps) ps fs (places_of ps) e

fit_by : (g : Group) (fs : Option Fields) (b : Bool) → ((hs : Fields) → fs ≡ Some hs → are_places hs ≡ b) → b ≡ true
    → grouped (Some g) fs ≡ option_map (group g) fs
fit_by InDictionary None b f e = refl
fit_by (InSequence x) None b f e = refl
fit_by (InRecord label x) None b f e = refl
fit_by InDictionary (Some hs) b f e = refl
fit_by (InSequence x) (Some hs) b f e = rw (f hs refl ∙ e)
fit_by (InRecord label x) (Some hs) b f e = rw (f hs refl ∙ e)

any_fit : (fs : Option Fields) → grouped (Some InDictionary) fs ≡ option_map (group InDictionary) fs
any_fit None = refl
any_fit (Some hs) = refl

pub grouped_fit : (g : Group) (ps : PlainPairs) → keys_fit g ps ≡ true
    → grouped (Some g) (fields_in ps) ≡ option_map (group g) (fields_in ps)
grouped_fit InDictionary ps e = any_fit (fields_in ps)
grouped_fit (InSequence x) ps e = fit_by (InSequence x) (fields_in ps) (places_in ps) (places_of ps) e
grouped_fit (InRecord label x) ps e = fit_by (InRecord label x) (fields_in ps) (places_in ps) (places_of ps) e

sequence_misfits : (x : Extent) (fs : Option Fields) (b : Bool)
    → ((hs : Fields) → fs ≡ Some hs → are_places hs ≡ b) → b ≡ false → None ≡ grouped (Some (InSequence x)) fs
sequence_misfits x None b f e = refl
sequence_misfits x (Some hs) b f e = rw (f hs refl ∙ e)

record_misfits : (l : Plain) (x : Extent) (fs : Option Fields) (b : Bool)
    → ((hs : Fields) → fs ≡ Some hs → are_places hs ≡ b) → b ≡ false → None ≡ grouped (Some (InRecord l x)) fs
record_misfits l x None b f e = refl
record_misfits l x (Some hs) b f e = rw (f hs refl ∙ e)

pub grouped_misfit : (g : Group) (ps : PlainPairs) → keys_fit g ps ≡ false → None ≡ grouped (Some g) (fields_in ps)
grouped_misfit InDictionary ps e = cc
grouped_misfit (InSequence x) ps e = sequence_misfits x (fields_in ps) (places_in ps) (places_of ps) e
grouped_misfit (InRecord label x) ps e = record_misfits label x (fields_in ps) (places_in ps) (places_of ps) e

pub grouped_none : (fs : Option Fields) → grouped None fs ≡ None
grouped_none fs = refl
