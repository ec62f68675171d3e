-- What calls tell, in other words, and records of words by how many fields they have.
use Rattle.std.proofs.Common.{◌≡◌, ℕ, ◌<◌, ◌≤◌, get_or, List, [], ◌∷◌, length, Bool, Option, Some, None, option_map}
use Rattle.std.proofs.Common.{Result, Ok}
use Rattle.std.proofs.Common.{Err, IfOk, refl, ap, ◌∙◌, sym, arith}
use Rattle.pv_value.specs.Plain.{Plain, pairs, then_more}
use Rattle.pv_words.specs.Words.{labelled, HasNoWord}
use Rattle.pv_value.specs.Plain.{record_of, symbol}
use Rattle.pv_value.specs.View.{view_node}
use Rattle.pv_value.specs.declared.Node.{Node}
use Rattle.pv_value.specs.declared.Node.TheVariants.{Seq}
use Rattle.sr_caveat.specs.Patterns.{Template, Caveat, Rewrites, rewrite, one_of, reject, guard}
use Rattle.pv_value.specs.Plain.{sequence, plains}
use Rattle.sr_caveat.specs.Caps.{cap_read}
use Rattle.sr_caveat.specs.Patterns.{caveats, listed_caveats}
use Rattle.sr_caveat.specs.Written.{attenuated_by, caveats_of, with_rewrite, if_rewrite}
use Rattle.sr_caveat.specs.View.{keys_of}
use Rattle.sr_caveat.specs.Written.{keys_in, pattern_of, template_of, caveat_in}

pub keys_same : (ps : List (Plain × Plain)) → keys_of ps ≡ keys_in (pairs ps)
keys_same [] = refl
keys_same (p ∷ ps) = ap (then_more p.0) (keys_same ps)

pub pattern_long : (s : List ℕ) (fs : List Plain) → 3 ≤ length fs → None ≡ pattern_of (labelled s fs)
pattern_long s [] h = absurd (omega arith)
pattern_long s (x ∷ []) h = absurd (omega arith)
pattern_long s (x ∷ y ∷ []) h = absurd (omega arith)
pattern_long s (x ∷ y ∷ z ∷ zs) h = refl

pub template_long : (own : Bool) (n : ℕ) (s : List ℕ) (fs : List Plain) → 3 ≤ length fs
    → None ≡ template_of own n (labelled s fs)
template_long own n s [] h = absurd (omega arith)
template_long own n s (x ∷ []) h = absurd (omega arith)
template_long own n s (x ∷ y ∷ []) h = absurd (omega arith)
template_long own n s (x ∷ y ∷ z ∷ zs) h = refl

pub caveat_long : (own : Bool) (s : List ℕ) (fs : List Plain) → 3 ≤ length fs → None ≡ caveat_in own (labelled s fs)
caveat_long own s [] h = absurd (omega arith)
caveat_long own s (x ∷ []) h = absurd (omega arith)
caveat_long own s (x ∷ y ∷ []) h = absurd (omega arith)
caveat_long own s (x ∷ y ∷ z ∷ zs) h = refl

-- ---- what isn't of the form that is read

pub unworded_template : (own : Bool) (n : ℕ) (v : Plain) → HasNoWord v → None ≡ template_of own n v
unworded_template own n (record_of (symbol s) fs) h = absurd (h s fs refl)
unworded_template own n v h = refl

pub unworded_caveat : (own : Bool) (v : Plain) → HasNoWord v → None ≡ caveat_in own v
unworded_caveat own (record_of (symbol s) fs) h = absurd (h s fs refl)
unworded_caveat own v h = refl

pub not_listed : (own : Bool) (t : Option Template) (n : Node) → ((xs : List Plain) → n ≡ Seq xs → ⊥)
    → None ≡ attenuated_by t (caveats_of own (view_node n))
not_listed own None n h = refl
not_listed own (Some t) (Seq xs) h = absurd (h xs refl)
not_listed own (Some t) n h = refl

pub with_if_rewrite : (c : Option Caveat) (rs : Option Rewrites) → with_rewrite (if_rewrite c) rs ≡ with_rewrite c rs
with_if_rewrite None rs = refl
with_if_rewrite (Some (rewrite p t)) rs = refl
with_if_rewrite (Some (one_of ss)) rs = refl
with_if_rewrite (Some (reject p)) rs = refl
with_if_rewrite (Some (guard name)) rs = refl

-- ---- lists of one item and of two

pub one_item : (xs : List Plain) (x : Plain) → length xs ≡ 1 → x ≡ get_or xs 0 x → xs ≡ x ∷ []
one_item [] x h e = absurd (omega arith)
one_item (y ∷ []) x h e = ap (λ z. z ∷ []) (sym e)
one_item (y ∷ z ∷ zs) x h e = absurd (omega arith)

pub two_items : (xs : List Plain) (x y : Plain) → length xs ≡ 2 → x ≡ get_or xs 0 x → y ≡ get_or xs 1 y
    → xs ≡ x ∷ y ∷ []
two_items [] x y h d e = absurd (omega arith)
two_items (v ∷ []) x y h d e = absurd (omega arith)
two_items (v ∷ w ∷ []) x y h d e = λ i. sym d i ∷ sym e i ∷ []
two_items (u ∷ v ∷ w ∷ ws) x y h d e = absurd (omega arith)

pub short_cap : (xs : List Plain) → length xs < 2 → None ≡ cap_read (sequence (plains xs))
short_cap [] h = refl
short_cap (x ∷ []) h = refl
short_cap (x ∷ y ∷ ys) h = absurd (omega arith)
