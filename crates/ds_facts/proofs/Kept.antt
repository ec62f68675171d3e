-- What is kept once all entries of a value were told.
use Rattle.std.proofs.Common.{◌≡◌, List, [], ◌∷◌, Bool, true, false, not, ◌&&◌, ◌||◌, refl, ap, sym, ◌∙◌}
use Rattle.std.proofs.Common.{ℕ, zero, suc, ◌+◌, ◌<◌, ◌≤◌, length, get_or, drop, arith}
use Rattle.std.specs.List.{list_any}
use Rattle.std.proofs.lemmas.List.{at_drop_more}
use Rattle.pv_value.specs.Plain.{Plain}
use Rattle.pv_words.specs.Lemmas.Same.{same_is}
use Rattle.pv_words.specs.Parts.{same}
use Rattle.ds_space.specs.Changes.{among}
use Rattle.ds_space.specs.Lemmas.Keys.{same_turns}
use Rattle.ds_facts.specs.Atoms.{Entry, has_entry}
use Rattle.ds_facts.specs.Keeping.{Places, keeps}

-- ---- one entry more

pub put_more : (a s r w : Bool) → ((a || (s && w)) || (r && w)) ≡ (a || ((s || r) && w))
put_more true s r w = refl
put_more false true r true = refl
put_more false true true false = refl
put_more false true false false = refl
put_more false false r w = refl

pub taken_more : (a s r w : Bool) → ((a && not (s && w)) && not (r && w)) ≡ (a && not ((s || r) && w))
taken_more false s r w = refl
taken_more true true r true = refl
taken_more true true true false = refl
taken_more true true false false = refl
taken_more true false r w = refl

pub all_put : (a w : Bool) → (a || (false && w)) ≡ a
all_put true w = refl
all_put false w = refl

pub all_taken : (a w : Bool) → (a && not (false && w)) ≡ a
all_taken true w = refl
all_taken false w = refl

any_drop : (p : Entry → Bool) (es : List Entry) (i : ℕ) (x : Entry) → i < length es → x ≡ get_or es i x
    → list_any p (drop i es) ≡ (p x || list_any p (drop (i + 1) es))
any_drop p es i x h is =
    at_drop_more (list_any p) es i x h ∙ ap (λ y. p y || list_any p (drop (i + 1) es)) (sym is)

pub put_step : (p : Entry → Bool) (es : List Entry) (i : ℕ) (x : Entry) → i < length es → x ≡ get_or es i x
    → (old mid new w : Bool) → new ≡ (mid || (p x && w)) → (mid || (list_any p (drop i es) && w)) ≡ old
    → (new || (list_any p (drop (i + 1) es) && w)) ≡ old
put_step p es i x h is old mid new w e so_far =
    ap (λ b. b || (list_any p (drop (i + 1) es) && w)) e
    ∙ put_more mid (p x) (list_any p (drop (i + 1) es)) w
    ∙ ap (λ b. mid || (b && w)) (sym (any_drop p es i x h is)) ∙ so_far

pub taken_step : (p : Entry → Bool) (es : List Entry) (i : ℕ) (x : Entry) → i < length es → x ≡ get_or es i x
    → (old mid new w : Bool) → new ≡ (mid && not (p x && w)) → (mid && not (list_any p (drop i es) && w)) ≡ old
    → (new && not (list_any p (drop (i + 1) es) && w)) ≡ old
taken_step p es i x h is old mid new w e so_far =
    ap (λ b. b && not (list_any p (drop (i + 1) es) && w)) e
    ∙ taken_more mid (p x) (list_any p (drop (i + 1) es)) w
    ∙ ap (λ b. mid && not (b && w)) (sym (any_drop p es i x h is)) ∙ so_far

none_left : (es : List Entry) (i : ℕ) → length es ≤ i → drop i es ≡ []
none_left [] zero h = refl
none_left [] (suc i) h = refl
none_left (e ∷ es) zero h = absurd (omega arith)
none_left (e ∷ es) (suc i) h = none_left es i (omega arith)

pub put_end : (p : Entry → Bool) (es : List Entry) (i : ℕ) → length es ≤ i → (old new w : Bool)
    → (new || (list_any p (drop i es) && w)) ≡ old → new ≡ old
put_end p es i h old new w e =
    sym (all_put new w) ∙ ap (λ ds. new || (list_any p ds && w)) (sym (none_left es i h)) ∙ e

pub taken_end : (p : Entry → Bool) (es : List Entry) (i : ℕ) → length es ≤ i → (old new w : Bool)
    → (new && not (list_any p (drop i es) && w)) ≡ old → new ≡ old
taken_end p es i h old new w e =
    sym (all_taken new w) ∙ ap (λ ds. new && not (list_any p ds && w)) (sym (none_left es i h)) ∙ e

-- ---- all entries

joined : (s a h k : Bool) → (s ≡ true → k ≡ h) → ((a && h) || (k && s)) ≡ ((s || a) && h)
joined true true true k e = refl
joined true true false k e = rw (e refl) refl
joined true false true k e = rw (e refl) refl
joined true false false k e = rw (e refl) refl
joined false true true k e = refl
joined false true false true e = refl
joined false true false false e = refl
joined false false h true e = refl
joined false false h false e = refl

parted : (s a h k : Bool) → (s ≡ true → k ≡ h) → (s ≡ true → a ≡ false)
    → (((s || a) && h) && not (k && s)) ≡ (a && h)
parted true a true k e f = rw (e refl, f refl) refl
parted true a false k e f = rw (f refl) refl
parted false true true true e f = refl
parted false true true false e f = refl
parted false true false k e f = refl
parted false false h k e f = refl

pub added : (vs : List Plain) (old new : Places) (value : Plain)
    → ((e : Entry) (v : Plain) → keeps new e v ≡ (keeps old e v || (has_entry e value && same value v)))
    → ((e : Entry) (v : Plain) → keeps old e v ≡ (among v vs && has_entry e v))
    → (e : Entry) (v : Plain) → keeps new e v ≡ (among v (value ∷ vs) && has_entry e v)
added vs old new value more was e v =
    more e v ∙ ap (λ b. b || (has_entry e value && same value v)) (was e v)
    ∙ joined (same value v) (among v vs) (has_entry e v) (has_entry e value)
    (λ is. ap (has_entry e) (same_is value v is))
    ∙ ap (λ b. (b || among v vs) && has_entry e v) (same_turns value v)

pub removed : (vs : List Plain) (old new : Places) (value : Plain)
    → ((e : Entry) (v : Plain) → keeps new e v ≡ (keeps old e v && not (has_entry e value && same value v)))
    → ((e : Entry) (v : Plain) → keeps old e v ≡ (among v (value ∷ vs) && has_entry e v))
    → among value vs ≡ false
    → (e : Entry) (v : Plain) → keeps new e v ≡ (among v vs && has_entry e v)
removed vs old new value less was gone e v =
    less e v
    ∙ ap (λ b. b && not (has_entry e value && same value v))
    (was e v ∙ ap (λ b. (b || among v vs) && has_entry e v) (same_turns v value))
    ∙ parted (same value v) (among v vs) (has_entry e v) (has_entry e value)
    (λ is. ap (has_entry e) (same_is value v is)) (λ is. ap (λ w. among w vs) (sym (same_is value v is)) ∙ gone)
