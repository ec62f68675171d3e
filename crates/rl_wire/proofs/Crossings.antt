-- Values that cross, and those that are the same afterwards.
use Rattle.std.proofs.Common.{◌≡◌, ℕ, zero, suc, ◌+◌, ◌<◌, Global, List, [], ◌∷◌, ◌++◌, length, map, take, drop, get_or}
use Rattle.std.proofs.Common.{Option, Some, None, Result, Ok, Err, IfOk, refl, sym, ap, ◌∙◌, arith}
use Rattle.std.specs.Prelude.{MatchOption, option_map, unwrap_or, vec_items}
use Rattle.std.specs.declared.vec.Vec.{Vec}
use Rattle.std.specs.List.Sorted.{IsStrictlySortedBy}
use Rattle.std.proofs.lemmas.List.Sorted.{IsPermutation-refl}
use Rattle.pv_value.specs.Plain.{Plain, record_of, sequence, set_of, dictionary, plains, listed, pairs, paired}
use Rattle.pv_value.specs.View.{key_and_value}
use Rattle.pv_value.specs.Order.{order}
use Rattle.pv_value.specs.Sets.{ascending_by}
use Rattle.pv_value.specs.WellFormed.{Ascend, KeysAscend}
use Rattle.pv_value.specs.Lemmas.Ascending.{ascending_is}
use Rattle.pv_value.specs.Lemmas.Listed.{listed-plains, paired-pairs}
use Rattle.pv_value.specs.Lemmas.OrderLaws.{order_total, order_same}
use Rattle.pv_value.specs.declared.Entry.{Entry}
use Rattle.pv_value.specs.declared.NoMemory.{NoMemory}
use Rattle.rl_wire.specs.Crossing.{crossed, all_crossed, all_pairs_crossed, by_keys}
use Rattle.rl_wire.specs.Changes.{IsChange, AreChanged, entry_crossed, record_or}

-- ---- lists

pub all_crossed-plains : (f : Plain → Plain) (xs : List Plain) → all_crossed f (plains xs) ≡ plains (map (crossed f) xs)
all_crossed-plains f [] = refl
all_crossed-plains f (x ∷ xs) = rw (all_crossed-plains f xs) refl

pub all_pairs_crossed-pairs : (f : Plain → Plain) (es : List Entry)
    → all_pairs_crossed f (pairs (map key_and_value es)) ≡ pairs (map key_and_value (map (entry_crossed f) es))
all_pairs_crossed-pairs f [] = refl
all_pairs_crossed-pairs f (e ∷ es) = rw (all_pairs_crossed-pairs f es) refl

-- the first that isn't the same stands at i
pub changed_at : {A : Type 0} (f : A → A) (xs : List A) (i : ℕ) (x y : A) → i < length xs → x ≡ get_or xs i x
    → map f (take i xs) ≡ take i xs → y ≡ f x → take i xs ++ y ∷ map f (drop (i + 1) xs) ≡ map f xs
changed_at f [] i x y l at same is = absurd (omega arith)
changed_at f (z ∷ zs) zero x y l at same is = ap (λ w. w ∷ map f zs) (is ∙ ap f at)
changed_at f (z ∷ zs) (suc i) x y l at same is =
    let first : z ≡ f z = cc in
    let others : map f (take i zs) ≡ take i zs = cc in
    let more : suc i + 1 ≡ suc (i + 1) = omega arith in
    rw more (ap (λ w. w ∷ (take i zs ++ y ∷ map f (drop (i + 1) zs))) first
    ∙ ap (λ ws. f z ∷ ws) (changed_at f zs i x y (omega arith) at others is))

-- ---- what is in order already

pub ascending_same : (xs : List Plain) → Ascend xs → ascending_by order xs ≡ xs
ascending_same xs sorted = ascending_is order order_total order_same xs xs (IsPermutation-refl xs) sorted

pub by_keys_same : (ps : List (Plain × Plain)) → KeysAscend ps → by_keys ps ≡ ps
unfolding IsStrictlySortedBy
by_keys_same [] sorted = refl
by_keys_same (p ∷ []) sorted = refl
by_keys_same (p ∷ q ∷ ps) sorted = rw (by_keys_same (q ∷ ps) sorted.1, sorted.0.0) refl

-- ---- what is made of what is new

pub told : {A : Type 0} (make : List A → Plain) (old new : List A) (whole becomes : Plain)
    (news : Option (Vec A Global)) (r : Result (Option Plain) NoMemory) → whole ≡ make old → becomes ≡ make new
    → AreChanged old new news → IfOk r (λ v. v ≡ option_map (λ xs. make xs.items) news)
    → IfOk r (IsChange whole becomes)
told make old new whole becomes news (Err e) was is change made = tt
told make old new whole becomes None (Ok None) was is change made = is ∙ ap make change ∙ sym was
told make old new whole becomes None (Ok (Some v)) was is change made = cc
told make old new whole becomes (Some xs) (Ok None) was is change made = cc
told make old new whole becomes (Some xs) (Ok (Some v)) was is change made =
    let v_is : v ≡ make xs.items = cc in
    v_is ∙ ap make change ∙ sym is

pub sequence_told : (f : Plain → Plain) (xs : List Plain) (news : Option (Vec Plain Global))
    (r : Result (Option Plain) NoMemory) → AreChanged xs (map (crossed f) xs) news
    → IfOk r (λ v. v ≡ option_map (λ ys. sequence (plains ys.items)) news)
    → IfOk r (IsChange (sequence (plains xs)) (crossed f (sequence (plains xs))))
sequence_told f xs news r = told (λ ys. sequence (plains ys)) xs (map (crossed f) xs) (sequence (plains xs))
    (crossed f (sequence (plains xs))) news r refl (ap sequence (all_crossed-plains f xs))

pub set_told : (f : Plain → Plain) (xs : List Plain) (news : Option (Vec Plain Global))
    (r : Result (Option Plain) NoMemory) → Ascend xs → AreChanged xs (map (crossed f) xs) news
    → IfOk r (λ v. v ≡ option_map (λ ys. set_of (plains (ascending_by order ys.items))) news)
    → IfOk r (IsChange (set_of (plains xs)) (crossed f (set_of (plains xs))))
set_told f xs news r sorted = told (λ ys. set_of (plains (ascending_by order ys))) xs (map (crossed f) xs)
    (set_of (plains xs)) (crossed f (set_of (plains xs))) news r
    (ap (λ ys. set_of (plains ys)) (sym (ascending_same xs sorted)))
    (ap (λ ys. set_of (plains (ascending_by order ys)))
    (ap listed (all_crossed-plains f xs) ∙ listed-plains (map (crossed f) xs)))

pub dictionary_told : (f : Plain → Plain) (es : List Entry) (news : Option (Vec Entry Global))
    (r : Result (Option Plain) NoMemory) → KeysAscend (map key_and_value es)
    → AreChanged es (map (entry_crossed f) es) news
    → IfOk r (λ v. v ≡ option_map (λ ds. dictionary (pairs (by_keys (map key_and_value ds.items)))) news)
    → IfOk r (IsChange (dictionary (pairs (map key_and_value es)))
    (crossed f (dictionary (pairs (map key_and_value es)))))
dictionary_told f es news r sorted = told (λ ds. dictionary (pairs (by_keys (map key_and_value ds)))) es
    (map (entry_crossed f) es) (dictionary (pairs (map key_and_value es)))
    (crossed f (dictionary (pairs (map key_and_value es)))) news r
    (ap (λ ps. dictionary (pairs ps)) (sym (by_keys_same (map key_and_value es) sorted)))
    (ap (λ ps. dictionary (pairs (by_keys ps)))
    (ap paired (all_pairs_crossed-pairs f es) ∙ paired-pairs (map key_and_value (map (entry_crossed f) es))))

-- what the code answers for a record
abbrev pub IsRecordTold : Plain → List Plain → Option Plain → Option (Vec Plain Global) → Option Plain → Type 0
IsRecordTold l fs new news r =
    MatchOption r ((new ≡ None) × (news ≡ None)) (λ v. v ≡ record_or l fs new (option_map vec_items news))

record_crossed : (f : Plain → Plain) (l : Plain) (fs : List Plain) (m : Plain) (gs : List Plain) → m ≡ crossed f l
    → gs ≡ map (crossed f) fs → record_of m (plains gs) ≡ crossed f (record_of l (plains fs))
record_crossed f l fs m gs a b = rw (a, b, all_crossed-plains f fs) refl

record_changed : (f : Plain → Plain) (l : Plain) (fs : List Plain) (new : Option Plain)
    (news : Option (Vec Plain Global)) (r : Option Plain) → IsChange l (crossed f l) new
    → AreChanged fs (map (crossed f) fs) news → IsRecordTold l fs new news r
    → IsChange (record_of l (plains fs)) (crossed f (record_of l (plains fs))) r
record_changed f l fs None None None a b h = sym (record_crossed f l fs l fs (sym a) (sym b))
record_changed f l fs (Some m) news None a b h = absurd cc
record_changed f l fs None (Some gs) None a b h = absurd cc
record_changed f l fs None None (Some v) a b h = h ∙ record_crossed f l fs l fs (sym a) (sym b)
record_changed f l fs None (Some gs) (Some v) a b h = h ∙ record_crossed f l fs l gs.items (sym a) b
record_changed f l fs (Some m) None (Some v) a b h = h ∙ record_crossed f l fs m fs a (sym b)
record_changed f l fs (Some m) (Some gs) (Some v) a b h = h ∙ record_crossed f l fs m gs.items a b

pub record_told : (f : Plain → Plain) (l : Plain) (fs : List Plain) (new : Option Plain)
    (news : Option (Vec Plain Global)) (r : Result (Option Plain) NoMemory) → IsChange l (crossed f l) new
    → AreChanged fs (map (crossed f) fs) news → IfOk r (IsRecordTold l fs new news)
    → IfOk r (IsChange (record_of l (plains fs)) (crossed f (record_of l (plains fs))))
record_told f l fs new news (Ok r) a b h = record_changed f l fs new news r a b h
record_told f l fs new news (Err e) a b h = tt

-- ---- entries

new_or : (old new : Plain) (r : Option Plain) → IsChange old new r → unwrap_or r old ≡ new
new_or old new None is = sym is
new_or old new (Some v) is = is

-- an entry is its key and its value
entry_of : (e : Entry) (k v : Plain) → e.key ≡ k → e.value ≡ v → e ≡ (record { key = k; value = v })
entry_of e k v a b = rw (← a, ← b) refl

-- an entry of what is new and of what is the same
pub entry_is : (f : Plain → Plain) (old first : Entry) (key value : Option Plain)
    → IsChange old.key (crossed f old.key) key → IsChange old.value (crossed f old.value) value
    → first.key ≡ unwrap_or key old.key → first.value ≡ unwrap_or value old.value → first ≡ entry_crossed f old
entry_is f old first key value a b k v = entry_of first (crossed f old.key) (crossed f old.value)
    (k ∙ new_or old.key (crossed f old.key) key a) (v ∙ new_or old.value (crossed f old.value) value b)
