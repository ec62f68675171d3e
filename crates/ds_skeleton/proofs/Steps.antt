-- A row comes, or goes.
use Rattle.std.proofs.Common.{◌≡◌, ℕ, ◌+◌, ◌-◌, ◌^◌, ◌≤◌, min, List, [], ◌∷◌, map, Bool, false}
use Rattle.std.proofs.Common.{None, Some, refl, ap, sym, ◌∙◌, subst, arith}
use Rattle.std.specs.List.{list_any}
use Rattle.std.specs.List.Sorted.{IsStrictlySortedBy}
use Rattle.std.specs.Ordering.{nat_cmp}
use Rattle.std.specs.Map.{values_of, lookup, remove_entry}
use Rattle.std.specs.BTreeMap.{insert_entry, is_at}
use Rattle.pv_value.specs.Plain.{Plain}
use Rattle.pv_value.specs.EntryOrder.{entry_order}
use Rattle.pv_value.specs.declared.Entry.{Entry}
use Rattle.ds_space.specs.Limits.{most_wanted_weight}
use Rattle.ds_space.specs.Wants.{wants, weight_of_keys, wanted_weight}
use Rattle.ds_space.specs.declared.space.Change.{Change}
use Rattle.ds_space.specs.declared.space.Change.TheVariants.{Left, Came}
use Rattle.ds_space.specs.Changes.{AreChanges, only_over}
use Rattle.ds_space.specs.Spaces.{Rows}
use Rattle.ds_skeleton.specs.Places.{same_entry, count}
use Rattle.ds_skeleton.specs.Indexes.{Index, IsWhole, IsSkeleton, AreCounts, only_in}
use Rattle.ds_skeleton.specs.Keys.{key_value, weight_of_entries}
use Rattle.ds_skeleton.proofs.Changed.{changes_came, changes_left}
use Rattle.ds_skeleton.proofs.Rows.{rows_in, rows_out, none_lost}
use Rattle.ds_skeleton.proofs.Tallies.{counts_alike, only_in_alike, among_by_count}
use Rattle.ds_skeleton.proofs.Wanted.{only_keys}
use Rattle.ds_skeleton.proofs.Weights.{weight_with}

-- ---- ws has the values of vs, and v once more

-- the keys that are wanted over ws alone
pub more_keys : (v : Plain) (vs ws : List Plain) (qs : List Entry)
    → ((f : Plain → Bool) → count f (v ∷ vs) ≡ count f ws)
    → ((q : Entry) → list_any (same_entry q) qs ≡ only_in (v ∷ vs) vs q)
    → (q : Entry) → list_any (same_entry q) qs ≡ only_in ws vs q
more_keys v vs ws qs one h q =
    h q ∙ only_in_alike (v ∷ vs) vs ws vs q (among_by_count (v ∷ vs) ws one) (λ x. refl)

-- no key is wanted over vs alone
pub none_lacking : (v : Plain) (vs ws : List Plain) → ((f : Plain → Bool) → count f (v ∷ vs) ≡ count f ws)
    → (k : Plain) → only_over vs ws k ≡ false
none_lacking v vs ws one k =
    sym (only_keys vs ws []
    (λ q. sym (only_in_alike vs ws vs (v ∷ vs) q (λ x. refl) (λ x. sym (among_by_count (v ∷ vs) ws one x))
    ∙ none_lost v vs q)) k)

pub weight_more : (v : Plain) (vs ws : List Plain) (qs : List Entry)
    → ((f : Plain → Bool) → count f (v ∷ vs) ≡ count f ws) → IsStrictlySortedBy entry_order qs
    → ((q : Entry) → list_any (same_entry q) qs ≡ only_in (v ∷ vs) vs q)
    → weight_of_keys (wants ws) ≡ weight_of_keys (wants vs) + weight_of_entries qs
weight_more v vs ws qs one s h =
    weight_with ws vs qs s (more_keys v vs ws qs one h) (none_lacking v vs ws one)

-- ---- a row comes

pub one_in : (n : ℕ) (v : Plain) (rows : Rows) → lookup (is_at (nat_cmp n)) rows ≡ None
    → (f : Plain → Bool) → count f (v ∷ values_of rows) ≡ count f (values_of (insert_entry nat_cmp rows n v))
one_in n v rows none f = rows_in f n v rows (insert_entry nat_cmp rows n v) none refl

-- the weight as it is held, where it is no more than may be
fits : (w b after : ℕ) → after ≡ min (w + b) (2 ^ 64 - 1) → after ≤ most_wanted_weight → after ≡ w + b
fits w b after e h = omega (arith, e, h)

pub skeleton_in : (n : ℕ) (v : Plain) (rows new : Rows) (index next : Index) (w after : ℕ) (qs : List Entry)
    → lookup (is_at (nat_cmp n)) rows ≡ None → new ≡ insert_entry nat_cmp rows n v → IsSkeleton rows index w
    → IsWhole next → ((vs : List Plain) → AreCounts index.values vs → AreCounts next.values (v ∷ vs))
    → IsStrictlySortedBy entry_order qs
    → ((vs : List Plain) → AreCounts index.values vs → (q : Entry)
    → list_any (same_entry q) qs ≡ only_in (v ∷ vs) vs q)
    → after ≡ min (w + weight_of_entries qs) (2 ^ 64 - 1) → after ≤ most_wanted_weight → IsSkeleton new next after
skeleton_in n v rows new index next w after qs none at is whole counts s h weighs small =
    subst (λ es. IsSkeleton es next after) (sym at) (record {
      values = counts_alike next.values (v ∷ values_of rows) (values_of (insert_entry nat_cmp rows n v))
          (one_in n v rows none) (counts (values_of rows) is.values);
      whole = whole;
      weight = fits w (weight_of_entries qs) after weighs small
          ∙ ap (λ b. b + weight_of_entries qs) is.weight
          ∙ sym (weight_more v (values_of rows) (values_of (insert_entry nat_cmp rows n v)) qs (one_in n v rows none) s
          (h (values_of rows) is.values));
    })

-- what would be wanted, by weight
pub weighs_in : (n : ℕ) (v : Plain) (self rows : Rows) (index : Index) (w after : ℕ) (qs : List Entry) → rows ≡ self
    → lookup (is_at (nat_cmp n)) rows ≡ None → IsSkeleton rows index w → IsStrictlySortedBy entry_order qs
    → ((vs : List Plain) → AreCounts index.values vs → (q : Entry)
    → list_any (same_entry q) qs ≡ only_in (v ∷ vs) vs q)
    → after ≡ min (w + weight_of_entries qs) (2 ^ 64 - 1)
    → after ≡ wanted_weight (values_of (insert_entry nat_cmp self n v))
weighs_in n v self rows index w after qs same none is s h weighs =
    weighs
    ∙ ap (λ b. min b (2 ^ 64 - 1))
    (ap (λ b. b + weight_of_entries qs) is.weight
    ∙ sym (weight_more v (values_of rows) (values_of (insert_entry nat_cmp rows n v)) qs (one_in n v rows none) s
    (h (values_of rows) is.values)))
    ∙ ap (λ es. wanted_weight (values_of (insert_entry nat_cmp es n v))) same

pub changes_in : (n : ℕ) (v : Plain) (self rows : Rows) (index : Index) (w : ℕ) (qs : List Entry) (cs : List Change)
    → rows ≡ self → lookup (is_at (nat_cmp n)) rows ≡ None → IsSkeleton rows index w
    → IsStrictlySortedBy entry_order qs
    → ((vs : List Plain) → AreCounts index.values vs → (q : Entry)
    → list_any (same_entry q) qs ≡ only_in (v ∷ vs) vs q)
    → cs ≡ map (λ q. Came (key_value q)) qs
    → AreChanges (values_of self) (values_of (insert_entry nat_cmp self n v)) cs
changes_in n v self rows index w qs cs same none is s h are =
    subst (λ es. AreChanges (values_of es) (values_of (insert_entry nat_cmp es n v)) cs) same
    (changes_came (values_of rows) (values_of (insert_entry nat_cmp rows n v)) qs cs s
    (more_keys v (values_of rows) (values_of (insert_entry nat_cmp rows n v)) qs (one_in n v rows none)
    (h (values_of rows) is.values))
    (none_lacking v (values_of rows) (values_of (insert_entry nat_cmp rows n v)) (one_in n v rows none)) are)

-- ---- a row goes

pub one_out : (n : ℕ) (v : Plain) (rows : Rows) → lookup (is_at (nat_cmp n)) rows ≡ Some v
    → (f : Plain → Bool) → count f (v ∷ values_of (remove_entry (is_at (nat_cmp n)) rows)) ≡ count f (values_of rows)
one_out n v rows some f = sym (rows_out f n v rows (remove_entry (is_at (nat_cmp n)) rows) some refl)

pub counts_out : (n : ℕ) (v : Plain) (rows : Rows) (index : Index) (w : ℕ) → lookup (is_at (nat_cmp n)) rows ≡ Some v
    → IsSkeleton rows index w → AreCounts index.values (v ∷ values_of (remove_entry (is_at (nat_cmp n)) rows))
counts_out n v rows index w some is =
    counts_alike index.values (values_of rows) (v ∷ values_of (remove_entry (is_at (nat_cmp n)) rows))
    (λ f. sym (one_out n v rows some f)) is.values

pub weight_out : (n : ℕ) (v : Plain) (rows : Rows) (index : Index) (w : ℕ) (qs : List Entry)
    → lookup (is_at (nat_cmp n)) rows ≡ Some v → IsSkeleton rows index w → IsStrictlySortedBy entry_order qs
    → ((vs : List Plain) → AreCounts index.values (v ∷ vs) → (q : Entry)
    → list_any (same_entry q) qs ≡ only_in (v ∷ vs) vs q)
    → w ≡ weight_of_keys (wants (values_of (remove_entry (is_at (nat_cmp n)) rows))) + weight_of_entries qs
weight_out n v rows index w qs some is s h =
    let vs = values_of (remove_entry (is_at (nat_cmp n)) rows) in
    is.weight
    ∙ weight_more v vs (values_of rows) qs (one_out n v rows some) s (h vs (counts_out n v rows index w some is))

pub skeleton_out : (n : ℕ) (v : Plain) (rows new : Rows) (index next : Index) (w after : ℕ) (qs : List Entry)
    → lookup (is_at (nat_cmp n)) rows ≡ Some v → new ≡ remove_entry (is_at (nat_cmp n)) rows → IsSkeleton rows index w
    → IsWhole next → ((vs : List Plain) → AreCounts index.values (v ∷ vs) → AreCounts next.values vs)
    → IsStrictlySortedBy entry_order qs
    → ((vs : List Plain) → AreCounts index.values (v ∷ vs) → (q : Entry)
    → list_any (same_entry q) qs ≡ only_in (v ∷ vs) vs q)
    → after + weight_of_entries qs ≡ w → IsSkeleton new next after
skeleton_out n v rows new index next w after qs some at is whole counts s h weighs =
    let vs = values_of (remove_entry (is_at (nat_cmp n)) rows) in
    let total = weight_out n v rows index w qs some is s h in
    subst (λ es. IsSkeleton es next after) (sym at) (record {
      values = counts vs (counts_out n v rows index w some is);
      whole = whole;
      weight = omega (arith, weighs, total);
    })

pub changes_out : (n : ℕ) (v : Plain) (self rows : Rows) (index : Index) (w : ℕ) (qs : List Entry) (cs : List Change)
    → rows ≡ self → lookup (is_at (nat_cmp n)) rows ≡ Some v → IsSkeleton rows index w
    → IsStrictlySortedBy entry_order qs
    → ((vs : List Plain) → AreCounts index.values (v ∷ vs) → (q : Entry)
    → list_any (same_entry q) qs ≡ only_in (v ∷ vs) vs q)
    → cs ≡ map (λ q. Left (key_value q)) qs
    → AreChanges (values_of self) (values_of (remove_entry (is_at (nat_cmp n)) self)) cs
changes_out n v self rows index w qs cs same some is s h are =
    let vs = values_of (remove_entry (is_at (nat_cmp n)) rows) in
    subst (λ es. AreChanges (values_of es) (values_of (remove_entry (is_at (nat_cmp n)) es)) cs) same
    (changes_left (values_of rows) vs qs cs s
    (more_keys v vs (values_of rows) qs (one_out n v rows some) (h vs (counts_out n v rows index w some is)))
    (none_lacking v vs (values_of rows) (one_out n v rows some)) are)
