-- What a change of one group, or of a key that is kept aside, does to the flat lists.
use Rattle.std.proofs.Common.{◌≡◌, ℕ, List, cond, ◌&&◌, Option, Some, None, refl, sym, ap, ◌∙◌, subst}
use Rattle.std.specs.BTreeMap as tree
use Rattle.std.specs.BTreeMap.{BTreeMap, is_at, insert_entry}
use Rattle.std.specs.Map.{remove_entry}
use Rattle.std.specs.Option.{option_and_then}
use Rattle.pv_value.specs.Plain.{Plain}
use Rattle.pv_value.specs.Order.{order}
use Rattle.pv_words.specs.Parts.{same}
use Rattle.pv_marks.specs.MarkedOrder.{marked_order}
use Rattle.ac_groups.specs.Groups.{Grouped, group_of, pair, parts}
use Rattle.ac_groups.specs.Kept.{Group, group_at, handle_in, facet_in, all_handles, all_facets, IsKept}
use Rattle.ac_groups.proofs.Entries.{found, Ascend, told, told_inserted, told_removed}
use Rattle.ac_groups.proofs.Flat.{handles_ascend, facets_ascend, found_pair, found_other, found_facet}
use Rattle.ac_groups.proofs.Pairs.{parts_is, same_pairs, no_pair, no_pair_too}

abbrev ByGroup : Type 0
ByGroup = BTreeMap Plain Group

abbrev pub handles_of : ByGroup → BTreeMap Plain ℕ → List (Plain × ℕ)
handles_of gs others = all_handles gs.entries others.entries

-- ---- handles under groups

-- a key of each form
each_key : (P : Plain → Type 0) → ((o c : Plain) → P (pair o c)) → ((q : Plain) → parts q ≡ None → P q) → (q : Plain)
    → P q
each_key P f g q = by (parts q) refl
  where
    by : (x : Option (Plain × Plain)) → parts q ≡ x → P q
    by None e = g q e
    by (Some p) e = subst P (sym (parts_is q p.0 p.1 e)) (f p.0 p.1)

module _ (old new : ByGroup) (others : BTreeMap Plain ℕ) (was : IsKept old others) (now : IsKept new others) where
  pub pair_was : (p d : Plain) → found (pair p d) (handles_of old others) ≡ handle_in (group_at old p) d
  pair_was p d = found_pair old.entries others.entries was.groups_ascend was.apart p d

  pub pair_now : (p d : Plain) → found (pair p d) (handles_of new others) ≡ handle_in (group_at new p) d
  pair_now p d = found_pair new.entries others.entries now.groups_ascend now.apart p d

  ascend_was : Ascend (handles_of old others)
  ascend_was = handles_ascend old.entries others.entries was.others_ascend

  ascend_now : Ascend (handles_of new others)
  ascend_now = handles_ascend new.entries others.entries was.others_ascend

  other_stands : (q : Plain) → parts q ≡ None → found q (handles_of new others) ≡ found q (handles_of old others)
  other_stands q e = found_other new.entries others.entries q e ∙ sym (found_other old.entries others.entries q e)

  -- the handle of one key changes
  pub handle_changed : (o c : Plain) (x : Option ℕ)
      → ((p d : Plain) → handle_in (group_at new p) d ≡ cond (same o p && same c d) x (handle_in (group_at old p) d))
      → (q : Plain) → found q (handles_of new others) ≡ cond (same (pair o c) q) x (found q (handles_of old others))
  handle_changed o c x h =
      each_key (λ q. found q (handles_of new others) ≡ cond (same (pair o c) q) x (found q (handles_of old others)))
      (λ p d. pair_now p d ∙ h p d ∙ ap (λ b. cond b x (handle_in (group_at old p) d)) (sym (same_pairs o c p d))
      ∙ ap (λ y. cond (same (pair o c) (pair p d)) x y) (sym (pair_was p d)))
      (λ q e. other_stands q e ∙ ap (λ b. cond b x (found q (handles_of old others))) (sym (no_pair q o c e)))

  -- none does
  pub handles_stand : ((p d : Plain) → handle_in (group_at new p) d ≡ handle_in (group_at old p) d)
      → (q : Plain) → found q (handles_of new others) ≡ found q (handles_of old others)
  handles_stand h =
      each_key (λ q. found q (handles_of new others) ≡ found q (handles_of old others))
      (λ p d. pair_now p d ∙ h p d ∙ sym (pair_was p d)) other_stands

  pub handle_gone : (k o c : Plain) → k ≡ pair o c
      → ((p d : Plain) → handle_in (group_at new p) d
      ≡ cond (same o p && same c d) None (handle_in (group_at old p) d))
      → handles_of new others ≡ remove_entry (is_at (order k)) (handles_of old others)
  handle_gone k o c is h =
      told_removed (handles_of old others) (handles_of new others) (pair o c) ascend_was ascend_now
      (handle_changed o c None h)
      ∙ ap (λ x. remove_entry (is_at (order x)) (handles_of old others)) (sym is)

  pub handle_come : (k o c : Plain) (v : ℕ) → k ≡ pair o c
      → ((p d : Plain) → handle_in (group_at new p) d
      ≡ cond (same o p && same c d) (Some v) (handle_in (group_at old p) d))
      → handles_of new others ≡ insert_entry order (handles_of old others) k v
  handle_come k o c v is h =
      told_inserted (handles_of old others) (handles_of new others) (pair o c) v ascend_was ascend_now
      (handle_changed o c (Some v) h)
      ∙ ap (λ x. insert_entry order (handles_of old others) x v) (sym is)

  pub handles_still : ((p d : Plain) → handle_in (group_at new p) d ≡ handle_in (group_at old p) d)
      → handles_of new others ≡ handles_of old others
  handles_still h = told (handles_of old others) (handles_of new others) ascend_was ascend_now (handles_stand h)

-- ---- facets

module _ (old new : ByGroup) (was : tree.IsOrdered marked_order old) (now : tree.IsOrdered marked_order new) where
  pub facet_changed : (o : Plain) (y : Option ℕ)
      → ((p : Plain) → facet_in (group_at new p) ≡ cond (same o p) y (facet_in (group_at old p)))
      → (q : Plain) → found q (all_facets new.entries) ≡ cond (same o q) y (found q (all_facets old.entries))
  facet_changed o y h q =
      found_facet new.entries now q ∙ h q ∙ ap (λ x. cond (same o q) y x) (sym (found_facet old.entries was q))

  pub facets_stand : ((p : Plain) → facet_in (group_at new p) ≡ facet_in (group_at old p))
      → (q : Plain) → found q (all_facets new.entries) ≡ found q (all_facets old.entries)
  facets_stand h q = found_facet new.entries now q ∙ h q ∙ sym (found_facet old.entries was q)

  pub facet_gone : (o : Plain)
      → ((p : Plain) → facet_in (group_at new p) ≡ cond (same o p) None (facet_in (group_at old p)))
      → all_facets new.entries ≡ remove_entry (is_at (order o)) (all_facets old.entries)
  facet_gone o h =
      told_removed (all_facets old.entries) (all_facets new.entries) o (facets_ascend old.entries)
      (facets_ascend new.entries) (facet_changed o None h)

  pub facet_come : (o : Plain) (f : ℕ)
      → ((p : Plain) → facet_in (group_at new p) ≡ cond (same o p) (Some f) (facet_in (group_at old p)))
      → all_facets new.entries ≡ insert_entry order (all_facets old.entries) o f
  facet_come o f h =
      told_inserted (all_facets old.entries) (all_facets new.entries) o f (facets_ascend old.entries)
      (facets_ascend new.entries) (facet_changed o (Some f) h)

  pub facets_still : ((p : Plain) → facet_in (group_at new p) ≡ facet_in (group_at old p))
      → all_facets new.entries ≡ all_facets old.entries
  facets_still h =
      told (all_facets old.entries) (all_facets new.entries) (facets_ascend old.entries) (facets_ascend new.entries)
      (facets_stand h)

-- the facet of a key's group
pub facet_told : (gs : ByGroup) → tree.IsOrdered marked_order gs → (k : Plain)
    → option_and_then (λ o. facet_in (group_at gs o)) (group_of k)
    ≡ option_and_then (λ o. found o (all_facets gs.entries)) (group_of k)
facet_told gs s k = by (group_of k)
  where
    by : (g : Option Plain) → option_and_then (λ o. facet_in (group_at gs o)) g
        ≡ option_and_then (λ o. found o (all_facets gs.entries)) g
    by None = refl
    by (Some o) = sym (found_facet gs.entries s o)

-- ---- handles kept aside

module _ (gs : ByGroup) (old new : BTreeMap Plain ℕ) (was : IsKept gs old) (k : Plain) (form : parts k ≡ None)
    (x : Option ℕ) (h : (q : Plain) → tree.get order new q ≡ cond (same k q) x (tree.get order old q)) where
  pub apart_still : (o c : Plain) → tree.get order new (pair o c) ≡ None
  apart_still o c =
      h (pair o c) ∙ ap (λ b. cond b x (tree.get order old (pair o c))) (no_pair_too k o c form) ∙ was.apart o c

  pub other_changed : (q : Plain) → found q (handles_of gs new) ≡ cond (same k q) x (found q (handles_of gs old))
  other_changed =
      each_key (λ q. found q (handles_of gs new) ≡ cond (same k q) x (found q (handles_of gs old)))
      (λ p d. found_pair gs.entries new.entries was.groups_ascend apart_still p d
      ∙ sym (found_pair gs.entries old.entries was.groups_ascend was.apart p d)
      ∙ ap (λ b. cond b x (found (pair p d) (handles_of gs old))) (sym (no_pair_too k p d form)))
      (λ q e. found_other gs.entries new.entries q e ∙ h q
      ∙ ap (λ y. cond (same k q) x y) (sym (found_other gs.entries old.entries q e)))

  pub kept_still : tree.IsOrdered order new → IsKept gs new
  kept_still s = record {
    groups_ascend = was.groups_ascend;
    others_ascend = s;
    none_bare = was.none_bare;
    apart = apart_still;
  }

-- one that is kept aside goes, or comes
pub other_gone : (gs : ByGroup) (old new : BTreeMap Plain ℕ) → IsKept gs old → IsKept gs new → (k : Plain)
    → parts k ≡ None → ((q : Plain) → tree.get order new q ≡ cond (same k q) None (tree.get order old q))
    → handles_of gs new ≡ remove_entry (is_at (order k)) (handles_of gs old)
other_gone gs old new was now k form h =
    told_removed (handles_of gs old) (handles_of gs new) k (handles_ascend gs.entries old.entries was.others_ascend)
    (handles_ascend gs.entries new.entries now.others_ascend) (other_changed gs old new was k form None h)

pub other_come : (gs : ByGroup) (old new : BTreeMap Plain ℕ) → IsKept gs old → IsKept gs new → (k : Plain) (v : ℕ)
    → parts k ≡ None → ((q : Plain) → tree.get order new q ≡ cond (same k q) (Some v) (tree.get order old q))
    → handles_of gs new ≡ insert_entry order (handles_of gs old) k v
other_come gs old new was now k v form h =
    told_inserted (handles_of gs old) (handles_of gs new) k v (handles_ascend gs.entries old.entries was.others_ascend)
    (handles_ascend gs.entries new.entries now.others_ascend) (other_changed gs old new was k form (Some v) h)

-- the view of two lists
pub grouped : (v w : Grouped) → v.handles ≡ w.handles → v.facets ≡ w.facets → v ≡ w
grouped v w h f = λ i. record { handles = h i; facets = f i }
