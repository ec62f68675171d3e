-- A facet is found, and is put back with other rows, or with others below it.
use Rattle.std.proofs.Common.{◌≡◌, ℕ, Bool, true, cond, List, map, Some, refl}
use Rattle.std.specs.BTreeMap.{BTreeMap, is_at, get, WritesThrough}
use Rattle.std.specs.BTreeSet.{BTreeSet}
use Rattle.std.specs.Ordering.{nat_cmp}
use Rattle.ac_table.specs.Maps.{is_key}
use Rattle.ac_table.specs.Placed.{facet_seen, tree_in, HasRow, SameRows, SameFacets, KeepsLinks, IsPlaced}
use Rattle.ac_table.specs.declared.facets.Facet.{Facet}
use Rattle.ac_table.proofs.Placing.{refaceted_from, placed_same, same_tree, same_facets, same_rows, has_row}
use Rattle.ac_table.proofs.Placing.{keeps_links}

abbrev pub rewritten : Facet → BTreeSet ℕ → Facet
rewritten x rows = record { parent = x.parent; below = x.below; rows = rows }

abbrev pub relinked : Facet → BTreeSet ℕ → Facet
relinked x below = record { parent = x.parent; below = below; rows = x.rows }

module _ (f : ℕ) (x : Facet) (ks : BTreeSet ℕ) (all new : BTreeMap ℕ Facet) (was : get nat_cmp all f ≡ Some x) where
  -- the facets and who is above whom stay
  pub tree_rewritten : WritesThrough nat_cmp (nat_cmp f) all (rewritten x ks) new
      → tree_in (map facet_seen new.entries) ≡ tree_in (map facet_seen all.entries)
  tree_rewritten w =
      same_tree f x (rewritten x ks) all.entries new.entries (refaceted_from f x (rewritten x ks) all new was w) refl

  pub placed_rewritten : (free : List ℕ) (end : ℕ) → WritesThrough nat_cmp (nat_cmp f) all (rewritten x ks) new
      → IsPlaced all.entries free end → IsPlaced new.entries free end
  placed_rewritten free end w k =
      let re = refaceted_from f x (rewritten x ks) all new was w in
      placed_same all.entries new.entries free end k (tree_rewritten w)
      (keeps_links (λ k. true) f x (rewritten x ks) all.entries new.entries re refl (λ k s have. have)) re.ascends

  pub has_rewritten : (h : ℕ) (b : Bool) → WritesThrough nat_cmp (nat_cmp f) all (rewritten x ks) new
      → ((k : ℕ) → is_key k ks.keys ≡ cond (is_at (nat_cmp h) k) b (is_key k x.rows.keys))
      → HasRow f h b (map facet_seen all.entries) (map facet_seen new.entries)
  has_rewritten h b w rows =
      has_row f h b x (rewritten x ks) all.entries new.entries (refaceted_from f x (rewritten x ks) all new was w) rows

  pub same_rewritten : WritesThrough nat_cmp (nat_cmp f) all (rewritten x ks) new → ks.keys ≡ x.rows.keys
      → SameRows (map facet_seen all.entries) (map facet_seen new.entries)
  same_rewritten w rows =
      same_rows f x (rewritten x ks) all.entries new.entries (refaceted_from f x (rewritten x ks) all new was w) rows

  -- what is seen of the facets stays
  pub same_relinked : WritesThrough nat_cmp (nat_cmp f) all (relinked x ks) new → SameFacets all.entries new.entries
  same_relinked w =
      same_facets f x (relinked x ks) all.entries new.entries (refaceted_from f x (relinked x ks) all new was w) refl
      refl

  pub keeps_relinked : (spared : ℕ → Bool) → WritesThrough nat_cmp (nat_cmp f) all (relinked x ks) new
      → ((k : ℕ) → spared k ≡ true → is_key k x.below.keys ≡ true → is_key k ks.keys ≡ true)
      → KeepsLinks spared all.entries new.entries
  keeps_relinked spared w grows =
      keeps_links spared f x (relinked x ks) all.entries new.entries
      (refaceted_from f x (relinked x ks) all new was w) refl grows
