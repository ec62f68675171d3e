-- Where the rows of a system actor stand, as a row goes or comes and as a facet does.
use Rattle.std.proofs.Common.{◌≡◌, ℕ, ◌<◌, ◌==◌, ◌||◌, ◌&&◌, not, List, [], ◌∷◌, Bool, true, false, cond, Option}
use Rattle.std.proofs.Common.{Some, None, is_some, unwrap_or, filter, ◌⊎◌, inl, inr, refl, ap, sym, ◌∙◌, subst, arith}
use Rattle.std.proofs.lemmas.Bool.Decides.{nat_tests}
use Rattle.std.proofs.lemmas.List.Kept.{IsStrictlySortedBy-filter}
use Rattle.std.specs.BTreeMap.{is_at, insert_entry}
use Rattle.std.specs.List.Sorted.{IsStrictlySortedBy}
use Rattle.std.specs.Map.{remove_entry, keys_of, values_of}
use Rattle.std.specs.Ordering.{nat_cmp}
use Rattle.pv_value.specs.Plain.{Plain}
use Rattle.pv_value.specs.Order.{order}
use Rattle.pv_value.specs.WellFormed.{Ascend}
use Rattle.pv_value.specs.Lemmas.OrderLaws.{order_total, order_same}
use Rattle.pv_words.specs.Parts.{same}
use Rattle.pv_words.specs.Lemmas.Same.{same_is, same_self}
use Rattle.ac_table.specs.declared.batches.Row.{Row}
use Rattle.ac_table.specs.Facets.{Tree, is_facet, least_free}
use Rattle.ac_table.specs.Lemmas.Entries.{is_at_same, lookup-insert, lookup-filter}
use Rattle.ac_table.specs.Lemmas.Leaves.{one_key, tree_of_facet, tree_faceted, tree_without}
use Rattle.ac_table.specs.Maps.{KeysAscend, is_key, value_at}
use Rattle.ac_table.specs.Tables.{TableState, IsTable, find_row, is_live, tree_of, has_rows, faceted, without_facets}
use Rattle.ac_table.specs.Tables.{asserted}
use Rattle.ac_world.specs.Allocating.{Facets, Allocated, Released, facet_for, allocated, allocated_at, released}
use Rattle.ac_world.specs.Allocating.{released_at}
use Rattle.ac_world.specs.Allocating.{IsRooted, IsOwnFacet, AreOwnFacets}
use Rattle.ac_world.specs.Lemmas.Entries.{ascend_with}
use Rattle.ac_world.specs.Outboxes.{Plan, drop_row, drop_own}
use Rattle.ac_world.specs.Turns.{handle_for, drop_met}
use Rattle.ac_world.proofs.OwnFacets.{own_facet_passes, rooted_more, rooted_less, own_facets_more, own_facets_less}
use Rattle.hub_laws.proofs.Finding.{row_next, found_handle, find_row-without, find_row-push_old, find_row-asserted}
use Rattle.hub_laws.proofs.Finding.{asserted_table, retracted_table}
use Rattle.hub_laws.proofs.Keys.{lookup-insert_entry, lookup-without_entry, insert_entry_ascends, remove_entry_ascends}
use Rattle.hub_laws.proofs.Owned.{IsUnder}
use Rattle.hub_facets.specs.Rooms.{is_listed, IsLivedIn}
use Rattle.hub_facets.proofs.Found.{lived_in_of, has_rows_of}
use Rattle.hub_facets.proofs.Listed.{key_passes, listed_more, listed_less, least_is_new}

-- ---- the facets of groups, and the tree of their actor

pub record AreBuilt (facets : Facets) (tree : Tree) : Type 0 where
  pub rooted : IsRooted tree
  pub ascends : KeysAscend tree
  pub known : (f : ℕ) → is_facet f tree ≡ (f == 0 || is_listed f facets)
  pub own_facets : AreOwnFacets facets tree

-- a facet that is listed isn't facet 0
pub some_listed : (f : ℕ) (facets : Facets) (tree : Tree) → AreBuilt facets tree → is_listed f facets ≡ true → 0 < f
some_listed f facets tree b is = (key_passes (IsOwnFacet tree) f (values_of facets) is b.own_facets.there).0

module _ (g : Plain) (n : ℕ) (facets : Facets) (tree : Tree) (some : 0 < n) (b : AreBuilt facets tree) where
  module _ (free : is_facet n tree ≡ false) (none : facet_for (Some g) facets ≡ None) where
    known_more : (q : ℕ) → is_facet q (insert_entry nat_cmp tree n 0)
        ≡ (q == 0 || is_listed q (insert_entry order facets g n))
    known_more q =
        ap is_some (lookup-insert q n 0 tree)
        ∙ ap (λ c. is_some (cond c (Some 0) (value_at q tree))) (is_at_same n q)
        ∙ by (value_at q tree) (q == n) (q == 0) (is_listed q facets) (b.known q)
        ∙ ap (λ c. q == 0 || c) (sym (listed_more q g n facets none))
      where
        by : (o : Option ℕ) (c z l : Bool) → is_some o ≡ (z || l) → is_some (cond c (Some 0) o) ≡ (z || (c || l))
        by o true true l k = refl
        by o true false l k = refl
        by o false z l k = k

    built_more : AreBuilt (insert_entry order facets g n) (insert_entry nat_cmp tree n 0)
    built_more = record {
      rooted = rooted_more n tree b.rooted;
      ascends = ascend_with n 0 tree b.ascends;
      known = known_more;
      own_facets = own_facets_more g n facets tree some free b.own_facets;
    }

  module _ (found : facet_for (Some g) facets ≡ Some n) where
    known_less : (q : ℕ) → is_facet q (filter (λ e. not (is_key e.0 (n ∷ []))) tree)
        ≡ (q == 0 || is_listed q (remove_entry (is_at (order g)) facets))
    known_less q =
        ap is_some (lookup-filter q (n ∷ []) tree)
        ∙ ap (λ c. is_some (cond c None (value_at q tree))) (one_key q n)
        ∙ by (value_at q tree) (q == n) (q == 0) (is_listed q facets) not_first (b.known q)
        ∙ ap (λ c. q == 0 || c) (sym (listed_less (is_at (order g)) q n facets found b.own_facets.apart))
      where
        not_first : (q == n) ≡ true → (q == 0) ≡ false
        not_first is = grind (arith, nat_tests, is, some)

        by : (o : Option ℕ) (c z l : Bool) → (c ≡ true → z ≡ false) → is_some o ≡ (z || l)
            → is_some (cond c None o) ≡ (z || (l && not c))
        by o true true l unlike k = absurd (let clash : true ≡ false = unlike refl in cc)
        by o true false true unlike k = refl
        by o true false false unlike k = refl
        by o false z true unlike k = k
        by o false z false unlike k = k

    keys_less : (test : ℕ → Bool) (es : Tree) → keys_of (filter (λ e. test e.0) es) ≡ filter test (keys_of es)
    keys_less test [] = refl
    keys_less test (e ∷ es) = by (test e.0) (keys_less test es)
      where
        by : (c : Bool) → keys_of (filter (λ d. test d.0) es) ≡ filter test (keys_of es)
            → keys_of (cond c (e ∷ filter (λ d. test d.0) es) (filter (λ d. test d.0) es))
            ≡ cond c (e.0 ∷ filter test (keys_of es)) (filter test (keys_of es))
        by true later = ap (λ ks. e.0 ∷ ks) later
        by false later = later

    built_less : AreBuilt (remove_entry (is_at (order g)) facets) (filter (λ e. not (is_key e.0 (n ∷ []))) tree)
    built_less = record {
      rooted = rooted_less n tree some b.rooted;
      ascends =
          subst (IsStrictlySortedBy nat_cmp) (sym (keys_less (λ k. not (is_key k (n ∷ []))) tree))
          (IsStrictlySortedBy-filter nat_cmp (λ k. not (is_key k (n ∷ []))) (keys_of tree) b.ascends);
      known = known_less;
      own_facets = own_facets_less g n facets tree found b.own_facets;
    }

-- ---- the actor's rows, keys and facets; of the spare facet alone it isn't known whether a row stands in it

pub record Dwells (group : Plain → Option Plain) (a : ℕ) (spare : Option ℕ) (handles : List (Plain × ℕ))
    (facets : Facets) (t : TableState) : Type 0 where
  pub table : IsTable t
  pub live : is_live a t ≡ true
  pub handles_ascend : Ascend (keys_of handles)
  pub facets_ascend : Ascend (keys_of facets)
  pub below : (k : Plain) (h : ℕ) → handle_for k handles ≡ Some h → h < t.next
  pub own : (k : Plain) (h : ℕ) (r : Row) → handle_for k handles ≡ Some h → find_row h t.rows ≡ Some r → r.owner ≡ a
  pub home : (k : Plain) (h : ℕ) (r : Row) → handle_for k handles ≡ Some h → find_row h t.rows ≡ Some r
      → facet_for (group k) facets ≡ Some r.facet
  pub others : (h : ℕ) (r : Row) → find_row h t.rows ≡ Some r → r.owner ≡ a → IsUnder h handles ⊎ (r.facet ≡ 0)
  pub built : AreBuilt facets (tree_of a t)
  pub lived_in : (f : ℕ) → is_listed f facets ≡ true → (spare ≡ Some f) ⊎ IsLivedIn a f t.rows

-- ---- what is found in a list with an entry more or less

pub taken : {X : Type 0} (b : Bool) (o : Option X) (x : X) → cond b None o ≡ Some x → (b ≡ false) × (o ≡ Some x)
taken true o x e = absurd cc
taken false o x e = (refl, e)

pub given : {X : Type 0} (b : Bool) (o : Option X) (y x : X) → cond b (Some y) o ≡ Some x
    → ((b ≡ true) × (y ≡ x)) ⊎ ((b ≡ false) × (o ≡ Some x))
given true o y x e = inl (refl, cc)
given false o y x e = inr (refl, e)

same_number : (h g : ℕ) → (h == g) ≡ true → h ≡ g
same_number h g e = grind (arith, nat_tests)

self_number : (h : ℕ) → (h == h) ≡ true
self_number h = grind (arith, nat_tests)

-- ---- the row under a handle goes

abbrev pub gone_at : Option ℕ → ℕ → Bool
gone_at None g = false
gone_at (Some h) g = h == g

pub record RowsGo (a : ℕ) (o : Option ℕ) (t u : TableState) : Type 0 where
  pub table : IsTable u
  pub live : is_live a u ≡ is_live a t
  pub next : u.next ≡ t.next
  pub trees : u.trees ≡ t.trees
  pub rows : (g : ℕ) → find_row g u.rows ≡ cond (gone_at o g) None (find_row g t.rows)

pub rows_go : (a : ℕ) (o : Option ℕ) (p : Plan) → IsTable p.table
    → ((h : ℕ) (r : Row) → o ≡ Some h → find_row h p.table.rows ≡ Some r → r.owner ≡ a)
    → RowsGo a o p.table (drop_met a o p).table
rows_go a None p k own = record { table = k; live = refl; next = refl; trees = refl; rows = λ g. refl }
rows_go a (Some h) p k own = by (find_row h p.table.rows) refl
  where
    nothing : find_row h p.table.rows ≡ None → (g : ℕ) (b : Bool) → (h == g) ≡ b
        → find_row g p.table.rows ≡ cond b None (find_row g p.table.rows)
    nothing none g true here = ap (λ (n : ℕ). find_row n p.table.rows) (sym (same_number h g here)) ∙ none
    nothing none g false other = refl

    drops : (r : Row) → find_row h p.table.rows ≡ Some r → RowsGo a (Some h) p.table (drop_row r p).table
    drops r found = record {
      table = retracted_table r.handle p.table k;
      live = refl;
      next = refl;
      trees = refl;
      rows = λ g.
          find_row-without g r.handle p.table.rows
          ∙ ap (λ n. cond (n == g) None (find_row g p.table.rows)) (found_handle h p.table.rows r found);
    }

    by : (q : Option Row) → find_row h p.table.rows ≡ q → RowsGo a (Some h) p.table (drop_own a q p).table
    by None none = record {
      table = k;
      live = refl;
      next = refl;
      trees = refl;
      rows = λ g. nothing none g (h == g) refl;
    }
    by (Some r) found =
        let owner : r.owner ≡ a = own h r refl found in
        let owns : (r.owner == a) ≡ true = grind (arith, nat_tests, owner) in
        subst (λ b. RowsGo a (Some h) p.table (cond b (drop_row r p) p).table) (sym owns) (drops r found)

module _ (group : Plain → Option Plain) (a : ℕ) (k : Plain) (handles : List (Plain × ℕ)) (facets : Facets)
    (t u : TableState) (d : Dwells group a None handles facets t) (go : RowsGo a (handle_for k handles) t u) where
  abbrev less : List (Plain × ℕ)
  less = remove_entry (is_at (order k)) handles

  found_less : (q : Plain) → handle_for q less ≡ cond (same k q) None (handle_for q handles)
  found_less q = lookup-without_entry order_total order_same q k handles d.handles_ascend

  was_kept : (q : Plain) (h : ℕ) → handle_for q less ≡ Some h
      → (same k q ≡ false) × (handle_for q handles ≡ Some h)
  was_kept q h e = taken (same k q) (handle_for q handles) h (sym (found_less q) ∙ e)

  was_there : (h : ℕ) (r : Row) → find_row h u.rows ≡ Some r
      → (gone_at (handle_for k handles) h ≡ false) × (find_row h t.rows ≡ Some r)
  was_there h r e = taken (gone_at (handle_for k handles) h) (find_row h t.rows) r (sym (go.rows h) ∙ e)

  -- the handle of a row that is still there isn't the key's
  still_under : (h : ℕ) → gone_at (handle_for k handles) h ≡ false → IsUnder h handles → IsUnder h less
  still_under h stays under = (under.0, found_less under.0 ∙ by (same k under.0) refl)
    where
      by : (b : Bool) → same k under.0 ≡ b → cond b None (handle_for under.0 handles) ≡ Some h
      by false other = under.1
      by true here =
          let at_key : handle_for k handles ≡ Some h =
          ap (λ z. handle_for z handles) (same_is k under.0 here) ∙ under.1 in
          let clash : true ≡ false = sym (self_number h) ∙ ap (λ o. gone_at o h) (sym at_key) ∙ stays in
          absurd cc

  -- a row that has gone stood in the facet of the key's group
  gone_from : (h : ℕ) (r : Row) → find_row h t.rows ≡ Some r → (o : Option ℕ) → handle_for k handles ≡ o
      → gone_at o h ≡ true → facet_for (group k) facets ≡ Some r.facet
  gone_from h r found None at is = absurd cc
  gone_from h r found (Some g) at is = d.home k h r (at ∙ ap Some (same_number g h is)) found

  tree_stays : tree_of a t ≡ tree_of a u
  tree_stays = ap (λ ts. unwrap_or (value_at a ts) []) (sym go.trees)

  lived_less : (f : ℕ) → (None ≡ Some f) ⊎ IsLivedIn a f t.rows
      → (facet_for (group k) facets ≡ Some f) ⊎ IsLivedIn a f u.rows
  lived_less f (inl none) = absurd cc
  lived_less f (inr l) = by (gone_at (handle_for k handles) l.handle) refl
    where
      by : (b : Bool) → gone_at (handle_for k handles) l.handle ≡ b
          → (facet_for (group k) facets ≡ Some f) ⊎ IsLivedIn a f u.rows
      by true is =
          inl (gone_from l.handle l.row l.stands (handle_for k handles) refl is ∙ ap Some l.facet)
      by false is = inr (record {
        handle = l.handle;
        row = l.row;
        stands = go.rows l.handle ∙ ap (λ b. cond b None (find_row l.handle t.rows)) is ∙ l.stands;
        owner = l.owner;
        facet = l.facet;
      })

  pub gone_dwells : Dwells group a (facet_for (group k) facets) less facets u
  gone_dwells = record {
    table = go.table;
    live = go.live ∙ d.live;
    handles_ascend = remove_entry_ascends order (is_at (order k)) handles d.handles_ascend;
    facets_ascend = d.facets_ascend;
    below = λ q h e. subst (λ n. h < n) (sym go.next) (d.below q h (was_kept q h e).1);
    own = λ q h r e found. d.own q h r (was_kept q h e).1 (was_there h r found).1;
    home = λ q h r e found. d.home q h r (was_kept q h e).1 (was_there h r found).1;
    others = λ h r found owner.
        let was = was_there h r found in
        elim (d.others h r was.1 owner) [
          | inl under ↦ inl (still_under h was.0 under)
          | inr first ↦ inr first
        ];
    built = subst (AreBuilt facets) tree_stays d.built;
    lived_in = λ f is. lived_less f (d.lived_in f is);
  }

-- ---- the facet of a group goes where it is empty

module _ (group : Plain → Option Plain) (a : ℕ) (handles : List (Plain × ℕ)) (facets : Facets) (t : TableState) where
  -- a row stands in the spare facet too, if it is listed
  settled : (spare : Option ℕ) → ((f : ℕ) → is_listed f facets ≡ true → spare ≡ Some f → IsLivedIn a f t.rows)
      → Dwells group a spare handles facets t → Dwells group a None handles facets t
  settled spare there d = record {
    table = d.table;
    live = d.live;
    handles_ascend = d.handles_ascend;
    facets_ascend = d.facets_ascend;
    below = d.below;
    own = d.own;
    home = d.home;
    others = d.others;
    built = d.built;
    lived_in = λ f is. elim (d.lived_in f is) [
      | inl spared ↦ inr (there f is spared)
      | inr l ↦ inr l
    ];
  }

  -- one facet may be spared
  spared : (spare : Option ℕ) → Dwells group a None handles facets t → Dwells group a spare handles facets t
  spared spare d = record {
    table = d.table;
    live = d.live;
    handles_ascend = d.handles_ascend;
    facets_ascend = d.facets_ascend;
    below = d.below;
    own = d.own;
    home = d.home;
    others = d.others;
    built = d.built;
    lived_in = λ f is. elim (d.lived_in f is) [
      | inl none ↦ absurd cc
      | inr l ↦ inr l
    ];
  }

  with_trees_table : (trees : List (ℕ × Tree)) → IsTable t → IsTable (record t { trees = trees })
  with_trees_table trees k = record {
    rows_ascend = k.rows_ascend;
    rows_below_next = k.rows_below_next;
    actors_ascend = k.actors_ascend;
    owners_live = k.owners_live;
  }

  -- an empty facet goes
  module _ (x : Plain) (n : ℕ) (found : facet_for (Some x) facets ≡ Some n) (none : has_rows a n t ≡ false)
      (d : Dwells group a (Some n) handles facets t) where
    abbrev fewer : Facets
    fewer = remove_entry (is_at (order x)) facets

    still_home : (g : Option Plain) (h : ℕ) (r : Row) → find_row h t.rows ≡ Some r → r.owner ≡ a
        → facet_for g facets ≡ Some r.facet → facet_for g fewer ≡ Some r.facet
    still_home None h r there owner e = e
    still_home (Some y) h r there owner e =
        lookup-without_entry order_total order_same y x facets d.facets_ascend ∙ by (same x y) refl
      where
        by : (b : Bool) → same x y ≡ b → cond b None (facet_for (Some y) facets) ≡ Some r.facet
        by false other = e
        by true here =
            let one : Some r.facet ≡ Some n =
            sym e ∙ ap (λ z. facet_for (Some z) facets) (sym (same_is x y here)) ∙ found in
            let facet : r.facet ≡ n = cc in
            let clash : true ≡ false = sym (has_rows_of a n h r t there owner facet) ∙ none in
            absurd cc

    still_lived : (f : ℕ) → is_listed f fewer ≡ true → (None ≡ Some f) ⊎ IsLivedIn a f t.rows
    still_lived f is =
        let both = both_hold (is_listed f facets) (f == n)
        (sym (listed_less (is_at (order x)) f n facets found d.built.own_facets.apart) ∙ is) in
        elim (d.lived_in f both.0) [
          | inl here ↦
              absurd (let one : n ≡ f = cc in
              let clash : true ≡ false = sym (self_number f) ∙ ap (λ m. f == m) (sym one) ∙ both.1 in cc)
          | inr l ↦ inr l
        ]
      where
        both_hold : (b c : Bool) → (b && not c) ≡ true → (b ≡ true) × (c ≡ false)
        both_hold true true is = absurd cc
        both_hold true false is = (refl, refl)
        both_hold false c is = absurd cc

    tree_less : filter (λ e. not (is_key e.0 (n ∷ []))) (tree_of a t) ≡ tree_of a (without_facets a (n ∷ []) t)
    tree_less = sym (tree_without a (n ∷ []) t (tree_of_facet a 0 t d.built.rooted.root))

    emptied : Dwells group a None handles fewer (record t { trees = (without_facets a (n ∷ []) t).trees })
    emptied = record {
      table = with_trees_table (without_facets a (n ∷ []) t).trees d.table;
      live = d.live;
      handles_ascend = d.handles_ascend;
      facets_ascend = remove_entry_ascends order (is_at (order x)) facets d.facets_ascend;
      below = d.below;
      own = d.own;
      home = λ k h r e there. still_home (group k) h r there (d.own k h r e there) (d.home k h r e there);
      others = d.others;
      built =
          subst (AreBuilt fewer) tree_less
          (built_less x n facets (tree_of a t)
          (own_facet_passes (IsOwnFacet (tree_of a t)) (is_at (order x)) n facets found d.built.own_facets.there).0
          d.built found);
      lived_in = still_lived;
    }

  abbrev AreReleased : Released → Type 0
  AreReleased v = Dwells group a None handles v.facets (record t { trees = v.trees })

  pub released_dwells : (g : Option Plain) → Dwells group a (facet_for g facets) handles facets t
      → AreReleased (released a g facets t)
  released_dwells None d =
      settled (Some 0)
      (λ f is first. absurd (let same : 0 ≡ f = cc in
      let some = some_listed f facets (tree_of a t) d.built is in omega (arith, same, some))) d
  released_dwells (Some x) d = by (facet_for (Some x) facets) refl d
    where
      kept : Released
      kept = record { facets = facets; trees = t.trees }

      at : (n : ℕ) → facet_for (Some x) facets ≡ Some n → Dwells group a (Some n) handles facets t → (b : Bool)
          → has_rows a n t ≡ b → AreReleased (cond b kept (record {
            facets = remove_entry (is_at (order x)) facets;
            trees = (without_facets a (n ∷ []) t).trees;
          }))
      at n found d true is =
          settled (Some n)
          (λ f there here. let same : n ≡ f = cc in
          subst (λ (m : ℕ). IsLivedIn a m t.rows) same (lived_in_of a n t d.table is)) d
      at n found d false is = emptied x n found is d

      by : (o : Option ℕ) → facet_for (Some x) facets ≡ o → Dwells group a o handles facets t
          → AreReleased (released_at a x o facets t)
      by None none d = settled None (λ f is nothing. absurd cc) d
      by (Some n) found d = at n found d (has_rows a n t) refl

  -- ---- a row is to come: its facet is there, or is made

  pub record HaveOwnFacetsIn (g : Option Plain) (h : Allocated) : Type 0 where
    pub dwells : Dwells group a (Some h.facet) handles h.facets (record t { trees = h.trees })
    pub home : facet_for g h.facets ≡ Some h.facet

  module _ (d : Dwells group a None handles facets t) where
    -- a facet is made
    module _ (x : Plain) (none : facet_for (Some x) facets ≡ None) where
      abbrev number : ℕ
      number = least_free (tree_of a t)

      abbrev more_facets : Facets
      more_facets = insert_entry order facets x number

      found_more : (y : Plain) → facet_for (Some y) more_facets
          ≡ cond (same x y) (Some number) (facet_for (Some y) facets)
      found_more y = lookup-insert_entry order_total order_same y x number facets

      also_home : (g : Option Plain) (f : ℕ) → facet_for g facets ≡ Some f → facet_for g more_facets ≡ Some f
      also_home None f e = e
      also_home (Some y) f e = found_more y ∙ by (same x y) refl
        where
          by : (b : Bool) → same x y ≡ b → cond b (Some number) (facet_for (Some y) facets) ≡ Some f
          by false other = e
          by true here =
              let clash : None ≡ Some f =
              sym none ∙ ap (λ z. facet_for (Some z) facets) (same_is x y here) ∙ e in
              absurd cc

      also_lived : (f : ℕ) → is_listed f more_facets ≡ true → (Some number ≡ Some f) ⊎ IsLivedIn a f t.rows
      also_lived f is = by (f == number) refl (sym (listed_more f x number facets none) ∙ is)
        where
          by : (b : Bool) → (f == number) ≡ b → (b || is_listed f facets) ≡ true
              → (Some number ≡ Some f) ⊎ IsLivedIn a f t.rows
          by true here there = inl (ap Some (sym (same_number f number here)))
          by false other there = elim (d.lived_in f there) [
            | inl nothing ↦ absurd cc
            | inr l ↦ inr l
          ]

      tree_more : insert_entry nat_cmp (tree_of a t) number 0 ≡ tree_of a (faceted a 0 number t)
      tree_more = sym (tree_faceted a 0 number t (tree_of_facet a 0 t d.built.rooted.root))

      first_allocated_in : HaveOwnFacetsIn (Some x)
          (record { facet = number; facets = more_facets; trees = (faceted a 0 number t).trees })
      first_allocated_in =
          let is_new = least_is_new (tree_of a t) d.built.ascends in
          record {
            dwells = record {
              table = with_trees_table (faceted a 0 number t).trees d.table;
              live = d.live;
              handles_ascend = d.handles_ascend;
              facets_ascend = insert_entry_ascends order_total order_same x number facets d.facets_ascend;
              below = d.below;
              own = d.own;
              home = λ k h r e there. also_home (group k) r.facet (d.home k h r e there);
              others = d.others;
              built =
                  subst (AreBuilt more_facets) tree_more
                  (built_more x number facets (tree_of a t) is_new.0 d.built is_new.1 none);
              lived_in = also_lived;
            };
            home = found_more x ∙ ap (λ b. cond b (Some number) (facet_for (Some x) facets)) (same_self x);
          }

    pub allocated_dwells : (g : Option Plain) → HaveOwnFacetsIn g (allocated a g facets t)
    allocated_dwells None = record { dwells = spared (Some 0) d; home = refl }
    allocated_dwells (Some x) = by (facet_for (Some x) facets) refl
      where
        by : (o : Option ℕ) → facet_for (Some x) facets ≡ o → HaveOwnFacetsIn (Some x)
            (allocated_at a (Some x) o facets t)
        by None none = first_allocated_in x none
        by (Some n) found = record { dwells = spared (Some n) d; home = found }

-- ---- a row comes for a new key, in a facet that is there

module _ (group : Plain → Option Plain) (a n target entity : ℕ) (v k : Plain) (handles : List (Plain × ℕ))
    (facets : Facets) (t : TableState) (d : Dwells group a (Some n) handles facets t)
    (home : facet_for (group k) facets ≡ Some n) (none : handle_for k handles ≡ None) where
  abbrev more_handles : List (Plain × ℕ)
  more_handles = insert_entry order handles k t.next

  abbrev row : Row
  row = row_next a n target entity v t

  abbrev after : TableState
  after = asserted a n target entity v t

  found_kept : (q : Plain) → handle_for q more_handles ≡ cond (same k q) (Some t.next) (handle_for q handles)
  found_kept q = lookup-insert_entry order_total order_same q k t.next handles

  found_row : (h : ℕ) → find_row h after.rows ≡ cond (t.next == h) (Some row) (find_row h t.rows)
  found_row h = find_row-asserted h a n target entity v t d.table

  is_kept : (q : Plain) (h : ℕ) → handle_for q more_handles ≡ Some h
      → ((same k q ≡ true) × (t.next ≡ h)) ⊎ ((same k q ≡ false) × (handle_for q handles ≡ Some h))
  is_kept q h e = given (same k q) (handle_for q handles) t.next h (sym (found_kept q) ∙ e)

  is_there : (h : ℕ) (r : Row) → find_row h after.rows ≡ Some r
      → (((t.next == h) ≡ true) × (row ≡ r)) ⊎ (((t.next == h) ≡ false) × (find_row h t.rows ≡ Some r))
  is_there h r e = given (t.next == h) (find_row h t.rows) row r (sym (found_row h) ∙ e)

  -- what is so of a key and its row, if it is of the new one and of each old one
  each_kept : (P : Plain → Row → Type 0) → P k row
      → ((q : Plain) (h : ℕ) (r : Row) → handle_for q handles ≡ Some h → find_row h t.rows ≡ Some r → P q r)
      → (q : Plain) (h : ℕ) (r : Row) → handle_for q more_handles ≡ Some h → find_row h after.rows ≡ Some r → P q r
  each_kept P first rest q h r e found = elim (is_kept q h e) [
    | inl one ↦ elim (is_there h r found) [
      | inl here ↦ subst (λ z. P z r) (same_is k q one.0) (subst (P k) here.1 first)
      | inr past ↦
          absurd (let clash : true ≡ false =
          sym (self_number t.next) ∙ ap (λ m. t.next == m) one.1 ∙ past.0 in cc)
    ]
    | inr old ↦ elim (is_there h r found) [
      | inl here ↦
          absurd (let l = d.below q h old.1 in let same : t.next ≡ h = same_number t.next h here.0 in
          omega (arith, l, same))
      | inr past ↦ rest q h r old.1 past.1
    ]
  ]

  also_under : (h : ℕ) → IsUnder h handles → IsUnder h more_handles
  also_under h under = (under.0, found_kept under.0 ∙ by (same k under.0) refl)
    where
      by : (b : Bool) → same k under.0 ≡ b → cond b (Some t.next) (handle_for under.0 handles) ≡ Some h
      by false other = under.1
      by true here =
          let clash : None ≡ Some h =
          sym none ∙ ap (λ z. handle_for z handles) (same_is k under.0 here) ∙ under.1 in
          absurd cc

  new_found : find_row t.next after.rows ≡ Some row
  new_found = found_row t.next ∙ ap (λ b. cond b (Some row) (find_row t.next t.rows)) (self_number t.next)

  new_under : IsUnder t.next more_handles
  new_under = (k, found_kept k ∙ ap (λ b. cond b (Some t.next) (handle_for k handles)) (same_self k))

  pub come_dwells : Dwells group a None more_handles facets after
  come_dwells = record {
    table = asserted_table a n target entity v t d.table d.live;
    live = d.live;
    handles_ascend = insert_entry_ascends order_total order_same k t.next handles d.handles_ascend;
    facets_ascend = d.facets_ascend;
    below = λ q h e. elim (is_kept q h e) [
      | inl one ↦ omega (arith, one.1)
      | inr old ↦ (let l = d.below q h old.1 in omega (arith, l))
    ];
    own = each_kept (λ q r. r.owner ≡ a) refl d.own;
    home = each_kept (λ q r. facet_for (group q) facets ≡ Some r.facet) home d.home;
    others = λ h r found owner. elim (is_there h r found) [
      | inl here ↦ inl (subst (λ (m : ℕ). IsUnder m more_handles) (same_number t.next h here.0) new_under)
      | inr past ↦ elim (d.others h r past.1 owner) [
        | inl under ↦ inl (also_under h under)
        | inr first ↦ inr first
      ]
    ];
    built = d.built;
    lived_in = λ f is. elim (d.lived_in f is) [
      | inl here ↦ inr (record {
        handle = t.next;
        row = row;
        stands = new_found;
        owner = refl;
        facet = (let same : n ≡ f = cc in same);
      })
      | inr l ↦ inr (record {
        handle = l.handle;
        row = l.row;
        stands = find_row-push_old l.handle t.rows row l.row l.stands;
        owner = l.owner;
        facet = l.facet;
      })
    ];
  }
