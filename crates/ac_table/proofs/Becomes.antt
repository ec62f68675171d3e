-- What contracts see of each change.
use Rattle.std.proofs.Common.{◌≡◌, ℕ, ◌+◌, List, [], ◌∷◌, ◌++◌, map, ap, ◌∙◌, Some, None, drop, sym, not, filter}
use Rattle.std.specs.BTreeMap.{is_at, insert_entry}
use Rattle.std.specs.Map.{values_of, remove_entry, set_value}
use Rattle.std.specs.Ordering.{nat_cmp}
use Rattle.ac_table.specs.Tables.{Row, Batch, TableState, joined, asserted, retracted, ended, pushed, popped}
use Rattle.ac_table.specs.Facets.{Tree, root_alone}
use Rattle.ac_table.specs.Placed.{FacetState, tree_in, bare}
use Rattle.ac_table.specs.Tables.{placed, rows_of_others, without_row, tree_of, faceted, without_facets, stands_in}
use Rattle.ac_table.specs.Kept.{by_handle, seen, tree_seen, state_of, value_at, is_key, KeysAscend}
use Rattle.ac_table.specs.declared.table.LiveActor.{LiveActor}
use Rattle.ac_table.proofs.Changes.{seen-set_value, seen-set_same, seen-insert, seen-remove, values-push, trees-insert}
use Rattle.ac_table.proofs.Changes.{trees-remove, trees-set, trees-same, tree-seen, tree_at}

pub joined_is : (a next : ℕ) (s : LiveActor) (rows : List (ℕ × Row)) (actors new : List (ℕ × LiveActor))
    (t : TableState)
    → state_of next rows actors ≡ t → value_at a actors ≡ None → s.inbox ≡ [] → s.facets ≡ (0, bare 0) ∷ []
    → new ≡ insert_entry nat_cmp actors a s → state_of next rows new ≡ joined a t
joined_is a next s rows actors new t view none empty facets is =
    let seen_same : map seen new ≡ placed (record { number = a; inbox = [] }) (map seen actors) =
    ap (map seen) is ∙ seen-insert a s actors none
    ∙ ap (λ (b : List Batch). placed (record { number = a; inbox = b }) (map seen actors)) empty in
    let trees : map tree_seen new ≡ insert_entry nat_cmp (map tree_seen actors) a root_alone =
    ap (map tree_seen) is ∙ trees-insert a s actors
    ∙ ap (λ (fs : List (ℕ × FacetState)). insert_entry nat_cmp (map tree_seen actors) a (tree_in fs)) facets in
    let here : state_of next rows new ≡ joined a (state_of next rows actors) =
    λ i. record { next = next; rows = values_of rows; actors = seen_same i; trees = trees i } in
    here ∙ ap (joined a) view

pub asserted_is : (a next : ℕ) (s u : LiveActor) (row : Row) (rows more : List (ℕ × Row))
    (actors new : List (ℕ × LiveActor))
    (t : TableState) → state_of next rows actors ≡ t → row.handle ≡ next → row.owner ≡ a
    → more ≡ rows ++ by_handle row ∷ []
    → value_at a actors ≡ Some s → u.inbox ≡ s.inbox → tree_in u.facets ≡ tree_in s.facets
    → new ≡ set_value (is_at (nat_cmp a)) actors u
    → state_of (next + 1) more new ≡ asserted a row.facet row.target row.entity row.value t
asserted_is a next s u row rows more actors new t view handle owner more_is was same tree is =
    let rows_is : values_of more ≡ values_of rows ++ row ∷ [] = ap values_of more_is ∙ values-push rows row in
    let row_is : row ≡ record {
      handle = next;
      owner = a;
      facet = row.facet;
      target = row.target;
      entity = row.entity;
      value = row.value;
    } = λ i. record {
      handle = handle i;
      owner = owner i;
      facet = row.facet;
      target = row.target;
      entity = row.entity;
      value = row.value;
    } in
    let all : values_of more ≡ values_of rows ++ record {
      handle = next;
      owner = a;
      facet = row.facet;
      target = row.target;
      entity = row.entity;
      value = row.value;
    } ∷ [] =
    rows_is ∙ ap (λ (r : Row). values_of rows ++ r ∷ []) row_is in
    let seen_same : map seen new ≡ map seen actors = ap (map seen) is ∙ seen-set_same a s u actors was same in
    let trees : map tree_seen new ≡ map tree_seen actors = ap (map tree_seen) is ∙ trees-same a s u actors was tree in
    let here : state_of (next + 1) more new
    ≡ asserted a row.facet row.target row.entity row.value (state_of next rows actors) =
    λ i. record { next = next + 1; rows = all i; actors = seen_same i; trees = trees i } in
    here ∙ ap (asserted a row.facet row.target row.entity row.value) view

pub retracted_is : (h next : ℕ) (rows less : List (ℕ × Row)) (actors new : List (ℕ × LiveActor)) (t : TableState)
    → state_of next rows actors ≡ t → values_of less ≡ without_row h (values_of rows) → map seen new ≡ map seen actors
    → map tree_seen new ≡ map tree_seen actors → state_of next less new ≡ retracted h t
retracted_is h next rows less actors new t view rows_is seen_same trees =
    let here : state_of next less new ≡ retracted h (state_of next rows actors) =
    λ i. record { next = next; rows = rows_is i; actors = seen_same i; trees = trees i } in
    here ∙ ap (retracted h) view

pub ended_is : (a next : ℕ) (rows less : List (ℕ × Row)) (actors new : List (ℕ × LiveActor)) (t : TableState)
    → state_of next rows actors ≡ t → values_of less ≡ rows_of_others a (values_of rows) → KeysAscend actors
    → new ≡ remove_entry (is_at (nat_cmp a)) actors → state_of next less new ≡ ended a t
ended_is a next rows less actors new t view rows_is ascend is =
    let seen_same = ap (map seen) is ∙ seen-remove a actors ascend in
    let trees : map tree_seen new ≡ remove_entry (is_at (nat_cmp a)) (map tree_seen actors) =
    ap (map tree_seen) is ∙ trees-remove a actors in
    let here : state_of next less new ≡ ended a (state_of next rows actors) =
    λ i. record { next = next; rows = rows_is i; actors = seen_same i; trees = trees i } in
    here ∙ ap (ended a) view

pub same_is : (a next : ℕ) (s u : LiveActor) (rows : List (ℕ × Row)) (actors new : List (ℕ × LiveActor))
    (t : TableState)
    → state_of next rows actors ≡ t → value_at a actors ≡ Some s → u.inbox ≡ s.inbox
    → tree_in u.facets ≡ tree_in s.facets → new ≡ set_value (is_at (nat_cmp a)) actors u → state_of next rows new ≡ t
same_is a next s u rows actors new t view was same tree is =
    let seen_same : map seen new ≡ map seen actors = ap (map seen) is ∙ seen-set_same a s u actors was same in
    let trees : map tree_seen new ≡ map tree_seen actors = ap (map tree_seen) is ∙ trees-same a s u actors was tree in
    let here : state_of next rows new ≡ state_of next rows actors =
    λ i. record { next = next; rows = values_of rows; actors = seen_same i; trees = trees i } in
    here ∙ view

pub pushed_is : (a next : ℕ) (b : Batch) (s u : LiveActor) (rows : List (ℕ × Row)) (actors new : List (ℕ × LiveActor))
    (t : TableState) → state_of next rows actors ≡ t → value_at a actors ≡ Some s
    → u.inbox ≡ s.inbox ++ b ∷ [] → tree_in u.facets ≡ tree_in s.facets
    → new ≡ set_value (is_at (nat_cmp a)) actors u → state_of next rows new ≡ pushed a b t
pushed_is a next b s u rows actors new t view was more tree is =
    let seen_same = ap (map seen) is ∙ seen-set_value a (λ bs. bs ++ b ∷ []) s u actors was more in
    let trees : map tree_seen new ≡ map tree_seen actors = ap (map tree_seen) is ∙ trees-same a s u actors was tree in
    let here : state_of next rows new ≡ pushed a b (state_of next rows actors) =
    λ i. record { next = next; rows = values_of rows; actors = seen_same i; trees = trees i } in
    here ∙ ap (pushed a b) view

pub popped_is : (a next : ℕ) (s u : LiveActor) (rows : List (ℕ × Row)) (actors new : List (ℕ × LiveActor))
    (t : TableState)
    → state_of next rows actors ≡ t → value_at a actors ≡ Some s → u.inbox ≡ drop 1 s.inbox
    → tree_in u.facets ≡ tree_in s.facets → new ≡ set_value (is_at (nat_cmp a)) actors u
    → state_of next rows new ≡ popped a t
popped_is a next s u rows actors new t view was less tree is =
    let seen_same = ap (map seen) is ∙ seen-set_value a (drop 1) s u actors was less in
    let trees : map tree_seen new ≡ map tree_seen actors = ap (map tree_seen) is ∙ trees-same a s u actors was tree in
    let here : state_of next rows new ≡ popped a (state_of next rows actors) =
    λ i. record { next = next; rows = values_of rows; actors = seen_same i; trees = trees i } in
    here ∙ ap (popped a) view

-- the tree of an actor
pub tree_is : (a next : ℕ) (s : LiveActor) (rows : List (ℕ × Row)) (actors : List (ℕ × LiveActor))
    → value_at a actors ≡ Some s
    → tree_of a (state_of next rows actors) ≡ tree_in s.facets
tree_is a next s rows actors was = tree-seen a actors ∙ ap tree_at was

pub no_tree : (a next : ℕ) (rows : List (ℕ × Row)) (actors : List (ℕ × LiveActor)) → value_at a actors ≡ None
    → tree_of a (state_of next rows actors) ≡ []
no_tree a next rows actors none = tree-seen a actors ∙ ap tree_at none

pub faceted_is : (a p n next : ℕ) (s u : LiveActor) (rows : List (ℕ × Row)) (actors new : List (ℕ × LiveActor))
    (t : TableState)
    → state_of next rows actors ≡ t → value_at a actors ≡ Some s → u.inbox ≡ s.inbox
    → tree_in u.facets ≡ insert_entry nat_cmp (tree_in s.facets) n p → new ≡ set_value (is_at (nat_cmp a)) actors u
    → state_of next rows new ≡ faceted a p n t
faceted_is a p n next s u rows actors new t view was same tree is =
    let seen_same : map seen new ≡ map seen actors = ap (map seen) is ∙ seen-set_same a s u actors was same in
    let grown : tree_in u.facets ≡ insert_entry nat_cmp (tree_of a (state_of next rows actors)) n p =
    tree ∙ ap (λ (t : Tree). insert_entry nat_cmp t n p) (sym (tree_is a next s rows actors was)) in
    let trees : map tree_seen new ≡ set_value (is_at (nat_cmp a)) (map tree_seen actors)
    (insert_entry nat_cmp (tree_of a (state_of next rows actors)) n p) =
    ap (map tree_seen) is ∙ trees-set a u actors ∙ ap (set_value (is_at (nat_cmp a)) (map tree_seen actors)) grown in
    let here : state_of next rows new ≡ faceted a p n (state_of next rows actors) =
    λ i. record { next = next; rows = values_of rows; actors = seen_same i; trees = trees i } in
    here ∙ ap (faceted a p n) view

pub stopped_is : (a next : ℕ) (gs : List ℕ) (s u : LiveActor) (rows less : List (ℕ × Row))
    (actors new : List (ℕ × LiveActor))
    (t : TableState) → state_of next rows actors ≡ t → value_at a actors ≡ Some s → u.inbox ≡ s.inbox
    → tree_in u.facets ≡ filter (λ e. not (is_key e.0 gs)) (tree_in s.facets)
    → values_of less ≡ filter (λ r. not (stands_in a gs r)) (values_of rows)
    → new ≡ set_value (is_at (nat_cmp a)) actors u → state_of next less new ≡ without_facets a gs t
stopped_is a next gs s u rows less actors new t view was same tree rows_is is =
    let seen_same : map seen new ≡ map seen actors = ap (map seen) is ∙ seen-set_same a s u actors was same in
    let left : tree_in u.facets ≡ filter (λ e. not (is_key e.0 gs)) (tree_of a (state_of next rows actors)) =
    tree ∙ ap (λ (t : Tree). filter (λ e. not (is_key e.0 gs)) t) (sym (tree_is a next s rows actors was)) in
    let trees : map tree_seen new ≡ set_value (is_at (nat_cmp a)) (map tree_seen actors)
    (filter (λ e. not (is_key e.0 gs)) (tree_of a (state_of next rows actors))) =
    ap (map tree_seen) is ∙ trees-set a u actors ∙ ap (set_value (is_at (nat_cmp a)) (map tree_seen actors)) left in
    let here : state_of next less new ≡ without_facets a gs (state_of next rows actors) =
    λ i. record { next = next; rows = rows_is i; actors = seen_same i; trees = trees i } in
    here ∙ ap (without_facets a gs) view
