-- The laws of facets, in each state to which allowed steps lead.
use Rattle.std.proofs.Common.{◌≡◌, ◌≢◌, ℕ, zero, suc, ◌<◌, List, [], ◌∷◌, Bool, true, false, cond, ◌||◌, Option, Some}
use Rattle.std.proofs.Common.{None, option_map, inl, inr, refl, ap, sym, ◌∙◌, subst, arith}
use Rattle.std.specs.Prelude.{pos, slice_get, codes}
use Rattle.std.specs.BTreeMap.{is_at}
use Rattle.std.specs.Map.{lookup, values_of}
use Rattle.std.specs.Ordering.{nat_cmp}
use Rattle.std.proofs.lemmas.Bool.Decides.{nat_tests}
use Rattle.pv_value.specs.Plain.{Plain, integer, sequence, no_more, then_more}
use Rattle.pv_value.specs.Order.{order}
use Rattle.pv_words.specs.Words.{is_word}
use Rattle.pv_words.specs.Parts.{same}
use Rattle.ps_schema.specs.declared.Definition.{Definition}
use Rattle.gk_sturdy.specs.declared.bound.Binding.{Binding}
use Rattle.pv_words.specs.Lemmas.Same.{same_is}
use Rattle.ac_table.specs.Tables.{is_live}
use Rattle.ac_watch.specs.Watching.{made, value_at}
use Rattle.ac_world.specs.declared.aims.Aim.{Aim}
use Rattle.ac_world.specs.declared.watched.Watched.{Watched}
use Rattle.ac_world.specs.Aims.{observation_of}
use Rattle.ac_world.specs.Behaviours.{aim_in, behaviour_of, other}
use Rattle.ac_world.specs.Allocating.{Facets, AreApart, facet_for}
use Rattle.ac_world.specs.Watchers.{Task, task_of, watcher_of}
use Rattle.ac_world.specs.Worlds.{WorldState, Resident, resident_of}
use Rattle.ac_world.proofs.OwnFacets.{own_facet_passes}
use Rattle.hub_machine.specs.Replays.{replay}
use Rattle.hub_laws.specs.Wanting.{AreMet}
use Rattle.hub_laws.proofs.LawsHold.{wants}
use Rattle.hub_facets.specs.Laws.{Rooms, Roots, Comings, Nothings}
use Rattle.hub_facets.specs.Rooms.{is_listed, HasRooms, HasKey, ComeWithRows, NoneForNothing}
use Rattle.hub_facets.proofs.Dwelling.{Dwells, some_listed}
use Rattle.hub_facets.proofs.Listed.{at_is}
use Rattle.hub_facets.proofs.Steps.{replay_home}
use Rattle.hub_facets.proofs.Worlds.{groups_are, AreAtHome}

-- ---- in which facets rows stand

rooms_of : (group : Plain → Option Plain) (a : ℕ) (w : WorldState)
    → Dwells group a None (resident_of a w).handles (resident_of a w).facets w.table
    → HasRooms group a (resident_of a w) w.table
rooms_of group a w d = record {
  rows = d.home;
  others = d.others;
  facets = d.built.known;
  flat = d.built.rooted.flat;
  own_facets = d.built.own_facets;
  lived_in = λ f is. elim (d.lived_in f is) [
    | inl none ↦ absurd cc
    | inr l ↦ l
  ];
}

-- the groups are those of the actor's behaviour
dwells_of : (w : WorldState) → AreAtHome w → (a : ℕ) → a < 17 → is_live a w.table ≡ true
    → Dwells (behaviour_of w.schema w.bindings w.watches a).group a None (resident_of a w).handles
    (resident_of a w).facets w.table
dwells_of w s a low live =
    subst (λ group. Dwells group a None (resident_of a w).handles (resident_of a w).facets w.table)
    (sym (groups_are w.schema w.bindings w.watches a)) (s.system a low live)

pub rooms : Rooms
rooms ds steps may a low live =
    rooms_of _ a (replay ds steps).world (dwells_of (replay ds steps).world (replay_home ds steps may) a low live)

pub roots : Roots
roots ds steps may =
    let s = replay_home ds steps may in
    record { trees = s.roots; rows = s.rows }

-- ---- when a group has a facet

or_later : (b c : Bool) → c ≡ true → (b || c) ≡ true
or_later true c is = refl
or_later false c is = is

found_listed : (test : Plain → Bool) (f : ℕ) (fs : Facets) → lookup test fs ≡ Some f → is_listed f fs ≡ true
found_listed test f [] found = absurd cc
found_listed test f (e ∷ es) found = by (test e.0) found (found_listed test f es)
  where
    by : (b : Bool) → cond b (Some e.1) (lookup test es) ≡ Some f → (lookup test es ≡ Some f → is_listed f es ≡ true)
        → (is_at (nat_cmp f) e.1 || is_listed f es) ≡ true
    by true here later =
        let one : e.1 ≡ f = cc in
        let at : is_at (nat_cmp f) e.1 ≡ true = at_is f e.1 ∙ grind (arith, nat_tests, one) in
        ap (λ b. b || is_listed f es) at
    by false past later = or_later (is_at (nat_cmp f) e.1) (is_listed f es) (later past)

-- no two groups have one facet
one_group : (g q : Plain) (f : ℕ) (fs : Facets) → AreApart (values_of fs) → facet_for (Some g) fs ≡ Some f
    → facet_for (Some q) fs ≡ Some f → g ≡ q
one_group g q f [] apart e d = absurd cc
one_group g q f (x ∷ xs) apart e d = by (same g x.0) (same q x.0) refl refl e d (one_group g q f xs apart.1)
  where
    clash : (z : Plain) → x.1 ≡ f → facet_for (Some z) xs ≡ Some f → ⊥
    clash z one past = own_facet_passes (λ m. m ≢ x.1) (is_at (order z)) f xs past apart.0 (sym one)

    by : (b c : Bool) → same g x.0 ≡ b → same q x.0 ≡ c
        → cond b (Some x.1) (facet_for (Some g) xs) ≡ Some f → cond c (Some x.1) (facet_for (Some q) xs) ≡ Some f
        → (facet_for (Some g) xs ≡ Some f → facet_for (Some q) xs ≡ Some f → g ≡ q) → g ≡ q
    by true true m n e d later = same_is g x.0 m ∙ sym (same_is q x.0 n)
    by true false m n e d later = absurd (let one : x.1 ≡ f = cc in clash q one d)
    by false true m n e d later = absurd (let one : x.1 ≡ f = cc in clash g one e)
    by false false m n e d later = later e d

module _ (group : Plain → Option Plain) (a : ℕ) (w : WorldState)
    (d : Dwells group a None (resident_of a w).handles (resident_of a w).facets w.table) where
  abbrev own : Resident
  own = resident_of a w

  -- the facet in which a key's row stands is its group's
  group_is : (g k : Plain) (f : ℕ) → facet_for (Some g) own.facets ≡ Some f → facet_for (group k) own.facets ≡ Some f
      → (o : Option Plain) → group k ≡ o → group k ≡ Some g
  group_is g k f found at None is =
      absurd (let zero_is : Some 0 ≡ Some f = ap (λ o. facet_for o own.facets) (sym is) ∙ at in
      let one : 0 ≡ f = cc in
      let some = some_listed f own.facets _ d.built (found_listed (is_at (order g)) f own.facets found) in
      omega (arith, one, some))
  group_is g k f found at (Some q) is =
      is ∙ ap Some (one_group q g f own.facets d.built.own_facets.apart
      (ap (λ o. facet_for o own.facets) (sym is) ∙ at) found)

  has_key : (g : Plain) (f : ℕ) → facet_for (Some g) own.facets ≡ Some f → HasKey group g own
  has_key g f found =
      let listed : is_listed f own.facets ≡ true = found_listed (is_at (order g)) f own.facets found in
      elim (d.lived_in f listed) [
        | inl none ↦ absurd cc
        | inr l ↦ elim (d.others l.handle l.row l.stands l.owner) [
          | inl under ↦ record {
            key = under.0;
            handle = l.handle;
            kept = under.1;
            of_group = group_is g under.0 f found
                (d.home under.0 l.handle l.row under.1 l.stands ∙ ap Some l.facet) (group under.0) refl;
          }
          | inr first ↦
              absurd (let some = some_listed f own.facets _ d.built listed in
              let facet = l.facet in omega (arith, first, facet, some))
        ]
      ]

come_with_rows : (w : WorldState) → AreAtHome w → AreMet w → ComeWithRows w
come_with_rows w s met a low live g =
    let d = dwells_of w s a low live in (
      λ has. has_key (behaviour_of w.schema w.bindings w.watches a).group a w d g has.0 has.1,
      λ has.
          let row = (met a low live).rows_stand has.key has.handle has.kept in (
            row.row.facet,
            ap (λ o. facet_for o (resident_of a w).facets) (sym has.of_group)
                ∙ d.home has.key has.handle row.row has.kept row.stands,
          ),
    )

pub comings : Comings
comings ds steps may =
    come_with_rows (replay ds steps).world (replay_home ds steps may) (wants ds steps may)

-- ---- a list of no captures

made_nothing : (name : List ℕ) (i : ℕ) → is_word name (codes "each") ≡ true
    → slice_get (made name (sequence no_more)) i ≡ None
made_nothing name i each = rw each refl

nothing_under : (name : List ℕ) (k : Plain) → is_word name (codes "each") ≡ true
    → observation_of k ≡ Some (sequence no_more) → value_at name k ≡ None
nothing_under name (sequence (then_more c (then_more (integer (pos i)) no_more))) each is =
    let one : c ≡ sequence no_more = cc in
    ap (λ z. slice_get (made name z) i) one ∙ made_nothing name i each
nothing_under name k each is = refl

no_aim : (task : Task) (k : Plain) → value_at task.name k ≡ None → aim_in task k ≡ None
no_aim task k none = rw none refl

-- so no key of it is kept by a watcher, as none gets through
none_kept : (ds : List Definition) (bs : List Binding) (ws : List Watched) (a : ℕ) (x : Watched) (k : Plain) (aim : Aim)
    → watcher_of a ws ≡ Some x → is_word x.name (codes "each") ≡ true
    → (behaviour_of ds bs ws a).group k ≡ Some (sequence no_more)
    → (behaviour_of ds bs ws a).aim k ≡ Some aim → ⊥
none_kept ds bs ws zero x k aim is each of_group aimed = cc
none_kept ds bs ws (suc a) x k aim is each of_group aimed =
    by (option_map task_of (watcher_of (suc a) ws)) (ap (option_map task_of) is) of_group aimed
  where
    by : (o : Option Task) → o ≡ Some (task_of x) → (other ds o).group k ≡ Some (sequence no_more)
        → (other ds o).aim k ≡ Some aim → ⊥
    by None task of_group aimed = cc
    by (Some t) task of_group aimed =
        let name : t.name ≡ x.name = ap (λ (o : Option Task). name_in o) task in
        let none : value_at t.name k ≡ None =
        nothing_under t.name k (ap (λ n. is_word n (codes "each")) name ∙ each) of_group in
        let clash : None ≡ Some aim = sym (no_aim t k none) ∙ aimed in
        cc
      where
        name_in : Option Task → List ℕ
        name_in None = []
        name_in (Some u) = u.name

nothing_has : (w : WorldState) → AreMet w → ComeWithRows w → NoneForNothing w
nothing_has w met come a x low live is each =
    by (facet_for (Some (sequence no_more)) (resident_of a w).facets) refl
  where
    by : (o : Option ℕ) → facet_for (Some (sequence no_more)) (resident_of a w).facets ≡ o
        → facet_for (Some (sequence no_more)) (resident_of a w).facets ≡ None
    by None found = found
    by (Some f) found =
        let has = (come a low live (sequence no_more)).0 (f, found) in
        let row = (met a low live).rows_stand has.key has.handle has.kept in
        absurd (none_kept w.schema w.bindings w.watches a x has.key row.fits.aim is each has.of_group row.fits.aimed)

pub nothings : Nothings
nothings ds steps may = nothing_has (replay ds steps).world (wants ds steps may) (comings ds steps may)
