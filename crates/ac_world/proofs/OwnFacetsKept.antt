-- Each live actor's facets, and those of each system actor's groups, through all changes of a world.
use Rattle.std.proofs.Common.{◌≡◌, ◌≢◌, ℕ, zero, suc, ◌<◌, ◌==◌, List, [], ◌∷◌, Bool, true, false, not, cond}
use Rattle.std.proofs.Common.{Option, Some, None, unwrap_or, refl, ap, sym, ◌∙◌, subst, arith, filter, is_some}
use Rattle.std.proofs.lemmas.Bool.Decides.{nat_tests}
use Rattle.std.specs.BTreeMap.{is_at}
use Rattle.std.specs.Ordering.{nat_cmp}
use Rattle.ac_table.specs.declared.batches.Event.{Event}
use Rattle.ac_table.specs.Facets.{root_alone}
use Rattle.ac_table.specs.Lemmas.Leaves.{other_tree_faceted, other_tree_without, tree_joined, other_tree_joined}
use Rattle.ac_table.specs.Lemmas.Leaves.{other_tree_ended, flat_alone}
use Rattle.ac_table.specs.Tables.{Actor, TableState, find_actor, is_live, tree_of, joined, ended, popped, placed}
use Rattle.ac_world.specs.declared.acts.Act.{Act}
use Rattle.ac_world.specs.Behaviours.{Behaviour}
use Rattle.ac_world.specs.Allocating.{IsRooted, AreOwnFacets}
use Rattle.ac_world.specs.Keeping.{Stands}
use Rattle.ac_world.specs.Lemmas.Entries.{put_found, put_other, out_other}
use Rattle.ac_world.specs.Outboxes.{Outbox, Plan, plan_over, posted, committed, all_acted}
use Rattle.ac_world.specs.Turns.{Turning, all_turned}
use Rattle.ac_world.specs.Worlds.{Resident, HaveOwnFacets, entry_of, with_entry, without_entry, no_resident, first_actors}
use Rattle.ac_world.proofs.Lives.{numbers, live_from_numbers, numbers-committed, live-posted, live-popped, tree-posted}
use Rattle.ac_world.proofs.Lives.{tree-all_acted}
use Rattle.ac_world.proofs.Numbers.{numbers-all_acted, numbers-all_turned}
use Rattle.ac_world.proofs.Sparing.{IsSpared, all_turned_spared}

-- who is live and each actor's tree are all that it rests on
pub own_facets_by : (s t : TableState) (rs : List (ℕ × Resident)) → ((a : ℕ) → is_live a t ≡ is_live a s)
    → ((a : ℕ) → tree_of a t ≡ tree_of a s) → HaveOwnFacets s rs → HaveOwnFacets t rs
own_facets_by s t rs live tree h = record {
  rooted = λ a l. subst IsRooted (sym (tree a)) (h.rooted a (sym (live a) ∙ l));
  own_facets = λ a low l.
      subst (AreOwnFacets (unwrap_or (entry_of a rs) no_resident).facets) (sym (tree a))
      (h.own_facets a low (sym (live a) ∙ l));
}

-- ---- batches come and go

pub own_facets_posted : (from : ℕ) (out : Outbox) (s t : TableState) (rs : List (ℕ × Resident)) → t ≡ posted from out s
    → HaveOwnFacets s rs → HaveOwnFacets t rs
own_facets_posted from out s t rs is h =
    own_facets_by s t rs (λ a. ap (is_live a) is ∙ live-posted a from out s)
    (λ a. ap (tree_of a) is ∙ tree-posted a from out s) h

pub own_facets_popped : (a : ℕ) (s t : TableState) (rs : List (ℕ × Resident)) → t ≡ popped a s → HaveOwnFacets s rs
    → HaveOwnFacets t rs
own_facets_popped a s t rs is h =
    own_facets_by s t rs (λ b. ap (is_live b) is ∙ live-popped b a s) (λ b. ap (tree_of b) is) h

-- ---- a connection's acts

pub own_facets_sent : (a : ℕ) (acts : List Act) (s t : TableState) (rs : List (ℕ × Resident))
    → t ≡ committed a (all_acted a acts (plan_over s)) → HaveOwnFacets s rs → HaveOwnFacets t rs
own_facets_sent a acts s t rs is h =
    let p : Plan = all_acted a acts (plan_over s) in
    own_facets_by s t rs
    (λ b. ap (is_live b) is
    ∙ live_from_numbers b (committed a p) s (numbers-committed a p ∙ numbers-all_acted a acts (plan_over s)))
    (λ b. ap (tree_of b) is ∙ tree-posted b a p.out p.table ∙ tree-all_acted b a acts (plan_over s)) h

-- ---- a turn of a system actor

others_spared : (a b : ℕ) → (b == a) ≡ false → IsSpared (tree_of b) a
others_spared a b ne = record {
  rows = record { row_more = λ facet target entity v t. refl; row_less = λ h t. refl };
  facet_more = λ n t. other_tree_faceted a b 0 n t ne;
  facet_less = λ n t. other_tree_without a b (n ∷ []) t ne;
}

module _ (y : Behaviour) (a from : ℕ) (es : List Event) (r : Resident) (s : TableState) where
  abbrev start : Turning
  start = record { resident = r; plan = plan_over s; spreads = [] }

  module _ (u : Turning) (t : TableState) (is : u ≡ all_turned y a from es start) (done : t ≡ committed a u.plan) where
    live_after : (b : ℕ) → is_live b t ≡ is_live b s
    live_after b =
        ap (is_live b) done
        ∙ live_from_numbers b (committed a u.plan) s (numbers-committed a u.plan
        ∙ ap (λ (v : Turning). numbers v.plan.table) is ∙ numbers-all_turned y a from es start)

    tree_after : (b : ℕ) → tree_of b t ≡ tree_of b u.plan.table
    tree_after b = ap (tree_of b) done ∙ tree-posted b a u.plan.out u.plan.table

    other_after : (b : ℕ) → (b == a) ≡ false → tree_of b t ≡ tree_of b s
    other_after b ne =
        tree_after b ∙ ap (λ (v : Turning). tree_of b v.plan.table) is
        ∙ all_turned_spared (tree_of b) a (others_spared a b ne) y from es start

    pub own_facets_turned : (rs : List (ℕ × Resident)) → Stands a u → HaveOwnFacets s rs
        → HaveOwnFacets t (with_entry a u.resident rs)
    own_facets_turned rs stands h = record {
      rooted = λ b live. root_at b (b == a) refl live;
      own_facets = λ b low live. facet_at b low (b == a) refl live;
    }
      where
        root_at : (b : ℕ) (c : Bool) → (b == a) ≡ c → is_live b t ≡ true → IsRooted (tree_of b t)
        root_at b true e live =
            let same : b ≡ a = grind (arith, nat_tests, e) in
            subst (λ (n : ℕ). IsRooted (tree_of n t)) (sym same) (subst IsRooted (sym (tree_after a)) stands.rooted)
        root_at b false e live =
            subst IsRooted (sym (other_after b e)) (h.rooted b (sym (live_after b) ∙ live))

        own : AreOwnFacets (unwrap_or (entry_of a (with_entry a u.resident rs)) no_resident).facets (tree_of a t)
        own =
            subst (λ (o : Option Resident). AreOwnFacets (unwrap_or o no_resident).facets (tree_of a t))
            (sym (put_found a u.resident rs)) (subst (AreOwnFacets u.resident.facets)
            (sym (tree_after a)) stands.own_facets)

        facet_at : (b : ℕ) → b < 17 → (c : Bool) → (b == a) ≡ c → is_live b t ≡ true
            → AreOwnFacets (unwrap_or (entry_of b (with_entry a u.resident rs)) no_resident).facets (tree_of b t)
        facet_at b low true e live =
            let same : b ≡ a = grind (arith, nat_tests, e) in
            subst (λ (n : ℕ). AreOwnFacets (unwrap_or (entry_of n (with_entry a u.resident rs)) no_resident).facets
            (tree_of n t)) (sym same) own
        facet_at b low false e live =
            let other : b ≢ a = λ same. grind (arith, nat_tests, e, same) in
            subst (λ (o : Option Resident). AreOwnFacets (unwrap_or o no_resident).facets (tree_of b t))
            (sym (put_other a b u.resident rs other))
            (subst (AreOwnFacets (unwrap_or (entry_of b rs) no_resident).facets) (sym (other_after b e))
            (h.own_facets b low (sym (live_after b) ∙ live)))

-- the actor stands as its turn begins
pub stands_first : (a : ℕ) (r : Resident) (s : TableState) (rs : List (ℕ × Resident)) → a < 17 → is_live a s ≡ true
    → r ≡ unwrap_or (entry_of a rs) no_resident → HaveOwnFacets s rs
    → Stands a (record { resident = r; plan = plan_over s; spreads = [] })
stands_first a r s rs low live is h = record {
  live = live;
  rooted = h.rooted a live;
  own_facets = subst (λ (q : Resident). AreOwnFacets q.facets (tree_of a s)) (sym is) (h.own_facets a low live);
}

-- ---- actors come and go

placed_live : (a b : ℕ) (xs : List Actor) → (b == a) ≡ false
    → is_some (find_actor b (placed (record { number = a; inbox = [] }) xs)) ≡ is_some (find_actor b xs)
placed_live a b [] ne = grind (arith, nat_tests, ne)
placed_live a b (x ∷ xs) ne = grind (arith, nat_tests, ne, placed_live a b xs ne)

alone_rooted : IsRooted root_alone
alone_rooted = record { root = refl; flat = flat_alone }

rooted_joined : (a b : ℕ) (s : TableState) → ((b == a) ≡ false → IsRooted (tree_of b s))
    → IsRooted (tree_of b (joined a s))
rooted_joined a b s others = by (b == a) refl
  where
    by : (c : Bool) → (b == a) ≡ c → IsRooted (tree_of b (joined a s))
    by true e =
        let same : b ≡ a = grind (arith, nat_tests, e) in
        subst (λ (n : ℕ). IsRooted (tree_of n (joined a s))) (sym same)
        (subst IsRooted (sym (tree_joined a s)) alone_rooted)
    by false e = subst IsRooted (sym (other_tree_joined a b s e)) (others e)

-- a system actor of which nothing is kept, or a connection
pub own_facets_joined : (a : ℕ) (s t : TableState) (rs : List (ℕ × Resident)) → (a < 17 → entry_of a rs ≡ None)
    → t ≡ joined a s → HaveOwnFacets s rs → HaveOwnFacets t rs
own_facets_joined a s t rs none is h =
    subst (λ (u : TableState). HaveOwnFacets u rs) (sym is) (record {
      rooted = λ b live. rooted_joined a b s (λ e. h.rooted b (sym (placed_live a b s.actors e) ∙ live));
      own_facets = λ b low live. facet_at b low live (b == a) refl;
    })
  where
    facet_at : (b : ℕ) → b < 17 → is_live b (joined a s) ≡ true → (c : Bool) → (b == a) ≡ c
        → AreOwnFacets (unwrap_or (entry_of b rs) no_resident).facets (tree_of b (joined a s))
    facet_at b low live true e =
        let same : b ≡ a = grind (arith, nat_tests, e) in
        let nothing : entry_of b rs ≡ None =
        ap (λ (n : ℕ). entry_of n rs) same ∙ none (omega (arith, low, same)) in
        subst (λ (o : Option Resident). AreOwnFacets (unwrap_or o no_resident).facets (tree_of b (joined a s)))
        (sym nothing) (record { there = tt; apart = tt })
    facet_at b low live false e =
        subst (AreOwnFacets (unwrap_or (entry_of b rs) no_resident).facets) (sym (other_tree_joined a b s e))
        (h.own_facets b low (sym (placed_live a b s.actors e) ∙ live))

ended_live : (a b : ℕ) (xs : List Actor) → (b == a) ≡ false
    → is_some (find_actor b (filter (λ x. not (x.number == a)) xs)) ≡ is_some (find_actor b xs)
ended_live a b [] ne = refl
ended_live a b (x ∷ xs) ne = grind (arith, nat_tests, ne, ended_live a b xs ne)

ended_dead : (a : ℕ) (xs : List Actor) → is_some (find_actor a (filter (λ x. not (x.number == a)) xs)) ≡ false
ended_dead a [] = refl
ended_dead a (x ∷ xs) = grind (arith, nat_tests, ended_dead a xs)

pub own_facets_ended : (a : ℕ) (s t : TableState) (rs : List (ℕ × Resident)) → t ≡ ended a s → HaveOwnFacets s rs
    → HaveOwnFacets t (without_entry a rs)
own_facets_ended a s t rs is h =
    subst (λ (u : TableState). HaveOwnFacets u (without_entry a rs)) (sym is) (record {
      rooted = λ b live. subst IsRooted (sym (other_tree_ended a b s (other b live))) (h.rooted b (was b live));
      own_facets = λ b low live.
          subst (λ (o : Option Resident). AreOwnFacets (unwrap_or o no_resident).facets (tree_of b (ended a s)))
          (sym (out_other a b rs (apart b live)))
          (subst (AreOwnFacets (unwrap_or (entry_of b rs) no_resident).facets)
          (sym (other_tree_ended a b s (other b live)))
          (h.own_facets b low (was b live)));
    })
  where
    other : (b : ℕ) → is_live b (ended a s) ≡ true → (b == a) ≡ false
    other b live = by (b == a) refl
      where
        by : (c : Bool) → (b == a) ≡ c → (b == a) ≡ false
        by true e =
            let same : b ≡ a = grind (arith, nat_tests, e) in
            let clash : true ≡ false =
            sym live ∙ ap (λ (n : ℕ). is_live n (ended a s)) same ∙ ended_dead a s.actors in absurd cc
        by false e = e

    apart : (b : ℕ) → is_live b (ended a s) ≡ true → b ≢ a
    apart b live =
        let e : (b == a) ≡ false = other b live in
        λ same. grind (arith, nat_tests, e, same)

    was : (b : ℕ) → is_live b (ended a s) ≡ true → is_live b s ≡ true
    was b live = sym (ended_live a b s.actors (other b live)) ∙ live

-- ---- the first actors

first_rooted : (n a : ℕ) → is_live a (first_actors n) ≡ true → IsRooted (tree_of a (first_actors n))
first_rooted zero a live = absurd cc
first_rooted (suc n) a live =
    rooted_joined n a (first_actors n)
    (λ e. first_rooted n a (sym (placed_live n a (first_actors n).actors e) ∙ live))

pub first_own : (n : ℕ) (t : TableState) → t ≡ first_actors n → HaveOwnFacets t ((0, no_resident) ∷ [])
first_own n t is =
    subst (λ (u : TableState). HaveOwnFacets u ((0, no_resident) ∷ [])) (sym is) (record {
      rooted = λ a live. first_rooted n a live;
      own_facets = λ a low live.
          subst (λ (r : Resident). AreOwnFacets r.facets (tree_of a (first_actors n))) (sym (nobody a))
          (record { there = tt; apart = tt });
    })
  where
    nobody : (a : ℕ) → unwrap_or (entry_of a ((0, no_resident) ∷ [])) no_resident ≡ no_resident
    nobody a = by (is_at (nat_cmp a) 0)
      where
        by : (b : Bool) → unwrap_or (cond {A = Option Resident} b (Some no_resident) None) no_resident ≡ no_resident
        by true = refl
        by false = refl
