-- An actor that takes its turn stands through it: it stays live, and has its facets and those of its groups.
use Rattle.std.proofs.Common.{◌≡◌, ℕ, ◌<◌, List, [], ◌∷◌, Bool, true, false, cond, Option, Some, None, refl, ap, sym}
use Rattle.std.proofs.Common.{◌∙◌, subst, filter, not, nat_lt, if◌then◌else◌}
use Rattle.std.specs.BTreeMap.{is_at, insert_entry}
use Rattle.std.specs.Map.{remove_entry, values_of}
use Rattle.std.specs.Ordering.{nat_cmp}
use Rattle.pv_value.specs.Plain.{Plain, boolean, sequence, plains}
use Rattle.pv_value.specs.Order.{order}
use Rattle.ac_table.specs.Facets.{is_facet}
use Rattle.ac_table.specs.Lemmas.Leaves.{tree_of_facet, tree_faceted, tree_without}
use Rattle.ac_table.specs.Tables.{is_live, has_facet, has_rows, tree_of, faceted, without_facets}
use Rattle.ac_table.specs.Maps.{is_key}
use Rattle.ds_space.specs.Limits.{most_wanted_weight}
use Rattle.ds_space.specs.declared.space.Fanned.{Fanned}
use Rattle.ps_schema.specs.declared.Definition.{Definition}
use Rattle.ac_world.specs.declared.aims.Aim.{Aim}
use Rattle.ac_world.specs.Aims.{aim_at, aim_for}
use Rattle.ac_world.specs.Behaviours.{Behaviour, fanned_weight}
use Rattle.ac_world.specs.Allocating.{Facets, IsRooted, AreOwnFacets, facet_for}
use Rattle.ac_world.specs.Keeping.{Stands}
use Rattle.ac_world.specs.Outboxes.{Plan, with_trees}
use Rattle.ac_world.specs.Turns.{Turning, row_gone, handle_for, say_at, say_all, passed_on, passes_on}
use Rattle.ac_world.specs.Turns.{spreading, by_message, answer_to}
use Rattle.ac_world.proofs.OwnFacets.{leaf_there, rooted_more, rooted_less, own_facets_more, own_facets_less}
use Rattle.ac_world.proofs.OwnFacets.{own_facet_passes}
use Rattle.ac_world.proofs.Sparing.{met_spared}

-- who is live, the actor's tree and the facets of its groups are all that it rests on
pub stands_by : (a : ℕ) (t u : Turning) → is_live a u.plan.table ≡ is_live a t.plan.table
    → tree_of a u.plan.table ≡ tree_of a t.plan.table → u.resident.facets ≡ t.resident.facets → Stands a t → Stands a u
stands_by a t u live tree facets s = record {
  live = live ∙ s.live;
  rooted = subst IsRooted (sym tree) s.rooted;
  own_facets = subst (λ fs. AreOwnFacets fs (tree_of a u.plan.table)) (sym facets)
      (subst (AreOwnFacets t.resident.facets) (sym tree) s.own_facets);
}

-- a row goes
pub stands_row_gone : (a : ℕ) (k : Plain) (t : Turning) → Stands a t → Stands a (row_gone a k t)
stands_row_gone a k t s =
    stands_by a t (row_gone a k t)
    (met_spared (is_live a) a (record { row_more = λ facet target entity v u. refl; row_less = λ h u. refl })
    (handle_for k t.resident.handles) t.plan)
    (met_spared (tree_of a) a (record { row_more = λ facet target entity v u. refl; row_less = λ h u. refl })
    (handle_for k t.resident.handles) t.plan) refl s

-- ---- the facet of a group

module _ (a : ℕ) (g : Plain) (t : Turning) (s : Stands a t) where
  tree_less : (f : ℕ) → tree_of a (without_facets a (f ∷ []) t.plan.table)
      ≡ filter (λ e. not (is_key e.0 (f ∷ []))) (tree_of a t.plan.table)
  tree_less f = tree_without a (f ∷ []) t.plan.table (tree_of_facet a 0 t.plan.table s.rooted.root)

  abbrev with_facets : Facets → Plan → Turning
  with_facets facets plan = record {
    resident = record { got = t.resident.got; handles = t.resident.handles; facets = facets };
    plan = plan;
    spreads = t.spreads;
  }

  tree_more : (n : ℕ) → tree_of a (faceted a 0 n t.plan.table) ≡ insert_entry nat_cmp (tree_of a t.plan.table) n 0
  tree_more n = tree_faceted a 0 n t.plan.table (tree_of_facet a 0 t.plan.table s.rooted.root)

  -- a group has a facet from now on
  pub stands_first_allocated : (n : ℕ) (facets : Facets) (plan : Plan) → 0 < n → has_facet a n t.plan.table ≡ false
      → facets ≡ insert_entry order t.resident.facets g n
      → plan ≡ with_trees (faceted a 0 n t.plan.table).trees t.plan → Stands a (with_facets facets plan)
  stands_first_allocated n facets plan some free facets_is plan_is =
      subst (λ fs. Stands a (with_facets fs plan)) (sym facets_is)
      (subst (λ p. Stands a (with_facets (insert_entry order t.resident.facets g n) p)) (sym plan_is) (record {
        live = s.live;
        rooted = subst IsRooted (sym (tree_more n)) (rooted_more n (tree_of a t.plan.table) s.rooted);
        own_facets = subst (AreOwnFacets (insert_entry order t.resident.facets g n)) (sym (tree_more n))
            (own_facets_more g n t.resident.facets (tree_of a t.plan.table) some free s.own_facets);
      }))

  pub first_allocated_there : (n : ℕ) (plan : Plan) → plan ≡ with_trees (faceted a 0 n t.plan.table).trees t.plan
      → has_facet a n plan.table ≡ true
  first_allocated_there n plan is =
      ap (λ (p : Plan). has_facet a n p.table) is ∙ ap (is_facet n) (tree_more n)
      ∙ leaf_there n (tree_of a t.plan.table)

  -- the facet of a group has gone
  pub stands_emptied : (f : ℕ) (facets : Facets) (plan : Plan) → facet_for (Some g) t.resident.facets ≡ Some f
      → has_rows a f t.plan.table ≡ false → facets ≡ remove_entry (is_at (order g)) t.resident.facets
      → plan ≡ with_trees (if has_rows a f t.plan.table then t.plan.table.trees
      else (without_facets a (f ∷ []) t.plan.table).trees) t.plan
      → Stands a (with_facets facets plan)
  stands_emptied f facets plan found none facets_is plan_is =
      let some : 0 < f = (own_facet_passes _ (is_at (order g)) f t.resident.facets found s.own_facets.there).0 in
      let less : plan ≡ with_trees (without_facets a (f ∷ []) t.plan.table).trees t.plan =
      plan_is ∙ ap (λ b. with_trees (cond b t.plan.table.trees (without_facets a (f ∷ []) t.plan.table).trees) t.plan)
      none in
      subst (λ fs. Stands a (with_facets fs plan)) (sym facets_is)
      (subst (λ p. Stands a (with_facets (remove_entry (is_at (order g)) t.resident.facets) p)) (sym less) (record {
        live = s.live;
        rooted = subst IsRooted (sym (tree_less f)) (rooted_less f (tree_of a t.plan.table) some s.rooted);
        own_facets = subst (AreOwnFacets (remove_entry (is_at (order g)) t.resident.facets)) (sym (tree_less f))
            (own_facets_less g f t.resident.facets (tree_of a t.plan.table) found s.own_facets);
      }))

-- ---- what says something leaves the table and the facets

say_at_table : (o : Option Aim) (p : Plan) → (say_at o p).table ≡ p.table
say_at_table None p = refl
say_at_table (Some aim) p = refl

say_all_table : (ds : List Definition) (fs : List Fanned) (p : Plan) → (say_all ds fs p).table ≡ p.table
say_all_table ds [] p = refl
say_all_table ds (x ∷ xs) p =
    say_all_table ds xs (say_at (aim_for ds (sequence (plains x.captures)) x.observe) p)
    ∙ say_at_table (aim_for ds (sequence (plains x.captures)) x.observe) p

stands_said : (a : ℕ) (t : Turning) (p : Plan) → p.table ≡ t.plan.table → Stands a t → Stands a (record t { plan = p })
stands_said a t p same s = stands_by a t (record t { plan = p }) (ap (is_live a) same) (ap (tree_of a) same) refl s

stands_passed : (a : ℕ) (ds : List Definition) (from : ℕ) (fs : List Fanned) (t : Turning) → Stands a t
    → Stands a (passed_on ds from fs t)
stands_passed a ds from fs t s = by (nat_lt most_wanted_weight (fanned_weight fs))
  where
    by : (b : Bool) → Stands a (cond b (spreading (by_message t.plan.table from (fanned_weight fs)) t)
        (record t { plan = say_all ds fs t.plan }))
    by true = record { live = s.live; rooted = s.rooted; own_facets = s.own_facets }
    by false = stands_said a t (say_all ds fs t.plan) (say_all_table ds fs t.plan) s

pub stands_passes_on : (y : Behaviour) (a from : ℕ) (m : Plain) (t : Turning) → Stands a t
    → Stands a (passes_on y from m t)
stands_passes_on y a from m t s = stands_passed a y.schema from (y.fan (values_of t.resident.got) m) t s

pub stands_answered : (a : ℕ) (ds : List Definition) (peer : Plain) (t : Turning) → Stands a t
    → Stands a (record t { plan = answer_to ds peer t.plan })
stands_answered a ds peer t s =
    stands_said a t (answer_to ds peer t.plan) (say_at_table (aim_at ds (boolean true) peer) t.plan) s
