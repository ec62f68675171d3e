-- A hub to which a connection has come is sound.
use Rattle.std.proofs.Common.{◌≡◌, ◌≢◌, ℕ, ◌+◌, ◌<◌, ◌≤◌, List, [], ◌∷◌, Bool, true, false, cond, Some}
use Rattle.std.proofs.Common.{refl, sym, ap, ◌∙◌, subst, arith, inl, inr, eqb}
use Rattle.std.specs.Prelude.{unwrap_or}
use Rattle.std.specs.List.{AllByRecursion}
use Rattle.std.proofs.lemmas.Bool.Decides.{nat_tests}
use Rattle.pv_value.specs.Plain.{Plain}
use Rattle.ac_table.specs.declared.batches.Row.{Row}
use Rattle.ac_table.specs.declared.batches.Batch.{Batch}
use Rattle.ac_table.specs.Tables.{Actor, find_actor, is_live}
use Rattle.ac_table.specs.Lemmas.Lists.{all_weaker}
use Rattle.ac_world.specs.Worlds.{WorldState, held_by, entry_of, is_system, actor_of, arrived}
use Rattle.ac_world.specs.Lemmas.Entries.{put_found, put_other, ascend_none, ascend_with}
use Rattle.rl_ports.specs.Ports.{PortsState, ports_to}
use Rattle.hub_machine.specs.State.{State}
use Rattle.hub_machine.specs.Machine.{opened, actor_reference}
use Rattle.hub_laws.specs.Standing.{stands, at_object}
use Rattle.hub_laws.proofs.Joining.{above_is_new, joined_is_table, joined_new, joined_other, joined_live}
use Rattle.hub_laws.proofs.Joining.{joined_live_other}
use Rattle.hub_valid.specs.Validity.{IsValid}
use Rattle.hub_laws.proofs.Kept.{IsNear, IsServedBy, IsServed, IsSound, IsHub}
use Rattle.hub_laws.proofs.Leaving.{one_or_not}

-- nothing stands at an actor that no row names
pub none_stands : {X : Type 0} (f : ℕ → Plain → X) (a : ℕ) (rows : List Row)
    → AllByRecursion (λ r. eqb r.target a ≡ false) rows → stands f a rows ≡ []
none_stands f a [] all = refl
none_stands f a (r ∷ rs) all =
    ap (λ b. cond b ((r.handle, f r.entity r.value) ∷ stands f a rs) (stands f a rs)) all.0
    ∙ none_stands f a rs all.1

-- nor is anything missing of it
pub nothing_near : {X : Type 0} (f : ℕ → Plain → X) (next a : ℕ) (rows : List Row) (got : List (ℕ × X)) → got ≡ []
    → stands f a rows ≡ [] → IsServedBy f [] rows next a got []
nothing_near f next a rows got empty none =
    subst (λ g. IsServedBy f [] rows next a g []) (sym empty)
    (record {
      near = λ here. subst (λ es. IsNear [] rows es []) (sym none)
          (record { should_ascends = ascend_none; kept_ascends = ascend_none; near = λ h. inl refl });
      log = (ascend_none, tt);
      fits = tt;
    })

served_before : (c : ℕ) (inbox : List Batch) (w : WorldState) (s : Bool) → IsServed [] c inbox w s
    → IsServed [] c inbox (arrived w) s
served_before c inbox w true s = s
served_before c inbox w false s = s

-- the new actor
abbrev newcomer : WorldState → ℕ
newcomer w = actor_of (w.opened + 1)

is_new : (w : WorldState) → IsSound [] w → is_live (newcomer w) w.table ≡ false
is_new w k = above_is_new (newcomer w) w.table (λ b live. omega (arith, k.numbers b live))

-- each target was live
abbrev AreBelow : WorldState → Type 0
AreBelow w = AllByRecursion (λ r. r.target ≤ 16 + w.opened) w.table.rows

newcomer_served : (w : WorldState) → IsSound [] w → AreBelow w → (s : Bool) → is_system (newcomer w) ≡ s
    → IsServed [] (newcomer w) [] (arrived w) s
newcomer_served w k below true is = absurd (grind (arith, nat_tests, is))
newcomer_served w k below false is =
    nothing_near at_object w.table.next (newcomer w) w.table.rows (held_by (newcomer w) (arrived w))
    (ap (λ o. unwrap_or o []) (k.unheld (newcomer w) (is_new w k)))
    (none_stands at_object (newcomer w) w.table.rows
    (all_weaker _ _ (λ r l. grind (arith, nat_tests, l)) w.table.rows below))

arrived_served : (w : WorldState) → IsSound [] w → AreBelow w → (c : ℕ) (x : Actor)
    → find_actor c (arrived w).table.actors ≡ Some x → IsServed [] c x.inbox (arrived w) (is_system c)
arrived_served w k below c x found = elim (one_or_not c (newcomer w)) [
  | inr ne ↦ served_before c x.inbox w (is_system c)
      (k.served c x (sym (joined_other (newcomer w) c w.table ne) ∙ found))
  | inl same ↦
      (let new : record { number = newcomer w; inbox = [] } ≡ x =
      (let at = joined_new (newcomer w) w.table (is_new w k) in
      let here = ap (λ i. find_actor i (arrived w).table.actors) (sym same) ∙ found in cc) in
      subst (λ (z : Actor). IsServed [] c z.inbox (arrived w) (is_system c)) new
      (subst (λ i. IsServed [] i [] (arrived w) (is_system i)) (sym same)
      (newcomer_served w k below (is_system (newcomer w)) refl)))
]

live_before : (w : WorldState) → IsSound [] w → (c : ℕ) → c ≢ newcomer w → is_live c
    (arrived w).table ≡ is_live c w.table
live_before w k c ne = joined_live_other (newcomer w) c w.table ne

arrived_sound : (w : WorldState) → IsSound [] w → AreBelow w → IsSound [] (arrived w)
arrived_sound w k below = record {
  table = joined_is_table (newcomer w) w.table (is_new w k) k.table;
  always = λ c l. live_before w k c (λ same. absurd (omega (arith, l, same))) ∙ k.always c l;
  watchers = λ c l live. k.watchers c l (was c l live);
  watches = k.watches;
  numbers = λ c live. elim (one_or_not c (newcomer w)) [
    | inl same ↦ omega (arith, same)
    | inr ne ↦ (let low = k.numbers c (sym (live_before w k c ne) ∙ live) in omega (arith, low))
  ];
  rows = k.rows;
  served = arrived_served w k below;
  met = λ c l live. k.met c l (was c l live);
  fresh = λ none. absurd (omega (arith, none));
  residents_ascend = k.residents_ascend;
  unkept = λ c dead. k.unkept c (dead_before c dead);
  held_ascends = k.held_ascends;
  unheld = λ c dead. k.unheld c (dead_before c dead);
  system_unheld = k.system_unheld;
}
  where
    was : (c : ℕ) → c < 17 → is_live c (arrived w).table ≡ true → is_live c w.table ≡ true
    was c l live = sym (live_before w k c (λ same. absurd (omega (arith, l, same)))) ∙ live

    dead_before : (c : ℕ) → is_live c (arrived w).table ≡ false → is_live c w.table ≡ false
    dead_before c dead = elim (one_or_not c (newcomer w)) [
      | inl same ↦ absurd (let here : is_live c (arrived w).table ≡ true =
          ap (λ i. is_live i (arrived w).table) same ∙ joined_live (newcomer w) w.table (is_new w k) in cc)
      | inr ne ↦ sym (live_before w k c ne) ∙ dead
    ]

other_number : (j k : ℕ) → j ≢ k → actor_of j ≢ actor_of k
other_number j k ne same = ne (omega (arith, same))

pub opened_hub : (space : ℕ) (s : State) → IsValid s → IsHub [] s → IsHub [] (opened space s)
opened_hub space s valid h =
    let new : ℕ = s.world.opened + 1 in
    let ports : PortsState = ports_to (actor_reference space) in
    record {
      sound = arrived_sound s.world h.sound (all_weaker _ _ (λ r v. v.1.0) s.world.table.rows valid.world.rows);
      named = λ j since live. elim (one_or_not j new) [
        | inl same ↦ (
          ports,
          ap (λ i. entry_of i (opened space s).connections) same ∙ put_found new ports s.connections,
        )
        | inr ne ↦
            (let b = h.named j since (sym (live_before s.world h.sound (actor_of j) (other_number j new ne)) ∙ live) in
            (b.0, put_other new j ports s.connections ne ∙ b.1))
      ];
      nameless = λ j dead. elim (one_or_not j new) [
        | inl same ↦ absurd (let here : is_live (actor_of j) (arrived s.world).table ≡ true =
            ap (λ i. is_live (actor_of i) (arrived s.world).table) same
            ∙ joined_live (newcomer s.world) s.world.table (is_new s.world h.sound) in cc)
        | inr ne ↦ put_other new j ports s.connections ne
            ∙ h.nameless j (sym (live_before s.world h.sound (actor_of j) (other_number j new ne)) ∙ dead)
      ];
      first = put_other new 0 ports s.connections (λ same. absurd (omega (arith, same))) ∙ h.first;
      names_ascend = ascend_with new ports s.connections h.names_ascend;
    }
