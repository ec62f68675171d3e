-- What is true of the rows for which the handles of each connection stand, and that it stays so as others' rows change.
use Rattle.std.proofs.Common.{◌≡◌, ◌≢◌, ℕ, ◌≤◌, List, [], Bool, true, false, cond, Option, Some, None}
use Rattle.std.proofs.Common.{inl, inr, refl, ap, sym, ◌∙◌, subst, arith}
use Rattle.pv_value.specs.Plain.{Plain}
use Rattle.ac_table.specs.declared.batches.Row.{Row as TableRow}
use Rattle.ac_table.specs.declared.batches.Batch.{Batch}
use Rattle.ac_table.specs.Lemmas.Lists.{all_weaker}
use Rattle.ac_table.specs.Tables.{TableState, IsTable, rows_of, rows_of_others, is_live, ended, first_batch}
use Rattle.ac_table.specs.Tables.{popped}
use Rattle.ac_world.specs.declared.turns.Turned.TheVariants as turned
use Rattle.ac_world.specs.Outboxes.{Plan, retractions}
use Rattle.ac_world.specs.Turns.{system_turn, connection_turn, turn_with, turn_first, turn}
use Rattle.ac_world.specs.Worlds.{WorldState, actor_of, is_system, entry_of, with_entry, without_entry, gone, ended_of}
use Rattle.ac_world.specs.Lemmas.Entries.{KeysAscend, ascend_none, ascend_with, put_found, put_other}
use Rattle.ac_world.specs.Lemmas.Entries.{out_other, out_gone}
use Rattle.rl_packet.specs.declared.packets.Dialect.{Dialect}
use Rattle.rl_ports.specs.declared.ports.Inbound.{Inbound}
use Rattle.rl_ports.specs.declared.ports.Inbound.TheVariants.{Row}
use Rattle.rl_ports.specs.Ports.{PortsState, speaking, inbound_of, ports_to}
use Rattle.hub_machine.specs.Admission.{Admitting, before_all, weight_of_row}
use Rattle.hub_valid.specs.Lemmas.Lives.{rows_posted}
use Rattle.hub_laws.proofs.EndingActors.{others_found, others_keep}
use Rattle.hub_laws.proofs.Finding.{Ascend, ascend_filter}
use Rattle.hub_laws.proofs.Kept.{IsSound, Moves}
use Rattle.hub_laws.proofs.Leaving.{one_or_not}
use Rattle.hub_laws.proofs.Turns.{without_first, turning_of, is_below, system_runs}
use Rattle.hub_limits.proofs.Weighed.{Stands, IsWeighed}
use Rattle.hub_limits.proofs.Weights.{weighs, none_weigh, KeepsRows, same_weight}
use Rattle.hub_limits.proofs.Within.{IsSoFar}

-- ---- one connection

-- it counts from 1; its handles ascend, each that stands for a row stands for one of its own, no two for the same row;
-- and its rows are light
pub record IsEntered (k : ℕ) (rows : List TableRow) (ports : PortsState) : Type 0 where
  pub come : 1 ≤ k
  pub ascend : KeysAscend ports.handles
  pub stand : (h n : ℕ) → inbound_of h ports ≡ Some (Row n) → Stands (actor_of k) n rows
  pub apart : (g h n : ℕ) → inbound_of g ports ≡ Some (Row n) → inbound_of h ports ≡ Some (Row n) → g ≡ h
  pub light : weighs (actor_of k) rows ≤ 4194304

-- so it is where its own rows are found as before
still_entered : (k : ℕ) (old new : List TableRow) (ports : PortsState) → Ascend old → Ascend new
    → KeepsRows (actor_of k) old new → IsEntered k old ports → IsEntered k new ports
still_entered k old new ports s t keeps e = record {
  come = e.come;
  ascend = e.ascend;
  stand = λ h n is.
      let stood = e.stand h n is in
      record { row = stood.row; found = keeps.stay n stood.row stood.found stood.own; own = stood.own };
  apart = e.apart;
  light = subst (λ n. n ≤ 4194304) (sym (same_weight (actor_of k) old new s t keeps)) e.light;
}

-- what isn't handles doesn't matter
pub handles_entered : (k : ℕ) (rows : List TableRow) (ports after : PortsState) → after.handles ≡ ports.handles
    → IsEntered k rows ports → IsEntered k rows after
handles_entered k rows ports after same e =
    let f = subst (λ (hs : List (ℕ × Inbound)). IsEntered k rows (record ports { handles = hs })) (sym same) e in
    record { come = f.come; ascend = f.ascend; stand = f.stand; apart = f.apart; light = f.light }

-- nor is a dialect one
pub speaking_entered : (k : ℕ) (rows : List TableRow) (d : Option Dialect) (ports : PortsState)
    → IsEntered k rows ports → IsEntered k rows (speaking d ports)
speaking_entered k rows d ports e =
    record { come = e.come; ascend = e.ascend; stand = e.stand; apart = e.apart; light = e.light }

-- before the first event of a packet what is summed is what the rows weigh
pub start_so_far : (k : ℕ) (ports : PortsState) (w : WorldState) → IsTable w.table
    → is_live (actor_of k) w.table ≡ true → IsEntered k w.table.rows ports → IsSoFar k w (before_all k ports w)
start_so_far k ports w table live e =
    let light = e.light in
    record {
      table = table;
      live = live;
      next = refl;
      ascend = e.ascend;
      stand = e.stand;
      apart = e.apart;
      known = λ n r found own. ap weight_of_row found;
      rows = omega (arith, light);
      few = omega (arith, light);
    }

-- and after its events the rows are light
pub entered_then : (k : ℕ) (w : WorldState) (x : Admitting) (t : TableState) → 1 ≤ k → IsWeighed k w x t
    → IsEntered k t.rows x.ports
entered_then k w x t come i = record {
  come = come;
  ascend = i.ascend;
  stand = i.stand;
  apart = i.apart;
  light = subst (λ n. n ≤ 4194304) i.rows i.few;
}

-- ---- all connections

-- each that is named is so
pub record AreEntered (rows : List TableRow) (names : List (ℕ × PortsState)) : Type 0 where
  pub rows_ascend : Ascend rows
  pub names_ascend : KeysAscend names
  pub each : (k : ℕ) (ports : PortsState) → entry_of k names ≡ Some ports → IsEntered k rows ports

-- what is named of the rows afterwards was named before, of actors whose rows are found as before
pub still_all : (old new : List TableRow) (names less : List (ℕ × PortsState)) → Ascend new → KeysAscend less
    → ((k : ℕ) (ports : PortsState) → entry_of k less ≡ Some ports → IsEntered k old ports
    → KeepsRows (actor_of k) old new)
    → ((k : ℕ) (ports : PortsState) → entry_of k less ≡ Some ports → entry_of k names ≡ Some ports)
    → AreEntered old names → AreEntered new less
still_all old new names less rows_ascend names_ascend keeps were e = record {
  rows_ascend = rows_ascend;
  names_ascend = names_ascend;
  each = λ k ports is.
      let was = e.each k ports (were k ports is) in
      still_entered k old new ports e.rows_ascend rows_ascend (keeps k ports is was) was;
}

-- one connection's names change
pub one_named : (k : ℕ) (rows : List TableRow) (ports : PortsState) (names : List (ℕ × PortsState))
    → IsEntered k rows ports → AreEntered rows names → AreEntered rows (with_entry k ports names)
one_named k rows ports names one e = record {
  rows_ascend = e.rows_ascend;
  names_ascend = ascend_with k ports names e.names_ascend;
  each = λ j other is. elim (one_or_not j k) [
    | inl same ↦
        (let found : Some ports ≡ Some other =
        sym (put_found k ports names) ∙ ap (λ i. entry_of i (with_entry k ports names)) (sym same) ∙ is in
        let ports_is : ports ≡ other = cc in
        subst (λ p. IsEntered j rows p) ports_is (subst (λ i. IsEntered i rows ports) (sym same) one))
    | inr apart ↦ e.each j other (sym (put_other k j ports names apart) ∙ is)
  ];
}

-- those are named who were, but for one
pub were_named : (k : ℕ) (names : List (ℕ × PortsState)) → KeysAscend names → (j : ℕ) (ports : PortsState)
    → entry_of j (without_entry k names) ≡ Some ports → (entry_of j names ≡ Some ports) × (j ≢ k)
were_named k names ascend j ports is = elim (one_or_not j k) [
  | inl same ↦ absurd (let clash : None ≡ Some ports =
      sym (out_gone k names ascend) ∙ ap (λ i. entry_of i (without_entry k names)) (sym same) ∙ is in cc)
  | inr apart ↦ (sym (out_other k j names apart) ∙ is, apart)
]

-- where no row changes
pub same_rows : (a : ℕ) (rows : List TableRow) → KeepsRows a rows rows
same_rows a rows = record { stay = λ h r found own. found; back = λ h r found own. found }

-- ---- an actor ends

-- its rows go, where it is live
rows_ended : (a : ℕ) (w : WorldState) (b : Bool)
    → (cond b (gone a w) w).table.rows ≡ cond b (rows_of_others a w.table.rows) w.table.rows
rows_ended a w true = rows_posted a (retractions (rows_of a w.table.rows) []) (ended a w.table)
rows_ended a w false = refl

-- those of others ascend
others_ascend : (a : ℕ) (b : Bool) (rows : List TableRow) → Ascend rows → Ascend (cond b (rows_of_others a rows) rows)
others_ascend a true rows s = ascend_filter _ rows s
others_ascend a false rows s = s

-- those of others are found as before
others_stay : (a c : ℕ) (b : Bool) (rows : List TableRow) → Ascend rows → c ≢ a
    → KeepsRows c rows (cond b (rows_of_others a rows) rows)
others_stay a c true rows s apart = record {
  stay = λ h r found own. others_keep a h rows r found (λ same. apart (sym own ∙ same));
  back = λ h r found own. (others_found a h rows r s found).0;
}
others_stay a c false rows s apart = same_rows c rows

-- it ends, and none of those that are still named is it
pub ended_entered : (a : ℕ) (w : WorldState) (names less : List (ℕ × PortsState)) → KeysAscend less
    → ((k : ℕ) (ports : PortsState) → entry_of k less ≡ Some ports → entry_of k names ≡ Some ports)
    → ((k : ℕ) (ports : PortsState) → entry_of k less ≡ Some ports → 1 ≤ k → actor_of k ≢ a)
    → AreEntered w.table.rows names → AreEntered (ended_of a w).table.rows less
ended_entered a w names less ascend were apart e =
    subst (λ rows. AreEntered rows less) (sym (rows_ended a w (is_live a w.table))) (by (is_live a w.table))
  where
    by : (b : Bool) → AreEntered (cond b (rows_of_others a w.table.rows) w.table.rows) less
    by b =
        still_all w.table.rows (cond b (rows_of_others a w.table.rows) w.table.rows) names less
        (others_ascend a b w.table.rows e.rows_ascend) ascend
        (λ k ports is was. others_stay a (actor_of k) b w.table.rows e.rows_ascend (apart k ports is was.come)) were e

-- ---- a connection comes

-- its actor wasn't live, so it owns no row
pub come_entered : (k : ℕ) (first : Plain) (t : TableState) → IsTable t → is_live (actor_of k) t ≡ false → 1 ≤ k
    → IsEntered k t.rows (ports_to first)
come_entered k first t table dead come = record {
  come = come;
  ascend = ascend_none;
  stand = λ h n is. absurd cc;
  apart = λ g h n is also. absurd cc;
  light =
      let none : weighs (actor_of k) t.rows ≡ 0 =
      none_weigh (actor_of k) t.rows (all_weaker _ _ (λ r live. unowned r live) t.rows table.owners_live) in
      omega (arith, none);
}
  where
    unowned : (r : TableRow) → is_live r.owner t ≡ true → r.owner ≢ actor_of k
    unowned r live own =
        absurd (let clash : true ≡ false = sym live ∙ ap (λ a. is_live a t) own ∙ dead in cc)

-- ---- an actor acts, or takes its turn

-- what a plan of another's makes
pub moved_keeps : (a b : ℕ) (t : TableState) (p : Plan) → b ≢ a → Moves a t p → KeepsRows b t.rows p.table.rows
moved_keeps a b t p apart m = record {
  stay = λ h r found own. m.stay h r found (λ same. apart (sym own ∙ same));
  back = λ h r found own. elim (m.old h r found) [
    | inl old ↦ old
    | inr new ↦ absurd (apart (sym own ∙ new.1))
  ];
}

-- with the batch that it takes
turned_keeps : (a b : ℕ) (batch : Batch) (w : WorldState) → IsSound [] w → 17 ≤ b → is_live a w.table ≡ true
    → first_batch a w.table ≡ Some batch
    → KeepsRows b w.table.rows (turn_with a batch (without_first a w)).world.table.rows
turned_keeps a b batch w sound far live first = by (is_system a) refl
  where
    by : (c : Bool) → is_system a ≡ c
        → KeepsRows b w.table.rows (cond c (system_turn a batch (without_first a w))
        (connection_turn a batch (without_first a w))).world.table.rows
    by true system =
        let p : Plan = (turning_of a batch w).plan in
        let low = is_below a system in
        subst (KeepsRows b w.table.rows) (sym (rows_posted a p.out p.table))
        (moved_keeps a b (popped a w.table) p (λ same. absurd (omega (arith, low, far, same)))
        (system_runs a batch w sound system live first).moves)
    by false system = same_rows b w.table.rows

-- whoever takes its turn, rows of connections are as they were
pub turn_keeps : (a b : ℕ) (w : WorldState) → IsSound [] w → 17 ≤ b
    → KeepsRows b w.table.rows (turn a w).world.table.rows
turn_keeps a b w sound far = by (is_live a w.table) (first_batch a w.table) refl refl
  where
    by : (c : Bool) (o : Option Batch) → is_live a w.table ≡ c → first_batch a w.table ≡ o
        → KeepsRows b w.table.rows
        (cond c (turn_first a o w) (record { world = w; turned = turned.Gone })).world.table.rows
    by true None live first = same_rows b w.table.rows
    by true (Some batch) live first = turned_keeps a b batch w sound far live first
    by false o live first = same_rows b w.table.rows
