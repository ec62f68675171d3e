-- A world in which a plan is done is sound, where what the plan began with was.
use Rattle.std.proofs.Common.{◌≡◌, ℕ, ◌+◌, ◌<◌, ◌≤◌, List, Bool, true, false, Some, None}
use Rattle.std.proofs.Common.{sym, ap, ◌∙◌, subst}
use Rattle.std.specs.List.{AllByRecursion}
use Rattle.std.specs.Prelude.{is_some}
use Rattle.pv_value.specs.Plain.{Plain}
use Rattle.ac_table.specs.declared.batches.Batch.{Batch}
use Rattle.ac_table.specs.Tables.{TableState, Actor, IsTable, find_actor, is_live}
use Rattle.ac_world.specs.Outboxes.{Plan, committed, posted, told_to}
use Rattle.ac_world.specs.Worlds.{WorldState, resident_of, held_by, entry_of, is_system}
use Rattle.ac_world.specs.Lemmas.Entries.{KeysAscend}
use Rattle.ac_world.specs.Watchers.{next_watcher}
use Rattle.hub_laws.specs.Standing.{value_alone, at_object}
use Rattle.hub_laws.proofs.Fresh.{TellsOfRows, none_told, quiet_posted}
use Rattle.hub_laws.proofs.Kept.{IsGood, Moves, AreGood, IsServedBy, IsServed, IsSound, IsWatch, IsFresh, AreQuiet}
use Rattle.hub_laws.proofs.Kept.{IsMetIn}
use Rattle.hub_laws.proofs.Promised.{PostedTo, PostedTable, ServedAfter, IsPostedTo}

-- before the first connection comes a plan of the system's tells of rows alone
pub record IsQuiet (u : WorldState) (a : ℕ) (p : Plan) : Type 0 where
  pub fresh : IsFresh u
  pub system : a < 17
  pub of_rows : TellsOfRows p.out

-- the world u, whose table is the one over which the plan began, but for the wants, which are met over the plan's rows
pub record IsPlanned (ends : List ℕ) (u : WorldState) (a : ℕ) (p : Plan) : Type 1 where
  pub table : IsTable u.table
  pub always : (b : ℕ) → b < 9 → is_live b u.table ≡ true
  pub watchers : (b : ℕ) → b < 17 → is_live b u.table ≡ true → b < next_watcher u.watches
  pub watches : AllByRecursion IsWatch u.watches
  pub numbers : (b : ℕ) → is_live b u.table ≡ true → b ≤ 16 + u.opened
  pub served : (b : ℕ) (x : Actor) → find_actor b u.table.actors ≡ Some x → IsServed ends b x.inbox u (is_system b)
  pub residents_ascend : KeysAscend u.residents
  pub unkept : (b : ℕ) → is_live b u.table ≡ false → entry_of b u.residents ≡ None
  pub held_ascends : KeysAscend u.held
  pub unheld : (b : ℕ) → is_live b u.table ≡ false → entry_of b u.held ≡ None
  pub system_unheld : (b : ℕ) → b < 17 → entry_of b u.held ≡ None
  pub moves : Moves a u.table p
  pub good : AreGood a p
  pub met : (b : ℕ) → b < 17 → is_live b u.table ≡ true → IsMetIn u p.table.rows b
  pub quiet : u.opened ≡ 0 → IsQuiet u a p

abbrev pub done_in : WorldState → ℕ → Plan → WorldState
done_in u a p = record u { table = committed a p }

-- liveness and the next handle are looked up in a table's parts
live_alike : (b : ℕ) (s t : TableState) → s.actors ≡ t.actors → is_live b s ≡ is_live b t
live_alike b s t same = ap (λ xs. is_some (find_actor b xs)) same

pub live_done : (posted_table : PostedTable) (u : WorldState) (a b : ℕ) (p : Plan) → Moves a u.table p
    → is_live b (done_in u a p).table ≡ is_live b u.table
live_done posted_table u a b p m = (posted_table a p.out p.table).2 b ∙ live_alike b p.table u.table m.actors

-- who is served, over the table in which the plan is done
served_in : (posted_table : PostedTable) (served_after : ServedAfter) (ends : List ℕ) (u : WorldState) (a b : ℕ)
    (p : Plan)
    (old new : List Batch) → IsPlanned ends u a p → IsPostedTo a (told_to b p.out) old new → (s : Bool)
    → IsServed ends b old u s → IsServed ends b new (done_in u a p) s
served_in posted_table served_after ends u a b p old new k is true s =
    let q = posted_table a p.out p.table in
    subst (λ rows. IsServedBy value_alone ends rows (posted a p.out p.table).next b
    (resident_of b u).got new)
    (sym q.0)
    (subst (λ n. IsServedBy value_alone ends p.table.rows n b (resident_of b u).got new) (sym q.1)
    (served_after Plain value_alone ends a b u.table p
    (resident_of b u).got old new k.table k.moves k.good s is))
served_in posted_table served_after ends u a b p old new k is false s =
    let q = posted_table a p.out p.table in
    subst (λ rows. IsServedBy at_object ends rows (posted a p.out p.table).next b (held_by b u) new)
    (sym q.0)
    (subst (λ n. IsServedBy at_object ends p.table.rows n b (held_by b u) new) (sym q.1)
    (served_after _ at_object ends a b u.table p (held_by b u) old new k.table k.moves k.good s is))

served_done : (posted_to : PostedTo) (posted_table : PostedTable) (served_after : ServedAfter) (ends : List ℕ)
    (u : WorldState) (a : ℕ) (p : Plan) → IsPlanned ends u a p → (b : ℕ) (x : Actor)
    → find_actor b (done_in u a p).table.actors ≡ Some x → IsServed ends b x.inbox (done_in u a p) (is_system b)
served_done posted_to posted_table served_after ends u a p k b x found =
    let y = posted_to a b p.out p.table x k.moves.out_ascends found in
    let before : find_actor b u.table.actors ≡ Some y.0 = ap (find_actor b) (sym k.moves.actors) ∙ y.1 in
    served_in posted_table served_after ends u a b p y.0.inbox x.inbox k y.2 (is_system b) (k.served b y.0 before)

fresh_done : (u : WorldState) (a : ℕ) (p : Plan) → Moves a u.table p → AreGood a p → IsQuiet u a p
    → IsFresh (done_in u a p)
fresh_done u a p moves good q = record {
  got = q.fresh.got;
  inboxes = quiet_posted a p.out p.table moves.out_ascends q.of_rows
      (none_told a p.table.rows (told_to 0 p.out) q.system (q.of_rows 0) (good.told 0))
      (subst AreQuiet (sym moves.actors) q.fresh.inboxes);
}

pub commit_sound : (posted_to : PostedTo) (posted_table : PostedTable) (served_after : ServedAfter) (ends : List ℕ)
    (u : WorldState) (a : ℕ) (p : Plan) → IsPlanned ends u a p → IsSound ends (done_in u a p)
commit_sound posted_to posted_table served_after ends u a p k =
    let q = posted_table a p.out p.table in
    let lives = λ (b : ℕ). live_done posted_table u a b p k.moves in
    record {
      table = q.3 k.moves.table;
      always = λ b l. lives b ∙ k.always b l;
      watchers = λ b l is. k.watchers b l (sym (lives b) ∙ is);
      watches = k.watches;
      numbers = λ b is. k.numbers b (sym (lives b) ∙ is);
      rows = subst (AllByRecursion IsGood) (sym q.0) k.good.rows;
      served = served_done posted_to posted_table served_after ends u a p k;
      met = λ b l is. subst (λ rows. IsMetIn u rows b) (sym q.0) (k.met b l (sym (lives b) ∙ is));
      fresh = λ none. fresh_done u a p k.moves k.good (k.quiet none);
      residents_ascend = k.residents_ascend;
      unkept = λ b is. k.unkept b (sym (lives b) ∙ is);
      held_ascends = k.held_ascends;
      unheld = λ b is. k.unheld b (sym (lives b) ∙ is);
      system_unheld = k.system_unheld;
    }
