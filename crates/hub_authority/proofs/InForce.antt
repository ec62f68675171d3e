-- In each run, the exports in force of a live connection are exactly those that are pinned, or that a row mentions which
-- it has got.
use Rattle.std.proofs.Common.{◌≡◌, ℕ, ◌==◌, ◌||◌, List, [], ◌∷◌, Bool, true, false, map, Option, Some, None}
use Rattle.std.proofs.Common.{refl, ap, sym, ◌∙◌, subst, arith, is_some}
use Rattle.std.specs.Prelude.{unwrap_or}
use Rattle.std.specs.List.{AllByRecursion, list_any}
use Rattle.std.proofs.lemmas.Bool.Decides.{nat_tests}
use Rattle.pv_value.specs.Plain.{Plain}
use Rattle.pv_words.specs.Lemmas.Same.{same_self}
use Rattle.pv_words.specs.Parts.{same}
use Rattle.ac_table.specs.Lemmas.Lists.{all_weaker}
use Rattle.ac_world.specs.Worlds.{Deliveries, held_by, entry_of, actor_of}
use Rattle.ac_world.specs.declared.held.Held.{Held}
use Rattle.ac_world.specs.Lemmas.Entries.{KeysAscend}
use Rattle.rl_ports.specs.Ports.{ExportTable, place_of, number_of, has_number, is_mentioned, stays}
use Rattle.rl_wire.specs.Crossing.{foreign_in, numbers_out}
use Rattle.rl_wire.specs.Lemmas.Exporting.{IsExported}
use Rattle.hub_machine.specs.State.{State, opening}
use Rattle.hub_machine.specs.Replays.{replay}
use Rattle.hub_laws.specs.Noting.{note_of}
use Rattle.hub_laws.specs.Scratch.{exports_in}
use Rattle.hub_laws.specs.Settled.{HasNumbers}
use Rattle.hub_laws.proofs.Among.{any_map, has_ascending}
use Rattle.hub_laws.proofs.Opening.{replay_hub}
use Rattle.hub_laws.proofs.Sending.{holdings_hold, notes_hold}
use Rattle.hub_laws.proofs.Steps.{named_of}
use Rattle.hub_valid.specs.Lemmas.Admitted.{names_of}
use Rattle.hub_authority.specs.Laws.{InForce}
use Rattle.hub_authority.specs.Named.{is_held, told_from}
use Rattle.hub_authority.proofs.Exported.{IsSettledBy, AreNeeded, place_found, each_is_found, names_settled}
use Rattle.hub_authority.proofs.Exporting.{IsItsOwn}
use Rattle.hub_authority.proofs.Runs.{told_so}

-- a test that finds one is followed by another, where each that passes the first passes the second
any_weaker : {X : Type 0} (P Q : X → Bool) (xs : List X) → AllByRecursion (λ x. P x ≡ true → Q x ≡ true) xs
    → list_any P xs ≡ true → list_any Q xs ≡ true
any_weaker P Q [] weaker is = absurd cc
any_weaker P Q (x ∷ xs) weaker is = by (any_weaker P Q xs weaker.1) (P x) refl is (Q x) refl
  where
    by : (list_any P xs ≡ true → list_any Q xs ≡ true) → (a : Bool) → P x ≡ a → (a || list_any P xs) ≡ true
        → (b : Bool) → Q x ≡ b → (b || list_any Q xs) ≡ true
    by rest a p found true q = refl
    by rest true p found false q = absurd (let clash : false ≡ true = sym q ∙ weaker.0 p in cc)
    by rest false p later false q = rest later

either : (a b c : Bool) → (b ≡ true → c ≡ true) → (a || b) ≡ true → (a || c) ≡ true
either true b c f is = refl
either false b c f is = f is

-- the reference that has the number of one in force is that one
same_reference : (x : ExportTable) (n : ℕ) (r s : Plain) → KeysAscend x.in_force → entry_of n x.in_force ≡ Some r
    → IsExported x s → (number_of s x == n) ≡ true → same r s ≡ true
same_reference x n r s ascend here there number = by (place_of s x.in_force) refl there number
  where
    by : (o : Option ℕ) → place_of s x.in_force ≡ o → is_some o ≡ true → (unwrap_or o x.next == n) ≡ true
        → same r s ≡ true
    by None is some one = absurd cc
    by (Some m) is some one =
        let numbers : m ≡ n = grind (arith, nat_tests, one) in
        let found : entry_of n x.in_force ≡ Some s =
        subst (λ i. entry_of i x.in_force ≡ Some s) numbers (place_found s x.in_force m ascend is) in
        let both : Some r ≡ Some s = sym here ∙ found in
        let one_reference : r ≡ s = cc in
        subst (λ y. same r y ≡ true) one_reference (same_self r)

module _ (k : ℕ) (x : ExportTable) (ascend : KeysAscend x.in_force) (got : List (ℕ × Held))
    (numbers : AllByRecursion (HasNumbers x k) got) (n : ℕ) (r : Plain) (here : entry_of n x.in_force ≡ Some r)
  where
    value_mentions : (v : Plain) → AllByRecursion (IsExported x) (foreign_in k v)
        → has_number n (numbers_out x k v) ≡ true → list_any (same r) (foreign_in k v) ≡ true
    value_mentions v there is =
        any_weaker (λ s. number_of s x == n) (same r) (foreign_in k v)
        (all_weaker (IsExported x) (λ s. (number_of s x == n) ≡ true → same r s ≡ true)
        (λ s exported one. same_reference x n r s ascend here exported one) (foreign_in k v) there)
        (sym (has_ascending n (map (λ s. number_of s x) (foreign_in k v))
        ∙ any_map (λ m. m == n) (λ s. number_of s x) (foreign_in k v)) ∙ is)

    -- where the notes mention it, it stands in what was got
    pub mentioned_held : is_mentioned n (map (note_of x k) got) ≡ true → is_held k got r ≡ true
    mentioned_held is =
        any_weaker (λ e. has_number n (numbers_out x k e.1.value)) (λ e. list_any (same r) (foreign_in k e.1.value)) got
        (all_weaker (HasNumbers x k)
        (λ e. has_number n (numbers_out x k e.1.value) ≡ true → list_any (same r) (foreign_in k e.1.value) ≡ true)
        (λ e there one. value_mentions e.1.value there one) got numbers)
        (sym (any_map (λ (d : ℕ × List ℕ). has_number n d.1) (note_of x k) got) ∙ is)

pub are_in_force : InForce
are_in_force ds k steps ports may is = (
  own.0,
  own.1,
  record {
    first_there = settled.first_there;
    first_pinned = settled.first_pinned;
    pinned = settled.pinned_there;
    held = numbers;
    no_other = needed_each ports.exports.in_force (each_is_found ports.exports.in_force settled.ascend) needed;
  },
)
  where
    s : State
    s = replay ds steps

    got : Deliveries
    got = held_by (actor_of k) s.world

    own : IsItsOwn ds k steps ports
    own = (told_so ds k steps ports is).own ports is

    all : IsSettledBy own.0 (names_of ports) × AreNeeded (names_of ports)
    all =
        subst (λ p. IsSettledBy own.0 p × AreNeeded p) (sym own.2)
        (names_settled own.0 k (told_from k (opening ds) steps))

    settled : IsSettledBy own.0 (names_of ports)
    settled = all.0

    needed : AllByRecursion (λ e. stays ports e.0 ≡ true) ports.exports.in_force
    needed = all.1

    numbers : AllByRecursion (HasNumbers ports.exports k) got
    numbers =
        subst (λ x. AllByRecursion (HasNumbers x k) got) (ap exports_in is)
        (holdings_hold replay_hub ds k steps may (named_of k ports s is).live).1

    notes : ports.notes ≡ map (note_of ports.exports k) got
    notes = notes_hold replay_hub ds k steps may ports is

    needed_each : (es : List (ℕ × Plain)) → AllByRecursion (λ e. entry_of e.0 ports.exports.in_force ≡ Some e.1) es
        → AllByRecursion (λ e. stays ports e.0 ≡ true) es
        → AllByRecursion (λ e. (has_number e.0 ports.pinned || is_held k got e.1) ≡ true) es
    needed_each [] found stay = tt
    needed_each (e ∷ es) found stay = (
      either (has_number e.0 ports.pinned) (is_mentioned e.0 ports.notes) (is_held k got e.1)
          (λ mentioned. mentioned_held k ports.exports settled.ascend got numbers e.0 e.1 found.0
          (sym (ap (is_mentioned e.0) notes) ∙ mentioned)) stay.0,
      needed_each es found.1 stay.1,
    )
