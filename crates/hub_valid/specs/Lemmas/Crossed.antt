-- What is held in values that cross, and that what is sent may stand in a packet.
use Rattle.std.proofs.Common.{◌≡◌, ℕ, ◌^◌, ◌<◌, ◌≤◌, Bool, true, false, ◌&&◌, List, [], ◌∷◌, ◌++◌}
use Rattle.std.proofs.Common.{map, Option, Some, None, cond, refl, sym, ap, ◌∙◌, subst, arith}
use Rattle.std.proofs.lemmas.Bool.{and_from, and_parts, lt-ltb}
use Rattle.std.proofs.lemmas.Bool.Decides.{nat_tests}
use Rattle.std.specs.Prelude.{IsSomeAnd, unwrap_or, if◌then◌else◌}
use Rattle.std.specs.declared.cmp.Ordering.{Ordering}
use Rattle.std.specs.declared.cmp.Ordering.TheVariants.{Less, Equal, Greater}
use Rattle.std.specs.Ordering.{match_ordering}
use Rattle.std.specs.BTreeMap.{insert_entry}
use Rattle.std.specs.List.{AllByRecursion}
use Rattle.std.specs.Map.{keys_of}
use Rattle.pv_value.specs.Plain.{Plain, integer, record_of, sequence, set_of, dictionary, embedded, boolean, double}
use Rattle.pv_value.specs.Plain.{string, byte_string, symbol, Plains, no_more, then_more, PlainPairs, no_pairs}
use Rattle.pv_value.specs.Plain.{then_pair, plains, listed, pairs, paired}
use Rattle.pv_value.specs.Order.{order}
use Rattle.pv_value.specs.Sets.{ascending_by}
use Rattle.ds_space.specs.declared.references.Reference.{Reference}
use Rattle.ds_space.specs.References.{reference_of}
use Rattle.pv_words.specs.Parts.{same}
use Rattle.sr_caveat.specs.declared.caps.Cap.{Cap}
use Rattle.sr_caveat.specs.Caps.{cap_of}
use Rattle.sr_caveat.specs.Lemmas.Capped.{cap_is, cap_sound}
use Rattle.ac_table.specs.declared.batches.Event.{Event}
use Rattle.ac_table.specs.declared.batches.Event.TheVariants.{Assert, Retract, Message, Sync}
use Rattle.rl_packet.specs.Wired.{is_wire_reference, is_wired, all_wired, all_pairs_wired, IsTurnEvent}
use Rattle.rl_ports.specs.Ports.{ExportTable, AreNumbered, place_of, number_of}
use Rattle.rl_wire.specs.Crossing.{by_keys, crossed, all_crossed, all_pairs_crossed, held_in, all_held_in}
use Rattle.rl_wire.specs.Crossing.{all_pairs_held_in, actor_at, wire_value, is_own, reference_out, crossed_out}
use Rattle.rl_wire.specs.Lemmas.Later.{all_of_front, all_of_rest}
use Rattle.hub_machine.specs.Machine.{sent_event}
use Rattle.hub_valid.specs.Validity.{Lived, IsObject, IsObjectValue, HoldsObjects, IsValidEvent}
use Rattle.hub_valid.specs.Promises.{SentIsSound}
use Rattle.hub_valid.specs.Lemmas.Values.{all_append, all_ascending}

-- ---- values in lists, each of which holds what passes

module _ (Q : Plain → Type 0) where
  -- each embedded value in it that isn't inside another holds what passes
  abbrev Holds : Plain → Type 0
  Holds v = AllByRecursion Q (held_in v)

  -- an entry's key and value do
  abbrev EntryHolds : Plain × Plain → Type 0
  EntryHolds p = Holds p.0 × Holds p.1

  pub held_listed : (xs : Plains) → AllByRecursion Q (all_held_in xs) → AllByRecursion Holds (listed xs)
  held_listed no_more a = tt
  held_listed (then_more x xs) a =
      (all_of_front Q (held_in x) (all_held_in xs) a, held_listed xs (all_of_rest Q (held_in x) (all_held_in xs) a))

  held_plains : (xs : List Plain) → AllByRecursion Holds xs → AllByRecursion Q (all_held_in (plains xs))
  held_plains [] a = tt
  held_plains (x ∷ xs) a = all_append Q (held_in x) (all_held_in (plains xs)) a.0 (held_plains xs a.1)

  held_paired : (ps : PlainPairs) → AllByRecursion Q (all_pairs_held_in ps) → AllByRecursion EntryHolds (paired ps)
  held_paired no_pairs a = tt
  held_paired (then_pair k v ps) a =
      let first = all_of_front Q (held_in k ++ held_in v) (all_pairs_held_in ps) a in (
        (all_of_front Q (held_in k) (held_in v) first, all_of_rest Q (held_in k) (held_in v) first),
        held_paired ps (all_of_rest Q (held_in k ++ held_in v) (all_pairs_held_in ps) a),
      )

  held_pairs : (ps : List (Plain × Plain)) → AllByRecursion EntryHolds ps
      → AllByRecursion Q (all_pairs_held_in (pairs ps))
  held_pairs [] a = tt
  held_pairs (p ∷ ps) a =
      all_append Q (held_in p.0 ++ held_in p.1) (all_pairs_held_in (pairs ps))
      (all_append Q (held_in p.0) (held_in p.1) a.0.0 a.0.1) (held_pairs ps a.1)

  -- an entry that is put in order replaces at most the value of an equal key
  entry_inserted : (ps : List (Plain × Plain)) (k v : Plain) → AllByRecursion EntryHolds ps → Holds k → Holds v
      → AllByRecursion EntryHolds (insert_entry order ps k v)
  entry_inserted [] k v a hk hv = ((hk, hv), tt)
  entry_inserted (p ∷ ps) k v a hk hv = by (order k p.0) (entry_inserted ps k v a.1 hk hv)
    where
      by : (o : Ordering) → AllByRecursion EntryHolds (insert_entry order ps k v)
          → AllByRecursion EntryHolds
          (match_ordering o ((k, v) ∷ p ∷ ps) ((p.0, v) ∷ ps) (p ∷ insert_entry order ps k v))
      by Less rest = ((hk, hv), a)
      by Equal rest = ((a.0.0, hv), a.1)
      by Greater rest = (a.0, rest)

  entries_in_order : (ps : List (Plain × Plain)) → AllByRecursion EntryHolds ps
      → AllByRecursion EntryHolds (by_keys ps)
  entries_in_order [] a = tt
  entries_in_order (p ∷ ps) a = entry_inserted (by_keys ps) p.0 p.1 (entries_in_order ps a.1) a.0.0 a.0.1

  held_in_set : (xs : Plains) → AllByRecursion Q (all_held_in xs)
      → AllByRecursion Q (all_held_in (plains (ascending_by order (listed xs))))
  held_in_set xs a =
      held_plains (ascending_by order (listed xs)) (all_ascending Holds order (listed xs) (held_listed xs a))

  held_in_dictionary : (ps : PlainPairs) → AllByRecursion Q (all_pairs_held_in ps)
      → AllByRecursion Q (all_pairs_held_in (pairs (by_keys (paired ps))))
  held_in_dictionary ps a = held_pairs (by_keys (paired ps)) (entries_in_order (paired ps) (held_paired ps a))

-- ---- what is held in a value that has crossed comes of what was held in it

mutual
  pub held_by_crossed : (P Q : Plain → Type 0) (f : Plain → Plain) → ((x : Plain) → P x → Q (f x)) → (v : Plain)
      → AllByRecursion P (held_in v) → AllByRecursion Q (held_in (crossed f v))
  held_by_crossed P Q f by (embedded x) a = (by x a.0, tt)
  held_by_crossed P Q f by (record_of l fs) a =
      all_append Q (held_in (crossed f l)) (all_held_in (all_crossed f fs))
      (held_by_crossed P Q f by l (all_of_front P (held_in l) (all_held_in fs) a))
      (held_by_all_crossed P Q f by fs (all_of_rest P (held_in l) (all_held_in fs) a))
  held_by_crossed P Q f by (sequence xs) a = held_by_all_crossed P Q f by xs a
  held_by_crossed P Q f by (set_of xs) a = held_in_set Q (all_crossed f xs) (held_by_all_crossed P Q f by xs a)
  held_by_crossed P Q f by (dictionary ps) a =
      held_in_dictionary Q (all_pairs_crossed f ps) (held_by_all_pairs_crossed P Q f by ps a)
  held_by_crossed P Q f by (boolean b) a = tt
  held_by_crossed P Q f by (double d) a = tt
  held_by_crossed P Q f by (integer n) a = tt
  held_by_crossed P Q f by (string s) a = tt
  held_by_crossed P Q f by (byte_string b) a = tt
  held_by_crossed P Q f by (symbol s) a = tt

  held_by_all_crossed : (P Q : Plain → Type 0) (f : Plain → Plain) → ((x : Plain) → P x → Q (f x)) → (xs : Plains)
      → AllByRecursion P (all_held_in xs) → AllByRecursion Q (all_held_in (all_crossed f xs))
  held_by_all_crossed P Q f by no_more a = tt
  held_by_all_crossed P Q f by (then_more x xs) a =
      all_append Q (held_in (crossed f x)) (all_held_in (all_crossed f xs))
      (held_by_crossed P Q f by x (all_of_front P (held_in x) (all_held_in xs) a))
      (held_by_all_crossed P Q f by xs (all_of_rest P (held_in x) (all_held_in xs) a))

  held_by_all_pairs_crossed : (P Q : Plain → Type 0) (f : Plain → Plain) → ((x : Plain) → P x → Q (f x))
      → (ps : PlainPairs) → AllByRecursion P (all_pairs_held_in ps)
      → AllByRecursion Q (all_pairs_held_in (all_pairs_crossed f ps))
  held_by_all_pairs_crossed P Q f by no_pairs a = tt
  held_by_all_pairs_crossed P Q f by (then_pair k v ps) a =
      let first = all_of_front P (held_in k ++ held_in v) (all_pairs_held_in ps) a in
      all_append Q (held_in (crossed f k) ++ held_in (crossed f v)) (all_pairs_held_in (all_pairs_crossed f ps))
      (all_append Q (held_in (crossed f k)) (held_in (crossed f v))
      (held_by_crossed P Q f by k (all_of_front P (held_in k) (held_in v) first))
      (held_by_crossed P Q f by v (all_of_rest P (held_in k) (held_in v) first)))
      (held_by_all_pairs_crossed P Q f by ps (all_of_rest P (held_in k ++ held_in v) (all_pairs_held_in ps) a))

-- ---- a value in which each embedded value holds a wire reference may stand in a packet

abbrev pub IsWireReference : Plain → Type 0
IsWireReference x = is_wire_reference x ≡ true

mutual
  wired_by_held : (v : Plain) → AllByRecursion IsWireReference (held_in v) → is_wired v ≡ true
  wired_by_held (embedded x) a = a.0
  wired_by_held (record_of l fs) a =
      and_from (is_wired l) (all_wired fs)
      (wired_by_held l (all_of_front IsWireReference (held_in l) (all_held_in fs) a))
      (all_wired_by_held fs (all_of_rest IsWireReference (held_in l) (all_held_in fs) a))
  wired_by_held (sequence xs) a = all_wired_by_held xs a
  wired_by_held (set_of xs) a = all_wired_by_held xs a
  wired_by_held (dictionary ps) a = all_pairs_wired_by_held ps a
  wired_by_held (boolean b) a = refl
  wired_by_held (double d) a = refl
  wired_by_held (integer n) a = refl
  wired_by_held (string s) a = refl
  wired_by_held (byte_string b) a = refl
  wired_by_held (symbol s) a = refl

  all_wired_by_held : (xs : Plains) → AllByRecursion IsWireReference (all_held_in xs) → all_wired xs ≡ true
  all_wired_by_held no_more a = refl
  all_wired_by_held (then_more x xs) a =
      and_from (is_wired x) (all_wired xs)
      (wired_by_held x (all_of_front IsWireReference (held_in x) (all_held_in xs) a))
      (all_wired_by_held xs (all_of_rest IsWireReference (held_in x) (all_held_in xs) a))

  all_pairs_wired_by_held : (ps : PlainPairs) → AllByRecursion IsWireReference (all_pairs_held_in ps)
      → all_pairs_wired ps ≡ true
  all_pairs_wired_by_held no_pairs a = refl
  all_pairs_wired_by_held (then_pair k v ps) a =
      let first = all_of_front IsWireReference (held_in k ++ held_in v) (all_pairs_held_in ps) a in
      and_from (is_wired k && is_wired v) (all_pairs_wired ps)
      (and_from (is_wired k) (is_wired v)
      (wired_by_held k (all_of_front IsWireReference (held_in k) (held_in v) first))
      (wired_by_held v (all_of_rest IsWireReference (held_in k) (held_in v) first)))
      (all_pairs_wired_by_held ps (all_of_rest IsWireReference (held_in k ++ held_in v) (all_pairs_held_in ps) a))

-- ---- and where a value may, each does

mutual
  pub held_by_wired : (v : Plain) → is_wired v ≡ true → AllByRecursion IsWireReference (held_in v)
  held_by_wired (embedded x) e = (e, tt)
  held_by_wired (record_of l fs) e =
      let parts = and_parts (is_wired l) (all_wired fs) e in
      all_append IsWireReference (held_in l) (all_held_in fs) (held_by_wired l parts.0) (held_by_all_wired fs parts.1)
  held_by_wired (sequence xs) e = held_by_all_wired xs e
  held_by_wired (set_of xs) e = held_by_all_wired xs e
  held_by_wired (dictionary ps) e = held_by_all_pairs_wired ps e
  held_by_wired (boolean b) e = tt
  held_by_wired (double d) e = tt
  held_by_wired (integer n) e = tt
  held_by_wired (string s) e = tt
  held_by_wired (byte_string b) e = tt
  held_by_wired (symbol s) e = tt

  held_by_all_wired : (xs : Plains) → all_wired xs ≡ true → AllByRecursion IsWireReference (all_held_in xs)
  held_by_all_wired no_more e = tt
  held_by_all_wired (then_more x xs) e =
      let parts = and_parts (is_wired x) (all_wired xs) e in
      all_append IsWireReference (held_in x) (all_held_in xs) (held_by_wired x parts.0) (held_by_all_wired xs parts.1)

  held_by_all_pairs_wired : (ps : PlainPairs) → all_pairs_wired ps ≡ true
      → AllByRecursion IsWireReference (all_pairs_held_in ps)
  held_by_all_pairs_wired no_pairs e = tt
  held_by_all_pairs_wired (then_pair k v ps) e =
      let parts = and_parts (is_wired k && is_wired v) (all_pairs_wired ps) e in
      let here = and_parts (is_wired k) (is_wired v) parts.0 in
      all_append IsWireReference (held_in k ++ held_in v) (all_pairs_held_in ps)
      (all_append IsWireReference (held_in k) (held_in v) (held_by_wired k here.0) (held_by_wired v here.1))
      (held_by_all_pairs_wired ps parts.1)

-- ---- objects that go out

own_wire : (e : ℕ) → e < 2 ^ 63 → IsWireReference (wire_value 1 e)
own_wire e low = grind (arith, nat_tests)

other_wire : (e : ℕ) → e < 2 ^ 63 → IsWireReference (wire_value 0 e)
other_wire e low = grind (arith, nat_tests)

-- the number of what is exported was given
place_given : (r : Plain) (next : ℕ) (es : List (ℕ × Plain)) (n : ℕ) → AllByRecursion (λ m. m < next) (keys_of es)
    → place_of r es ≡ Some n → n < next
place_given r next [] n given is = absurd cc
place_given r next (e ∷ es) n given is = by (same r e.1) (place_given r next es n given.1) is
  where
    by : (b : Bool) → (place_of r es ≡ Some n → n < next) → (if b then Some e.0 else place_of r es) ≡ Some n → n < next
    by true later is = let one : e.0 ≡ n = cc in subst (λ m. m < next) one given.0
    by false later is = later is

number_small : (r : Plain) (exports : ExportTable) → AreNumbered exports → number_of r exports < 2 ^ 63
number_small r exports are = by (place_of r exports.in_force) refl
  where
    by : (o : Option ℕ) → place_of r exports.in_force ≡ o → unwrap_or o exports.next < 2 ^ 63
    by None is = are.few
    by (Some n) is =
        let low = place_given r exports.next exports.in_force n are.given is in omega (arith, are.few, low)

-- the object that a reference names
pub reference_read : (x : Plain) (c : Cap) → cap_of x ≡ Some c
    → reference_of x ≡ Some (record { actor = c.actor; entity = c.entity })
reference_read x c is =
    let sound = cap_sound x c is in
    ap reference_of (cap_is x c is)
    ∙ (λ i. cond {A = Option Reference} (lt-ltb c.actor (2 ^ 32) sound.0 i && lt-ltb c.entity (2 ^ 63) sound.1 i)
    (Some (record { actor = c.actor; entity = c.entity })) None)

object_goes_out : (n : Lived) (k : ℕ) (exports : ExportTable) (x : Plain) → AreNumbered exports
    → IsObjectValue n x → IsWireReference (reference_out exports (actor_at k) x (reference_of x))
object_goes_out n k exports x are h = by (cap_of x) refl h
  where
    at : (c : Cap) (b : Bool) → IsObject n c
        → IsWireReference (if b then wire_value 1 c.entity else wire_value 0 (number_of x exports))
    at c true o = own_wire c.entity o.1
    at c false o = other_wire (number_of x exports) (number_small x exports are)

    by : (o : Option Cap) → cap_of x ≡ o → IsSomeAnd o (IsObject n)
        → IsWireReference (reference_out exports (actor_at k) x (reference_of x))
    by None is h = absurd h
    by (Some c) is h =
        subst (λ o. IsWireReference (reference_out exports (actor_at k) x o)) (sym (reference_read x c is))
        (at c (is_own (actor_at k) x (record { actor = c.actor; entity = c.entity })) h)

sent_value : (n : Lived) (k : ℕ) (exports : ExportTable) (v : Plain) → AreNumbered exports → HoldsObjects n v
    → is_wired (crossed_out exports k v) ≡ true
sent_value n k exports v are h =
    wired_by_held (crossed_out exports k v)
    (held_by_crossed (IsObjectValue n) IsWireReference (λ x. reference_out exports (actor_at k) x (reference_of x))
    (λ x. object_goes_out n k exports x are) v h)

sent_one : (n : Lived) (next k : ℕ) (exports : ExportTable) (e : Event) → IsValidEvent n next e → next ≤ 2 ^ 63
    → AreNumbered exports → IsTurnEvent (sent_event exports k e)
sent_one n next k exports (Assert h entity v) valid low are =
    (valid.1, (sent_value n k exports v are valid.2, omega arith))
sent_one n next k exports (Retract h entity) valid low are = (valid.1, omega arith)
sent_one n next k exports (Message entity v) valid low are = (valid.0, sent_value n k exports v are valid.1)
sent_one n next k exports (Sync entity peer) valid low are =
    (valid.0, object_goes_out n k exports peer are valid.1)

sent_all : (n : Lived) (next k : ℕ) (exports : ExportTable) (es : List Event) → AllByRecursion (IsValidEvent n next) es
    → next ≤ 2 ^ 63 → AreNumbered exports → AllByRecursion IsTurnEvent (map (sent_event exports k) es)
sent_all n next k exports [] valid low are = tt
sent_all n next k exports (e ∷ es) valid low are =
    (sent_one n next k exports e valid.0 low are, sent_all n next k exports es valid.1 low are)

pub sent_is_sound : SentIsSound
sent_is_sound n next k exports b valid low are = sent_all n next k exports b.events valid low are
