-- What a value is sent as means what it told, and still does once more numbers are given.
use Rattle.std.proofs.Common.{◌≡◌, ℕ, zero, suc, ◌+◌, ◌<◌, ◌==◌, ◌&&◌, List, [], ◌∷◌, ◌++◌, Bool, true, false, cond}
use Rattle.std.proofs.Common.{Option, Some, None, inl, inr, refl, sym, ap, ◌∙◌, subst, arith, length, is_some, map}
use Rattle.std.specs.Prelude.{IsSomeAnd, unwrap_or, slice_get}
use Rattle.std.proofs.lemmas.List.{append-nil, append_assoc, length-append}
use Rattle.std.specs.List.{AllByRecursion, flat_map}
use Rattle.std.proofs.lemmas.Bool.Decides.{nat_tests}
use Rattle.pv_value.specs.Plain.{Plain, embedded}
use Rattle.pv_words.specs.Lemmas.Same.{same_is}
use Rattle.pv_words.specs.Parts.{same}
use Rattle.ds_space.specs.declared.references.Reference.{Reference}
use Rattle.ds_space.specs.References.{reference_of}
use Rattle.sr_caveat.specs.declared.caps.Cap.{Cap}
use Rattle.sr_caveat.specs.declared.Caveat.{Caveat}
use Rattle.sr_caveat.specs.Caps.{cap_of, cap_value}
use Rattle.sr_caveat.specs.Lemmas.Capped.{cap_is}
use Rattle.ac_table.specs.declared.batches.Event.{Event as Told}
use Rattle.ac_table.specs.declared.batches.Event.TheVariants as told
use Rattle.rl_packet.specs.declared.packets.TurnEvent.{TurnEvent}
use Rattle.ac_world.specs.Lemmas.Entries.{all_append}
use Rattle.rl_ports.specs.Ports.{PortsState, ExportTable, place_of, number_of, exported, with_export, stays, swept}
use Rattle.rl_wire.specs.Crossing.{held_in, is_own, foreign_of, foreign_in, all_exported, reference_out, actor_at}
use Rattle.rl_wire.specs.Crossing.{caveats_in, wire_value, crossed_out}
use Rattle.rl_wire.specs.Lemmas.Exporting.{IsExported}
use Rattle.rl_wire.specs.Lemmas.Later.{all_of_front, all_of_rest}
use Rattle.hub_machine.specs.Machine.{told_value, foreign_told, sent_event}
use Rattle.hub_valid.specs.Validity.{Lived, IsObject, IsObjectValue, IsValidEvent}
use Rattle.hub_valid.specs.Lemmas.Crossed.{reference_read}
use Rattle.hub_valid.specs.Lemmas.Filtered.{all_kept}
use Rattle.hub_valid.specs.Lemmas.Values.{all_weaker}
use Rattle.hub_authority.specs.Named.{AreAmongGiven}
use Rattle.hub_authority.specs.Meant.{MeansExport, Means, NamesAll, IsSentAs, AreSentAs}

-- ---- what stands under a number

in_range : {X : Type 0} (xs : List X) (n : ℕ) (r : X) → slice_get xs n ≡ Some r → n < length xs
in_range [] n r is = absurd cc
in_range (x ∷ xs) zero r is = omega arith
in_range (x ∷ xs) (suc n) r is = let rest = in_range xs n r is in omega (arith, rest)

-- each export in force is that to which its number was given
abbrev AreGiven : List Plain → ExportTable → Type 0
AreGiven given exports = AllByRecursion (λ e. slice_get given e.0 ≡ Some e.1) exports.in_force

place_stands : (given : List Plain) (r : Plain) (es : List (ℕ × Plain)) (n : ℕ)
    → AllByRecursion (λ e. slice_get given e.0 ≡ Some e.1) es → place_of r es ≡ Some n → slice_get given n ≡ Some r
place_stands given r [] n all is = absurd cc
place_stands given r (e ∷ es) n all is = by (same r e.1) refl (place_stands given r es n all.1) is
  where
    by : (b : Bool) → same r e.1 ≡ b → (place_of r es ≡ Some n → slice_get given n ≡ Some r)
        → cond b (Some e.0) (place_of r es) ≡ Some n → slice_get given n ≡ Some r
    by true here rest one =
        let number : e.0 ≡ n = cc in
        subst (λ m. slice_get given m ≡ Some r) number (all.0 ∙ ap Some (sym (same_is r e.1 here)))
    by false other rest later = rest later

-- an exported reference is meant by its number
export_means : (given : List Plain) (r : Plain) (exports : ExportTable) → AreGiven given exports → IsExported exports r
    → MeansExport given r (wire_value 0 (number_of r exports))
export_means given r exports all there =
    by (place_of r exports.in_force) (λ m is. place_stands given r exports.in_force m all is) there
  where
    by : (o : Option ℕ) → ((m : ℕ) → o ≡ Some m → slice_get given m ≡ Some r) → is_some o ≡ true
        → MeansExport given r (wire_value 0 (unwrap_or o exports.next))
    by None stands is = absurd cc
    by (Some n) stands is = (n, in_range given n r (stands n refl), stands n refl, refl)

-- ---- one reference

no_caveats : (cs : List Caveat) (actor entity : ℕ)
    → (length (caveats_in (cap_value (record { actor = actor; entity = entity; caveats = cs }))) == 0) ≡ true
    → cs ≡ []
no_caveats [] actor entity is = refl
no_caveats (c ∷ cs) actor entity is = absurd (grind (arith, nat_tests, is))

and_both : (b c : Bool) → (b && c) ≡ true → (b ≡ true) × (c ≡ true)
and_both true true is = (refl, refl)
and_both true false is = absurd cc
and_both false c is = absurd cc

own_cap : (k : ℕ) (x : Plain) (c : Cap) → cap_of x ≡ Some c
    → is_own (actor_at k) x (record { actor = c.actor; entity = c.entity }) ≡ true
    → c ≡ record { actor = actor_at k; entity = c.entity; caveats = [] }
own_cap k x c is own =
    let parts = and_both (c.actor == actor_at k) (length (caveats_in x) == 0) own in
    let actor : c.actor ≡ actor_at k = grind (arith, nat_tests, parts.0) in
    let none : c.caveats ≡ [] =
    no_caveats c.caveats c.actor c.entity
    (subst (λ y. (length (caveats_in y) == 0) ≡ true) (cap_is x c is) parts.1) in
    λ i. record { actor = actor i; entity = c.entity; caveats = none i }

one_means : (n : Lived) (k : ℕ) (given : List Plain) (exports : ExportTable) (x : Plain)
    → AreGiven given exports → IsObjectValue n x
    → AllByRecursion (IsExported exports) (foreign_of (actor_at k) x (reference_of x))
    → Means given k x (reference_out exports (actor_at k) x (reference_of x))
one_means n k given exports x all object there = by (cap_of x) refl object
  where
    at : (c : Cap) → cap_of x ≡ Some c → (b : Bool)
        → is_own (actor_at k) x (record { actor = c.actor; entity = c.entity }) ≡ b
        → AllByRecursion (IsExported exports) (cond b [] (x ∷ []))
        → Means given k x (cond b (wire_value 1 c.entity) (wire_value 0 (number_of x exports)))
    at c is true own foreign = inl (c.entity, is ∙ ap Some (own_cap k x c is own), refl)
    at c is false other foreign = inr (export_means given x exports all foreign.0)

    by : (o : Option Cap) → cap_of x ≡ o → IsSomeAnd o (IsObject n)
        → Means given k x (reference_out exports (actor_at k) x (reference_of x))
    by None is object = absurd object
    by (Some c) is object =
        let r : Reference = record { actor = c.actor; entity = c.entity } in
        let read : reference_of x ≡ Some r = reference_read x c is in
        subst (λ o. Means given k x (reference_out exports (actor_at k) x o)) (sym read)
        (at c is (is_own (actor_at k) x r) refl
        (subst (λ o. AllByRecursion (IsExported exports) (foreign_of (actor_at k) x o)) read there))

all_mean : (n : Lived) (k : ℕ) (given : List Plain) (exports : ExportTable) (xs : List Plain)
    → AreGiven given exports → AllByRecursion (IsObjectValue n) xs
    → AllByRecursion (IsExported exports) (flat_map (λ x. foreign_of (actor_at k) x (reference_of x)) xs)
    → AllByRecursion (λ x. Means given k x (reference_out exports (actor_at k) x (reference_of x))) xs
all_mean n k given exports [] all objects there = tt
all_mean n k given exports (x ∷ xs) all objects there =
    let here = foreign_of (actor_at k) x (reference_of x) in
    let rest = flat_map (λ y. foreign_of (actor_at k) y (reference_of y)) xs in (
      one_means n k given exports x all objects.0 (all_of_front (IsExported exports) here rest there),
      all_mean n k given exports xs all objects.1 (all_of_rest (IsExported exports) here rest there),
    )

value_means : (n : Lived) (k : ℕ) (given : List Plain) (exports : ExportTable) (v : Plain)
    → AreGiven given exports → AllByRecursion (IsObjectValue n) (held_in v)
    → AllByRecursion (IsExported exports) (foreign_in k v) → NamesAll given k v (crossed_out exports k v)
value_means n k given exports v all objects there = (
  (λ x. reference_out exports (actor_at k) x (reference_of x)),
  refl,
  all_mean n k given exports (held_in v) all objects there,
)

-- ---- events

event_means : (n : Lived) (next k : ℕ) (given : List Plain) (exports : ExportTable) (e : Told)
    → AreGiven given exports → IsValidEvent n next e
    → AllByRecursion (IsExported exports) (foreign_told k (told_value e))
    → IsSentAs given k e (sent_event exports k e)
event_means n next k given exports (told.Assert h entity v) all fits there =
    (crossed_out exports k v, refl, value_means n k given exports v all fits.2 there)
event_means n next k given exports (told.Retract h entity) all fits there = refl
event_means n next k given exports (told.Message entity v) all fits there =
    (crossed_out exports k v, refl, value_means n k given exports v all fits.1 there)
event_means n next k given exports (told.Sync entity peer) all fits there =
    (crossed_out exports k (embedded peer), refl, value_means n k given exports (embedded peer) all (fits.1, tt) there)

pub events_mean : (n : Lived) (next k : ℕ) (given : List Plain) (exports : ExportTable) (es : List Told)
    → AreGiven given exports → AllByRecursion (IsValidEvent n next) es
    → AllByRecursion (IsExported exports) (flat_map (λ e. foreign_told k (told_value e)) es)
    → AreSentAs given k es (map (sent_event exports k) es)
events_mean n next k given exports [] all fit there = tt
events_mean n next k given exports (e ∷ es) all fit there =
    let here = foreign_told k (told_value e) in
    let rest = flat_map (λ d. foreign_told k (told_value d)) es in (
      event_means n next k given exports e all fit.0 (all_of_front (IsExported exports) here rest there),
      events_mean n next k given exports es all fit.1 (all_of_rest (IsExported exports) here rest there),
    )

-- ---- once more numbers are given

got_front : {X : Type 0} (xs ys : List X) (n : ℕ) (r : X) → slice_get xs n ≡ Some r → slice_get (xs ++ ys) n ≡ Some r
got_front [] ys n r is = absurd cc
got_front (x ∷ xs) ys zero r is = is
got_front (x ∷ xs) ys (suc n) r is = got_front xs ys n r is

got_last : {X : Type 0} (xs : List X) (r : X) → slice_get (xs ++ r ∷ []) (length xs) ≡ Some r
got_last [] r = refl
got_last (x ∷ xs) r = got_last xs r

one_given : (r : Plain) (x : ExportTable) (given : List Plain) → AreAmongGiven given x
    → (more : List Plain) × AreAmongGiven (given ++ more) (exported r x)
one_given r x given among = by (is_some (place_of r x.in_force))
  where
    by : (b : Bool) → (more : List Plain) × AreAmongGiven (given ++ more) (cond b x (with_export r x))
    by true = ([], subst (λ g. AreAmongGiven g x) (sym (append-nil given)) among)
    by false = (
      r ∷ [],
      record {
        next = length-append given (r ∷ []) ∙ ap (λ n. n + 1) among.next;
        in_force =
            all_append (λ e. slice_get (given ++ r ∷ []) e.0 ≡ Some e.1) x.in_force ((x.next, r) ∷ [])
            (all_weaker (λ e. slice_get given e.0 ≡ Some e.1) (λ e. slice_get (given ++ r ∷ []) e.0 ≡ Some e.1)
            (λ e is. got_front given (r ∷ []) e.0 e.1 is) x.in_force among.in_force)
            (subst (λ n. slice_get (given ++ r ∷ []) n ≡ Some r) among.next (got_last given r), tt);
      },
    )

-- what is exported gets numbers behind those that were given
pub more_given : (x : ExportTable) (rs given : List Plain) → AreAmongGiven given x
    → (more : List Plain) × AreAmongGiven (given ++ more) (all_exported x rs)
more_given x [] given among = ([], subst (λ g. AreAmongGiven g x) (sym (append-nil given)) among)
more_given x (r ∷ rs) given among =
    let one = one_given r x given among in
    let rest = more_given (exported r x) rs (given ++ one.0) one.1 in (
      one.0 ++ rest.0,
      subst (λ g. AreAmongGiven g (all_exported (exported r x) rs)) (append_assoc given one.0 rest.0) rest.1,
    )

-- and is among them still where others are released
pub still_given : (p : PortsState) (given : List Plain) → AreAmongGiven given p.exports
    → AreAmongGiven given (swept p).exports
still_given p given among = record {
  next = among.next;
  in_force = all_kept (λ e. slice_get given e.0 ≡ Some e.1) (λ e. stays p e.0) p.exports.in_force among.in_force;
}

module _ (given more : List Plain) (k : ℕ) where
  means_later : (r x : Plain) → Means given k r x → Means (given ++ more) k r x
  means_later r x (inl own) = inl own
  means_later r x (inr m) =
      let stands = got_front given more m.0 r m.2 in
      inr (m.0, in_range (given ++ more) m.0 r stands, stands, m.3)

  names_later : (v w : Plain) → NamesAll given k v w → NamesAll (given ++ more) k v w
  names_later v w a = (
    a.0,
    a.1,
    all_weaker (λ r. Means given k r (a.0 r)) (λ r. Means (given ++ more) k r (a.0 r))
        (λ r. means_later r (a.0 r)) (held_in v) a.2,
  )

  event_later : (e : Told) (t : TurnEvent) → IsSentAs given k e t → IsSentAs (given ++ more) k e t
  event_later (told.Assert h entity v) t s = (s.0, s.1, names_later v s.0 s.2)
  event_later (told.Retract h entity) t s = s
  event_later (told.Message entity v) t s = (s.0, s.1, names_later v s.0 s.2)
  event_later (told.Sync entity peer) t s = (s.0, s.1, names_later (embedded peer) s.0 s.2)

  pub events_later : (es : List Told) (ts : List TurnEvent) → AreSentAs given k es ts
      → AreSentAs (given ++ more) k es ts
  events_later [] [] s = tt
  events_later [] (t ∷ ts) s = s
  events_later (e ∷ es) [] s = s
  events_later (e ∷ es) (t ∷ ts) s = (event_later e t s.0, events_later es ts s.1)

pub sent_append : (given : List Plain) (k : ℕ) (es ds : List Told) (ts us : List TurnEvent)
    → AreSentAs given k es ts → AreSentAs given k ds us → AreSentAs given k (es ++ ds) (ts ++ us)
sent_append given k [] ds [] us a b = b
sent_append given k [] ds (t ∷ ts) us a b = absurd a
sent_append given k (e ∷ es) ds [] us a b = absurd a
sent_append given k (e ∷ es) ds (t ∷ ts) us a b = (a.0, sent_append given k es ds ts us a.1 b)
