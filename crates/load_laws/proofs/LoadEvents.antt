-- The values of a load write events.
use Rattle.std.proofs.Common.{◌≡◌, ℕ, zero, suc, ◌*◌, ◌^◌, ◌≤◌, ◌<◌, true, List, [], ◌∷◌, ◌++◌, Some, None}
use Rattle.std.proofs.Common.{arith, ap, sym, refl, subst, nat_lt, option_map, if◌then◌else◌}
use Rattle.std.proofs.lemmas.Bool.Decides.{nat_tests}
use Rattle.std.proofs.lemmas.Grind.{div_ceil_times}
use Rattle.std.specs.Prelude.{IsSomeAnd}
use Rattle.std.specs.List.{AllByRecursion}
use Rattle.pv_binary.specs.Written.{written}
use Rattle.rl_packet.specs.Packets.{packet_value}
use Rattle.rl_packet.specs.declared.packets.TurnEvent.{TurnEvent}
use Rattle.sc_events.specs.Events.{event_of}
use Rattle.sc_events.specs.declared.events.ScriptEvent.TheVariants.{Bytes}
use Rattle.sc_load.specs.Limits.{most_items}
use Rattle.sc_load.specs.Loads.{rounded_up, observes, loads, newer_packet, bytes_event, sent_by, connection_of, turn_of}
use Rattle.sc_load.specs.Loads.{turns_of, all_turns, opens}
use Rattle.load_laws.specs.LoadEvents.{connections_of, IsArrival, IsSending, WriteEvents, LoadsAreOfEvents}

pub both : {A : Type 0} (P : A → Type 0) (xs ys : List A) → AllByRecursion P xs → AllByRecursion P ys
    → AllByRecursion P (xs ++ ys)
both P [] ys all more = more
both P (x ∷ xs) ys all more = (all.0, both P xs ys all.1 more)

arrivals : (k : ℕ) → WriteEvents IsArrival (opens k)
arrivals zero = tt
arrivals (suc k) = both (λ v. IsSomeAnd (event_of v) IsArrival) (opens k) _ (arrivals k) (refl, tt)

-- ---- a turn

pub bytes_written : (j : ℕ) (es : List TurnEvent) → j < 2 ^ 32
    → event_of (bytes_event j es) ≡ Some (Bytes j (written (packet_value (newer_packet es))))
bytes_written j es small =
    let is : nat_lt j (2 ^ 32) ≡ true = grind (arith, nat_tests, small) in
    ap (λ b. option_map (λ k. Bytes k (written (packet_value (newer_packet es)))) (if b then Some j else None)) is

sends : (k j : ℕ) (es : List TurnEvent) → k ≤ 10 → 1 ≤ j → j ≤ k → WriteEvents (IsSending k) (sent_by j es)
sends k j es few some own =
    let small : j < 2 ^ 32 = omega (arith, few, own) in
    (subst (λ o. IsSomeAnd o (IsSending k)) (sym (bytes_written j es small)) (some, own, (es, refl)), (refl, tt))

-- ---- all turns

pub few_connections : (n : ℕ) → n ≤ most_items → connections_of n ≤ 10
few_connections n few = omega (arith, (div_ceil_times n 2000 (omega arith)).1, few)

-- a turn that is there begins below the number of all items
pub begins : (n t : ℕ) → t < rounded_up n 500 → 500 * t < n
begins n t there = omega (arith, (div_ceil_times n 500 (omega arith)).1, there)

pub own_turn : (n t : ℕ) → t < rounded_up n 500 → connection_of (500 * t) ≤ connections_of n
own_turn n t there = omega (arith, begins n t there)

turns_sent : (event : ℕ → TurnEvent) (n t : ℕ) → n ≤ most_items → t ≤ rounded_up n 500
    → WriteEvents (IsSending (connections_of n)) (turns_of event n t)
turns_sent event n zero few there = tt
turns_sent event n (suc t) few there =
    both (λ v. IsSomeAnd (event_of v) (IsSending (connections_of n))) (turns_of event n t) (turn_of event n t)
    (turns_sent event n t few (omega (arith, there)))
    (sends (connections_of n) (connection_of (500 * t)) _ (few_connections n few) (omega arith)
    (own_turn n t (omega (arith, there))))

pub loads_of_events : LoadsAreOfEvents
loads_of_events start n few = record {
  few = few_connections n few;
  arrivals = arrivals (connections_of n);
  sendings = both (λ v. IsSomeAnd (event_of v) (IsSending (connections_of n))) (all_turns observes n)
      (all_turns (loads start) n) (turns_sent observes n (rounded_up n 500) few (omega arith))
      (turns_sent (loads start) n (rounded_up n 500) few (omega arith));
}
