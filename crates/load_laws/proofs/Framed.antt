-- What a decider tells of the bytes that a connection of a load sends: one turn, whole, and nothing behind it.
use Rattle.std.proofs.Common.{◌≡◌, ℕ, ◌+◌, ◌*◌, ◌^◌, ◌<◌, ◌≤◌, List, [], ◌∷◌, length, map, true}
use Rattle.std.proofs.Common.{cond, ◌&&◌, nat_lt, Some, None, refl, sym, subst, ap, arith}
use Rattle.std.specs.Prelude.{is_some, max}
use Rattle.std.specs.List.{AllByRecursion}
use Rattle.std.proofs.lemmas.Bool.Decides.{nat_tests}
use Rattle.std.proofs.lemmas.List.Elements.{All-nil}
use Rattle.pv_value.specs.Plain.{Plain, plains}
use Rattle.pv_value.specs.Depth.{depth, deepest}
use Rattle.pv_binary.specs.Fronts.{at_tag}
use Rattle.pv_binary.specs.Written.{written}
use Rattle.rl_packet.specs.Wired.{IsTurnEvent, is_wired}
use Rattle.rl_packet.specs.Packets.{packet_value, aimed_value, spoken}
use Rattle.rl_packet.specs.Grammar.{HasDialect}
use Rattle.rl_packet.specs.declared.packets.Dialect.TheVariants.{Newer}
use Rattle.rl_packet.specs.declared.packets.TurnEvent.{TurnEvent}
use Rattle.rl_stream.specs.Limits.{packet_bytes}
use Rattle.rl_stream.specs.Nexts.{OneNext, Decider, Decides}
use Rattle.rl_stream.specs.declared.nexts.Next.TheVariants.{Whole, Waits}
use Rattle.sc_load.specs.Loads.{observation, observes, loads, newer_packet}
use Rattle.load_laws.proofs.Spelled.{IsSmall, AreSmall, are_bytes, begins_whole, observation_event_small}
use Rattle.load_laws.proofs.Spelled.{loading_event_small, observation_shallow, loading_shallow}
use Rattle.load_laws.proofs.Sizes.{spoken_value}

-- ---- events

-- an event may stand in a packet, and its value is one of short words and numbers, not deep
pub record IsSent (e : TurnEvent) : Type 0 where
  pub wired : IsTurnEvent e
  pub small : IsSmall (aimed_value Newer e)
  pub shallow : depth (aimed_value Newer e) ≤ 20

observation_wired : (m : ℕ) → m < 2 ^ 60 → is_wired (observation m) ≡ true
observation_wired m few =
    let small : nat_lt (m + 1) (2 ^ 63) ≡ true = grind (arith, nat_tests, few) in
    ap (λ b. is_some (cond b (Some (m + 1)) None) && true) small

pub observes_sent : (m : ℕ) → m < 2 ^ 60 → IsSent (observes m)
observes_sent m few = record {
  wired = (omega arith, (observation_wired m few, omega (arith, few)));
  small = observation_event_small m (omega (arith, few));
  shallow = observation_shallow m (2 * m);
}

pub loads_sent : (start m : ℕ) → m < 2 ^ 60 → IsSent (loads start m)
loads_sent start m few = record {
  wired = (omega arith, (refl, omega (arith, few)));
  small = loading_event_small start m (omega (arith, few));
  shallow = loading_shallow start m (2 * m + 1);
}

-- ---- turns

all_wired : (es : List TurnEvent) → AllByRecursion IsSent es → AllByRecursion IsTurnEvent es
all_wired [] all = tt
all_wired (e ∷ es) all = (all.0.wired, all_wired es all.1)

all_small_values : (es : List TurnEvent) → AllByRecursion IsSent es → AreSmall (plains (map (aimed_value Newer) es))
all_small_values [] all = tt
all_small_values (e ∷ es) all = (all.0.small, all_small_values es all.1)

all_shallow : (es : List TurnEvent) → AllByRecursion IsSent es → deepest (plains (map (aimed_value Newer) es)) ≤ 20
all_shallow [] all = omega arith
all_shallow (e ∷ es) all =
    let first = all.0.shallow in
    let later = all_shallow es all.1 in
    both (depth (aimed_value Newer e)) (deepest (plains (map (aimed_value Newer) es))) first later
  where
    both : (a b : ℕ) → a ≤ 20 → b ≤ 20 → max a b ≤ 20
    both a b l m = omega (arith, l, m)

has_dialect : (es : List TurnEvent) → HasDialect (spoken Newer es)
has_dialect [] = refl
has_dialect (e ∷ es) = refl

newer_small : (es : List TurnEvent) → AllByRecursion IsSent es → IsSmall (packet_value (newer_packet es))
newer_small es all = subst IsSmall (sym (spoken_value Newer es)) (all_small_values es all)

newer_shallow : (es : List TurnEvent) → AllByRecursion IsSent es → depth (packet_value (newer_packet es)) ≤ 64
newer_shallow es all =
    let l = all_shallow es all in
    subst (λ (v : Plain). depth v ≤ 64) (sym (spoken_value Newer es)) (omega (arith, l))

module _ (next : OneNext) (N : Decider) (decides : Decides N) where
  -- a turn that isn't too long stands alone
  pub turn_next : (es : List TurnEvent) (place : ℕ) → AllByRecursion IsSent es
      → length (written (packet_value (newer_packet es))) ≤ packet_bytes
      → N (written (packet_value (newer_packet es))) place
      ≡ Whole (newer_packet es) (length (written (packet_value (newer_packet es))))
  turn_next es place all few =
      let v : Plain = packet_value (newer_packet es) in
      let small : IsSmall v = newer_small es all in
      let are = are_bytes v small in
      next (written v) place (N (written v) place) (Whole (newer_packet es) (length (written v))) are
      (decides (written v) place are)
      (v, begins_whole packet_bytes v small (newer_shallow es all) few, ((all_wired es all, has_dialect es), refl))

  -- behind it nothing is left
  pub nothing_next : (place : ℕ) → N [] place ≡ Waits
  nothing_next place =
      let are = All-nil (λ b. b < 256) in
      next [] place (N [] place) Waits are (decides [] place are)
      (([], ([], [], [], [], refl, refl, at_tag [], refl)), omega arith)
