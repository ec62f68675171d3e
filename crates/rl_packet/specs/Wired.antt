-- Which events a turn may have. Syndicate Protocol, "packets" and "wire references": oids and handles are from 0 to
-- 2 ^ 63 - 1, and each embedded value that isn't inside another one is a wire reference.
use Rattle.std.specs.Prelude.{◌≡◌, zero, suc, pos, ◌^◌, ◌<◌, Bool, true, false, ◌&&◌, is_some}
use Rattle.pv_value.specs.Plain.{Plain, integer, record_of, sequence, set_of, dictionary, embedded}
use Rattle.pv_value.specs.Plain.{Plains, no_more, then_more, PlainPairs, no_pairs, then_pair}
use Rattle.pv_words.specs.Words.{number_in}
use Rattle.rl_packet.specs.declared.packets.Event.{Event}
use Rattle.rl_packet.specs.declared.packets.Event.TheVariants.{Assert, Retract, Message, Sync}
use Rattle.rl_packet.specs.declared.packets.TurnEvent.{TurnEvent}

-- what an embedded value holds on the wire: `[0 oid]`, or `[1 oid caveat ..]`
abbrev pub is_wire_reference : Plain → Bool
is_wire_reference (sequence (then_more (integer (pos zero)) (then_more oid no_more))) = is_some (number_in oid)
is_wire_reference (sequence (then_more (integer (pos (suc zero))) (then_more oid caveats))) = is_some (number_in oid)
is_wire_reference v = false

-- whether every embedded value in it that isn't inside another one is a wire reference
abbrev mutual
  pub is_wired : Plain → Bool
  is_wired (embedded x) = is_wire_reference x
  is_wired (record_of l fs) = is_wired l && all_wired fs
  is_wired (sequence xs) = all_wired xs
  is_wired (set_of xs) = all_wired xs
  is_wired (dictionary ps) = all_pairs_wired ps
  is_wired v = true

  pub all_wired : Plains → Bool
  all_wired no_more = true
  all_wired (then_more x xs) = is_wired x && all_wired xs

  pub all_pairs_wired : PlainPairs → Bool
  all_pairs_wired no_pairs = true
  all_pairs_wired (then_pair k v ps) = (is_wired k && is_wired v) && all_pairs_wired ps

-- `#:peer`, a wire reference
abbrev pub is_peer : Plain → Bool
is_peer (embedded x) = is_wire_reference x
is_peer v = false

abbrev pub IsEvent : Event → Type 0
IsEvent (Assert v h) = (is_wired v ≡ true) × (h < 2 ^ 63)
IsEvent (Retract h) = h < 2 ^ 63
IsEvent (Message v) = is_wired v ≡ true
IsEvent (Sync peer) = is_peer peer ≡ true

abbrev pub IsTurnEvent : TurnEvent → Type 0
IsTurnEvent e = (e.oid < 2 ^ 63) × IsEvent e.event
