-- A value without embedded values has none that isn't a wire reference.
use Rattle.std.proofs.Common.{◌≡◌, Bool, true, false, refl}
use Rattle.std.specs.Prelude.{◌||◌, ◌&&◌}
use Rattle.pv_value.specs.Plain.{Plain, boolean, double, integer, string, byte_string, symbol, record_of, sequence}
use Rattle.pv_value.specs.Plain.{set_of, dictionary, embedded, Plains, no_more, then_more, PlainPairs, no_pairs, then_pair}
use Rattle.rl_packet.specs.Wired.{is_wired, all_wired, all_pairs_wired}
use Rattle.sr_caveat.specs.Embedded.{has_embedded, any_embedded, any_pair_embedded}

neither : (a b : Bool) → (a || b) ≡ false → (a ≡ false) × (b ≡ false)
neither true b is = absurd cc
neither false b is = (refl, is)

both : (a b : Bool) → a ≡ true → b ≡ true → (a && b) ≡ true
both true b p q = q
both false b p q = absurd cc

mutual
  pub plain_wired : (v : Plain) → has_embedded v ≡ false → is_wired v ≡ true
  plain_wired (embedded x) is = absurd cc
  plain_wired (record_of l fs) is =
      let n = neither (has_embedded l) (any_embedded fs) is in
      both (is_wired l) (all_wired fs) (plain_wired l n.0) (plain_all_wired fs n.1)
  plain_wired (sequence xs) is = plain_all_wired xs is
  plain_wired (set_of xs) is = plain_all_wired xs is
  plain_wired (dictionary ps) is = plain_pairs_wired ps is
  plain_wired (boolean b) is = refl
  plain_wired (double d) is = refl
  plain_wired (integer i) is = refl
  plain_wired (string s) is = refl
  plain_wired (byte_string s) is = refl
  plain_wired (symbol s) is = refl

  plain_all_wired : (xs : Plains) → any_embedded xs ≡ false → all_wired xs ≡ true
  plain_all_wired no_more is = refl
  plain_all_wired (then_more x xs) is =
      let n = neither (has_embedded x) (any_embedded xs) is in
      both (is_wired x) (all_wired xs) (plain_wired x n.0) (plain_all_wired xs n.1)

  plain_pairs_wired : (ps : PlainPairs) → any_pair_embedded ps ≡ false → all_pairs_wired ps ≡ true
  plain_pairs_wired no_pairs is = refl
  plain_pairs_wired (then_pair k v ps) is =
      let n = neither (has_embedded k || has_embedded v) (any_pair_embedded ps) is in
      let m = neither (has_embedded k) (has_embedded v) n.0 in
      both (is_wired k && is_wired v) (all_pairs_wired ps)
      (both (is_wired k) (is_wired v) (plain_wired k m.0) (plain_wired v m.1)) (plain_pairs_wired ps n.1)
