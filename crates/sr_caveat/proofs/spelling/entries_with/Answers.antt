-- The goals of `entries_with` that the check leaves.
use Rattle.std.proofs.Common.{◌≡◌, ◌+◌, map, drop, sym, ap, ◌∙◌, subst, arith}
use Rattle.pv_value.specs.Plain.{plains, then_pair, no_pairs}
use Rattle.pv_value.specs.View.{key_and_value}
use Rattle.pv_value.specs.WellFormed.{Ascend, KeysAscend}
use Rattle.pv_value.specs.declared.Entry.{Entry}
use Rattle.sr_caveat.specs.Spelled.{paired_with}
use Rattle.sr_caveat.specs.View.{keys_of}
use Rattle.sr_caveat.specs.Lemmas.Dropping.{drop_is}
use Rattle.sr_caveat.specs.Lemmas.Folding.{folded_on, folded_whole}
use Rattle.sr_caveat.proofs.Keys.{put_pair, mapped_push, keys_more, ascend_front, folded_pairs, paired_end}
use Rattle.sr_caveat.proofs.spelling.entries_with.Goals as goal

pub loop-i-preserved : goal.loop-i-preserved
loop-i-preserved c =
    let ks = c.as_slice-keys.result.now in
    let vs = c.args.values.now in
    let i = c.loop-i.i in
    let k = c.index-keys-i.result in
    let key_at = drop_is ks i k (omega arith) c.index-keys-i.is in
    let value_at = drop_is vs i c.index-values-i.result (omega arith) c.index-values-i.is in
    let later = paired_with (keys_of (map key_and_value (drop (i + 1) ks))) (plains (drop (i + 1) vs)) in
    let here = paired_with (keys_of (map key_and_value (drop i ks))) (plains (drop i vs)) in
    let all = paired_with (keys_of (map key_and_value ks)) (plains vs) in
    let next : here ≡ then_pair k.key c.index-values-i.result later =
    λ j. paired_with (keys_of (map key_and_value (key_at j))) (plains (value_at j)) in
    let e : Entry = record { key = c.in_ok-key.key; value = c.in_ok-value.value } in
    let key_is = c.in_ok-key.ensures ∙ ap (λ (x : Entry). x.key) (sym c.index-keys-i.is) in
    record {
      pairs_so_far = folded_on put_pair (map key_and_value c.loop-i.entries.items) _ (key_and_value e) here later all
          (ap (λ es. map key_and_value es) c.in_ok-push.ensures.items ∙ mapped_push c.loop-i.entries.items e)
          ((λ j. then_pair (key_is j) (c.in_ok-value.ensures j) later) ∙ sym next)
          c.loop-i.invariant.pairs_so_far;
      keys_so_far = keys_more c.loop-i.entries.items _ ks e k i (omega arith) c.index-keys-i.is
          c.in_ok-push.ensures.items key_is c.loop-i.invariant.keys_so_far;
    }

pub returns : goal.returns
returns c =
    let ks = c.as_slice-keys.result.now in
    let vs = c.args.values.now in
    let i = c.loop-i.i in
    let same = c.as_slice-keys.ensures.same in
    record {
      same = folded_whole put_pair (map key_and_value c.loop-i.entries.items) no_pairs _
          (paired_with (keys_of (map key_and_value ks)) (plains vs)) _
          (folded_pairs (map key_and_value c.loop-i.entries.items))
          (sym (paired_end ks vs i (omega arith))) c.loop-i.invariant.pairs_so_far
          ∙ ap (λ ps. paired_with (keys_of ps) (plains vs)) same;
      ascending = subst Ascend (sym c.loop-i.invariant.keys_so_far)
          (ascend_front ks i (subst KeysAscend (sym same) c.as_slice-keys.ensures.ascending));
    }
