-- One number more comes to those behind it.
use Rattle.std.proofs.Common.{◌≡◌, ◌+◌, ◌-◌, ◌∷◌, ◌∙◌, sym, ap, arith, get_or, drop, List, ℕ}
use Rattle.std.specs.BTreeSet.{insert_key}
use Rattle.std.specs.Ordering.{nat_cmp}
use Rattle.pv_value.specs.Sets.{ascending_by}
use Rattle.rl_ports.proofs.Keeps.{drop_first}
use Rattle.rl_ports.proofs.oids.gathered.Goals as goal

pub loop-left-preserved : goal.loop-left-preserved
loop-left-preserved c =
    let ns = c.args.numbers.now in
    let left = c.loop-left.left in
    let i = left - 1 in
    let x = get_or ns i 0 in
    let v = c.loop-left.invariant in
    let back : i + 1 ≡ left = omega (arith, c.loop-left-test.true) in
    record {
      keys = c.in_ok-insert.ensures.keys
          ∙ ap (λ (ks : List ℕ). insert_key nat_cmp ks x) v.keys
          ∙ ap (λ (n : ℕ). ascending_by nat_cmp (x ∷ drop n ns)) (sym back)
          ∙ ap (ascending_by nat_cmp) (sym (drop_first ns i 0 (omega (arith, v.within, c.loop-left-test.true))));
      within = omega (arith, v.within);
    }
