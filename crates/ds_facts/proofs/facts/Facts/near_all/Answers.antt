use Rattle.std.proofs.Common.{◌≡◌, ◌+◌, ⊎_elim, drop, Some, arith, ap, sym, ◌∙◌, subst}
use Rattle.ds_shape.specs.Paths.{part_at, parts_at}
use Rattle.ds_facts.specs.Nearness.{IsNearTo, constant_entry, size, told, fewest}
use Rattle.ds_facts.proofs.Told.{near_fewer, part_of}
use Rattle.ds_facts.proofs.Fewest.{fewest_small, fewest_step, fewest_end, most_first, least_step, small_step, least_end}
use Rattle.ds_facts.proofs.facts.Facts.near_all.Goals as goal

pub loop-i-init : goal.loop-i-init
loop-i-init c = record {
  near = λ vs h. tt;
  least = most_first (fewest c.args.self.now c.args.paths.now c.args.constants.now)
      (fewest_small c.args.self.now c.args.paths.now c.args.constants.now);
  small = omega arith;
}

pub loop-i-preserved : goal.loop-i-preserved
loop-i-preserved c =
    let it = c.args.self.now in
    let paths = c.args.paths.now in
    let ks = c.args.constants.now in
    let p = c.index-paths-i.result in
    let k = c.index-constants-i.result in
    let i = c.loop-i.i in record {
      near = λ vs h.
          ⊎_elim
          (λ e. subst (IsNearTo vs (λ v. parts_at paths v ≡ Some ks)) (sym e) (c.loop-i.invariant.near vs h))
          (λ e. subst (IsNearTo vs (λ v. parts_at paths v ≡ Some ks)) (sym e)
          (near_fewer vs (λ v. part_at p v ≡ Some k) (λ v. parts_at paths v ≡ Some ks) c.in_ok-near.near
          (λ v f. ap (λ q. part_at q v) c.index-paths-i.is
          ∙ part_of paths ks i p k v (omega arith) (omega arith) f ∙ ap Some (sym c.index-constants-i.is))
          (c.in_ok-near.ensures.near vs h)))
          c.nearer-best.ensures.either;
      least =
          least_step (size c.loop-i.best) (size c.in_ok-near.near) (size c.nearer-best.result)
          (told it (constant_entry p k)) (fewest it (drop (i + 1) paths) (drop (i + 1) ks))
          (fewest it (drop i paths) (drop i ks)) (fewest it paths ks) c.nearer-best.ensures.least
          c.in_ok-near.ensures.size
          (fewest_step it paths ks i p k (omega arith) (omega arith) c.index-paths-i.is c.index-constants-i.is)
          c.loop-i.invariant.least;
      small =
          small_step (size c.loop-i.best) (size c.in_ok-near.near) (size c.nearer-best.result)
          c.nearer-best.ensures.least c.loop-i.invariant.small;
    }

pub returns-clause-size : goal.returns-clause-size
returns-clause-size c =
    let it = c.args.self.now in
    let paths = c.args.paths.now in
    let ks = c.args.constants.now in
    least_end (size c.loop-i.best) (fewest it (drop c.loop-i.i paths) (drop c.loop-i.i ks)) (fewest it paths ks)
    (fewest_end it paths ks c.loop-i.i (omega arith)) c.loop-i.invariant.small c.loop-i.invariant.least
