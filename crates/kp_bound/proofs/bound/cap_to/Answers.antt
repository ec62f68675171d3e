use Rattle.std.proofs.Common.{sym, ◌∙◌, subst, arith}
use Rattle.std.specs.List.{AllByRecursion}
use Rattle.sr_caveat.specs.Caps.{IsReadBack}
use Rattle.gk_sturdy.specs.Lemmas.Sound.{all_read}
use Rattle.kp_bound.proofs.bound.cap_to.Goals as goal

pub invariant_of-result : goal.invariant_of-result
invariant_of-result c = (
  omega arith,
  omega arith,
  subst (AllByRecursion IsReadBack) (sym (c.in_ok-from_vec.ensures ∙ c.in_ok-caveats.ensures))
      (all_read c.args.caveats.now),
)
