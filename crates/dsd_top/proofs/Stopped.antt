-- What stops a load is want of memory alone: by the law of loads no other cause stands of it.
use Rattle.std.proofs.Common.{◌≡◌, ℕ, ◌≤◌, Result, Ok, Err, IfErr, IsErrAnd, refl, sym, subst}
use Rattle.rl_stream.specs.Nexts.{Decider, Decides}
use Rattle.sc_events.specs.declared.inputs.Form.TheVariants as input
use Rattle.sc_load.specs.Limits.{most_items}
use Rattle.sc_load.specs.Loads.{load_bytes}
use Rattle.sc_script.specs.Runs.{Cause, bad, limit, config, stops}
use Rattle.sc_script.specs.Scripts.{IsCourseOf, StopsAt}
use Rattle.sc_script.specs.declared.faults.ScriptFault.{ScriptFault}
use Rattle.sc_script.specs.declared.faults.ScriptFault.TheVariants.{Bad, Limit, Schema, NoMemory}
use Rattle.load_laws.specs.Loads.{LoadsNeverStop}
use Rattle.dsd_top.specs.Loading.{StopsALoad}

module _ (N : Decider) (decides : Decides N) (law : LoadsNeverStop) (start n : ℕ) (few : n ≤ most_items) where
  never : (c : Cause) → ((M : Decider) → Decides M → IsCourseOf M input.Binary (load_bytes start n) (stops c)) → ⊥
  never c at = law start n few N decides c (at N decides)

  pub for_memory : (e : ScriptFault) → StopsAt input.Binary (load_bytes start n) e → StopsALoad e
  for_memory (Bad k) at = absurd (never (bad k) at)
  for_memory (Limit w) at = absurd (never (limit w) at)
  for_memory (Schema k) at = absurd (never (config k) at)
  for_memory NoMemory at = refl

-- so of what is answered for such a cause
pub stopped_so : {T : Type 0} (r : Result T ScriptFault) (e : ScriptFault) → IsErrAnd r (λ f. f ≡ e) → StopsALoad e
    → IfErr r StopsALoad
stopped_so (Ok t) e is lost = tt
stopped_so (Err f) e is lost = subst StopsALoad (sym is) lost
