use Rattle.std.proofs.Common.{◌≡◌, take}
use Rattle.sc_kept.specs.Configured.{IsConfiguredBy}
use Rattle.sc_kept.proofs.hub.with_all.Given as goal

abbrev pub invariant-loop-one : goal.invariant-loop-one
invariant-loop-one g l = (l.place ≡ l.one-index) × IsConfiguredBy (take l.one-index l.records) l.hub
