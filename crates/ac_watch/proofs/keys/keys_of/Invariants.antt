use Rattle.std.proofs.Common.{◌≡◌, ◌++◌, drop}
use Rattle.ac_watch.specs.Watching.{keys_from}
use Rattle.ac_watch.proofs.keys.keys_of.Given as goal

-- those so far, and the rest
abbrev pub invariant-loop-place : goal.invariant-loop-place
invariant-loop-place l =
    l.keys.items ++ keys_from l.captures l.place (drop l.place l.made) ≡ keys_from l.captures 0 l.made
