-- The places that were looked at, and those that are left, are alike in as many as all are.
use Rattle.std.proofs.Common.{◌≡◌, ◌+◌, ◌≤◌, drop}
use Rattle.gk_sturdy.proofs.Alike.{alike}
use Rattle.gk_sturdy.proofs.links.is_same.Given as goal

abbrev pub invariant-loop-i : goal.invariant-loop-i
invariant-loop-i l =
    (l.alike ≤ l.i) × (l.alike + alike (drop l.i l.given) (drop l.i l.link) ≡ alike l.given l.link)
