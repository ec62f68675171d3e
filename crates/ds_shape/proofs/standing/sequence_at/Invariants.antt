-- What was found, and then what is left, is what stands at all of the paths.
use Rattle.std.proofs.Common.{◌≡◌, drop, Some}
use Rattle.pv_words.specs.Parts.{both}
use Rattle.ds_shape.specs.Paths.{parts_at}
use Rattle.ds_shape.proofs.standing.sequence_at.Given as goal

abbrev pub invariant-loop-path : goal.invariant-loop-path
invariant-loop-path l =
    both (Some l.found.items) (parts_at (drop l.path-index l.paths) l.value) ≡ parts_at l.paths l.value
