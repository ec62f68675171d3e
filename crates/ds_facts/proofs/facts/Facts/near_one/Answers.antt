use Rattle.std.proofs.Common.{◌≡◌, true, Some, ap, sym, ◌∙◌}
use Rattle.ds_shape.specs.Paths.{part_at}
use Rattle.ds_facts.specs.Atoms.{has_entry}
use Rattle.ds_facts.specs.Nearness.{told}
use Rattle.ds_facts.proofs.Told.{near_fewer, at_path}
use Rattle.ds_facts.proofs.facts.Facts.near_one.Goals as goal

pub returns-clause-near : goal.returns-clause-near
returns-clause-near c vs h =
    let path = c.args.path.now in
    let k = c.args.constant.now in
    let e = c.in-Some.entry in
    near_fewer vs (λ v. has_entry e v ≡ true) (λ v. part_at path v ≡ Some k) c.near_entry.result
    (λ v. at_path path k e v (sym c.in_ok-entry.ensures ∙ c.in-Some.is))
    (c.near_entry.ensures.near vs h)

pub returns-clause-size : goal.returns-clause-size
returns-clause-size c =
    c.near_entry.ensures.size ∙ ap (told c.args.self.now) (sym c.in-Some.is ∙ c.in_ok-entry.ensures)
