use Rattle.std.proofs.Common.{rules, ◌≡◌, IfOk}
use Rattle.gk_sturdy.specs.Refs.{ref_value}
use Rattle.gk_sturdy.proofs.Reading.{if_ok_back}
use Rattle.gk_sturdy.proofs.refs.SturdyRef.to_value.Goals as goal

pub returns-clause-read_back : goal.returns-clause-read_back
returns-clause-read_back c =
    let written : IfOk c.labelled.result (λ w. w ≡ ref_value c.args.self.now) = search rules in
    if_ok_back c.labelled.result c.args.self.now written
