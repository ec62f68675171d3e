use Rattle.std.proofs.Common.{Result, Ok, Err, IfOk}
use Rattle.row_cases.specs.Cases.{AreSides}
use Rattle.row_cases.proofs.tables.Table.difference.Goals as goal

weakened : {A E : Type 0} (r : Result A E) (P Q : A → Type 0) → ((x : A) → P x → Q x) → IfOk r P → IfOk r Q
weakened (Ok x) P Q so h = so x h
weakened (Err e) P Q so h = tt

pub returns : goal.returns
returns c =
    let given = c.trim_matches.result.now in
    let wanted = c.trim_matches-2.result.now in
    let sides : AreSides c.args.line.now given wanted = (
      c.in-Some.given.now,
      c.in-Some.wanted.now,
      c.in-Some.ensures.cases,
      c.trim_matches.ensures.matches,
      c.trim_matches-2.ensures.matches,
    ) in
    weakened c.sides_differ.result _ _ (λ found passes none. (given, wanted, sides, passes none)) c.sides_differ.ensures
