-- Lists of which each element passes, after some of them go.
use Rattle.std.proofs.Common.{List, Bool, filter}
use Rattle.std.specs.List.{AllByRecursion}
use Rattle.ac_table.specs.Lemmas.Lists.{all_filter}

pub all_kept : {X : Type 0} (P : X → Type 0) (test : X → Bool) (xs : List X) → AllByRecursion P xs
    → AllByRecursion P (filter test xs)
all_kept P test xs all = all_filter P P test (λ x is p. p) xs all
