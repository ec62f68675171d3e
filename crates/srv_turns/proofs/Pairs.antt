-- Rounds, one behind another.
use Rattle.std.proofs.Common.{◌≡◌, List, [], ◌∷◌, ◌++◌, sym, ap, ◌∙◌, append_assoc}
use Rattle.std.specs.List.{AllByRecursion}
use Rattle.std.proofs.lemmas.Grind.{flat_map-append}
use Rattle.std.proofs.lemmas.List.{append-nil, map-append}
use Rattle.ac_world.specs.Lemmas.Entries.{all_append}
use Rattle.hub_machine.specs.declared.steps.Step.TheVariants.{Work}
use Rattle.hub_machine.specs.declared.steps.Reply.{Reply}
use Rattle.srv_turns.specs.Rounds.{Pair, Round, pairs_of, pairs_in, worked}

pub all_snoc : {X : Type 0} (P : X → Type 0) (xs : List X) (y : X) → AllByRecursion P xs → P y
    → AllByRecursion P (xs ++ y ∷ [])
all_snoc P xs y a p = all_append P xs (y ∷ []) a (p, tt)

-- more work
pub worked_more : (rs ss : List Reply) (before mid now : List Pair) → mid ≡ before ++ worked rs
    → now ≡ mid ++ worked ss → now ≡ before ++ worked (rs ++ ss)
worked_more rs ss before mid now e f =
    f ∙ ap (λ (ps : List Pair). ps ++ worked ss) e ∙ append_assoc before (worked rs) (worked ss)
    ∙ ap (λ (ps : List Pair). before ++ ps) (sym (map-append (λ (x : Reply). (Work, x)) rs ss))

-- one round more
pub pairs_more : (ds : List Round) (d : Round) (before mid now : List Pair) → mid ≡ before ++ pairs_in ds
    → now ≡ mid ++ pairs_of d → now ≡ before ++ pairs_in (ds ++ d ∷ [])
pairs_more ds d before mid now e f =
    f ∙ ap (λ (ps : List Pair). ps ++ pairs_of d) e ∙ append_assoc before (pairs_in ds) (pairs_of d)
    ∙ ap (λ (ps : List Pair). before ++ ps) (sym (flat_map-append pairs_of ds (d ∷ [])
    ∙ ap (λ (ps : List Pair). pairs_in ds ++ ps) (append-nil (pairs_of d))))
