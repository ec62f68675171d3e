-- A watcher that may begin was judged as a world asks.
use Rattle.std.proofs.Common.{◌≡◌, ◌≢◌, Bool, true, false, ◌||◌, not, List, [], ◌∷◌, refl, arith}
use Rattle.std.proofs.Common.{is_none, Option, Some, None}
use Rattle.std.proofs.lemmas.Bool.Decides.{nat_tests}
use Rattle.std.specs.List.{AllByRecursion, list_any}
use Rattle.dp_pattern.specs.Written.{pattern_of}
use Rattle.sr_caveat.specs.Embedded.{has_embedded}
use Rattle.lc_watch.specs.Behaviours.{is_behaviour}
use Rattle.ac_world.specs.declared.watched.Watched.{Watched}
use Rattle.ac_world.specs.Judging.{IsJudged}
use Rattle.ac_world.specs.Worlds.{is_space}
use Rattle.hub_machine.specs.State.{State}
use Rattle.hub_machine.specs.Machine.{meets, is_no_pattern, is_unwatchable}

-- of two that don't hold together neither does
first_no : (a b : Bool) → (a || b) ≡ false → a ≡ false
first_no true b is = is
first_no false b is = refl

then_no : (a b : Bool) → (a || b) ≡ false → b ≡ false
then_no true b is = absurd cc
then_no false b is = is

not_no : (a : Bool) → not a ≡ false → a ≡ true
not_no true is = refl
not_no false is = absurd cc

some_pattern : {A : Type 0} (o : Option A) → is_none o ≡ false → o ≢ None
some_pattern None is = absurd cc
some_pattern (Some a) is = λ so. absurd cc

-- it meets none of these
none_meets : (x : Watched) (ws : List Watched) → list_any (meets x) ws ≡ false
    → AllByRecursion (λ y. (y.to ≢ x.from) × (y.from ≢ x.to)) ws
none_meets x [] is = tt
none_meets x (y ∷ ys) is =
    let here = first_no (meets x y) (list_any (meets x) ys) is in (
      (λ so. grind (arith, nat_tests, here, so), λ so. grind (arith, nat_tests, here, so)),
      none_meets x ys (then_no (meets x y) (list_any (meets x) ys) is),
    )

pub judged : (x : Watched) (s : State) → is_unwatchable x s ≡ false → IsJudged x s.world.watches
judged x s is =
    let six = first_no _ (list_any (meets x) (x ∷ s.world.watches)) is in
    let five = first_no _ (is_no_pattern x.pattern) six in
    let four = first_no _ (not (is_behaviour x.name)) five in
    let three = first_no _ (not (is_space x.to)) four in
    let p = then_no _ (is_no_pattern x.pattern) six in
    record {
      from = not_no (is_space x.from) (then_no _ (not (is_space x.from)) three);
      to = not_no (is_space x.to) (then_no _ (not (is_space x.to)) four);
      name = not_no (is_behaviour x.name) (then_no _ (not (is_behaviour x.name)) five);
      pattern = (
        first_no (has_embedded x.pattern) _ p,
        some_pattern (pattern_of x.pattern) (then_no (has_embedded x.pattern) _ p),
      );
      apart = none_meets x (x ∷ s.world.watches) (then_no _ (list_any (meets x) (x ∷ s.world.watches)) is);
    }
