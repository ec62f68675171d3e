-- What is so of the watchers that were made stays so.
use Rattle.std.proofs.Common.{◌≡◌, ◌≢◌, ◌+◌, ◌<◌, ◌||◌, List, [], ◌∷◌, ◌++◌, Bool, true, false}
use Rattle.std.proofs.Common.{inl, inr, refl, sym, ◌∙◌, subst, arith, length, length-append}
use Rattle.std.proofs.Common.{nat_le}
use Rattle.std.specs.List.{AllByRecursion, list_any}
use Rattle.std.proofs.lemmas.Bool.Decides.{nat_tests}
use Rattle.ac_table.specs.Lemmas.Lists.{all_weaker, all_push}
use Rattle.ac_world.specs.Turns.{turn}
use Rattle.ac_world.specs.declared.watched.Watched.{Watched}
use Rattle.ac_world.specs.Worlds.{actor_of}
use Rattle.dp_pattern.specs.Written.{pattern_of}
use Rattle.hub_machine.specs.State.{State, opening}
use Rattle.hub_machine.specs.Machine.{meets}
use Rattle.hub_valid.specs.Lemmas.AnyStep.{Keeps, run_keeps}
use Rattle.hub_valid.specs.Lemmas.Lasting.{Lasts, lasts_turn}
use Rattle.hub_valid.specs.Lemmas.Lives.{watches_ended}
use Rattle.hub_limits.specs.Barring.{AreJoined}
use Rattle.hub_limits.specs.Laws.{WatchesAreFine}
use Rattle.hub_limits.specs.Watches.{IsFineWatch, AreNotJoined, AreFineWatches}
use Rattle.hub_limits.proofs.Causes.{MayWatch, may_watch, space_is, behaviour_is, some_is, is_joined}

-- ---- one more

-- a watcher that may begin is a fine one
fine_one : (x : Watched) (s : State) → MayWatch x s → IsFineWatch x
fine_one x s m = record {
  from = space_is x.from m.from;
  to = space_is x.to m.to;
  name = behaviour_is x.name m.known;
  pattern = some_is (pattern_of x.pattern) m.pattern;
  nothing_embedded = m.plain;
}

-- x isn't joined to any of them
abbrev IsApartFrom : Watched → List Watched → Type 0
IsApartFrom x ws = AllByRecursion (λ y. AreJoined x y → ⊥) ws

-- a watcher that meets none of them is apart from them
apart_from : (x : Watched) (ws : List Watched) → list_any (meets x) ws ≡ false → IsApartFrom x ws
apart_from x [] is = tt
apart_from x (y ∷ ys) is = by (meets x y) refl is (apart_from x ys)
  where
    by : (b : Bool) → meets x y ≡ b → (b || list_any (meets x) ys) ≡ false
        → (list_any (meets x) ys ≡ false → IsApartFrom x ys) → IsApartFrom x (y ∷ ys)
    by true here none later = absurd cc
    by false other none later =
        (λ joined. let clash : false ≡ true = sym other ∙ is_joined x y joined in absurd cc, later none)

-- what each of zs watches isn't what one of ws, or x, asserts at
longer : (x : Watched) (ws zs : List Watched) → AllByRecursion (λ z. AllByRecursion (λ y. z.from ≢ y.to) ws) zs
    → IsApartFrom x zs → AllByRecursion (λ z. AllByRecursion (λ y. z.from ≢ y.to) (ws ++ x ∷ [])) zs
longer x ws [] old new = tt
longer x ws (z ∷ zs) old new =
    (all_push (λ (y : Watched). z.from ≢ y.to) ws x old.0 (λ same. new.0 (inr same)), longer x ws zs old.1 new.1)

-- a watcher that is apart from itself and from all others leaves none joined
still_apart : (x : Watched) (ws : List Watched) → AreNotJoined ws → IsApartFrom x (x ∷ ws)
    → AreNotJoined (ws ++ x ∷ [])
still_apart x ws old new =
    all_push (λ (z : Watched). AllByRecursion (λ (y : Watched). z.from ≢ y.to) (ws ++ x ∷ [])) ws x
    (longer x ws ws old new.1)
    (all_push (λ (y : Watched). x.from ≢ y.to) ws x
    (all_weaker (λ (y : Watched). AreJoined x y → ⊥) (λ (y : Watched). x.from ≢ y.to)
    (λ y no same. no (inl (sym same))) ws new.1)
    (λ same. new.0 (inl (sym same))))

-- with a watcher that may begin they are fine still
fine_more : (x : Watched) (s : State) → MayWatch x s → AreFineWatches s.world.watches
    → AreFineWatches (s.world.watches ++ x ∷ [])
fine_more x s m f =
    let ws : List Watched = s.world.watches in
    let many : nat_le 8 (length ws) ≡ false = m.few in
    let room : length ws < 8 = grind (arith, nat_tests, many) in
    let more : length (ws ++ x ∷ []) ≡ length ws + 1 = length-append ws (x ∷ []) in
    record {
      each = all_push IsFineWatch ws x f.each (fine_one x s m);
      apart = still_apart x ws f.apart (apart_from x (x ∷ ws) m.apart);
      few = omega (arith, room, more);
    }

-- ---- each change

-- what is kept: the watchers that were made are fine
abbrev IsFine : State → Type 0
IsFine s = AreFineWatches s.world.watches

-- only a watcher that begins changes the list of them
keeps_fine : Keeps IsFine
keeps_fine = record {
  binds = λ b s is f. f;
  watches = λ x s is f. fine_more x s (may_watch x s is) f;
  opens = λ space s f. f;
  fails = λ k fault s there f. subst AreFineWatches (sym (watches_ended (actor_of k) s.world)) f;
  dismisses = λ a s high low f. subst AreFineWatches (sym (watches_ended a s.world)) f;
  closes = λ k s there f. subst AreFineWatches (sym (watches_ended (actor_of k) s.world)) f;
  accepts = λ k x s there f. f;
  exports = λ k b p s there f. f;
  turns = λ a s f.
      let lasts : Lasts s.world (turn a s.world).world = lasts_turn a s.world in
      subst AreFineWatches (sym lasts.watches) f;
  tells = λ k s f. f;
  stops = λ s f. f;
}

-- the law: none were made at the beginning, and each step keeps what is so
pub watches_are_fine : WatchesAreFine
watches_are_fine ds steps may =
    run_keeps IsFine keeps_fine (opening ds) steps (record { each = tt; apart = tt; few = omega arith })
