-- One item more: what it drew, and what it asserts.
use Rattle.std.proofs.Common.{◌≡◌, ℕ, suc, ◌+◌, ◌*◌, ◌≤◌, true, List, [], ◌∷◌, ◌++◌, codes, ap, ◌∙◌, arith}
use Rattle.std.specs.List.{AllByRecursion}
use Rattle.pv_value.specs.Plain.{Plain}
use Rattle.pv_words.specs.Words.{labelled, number}
use Rattle.rl_packet.specs.Wired.{is_wired, IsTurnEvent}
use Rattle.rl_packet.specs.declared.packets.Event.TheVariants.{Assert}
use Rattle.rl_packet.specs.declared.packets.TurnEvent.{TurnEvent}
use Rattle.sc_load.specs.Limits.{most_items}
use Rattle.sc_load.specs.Loads.{next, after, given, loads, events_of}
use Rattle.sc_load.proofs.Wiring.{one_more}

-- `<Load i d>`
abbrev pub load_of : ℕ → ℕ → Plain
load_of i d = labelled (codes "Load") (number i ∷ number d ∷ [])

-- it is asserted under the second handle
abbrev pub asserted : Plain → ℕ → TurnEvent
asserted v i = record { oid = 0; event = Assert v (2 * i + 1) }

pub drawn_more : (start i k x : ℕ) → x ≡ after start (i + k) → next x ≡ after start (i + (k + 1))
drawn_more start i k x is =
    let one : suc (i + k) ≡ i + (k + 1) = omega arith in ap next is ∙ ap (after start) one

-- the events with one item's behind them
pub loaded_more : (start i k x : ℕ) (v : Plain) (es : List TurnEvent) → x ≡ after start (i + k)
    → v ≡ load_of (i + k) (given (next x)) → es ≡ events_of (loads start) i k
    → es ++ asserted v (i + k) ∷ [] ≡ events_of (loads start) i (k + 1)
loaded_more start i k x v es drawn is before =
    let load : v ≡ load_of (i + k) (given (next (after start (i + k)))) =
    is ∙ ap (λ y. load_of (i + k) (given (next y))) drawn in
    let all : es ++ asserted v (i + k) ∷ [] ≡ events_of (loads start) i (suc k) =
    λ j. before j ++ asserted (load j) (i + k) ∷ [] in
    let one : suc k ≡ k + 1 = omega arith in all ∙ ap (events_of (loads start) i) one

pub may_more : (i d : ℕ) (v : Plain) (es : List TurnEvent) → i ≤ most_items → v ≡ load_of i d
    → AllByRecursion IsTurnEvent es → AllByRecursion IsTurnEvent (es ++ asserted v i ∷ [])
may_more i d v es few is all =
    let wired : is_wired v ≡ true = ap is_wired is in
    one_more IsTurnEvent es (asserted v i) all (omega arith, (wired, omega (arith, few)))
