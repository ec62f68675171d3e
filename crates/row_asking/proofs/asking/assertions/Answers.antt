use Rattle.std.proofs.Common.{◌≡◌, ◌∙◌, ℕ, zero, suc, ◌+◌, ◌-◌, ◌^◌, ◌++◌, ◌∷◌, [], map, min, ap, sym, arith}
use Rattle.std.specs.List.{range_with_len}
use Rattle.std.proofs.lemmas.List.{map-append}
use Rattle.pv_value.specs.Plain.{Plain}
use Rattle.rl_packet.specs.declared.packets.Event.TheVariants.{Assert}
use Rattle.rl_packet.specs.declared.packets.TurnEvent.{TurnEvent}
use Rattle.row_asking.specs.Asking.{assertion, assertions}
use Rattle.row_asking.proofs.asking.assertions.Goals as goal

-- one number more
range_next : (a n : ℕ) → range_with_len a (suc n) ≡ range_with_len a n ++ (a + n) ∷ []
range_next a zero = let same : a ≡ a + 0 = omega arith in ap (λ b. b ∷ []) same
range_next a (suc n) =
    let same : (a + 1) + n ≡ a + suc n = omega arith in
    ap (λ t. a ∷ t) (range_next (a + 1) n ∙ ap (λ b. range_with_len (a + 1) n ++ b ∷ []) same)

-- one assertion more
more : (v : Plain) (h i : ℕ) → assertions v h (i + 1) ≡ assertions v h i ++ assertion v h i ∷ []
more v h i =
    let next : i + 1 ≡ suc i = omega arith in
    let same : 0 + i ≡ i = omega arith in
    ap (λ n. assertions v h n) next ∙ ap (map (assertion v h)) (range_next 0 i)
    ∙ map-append (assertion v h) (range_with_len 0 i) ((0 + i) ∷ [])
    ∙ ap (λ n. assertions v h i ++ assertion v h n ∷ []) same

pub loop-i-preserved : goal.loop-i-preserved
loop-i-preserved c =
    let v = c.args.value.now in
    let h = c.args.handle in
    let i = c.loop-i.i in
    let old = c.loop-i.events.items in
    let made : Plain → ℕ → TurnEvent = λ w k. record { oid = 0; event = Assert w k } in
    let at : c.saturating_add-handle.result ≡ min (h + i) (2 ^ 64 - 1) =
    c.saturating_add-handle.ensures ∙ ap (λ n. min (h + n) (2 ^ 64 - 1)) c.from.ensures in
    c.in_ok-push.ensures.items ∙ ap (λ w. old ++ made w c.saturating_add-handle.result ∷ []) c.in_ok-copy.ensures
    ∙ ap (λ k. old ++ made v k ∷ []) at ∙ ap (λ es. es ++ assertion v h i ∷ []) c.loop-i.invariant ∙ sym (more v h i)
