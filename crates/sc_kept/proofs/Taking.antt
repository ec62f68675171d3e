-- A record's binding is taken, where its oid has none yet.
use Rattle.std.proofs.Common.{◌≡◌, ℕ, ◌≤◌, Bool, true, false, nat_le, nat_lt, ◌||◌, ◌&&◌, ◌==◌, not, List, [], ◌∷◌, map}
use Rattle.std.proofs.Common.{refl, sym, ap, ◌∙◌, subst, arith}
use Rattle.std.proofs.lemmas.Bool.Decides.{nat_tests}
use Rattle.std.specs.List.{AllByRecursion}
use Rattle.pv_value.specs.Plain.{Plain}
use Rattle.sr_caveat.specs.Patterns.{Caveat, caveats}
use Rattle.sr_caveat.specs.Spelled.{caveat_value, caveat_values}
use Rattle.sr_caveat.specs.Embedded.{has_embedded, any_embedded}
use Rattle.sr_caveat.specs.Caps.{Cap, cap_value, IsReadBack}
use Rattle.sr_caveat.specs.Lemmas.CaveatsBack.{nothing_embedded}
use Rattle.gk_sturdy.specs.declared.bound.Binding.{Binding}
use Rattle.gk_sturdy.specs.Bindings.{bound, with_binding}
use Rattle.gk_sturdy.specs.Lemmas.Sound.{all_read}
use Rattle.ac_world.specs.Worlds.{is_space}
use Rattle.hub_machine.specs.Machine.{step, is_to_space, is_barred, bind_unless}
use Rattle.hub_machine.specs.declared.steps.Step.TheVariants.{Bind}
use Rattle.hub_machine.specs.declared.steps.Reply.TheVariants.{Taken}
use Rattle.kp_keeper.specs.declared.records.Record.{Record}
use Rattle.kp_bound.specs.Bound.{IsBindingOf, cap_to}
use Rattle.sc_kept.specs.Configured.{bound_with}

both : (b c : Bool) → b ≡ true → c ≡ true → (b && c) ≡ true
both true c is more = more
both false c is more = absurd cc

in_spaces : (a : ℕ) → 1 ≤ a → a ≤ 8 → is_space a ≡ true
in_spaces a low high =
    both (nat_le 1 a) (nat_lt a 9) (grind (arith, nat_tests, low)) (grind (arith, nat_tests, high))

none_of_five : (x y c z w : Bool) → x ≡ false → y ≡ false → c ≡ true → z ≡ false → w ≡ false
    → (x || y || not c || z || w) ≡ false
none_of_five false false true false w a b c d e = e
none_of_five true y p z w a b c d e = absurd cc
none_of_five false true p z w a b c d e = absurd cc
none_of_five false false false z w a b c d e = absurd cc
none_of_five false false true true w a b c d e = absurd cc

none_embedded : (cs : List Caveat) → AllByRecursion IsReadBack cs → any_embedded (caveat_values (caveats cs)) ≡ false
none_embedded [] h = refl
none_embedded (c ∷ cs) h =
    ap (λ b. b || any_embedded (caveat_values (caveats cs))) (nothing_embedded c h.0) ∙ none_embedded cs h.1

to_space : (r : Record) (b : Binding) → IsBindingOf r b → is_to_space b.cap ≡ true
to_space r b h =
    ap (λ (x : Binding). is_to_space x.cap) h.2
    ∙ both (is_space r.space) true (in_spaces r.space h.1.within.1 h.1.within.2) refl

bare_oid : (r : Record) (b : Binding) → IsBindingOf r b → has_embedded b.oid ≡ false
bare_oid r b h = ap (λ (x : Binding). has_embedded x.oid) h.2 ∙ h.1.oid.1

bare_cap : (r : Record) (b : Binding) → IsBindingOf r b → has_embedded (cap_value b.cap) ≡ false
bare_cap r b h =
    ap (λ (x : Binding). has_embedded (cap_value x.cap)) h.2
    ∙ none_embedded (cap_to r.space h.0.caveats).caveats (all_read h.0.caveats)

unbarred : (r : Record) (b : Binding) (bs : List Binding) → IsBindingOf r b → bound b.oid bs ≡ false
    → is_barred b (bound_with bs) ≡ false
unbarred r b bs h free =
    none_of_five false (bound b.oid bs) (is_to_space b.cap) (has_embedded b.oid) (has_embedded (cap_value b.cap)) refl
    free (to_space r b h) (bare_oid r b h) (bare_cap r b h)

-- it is bound, and nothing else changes
pub taken : (r : Record) (b : Binding) (bs : List Binding) → IsBindingOf r b → bound b.oid bs ≡ false
    → step (bound_with bs) (Bind b) ≡ record { state = bound_with (with_binding b bs); reply = Taken }
taken r b bs h free = ap (λ t. bind_unless t b (bound_with bs)) (unbarred r b bs h free)
