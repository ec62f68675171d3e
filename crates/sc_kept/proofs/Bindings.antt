-- Bindings that are bound one after another.
use Rattle.std.proofs.Common.{◌≡◌, ℕ, ◌+◌, ◌<◌, ◌≤◌, false, List, [], ◌∷◌, ◌++◌, cond, length, take, map}
use Rattle.std.proofs.Common.{slice_index_or, ap, sym, ◌∙◌, subst, refl, arith}
use Rattle.sr_caveat.specs.Caps.{IsSound}
use Rattle.gk_sturdy.specs.declared.bound.Binding.{Binding}
use Rattle.gk_sturdy.specs.Bindings.{bound, with_binding}
use Rattle.gk_sturdy.specs.Lemmas.Sound.{all_read}
use Rattle.hub_machine.specs.State.{State, opening}
use Rattle.hub_machine.specs.Machine.{After, step, IsAllowed}
use Rattle.hub_machine.specs.Replays.{replay, run_from}
use Rattle.hub_machine.specs.Lemmas.ReplayLaws.{replay-more}
use Rattle.hub_machine.specs.declared.steps.Step.{Step}
use Rattle.hub_machine.specs.declared.steps.Step.TheVariants.{Bind}
use Rattle.hub_machine.specs.declared.steps.Reply.TheVariants.{Taken}
use Rattle.hub_laws.specs.Laws.{AreAllowed}
use Rattle.kp_keeper.specs.declared.records.Record.{Record}
use Rattle.kp_keeper.specs.Records.{Ascend}
use Rattle.kp_bound.specs.Bound.{IsBindingOf}
use Rattle.kp_bound.specs.Lemmas.Each.{one_more, all_there, unbound}
use Rattle.sc_kept.specs.Configured.{steps_of, AreTaken, bound_with, IsConfiguredBy}
use Rattle.sc_kept.proofs.Taking.{taken}

-- a record's binding is of a reference that is read back
pub sound : (r : Record) (b : Binding) → IsBindingOf r b → IsSound b.cap
sound r b h =
    let high = h.1.within.2 in
    subst (λ (x : Binding). IsSound x.cap) (sym h.2) (omega (arith, high), omega arith, all_read h.0.caveats)

allowed_more : (s : State) (es : List Step) (e : Step) → AreAllowed s es → IsAllowed (run_from s es) e
    → AreAllowed s (es ++ e ∷ [])
allowed_more s [] e all may = (may, tt)
allowed_more s (f ∷ es) e all may = (all.0, allowed_more (step s f).state es e all.1 may)

taken_more : (s : State) (es : List Step) (e : Step) → AreTaken s es → (step (run_from s es) e).reply ≡ Taken
    → AreTaken s (es ++ e ∷ [])
taken_more s [] e all is = (is, tt)
taken_more s (f ∷ es) e all is = (all.0, taken_more (step s f).state es e all.1 is)

steps_more : (bs : List Binding) (b : Binding) → steps_of (bs ++ b ∷ []) ≡ steps_of bs ++ Bind b ∷ []
steps_more [] b = refl
steps_more (c ∷ cs) b = ap (λ es. Bind c ∷ es) (steps_more cs b)

-- one binding more
pub bound_more : (rs : List Record) (i : ℕ) (d : Record) (b : Binding) (s now : State) → Ascend rs → i < length rs
    → IsConfiguredBy (take i rs) s → IsBindingOf (slice_index_or rs i d) b → now ≡ (step s (Bind b)).state
    → IsConfiguredBy (take (i + 1) rs) now
bound_more rs i d b s now ascend lt h is_binding is =
    let bs = h.bindings in
    let r = slice_index_or rs i d in
    let more = steps_more bs b in
    let free : bound b.oid bs ≡ false = unbound rs bs i d b ascend lt h.of_records is_binding in
    let grown : with_binding b bs ≡ bs ++ b ∷ [] = ap (λ t. cond {A = List Binding} t bs (bs ++ b ∷ [])) free in
    let does : step (bound_with bs) (Bind b) ≡ record { state = bound_with (with_binding b bs); reply = Taken }
    = taken r b bs is_binding free in
    let ran : run_from (opening []) (steps_of bs) ≡ bound_with bs = sym h.replayed ∙ h.exactly in
    record {
      bindings = bs ++ b ∷ [];
      of_records = one_more IsBindingOf rs bs i d b lt h.of_records is_binding;
      allowed = subst (AreAllowed (opening [])) (sym more)
          (allowed_more (opening []) (steps_of bs) (Bind b) h.allowed (sound r b is_binding));
      taken = subst (AreTaken (opening [])) (sym more)
          (taken_more (opening []) (steps_of bs) (Bind b) h.taken
          (ap (λ t. (step t (Bind b)).reply) ran ∙ ap (λ (a : After). a.reply) does));
      replayed = is ∙ ap (λ t. (step t (Bind b)).state) h.replayed ∙ sym (replay-more [] (steps_of bs) (Bind b))
          ∙ ap (replay []) (sym more);
      exactly = is ∙ ap (λ t. (step t (Bind b)).state) h.exactly ∙ ap (λ (a : After). a.state) does
          ∙ ap bound_with grown;
    }

-- before the first
pub none_yet : (rs : List Record) (s : State) → s ≡ opening [] → IsConfiguredBy (take 0 rs) s
none_yet rs s is =
    record { bindings = []; of_records = tt; allowed = tt; taken = tt; replayed = is; exactly = is }

pub all_bound : (rs : List Record) (i : ℕ) (s : State) → length rs ≤ i → IsConfiguredBy (take i rs) s
    → IsConfiguredBy rs s
all_bound rs i s le h = record {
  bindings = h.bindings;
  of_records = all_there IsBindingOf rs h.bindings i le h.of_records;
  allowed = h.allowed;
  taken = h.taken;
  replayed = h.replayed;
  exactly = h.exactly;
}
