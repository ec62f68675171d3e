-- A run with one more step: the state after it, and what was sent in it.
use Rattle.std.specs.Prelude.{◌≡◌, ℕ, List, [], ◌∷◌, ◌++◌, refl}
use Rattle.std.proofs.Common.{◌∙◌, sym, ap, append-nil, append_assoc}
use Rattle.ps_schema.specs.declared.Definition.{Definition}
use Rattle.hub_machine.specs.State.{State, opening}
use Rattle.hub_machine.specs.Machine.{step}
use Rattle.hub_machine.specs.Replays.{run_from, replay, sent_by, sent_from, sent_to}
use Rattle.hub_machine.specs.declared.steps.Step.{Step}

pub run_from-more : (s : State) (es : List Step) (e : Step) → run_from s (es ++ e ∷ [])
    ≡ (step (run_from s es) e).state
run_from-more s [] e = refl
run_from-more s (f ∷ es) e = run_from-more (step s f).state es e

pub sent_from-more : (s : State) (k : ℕ) (es : List Step) (e : Step) → sent_from s k (es ++ e ∷ [])
    ≡ sent_from s k es ++ sent_by k e (step (run_from s es) e).reply
sent_from-more s k [] e = append-nil (sent_by k e (step s e).reply)
sent_from-more s k (f ∷ es) e =
    ap (λ ps. sent_by k f (step s f).reply ++ ps) (sent_from-more (step s f).state k es e)
    ∙ sym (append_assoc (sent_by k f (step s f).reply) (sent_from (step s f).state k es)
    (sent_by k e (step (run_from (step s f).state es) e).reply))

pub replay-more : (ds : List Definition) (es : List Step) (e : Step)
    → replay ds (es ++ e ∷ []) ≡ (step (replay ds es) e).state
replay-more ds es e = run_from-more (opening ds) es e

pub sent_to-more : (ds : List Definition) (k : ℕ) (es : List Step) (e : Step)
    → sent_to ds k (es ++ e ∷ []) ≡ sent_to ds k es ++ sent_by k e (step (replay ds es) e).reply
sent_to-more ds k es e = sent_from-more (opening ds) k es e
