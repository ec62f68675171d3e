-- What was written to a sink that held nothing.
use Rattle.std.proofs.Common.{◌≡◌, ℕ, ◌++◌, List, [], take, Option, Some, None, IfSome, unwrap_or, subst, sym, ap, ◌∙◌}
use Rattle.std.proofs.Common.{◌+◌, ◌-◌, ◌^◌, ◌≤◌, min, arith}
use Rattle.out_ports.specs.Ports.{Appends, AppendsFront, Rose}
use Rattle.dsd_top.specs.Commands.{IsTextOf}
use Rattle.dsd_top.specs.Schemas.{Files}
use Rattle.dsd_top.specs.Statuses.{IsAnswerOf, IsAnswered, IsCut, IsShown, IsShownFront}
use Rattle.dsd_top.specs.declared.words.Command.{Command}
use Rattle.dsd_top.specs.declared.words.Notice.{Notice}
use Rattle.row_runs.specs.Outcomes.{IsSomeFront, IsFrontOfAnswer, IsFrontOfText}

pub if_some : {A : Type 0} (P Q : A → Type 0) (o : Option A) → ((a : A) → P a → Q a) → IfSome o P → IfSome o Q
if_some P Q None f h = h
if_some P Q (Some a) f h = f a h

-- all that was appended is all that it holds
pub all_held : (old new bytes : List ℕ) → old ≡ [] → Appends (Some old) (Some new) bytes → new ≡ bytes
all_held old new bytes empty is =
    ap (λ (o : Option (List ℕ)). unwrap_or o []) is ∙ ap (λ (held : List ℕ). held ++ bytes) empty

pub front_held : (old new bytes : List ℕ) → old ≡ [] → AppendsFront (Some old) (Some new) bytes → IsSomeFront bytes new
front_held old new bytes empty h = (h.0, h.1, all_held old new (take h.0 bytes) empty h.2)

module _ (old new : List ℕ) (empty : old ≡ []) where
  pub answer_held : (files : Files) (c : Command) (input : List ℕ) → IsAnswered files c input (Some old) (Some new)
      → IsAnswerOf files c input new
  answer_held files c input h = subst (IsAnswerOf files c input) (sym (all_held old new h.0 empty h.2)) h.1

  pub cut_held : (files : Files) (c : Command) (input : List ℕ) → IsCut files c input (Some old) (Some new)
      → IsFrontOfAnswer files c input new
  cut_held files c input h = (h.0, h.1, front_held old new h.0 empty h.2)

  pub text_held : (n : Notice) → IsShown n (Some old) (Some new) → IsTextOf n new
  text_held n h = subst (IsTextOf n) (sym (all_held old new h.0 empty h.2)) h.1

  pub text_front_held : (n : Notice) → IsShownFront n (Some old) (Some new) → IsFrontOfText n new
  text_front_held n h = (h.0, h.1, front_held old new h.0 empty h.2)

-- a count that rose from nothing
pub rose : (old new : ℕ) → old ≡ 0 → Rose old new → 1 ≤ new
rose old new none h = let up : min (old + 1) (2 ^ 64 - 1) ≤ new = h in omega (arith, up)
