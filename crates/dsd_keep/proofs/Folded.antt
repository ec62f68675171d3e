-- What is kept after words, one list of them after another.
use Rattle.std.proofs.Common.{◌≡◌, ℕ, ◌≤◌, ◌⊎◌, List, [], ◌∷◌, Option, Some, None, refl, sym, ap, ◌∙◌, subst, inl, inr}
use Rattle.std.specs.Option.{option_map}
use Rattle.pv_value.specs.Plain.{Plain, plains, sequence}
use Rattle.kp_keeper.specs.declared.records.Record.{Record}
use Rattle.kp_keeper.specs.Commands.{Ended, After, left_by}
use Rattle.kp_bound.specs.Bound.{IsShownOf, shown_with}
use Rattle.kp_bound.specs.Spelled.{IsRecordOf}
use Rattle.kp_bound.specs.Forms.{IsBareFormOf}
use Rattle.dsd_keep.specs.Endings.{left_of}
use Rattle.dsd_keep.specs.Folds.{Said, LeaveInTurn, Leave, AreCommandsOf, CommandsFold, KeysAreNotShown}
use Rattle.dsd_keep.specs.Requests.{command_of}

nothing_after : (o : Option (List Record)) → o ≡ option_map (After []) o
nothing_after None = refl
nothing_after (Some rs) = refl

one_after : (e : Ended) (es : List Ended) (o : Option (List Record))
    → option_map (After es) (option_map (left_by e.command e.status) o) ≡ option_map (After (e ∷ es)) o
one_after e es None = refl
one_after e es (Some rs) = refl

module _ (s : Said) (ss : List Said) (before between now : Option (List Record))
    (rest : (es : List Ended) × AreCommandsOf ss es × (now ≡ option_map (After es) between)) where
  first : Leave s.words s.status before between
      → (es : List Ended) × AreCommandsOf (s ∷ ss) es × (now ≡ option_map (After es) before)
  first (inl a) = (rest.0, inl (a.0, rest.1), rest.2 ∙ ap (option_map (After rest.0)) a.1)
  first (inr b) =
      let e : Ended = record { command = command_of b.0.action; status = s.status } in (
        e ∷ rest.0,
        inr (b.0, b.1, (rest.0, refl, rest.1)),
        rest.2 ∙ ap (option_map (After rest.0)) b.2 ∙ one_after e rest.0 before,
      )

pub commands_fold : CommandsFold
commands_fold [] before now h = ([], refl, h ∙ nothing_after before)
commands_fold (s ∷ ss) before now h = first s ss before h.0 now (commands_fold ss h.0 now h.2) h.1

pub keys_are_not_shown : KeysAreNotShown
keys_are_not_shown r s v o n c few h =
    let p = h.0 in
    let is : IsRecordOf s p = record {
      within = (few, subst (λ k. 1 ≤ k) (sym n) h.1.within.1, subst (λ k. k ≤ 8) (sym n) h.1.within.2);
      oid = subst (λ b. IsBareFormOf b p.oid) (sym o) h.1.oid;
      caveats = subst (λ b. IsBareFormOf b (sequence (plains p.caveats))) (sym c) h.1.caveats;
    } in
    (p, is, h.2 ∙ ap (λ k. shown_with (record r { space = k }) p) (sym n))
