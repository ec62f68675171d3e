-- The first word picks the relation; and what is told of the same is the same.
use Rattle.std.proofs.Common.{◌≡◌, ◌⊎◌, ℕ, List, [], ◌∷◌, Option, Some, None, Bool, inl, inr, ap, subst, ◌∙◌}
use Rattle.std.proofs.Common.{String, Global, string_bytes}
use Rattle.std.specs.List.{slice_get}
use Rattle.kp_keeper.specs.declared.records.Record.{Record}
use Rattle.dq_link.specs.Asked.{HostRest, rest_of}
use Rattle.dsd_top.specs.Asked.{texts}
use Rattle.dsd_program.specs.Told.{World, ToldSource, ToldSink, ToldKeeper, source_of, sink_of, keeper_of}
use Rattle.dsd_program.specs.Words.{BeginWith, Pick}
use Rattle.dsd_program.specs.Does.{DoesBy, Does}
use Rattle.dsd_program.specs.declared.word.Word.{Word}

-- words whose first one has these bytes begin with them
pub begun : (ws : List (String Global)) (w : String Global) → Some w ≡ slice_get ws 0 → (name : List ℕ)
    → string_bytes w ≡ name → BeginWith name (texts ws)
begun [] w e name is = let clash : ◌≡◌ {A = Option (String Global)} (Some w) None = e in cc clash
begun (v ∷ vs) w e name is =
    let both : ◌≡◌ {A = Option (String Global)} (Some w) (Some v) = e in
    let same : v ≡ w = cc both in (texts vs, ap (λ t. t ∷ texts vs) (ap (λ s. string_bytes s) same ∙ is))

-- the word that was found is the one that is done
pub done_by : (words : List (List ℕ)) (status : ℕ) (before now : World) (found w : Word) → Pick words found → found ≡ w
    → DoesBy w words status before now → Does words status before now
done_by words status before now found w pick is h = (w, subst (Pick words) is pick, h)

-- ---- one of two

pub on_left : {A B C : Type 0} → (A → B) → A ⊎ C → B ⊎ C
on_left f (inl a) = inl (f a)
on_left f (inr c) = inr c

pub on_right : {A B C : Type 0} → (A → B) → C ⊎ A → C ⊎ B
on_right f (inl c) = inl c
on_right f (inr a) = inr (f a)

-- ---- what is told of the same

module _ {T : Type 0} (left : T → Option (List ℕ)) (ended : T → Bool) (faults : T → ℕ) where
  abbrev source : T → ToldSource
  source i = source_of (left i) (ended i) (faults i)

  pub same_source : (i j : T) → j ≡ i → source j ≡ source i
  same_source i j same = ap source same

module _ {T : Type 0} (held : T → Option (List ℕ)) (finishes faults : T → ℕ) where
  abbrev sink : T → ToldSink
  sink o = sink_of (held o) (finishes o) (faults o)

  pub same_sink : (o p : T) → p ≡ o → sink p ≡ sink o
  same_sink o p same = ap sink same

module _ {T : Type 0} (files : T → Option (List (List ℕ × List ℕ))) (address : T → Option (List ℕ))
    (closed : T → Bool) (gave stops file_faults port_faults faults : T → ℕ) where
  abbrev rest : T → HostRest
  rest h =
      rest_of (files h) (address h) (closed h) (gave h) (stops h) (file_faults h) (port_faults h) (faults h)

  pub same_rest : (h k : T) → k ≡ h → rest k ≡ rest h
  same_rest h k same = ap rest same

module _ {T : Type 0} (kept : T → Option (List Record)) (file : T → Option (List ℕ)) (faults : T → ℕ) where
  abbrev keeper : T → ToldKeeper
  keeper k = keeper_of (kept k) (file k) (faults k)

  pub same_keeper : (k l : T) → l ≡ k → keeper l ≡ keeper k
  same_keeper k l same = ap keeper same
