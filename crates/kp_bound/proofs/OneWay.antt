-- Records have one list of bindings, or a first that is bad.
use Rattle.std.proofs.Common.{◌≡◌, ℕ, zero, suc, List, [], ◌∷◌, refl, ap, sym, ◌∙◌}
use Rattle.pv_value.specs.Plain.{Plain, sequence, Plains, no_more, plains, listed}
use Rattle.pv_value.specs.Lemmas.Listed.{listed-plains}
use Rattle.pv_value.specs.WellFormed.{IsWellFormed}
use Rattle.pv_canon.specs.Canonical.{canonical}
use Rattle.kp_keeper.specs.declared.records.Record.{Record}
use Rattle.gk_sturdy.specs.declared.bound.Binding.{Binding}
use Rattle.kp_bound.specs.Forms.{IsFormOf}
use Rattle.kp_bound.specs.Spelled.{Parts, IsRecordOf, IsFirstBad}
use Rattle.kp_bound.specs.Bound.{binding_with, AreBindingsOf}

abbrev items_in : Plain → Plains
items_in (sequence xs) = xs
items_in v = no_more

items_same : (xs ys : List Plain) → sequence (plains xs) ≡ sequence (plains ys) → xs ≡ ys
items_same xs ys e = sym (listed-plains xs) ∙ ap (λ v. listed (items_in v)) e ∙ listed-plains ys

abbrev pub IsExact : Type 0
IsExact = (v w : Plain) → IsWellFormed v → IsWellFormed w → canonical v ≡ canonical w → v ≡ w

module _ (exact : IsExact) where
  form_same : (bytes : List ℕ) (v w : Plain) → IsFormOf bytes v → IsFormOf bytes w → v ≡ w
  form_same bytes v w f g = exact v w f.well_formed g.well_formed (sym f.form ∙ g.form)

  parts_same : (r : Record) (p q : Parts) → IsRecordOf r p → IsRecordOf r q → p ≡ q
  parts_same r p q h k =
      let oid = form_same r.oid p.oid q.oid h.oid.0 k.oid.0 in
      let caveats =
      items_same p.caveats q.caveats
      (form_same r.caveats (sequence (plains p.caveats)) (sequence (plains q.caveats)) h.caveats.0 k.caveats.0) in
      λ i. record { oid = oid i; caveats = caveats i }

  pub one_list : (rs : List Record) (bs cs : List Binding) → AreBindingsOf rs bs → AreBindingsOf rs cs → bs ≡ cs
  one_list [] [] [] h k = refl
  one_list [] [] (c ∷ cs) h k = absurd k
  one_list [] (b ∷ bs) cs h k = absurd h
  one_list (r ∷ rs) [] cs h k = absurd h
  one_list (r ∷ rs) (b ∷ bs) [] h k = absurd k
  one_list (r ∷ rs) (b ∷ bs) (c ∷ cs) h k =
      let first : b ≡ c
      = h.0.2 ∙ ap (binding_with r) (parts_same r h.0.0 k.0.0 h.0.1 k.0.1) ∙ sym k.0.2 in
      let rest : bs ≡ cs = one_list rs bs cs h.1 k.1 in
      λ i. first i ∷ rest i

pub not_both : (rs : List Record) (bs : List Binding) (n : ℕ) → AreBindingsOf rs bs → IsFirstBad rs n → ⊥
not_both [] bs n h bad = bad
not_both (r ∷ rs) [] n h bad = h
not_both (r ∷ rs) (b ∷ bs) zero h bad = bad (h.0.0, h.0.1)
not_both (r ∷ rs) (b ∷ bs) (suc n) h bad = not_both rs bs n h.1 bad.1
