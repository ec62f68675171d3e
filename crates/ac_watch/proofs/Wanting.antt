-- What a watcher wants changes with the first row of a value, and with the last.
use Rattle.std.proofs.Common.{◌≡◌, ℕ, List, [], ◌++◌, map, Bool, true, false, ◌&&◌, ◌||◌, not, refl, ap, sym, ◌∙◌}
use Rattle.std.proofs.Common.{append-nil}
use Rattle.pv_value.specs.Plain.{Plain}
use Rattle.pv_value.specs.WellFormed.{Ascend}
use Rattle.ds_space.specs.Changes.{among, without}
use Rattle.ds_space.specs.declared.space.Change.TheVariants.{Left, Came}
use Rattle.ds_space.specs.Lemmas.Lists.{unique}
use Rattle.ac_watch.specs.Watching.{keys_over, watcher_keys, key_changes}
use Rattle.ac_watch.specs.Lemmas.Alone.{among_without, without_ascends, ascend_nothing}
use Rattle.ac_watch.specs.Lemmas.Keys.{among_keys, keys_ascend, over_ascends, standing_key, new_key}
use Rattle.ac_watch.specs.Lemmas.Rows.{IsLonger}

-- those that are in the one alone are these
left_alone : (name : List ℕ) (vs ws these : List Plain) → Ascend these
    → ((q : Plain) → (not (among q (watcher_keys name ws)) && among q (watcher_keys name vs)) ≡ among q these)
    → without (watcher_keys name vs) (watcher_keys name ws) ≡ these
left_alone name vs ws these ascend are =
    unique (without (watcher_keys name vs) (watcher_keys name ws)) these
    (without_ascends (watcher_keys name vs) (watcher_keys name ws) (keys_ascend name vs) (keys_ascend name ws)) ascend
    (λ q. among_without q (watcher_keys name vs) (watcher_keys name ws) ∙ are q)

-- ---- no value more or less

pub no_changes : (name : List ℕ) (vs : List Plain) → key_changes name vs vs ≡ []
no_changes name vs = λ i. map Left (none i) ++ map Came (none i)
  where
    neither : (b : Bool) → (not b && b) ≡ false
    neither true = refl
    neither false = refl

    none : without (watcher_keys name vs) (watcher_keys name vs) ≡ []
    none = left_alone name vs vs [] ascend_nothing (λ q. neither (among q (watcher_keys name vs)))

-- ---- a value more

module _ (name : List ℕ) (v : Plain) (less more : List Plain) (longer : IsLonger v less more) where
  among_more : (q : Plain) → among q (watcher_keys name more)
      ≡ (among q (keys_over name v) || among q (watcher_keys name less))
  among_more q =
      among_keys q name more ∙ longer (λ w. among q (keys_over name w))
      ∙ ap (λ b. among q (keys_over name v) || b) (sym (among_keys q name less))

  none_less : without (watcher_keys name less) (watcher_keys name more) ≡ []
  none_less =
      left_alone name less more [] ascend_nothing
      (λ q. ap (λ b. not b && among q (watcher_keys name less)) (among_more q)
      ∙ by (among q (keys_over name v)) (among q (watcher_keys name less)))
    where
      by : (a b : Bool) → (not (a || b) && b) ≡ false
      by true true = refl
      by true false = refl
      by false true = refl
      by false false = refl

  -- its keys are wanted, where it is new
  all_more : among v less ≡ false → without (watcher_keys name more) (watcher_keys name less) ≡ keys_over name v
  all_more new =
      left_alone name more less (keys_over name v) (over_ascends name v)
      (λ q. ap (λ b. not (among q (watcher_keys name less)) && b) (among_more q)
      ∙ by (among q (keys_over name v)) (among q (watcher_keys name less))
      (λ e. among_keys q name less ∙ new_key name q v less new e))
    where
      by : (a b : Bool) → (a ≡ true → b ≡ false) → (not b && (a || b)) ≡ a
      by true true h = sym (h refl)
      by true false h = refl
      by false true h = refl
      by false false h = refl

  -- and they were wanted before, where it stood there
  none_more : among v less ≡ true → without (watcher_keys name more) (watcher_keys name less) ≡ []
  none_more stands =
      left_alone name more less [] ascend_nothing
      (λ q. ap (λ b. not (among q (watcher_keys name less)) && b) (among_more q)
      ∙ by (among q (keys_over name v)) (among q (watcher_keys name less))
      (λ e. among_keys q name less ∙ standing_key name q v less stands e))
    where
      by : (a b : Bool) → (a ≡ true → b ≡ true) → (not b && (a || b)) ≡ false
      by true true h = refl
      by true false h = sym (h refl)
      by false true h = refl
      by false false h = refl

  pub new_comes : among v less ≡ false → key_changes name less more ≡ map Came (keys_over name v)
  new_comes new = λ i. map Left (none_less i) ++ map Came (all_more new i)

  pub new_goes : among v less ≡ false → key_changes name more less ≡ map Left (keys_over name v)
  new_goes new = (λ i. map Left (all_more new i) ++ map Came (none_less i)) ∙ append-nil (map Left (keys_over name v))

  pub standing_comes : among v less ≡ true → key_changes name less more ≡ []
  standing_comes stands = λ i. map Left (none_less i) ++ map Came (none_more stands i)

  pub standing_goes : among v less ≡ true → key_changes name more less ≡ []
  standing_goes stands = λ i. map Left (none_more stands i) ++ map Came (none_less i)
