-- What an event changes: a row comes, or goes, of a value that stands in another row too, or doesn't.
use Rattle.std.proofs.Common.{◌≡◌, ◌≤◌, ℕ, ◌+◌, ◌-◌, ◌^◌, min, List, [], map, Bool, true, false, not}
use Rattle.std.proofs.Common.{Some, None, refl, ap, sym, ◌∙◌, subst}
use Rattle.std.specs.BTreeMap.{is_at}
use Rattle.std.specs.Map.{values_of, lookup}
use Rattle.std.specs.Ordering.{nat_cmp}
use Rattle.pv_value.specs.Plain.{Plain}
use Rattle.ds_space.specs.Changes.{among}
use Rattle.ds_space.specs.Limits.{most_wanted_weight}
use Rattle.ds_space.specs.Spaces.{Rows, changed, Fits}
use Rattle.ds_space.specs.declared.space.SpaceEvent.{SpaceEvent}
use Rattle.ds_space.specs.declared.space.SpaceEvent.TheVariants.{Add, Gone}
use Rattle.ds_space.specs.declared.space.Change.{Change}
use Rattle.ds_space.specs.declared.space.Change.TheVariants.{Left, Came}
use Rattle.ac_watch.specs.Watching.{Watch, made, keys_over, key_changes}
use Rattle.ac_watch.specs.Watching.{sequences, watcher_weight, weight_of_all, weight_of_made}
use Rattle.ac_watch.specs.Lemmas.Rows.{IsLonger, longer_by_row, longer_than_without}
use Rattle.ac_watch.proofs.Wanting.{new_comes, new_goes, standing_comes, standing_goes}
use Rattle.ac_watch.proofs.Weights.{standing_weight, new_weight, fitting, whole}

-- the value of a row that wasn't the last with it stands still, and that of the last no more
pub still_stands : (last stands : Bool) → last ≡ not stands → last ≡ false → stands ≡ true
still_stands last true is many = refl
still_stands last false is many = let clash : false ≡ true = sym many ∙ is in absurd cc

pub stands_no_more : (last stands : Bool) → last ≡ not stands → last ≡ true → stands ≡ false
stands_no_more last true is one = let clash : true ≡ false = sym one ∙ is in absurd cc
stands_no_more last false is one = refl

-- what is made of the sequences among the rows' values weighs so much
abbrev pub weighs : List ℕ → Rows → ℕ
weighs name rows = weight_of_made name (sequences (values_of rows))

-- the watch, the rows after it and the changes are those of the event
abbrev pub Follows : SpaceEvent → List ℕ → Rows → List Change → Watch → Type 0
Follows e name new cs old =
    (new ≡ changed old.got e) × (name ≡ old.name)
    × (cs ≡ key_changes old.name (values_of old.got) (values_of (changed old.got e)))

-- as the watch is inside, so it is
pub follows : (e : SpaceEvent) (w old : Watch) (new : Rows) (cs : List Change) → w ≡ old → new ≡ changed w.got e
    → cs ≡ key_changes w.name (values_of w.got) (values_of new) → Follows e w.name new cs old
follows e w old new cs is rows keys =
    subst (Follows e w.name new cs) is
    (rows, refl, keys ∙ ap (λ (rs : Rows). key_changes w.name (values_of w.got) (values_of rs)) rows)

-- and what it wants after a row more isn't over the limit
pub within : (h : ℕ) (v : Plain) (w old : Watch) (new : Rows) (n : ℕ) → w ≡ old → new ≡ changed w.got (Add h v)
    → n ≡ weighs w.name new → n ≤ most_wanted_weight
    → Fits (watcher_weight old.name) (values_of (changed old.got (Add h v))) (Add h v)
within h v w old new n same rows is fits =
    subst (λ (o : Watch). Fits (watcher_weight o.name) (values_of (changed o.got (Add h v))) (Add h v)) same
    (fitting n (weighs w.name (changed w.got (Add h v))) (is ∙ ap (weighs w.name) rows) fits)

module _ (name : List ℕ) (h : ℕ) (v : Plain) (old new : Rows) (none : lookup (is_at (nat_cmp h)) old ≡ None)
    (more : new ≡ changed old (Add h v)) where
  longer : IsLonger v (values_of old) (values_of new)
  longer = subst (λ (rs : Rows). IsLonger v (values_of old) (values_of rs)) (sym more) (longer_by_row h v old none)

  pub one_more_weighs : among v (values_of old) ≡ true → weighs name new ≡ weighs name old
  one_more_weighs = standing_weight name v (values_of old) (values_of new) longer

  first_weighs : among v (values_of old) ≡ false
      → weighs name new ≡ weight_of_all (made name v) + weighs name old
  first_weighs = new_weight name v (values_of old) (values_of new) longer

  -- what is there weighs so much then
  pub sum_weighs : (w : ℕ) (all : List Plain) → w ≡ weighs name old → all ≡ made name v
      → among v (values_of old) ≡ false → weighs name new ≡ weight_of_all all + w
  sum_weighs w all is of first = first_weighs first ∙ (λ i. weight_of_all (sym of i) + sym is i)

  pub whole_weighs : (w after : ℕ) (all : List Plain) → w ≡ weighs name old → all ≡ made name v
      → among v (values_of old) ≡ false → after ≡ min (w + weight_of_all all) (2 ^ 64 - 1)
      → after ≤ most_wanted_weight → after ≡ weighs name new
  whole_weighs w after all is of first sum fits =
      whole w (weight_of_all all) (weighs name new) after sum fits (sum_weighs w all is of first)

  pub one_more_wants : among v (values_of old) ≡ true → key_changes name (values_of old) (values_of new) ≡ []
  one_more_wants = standing_comes name v (values_of old) (values_of new) longer

  pub first_wants : among v (values_of old) ≡ false
      → key_changes name (values_of old) (values_of new) ≡ map Came (keys_over name v)
  first_wants = new_comes name v (values_of old) (values_of new) longer

module _ (name : List ℕ) (h : ℕ) (v : Plain) (old new : Rows) (found : Some v ≡ lookup (is_at (nat_cmp h)) old)
    (less : new ≡ changed old (Gone h)) where
  shorter : IsLonger v (values_of new) (values_of old)
  shorter =
      subst (λ (rs : Rows). IsLonger v (values_of rs) (values_of old)) (sym less)
      (longer_than_without h v old (sym found))

  pub one_less_weighs : among v (values_of new) ≡ true → weighs name old ≡ weighs name new
  one_less_weighs = standing_weight name v (values_of new) (values_of old) shorter

  last_weighs : among v (values_of new) ≡ false
      → weighs name old ≡ weight_of_all (made name v) + weighs name new
  last_weighs = new_weight name v (values_of new) (values_of old) shorter

  -- what is left weighs so much
  pub rest_weighs : (w : ℕ) (all : List Plain) → w ≡ weighs name old → all ≡ made name v
      → among v (values_of new) ≡ false → w ≡ weight_of_all all + weighs name new
  rest_weighs w all is of last = is ∙ last_weighs last ∙ ap (λ vs. weight_of_all vs + weighs name new) (sym of)

  pub one_less_wants : among v (values_of new) ≡ true → key_changes name (values_of old) (values_of new) ≡ []
  one_less_wants = standing_goes name v (values_of new) (values_of old) shorter

  pub last_wants : among v (values_of new) ≡ false
      → key_changes name (values_of old) (values_of new) ≡ map Left (keys_over name v)
  last_wants = new_goes name v (values_of new) (values_of old) shorter
