-- What a change of one list does to what each entry keeps.
use Rattle.std.proofs.Common.{◌≡◌, Bool, true, false, cond, not, ◌&&◌, ◌||◌, Option, Some, None, refl, ap, sym, ◌∙◌}
use Rattle.std.proofs.Common.{List, [], ◌∷◌, length, ◌<◌, subst, arith}
use Rattle.std.specs.BTreeSet as sorted
use Rattle.std.specs.List.{list_any}
use Rattle.std.specs.BTreeSet.{BTreeSet, btree_set_len}
use Rattle.pv_value.specs.Plain.{Plain}
use Rattle.pv_value.specs.Order.{order}
use Rattle.pv_words.specs.Parts.{same}
use Rattle.ds_space.specs.Lemmas.Keys.{or_cond, or_false}
use Rattle.ds_small.proofs.Sets.{same_turns}
use Rattle.ds_facts.specs.Atoms.{Entry, same_entry}
use Rattle.ds_facts.specs.Keeping.{is_in}
use Rattle.ds_facts.proofs.Same.{entry_is, entry_turns}

and_cond : (a y : Bool) → cond a false y ≡ (y && not a)
and_cond true true = refl
and_cond true false = refl
and_cond false true = refl
and_cond false false = refl

and_true : (b : Bool) → b ≡ (b && true)
and_true true = refl
and_true false = refl

-- at one entry stands another list, with one value more
pub put_at : (f g : Entry → Option (BTreeSet Plain)) (p : Entry) (value : Plain) (there : Option (BTreeSet Plain))
    → ((e : Entry) → g e ≡ cond (same_entry p e) there (f e))
    → ((v : Plain) → is_in there v ≡ cond (same value v) true (is_in (f p) v))
    → (e : Entry) (v : Plain) → is_in (g e) v ≡ (is_in (f e) v || (same_entry e p && same value v))
put_at f g p value there put holds e v =
    by (same_entry p e) refl (put e) ∙ ap (λ b. is_in (f e) v || (b && same value v)) (entry_turns p e)
  where
    by : (b : Bool) → same_entry p e ≡ b → g e ≡ cond b there (f e)
        → is_in (g e) v ≡ (is_in (f e) v || (b && same value v))
    by true is h =
        ap (λ o. is_in o v) h ∙ holds v ∙ or_cond (same value v) (is_in (f p) v)
        ∙ ap (λ q. is_in (f q) v || same value v) (entry_is p e is)
    by false is h = ap (λ o. is_in o v) h ∙ sym (or_false (is_in (f e) v))

-- the same with one value fewer
pub taken_at : (f g : Entry → Option (BTreeSet Plain)) (p : Entry) (value : Plain) (there : Option (BTreeSet Plain))
    → ((e : Entry) → g e ≡ cond (same_entry p e) there (f e))
    → ((v : Plain) → is_in there v ≡ cond (same value v) false (is_in (f p) v))
    → (e : Entry) (v : Plain) → is_in (g e) v ≡ (is_in (f e) v && not (same_entry e p && same value v))
taken_at f g p value there put holds e v =
    by (same_entry p e) refl (put e) ∙ ap (λ b. is_in (f e) v && not (b && same value v)) (entry_turns p e)
  where
    by : (b : Bool) → same_entry p e ≡ b → g e ≡ cond b there (f e)
        → is_in (g e) v ≡ (is_in (f e) v && not (b && same value v))
    by true is h =
        ap (λ o. is_in o v) h ∙ holds v ∙ and_cond (same value v) (is_in (f p) v)
        ∙ ap (λ q. is_in (f q) v && not (same value v)) (entry_is p e is)
    by false is h = ap (λ o. is_in o v) h ∙ and_true (is_in (f e) v)

-- nothing is taken out where no list is
pub nothing_at : (f : Entry → Option (BTreeSet Plain)) (p : Entry) → f p ≡ None → (e : Entry)
    → f e ≡ cond (same_entry p e) None (f e)
nothing_at f p none e = by (same_entry p e) refl
  where
    by : (b : Bool) → same_entry p e ≡ b → f e ≡ cond b None (f e)
    by true is = ap f (sym (entry_is p e is)) ∙ none
    by false is = refl

-- a list that was put is taken away again
pub put_away : {X : Type 0} (b : Bool) (x y z : Option X) (w : X) → x ≡ cond b None y → y ≡ cond b (Some w) z
    → x ≡ cond b None z
put_away true x y z w e f = e
put_away false x y z w e f = e ∙ f

-- nothing is in an empty list
pub none_in : (list : BTreeSet Plain) → length list.keys ≡ 0 → (v : Plain) → sorted.contains order list v ≡ false
none_in list e v = by list.keys e
  where
    by : (ks : List Plain) → length ks ≡ 0 → list_any (same v) ks ≡ false
    by [] e = refl
    by (k ∷ ks) e = absurd (omega arith)

pub none_less : (b : Bool) → false ≡ cond b false false
none_less true = refl
none_less false = refl

-- ---- one value alone

-- a list of one value has that value
pub alone : (value v : Plain) → (same v value || false) ≡ cond (same value v) true false
alone value v = by (same v value) ∙ ap (λ b. cond b true false) (same_turns v value)
  where
    by : (b : Bool) → (b || false) ≡ cond b true false
    by true = refl
    by false = refl

-- what was put is put over
pub put_over : {X : Type 0} (b : Bool) (x y z : Option X) (v w : X) → x ≡ cond b (Some v) y → y ≡ cond b (Some w) z
    → x ≡ cond b (Some v) z
put_over true x y z v w e f = e
put_over false x y z v w e f = e ∙ f

-- a list in which a value is isn't empty
pub has_one : (list : BTreeSet Plain) (v : Plain) → sorted.contains order list v ≡ true → 0 < btree_set_len list
has_one list v e = by list.keys e
  where
    by : (ks : List Plain) → list_any (same v) ks ≡ true → 0 < length ks
    by [] e = absurd cc
    by (k ∷ ks) e = omega arith

some_is : (x y : BTreeSet Plain) → Some x ≡ Some y → x ≡ y
some_is x y e = cc

-- no list is empty where one more was put that isn't
pub filled_at : (f g : Entry → Option (BTreeSet Plain)) (p : Entry) (there : BTreeSet Plain)
    → ((e : Entry) → g e ≡ cond (same_entry p e) (Some there) (f e)) → 0 < btree_set_len there
    → ((e : Entry) (list : BTreeSet Plain) → f e ≡ Some list → 0 < btree_set_len list)
    → (e : Entry) (list : BTreeSet Plain) → g e ≡ Some list → 0 < btree_set_len list
filled_at f g p there put more filled e list is = by (same_entry p e) (sym (put e) ∙ is)
  where
    by : (b : Bool) → cond b (Some there) (f e) ≡ Some list → 0 < btree_set_len list
    by true h = subst (λ l. 0 < btree_set_len l) (some_is there list h) more
    by false h = filled e list h
