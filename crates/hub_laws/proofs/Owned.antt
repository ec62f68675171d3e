-- The rows that a system actor owns, by the key that each is for: how they follow the keys.
use Rattle.std.proofs.Common.{◌≡◌, ◌≢◌, ℕ, List, [], Bool, true, false, cond, ◌==◌, Option, Some, None, ◌⊎◌, inl, inr}
use Rattle.std.proofs.Common.{refl, ap, sym, ◌∙◌, subst, arith}
use Rattle.std.specs.Map.{keys_of, values_of}
use Rattle.std.proofs.lemmas.Bool.Decides.{nat_tests}
use Rattle.pv_value.specs.Plain.{Plain}
use Rattle.pv_words.specs.Lemmas.Same.{same_is, same_self}
use Rattle.pv_words.specs.Parts.{same}
use Rattle.ac_table.specs.declared.batches.Row.{Row}
use Rattle.ac_table.specs.Tables.{find_row}
use Rattle.ac_world.specs.Turns.{handle_for}
use Rattle.ac_world.specs.Worlds.{Resident, no_resident}
use Rattle.ac_world.specs.Behaviours.{Behaviour}
use Rattle.ac_world.specs.declared.watched.Watched.{Watched}
use Rattle.hub_laws.specs.Wanting.{passing, IsMet, IsMetBy, IsRowFor, IsFirstRow}

-- the handle is that of a key
abbrev pub IsUnder : ℕ → List (Plain × ℕ) → Type 0
IsUnder h met = (k : Plain) × (handle_for k met ≡ Some h)

-- the actor has no other row, but for a watcher's observation
abbrev pub HasNoOthers : Option Watched → ℕ → List (Plain × ℕ) → List Row → Type 0
HasNoOthers None a met rows = (h : ℕ) (r : Row) → find_row h rows ≡ Some r → r.owner ≡ a → IsUnder h met
HasNoOthers (Some x) a met rows =
    (first : ℕ) × IsFirstRow x a rows first × (IsUnder first met → ⊥)
    × ((h : ℕ) (r : Row) → find_row h rows ≡ Some r → r.owner ≡ a → h ≢ first → IsUnder h met)

-- under the handle of each key stands a row for it, no two keys have one handle, and the actor has no other row
pub record HasRows (y : Behaviour) (o : Option Watched) (a : ℕ) (met : List (Plain × ℕ)) (rows : List Row) : Type 0 where
  pub stand : (k : Plain) (h : ℕ) → handle_for k met ≡ Some h → IsMetBy y a rows k h
  pub apart : (k l : Plain) (h : ℕ) → handle_for k met ≡ Some h → handle_for l met ≡ Some h → k ≡ l
  pub no_other : HasNoOthers o a met rows

pub rows_of_met : (y : Behaviour) (o : Option Watched) (a : ℕ) (resident : Resident) (rows : List Row)
    → IsMet y o a resident rows → HasRows y o a resident.handles rows
rows_of_met y None a resident rows m = record { stand = m.rows_stand; apart = m.apart; no_other = m.no_other }
rows_of_met y (Some x) a resident rows m = record { stand = m.rows_stand; apart = m.apart; no_other = m.no_other }

pub met_of_rows : (y : Behaviour) (o : Option Watched) (a : ℕ) (resident : Resident) (rows : List Row)
    → keys_of resident.handles ≡ passing y (y.keys (values_of resident.got))
    → HasRows y o a resident.handles rows → IsMet y o a resident rows
met_of_rows y None a resident rows keys r = record {
  keys = keys;
  rows_stand = r.stand;
  apart = r.apart;
  no_other = r.no_other;
}
met_of_rows y (Some x) a resident rows keys r = record {
  keys = keys;
  rows_stand = r.stand;
  apart = r.apart;
  no_other = r.no_other;
}

-- ---- rows and keys change

-- The actor has no other row then either: each of its rows was there or is a key's, its rows under keys that stay are
-- still under them, its rows under none stay, and no row that was there is under a new key.
record Follows (a : ℕ) (met met2 : List (Plain × ℕ)) (rows rows2 : List Row) : Type 0 where
  back : (h : ℕ) (r : Row) → find_row h rows2 ≡ Some r → r.owner ≡ a → (find_row h rows ≡ Some r) ⊎ IsUnder h met2
  keep : (h : ℕ) (r : Row) → find_row h rows2 ≡ Some r → r.owner ≡ a → IsUnder h met → IsUnder h met2
  still : (h : ℕ) (r : Row) → find_row h rows ≡ Some r → r.owner ≡ a → (IsUnder h met → ⊥)
      → find_row h rows2 ≡ Some r
  old : (h : ℕ) (r : Row) → find_row h rows ≡ Some r → r.owner ≡ a → IsUnder h met2 → IsUnder h met

others_follow : (o : Option Watched) (a : ℕ) (met met2 : List (Plain × ℕ)) (rows rows2 : List Row)
    → Follows a met met2 rows rows2 → HasNoOthers o a met rows → HasNoOthers o a met2 rows2
others_follow None a met met2 rows rows2 f has = λ h r e own. elim (f.back h r e own) [
  | inl was ↦ f.keep h r e own (has h r was own)
  | inr under ↦ under
]
others_follow (Some x) a met met2 rows rows2 f has =
    let first = has.1 in (
      has.0,
      record {
        row = first.row;
        stands = f.still has.0 first.row first.stands first.owner has.2;
        owner = first.owner;
        target = first.target;
        entity = first.entity;
        value = first.value;
      },
      λ under. has.2 (f.old has.0 first.row first.stands first.owner under),
      λ h r e own other. elim (f.back h r e own) [
        | inl was ↦ f.keep h r e own (has.3 h r was own other)
        | inr under ↦ under
      ],
    )

-- ---- an entry of two lists, of which the second has one less or one more

taken : {X : Type 0} (b : Bool) (o : Option X) (x : X) → cond b None o ≡ Some x → (b ≡ false) × (o ≡ Some x)
taken true o x e = absurd cc
taken false o x e = (refl, e)

given : {X : Type 0} (b : Bool) (o : Option X) (y x : X) → cond b (Some y) o ≡ Some x
    → ((b ≡ true) × (y ≡ x)) ⊎ ((b ≡ false) × (o ≡ Some x))
given true o y x e = inl (refl, cc)
given false o y x e = inr (refl, e)

same_number : (h g : ℕ) → (h == g) ≡ true → h ≡ g
same_number h g e = grind (arith, nat_tests)

-- ---- the same rows

-- the rows of others don't matter
pub rows_kept : (y : Behaviour) (o : Option Watched) (a : ℕ) (met : List (Plain × ℕ)) (rows rows2 : List Row)
    → ((h : ℕ) (r : Row) → r.owner ≡ a → find_row h rows ≡ Some r → find_row h rows2 ≡ Some r)
    → ((h : ℕ) (r : Row) → r.owner ≡ a → find_row h rows2 ≡ Some r → find_row h rows ≡ Some r)
    → HasRows y o a met rows → HasRows y o a met rows2
rows_kept y o a met rows rows2 there back has = record {
  stand = λ k h e. let old = has.stand k h e in record {
    row = old.row;
    stands = there h old.row old.fits.owner old.stands;
    fits = old.fits;
  };
  apart = has.apart;
  no_other = others_follow o a met met rows rows2
      (record {
        back = λ h r e own. inl (back h r own e);
        keep = λ h r e own under. under;
        still = λ h r e own none. there h r own e;
        old = λ h r e own under. under;
      }) has.no_other;
}

pub met_kept : (y : Behaviour) (o : Option Watched) (a : ℕ) (resident : Resident) (rows rows2 : List Row)
    → ((h : ℕ) (r : Row) → r.owner ≡ a → find_row h rows ≡ Some r → find_row h rows2 ≡ Some r)
    → ((h : ℕ) (r : Row) → r.owner ≡ a → find_row h rows2 ≡ Some r → find_row h rows ≡ Some r)
    → IsMet y o a resident rows → IsMet y o a resident rows2
met_kept y o a resident rows rows2 there back m =
    met_of_rows y o a resident rows2 m.keys (rows_kept y o a resident.handles rows rows2 there back
    (rows_of_met y o a resident rows m))

-- a resident with nothing got is met, where the actor has no row but a watcher's observation
pub no_wants_met : (y : Behaviour) → y.keys [] ≡ [] → (o : Option Watched) (a : ℕ) (rows : List Row)
    → HasNoOthers o a [] rows → IsMet y o a no_resident rows
no_wants_met y nothing o a rows none =
    met_of_rows y o a no_resident rows (sym (ap (passing y) nothing))
    (record { stand = λ k h e. absurd cc; apart = λ k l h e f. absurd cc; no_other = none })

-- only what is found under a key matters
pub rows_same : (y : Behaviour) (o : Option Watched) (a : ℕ) (met met2 : List (Plain × ℕ)) (rows : List Row)
    → ((q : Plain) → handle_for q met2 ≡ handle_for q met) → HasRows y o a met rows → HasRows y o a met2 rows
rows_same y o a met met2 rows keys has = record {
  stand = λ k h e. has.stand k h (sym (keys k) ∙ e);
  apart = λ k l h e f. has.apart k l h (sym (keys k) ∙ e) (sym (keys l) ∙ f);
  no_other = others_follow o a met met2 rows rows
      (record {
        back = λ h r e own. inl e;
        keep = λ h r e own under. (under.0, keys under.0 ∙ under.1);
        still = λ h r e own none. e;
        old = λ h r e own under. (under.0, sym (keys under.0) ∙ under.1);
      }) has.no_other;
}

-- ---- a key and its row go

module _ (y : Behaviour) (o : Option Watched) (a : ℕ) (met : List (Plain × ℕ)) (rows : List Row)
    (has : HasRows y o a met rows) (k : Plain) (h : ℕ) (found : handle_for k met ≡ Some h) where
  -- another key has another handle
  other_handle : (q : Plain) (g : ℕ) → same k q ≡ false → handle_for q met ≡ Some g → (h == g) ≡ false
  other_handle q g other at = by (h == g) refl
    where
      by : (b : Bool) → (h == g) ≡ b → b ≡ false
      by false e = refl
      by true e =
          let one : k ≡ q = has.apart k q h found (at ∙ ap Some (sym (same_number h g e))) in
          let yes : same k q ≡ true = subst (λ z. same k z ≡ true) one (same_self k) in
          absurd cc

  pub rows_less : (met2 : List (Plain × ℕ)) (rows2 : List Row)
      → ((q : Plain) → handle_for q met2 ≡ cond (same k q) None (handle_for q met))
      → ((g : ℕ) → find_row g rows2 ≡ cond (h == g) None (find_row g rows)) → HasRows y o a met2 rows2
  rows_less met2 rows2 keys stand = record {
    stand = λ q g e.
        let t = taken (same k q) (handle_for q met) g (sym (keys q) ∙ e) in
        let old = has.stand q g t.1 in
        record {
          row = old.row;
          stands = stand g ∙ ap (λ b. cond b None (find_row g rows)) (other_handle q g t.0 t.1) ∙ old.stands;
          fits = old.fits;
        };
    apart = λ q l g e f.
        has.apart q l g (taken (same k q) (handle_for q met) g (sym (keys q) ∙ e)).1
        (taken (same k l) (handle_for l met) g (sym (keys l) ∙ f)).1;
    no_other = others_follow o a met met2 rows rows2
        (record {
          back = λ g r e own. inl (taken (h == g) (find_row g rows) r (sym (stand g) ∙ e)).1;
          keep = λ g r e own under.
              let t = taken (h == g) (find_row g rows) r (sym (stand g) ∙ e) in (
                under.0,
                keys under.0
                    ∙ ap (λ b. cond b None (handle_for under.0 met)) (other_key under.0 g t.0 under.1) ∙ under.1,
              );
          still = λ g r e own none. stand g ∙ apart_from g r none (h == g) refl ∙ e;
          old = λ g r e own under.
              (under.0, (taken (same k under.0) (handle_for under.0 met) g (sym (keys under.0) ∙ under.1)).1);
        }) has.no_other;
  }
    where
      apart_from : (g : ℕ) (r : Row) → (IsUnder g met → ⊥) → (b : Bool) → (h == g) ≡ b
          → cond b None (find_row g rows) ≡ find_row g rows
      apart_from g r none false n = refl
      apart_from g r none true n = absurd (none (k, found ∙ ap Some (same_number h g n)))

      other_key : (q : Plain) (g : ℕ) → (h == g) ≡ false → handle_for q met ≡ Some g → same k q ≡ false
      other_key q g other at = by (same k q) refl
        where
          by : (b : Bool) → same k q ≡ b → b ≡ false
          by false e = refl
          by true e =
              let one : Some h ≡ Some g = sym found ∙ ap (λ z. handle_for z met) (same_is k q e) ∙ at in
              let number : h ≡ g = cc in
              absurd (grind (arith, nat_tests))

-- ---- a key comes, with a row for it under a handle that no row has

module _ (y : Behaviour) (o : Option Watched) (a : ℕ) (met : List (Plain × ℕ)) (rows : List Row)
    (has : HasRows y o a met rows) (k : Plain) (h : ℕ) (r : Row)
    (new : handle_for k met ≡ None) (free : find_row h rows ≡ None) (fits : IsRowFor y a k r) where
  used : (q : Plain) → handle_for q met ≡ Some h → ⊥
  used q at = let old = has.stand q h at in let clash : None ≡ Some old.row = sym free ∙ old.stands in cc

  module _ (met2 : List (Plain × ℕ)) (rows2 : List Row)
      (keys : (q : Plain) → handle_for q met2 ≡ cond (same k q) (Some h) (handle_for q met))
      (stand : (g : ℕ) → find_row g rows2 ≡ cond (h == g) (Some r) (find_row g rows)) where
    at_key : (q : Plain) (g : ℕ) → handle_for q met2 ≡ Some g
        → ((same k q ≡ true) × (h ≡ g)) ⊎ ((same k q ≡ false) × (handle_for q met ≡ Some g))
    at_key q g e = given (same k q) (handle_for q met) h g (sym (keys q) ∙ e)

    row_at : (q : Plain) (g : ℕ) → ((same k q ≡ true) × (h ≡ g)) ⊎ ((same k q ≡ false) × (handle_for q met ≡ Some g))
        → IsMetBy y a rows2 q g
    row_at q g (inl e) =
        let one : (h == h) ≡ true = grind (arith, nat_tests) in
        let here : IsMetBy y a rows2 k h = record {
          row = r;
          stands = stand h ∙ ap (λ b. cond b (Some r) (find_row h rows)) one;
          fits = fits;
        } in
        subst (λ z. IsMetBy y a rows2 z g) (same_is k q e.0) (subst (IsMetBy y a rows2 k) e.1 here)
    row_at q g (inr e) =
        let old = has.stand q g e.1 in
        record { row = old.row; stands = stand g ∙ by (h == g) refl old.row old.stands; fits = old.fits }
      where
        by : (b : Bool) → (h == g) ≡ b → (s : Row) → find_row g rows ≡ Some s
            → cond b (Some r) (find_row g rows) ≡ Some s
        by false n s at = at
        by true n s at =
            let clash : None ≡ Some s = sym free ∙ ap (λ z. find_row z rows) (same_number h g n) ∙ at in
            absurd cc

    one_key : (q l : Plain) (g : ℕ)
        → ((same k q ≡ true) × (h ≡ g)) ⊎ ((same k q ≡ false) × (handle_for q met ≡ Some g))
        → ((same k l ≡ true) × (h ≡ g)) ⊎ ((same k l ≡ false) × (handle_for l met ≡ Some g)) → q ≡ l
    one_key q l g (inl e) (inl f) = sym (same_is k q e.0) ∙ same_is k l f.0
    one_key q l g (inl e) (inr f) = absurd (used l (f.1 ∙ ap Some (sym e.1)))
    one_key q l g (inr e) (inl f) = absurd (used q (e.1 ∙ ap Some (sym f.1)))
    one_key q l g (inr e) (inr f) = has.apart q l g e.1 f.1

    pub rows_more : HasRows y o a met2 rows2
    rows_more = record {
      stand = λ q g e. row_at q g (at_key q g e);
      apart = λ q l g e f. one_key q l g (at_key q g e) (at_key l g f);
      no_other = others_follow o a met met2 rows rows2
          (record {
            back = λ g s e own. from g s (given (h == g) (find_row g rows) r s (sym (stand g) ∙ e));
            keep = λ g s e own under.
                (under.0, keys under.0 ∙ still under.0 g (same k under.0) refl under.1);
            still = λ g s e own none. stand g ∙ apart_from g s e (h == g) refl ∙ e;
            old = λ g s e own under. elim (at_key under.0 g under.1) [
              | inl new_key ↦ absurd (let clash : None ≡ Some s =
                  sym free ∙ ap (λ z. find_row z rows) new_key.1 ∙ e in cc)
              | inr was ↦ (under.0, was.1)
            ];
          }) has.no_other;
    }
      where
        still : (q : Plain) (g : ℕ) (b : Bool) → same k q ≡ b → handle_for q met ≡ Some g
            → cond b (Some h) (handle_for q met) ≡ Some g
        still q g false n at = at
        still q g true n at =
            let clash : None ≡ Some g = sym new ∙ ap (λ z. handle_for z met) (same_is k q n) ∙ at in
            absurd cc

        from : (g : ℕ) (s : Row)
            → (((h == g) ≡ true) × (r ≡ s)) ⊎ (((h == g) ≡ false) × (find_row g rows ≡ Some s))
            → (find_row g rows ≡ Some s) ⊎ IsUnder g met2
        from g s (inl e) =
            inr (
              k,
              keys k ∙ ap (λ b. cond b (Some h) (handle_for k met)) (same_self k)
                  ∙ ap Some (same_number h g e.0),
            )
        from g s (inr e) = inl e.1

        apart_from : (g : ℕ) (s : Row) → find_row g rows ≡ Some s → (b : Bool) → (h == g) ≡ b
            → cond b (Some r) (find_row g rows) ≡ find_row g rows
        apart_from g s e false n = refl
        apart_from g s e true n =
            let clash : None ≡ Some s = sym free ∙ ap (λ z. find_row z rows) (same_number h g n) ∙ e in
            absurd cc
