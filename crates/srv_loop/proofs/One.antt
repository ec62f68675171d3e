-- One link: what became of it.
use Rattle.std.proofs.Common.{◌≡◌, ℕ, true, false, List, [], ◌∷◌, ◌++◌, length, take}
use Rattle.std.proofs.Common.{Option, ◌⊎◌, inl, inr, refl, sym, ◌∙◌, ap, subst}
use Rattle.std.proofs.lemmas.List.{append-nil}
use Rattle.srv_loop.specs.declared.tally.Fate.{Fate}
use Rattle.srv_loop.specs.declared.tally.Fate.TheVariants as fate
use Rattle.srv_loop.specs.Fates.{IsFateOf}
use Rattle.srv_loop.specs.Links.{Deeds, AreDismissed, Opened, is_served, AreTaken, numbers, jobs_of, served, unserved}
use Rattle.srv_loop.specs.Links.{AreLed}
use Rattle.srv_loop.proofs.Leading.{AreTaken-none}
use Rattle.srv_loop.proofs.Starting.{StartsBoth}

-- the links of one welcome, and what became of them
abbrev pub IsLed :
    {J : Type 0} → (ℕ → J → Type 0) → (ℕ → J → Type 0) → Fate → Deeds → Deeds → Option (List J) → Option (List J) →
    ℕ → ℕ → Type 0
IsLed {J} is_first is_second fate a b j k m n =
    (links : List (Opened J)) × IsFateOf links fate × AreLed is_first is_second links a b
    × AreTaken (jobs_of links) j k m n

same_dismissed : (a b : Deeds) → b.dismissed ≡ a.dismissed → AreDismissed [] a b
same_dismissed a b e = record { kept = []; now_is = e ∙ sym (append-nil a.dismissed); part = refl; all = λ _. refl }

pub not_opened :
    {J : Type 0} (is_first is_second : ℕ → J → Type 0) (a b : Deeds) (j : Option (List J)) (m : ℕ) →
    b.opened ≡ a.opened → b.dismissed ≡ a.dismissed → IsLed is_first is_second fate.Full a b j j m m
not_opened is_first is_second a b j m opened dismissed = (
  [],
  record { served = refl; unserved = refl },
  record {
    started = tt;
    opened = opened ∙ sym (append-nil a.opened);
    dismissed = same_dismissed a b dismissed;
  },
  AreTaken-none j m,
)

served_one :
    {J : Type 0} (link : Opened J) → is_served link ≡ true →
    (served (link ∷ []) ≡ link ∷ []) × (unserved (link ∷ []) ≡ [])
served_one link is = (rw is refl, rw is refl)

unserved_one :
    {J : Type 0} (link : Opened J) → is_served link ≡ false →
    (served (link ∷ []) ≡ []) × (unserved (link ∷ []) ≡ link ∷ [])
unserved_one link is = (rw is refl, rw is refl)

one_taken :
    {J : Type 0} (link : Opened J) (j k : Option (List J)) (m n : ℕ) → AreTaken link.taken j k m n →
    AreTaken (jobs_of (link ∷ [])) j k m n
one_taken {J} link j k m n taken =
    let P : List J → Type 0 = λ all. AreTaken all j k m n in
    subst P (sym (append-nil link.taken)) taken

pub is_served-led :
    {J : Type 0} (is_first is_second : ℕ → J → Type 0) (number : ℕ) (first second : J) (a b : Deeds)
    (j k : Option (List J)) (m n : ℕ) → is_first number first → is_second number second →
    b.opened ≡ a.opened ++ number ∷ [] → b.dismissed ≡ a.dismissed → StartsBoth first second true j k m n →
    IsLed is_first is_second fate.Served a b j k m n
is_served-led {J} is_first is_second number first second a b j k m n first_is second_is opened dismissed starts =
    let (count, both, taken) = starts in
    let link : Opened J = record { number = number; taken = take count (first ∷ second ∷ []) } in
    let (is, none) = served_one link both in (
      link ∷ [],
      record { served = sym (ap length is); unserved = sym (ap length none) },
      record {
        started = (
          record {
            first = first;
            second = second;
            first_is = first_is;
            second_is = second_is;
            count = count;
            taken_is = refl;
          },
          tt,
        );
        opened = opened;
        dismissed = (
            let P : List (Opened J) → Type 0 = λ links. AreDismissed (numbers links) a b in
            subst P (sym none) (same_dismissed a b dismissed));
      },
      one_taken link j k m n taken,
    )

pub isnt_served-led :
    {J : Type 0} (is_first is_second : ℕ → J → Type 0) (number : ℕ) (first second : J) (a b : Deeds)
    (j k : Option (List J)) (m n : ℕ) → is_first number first → is_second number second →
    b.opened ≡ a.opened ++ number ∷ [] → AreDismissed (number ∷ []) a b → StartsBoth first second false j k m n →
    IsLed is_first is_second fate.Unserved a b j k m n
isnt_served-led {J} is_first is_second number first second a b j k m n first_is second_is opened dismissed starts =
    let (count, both, taken) = starts in
    let link : Opened J = record { number = number; taken = take count (first ∷ second ∷ []) } in
    let (none, is) = unserved_one link both in (
      link ∷ [],
      record { served = sym (ap length none); unserved = sym (ap length is) },
      record {
        started = (
          record {
            first = first;
            second = second;
            first_is = first_is;
            second_is = second_is;
            count = count;
            taken_is = refl;
          },
          tt,
        );
        opened = opened;
        dismissed = (
            let P : List (Opened J) → Type 0 = λ links. AreDismissed (numbers links) a b in
            subst P (sym is) dismissed);
      },
      one_taken link j k m n taken,
    )

-- a desk's answer to a dismissal
pub one_dismissed :
    (number : ℕ) (a b c : Deeds) → b.dismissed ≡ a.dismissed →
    (c.dismissed ≡ b.dismissed ++ number ∷ []) ⊎ ((c.dismissed ≡ b.dismissed) × (c.spent ≡ true)) →
    AreDismissed (number ∷ []) a c
one_dismissed number a b c same done =
    elim done [
      | inl e ↦ record { kept = number ∷ []; now_is = rw (← same) e; part = inr ([], refl, refl); all = λ _. refl }
      | inr h ↦ record {
        kept = [];
        now_is = h.0 ∙ same ∙ sym (append-nil a.dismissed);
        part = inl refl;
        all = λ alive. absurd (cc);
      }
    ]
