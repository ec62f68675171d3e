-- Links that were led one after another are links that were led.
use Rattle.std.proofs.Common.{◌≡◌, ℕ, ◌+◌, Bool, true, false, List, [], ◌∷◌, ◌++◌, length}
use Rattle.std.proofs.Common.{Option, None, Some, IfSome, refl, sym, ◌∙◌, ap, subst, append_assoc, arith, length-append}
use Rattle.std.proofs.Common.{inl, inr}
use Rattle.std.proofs.lemmas.List.{append-nil, map-append}
use Rattle.std.proofs.lemmas.List.Elements.{filter-append}
use Rattle.std.proofs.lemmas.Grind.{flat_map-append}
use Rattle.std.specs.List.{AllByRecursion}
use Rattle.out_ports.specs.Ports.{RoseBy}
use Rattle.srv_loop.specs.Links.{Deeds, Begins, ArePart, AreDismissed, Opened, IsStarted, AreTaken, numbers, jobs_of}
use Rattle.srv_loop.specs.Links.{served, unserved, AreLed, OnlyGrew}

-- Counts

pub RoseBy-none : (now : ℕ) → RoseBy 0 now now
RoseBy-none now small = omega arith

pub RoseBy-more : (m n a b c : ℕ) → RoseBy m a b → RoseBy n b c → RoseBy (m + n) a c
RoseBy-more m n a b c first next small =
    let e : c ≡ b + n = next small in
    let f : b ≡ a + m = first (omega (arith, e)) in
    omega (arith, e, f)

-- Jobs

pub AreTaken-none : {J : Type 0} (told : Option (List J)) (count : ℕ) → AreTaken [] told told count count
AreTaken-none None count = record { told = tt; count = RoseBy-none count }
AreTaken-none (Some held) count = record { told = ap Some (sym (append-nil held)); count = RoseBy-none count }

told_more :
    {J : Type 0} (jobs more : List J) (a b c : Option (List J)) → IfSome a (λ held. b ≡ Some (held ++ jobs)) →
    IfSome b (λ held. c ≡ Some (held ++ more)) → IfSome a (λ held. c ≡ Some (held ++ (jobs ++ more)))
told_more jobs more None b c first next = tt
told_more {J} jobs more (Some held) b c first next =
    let P : Option (List J) → Type 0 = λ o. IfSome o (λ all. c ≡ Some (all ++ more)) in
    let e : c ≡ Some ((held ++ jobs) ++ more) = subst P first next in
    e ∙ ap Some (append_assoc held jobs more)

pub AreTaken-more :
    {J : Type 0} (jobs more : List J) (a b c : Option (List J)) (k m n : ℕ) → AreTaken jobs a b k m →
    AreTaken more b c m n → AreTaken (jobs ++ more) a c k n
AreTaken-more {J} jobs more a b c k m n first next = record {
  told = told_more jobs more a b c first.told next.told;
  count = (
      let P : ℕ → Type 0 = λ all. RoseBy all k n in
      subst P (sym (length-append jobs more)) (RoseBy-more (length jobs) (length more) k m n first.count next.count));
}

-- Links

AllByRecursion-append :
    {X : Type 0} (P : X → Type 0) (xs ys : List X) → AllByRecursion P xs → AllByRecursion P ys →
    AllByRecursion P (xs ++ ys)
AllByRecursion-append P [] ys all more = more
AllByRecursion-append P (x ∷ xs) ys all more = (all.0, AllByRecursion-append P xs ys all.1 more)

ArePart-append :
    (some more xs ys : List ℕ) → ArePart some xs → ArePart more ys → ArePart (some ++ more) (xs ++ ys)
ArePart-append some more [] ys part next =
    let P : List ℕ → Type 0 = λ these. ArePart (these ++ more) ys in
    subst P (sym part) next
ArePart-append some more (x ∷ xs) ys part next =
    elim part [
      | inl left_out ↦ inl (ArePart-append some more xs ys left_out next)
      | inr (rest, is, kept) ↦
          inr (rest ++ more, ap (λ these. these ++ more) is, ArePart-append rest more xs ys kept next)
    ]

AreDismissed-none : (a : Deeds) → AreDismissed [] a a
AreDismissed-none a = record { kept = []; now_is = sym (append-nil a.dismissed); part = refl; all = λ _. refl }

kept_spent : (b c : Bool) → (b ≡ true → c ≡ true) → c ≡ false → b ≡ false
kept_spent true c stays is = let t = stays refl in cc
kept_spent false c stays is = refl

AreDismissed-more :
    (ks ls : List ℕ) (a b c : Deeds) → AreDismissed ks a b → AreDismissed ls b c → (b.spent ≡ true → c.spent ≡ true) →
    AreDismissed (ks ++ ls) a c
AreDismissed-more ks ls a b c first next stays = record {
  kept = first.kept ++ next.kept;
  now_is = rw (next.now_is, first.now_is) (append_assoc a.dismissed first.kept next.kept);
  part = ArePart-append first.kept next.kept ks ls first.part next.part;
  all = λ alive.
      let e = first.all (kept_spent b.spent c.spent stays alive) in
      let f = next.all alive in
      rw (e, f) refl;
}

pub AreLed-none : {J : Type 0} (is_first is_second : ℕ → J → Type 0) (a : Deeds) → AreLed is_first is_second [] a a
AreLed-none is_first is_second a = record {
  started = tt;
  opened = sym (append-nil a.opened);
  dismissed = AreDismissed-none a;
}

pub AreLed-more :
    {J : Type 0} (is_first is_second : ℕ → J → Type 0) (ks ls : List (Opened J)) (a b c : Deeds) →
    AreLed is_first is_second ks a b → AreLed is_first is_second ls b c → (b.spent ≡ true → c.spent ≡ true) →
    AreLed is_first is_second (ks ++ ls) a c
AreLed-more is_first is_second ks ls a b c first next stays = record {
  started = AllByRecursion-append (IsStarted is_first is_second) ks ls first.started next.started;
  opened = rw (next.opened, first.opened, map-append) (append_assoc a.opened (numbers ks) (numbers ls));
  dismissed = (
      let k = numbers (unserved ks) in
      let l = numbers (unserved ls) in
      rw (filter-append, map-append) (AreDismissed-more k l a b c first.dismissed next.dismissed stays));
}

pub jobs_of-more : {J : Type 0} (ks ls : List (Opened J)) → jobs_of (ks ++ ls) ≡ jobs_of ks ++ jobs_of ls
jobs_of-more ks ls = flat_map-append (λ link. link.taken) ks ls

pub served-more :
    {J : Type 0} (ks ls : List (Opened J)) → length (served (ks ++ ls)) ≡ length (served ks) + length (served ls)
served-more ks ls = rw (filter-append, length-append) refl

pub unserved-more :
    {J : Type 0} (ks ls : List (Opened J)) →
    length (unserved (ks ++ ls)) ≡ length (unserved ks) + length (unserved ls)
unserved-more ks ls = rw (filter-append, length-append) refl

-- What stands

pub Begins-none : (xs : List ℕ) → Begins xs xs
Begins-none xs = ([], sym (append-nil xs))

pub Begins-more : (xs ys zs : List ℕ) → Begins xs ys → Begins ys zs → Begins xs zs
Begins-more xs ys zs (more, is) (rest, then) = (more ++ rest, rw (then, is) (append_assoc xs more rest))

jobs_grew :
    {J : Type 0} (a b c : Option (List J)) → IfSome a (λ held. (more : List J) × (b ≡ Some (held ++ more))) →
    IfSome b (λ held. (more : List J) × (c ≡ Some (held ++ more))) →
    IfSome a (λ held. (more : List J) × (c ≡ Some (held ++ more)))
jobs_grew None b c first next = tt
jobs_grew {J} (Some held) b c (more, is) next =
    let P : Option (List J) → Type 0 = λ o. IfSome o (λ all. (rest : List J) × (c ≡ Some (all ++ rest))) in
    let then : (rest : List J) × (c ≡ Some ((held ++ more) ++ rest)) = subst P is next in
    (more ++ then.0, then.1 ∙ ap Some (append_assoc held more then.0))

pub OnlyGrew-more :
    {J : Type 0} (a b c : Deeds) (j k l : Option (List J)) → OnlyGrew a b j k → OnlyGrew b c k l → OnlyGrew a c j l
OnlyGrew-more a b c j k l first next = record {
  opened = Begins-more a.opened b.opened c.opened first.opened next.opened;
  dismissed = Begins-more a.dismissed b.dismissed c.dismissed first.dismissed next.dismissed;
  jobs = jobs_grew j k l first.jobs next.jobs;
}

told_grew :
    {J : Type 0} (jobs : List J) (a b : Option (List J)) → IfSome a (λ held. b ≡ Some (held ++ jobs)) →
    IfSome a (λ held. (more : List J) × (b ≡ Some (held ++ more)))
told_grew jobs None b told = tt
told_grew jobs (Some held) b told = (jobs, told)

pub OnlyGrew-led :
    {J : Type 0} (is_first is_second : ℕ → J → Type 0) (links : List (Opened J)) (jobs : List J) (a b : Deeds)
    (j k : Option (List J)) (m n : ℕ) → AreLed is_first is_second links a b → AreTaken jobs j k m n → OnlyGrew a b j k
OnlyGrew-led is_first is_second links jobs a b j k m n led taken = record {
  opened = (numbers links, led.opened);
  dismissed = (led.dismissed.kept, led.dismissed.now_is);
  jobs = told_grew jobs j k taken.told;
}
