-- What is found, or not: where a condition holds, where another thing was found, or either of two.
use Rattle.std.proofs.Common.{◌≡◌, Bool, true, false, Option, Some, None, is_some, refl}

abbrev pub when : {X : Type 0} (b : Bool) → (b ≡ true → Option X) → Option X
when true f = f refl
when false f = None

pub when_some : {X : Type 0} (b : Bool) (f : b ≡ true → Option X) → b ≡ true
    → ((q : b ≡ true) → is_some (f q) ≡ true) → is_some (when b f) ≡ true
when_some true f p h = h refl
when_some false f p h = absurd cc

abbrev pub then_find : {X Y : Type 0} → Option X → (X → Option Y) → Option Y
then_find None f = None
then_find (Some x) f = f x

pub then_some : {X Y : Type 0} (o : Option X) (f : X → Option Y) → is_some o ≡ true
    → ((x : X) → is_some (f x) ≡ true) → is_some (then_find o f) ≡ true
then_some None f p h = absurd cc
then_some (Some x) f p h = h x

abbrev pub or_find : {X : Type 0} → Option X → Option X → Option X
or_find None b = b
or_find (Some x) b = Some x

pub first_some : {X : Type 0} (a b : Option X) → is_some a ≡ true → is_some (or_find a b) ≡ true
first_some None b p = absurd cc
first_some (Some x) b p = refl

pub second_some : {X : Type 0} (a b : Option X) → is_some b ≡ true → is_some (or_find a b) ≡ true
second_some None b p = p
second_some (Some x) b p = refl
