-- What stands after a call that was answered.
use Rattle.std.proofs.Common.{Result, Ok, Err, OnOk, IfOk}

pub then_ok : {X E A B : Type 0} (r : Result X E) → (A → B) → OnOk r A → OnOk r B
then_ok (Ok x) f a = f a
then_ok (Err e) f a = tt

pub then_if : {X E : Type 0} {A B : X → Type 0} (r : Result X E) → ((x : X) → A x → B x) → IfOk r A → IfOk r B
then_if (Ok x) f a = f x a
then_if (Err e) f a = tt

pub then_two : {X E A B C : Type 0} (r : Result X E) → (A → B → C) → OnOk r A → OnOk r B → OnOk r C
then_two (Ok x) f a b = f a b
then_two (Err e) f a b = tt

pub then_three : {X E A B C D : Type 0} (r : Result X E) → (A → B → C → D) → OnOk r A → OnOk r B → OnOk r C → OnOk r D
then_three (Ok x) f a b c = f a b c
then_three (Err e) f a b c = tt
