-- What all batches of an inbox come to, and what those of each sender do.
use Rattle.std.proofs.Common.{◌≡◌, ℕ, ◌+◌, ◌^◌, ◌<◌, Bool, true, false, ◌==◌, List, [], ◌∷◌, ◌++◌, length}
use Rattle.std.proofs.Common.{refl, ap, sym, ◌∙◌, arith, if◌then◌else◌}
use Rattle.ac_table.specs.Inboxes.{IsLoaded, AddsAt, KeepsSome}
use Rattle.ac_table.specs.Lemmas.Sums.{sum_of-top, sum_of-push, sum_of-fits, whole_of}
use Rattle.ac_table.specs.Sums.{Load, nothing, both, top, top_load, load_in, load_from, load_waiting, sum_of, sums_of}
use Rattle.ac_table.specs.Sums.{load_of_batch, load_if_from}
use Rattle.ac_table.specs.Tables.{Batch}

pub load_is : (x y : Load) → x.count ≡ y.count → x.weight ≡ y.weight → x ≡ y
load_is x y count weight = λ i. record { count = count i; weight = weight i }

-- ---- what is kept is told as what waits

waiting_count : (bs : List Batch) → whole_of (λ (b : Batch). (load_of_batch b).count) bs ≡ (load_waiting bs).count
waiting_count [] = refl
waiting_count (b ∷ bs) = ap (λ (n : ℕ). (load_in b.events).count + n) (waiting_count bs)

waiting_weight : (bs : List Batch) → whole_of (λ (b : Batch). (load_of_batch b).weight) bs ≡ (load_waiting bs).weight
waiting_weight [] = refl
waiting_weight (b ∷ bs) = ap (λ (n : ℕ). (load_in b.events).weight + n) (waiting_weight bs)

from_count : (a : ℕ) (bs : List Batch) → whole_of (λ (b : Batch). (load_if_from a b).count) bs ≡ (load_from a bs).count
from_count a [] = refl
from_count a (b ∷ bs) = ap (λ (n : ℕ). (load_if_from a b).count + n) (from_count a bs)

from_weight : (a : ℕ) (bs : List Batch)
    → whole_of (λ (b : Batch). (load_if_from a b).weight) bs ≡ (load_from a bs).weight
from_weight a [] = refl
from_weight a (b ∷ bs) = ap (λ (n : ℕ). (load_if_from a b).weight + n) (from_weight a bs)

pub waiting_told : (bs : List Batch) → top_load (sums_of load_of_batch bs) ≡ top_load (load_waiting bs)
waiting_told bs =
    load_is _ _ (sum_of-top (λ (b : Batch). (load_of_batch b).count) bs ∙ ap top (waiting_count bs))
    (sum_of-top (λ (b : Batch). (load_of_batch b).weight) bs ∙ ap top (waiting_weight bs))

pub from_told : (a : ℕ) (bs : List Batch) → top_load (sums_of (load_if_from a) bs) ≡ top_load (load_from a bs)
from_told a bs =
    load_is _ _ (sum_of-top (λ (b : Batch). (load_if_from a b).count) bs ∙ ap top (from_count a bs))
    (sum_of-top (λ (b : Batch). (load_if_from a b).weight) bs ∙ ap top (from_weight a bs))

-- ---- there is room for one more

pub sum_has_room : (f : Batch → ℕ) (bs : List Batch) (kept more : ℕ) → kept ≡ sum_of f bs → length bs < 2 ^ 64
    → more < 2 ^ 64 → kept + more < 2 ^ 128
sum_has_room f bs kept more is few small =
    let fits = sum_of-fits f bs in
    omega (arith, fits, is, few, small)

-- ---- a batch more

if_told : (x : Load) (b : Batch) (a : ℕ) → both x (if b.from == a then top_load (load_in b.events) else nothing)
    ≡ both x (top_load (load_if_from a b))
if_told x b a = split (b.from == a) refl
  where
    split : (c : Bool) → (b.from == a) ≡ c → both x (if b.from == a then top_load (load_in b.events) else nothing)
        ≡ both x (top_load (load_if_from a b))
    split true is = rw is refl
    split false is = rw is refl

sums-push : (f : Batch → Load) (bs : List Batch) (b : Batch)
    → sums_of f (bs ++ b ∷ []) ≡ both (sums_of f bs) (top_load (f b))
sums-push f bs b =
    load_is _ _ (sum_of-push (λ (b : Batch). (f b).count) bs b) (sum_of-push (λ (b : Batch). (f b).weight) bs b)

pub loaded_push : (bs : List Batch) (b : Batch) (l total new : Load) (senders more : List (ℕ × Load))
    → IsLoaded bs total senders → l ≡ top_load (load_in b.events) → new ≡ both total l → AddsAt b.from l senders more
    → KeepsSome more → IsLoaded (bs ++ b ∷ []) new more
loaded_push bs b l total new senders more k l_is new_is adds kept = record {
  all = new_is ∙ ap (λ (x : Load). both x l) k.all ∙ ap (both (sums_of load_of_batch bs)) l_is
      ∙ sym (sums-push load_of_batch bs b);
  each = λ a. adds a ∙ ap (λ (x : Load). both x (if b.from == a then l else nothing)) (k.each a)
      ∙ ap (λ (l : Load). both (sums_of (load_if_from a) bs) (if b.from == a then l else nothing)) l_is
      ∙ if_told (sums_of (load_if_from a) bs) b a ∙ sym (sums-push (load_if_from a) bs b);
  kept = kept;
}
