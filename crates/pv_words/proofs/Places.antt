-- Items at places.
use Rattle.std.proofs.Common.{◌≡◌, ◌<◌, ◌≤◌, ◌^◌, length, get_or, is_some, Bor, option_copied, unwrap_or, ltb, pos}
use Rattle.std.proofs.Common.{zero, suc}
use Rattle.std.proofs.Common.{arith, List, [], ◌∷◌, Bool, true, false, cond, Option, Some, None, option_map, ℕ, refl}
use Rattle.std.proofs.Common.{ap, ◌∙◌}
use Rattle.std.proofs.lemmas.Bool.Decides.{nat_tests}
use Rattle.pv_value.specs.Plain.{Plain, integer, plains, Plains}
use Rattle.pv_words.specs.Words.{number_in}
use Rattle.pv_words.specs.Parts.{item_at, item_under}

got_by : (r : Option (Bor Plain)) (x : Plain) → is_some r ≡ true
    → ((d : Plain) → unwrap_or (option_map (λ (y : Bor Plain). y.now) r) d ≡ x) → option_copied r ≡ Some x
got_by None x e h = cc
got_by (Some y) x e h = ap Some (h x)

got_none : (r : Option (Bor Plain)) → is_some r ≡ false → option_copied r ≡ None
got_none None e = refl
got_none (Some y) e = cc

pub got_item : (xs : List Plain) (i : ℕ) (r : Option (Bor Plain)) → is_some r ≡ ltb i (length xs)
    → ((d : Plain) → unwrap_or (option_map (λ (y : Bor Plain). y.now) r) d ≡ get_or xs i d)
    → option_copied r ≡ item_at (plains xs) i
got_item [] i r e h =
    let f : ltb i 0 ≡ false = grind (arith, nat_tests) in
    got_none r (e ∙ f)
got_item (x ∷ xs) zero r e h =
    let f : ltb 0 (length (x ∷ xs)) ≡ true = grind (arith, nat_tests) in
    got_by r x (e ∙ f) h
got_item (x ∷ xs) (suc i) r e h =
    let f : ltb (suc i) (length (x ∷ xs)) ≡ ltb i (length xs) = grind (arith, nat_tests) in
    got_item xs i r (e ∙ f) h

item_by : (b : Bool) (n i : ℕ) (xs : Plains) → cond b (Some n) None ≡ Some i → item_at xs n ≡ item_at xs i
item_by true n i xs e = let f : n ≡ i = cc in ap (item_at xs) f
item_by false n i xs e = cc

pub placed_item : (xs : Plains) (key : Plain) (i : ℕ) → number_in key ≡ Some i → item_under xs key ≡ item_at xs i
placed_item xs (integer (pos n)) i e = item_by (ltb n (2 ^ 63)) n i xs e
placed_item xs key i e = cc

beyond : (xs : List Plain) (i : ℕ) → length xs ≤ i → None ≡ item_at (plains xs) i
beyond [] i l = refl
beyond (x ∷ xs) zero l = absurd (omega arith)
beyond (x ∷ xs) (suc i) l = beyond xs i (omega arith)

far_by : (b : Bool) (xs : List Plain) (n : ℕ) → ltb n (2 ^ 63) ≡ b → cond {A = Option ℕ} b (Some n) None ≡ None
    → length xs < 2 ^ 63
    → None ≡ item_at (plains xs) n
far_by true xs n t e l = cc
far_by false xs n t e l = let far : 2 ^ 63 ≤ n = grind (arith, nat_tests) in beyond xs n (omega arith)

pub far_item : (xs : List Plain) (key : Plain) → number_in key ≡ None → length xs < 2 ^ 63 → None
    ≡ item_under (plains xs) key
far_item xs (integer (pos n)) e l = far_by (ltb n (2 ^ 63)) xs n refl e l
far_item xs key e l = refl
