-- The laws of the order.
use Rattle.std.specs.Prelude.{◌≡◌, ℕ, ◌<◌, ◌≤◌, ℤ, nat_lt, List, [], ◌∷◌, true, false, Bool, refl}
use Rattle.std.proofs.Common.{sym, ◌∙◌, ap, arith, inl, inr, eqb}
use Rattle.std.specs.declared.cmp.Ordering.{Ordering}
use Rattle.std.specs.declared.cmp.Ordering.TheVariants.{Less, Equal, Greater}
use Rattle.std.specs.Ordering.{ordering_then, ordering_reverse, nat_cmp, int_cmp, bool_cmp}
use Rattle.std.specs.Cmp.{IsTotalOrder}
use Rattle.std.specs.Cmp.Lexicographic.{slice_cmp}
use Rattle.std.proofs.lemmas.Bool.{eqb-false, lt-ltb, cases_order}
use Rattle.std.proofs.lemmas.Cmp.{nat_list_cmp_total, nat_cmp_total, int_cmp_total, int_ranked, ranked}
use Rattle.std.proofs.lemmas.Bool.Decides.{nat_tests}
use Rattle.pv_value.specs.Plain.{Plain, boolean, double, integer, string, byte_string, symbol, record_of, sequence}
use Rattle.pv_value.specs.Plain.{set_of, dictionary, embedded, Plains, no_more, then_more, PlainPairs, no_pairs}
use Rattle.pv_value.specs.Plain.{then_pair}
use Rattle.pv_value.specs.Order.{rank, double_place, order, orders, pair_orders}

-- ---- what `then` answers

then_Equal : (r s : Ordering) → ordering_then r s ≡ Equal → (r ≡ Equal) × (s ≡ Equal)
then_Equal Less s e = cc
then_Equal Equal s e = (refl, e)
then_Equal Greater s e = cc

then_turn : (r s t u : Ordering) → r ≡ ordering_reverse t → s ≡ ordering_reverse u
    → ordering_then r s ≡ ordering_reverse (ordering_then t u)
then_turn r s Less u p q = rw p
then_turn r s Equal u p q = rw p q
then_turn r s Greater u p q = rw p

-- ---- the parts

numbers_same : (m n : ℕ) → nat_cmp m n ≡ Equal → m ≡ n
numbers_same m n e = ranked m n Equal (sym e)

lists_same : (s t : List ℕ) → slice_cmp nat_cmp s t ≡ Equal → s ≡ t
lists_same [] [] e = refl
lists_same [] (y ∷ t) e = cc
lists_same (x ∷ s) [] e = cc
lists_same (x ∷ s) (y ∷ t) e =
    let h = then_Equal (nat_cmp x y) (slice_cmp nat_cmp s t) e in
    λ i. numbers_same x y h.0 i ∷ lists_same s t h.1 i

integers_same : (y z : ℤ) → int_cmp y z ≡ Equal → y ≡ z
integers_same y z e = int_ranked y z Equal (sym e)

booleans_same : (a b : Bool) → bool_cmp a b ≡ Equal → a ≡ b
booleans_same false false e = refl
booleans_same true true e = refl
booleans_same false true e = cc
booleans_same true false e = cc

booleans_turn : (a b : Bool) → bool_cmp a b ≡ ordering_reverse (bool_cmp b a)
booleans_turn false false = refl
booleans_turn true true = refl
booleans_turn false true = refl
booleans_turn true false = refl

booleans_chain : (a b c : Bool) → bool_cmp a b ≡ Less → bool_cmp b c ≡ Less → bool_cmp a c ≡ Less
booleans_chain false true false p q = cc
booleans_chain false false c p q = cc
booleans_chain false true true p q = cc
booleans_chain true false c p q = cc
booleans_chain true true c p q = cc

double_places_same : (m n : ℕ) → double_place m ≡ double_place n → m ≡ n
unfolding double_place
double_places_same m n e = grind (arith, nat_tests)

doubles_same : (m n : ℕ) → nat_cmp (double_place m) (double_place n) ≡ Equal → m ≡ n
doubles_same m n e = double_places_same m n (numbers_same (double_place m) (double_place n) e)

-- ---- equal only of the same value

mutual
  pub order_same : (x y : Plain) → order x y ≡ Equal → x ≡ y
  order_same (boolean a) (boolean b) e = ap boolean (booleans_same a b e)
  order_same (double m) (double n) e = ap double (doubles_same m n e)
  order_same (integer y) (integer z) e = ap integer (integers_same y z e)
  order_same (string s) (string t) e = ap string (lists_same s t e)
  order_same (byte_string s) (byte_string t) e = ap byte_string (lists_same s t e)
  order_same (symbol s) (symbol t) e = ap symbol (lists_same s t e)
  order_same (record_of k es) (record_of l fs) e =
      let h = then_Equal (order k l) (orders es fs) e in
      λ i. record_of (order_same k l h.0 i) (orders_same es fs h.1 i)
  order_same (sequence xs) (sequence ys) e = ap sequence (orders_same xs ys e)
  order_same (set_of xs) (set_of ys) e = ap set_of (orders_same xs ys e)
  order_same (dictionary ps) (dictionary qs) e = ap dictionary (pair_orders_same ps qs e)
  order_same (embedded x) (embedded y) e = ap embedded (order_same x y e)
  order_same x y e = cc

  pub orders_same : (xs ys : Plains) → orders xs ys ≡ Equal → xs ≡ ys
  orders_same no_more no_more e = refl
  orders_same no_more (then_more y ys) e = cc
  orders_same (then_more x xs) no_more e = cc
  orders_same (then_more x xs) (then_more y ys) e =
      let h = then_Equal (order x y) (orders xs ys) e in
      λ i. then_more (order_same x y h.0 i) (orders_same xs ys h.1 i)

  pub pair_orders_same : (ps qs : PlainPairs) → pair_orders ps qs ≡ Equal → ps ≡ qs
  pair_orders_same no_pairs no_pairs e = refl
  pair_orders_same no_pairs (then_pair l w qs) e = cc
  pair_orders_same (then_pair k v ps) no_pairs e = cc
  pair_orders_same (then_pair k v ps) (then_pair l w qs) e =
      let h = then_Equal (order k l) (ordering_then (order v w) (pair_orders ps qs)) e in
      let g = then_Equal (order v w) (pair_orders ps qs) h.1 in
      λ i. then_pair (order_same k l h.0 i) (order_same v w g.0 i) (pair_orders_same ps qs g.1 i)

-- ---- the other way round

mutual
  pub order_turn : (x y : Plain) → order x y ≡ ordering_reverse (order y x)
  order_turn (boolean a) (boolean b) = booleans_turn a b
  order_turn (double m) (double n) = nat_cmp_total.antisymm (double_place m) (double_place n)
  order_turn (integer y) (integer z) = int_cmp_total.antisymm y z
  order_turn (string s) (string t) = nat_list_cmp_total.antisymm s t
  order_turn (byte_string s) (byte_string t) = nat_list_cmp_total.antisymm s t
  order_turn (symbol s) (symbol t) = nat_list_cmp_total.antisymm s t
  order_turn (record_of k es) (record_of l fs) =
      then_turn (order k l) (orders es fs) (order l k) (orders fs es) (order_turn k l) (orders_turn es fs)
  order_turn (sequence xs) (sequence ys) = orders_turn xs ys
  order_turn (set_of xs) (set_of ys) = orders_turn xs ys
  order_turn (dictionary ps) (dictionary qs) = pair_orders_turn ps qs
  order_turn (embedded x) (embedded y) = order_turn x y
  order_turn x y = refl

  pub orders_turn : (xs ys : Plains) → orders xs ys ≡ ordering_reverse (orders ys xs)
  orders_turn no_more no_more = refl
  orders_turn no_more (then_more y ys) = refl
  orders_turn (then_more x xs) no_more = refl
  orders_turn (then_more x xs) (then_more y ys) =
      then_turn (order x y) (orders xs ys) (order y x) (orders ys xs) (order_turn x y) (orders_turn xs ys)

  pub pair_orders_turn : (ps qs : PlainPairs) → pair_orders ps qs ≡ ordering_reverse (pair_orders qs ps)
  pair_orders_turn no_pairs no_pairs = refl
  pair_orders_turn no_pairs (then_pair l w qs) = refl
  pair_orders_turn (then_pair k v ps) no_pairs = refl
  pair_orders_turn (then_pair k v ps) (then_pair l w qs) =
      then_turn (order k l) (ordering_then (order v w) (pair_orders ps qs)) (order l k)
      (ordering_then (order w v) (pair_orders qs ps)) (order_turn k l)
      (then_turn (order v w) (pair_orders ps qs) (order w v) (pair_orders qs ps) (order_turn v w)
      (pair_orders_turn ps qs))

-- ---- one below the next

-- a chain of two firsts, or of the seconds where the firsts are equal
then_chain : {K : Type 0} (R : K → K → Ordering) (same : (x y : K) → R x y ≡ Equal → x ≡ y) (x y z : K)
    (s t u : Ordering)
    → (R x y ≡ Less → R y z ≡ Less → R x z ≡ Less) → (s ≡ Less → t ≡ Less → u ≡ Less)
    → ordering_then (R x y) s ≡ Less → ordering_then (R y z) t ≡ Less → ordering_then (R x z) u ≡ Less
then_chain R same x y z s t u f g p q = by (R x y) (R y z) refl refl p q
  where
    by : (a b : Ordering) → R x y ≡ a → R y z ≡ b → ordering_then a s ≡ Less → ordering_then b t ≡ Less
        → ordering_then (R x z) u ≡ Less
    by Less Less d e p q = rw (f d e)
    by Less Equal d e p q = rw (← same y z e, d)
    by Less Greater d e p q = cc
    by Equal Less d e p q = rw (ap (λ w. R w z) (same x y d) ∙ e)
    by Equal Equal d e p q = rw (ap (λ w. R w z) (same x y d) ∙ e, g p q)
    by Equal Greater d e p q = cc
    by Greater b d e p q = cc

-- values of two kinds are ordered by their kinds
other_kind : (x y : Plain) → (rank x ≡ rank y → ⊥) → order x y ≡ nat_cmp (rank x) (rank y)
other_kind (boolean a) (boolean b) n = absurd (n refl)
other_kind (double l) (double m) n = absurd (n refl)
other_kind (integer y) (integer z) n = absurd (n refl)
other_kind (string s) (string t) n = absurd (n refl)
other_kind (byte_string s) (byte_string t) n = absurd (n refl)
other_kind (symbol s) (symbol t) n = absurd (n refl)
other_kind (record_of k es) (record_of l fs) n = absurd (n refl)
other_kind (sequence xs) (sequence ys) n = absurd (n refl)
other_kind (set_of xs) (set_of ys) n = absurd (n refl)
other_kind (dictionary ps) (dictionary qs) n = absurd (n refl)
other_kind (embedded x) (embedded y) n = absurd (n refl)
other_kind x y n = refl

kind_up : (x y : Plain) → order x y ≡ Less → rank x ≤ rank y
kind_up x y p =
    elim (cases_order (rank x) (rank y)) [
      | inl same ↦ omega arith
      | inr (inl less) ↦ omega arith
      | inr (inr more) ↦
          let ne : rank x ≡ rank y → ⊥ = λ e. omega arith in
          omega (arith, ranked (rank x) (rank y) Less (sym p ∙ other_kind x y ne))
    ]

mixed : (x y z : Plain) → eqb (rank x) (rank y) ≡ false → order x y ≡ Less → order y z ≡ Less → order x z ≡ Less
mixed x y z t p q =
    let n : rank x ≡ rank y → ⊥ = eqb-false (rank x) (rank y) t in
    let a : rank x < rank y = ranked (rank x) (rank y) Less (sym p ∙ other_kind x y n) in
    let b : rank x < rank z = omega (arith, kind_up y z q) in
    let c : nat_lt (rank x) (rank z) ≡ true = lt-ltb (rank x) (rank z) b in
    other_kind x z (λ e. omega arith) ∙ rw c

mutual
  pub order_chain : (x y z : Plain) → order x y ≡ Less → order y z ≡ Less → order x z ≡ Less
  order_chain (boolean a) (boolean b) (boolean c) p q = booleans_chain a b c p q
  order_chain (double l) (double m) (double n) p q =
      nat_cmp_total.trans (double_place l) (double_place m) (double_place n) p q
  order_chain (integer x) (integer y) (integer z) p q = int_cmp_total.trans x y z p q
  order_chain (string s) (string t) (string u) p q = nat_list_cmp_total.trans s t u p q
  order_chain (byte_string s) (byte_string t) (byte_string u) p q = nat_list_cmp_total.trans s t u p q
  order_chain (symbol s) (symbol t) (symbol u) p q = nat_list_cmp_total.trans s t u p q
  order_chain (record_of j ds) (record_of k es) (record_of l fs) p q =
      then_chain order order_same j k l (orders ds es) (orders es fs) (orders ds fs) (order_chain j k l)
      (orders_chain ds es fs) p q
  order_chain (sequence xs) (sequence ys) (sequence zs) p q = orders_chain xs ys zs p q
  order_chain (set_of xs) (set_of ys) (set_of zs) p q = orders_chain xs ys zs p q
  order_chain (dictionary ps) (dictionary qs) (dictionary rs) p q = pair_orders_chain ps qs rs p q
  order_chain (embedded x) (embedded y) (embedded z) p q = order_chain x y z p q
  order_chain (boolean a) (boolean b) z p q = q
  order_chain (double l) (double m) z p q = q
  order_chain (integer x) (integer y) z p q = q
  order_chain (string s) (string t) z p q = q
  order_chain (byte_string s) (byte_string t) z p q = q
  order_chain (symbol s) (symbol t) z p q = q
  order_chain (record_of j ds) (record_of k es) z p q = q
  order_chain (sequence xs) (sequence ys) z p q = q
  order_chain (set_of xs) (set_of ys) z p q = q
  order_chain (dictionary ps) (dictionary qs) z p q = q
  order_chain (embedded x) (embedded y) z p q = q
  order_chain x y z p q = mixed x y z refl p q

  pub orders_chain : (xs ys zs : Plains) → orders xs ys ≡ Less → orders ys zs ≡ Less → orders xs zs ≡ Less
  orders_chain no_more (then_more y ys) (then_more z zs) p q = refl
  orders_chain (then_more x xs) (then_more y ys) (then_more z zs) p q =
      then_chain order order_same x y z (orders xs ys) (orders ys zs) (orders xs zs) (order_chain x y z)
      (orders_chain xs ys zs) p q
  orders_chain xs ys zs p q = cc

  pub pair_orders_chain : (ps qs rs : PlainPairs) → pair_orders ps qs ≡ Less → pair_orders qs rs ≡ Less
      → pair_orders ps rs ≡ Less
  pair_orders_chain no_pairs (then_pair k v ps) (then_pair l w qs) p q = refl
  pair_orders_chain (then_pair j u ps) (then_pair k v qs) (then_pair l w rs) p q =
      then_chain order order_same j k l (ordering_then (order u v) (pair_orders ps qs))
      (ordering_then (order v w) (pair_orders qs rs)) (ordering_then (order u w) (pair_orders ps rs))
      (order_chain j k l)
      (then_chain order order_same u v w (pair_orders ps qs) (pair_orders qs rs) (pair_orders ps rs) (order_chain u v w)
      (pair_orders_chain ps qs rs)) p q
  pair_orders_chain ps qs rs p q = cc

pub order_total : IsTotalOrder order
order_total = record {
  antisymm = order_turn;
  trans = order_chain;
  congr = λ x y z e. ap (λ w. order w z) (order_same x y e);
}
