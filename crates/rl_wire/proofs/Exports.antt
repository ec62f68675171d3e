-- The exports that were there stay, in front of those that come.
use Rattle.std.proofs.Common.{◌≡◌, ◌<◌, ◌≤◌, ◌+◌, ℕ, List, [], ◌∷◌, ◌++◌, Bool, true, false, cond, map, filter}
use Rattle.std.proofs.Common.{Option, Some, None, refl, ap, sym, subst, ◌∙◌, arith, append_assoc}
use Rattle.std.proofs.Common.{zero, suc, length, drop, get_or, drop-cons}
use Rattle.std.proofs.lemmas.List.{append-nil, map-append}
use Rattle.std.specs.Option.{option_or}
use Rattle.std.proofs.lemmas.Bool.Decides.{nat_tests}
use Rattle.std.specs.Prelude.{is_some, nat_lt, if◌then◌else◌}
use Rattle.std.specs.BTreeSet.{insert_key}
use Rattle.std.specs.List.{AllByRecursion}
use Rattle.std.specs.Map.{keys_of}
use Rattle.std.specs.Ordering.{nat_cmp}
use Rattle.std.proofs.Common.{Ordering, Less, Equal, Greater}
use Rattle.pv_value.specs.Plain.{Plain}
use Rattle.pv_value.specs.Sets.{ascending_by}
use Rattle.rl_ports.specs.Ports.{ExportTable, AreNumbered, PortsState, place_of, exported, with_export, with_exports}
use Rattle.rl_ports.specs.Ports.{number_of, AreGiven, NotesAreGiven}
use Rattle.rl_ports.specs.declared.ports.PortsFault.{PortsFault}
use Rattle.ds_space.specs.declared.references.Reference.{Reference}
use Rattle.ds_space.specs.References.{reference_of}
use Rattle.rl_wire.specs.Crossing.{all_exported, fault_out, foreign_of, is_own}
use Rattle.rl_wire.specs.Changes.{HasGrown, others_in}
use Rattle.rl_wire.specs.Lemmas.Exporting.{IsExported, number_given, number_stays, is_exported, given_number}
use Rattle.rl_wire.specs.Lemmas.Exporting.{all_exported-more, fault_out-more, are_exported}

abbrev before : ℕ → List (ℕ × Plain) → List (ℕ × Plain)
before n es = filter (λ e. nat_lt e.0 n) es

all_before : (n : ℕ) (es : List (ℕ × Plain)) → AllByRecursion (λ k. k < n) (keys_of es) → before n es ≡ es
all_before n [] given = refl
all_before n (e ∷ es) given =
    let low : nat_lt e.0 n ≡ true = grind (arith, nat_tests, given.0) in
    rw low (ap (λ t. e ∷ t) (all_before n es given.1))

last_goes : (n m : ℕ) (r : Plain) (es : List (ℕ × Plain)) → n ≤ m → before n (es ++ (m, r) ∷ []) ≡ before n es
last_goes n m r [] l =
    let high : nat_lt m n ≡ false = grind (arith, nat_tests, l) in rw high refl
last_goes n m r (e ∷ es) l = by (nat_lt e.0 n) (last_goes n m r es l)
  where
    by : (b : Bool) → before n (es ++ (m, r) ∷ []) ≡ before n es
        → cond b (e ∷ before n (es ++ (m, r) ∷ [])) (before n (es ++ (m, r) ∷ []))
        ≡ cond b (e ∷ before n es) (before n es)
    by true rest = ap (λ t. e ∷ t) rest
    by false rest = rest

-- at the beginning nothing has come
pub not_grown : (p : PortsState) → AreNumbered p.exports → HasGrown p p
not_grown p numbered = record {
  back = rw (all_before p.exports.next p.exports.in_force numbered.given) refl;
  next = omega arith;
}

-- what has come can be taken back: neither what is noted nor what is pinned has changed
pub back_to : (old new : PortsState) (next : ℕ) → HasGrown old new → next ≡ old.exports.next → NotesAreGiven old
    → AreGiven old.exports.next old.pinned
    → (next ≤ new.exports.next)
    × AllByRecursion (λ e. AreGiven next e.1) new.notes
    × AreGiven next new.pinned
    × (with_exports (record {
      in_force = filter (λ e. nat_lt e.0 next) new.exports.in_force;
      next = next;
    }) new ≡ old)
back_to old new next grown is noted pinned = (
  omega (arith, grown.next, is),
  subst (λ (n : ℕ). AllByRecursion (λ e. AreGiven n e.1) new.notes) (sym is)
      (subst (λ (ns : List (ℕ × List ℕ)). AllByRecursion (λ e. AreGiven old.exports.next e.1) ns)
      (sym (ap (λ (p : PortsState). p.notes) grown.back)) noted),
  subst (λ (n : ℕ). AreGiven n new.pinned) (sym is)
      (subst (AreGiven old.exports.next) (sym (ap (λ (p : PortsState). p.pinned) grown.back)) pinned),
  ap (λ (n : ℕ). with_exports (record {
    in_force = filter (λ e. nat_lt e.0 n) new.exports.in_force;
    next = n;
  }) new) is ∙ grown.back,
)

grown_one : (old p : PortsState) (r : Plain) (b : Bool) → HasGrown old p
    → HasGrown old (with_exports (if b then p.exports else with_export r p.exports) p)
grown_one old p r true grown = grown
grown_one old p r false grown = record {
  back = rw (last_goes old.exports.next p.exports.next r p.exports.in_force grown.next) grown.back;
  next = omega (arith, grown.next);
}

pub grown_all : (old p : PortsState) (rs : List Plain) → HasGrown old p
    → HasGrown old (with_exports (all_exported p.exports rs) p)
grown_all old p [] grown = grown
grown_all old p (r ∷ rs) grown =
    grown_all old (with_exports (exported r p.exports) p) rs
    (grown_one old p r (is_some (place_of r p.exports.in_force)) grown)

-- ---- numbers that were given

pub all_given : (exports : ExportTable) (rs : List Plain) → AreNumbered exports → AllByRecursion (IsExported exports) rs
    → AreGiven exports.next (map (λ r. number_of r exports) rs)
all_given exports [] numbered there = tt
all_given exports (r ∷ rs) numbered there = (
  number_given r exports.next exports.in_force numbered.given there.0 exports.next,
  all_given exports rs numbered there.1,
)

given_with : (next n : ℕ) (ns : List ℕ) → n < next → AreGiven next ns → AreGiven next (insert_key nat_cmp ns n)
given_with next n [] low given = (low, tt)
given_with next n (m ∷ ms) low given = by (nat_cmp n m) refl (given_with next n ms low given.1)
  where
    by : (o : Ordering) → nat_cmp n m ≡ o → AreGiven next (insert_key nat_cmp ms n)
        → AreGiven next (insert_key nat_cmp (m ∷ ms) n)
    by Less is rest = rw is (low, given)
    by Equal is rest = rw is given
    by Greater is rest = rw is (given.0, rest)

pub given_in_order : (next : ℕ) (ns : List ℕ) → AreGiven next ns → AreGiven next (ascending_by nat_cmp ns)
given_in_order next [] given = tt
given_in_order next (n ∷ ns) given =
    given_with next n (ascending_by nat_cmp ns) given.0 (given_in_order next ns given.1)

-- the numbers that are told were given
pub told_given : (old new : PortsState) (rs : List Plain) (ns : List ℕ) → AreNumbered new.exports
    → new ≡ with_exports (all_exported old.exports rs) old
    → ns ≡ ascending_by nat_cmp (map (λ r. number_of r new.exports) rs) → AreGiven new.exports.next ns
told_given old new rs ns numbered is ns_is =
    subst (AreGiven new.exports.next) (sym ns_is)
    (given_in_order new.exports.next (map (λ r. number_of r new.exports) rs)
    (all_given new.exports rs numbered
    (subst (λ (t : ExportTable). AllByRecursion (IsExported t) rs) (sym (ap (λ (p : PortsState). p.exports) is))
    (are_exported old.exports rs))))

-- ---- numbers as references are exported one after another

number_among : (r : Plain) (exports : ExportTable) (rest : List Plain)
    → number_of r exports ≡ number_of r (all_exported (exported r exports) rest)
number_among r exports rest =
    sym (number_stays r (exported r exports) rest (is_exported r exports) ∙ given_number r exports)

-- what is exported now has the number that it has in the end
pub numbers_now : (actor : ℕ) (x : Plain) (o : Option Reference) (exports : ExportTable) (rest : List Plain)
    → map (λ r. number_of r exports) (foreign_of actor x o)
    ≡ map (λ r. number_of r (all_exported exports (foreign_of actor x o ++ rest))) (foreign_of actor x o)
numbers_now actor x None exports rest = refl
numbers_now actor x (Some r) exports rest = by (is_own actor x r)
  where
    by : (b : Bool) → map (λ r. number_of r exports) (if b then [] else x ∷ [])
        ≡ map (λ r. number_of r (all_exported exports ((if b then [] else x ∷ []) ++ rest))) (if b then [] else x ∷ [])
    by true = refl
    by false = ap (λ n. n ∷ []) (number_among x exports rest)

-- What is exported so far, and then what is left, leads to what all leads to; the numbers so far are those of the end.
pub record AreNumberedSo (old : PortsState) (actor : ℕ) (all : List Plain) (now : PortsState) (so_far : List ℕ)
    (left : List Plain) : Type 0 where
  pub exports : all_exported now.exports (others_in actor left) ≡ all_exported old.exports (others_in actor all)
  pub faults : fault_out now.exports (others_in actor left) ≡ fault_out old.exports (others_in actor all)
  pub same : now ≡ with_exports now.exports old
  pub grown : HasGrown old now
  pub numbers : so_far
      ++ map (λ r. number_of r (all_exported old.exports (others_in actor all))) (others_in actor left)
      ≡ map (λ r. number_of r (all_exported old.exports (others_in actor all))) (others_in actor all)

pub none_numbered : (old : PortsState) (actor : ℕ) (all : List Plain) → AreNumbered old.exports
    → AreNumberedSo old actor all old [] all
none_numbered old actor all numbered = record {
  exports = refl;
  faults = refl;
  same = refl;
  grown = not_grown old numbered;
  numbers = refl;
}

pub one_numbered : (old : PortsState) (actor : ℕ) (all : List Plain) (now new : PortsState) (numbers more : List ℕ)
    (x : Plain) (left : List Plain) → AreNumberedSo old actor all now numbers (x ∷ left)
    → new ≡ with_exports (all_exported now.exports (foreign_of actor x (reference_of x))) now
    → fault_out now.exports (foreign_of actor x (reference_of x)) ≡ None
    → more ≡ numbers ++ map (λ r. number_of r now.exports) (foreign_of actor x (reference_of x))
    → AreNumberedSo old actor all new more left
one_numbered old actor all now new numbers more x left so is free more_is =
    let here = foreign_of actor x (reference_of x) in
    let later = others_in actor left in
    let end = all_exported old.exports (others_in actor all) in
    let new_exports : new.exports ≡ all_exported now.exports here = ap (λ (p : PortsState). p.exports) is in
    let ends : all_exported now.exports (here ++ later) ≡ end = so.exports in
    record {
      exports = ap (λ (t : ExportTable). all_exported t later) new_exports
          ∙ sym (all_exported-more now.exports here later) ∙ ends;
      faults = ap (λ (t : ExportTable). fault_out t later) new_exports
          ∙ sym (fault_out-more now.exports here later
          ∙ ap (λ (o : Option PortsFault). option_or o (fault_out (all_exported now.exports here) later)) free)
          ∙ so.faults;
      same = is ∙ ap (with_exports (all_exported now.exports here)) so.same
          ∙ ap (λ (t : ExportTable). with_exports t old) (sym new_exports);
      grown = subst (HasGrown old) (sym is) (grown_all old now here so.grown);
      numbers = ap (λ ns. ns ++ map (λ r. number_of r end) later)
          (more_is ∙ ap (λ ns. numbers ++ ns) (numbers_now actor x (reference_of x) now.exports later
          ∙ ap (λ (t : ExportTable). map (λ r. number_of r t) here) ends))
          ∙ append_assoc numbers (map (λ r. number_of r end) here) (map (λ r. number_of r end) later)
          ∙ ap (λ ns. numbers ++ ns) (sym (map-append (λ r. number_of r end) here later))
          ∙ so.numbers;
    }

pub all_numbered : (old : PortsState) (actor : ℕ) (all : List Plain) (now : PortsState) (numbers : List ℕ)
    → AreNumberedSo old actor all now numbers []
    → (numbers ≡ map (λ r. number_of r now.exports) (others_in actor all))
    × (now ≡ with_exports (all_exported old.exports (others_in actor all)) old)
    × (fault_out old.exports (others_in actor all) ≡ None)
all_numbered old actor all now numbers so = (
  sym (append-nil numbers) ∙ so.numbers
      ∙ ap (λ (t : ExportTable). map (λ r. number_of r t) (others_in actor all)) (sym so.exports),
  so.same ∙ ap (λ (t : ExportTable). with_exports t old) so.exports,
  sym so.faults,
)

-- ---- what is left of a list

one_more : (i : ℕ) → suc i ≡ i + 1
one_more i = omega arith

pub drop_first : {X : Type 0} (xs : List X) (i : ℕ) (d : X) → i < length xs
    → drop i xs ≡ get_or xs i d ∷ drop (i + 1) xs
drop_first xs i d l = drop-cons xs i d l ∙ ap (λ n. get_or xs i d ∷ drop n xs) (one_more i)

pub drop_end : {X : Type 0} (i : ℕ) (xs : List X) → length xs ≤ i → drop i xs ≡ []
drop_end zero [] l = refl
drop_end zero (x ∷ xs) l = absurd (omega (arith, l))
drop_end (suc i) [] l = refl
drop_end (suc i) (x ∷ xs) l = drop_end i xs (omega (arith, l))
