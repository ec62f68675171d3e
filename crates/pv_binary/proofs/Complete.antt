-- What is spelled is read, whatever follows.
use Rattle.std.proofs.Common.{ℤ, ◌≡◌, ℕ, zero, suc, ◌-◌, ◌≤◌, true, false, List, [], ◌∷◌, ◌++◌, length, Some, Result}
use Rattle.std.proofs.Common.{Ok, refl, sym, ap, ◌∙◌, subst, append_assoc, length-append, arith}
use Rattle.std.specs.Int.{w64, to_be_bytes}
use Rattle.std.specs.List.{concat, AllZip}
use Rattle.std.specs.List.Sorted.{IsPermutation}
use Rattle.std.proofs.lemmas.List.Sorted.{IsPermutation-sym}
use Rattle.pv_value.specs.Plain.{Plain, boolean, double, integer, string, byte_string, symbol, record_of, sequence}
use Rattle.pv_value.specs.Plain.{set_of, dictionary, embedded, Plains, no_more, then_more, PlainPairs, no_pairs}
use Rattle.pv_value.specs.Plain.{then_pair, plains, listed, pairs, paired}
use Rattle.pv_value.specs.Lemmas.Listed.{plains-listed, pairs-paired}
use Rattle.pv_value.specs.Depth.{depth, deepest, deepest_pair}
use Rattle.pv_value.specs.WellFormed.{Ascend, KeysAscend}
use Rattle.pv_binary.specs.Numbers.{counted, int_bytes}
use Rattle.pv_binary.specs.Spells.{Spells, Pieces, PairPieces}
use Rattle.pv_binary.specs.Tags.{tag_of}
use Rattle.pv_binary.specs.declared.tag.Tag.TheVariants as tag
use Rattle.pv_read.specs.Results.{Fault}
use Rattle.pv_value.specs.Sets.{set_from, dictionary_from}
use Rattle.pv_binary.specs.Reading.{counted_at, text_at, int_at, double_at, no_tag, Inner, entry_at, up_to_end}
use Rattle.pv_binary.specs.Reading.{items_at, pairs_at, atom_at, compound_at, is_compound, behind, value_at}
use Rattle.pv_binary.proofs.Varints.{counted_again}
use Rattle.pv_binary.proofs.Texts.{text_again}
use Rattle.pv_binary.proofs.Ints.{int_again}
use Rattle.pv_binary.proofs.Doubles.{double_again}
use Rattle.pv_value.specs.Lemmas.SetFrom.{set_from_ok}
use Rattle.pv_value.specs.Lemmas.DictionaryFrom.{dictionary_from_ok}
use Rattle.pv_binary.proofs.Zips.{left_permutes}
use Rattle.pv_binary.specs.declared.faults.BinKind.{BinKind}
use Rattle.pv_read.specs.Lemmas.Elements.{elements_first}
use Rattle.pv_read.specs.Lemmas.Fronts.{behind_front}

-- p does not look like the end, and an element is read from it, whatever follows
pub record Parses {A : Type 0} (element : List ℕ → Result (A × List ℕ) (Fault BinKind)) (p : List ℕ)
    (x : A) : Type 0 where
  pub tag : ℕ
  pub others : List ℕ
  pub is : p ≡ tag ∷ others
  pub no_end : tag ≡ 0x84 → ⊥
  pub reads : (rest : List ℕ) → element (p ++ rest) ≡ Ok (x, rest)

-- an entry is read from its key's bytes and then its value's
pub entry_parses : (inner : Inner) (p c d : List ℕ) (k v : Plain) → p ≡ c ++ d → Parses inner c k → Parses inner d v
    → Parses (entry_at inner) p (k, v)
entry_parses inner p c d k v e f g = record {
  tag = f.tag;
  others = f.others ++ d;
  is = e ∙ ap (λ (x : List ℕ). x ++ d) f.is;
  no_end = f.no_end;
  reads = λ rest.
      let is : p ++ rest ≡ c ++ (d ++ rest) = ap (λ (x : List ℕ). x ++ rest) e ∙ append_assoc c d rest in
      rw (is, f.reads (d ++ rest), g.reads rest);
}

module _ {A : Type 0} (total : ℕ) (element : List ℕ → Result (A × List ℕ) (Fault BinKind)) where
  -- one step over the elements of a compound
  pub elements_next : (n : ℕ) (p : List ℕ) (x : A) (more : List ℕ) → Parses element p x
      → up_to_end total element (suc n) (p ++ more) ≡ behind_front (x ∷ []) (up_to_end total element n more)
  elements_next n p x more h =
      let front : p ++ more ≡ h.tag ∷ (h.others ++ more) = ap (λ q. q ++ more) h.is in
      let here : element (h.tag ∷ (h.others ++ more)) ≡ Ok (x, more) =
      subst (λ b. element b ≡ Ok (x, more)) front (h.reads more) in
      elements_first (λ b. b) 0x84 (no_tag total) element n (p ++ more)
      (h.others ++ more) h.tag x more front h.no_end here

  pub elements_again : (ps : List (List ℕ)) (xs : List A) (rest : List ℕ) (n : ℕ) → AllZip (Parses element) ps xs
      → length (concat ps ++ 0x84 ∷ rest) ≤ n → up_to_end total element n (concat ps ++ 0x84 ∷ rest) ≡ Ok (xs, rest)
  elements_again ps xs rest zero h l = absurd (omega (arith, length-append (concat ps) (0x84 ∷ rest)))
  elements_again [] [] rest (suc n) h l = refl
  elements_again [] (x ∷ xs) rest (suc n) h l = absurd h
  elements_again (p ∷ ps) [] rest (suc n) h l = absurd h
  elements_again (p ∷ ps) (x ∷ xs) rest (suc n) h l =
      let after : List ℕ = concat ps ++ 0x84 ∷ rest in
      let e : (p ++ concat ps) ++ 0x84 ∷ rest ≡ p ++ after = append_assoc p (concat ps) (0x84 ∷ rest) in
      let k : length after ≤ n = omega (arith, ap length e, ap length (h.0).is, length-append p after) in
      rw (e, elements_next n p x after h.0, elements_again ps xs rest n h.1 k)

  pub elements_all : (ps : List (List ℕ)) (xs : List A) (rest : List ℕ) → AllZip (Parses element) ps xs
      → up_to_end total element (length ((concat ps ++ 0x84 ∷ []) ++ rest)) ((concat ps ++ 0x84 ∷ []) ++ rest)
      ≡ Ok (xs, rest)
  elements_all ps xs rest h =
      let e : (concat ps ++ 0x84 ∷ []) ++ rest ≡ concat ps ++ 0x84 ∷ rest = append_assoc (concat ps) (0x84 ∷ []) rest in
      rw e (elements_again ps xs rest (length (concat ps ++ 0x84 ∷ rest)) h (omega arith))

-- ---- an atom is read at any depth

atom_again : (total d b : ℕ) (bs : List ℕ) (x : Result (Plain × List ℕ) (Fault BinKind)) → is_compound (tag_of b)
    ≡ false → ((place : ℕ) → atom_at place (tag_of b) bs ≡ x) → value_at total d (b ∷ bs) ≡ x
unfolding value_at behind
atom_again total zero b bs x e h = rw e (h (total - length (b ∷ bs)))
atom_again total (suc d) b bs x e h = rw e (h (total - length (b ∷ bs)))

false_read : (place : ℕ) (rest : List ℕ) → atom_at place tag.False rest ≡ Ok (boolean false, rest)
unfolding atom_at
false_read place rest = refl

true_read : (place : ℕ) (rest : List ℕ) → atom_at place tag.True rest ≡ Ok (boolean true, rest)
unfolding atom_at
true_read place rest = refl

double_read : (n place : ℕ) (bs rest : List ℕ) → double_at bs ≡ Ok (n, rest) → atom_at place tag.Double bs
    ≡ Ok (double n, rest)
unfolding atom_at
double_read n place bs rest e = rw e

integer_read : (z : ℤ) (place : ℕ) (bs rest : List ℕ) → int_at bs ≡ Ok (z, rest) → atom_at place tag.Integer bs
    ≡ Ok (integer z, rest)
unfolding atom_at
integer_read z place bs rest e = rw e

string_read : (s : List ℕ) (place : ℕ) (bs rest : List ℕ) → text_at bs ≡ Ok (s, rest) → atom_at place tag.String bs
    ≡ Ok (string s, rest)
unfolding atom_at
string_read s place bs rest e = rw e

byte_string_read : (s : List ℕ) (place : ℕ) (bs rest : List ℕ) → counted_at bs ≡ Ok (s, rest)
    → atom_at place tag.ByteString bs ≡ Ok (byte_string s, rest)
unfolding atom_at
byte_string_read s place bs rest e = rw e

symbol_read : (s : List ℕ) (place : ℕ) (bs rest : List ℕ) → text_at bs ≡ Ok (s, rest) → atom_at place tag.Symbol bs
    ≡ Ok (symbol s, rest)
unfolding atom_at
symbol_read s place bs rest e = rw e

-- ---- a compound is read one level deeper than what it holds

module _ (total d : ℕ) where
  embedded_read : (bs : List ℕ) (x : Plain) (rest : List ℕ) → value_at total d bs ≡ Ok (x, rest)
      → value_at total (suc d) (0x86 ∷ bs) ≡ Ok (embedded x, rest)
  unfolding value_at behind compound_at
  embedded_read bs x rest e = rw e

  record_read : (bs : List ℕ) (l : Plain) (more : List ℕ) (xs : List Plain) (rest : List ℕ) → value_at total d bs
      ≡ Ok (l, more) → items_at total (value_at total d) more ≡ Ok (xs, rest) → value_at total (suc d) (0xb4 ∷ bs)
      ≡ Ok (record_of l (plains xs), rest)
  unfolding value_at behind compound_at
  record_read bs l more xs rest e f = rw (e, f)

  sequence_read : (bs : List ℕ) (xs : List Plain) (rest : List ℕ) → items_at total (value_at total d) bs ≡ Ok (xs, rest)
      → value_at total (suc d) (0xb5 ∷ bs) ≡ Ok (sequence (plains xs), rest)
  unfolding value_at behind compound_at
  sequence_read bs xs rest e = rw e

  set_read : (bs : List ℕ) (xs : List Plain) (v : Plain) (rest : List ℕ) → items_at total (value_at total d) bs
      ≡ Ok (xs, rest) → set_from xs ≡ Some v → value_at total (suc d) (0xb6 ∷ bs) ≡ Ok (v, rest)
  unfolding value_at behind compound_at
  set_read bs xs v rest e s = rw (e, s)

  dictionary_read : (bs : List ℕ) (ps : List (Plain × Plain)) (v : Plain) (rest : List ℕ)
      → pairs_at total (value_at total d) bs ≡ Ok (ps, rest) → dictionary_from ps ≡ Some v
      → value_at total (suc d) (0xb7 ∷ bs) ≡ Ok (v, rest)
  unfolding value_at behind compound_at
  dictionary_read bs ps v rest e s = rw (e, s)

-- ---- from pieces to values

as_bytes : (inner : Inner) (tag : ℕ) (others p : List ℕ) (v : Plain) → p ≡ tag ∷ others → (tag ≡ 0x84 → ⊥)
    → ((rest : List ℕ) → inner (tag ∷ (others ++ rest)) ≡ Ok (v, rest)) → Parses inner p v
as_bytes inner tag others p v e no_end reads = record {
  tag = tag;
  others = others;
  is = e;
  no_end = no_end;
  reads = λ rest. subst (λ b. inner (b ++ rest) ≡ Ok (v, rest)) (sym e) (reads rest);
}

-- the bytes behind a tag, and what follows them
module _ (total d : ℕ) where
  record_again : (x : Plain) (fs : Plains) (c : List ℕ) (ps : List (List ℕ)) (p : List ℕ)
      → Parses (value_at total d) c x → AllZip (Parses (value_at total d)) ps (listed fs) → p
      ≡ 0xb4 ∷ (c ++ (concat ps ++ 0x84 ∷ [])) → Parses (value_at total (suc d)) p (record_of x fs)
  record_again x fs c ps p h g e =
      let body : List ℕ = concat ps ++ 0x84 ∷ [] in
      let label : (rest : List ℕ) → value_at total d ((c ++ body) ++ rest) ≡ Ok (x, body ++ rest) =
      λ rest. rw (append_assoc c body rest) (h.reads (body ++ rest)) in
      as_bytes (value_at total (suc d)) 0xb4 (c ++ body) p (record_of x fs) e (λ t. omega arith)
      (λ rest. record_read total d ((c ++ body) ++ rest) x (body ++ rest) (listed fs) rest (label rest)
      (elements_all total (value_at total d) ps (listed fs) rest g)
      ∙ ap (λ (ys : Plains). Ok (record_of x ys, rest)) (plains-listed fs))

  sequence_again : (xs : Plains) (ps : List (List ℕ)) (p : List ℕ) → AllZip (Parses (value_at total d)) ps (listed xs)
      → p ≡ 0xb5 ∷ (concat ps ++ 0x84 ∷ []) → Parses (value_at total (suc d)) p (sequence xs)
  sequence_again xs ps p g e =
      let body : List ℕ = concat ps ++ 0x84 ∷ [] in
      as_bytes (value_at total (suc d)) 0xb5 body p (sequence xs) e (λ t. omega arith)
      (λ rest. sequence_read total d (body ++ rest) (listed xs) rest
      (elements_all total (value_at total d) ps (listed xs) rest g)
      ∙ ap (λ (ys : Plains). Ok (sequence ys, rest)) (plains-listed xs))

  set_again : (xs : Plains) (ps qs : List (List ℕ)) (p : List ℕ) → AllZip (Parses (value_at total d)) ps (listed xs)
      → IsPermutation ps qs → Ascend (listed xs) → p ≡ 0xb6 ∷ (concat qs ++ 0x84 ∷ [])
      → Parses (value_at total (suc d)) p (set_of xs)
  set_again xs ps qs p g moved up e =
      let z = left_permutes (Parses (value_at total d)) ps (listed xs) g qs moved in
      let made : set_from z.0 ≡ Some (set_of (plains (listed xs))) =
      set_from_ok z.0 (listed xs) (IsPermutation-sym (listed xs) z.0 z.2) up in
      let body : List ℕ = concat qs ++ 0x84 ∷ [] in
      as_bytes (value_at total (suc d)) 0xb6 body p (set_of xs) e (λ t. omega arith)
      (λ rest. set_read total d (body ++ rest) z.0 (set_of (plains (listed xs))) rest
      (elements_all total (value_at total d) qs z.0 rest z.1) made
      ∙ ap (λ (ys : Plains). Ok (set_of ys, rest)) (plains-listed xs))

  dictionary_again : (es : PlainPairs) (ps qs : List (List ℕ)) (p : List ℕ)
      → AllZip (Parses (entry_at (value_at total d))) ps (paired es) → IsPermutation ps qs → KeysAscend (paired es) → p
      ≡ 0xb7 ∷ (concat qs ++ 0x84 ∷ []) → Parses (value_at total (suc d)) p (dictionary es)
  dictionary_again es ps qs p g moved up e =
      let z = left_permutes (Parses (entry_at (value_at total d))) ps (paired es) g qs moved in
      let made : dictionary_from z.0 ≡ Some (dictionary (pairs (paired es))) =
      dictionary_from_ok z.0 (paired es) (IsPermutation-sym (paired es) z.0 z.2) up in
      let body : List ℕ = concat qs ++ 0x84 ∷ [] in
      as_bytes (value_at total (suc d)) 0xb7 body p (dictionary es) e (λ t. omega arith)
      (λ rest. dictionary_read total d (body ++ rest) z.0 (dictionary (pairs (paired es))) rest
      (elements_all total (entry_at (value_at total d)) qs z.0 rest z.1) made
      ∙ ap (λ (qs : PlainPairs). Ok (dictionary qs, rest)) (pairs-paired es))

mutual
  pub again : (v : Plain) (total d : ℕ) (p : List ℕ) → Spells p v → depth v ≤ d → Parses (value_at total d) p v
  again (boolean false) total d p s l =
      as_bytes (value_at total d) 0x80 [] p (boolean false) s (λ e. omega arith)
      (λ rest. atom_again total d 0x80 rest _ refl (λ k. false_read k rest))
  again (boolean true) total d p s l =
      as_bytes (value_at total d) 0x81 [] p (boolean true) s (λ e. omega arith)
      (λ rest. atom_again total d 0x81 rest _ refl (λ k. true_read k rest))
  again (double n) total d p s l =
      let body : List ℕ = 8 ∷ to_be_bytes w64 n in
      as_bytes (value_at total d) 0x87 body p (double n) s.1 (λ e. omega arith)
      (λ rest. atom_again total d 0x87 (body ++ rest) _ refl
      (λ k. double_read n k (body ++ rest) rest (double_again n rest s.0)))
  again (integer z) total d p s l =
      let body : List ℕ = counted (int_bytes z) in
      as_bytes (value_at total d) 0xb0 body p (integer z) s.1 (λ e. omega arith)
      (λ rest. atom_again total d 0xb0 (body ++ rest) _ refl
      (λ k. integer_read z k (body ++ rest) rest (int_again z rest s.0)))
  again (string t) total d p s l =
      let body : List ℕ = counted t in
      as_bytes (value_at total d) 0xb1 body p (string t) s.2 (λ e. omega arith)
      (λ rest. atom_again total d 0xb1 (body ++ rest) _ refl
      (λ k. string_read t k (body ++ rest) rest (text_again t rest s.0 s.1)))
  again (byte_string t) total d p s l =
      let body : List ℕ = counted t in
      as_bytes (value_at total d) 0xb2 body p (byte_string t) s.1 (λ e. omega arith)
      (λ rest. atom_again total d 0xb2 (body ++ rest) _ refl
      (λ k. byte_string_read t k (body ++ rest) rest (counted_again t rest s.0)))
  again (symbol t) total d p s l =
      let body : List ℕ = counted t in
      as_bytes (value_at total d) 0xb3 body p (symbol t) s.2 (λ e. omega arith)
      (λ rest. atom_again total d 0xb3 (body ++ rest) _ refl
      (λ k. symbol_read t k (body ++ rest) rest (text_again t rest s.0 s.1)))
  again (record_of x fs) total zero p s l = absurd (omega arith)
  again (record_of x fs) total (suc d) p s l =
      record_again total d x fs s.0 s.1 p (again x total d s.0 s.2 (omega arith))
      (agains fs total d s.1 s.3 (omega arith)) s.4
  again (sequence xs) total zero p s l = absurd (omega arith)
  again (sequence xs) total (suc d) p s l =
      sequence_again total d xs s.0 p (agains xs total d s.0 s.1 (omega arith)) s.2
  again (set_of xs) total zero p s l = absurd (omega arith)
  again (set_of xs) total (suc d) p s l =
      set_again total d xs s.0 s.1 p (agains xs total d s.0 s.2 (omega arith)) s.3 s.4 s.5
  again (dictionary es) total zero p s l = absurd (omega arith)
  again (dictionary es) total (suc d) p s l =
      dictionary_again total d es s.0 s.1 p (pairs_agains es total d s.0 s.2 (omega arith)) s.3 s.4 s.5
  again (embedded x) total zero p s l = absurd (omega arith)
  again (embedded x) total (suc d) p s l =
      let h = again x total d s.0 s.1 (omega arith) in
      as_bytes (value_at total (suc d)) 0x86 s.0 p (embedded x) s.2 (λ e. omega arith)
      (λ rest. embedded_read total d (s.0 ++ rest) x rest (h.reads rest))

  pub agains : (xs : Plains) (total d : ℕ) (ps : List (List ℕ)) → Pieces ps xs → deepest xs ≤ d
      → AllZip (Parses (value_at total d)) ps (listed xs)
  agains no_more total d [] s l = tt
  agains no_more total d (p ∷ ps) s l = absurd s
  agains (then_more x xs) total d [] s l = absurd s
  agains (then_more x xs) total d (p ∷ ps) s l =
      (again x total d p s.0 (omega arith), agains xs total d ps s.1 (omega arith))

  pairs_agains : (es : PlainPairs) (total d : ℕ) (ps : List (List ℕ)) → PairPieces ps es → deepest_pair es ≤ d
      → AllZip (Parses (entry_at (value_at total d))) ps (paired es)
  pairs_agains no_pairs total d [] s l = tt
  pairs_agains no_pairs total d (p ∷ ps) s l = absurd s
  pairs_agains (then_pair k v es) total d [] s l = absurd s
  pairs_agains (then_pair k v es) total d (p ∷ ps) s l =
      let q = s.0 in (
        entry_parses (value_at total d) p q.0 q.1 k v q.4 (again k total d q.0 q.2 (omega arith))
            (again v total d q.1 q.3 (omega arith)),
        pairs_agains es total d ps s.1 (omega arith),
      )
