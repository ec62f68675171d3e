-- What is passed, against what is read.
use Rattle.std.proofs.Common.{◌≡◌, ℕ, zero, suc, ◌-◌, Bool, true, false, cond, List, [], ◌∷◌, length}
use Rattle.std.proofs.Common.{Option, Some, None}
use Rattle.std.proofs.Common.{Result, Ok, Err, refl, sym, subst}
use Rattle.std.specs.Prelude.{◌==◌}
use Rattle.pv_value.specs.Plain.{Plain}
use Rattle.pv_value.specs.Sets.{set_from, dictionary_from}
use Rattle.pv_read.specs.Results.{Fault, ◌>>=◌}
use Rattle.pv_binary.specs.Tags.{tag_of}
use Rattle.pv_binary.specs.Reading.{Inner, entry_at, up_to_end, items_at, pairs_at, made_at, atom_at, compound_at}
use Rattle.pv_binary.specs.Reading.{is_compound, behind, value_at}
use Rattle.pv_binary.specs.declared.tag.Tag.{Tag}
use Rattle.pv_binary.specs.declared.tag.Tag.TheVariants as tag
use Rattle.pv_binary.specs.declared.faults.BinKind.{BinKind}
use Rattle.pv_binary.specs.declared.faults.BinKind.TheVariants as kind
use Rattle.pv_stream.specs.Scans.{past, Behind, past_end, past_entry, past_compound, past_value}
use Rattle.pv_stream.specs.Laws.{IsPassedAlike, ScanIsReading}

-- of anything that is read
abbrev Alike : {A : Type 0} → Result (A × List ℕ) (Fault BinKind) → Behind → Type 0
Alike (Ok x) rest = rest ≡ Ok x.1
Alike (Err f) rest = (f.kind ≡ kind.Duplicate → ⊥) → rest ≡ Err f

alike_past : {A : Type 0} (r : Result (A × List ℕ) (Fault BinKind)) → Alike r (past r)
alike_past (Ok x) = refl
alike_past (Err f) = λ n. refl

alike_cond : {A : Type 0} (c : Bool) (a b : Result (A × List ℕ) (Fault BinKind)) (x y : Behind)
    → (c ≡ true → Alike a x) → (c ≡ false → Alike b y) → Alike (cond c a b) (cond c x y)
alike_cond true a b x y h k = h refl
alike_cond false a b x y h k = k refl

-- one behind another
alike_bind : {A B : Type 0} (a : Result (A × List ℕ) (Fault BinKind)) (x : Behind)
    (f : A × List ℕ → Result (B × List ℕ) (Fault BinKind)) (g : List ℕ → Behind) → Alike a x
    → ((p : A × List ℕ) → Alike (f p) (g p.1)) → Alike (a >>= f) (x >>= g)
alike_bind (Ok p) x f g h k = subst (λ (y : Behind). Alike (f p) (y >>= g)) (sym h) (k p)
alike_bind (Err e) x f g h k = λ n. rw (h n) refl

alike_map : {A B : Type 0} (a : Result (A × List ℕ) (Fault BinKind)) (x : Behind)
    (f : A × List ℕ → Result (B × List ℕ) (Fault BinKind)) → Alike a x
    → ((p : A × List ℕ) → Alike (f p) (Ok p.1)) → Alike (a >>= f) x
alike_map (Ok p) x f h k = subst (λ (y : Behind). Alike (f p) y) (sym h) (k p)
alike_map (Err e) x f h k = h

-- ---- up to the end

module _ {A : Type 0} (total : ℕ) (element : List ℕ → Result (A × List ℕ) (Fault BinKind)) (pass : List ℕ → Behind)
    (alike : (bytes : List ℕ) → Alike (element bytes) (pass bytes)) where
  alike_end : (k : ℕ) (bytes : List ℕ) → Alike (up_to_end total element k bytes) (past_end total pass k bytes)
  alike_end zero bytes = λ n. refl
  alike_end (suc k) [] = λ n. refl
  alike_end (suc k) (b ∷ bs) =
      alike_cond (b == 0x84) _ _ _ _ (λ e. refl)
      (λ e. alike_bind (element (b ∷ bs)) (pass (b ∷ bs)) _ (past_end total pass k) (alike (b ∷ bs))
      (λ x. alike_map (up_to_end total element k x.1) (past_end total pass k x.1) _ (alike_end k x.1) (λ xs. refl)))

-- ---- compounds

alike_made : (place : ℕ) (made : Option Plain) (rest : List ℕ)
    → Alike (made_at place made >>= λ v. Ok (v, rest)) (Ok rest)
alike_made place (Some v) rest = refl
alike_made place None rest = λ n. absurd (n refl)

module _ (total place : ℕ) (inner : Inner) (pass : List ℕ → Behind)
    (alike : (bytes : List ℕ) → Alike (inner bytes) (pass bytes)) where
  alike_items : (bytes : List ℕ) → Alike (items_at total inner bytes) (past_end total pass (length bytes) bytes)
  alike_items bytes = alike_end total inner pass alike (length bytes) bytes

  alike_entry : (bytes : List ℕ) → Alike (entry_at inner bytes) (past_entry pass bytes)
  alike_entry bytes =
      alike_bind (inner bytes) (pass bytes) _ pass (alike bytes)
      (λ k. alike_map (inner k.1) (pass k.1) _ (alike k.1) (λ v. refl))

  alike_compound : (t : Tag) (bytes : List ℕ) → is_compound t ≡ true
      → Alike (compound_at total place inner t bytes) (past_compound total pass t bytes)
  unfolding compound_at past_compound
  alike_compound tag.Embedded bytes c = alike_map (inner bytes) (pass bytes) _ (alike bytes) (λ x. refl)
  alike_compound tag.Record bytes c =
      alike_bind (inner bytes) (pass bytes) _ (λ rest. past_end total pass (length rest) rest) (alike bytes)
      (λ l. alike_map (items_at total inner l.1) (past_end total pass (length l.1) l.1) _ (alike_items l.1)
      (λ fs. refl))
  alike_compound tag.Sequence bytes c =
      alike_map (items_at total inner bytes) (past_end total pass (length bytes) bytes) _ (alike_items bytes)
      (λ xs. refl)
  alike_compound tag.Set bytes c =
      alike_map (items_at total inner bytes) (past_end total pass (length bytes) bytes) _ (alike_items bytes)
      (λ xs. alike_made place (set_from xs.0) xs.1)
  alike_compound tag.Dictionary bytes c =
      alike_map (pairs_at total inner bytes) (past_end total (past_entry pass) (length bytes) bytes) _
      (alike_end total (entry_at inner) (past_entry pass) alike_entry (length bytes) bytes)
      (λ ps. alike_made place (dictionary_from ps.0) ps.1)
  alike_compound t bytes c = absurd cc

-- ---- values

read_alike : (total d : ℕ) (bytes : List ℕ) → Alike (value_at total d bytes) (past_value total d bytes)
unfolding value_at past_value behind
read_alike total d [] = λ n. refl
read_alike total zero (b ∷ bytes) =
    alike_cond (is_compound (tag_of b)) _ _ _ _ (λ e. λ n. refl)
    (λ e. alike_past (atom_at (total - length (b ∷ bytes)) (tag_of b) bytes))
read_alike total (suc d) (b ∷ bytes) =
    alike_cond (is_compound (tag_of b)) _ _ _ _
    (λ e. alike_compound total (total - length (b ∷ bytes)) (value_at total d) (past_value total d)
    (λ more. read_alike total d more) (tag_of b) bytes e)
    (λ e. alike_past (atom_at (total - length (b ∷ bytes)) (tag_of b) bytes))

same_alike : (r : Result (Plain × List ℕ) (Fault BinKind)) (x : Behind) → Alike r x → IsPassedAlike r x
same_alike (Ok p) x h = h
same_alike (Err f) x h = h

pub passed_alike : ScanIsReading
passed_alike total deep bytes = same_alike _ _ (read_alike total deep bytes)
