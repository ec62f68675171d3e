-- Passing tells of nothing that repeats.
use Rattle.std.proofs.Common.{◌≡◌, ℕ, zero, suc, ◌-◌, Bool, true, false, cond, List, [], ◌∷◌, length, nat_lt}
use Rattle.std.proofs.Common.{Result, Ok, Err, refl, subst}
use Rattle.std.specs.Prelude.{◌==◌}
use Rattle.std.specs.Str.{is_utf8}
use Rattle.pv_read.specs.Results.{◌>>=◌, within}
use Rattle.pv_binary.specs.Tags.{tag_of}
use Rattle.pv_binary.specs.Reading.{varint_at, with_higher, split_at, counted_at, text_at, int_at, double_at}
use Rattle.pv_binary.specs.Reading.{is_minimal, atom_at, is_compound}
use Rattle.pv_binary.specs.declared.tag.Tag.{Tag}
use Rattle.pv_binary.specs.declared.tag.Tag.TheVariants as tag
use Rattle.pv_binary.specs.declared.faults.BinKind.{BinKind}
use Rattle.pv_binary.specs.declared.faults.BinKind.TheVariants as kind
use Rattle.pv_stream.specs.Scans.{past, Behind, past_end, past_entry, past_compound, past_value}
use Rattle.pv_stream.specs.Laws.{ScanTellsNoRepeat}

-- the fault, if there is one, is another
abbrev Other : {A : Type 0} → Result A BinKind → Type 0
Other (Ok x) = Unit {0}
Other (Err k) = k ≡ kind.Duplicate → ⊥

other_cond : {A : Type 0} (c : Bool) (a b : Result A BinKind) → Other a → Other b → Other (cond c a b)
other_cond true a b h k = h
other_cond false a b h k = k

other_bind : {A B : Type 0} (a : Result A BinKind) (f : A → Result B BinKind) → Other a → ((x : A) → Other (f x))
    → Other (a >>= f)
other_bind (Ok x) f h k = k x
other_bind (Err e) f h k = h

-- ---- atoms

other_higher : (b : ℕ) (r : Result (ℕ × List ℕ) BinKind) → Other r → Other (with_higher b r)
other_higher b (Ok x) h = other_cond (x.0 == 0) _ _ (λ e. cc) tt
other_higher b (Err k) h = h

other_varint : (k : ℕ) (bytes : List ℕ) → Other (varint_at k bytes)
other_varint k [] = λ e. cc
other_varint zero (b ∷ bytes) = other_cond (b == 1) _ _ tt (λ e. cc)
other_varint (suc k) (b ∷ bytes) =
    other_cond (nat_lt b 128) _ _ tt (other_higher b (varint_at k bytes) (other_varint k bytes))

other_split : (n : ℕ) (bytes : List ℕ) → Other (split_at n bytes)
other_split n bytes = other_cond (nat_lt (length bytes) n) _ _ (λ e. cc) tt

other_counted : (bytes : List ℕ) → Other (counted_at bytes)
unfolding counted_at
other_counted bytes = other_bind (varint_at 9 bytes) _ (other_varint 9 bytes) (λ n. other_split n.0 n.1)

other_text : (bytes : List ℕ) → Other (text_at bytes)
unfolding text_at
other_text bytes =
    other_bind (counted_at bytes) _ (other_counted bytes) (λ s. other_cond (is_utf8 s.0) _ _ tt (λ e. cc))

other_int : (bytes : List ℕ) → Other (int_at bytes)
unfolding int_at
other_int bytes = other_bind (varint_at 9 bytes) _ (other_varint 9 bytes) (λ n.
    other_cond (nat_lt 16 n.0) _ _ (λ e. cc)
    (other_bind (split_at n.0 n.1) _ (other_split n.0 n.1) (λ s. other_cond (is_minimal s.0) _ _ tt (λ e. cc))))

other_double : (bytes : List ℕ) → Other (double_at bytes)
unfolding double_at
other_double [] = λ e. cc
other_double (b ∷ bytes) =
    other_cond (b == 8) _ _ (other_bind (split_at 8 bytes) _ (other_split 8 bytes) (λ s. tt)) (λ e. cc)

-- ---- what is passed

abbrev Unrepeated : Behind → Type 0
Unrepeated (Ok rest) = Unit {0}
Unrepeated (Err f) = f.kind ≡ kind.Duplicate → ⊥

un_cond : (c : Bool) (a b : Behind) → (c ≡ true → Unrepeated a) → (c ≡ false → Unrepeated b) → Unrepeated (cond c a b)
un_cond true a b h k = h refl
un_cond false a b h k = k refl

un_bind : (a : Behind) (f : List ℕ → Behind) → Unrepeated a → ((x : List ℕ) → Unrepeated (f x)) → Unrepeated (a >>= f)
un_bind (Ok x) f h k = k x
un_bind (Err e) f h k = h

un_past : {A : Type 0} (place : ℕ) (r : Result (A × List ℕ) BinKind) → Other r → Unrepeated (past (within place r))
un_past place (Ok x) h = tt
un_past place (Err k) h = h

un_atom : (place : ℕ) (t : Tag) (bytes : List ℕ) → Unrepeated (past (atom_at place t bytes))
unfolding atom_at
un_atom place tag.False bytes = tt
un_atom place tag.True bytes = tt
un_atom place tag.Double bytes = un_past place _ (other_bind (double_at bytes) _ (other_double bytes) (λ s. tt))
un_atom place tag.Integer bytes = un_past place _ (other_bind (int_at bytes) _ (other_int bytes) (λ s. tt))
un_atom place tag.String bytes = un_past place _ (other_bind (text_at bytes) _ (other_text bytes) (λ s. tt))
un_atom place tag.ByteString bytes = un_past place _ (other_bind (counted_at bytes) _ (other_counted bytes) (λ s. tt))
un_atom place tag.Symbol bytes = un_past place _ (other_bind (text_at bytes) _ (other_text bytes) (λ s. tt))
un_atom place t bytes = λ e. cc

module _ (total : ℕ) (pass : List ℕ → Behind) (un : (bytes : List ℕ) → Unrepeated (pass bytes)) where
  un_end : (k : ℕ) (bytes : List ℕ) → Unrepeated (past_end total pass k bytes)
  un_end zero bytes = λ e. cc
  un_end (suc k) [] = λ e. cc
  un_end (suc k) (b ∷ bs) =
      un_cond (b == 0x84) _ _ (λ e. tt)
      (λ e. un_bind (pass (b ∷ bs)) (past_end total pass k) (un (b ∷ bs)) (λ x. un_end k x))

  un_entry : (bytes : List ℕ) → Unrepeated (past_entry pass bytes)
  un_entry bytes = un_bind (pass bytes) pass (un bytes) un

un_compound : (total : ℕ) (pass : List ℕ → Behind) (un : (bytes : List ℕ) → Unrepeated (pass bytes)) (t : Tag)
    (bytes : List ℕ)
    → is_compound t ≡ true → Unrepeated (past_compound total pass t bytes)
unfolding past_compound
un_compound total pass un tag.Embedded bytes c = un bytes
un_compound total pass un tag.Record bytes c =
    un_bind (pass bytes) _ (un bytes) (λ rest. un_end total pass un (length rest) rest)
un_compound total pass un tag.Sequence bytes c = un_end total pass un (length bytes) bytes
un_compound total pass un tag.Set bytes c = un_end total pass un (length bytes) bytes
un_compound total pass un tag.Dictionary bytes c =
    un_end total (past_entry pass) (un_entry total pass un) (length bytes) bytes
un_compound total pass un t bytes c = absurd cc

un_value : (total d : ℕ) (bytes : List ℕ) → Unrepeated (past_value total d bytes)
unfolding past_value
un_value total d [] = λ e. cc
un_value total zero (b ∷ bytes) =
    un_cond (is_compound (tag_of b)) _ _ (λ e. λ k. cc)
    (λ e. un_atom (total - length (b ∷ bytes)) (tag_of b) bytes)
un_value total (suc d) (b ∷ bytes) =
    un_cond (is_compound (tag_of b)) _ _
    (λ e. un_compound total (past_value total d) (λ more. un_value total d more) (tag_of b) bytes e)
    (λ e. un_atom (total - length (b ∷ bytes)) (tag_of b) bytes)

pub no_repeat : ScanTellsNoRepeat
no_repeat total deep bytes f is = subst Unrepeated is (un_value total deep bytes)
