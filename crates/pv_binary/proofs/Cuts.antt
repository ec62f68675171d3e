-- Atoms that are cut off or faulty: what reading one says of it, and the other way round.
use Rattle.std.proofs.Common.{◌≡◌, ℕ, nat_lt, eqb, ◌<◌, ◌≤◌, Bool, true, false, cond, List, [], ◌∷◌, ◌++◌, length, take}
use Rattle.std.proofs.Common.{drop, Result, Ok, Err, refl, sym, ap, ◌∙◌, subst, append_assoc, inl, inr, ◌⊎◌}
use Rattle.std.specs.Str.{is_utf8}
use Rattle.std.specs.Int.{w64, from_be_bytes}
use Rattle.std.proofs.lemmas.Bool.{lt-ltb, le-ltb, ltb-true, ltb-false, eqb-true, eqb-false, ne_eqb}
use Rattle.std.proofs.lemmas.Str.{is_utf8-from_IsUtf8}
use Rattle.pv_value.specs.Plain.{Plain, double, integer, string, byte_string, symbol}
use Rattle.pv_binary.specs.Numbers.{varint}
use Rattle.pv_read.specs.Results.{◌>>=◌, Fault}
use Rattle.pv_binary.specs.Reading.{varint_at, split_at, counted_at, text_at, is_minimal, int_behind, int_at, double_at}
use Rattle.pv_binary.specs.Reading.{atom_at, is_compound}
use Rattle.pv_binary.specs.Fronts.{IsCounted, IsCutCounted, IsCut, IsNoCount, IsBadText, IsLongInteger, IsWideInteger}
use Rattle.pv_binary.specs.Fronts.{AtomFault}
use Rattle.pv_binary.specs.declared.tag.Tag.{Tag}
use Rattle.pv_binary.specs.declared.tag.Tag.TheVariants as tag
use Rattle.pv_binary.specs.declared.faults.BinKind.{BinKind}
use Rattle.pv_binary.specs.declared.faults.BinKind.TheVariants as kind
use Rattle.pv_read.specs.Lemmas.Binds.{bind_err, within_err, err_same, chosen}
use Rattle.pv_binary.proofs.Varints.{IsBytes, counted_all, split_sound, split_again}
use Rattle.pv_binary.proofs.Texts.{text_bad}
use Rattle.pv_binary.proofs.Counts.{count_cut, count_none, counted_from_read, count_fault, count_read, front_read}
use Rattle.pv_binary.proofs.Counts.{none_read}

-- ---- what the reader says

split_fails : (n : ℕ) (s : List ℕ) (k : BinKind) → split_at n s ≡ Err k → (k ≡ kind.Truncated) × (length s < n)
split_fails n s k e = by (nat_lt (length s) n) refl e
  where
    by : (b : Bool) → nat_lt (length s) n ≡ b
        → cond {A = Result (List ℕ × List ℕ) BinKind} b (Err kind.Truncated) (Ok (take n s, drop n s)) ≡ Err k
        → (k ≡ kind.Truncated) × (length s < n)
    by true d w = (cc, ltb-true (length s) n d)
    by false d w = cc

-- a count that doesn't read
count_fails : (bytes : List ℕ) (k : BinKind) → IsBytes bytes → varint_at 9 bytes ≡ Err k
    → ((k ≡ kind.Truncated) × (varint_at 9 bytes ≡ Err kind.Truncated)) ⊎ ((k ≡ kind.LongVarint) × IsNoCount bytes)
count_fails bytes k all e =
    elim (count_fault 9 bytes k e) [
      | inl t ↦ inl (t, e ∙ ap (λ (x : BinKind). Err x) t)
      | inr t ↦ inr (t, count_none bytes all (e ∙ ap (λ (x : BinKind). Err x) t))
    ]

counted_fails : (bytes : List ℕ) (k : BinKind) → IsBytes bytes → counted_at bytes ≡ Err k
    → ((k ≡ kind.Truncated) × IsCutCounted bytes) ⊎ ((k ≡ kind.LongVarint) × IsNoCount bytes)
unfolding counted_at
counted_fails bytes k all e =
    elim (bind_err (varint_at 9 bytes) _ k e) [
      | inl h ↦
          elim (count_fails bytes k all h) [
            | inl t ↦ inl (t.0, inl (count_cut bytes all t.1))
            | inr t ↦ inr t
          ]
      | inr h ↦
          let t = split_fails h.0.0 h.0.1 k h.2 in
          inl (t.0, inr (h.0.0, h.0.1, counted_from_read bytes h.0.0 h.0.1 all h.1, t.1))
    ]

-- the text that isn't UTF-8
bad_text : (bytes s r : List ℕ) → IsBytes bytes → counted_at bytes ≡ Ok (s, r) → is_utf8 s ≡ false → IsBadText bytes
bad_text bytes s r all e u =
    let h = counted_all bytes s r all e in
    let is = h.0 ∙ append_assoc (varint (length s)) s r in
    (length s, s, r, (h.3, is), refl, λ good. let w = is_utf8-from_IsUtf8 s good in cc)

abbrev TextFails : List ℕ → BinKind → Type 0
TextFails bytes k = ((k ≡ kind.Truncated) × IsCutCounted bytes)
    ⊎ (((k ≡ kind.LongVarint) × IsNoCount bytes) ⊎ ((k ≡ kind.BadUtf8) × IsBadText bytes))

text_fails : (bytes : List ℕ) (k : BinKind) → IsBytes bytes → text_at bytes ≡ Err k → TextFails bytes k
unfolding text_at
text_fails bytes k all e =
    elim (bind_err (counted_at bytes) _ k e) [
      | inl h ↦
          elim (counted_fails bytes k all h) [
            | inl t ↦ inl t
            | inr t ↦ inr (inl t)
          ]
      | inr h ↦
          elim (chosen (is_utf8 h.0.0) _ _ _ h.2) [
            | inl t ↦ absurd (let w = t.1 in cc)
            | inr t ↦ inr (inr (
              sym (err_same {A = List ℕ × List ℕ} kind.BadUtf8 k t.1),
              bad_text bytes h.0.0 h.0.1 all h.1 t.0,
            ))
          ]
    ]

abbrev IntFails : List ℕ → BinKind → Type 0
IntFails bytes k = ((k ≡ kind.Truncated) × IsCut tag.Integer bytes) ⊎ AtomFault tag.Integer bytes k

behind_count_fails : (bytes : List ℕ) (n : ℕ) (s : List ℕ) (k : BinKind) → IsCounted bytes n s → int_behind n s ≡ Err k
    → IntFails bytes k
behind_count_fails bytes n s k c e =
    elim (chosen (nat_lt 16 n) _ _ _ e) [
      | inl h ↦
          let same : kind.TooWide ≡ k = err_same _ _ h.1 in
          inr (subst (λ (x : BinKind). AtomFault tag.Integer bytes x) same (n, s, c, ltb-true 16 n h.0))
      | inr h ↦
          let small : n ≤ 16 = ltb-false 16 n h.0 in
          elim (bind_err (split_at n s) _ k h.1) [
            | inl t ↦ let w = split_fails n s k t in inl (w.0, inr (n, s, c, w.1, small))
            | inr t ↦
                elim (chosen (is_minimal t.0.0) _ _ _ t.2) [
                  | inl u ↦ absurd (let w = u.1 in cc)
                  | inr u ↦
                      let same : kind.LongInteger ≡ k = err_same _ _ u.1 in
                      let w = split_sound n s t.0.0 t.0.1 t.1 in
                      inr (subst (λ (x : BinKind). AtomFault tag.Integer bytes x) same
                      (n, t.0.0, t.0.1, (c.0, c.1 ∙ ap (λ (x : List ℕ). varint n ++ x) w.1), w.0, small, u.0))
                ]
          ]
    ]

int_fails : (bytes : List ℕ) (k : BinKind) → IsBytes bytes → int_at bytes ≡ Err k → IntFails bytes k
unfolding int_at
int_fails bytes k all e =
    elim (bind_err (varint_at 9 bytes) _ k e) [
      | inl h ↦
          elim (count_fails bytes k all h) [
            | inl t ↦ inl (t.0, inl (count_cut bytes all t.1))
            | inr t ↦ inr (subst (λ (x : BinKind). AtomFault tag.Integer bytes x) (sym t.0) t.1)
          ]
      | inr h ↦ behind_count_fails bytes h.0.0 h.0.1 k (counted_from_read bytes h.0.0 h.0.1 all h.1) h.2
    ]

abbrev DoubleFails : List ℕ → BinKind → Type 0
DoubleFails bytes k = ((k ≡ kind.Truncated) × IsCut tag.Double bytes) ⊎ AtomFault tag.Double bytes k

double_cases : (b : ℕ) (s : List ℕ) (k : BinKind) (t : Bool) → eqb b 8 ≡ t
    → (b ≡ 8 → split_at 8 s ≡ Err k → DoubleFails (b ∷ s) k)
    → cond {A = Result (ℕ × List ℕ) BinKind} t (split_at 8 s >>= λ s. Ok (from_be_bytes w64 s.0, s.1)) (Err kind.BadTag)
    ≡ Err k → DoubleFails (b ∷ s) k
double_cases b s k false d g e =
    let same : kind.BadTag ≡ k = err_same _ _ e in
    inr (subst (λ (x : BinKind). AtomFault tag.Double (b ∷ s) x) same (b, s, refl, eqb-false b 8 d))
double_cases b s k true d g e =
    elim (bind_err (split_at 8 s) _ k e) [
      | inl h ↦ g (eqb-true b 8 d) h
      | inr h ↦ absurd (let w = h.2 in cc)
    ]

double_fails : (bytes : List ℕ) (k : BinKind) → double_at bytes ≡ Err k → DoubleFails bytes k
unfolding double_at
double_fails [] k e = inl (sym (err_same {A = ℕ × List ℕ} kind.Truncated k e), inl refl)
double_fails (b ∷ s) k e =
    double_cases b s k (eqb b 8) refl
    (λ is w. let t = split_fails 8 s k w in inl (t.0, inr (s, ap (λ (x : ℕ). x ∷ s) is, t.1))) e

-- what is wrong with what stands behind the tag of an atom
pub data AtomWrong : Tag → List ℕ → BinKind → Type 0 where
  cut : (t : Tag) (bytes : List ℕ) → IsCut t bytes → AtomWrong t bytes kind.Truncated
  faulty : (t : Tag) (bytes : List ℕ) (k : BinKind) → AtomFault t bytes k → AtomWrong t bytes k
  no_tag : (bytes : List ℕ) → AtomWrong tag.Other bytes kind.BadTag

was_cut : (t : Tag) (bytes : List ℕ) (k : BinKind) → ((k ≡ kind.Truncated) × IsCut t bytes) ⊎ AtomFault t bytes k
    → AtomWrong t bytes k
was_cut t bytes k h =
    elim h [
      | inl c ↦ subst (λ (x : BinKind). AtomWrong t bytes x) (sym c.0) (cut t bytes c.1)
      | inr f ↦ faulty t bytes k f
    ]

module _ (bytes : List ℕ) (k : BinKind) where
  text_wrong : (t : Tag) → (IsCutCounted bytes → IsCut t bytes) → (IsNoCount bytes → AtomFault t bytes kind.LongVarint)
      → (IsBadText bytes → AtomFault t bytes kind.BadUtf8) → TextFails bytes k → AtomWrong t bytes k
  text_wrong t f g u h =
      elim h [
        | inl c ↦ subst (λ (x : BinKind). AtomWrong t bytes x) (sym c.0) (cut t bytes (f c.1))
        | inr (inl c) ↦ subst (λ (x : BinKind). AtomWrong t bytes x) (sym c.0) (faulty t bytes kind.LongVarint (g c.1))
        | inr (inr c) ↦ subst (λ (x : BinKind). AtomWrong t bytes x) (sym c.0) (faulty t bytes kind.BadUtf8 (u c.1))
      ]

-- the fault of an atom lies at its tag
pub atom_fails : (place : ℕ) (t : Tag) (bytes : List ℕ) (f : Fault BinKind) → is_compound t ≡ false → IsBytes bytes
    → atom_at place t bytes ≡ Err f → (f.place ≡ place) × AtomWrong t bytes f.kind
unfolding atom_at
atom_fails place tag.False bytes f c all e = cc
atom_fails place tag.True bytes f c all e = cc
atom_fails place tag.Double bytes f c all e =
    let w = within_err place (double_at bytes >>= λ s. Ok (double s.0, s.1)) f e in (
      w.1,
      elim (bind_err (double_at bytes) _ f.kind w.0) [
        | inl h ↦ was_cut tag.Double bytes f.kind (double_fails bytes f.kind h)
        | inr h ↦ absurd (let z = h.2 in cc)
      ],
    )
atom_fails place tag.Integer bytes f c all e =
    let w = within_err place (int_at bytes >>= λ s. Ok (integer s.0, s.1)) f e in (
      w.1,
      elim (bind_err (int_at bytes) _ f.kind w.0) [
        | inl h ↦ was_cut tag.Integer bytes f.kind (int_fails bytes f.kind all h)
        | inr h ↦
            absurd (let z = h.2 in cc)
      ],
    )
atom_fails place tag.String bytes f c all e =
    let w = within_err place (text_at bytes >>= λ s. Ok (string s.0, s.1)) f e in (
      w.1,
      elim (bind_err (text_at bytes) _ f.kind w.0) [
        | inl h ↦ text_wrong bytes f.kind tag.String (λ x. x) (λ x. x) (λ x. x)
            (text_fails bytes f.kind all h)
        | inr h ↦ absurd (let z = h.2 in cc)
      ],
    )
atom_fails place tag.ByteString bytes f c all e =
    let w = within_err place (counted_at bytes >>= λ s. Ok (byte_string s.0, s.1)) f e in (
      w.1,
      elim (bind_err (counted_at bytes) _ f.kind w.0)
          [ inl h ↦ byte_string_wrong (counted_fails bytes f.kind all h) | inr h ↦ absurd (let z = h.2 in cc) ],
    )
  where
    byte_string_wrong : ((f.kind ≡ kind.Truncated) × IsCutCounted bytes)
        ⊎ ((f.kind ≡ kind.LongVarint) × IsNoCount bytes) → AtomWrong tag.ByteString bytes f.kind
    byte_string_wrong (inl c) =
        subst (λ (x : BinKind). AtomWrong tag.ByteString bytes x) (sym c.0) (cut tag.ByteString bytes c.1)
    byte_string_wrong (inr c) =
        subst (λ (x : BinKind). AtomWrong tag.ByteString bytes x) (sym c.0)
        (faulty tag.ByteString bytes kind.LongVarint c.1)
atom_fails place tag.Symbol bytes f c all e =
    let w = within_err place (text_at bytes >>= λ s. Ok (symbol s.0, s.1)) f e in (
      w.1,
      elim (bind_err (text_at bytes) _ f.kind w.0) [
        | inl h ↦ text_wrong bytes f.kind tag.Symbol (λ x. x) (λ x. x) (λ x. x)
            (text_fails bytes f.kind all h)
        | inr h ↦ absurd (let z = h.2 in cc)
      ],
    )
atom_fails place tag.Other bytes f c all e =
    let w = within_err {A = Plain × List ℕ} place (Err kind.BadTag) f e in
    let same : kind.BadTag ≡ f.kind = err_same _ _ w.0 in
    (w.1, subst (λ (x : BinKind). AtomWrong tag.Other bytes x) same (no_tag bytes))
atom_fails place tag.Embedded bytes f c all e = cc
atom_fails place tag.Record bytes f c all e = cc
atom_fails place tag.Sequence bytes f c all e = cc
atom_fails place tag.Set bytes f c all e = cc
atom_fails place tag.Dictionary bytes f c all e = cc

-- ---- the other way round

split_short : (n : ℕ) (s : List ℕ) → length s < n → split_at n s ≡ Err kind.Truncated
split_short n s l = rw (lt-ltb (length s) n l)

split_whole : (n : ℕ) (s r : List ℕ) → length s ≡ n → split_at n (s ++ r) ≡ Ok (s, r)
split_whole n s r l = subst (λ (m : ℕ). split_at m (s ++ r) ≡ Ok (s, r)) l (split_again s r)

counted_cut : (bytes : List ℕ) → IsBytes bytes → IsCutCounted bytes → counted_at bytes ≡ Err kind.Truncated
unfolding counted_at
counted_cut bytes all h =
    elim h [
      | inl c ↦ rw (front_read bytes all c)
      | inr c ↦ rw (count_read bytes c.0 c.1 c.2, split_short c.0 c.1 c.3)
    ]

counted_none : (bytes : List ℕ) → IsBytes bytes → IsNoCount bytes → counted_at bytes ≡ Err kind.LongVarint
unfolding counted_at
counted_none bytes all h = rw (none_read bytes all h)

counted_whole : (bytes : List ℕ) (n : ℕ) (s r : List ℕ) → IsCounted bytes n (s ++ r) → length s ≡ n → counted_at bytes
    ≡ Ok (s, r)
unfolding counted_at
counted_whole bytes n s r c l = rw (count_read bytes n (s ++ r) c) (split_whole n s r l)

text_cut : (bytes : List ℕ) (k : BinKind) → counted_at bytes ≡ Err k → text_at bytes ≡ Err k
unfolding text_at
text_cut bytes k e = rw e

bad_text_read : (bytes : List ℕ) → IsBadText bytes → text_at bytes ≡ Err kind.BadUtf8
bad_text_read bytes h = text_bad bytes h.1 h.2 (counted_whole bytes h.0 h.1 h.2 h.3 h.4) h.5

int_cut : (bytes : List ℕ) → IsBytes bytes → IsCut tag.Integer bytes → int_at bytes ≡ Err kind.Truncated
unfolding int_at
int_cut bytes all h =
    elim h [
      | inl c ↦ rw (front_read bytes all c)
      | inr c ↦ rw (count_read bytes c.0 c.1 c.2, le-ltb 16 c.0 c.4, split_short c.0 c.1 c.3)
    ]

int_none : (bytes : List ℕ) → IsBytes bytes → IsNoCount bytes → int_at bytes ≡ Err kind.LongVarint
unfolding int_at
int_none bytes all h = rw (none_read bytes all h)

int_wide : (bytes : List ℕ) → IsWideInteger bytes → int_at bytes ≡ Err kind.TooWide
unfolding int_at
int_wide bytes h = rw (count_read bytes h.0 h.1 h.2, lt-ltb 16 h.0 h.3)

int_long : (bytes : List ℕ) → IsLongInteger bytes → int_at bytes ≡ Err kind.LongInteger
unfolding int_at
int_long bytes h = rw (count_read bytes h.0 (h.1 ++ h.2) h.3, le-ltb 16 h.0 h.5, split_whole h.0 h.1 h.2 h.4, h.6)

double_cut : (bytes : List ℕ) → IsCut tag.Double bytes → double_at bytes ≡ Err kind.Truncated
unfolding double_at
double_cut bytes h =
    elim h [
      | inl c ↦ rw c
      | inr c ↦ rw (c.1, split_short 8 c.0 c.2)
    ]

double_other : (bytes : List ℕ) → AtomFault tag.Double bytes kind.BadTag → double_at bytes ≡ Err kind.BadTag
unfolding double_at
double_other bytes h = rw (h.2, ne_eqb h.0 8 h.3)

pub cut_is_atom : (t : Tag) (bytes : List ℕ) → IsCut t bytes → is_compound t ≡ false
cut_is_atom tag.Double bytes h = refl
cut_is_atom tag.Integer bytes h = refl
cut_is_atom tag.String bytes h = refl
cut_is_atom tag.ByteString bytes h = refl
cut_is_atom tag.Symbol bytes h = refl
cut_is_atom t bytes h = absurd h

pub cut_read : (place : ℕ) (t : Tag) (bytes : List ℕ) → IsBytes bytes → IsCut t bytes → atom_at place t bytes
    ≡ Err (record { kind = kind.Truncated; place = place })
unfolding atom_at
cut_read place tag.Double bytes all h = rw (double_cut bytes h)
cut_read place tag.Integer bytes all h = rw (int_cut bytes all h)
cut_read place tag.String bytes all h = rw (text_cut bytes kind.Truncated (counted_cut bytes all h))
cut_read place tag.ByteString bytes all h = rw (counted_cut bytes all h)
cut_read place tag.Symbol bytes all h = rw (text_cut bytes kind.Truncated (counted_cut bytes all h))
cut_read place t bytes all h = absurd h

pub fault_is_atom : (t : Tag) (bytes : List ℕ) (k : BinKind) → AtomFault t bytes k → is_compound t ≡ false
fault_is_atom tag.Double bytes kind.BadTag h = refl
fault_is_atom tag.Integer bytes kind.LongVarint h = refl
fault_is_atom tag.Integer bytes kind.TooWide h = refl
fault_is_atom tag.Integer bytes kind.LongInteger h = refl
fault_is_atom tag.String bytes kind.LongVarint h = refl
fault_is_atom tag.String bytes kind.BadUtf8 h = refl
fault_is_atom tag.ByteString bytes kind.LongVarint h = refl
fault_is_atom tag.Symbol bytes kind.LongVarint h = refl
fault_is_atom tag.Symbol bytes kind.BadUtf8 h = refl
fault_is_atom t bytes k h = absurd h

pub fault_read : (place : ℕ) (t : Tag) (bytes : List ℕ) (k : BinKind) → IsBytes bytes → AtomFault t bytes k
    → atom_at place t bytes ≡ Err (record { kind = k; place = place })
unfolding atom_at
fault_read place tag.Double bytes kind.BadTag all h = rw (double_other bytes h)
fault_read place tag.Integer bytes kind.LongVarint all h = rw (int_none bytes all h)
fault_read place tag.Integer bytes kind.TooWide all h = rw (int_wide bytes h)
fault_read place tag.Integer bytes kind.LongInteger all h = rw (int_long bytes h)
fault_read place tag.String bytes kind.LongVarint all h = rw (text_cut bytes kind.LongVarint (counted_none bytes all h))
fault_read place tag.String bytes kind.BadUtf8 all h = rw (bad_text_read bytes h)
fault_read place tag.ByteString bytes kind.LongVarint all h = rw (counted_none bytes all h)
fault_read place tag.Symbol bytes kind.LongVarint all h = rw (text_cut bytes kind.LongVarint (counted_none bytes all h))
fault_read place tag.Symbol bytes kind.BadUtf8 all h = rw (bad_text_read bytes h)
fault_read place t bytes k all h = absurd h

-- no fault is that the bytes end
pub never_cut : (t : Tag) (bytes : List ℕ) (k : BinKind) → AtomFault t bytes k → k ≡ kind.Truncated → ⊥
never_cut tag.Double bytes kind.BadTag h e = cc
never_cut tag.Integer bytes kind.LongVarint h e = cc
never_cut tag.Integer bytes kind.TooWide h e = cc
never_cut tag.Integer bytes kind.LongInteger h e = cc
never_cut tag.String bytes kind.LongVarint h e = cc
never_cut tag.String bytes kind.BadUtf8 h e = cc
never_cut tag.ByteString bytes kind.LongVarint h e = cc
never_cut tag.Symbol bytes kind.LongVarint h e = cc
never_cut tag.Symbol bytes kind.BadUtf8 h e = cc
never_cut t bytes k h e = absurd h
