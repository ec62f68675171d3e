-- Readers of escapes and of items: what was read is read again whatever follows it, what follows it is UTF-8 where the
-- whole is, and none has the fault that something isn't UTF-8.
use Rattle.std.proofs.Common.{◌≡◌, ◌≢◌, ℕ, ◌+◌, ◌-◌, ◌*◌, ◌<◌, ◌≤◌, eqb, Bool, true, false, cond, ◌&&◌, not, List, []}
use Rattle.std.proofs.Common.{◌∷◌, ◌++◌, Option, Some, None, Result, Ok, Err, refl, sym, ap, ◌∙◌, subst, append_assoc}
use Rattle.std.proofs.Common.{inl, inr, ◌⊎◌, arith}
use Rattle.std.specs.Prelude.{encode_utf8, ok_or}
use Rattle.std.specs.Str.{IsUtf8}
use Rattle.std.specs.Char.{IsScalar}
use Rattle.std.proofs.Math.Utf8.{low_scalar}
use Rattle.std.proofs.lemmas.Bool.{eqb-true}
use Rattle.std.proofs.lemmas.Bool.Decides.{nat_tests}
use Rattle.std.proofs.lemmas.Str.{IsUtf8-encode}
use Rattle.pv_read.specs.Results.{◌>>=◌}
use Rattle.pv_read.specs.Lemmas.Binds.{ok_pair, Told}
use Rattle.pv_lex.specs.Characters.{is_between, is_digit, hex_digit}
use Rattle.pv_lex.specs.Escapes.{short_escape, mark_at, digit_at, pair_at, unit_at, is_high_surrogate, is_low_surrogate}
use Rattle.pv_lex.specs.Escapes.{joined, low_at, unicode_at, escape_at, text_item}
use Rattle.pv_lex.specs.ByteTexts.{byte_escape_at, byte_item}
use Rattle.pv_lex.specs.Lemmas.Seams.{behind_byte}
use Rattle.pv_lex.specs.declared.faults.TextKind.{TextKind}
use Rattle.pv_lex.specs.declared.faults.TextKind.TheVariants.{Unclosed, BadEscape, BadBytes, BadUtf8}

-- what follows it is UTF-8 where the whole is
abbrev pub Leaves : List ℕ → Type 0
Leaves front = (r : List ℕ) → IsUtf8 (front ++ r) → IsUtf8 r

-- a fault of another kind
abbrev pub IsOther : TextKind → Type 0
IsOther k = k ≢ BadUtf8

-- the bytes are a front and then the rest, and the front is read so whatever follows it
abbrev pub ReadsFront : {X : Type 0} → (List ℕ → X → Type 0) → (List ℕ → Result (X × List ℕ) TextKind) → List ℕ → X
    × List ℕ → Type 0
ReadsFront Good f bytes x =
    (front : List ℕ) × (bytes ≡ front ++ x.1) × ((r : List ℕ) → f (front ++ r) ≡ Ok (x.0, r)) × Good front x.0

abbrev pub IsReader : {X : Type 0} → (List ℕ → X → Type 0) → (List ℕ → Result (X × List ℕ) TextKind) → Type 0
IsReader Good f = (bytes : List ℕ) → Told (ReadsFront Good f bytes) IsOther (f bytes)

-- of ASCII characters, and with such an answer
abbrev pub Plainly : {X : Type 0} → (X → Type 0) → List ℕ → X → Type 0
Plainly Good front x = Leaves front × Good x

-- ---- how readers are made

done : {X : Type 0} (Good : X → Type 0) (x : X) → Good x → IsReader (Plainly Good) (λ bytes. Ok (x, bytes))
done Good x g bytes = ([], refl, (λ r. refl), ((λ r u. u), g))

weaker : {X : Type 0} (Good Better : X → Type 0) (f : List ℕ → Result (X × List ℕ) TextKind)
    → ((x : X) → Good x → Better x)
    → IsReader (Plainly Good) f → IsReader (Plainly Better) f
weaker {X} Good Better f g h bytes = by (f bytes) (h bytes)
  where
    by : (o : Result (X × List ℕ) TextKind) → Told (ReadsFront (Plainly Good) f bytes) IsOther o
        → Told (ReadsFront (Plainly Better) f bytes) IsOther o
    by (Ok x) (front, is, again, (leaves, good)) = (front, is, again, (leaves, g x.0 good))
    by (Err k) h = h

module _ {X : Type 0} (Good : X → Type 0) where
  either : (t : Bool) (f g : List ℕ → Result (X × List ℕ) TextKind) → (t ≡ true → IsReader (Plainly Good) f)
      → (t ≡ false → IsReader (Plainly Good) g) → IsReader (Plainly Good) (λ bytes. cond t (f bytes) (g bytes))
  either true f g p q = p refl
  either false f g p q = q refl

  -- a reader that fails at the end, and else goes by the first character
  first : (f : List ℕ → Result (X × List ℕ) TextKind) (g : ℕ → List ℕ → Result (X × List ℕ) TextKind) → f []
      ≡ Err Unclosed
      → ((b : ℕ) (bs : List ℕ) → f (b ∷ bs) ≡ g b bs) → ((b : ℕ) → IsReader (Plainly (λ x. Good x × (b < 128))) (g b))
      → IsReader (Plainly Good) f
  first f g none some p [] = subst (Told (ReadsFront (Plainly Good) f []) IsOther) (sym none) (λ e. cc)
  first f g none some p (b ∷ bs) =
      subst (Told (ReadsFront (Plainly Good) f (b ∷ bs)) IsOther) (sym (some b bs)) (by (g b bs) (p b bs))
    where
      by : (o : Result (X × List ℕ) TextKind) → Told (ReadsFront (Plainly (λ x. Good x × (b < 128))) (g b) bs) IsOther o
          → Told (ReadsFront (Plainly Good) f (b ∷ bs)) IsOther o
      by (Ok x) (front, is, again, (leaves, (good, small))) = (
        b ∷ front,
        ap (λ r. b ∷ r) is,
        (λ r. some b (front ++ r) ∙ again r),
        ((λ r u. leaves r (behind_byte b (front ++ r) small u)), good),
      )
      by (Err k) h = h

  chosen : {Y : Type 0} (o : Option Y) (make : Y → X) → ((y : Y) → o ≡ Some y → Good (make y))
      → IsReader (Plainly Good) (λ bytes. ok_or o BadEscape >>= λ y. Ok (make y, bytes))
  chosen None make good bytes = λ e. cc
  chosen (Some y) make good bytes = done Good (make y) (good y refl) bytes

  -- one reader behind another
  behind : {Y : Type 0} (Before : Y → Type 0) (f : List ℕ → Result (Y × List ℕ) TextKind)
      (g : Y → List ℕ → Result (X × List ℕ) TextKind)
      → IsReader (Plainly Before) f → ((y : Y) → Before y → IsReader (Plainly Good) (g y))
      → IsReader (Plainly Good) (λ bytes. f bytes >>= λ s. g s.0 s.1)
  behind {Y} Before f g p q bytes = by (f bytes) (p bytes)
    where
      both : List ℕ → Result (X × List ℕ) TextKind
      both r = f r >>= λ s. g s.0 s.1

      then : (x : Y × List ℕ) → ReadsFront (Plainly Before) f bytes x → (o : Result (X × List ℕ) TextKind)
          → Told (ReadsFront (Plainly Good) (g x.0) x.1) IsOther o
          → Told (ReadsFront (Plainly Good) both bytes) IsOther o
      then x h (Ok y) k = (
        h.0 ++ k.0,
        h.1 ∙ ap (λ r. h.0 ++ r) k.1 ∙ sym (append_assoc h.0 k.0 y.1),
        (λ r. rw (append_assoc h.0 k.0 r, h.2 (k.0 ++ r)) (k.2 r)),
        ((λ r u. k.3.0 r (h.3.0 (k.0 ++ r) (subst IsUtf8 (append_assoc h.0 k.0 r) u))), k.3.1),
      )
      then x h (Err e) k = k

      by : (o : Result (Y × List ℕ) TextKind) → Told (ReadsFront (Plainly Before) f bytes) IsOther o
          → Told (ReadsFront (Plainly Good) both bytes) IsOther (o >>= λ s. g s.0 s.1)
      by (Ok x) h = then x h (g x.0 x.1) (q x.0 h.3.1 x.1)
      by (Err e) h = h

  fails : IsReader (Plainly Good) (λ bytes. Err BadEscape)
  fails bytes = λ e. cc

  -- a mark, and what is read behind it
  marked : (m : ℕ) (f : List ℕ → Result (X × List ℕ) TextKind) → m < 128 → IsReader (Plainly Good) f
      → IsReader (Plainly Good) (λ bytes. mark_at m bytes >>= λ r. f r)
  marked m f small p =
      first (λ bytes. mark_at m bytes >>= λ r. f r) (λ b bs. cond (eqb b m) (f bs) (Err BadEscape)) refl
      (λ b bs. by (eqb b m) bs)
      (λ b. at b (eqb b m) refl)
    where
      by : (t : Bool) (bs : List ℕ) → (cond {A = Result (List ℕ) TextKind} t (Ok bs) (Err BadEscape) >>= λ r. f r)
          ≡ cond t (f bs) (Err BadEscape)
      by true bs = refl
      by false bs = refl

      at : (b : ℕ) (t : Bool) → eqb b m ≡ t
          → IsReader (Plainly (λ x. Good x × (b < 128))) (λ bs. cond t (f bs) (Err BadEscape))
      at b true e = let is = eqb-true b m e in weaker Good (λ x. Good x × (b < 128)) f (λ x g. (g, omega (arith, is))) p
      at b false e = λ bytes. λ d. cc

-- ---- numbers

hex_small : (b d : ℕ) → hex_digit b ≡ Some d → (d < 16) × (b < 128)
hex_small b d e = by (is_digit b) (is_between 97 102 b) (is_between 65 70 b) refl refl refl e
  where
    some : (x : ℕ) → x < 16 → b < 128 → Some x ≡ Some d → (d < 16) × (b < 128)
    some x l m f = let is : x ≡ d = cc in (omega (arith, is), m)

    by : (t u w : Bool) → is_digit b ≡ t → is_between 97 102 b ≡ u → is_between 65 70 b ≡ w
        → cond t (Some (b - 48)) (cond u (Some (b - 87)) (cond w (Some (b - 55)) None)) ≡ Some d → (d < 16) × (b < 128)
    by true u w i j k f = some (b - 48) (grind (arith, nat_tests)) (grind (arith, nat_tests)) f
    by false true w i j k f = some (b - 87) (grind (arith, nat_tests)) (grind (arith, nat_tests)) f
    by false false true i j k f = some (b - 55) (grind (arith, nat_tests)) (grind (arith, nat_tests)) f
    by false false false i j k f = cc

digit_reader : IsReader (Plainly (λ d. d < 16)) digit_at
digit_reader =
    first (λ d. d < 16) digit_at (λ b bs. ok_or (hex_digit b) BadEscape >>= λ d. Ok (d, bs)) refl (λ b bs. refl)
    (λ b. chosen (λ d. (d < 16) × (b < 128)) (hex_digit b) (λ d. d) (λ d e. hex_small b d e))

pair_reader : IsReader (Plainly (λ n. n < 256)) pair_at
unfolding pair_at
pair_reader =
    let Small : ℕ → Type 0 = λ d. d < 16 in
    let Good : ℕ → Type 0 = λ n. n < 256 in
    behind Good Small digit_at (λ h bytes. digit_at bytes >>= λ l. Ok (16 * h + l.0, l.1)) digit_reader
    (λ h p. behind Good Small digit_at (λ l bytes. Ok (16 * h + l, bytes)) digit_reader
    (λ l q. done Good (16 * h + l) (omega arith)))

unit_reader : IsReader (Plainly (λ n. n < 65536)) unit_at
unfolding unit_at
unit_reader =
    let Small : ℕ → Type 0 = λ d. d < 256 in
    let Good : ℕ → Type 0 = λ n. n < 65536 in
    behind Good Small pair_at (λ h bytes. pair_at bytes >>= λ l. Ok (256 * h + l.0, l.1)) pair_reader
    (λ h p. behind Good Small pair_at (λ l bytes. Ok (256 * h + l, bytes)) pair_reader
    (λ l q. done Good (256 * h + l) (omega arith)))

-- ---- characters

-- the second unit of a pair
abbrev IsLow : ℕ → Type 0
IsLow c = (56320 ≤ c) × (c ≤ 57343)

high_scalar : (c : ℕ) → 57344 ≤ c → c < 1114112 → IsScalar c
high_scalar c l m = grind (arith, nat_tests)

between_is : (l h b : ℕ) → is_between l h b ≡ true → (l ≤ b) × (b ≤ h)
between_is l h b e = (grind (arith, nat_tests), grind (arith, nat_tests))

-- neither kind of surrogate
unit_scalar : (c : ℕ) → c < 65536 → is_high_surrogate c ≡ false → is_low_surrogate c ≡ false → IsScalar c
unit_scalar c l h k = grind (arith, nat_tests)

low_reader : IsReader (Plainly IsLow) low_at
unfolding low_at
low_reader =
    marked IsLow 92 (λ r. mark_at 117 r >>= λ s. unit_at s >>= λ u. cond (is_low_surrogate u.0) (Ok u) (Err BadEscape))
    (omega arith)
    (marked IsLow 117 (λ s. unit_at s >>= λ u. cond (is_low_surrogate u.0) (Ok u) (Err BadEscape)) (omega arith)
    (behind IsLow (λ n. n < 65536) unit_at
    (λ u bytes. cond (is_low_surrogate u) (Ok (u, bytes)) (Err BadEscape)) unit_reader
    (λ u small. either IsLow (is_low_surrogate u) (λ bytes. Ok (u, bytes)) (λ bytes. Err BadEscape)
    (λ e. done IsLow u (between_is 56320 57343 u e)) (λ e. fails IsLow))))

unicode_reader : IsReader (Plainly IsScalar) unicode_at
unfolding unicode_at
unicode_reader =
    behind IsScalar (λ n. n < 65536) unit_at
    (λ u bytes. cond (is_high_surrogate u) (low_at bytes >>= λ l. Ok (joined u l.0, l.1))
    (cond (is_low_surrogate u) (Err BadEscape) (Ok (u, bytes)))) unit_reader
    (λ u small. either IsScalar (is_high_surrogate u) (λ bytes. low_at bytes >>= λ l. Ok (joined u l.0, l.1))
    (λ bytes. cond (is_low_surrogate u) (Err BadEscape) (Ok (u, bytes)))
    (λ e. let h = between_is 55296 56319 u e in
    behind IsScalar IsLow low_at (λ l bytes. Ok (joined u l, bytes)) low_reader
    (λ l k. done IsScalar (joined u l) (high_scalar (joined u l) (omega arith) (omega arith))))
    (λ e. either IsScalar (is_low_surrogate u) (λ bytes. Err BadEscape) (λ bytes. Ok (u, bytes)) (λ d. fails IsScalar)
    (λ d. done IsScalar u (unit_scalar u small e d))))

-- ---- escapes

abbrev AreSmall : ℕ → ℕ → Type 0
AreSmall c x = (x < 128) × (c < 128)

short_link : (c n m x : ℕ) (o : Option ℕ) → n < 128 → m < 128 → (o ≡ Some x → AreSmall c x) → cond (eqb c n) (Some m) o
    ≡ Some x → AreSmall c x
short_link c n m x o l k f e = by (eqb c n) refl e
  where
    by : (t : Bool) → eqb c n ≡ t → cond t (Some m) o ≡ Some x → AreSmall c x
    by true d q = let i = eqb-true c n d in let j : m ≡ x = cc in (omega (arith, j), omega (arith, i))
    by false d q = f q

short_small : (c x : ℕ) → short_escape c ≡ Some x → AreSmall c x
short_small c x e =
    short_link c 92 92 x _ (omega arith) (omega arith) (short_link c 47 47 x _ (omega arith) (omega arith)
    (short_link c 98 8 x _ (omega arith) (omega arith) (short_link c 102 12 x _ (omega arith) (omega arith)
    (short_link c 110 10 x _ (omega arith) (omega arith) (short_link c 114 13 x _ (omega arith) (omega arith)
    (short_link c 116 9 x _ (omega arith) (omega arith) (λ q. cc))))))) e

-- the quote itself, behind a letter what a reader reads, or one of the short ones
module _ (Good : ℕ → Type 0) (low : (c : ℕ) → c < 128 → Good c) where
  lettered : (quote letter : ℕ) (f g : List ℕ → Result (ℕ × List ℕ) TextKind) → quote < 128 → letter < 128 → f []
      ≡ Err Unclosed
      → ((c : ℕ) (bs : List ℕ) → f (c ∷ bs)
      ≡ cond (eqb c quote) (Ok (c, bs))
      (cond (eqb c letter) (g bs) (ok_or (short_escape c) BadEscape >>= λ x. Ok (x, bs))))
      → IsReader (Plainly Good) g → IsReader (Plainly Good) f
  lettered quote letter f g q l none some p =
      first Good f (λ c bs. cond (eqb c quote) (Ok (c, bs))
      (cond (eqb c letter) (g bs) (ok_or (short_escape c) BadEscape >>= λ x. Ok (x, bs)))) none some
      (λ c. either (Both c) (eqb c quote) (λ bs. Ok (c, bs))
      (λ bs. cond (eqb c letter) (g bs) (ok_or (short_escape c) BadEscape >>= λ x. Ok (x, bs)))
      (λ e. let is = eqb-true c quote e in done (Both c) c (low c (omega (arith, is)), omega (arith, is)))
      (λ d. either (Both c) (eqb c letter) g (λ bs. ok_or (short_escape c) BadEscape >>= λ x. Ok (x, bs))
      (λ e. let is = eqb-true c letter e in weaker Good (Both c) g (λ x h. (h, omega (arith, is))) p)
      (λ e. chosen (Both c) (short_escape c) (λ x. x) (λ x h. let s = short_small c x h in (low x s.0, s.1)))))
    where
      Both : ℕ → ℕ → Type 0
      Both c x = Good x × (c < 128)

escape_reader : (quote : ℕ) → quote < 128 → IsReader (Plainly IsScalar) (escape_at quote)
unfolding escape_at
escape_reader quote small =
    lettered IsScalar (λ c l. low_scalar c (omega arith)) quote 117 (escape_at quote) unicode_at small
    (omega arith) refl (λ c bs. refl) unicode_reader

byte_escape_reader : IsReader (Plainly (λ n. Unit {0})) byte_escape_at
unfolding byte_escape_at
byte_escape_reader =
    lettered (λ n. Unit {0}) (λ c l. tt) 34 120 byte_escape_at pair_at (omega arith) (omega arith) refl (λ c bs. refl)
    (weaker (λ n. n < 256) (λ n. Unit {0}) pair_at (λ n h. tt) pair_reader)

-- ---- items

-- a character as it stands, or an escape for text
abbrev pub IsPiece : List ℕ → List ℕ → Type 0
IsPiece front i =
    ((b : ℕ) × (front ≡ b ∷ []) × (i ≡ b ∷ [])) ⊎ ((more : List ℕ) × (front ≡ 92 ∷ more) × Leaves more × IsUtf8 i)

-- behind a backslash, or a character that is good
module _ (Piece : List ℕ → List ℕ → Type 0) (f : List ℕ → Result (List ℕ × List ℕ) TextKind)
    (raw : ℕ → List ℕ → Result (List ℕ × List ℕ) TextKind)
    {X : Type 0} (Good : X → Type 0) (escape : List ℕ → Result (X × List ℕ) TextKind) (made : X → List ℕ) where
  item_reader : f [] ≡ Err Unclosed → ((b : ℕ) (bs : List ℕ) → f (b ∷ bs)
      ≡ cond (eqb b 92) (escape bs >>= λ e. Ok (made e.0, e.1)) (raw b bs))
      → IsReader (Plainly Good) escape → ((more : List ℕ) (x : X) → Leaves more → Good x → Piece (92 ∷ more) (made x))
      → ((b : ℕ) → IsReader (λ front i. Piece (b ∷ front) i) (raw b)) → IsReader Piece f
  item_reader none some p escaped q [] = subst (Told (ReadsFront Piece f []) IsOther) (sym none) (λ e. cc)
  item_reader none some p escaped q (b ∷ bs) =
      subst (Told (ReadsFront Piece f (b ∷ bs)) IsOther) (sym (some b bs)) (by (eqb b 92) refl)
    where
      by_escape : b ≡ 92 → (o : Result (X × List ℕ) TextKind) → Told (ReadsFront (Plainly Good) escape bs) IsOther o
          → Told (ReadsFront Piece f (b ∷ bs)) IsOther (o >>= λ e. Ok (made e.0, e.1))
      by_escape is (Err k) h = h
      by_escape is (Ok x) (front, e, again, (leaves, good)) = (
        92 ∷ front,
        ap (λ c. c ∷ bs) is
            ∙ ap (λ r. 92 ∷ r) e,
        (λ r. some 92 (front ++ r)
            ∙ ap (λ (o : Result (X × List ℕ) TextKind). o >>= λ e. ok_pair (made e.0) e.1) (again r)),
        escaped front x.0 leaves good,
      )

      by_raw : eqb b 92 ≡ false → (o : Result (List ℕ × List ℕ) TextKind)
          → Told (ReadsFront (λ front i. Piece (b ∷ front) i) (raw b) bs) IsOther o
          → Told (ReadsFront Piece f (b ∷ bs)) IsOther o
      by_raw d (Err k) h = h
      by_raw d (Ok x) (front, e, again, piece) = (
        b ∷ front,
        ap (λ r. b ∷ r) e,
        (λ r. some b (front ++ r)
            ∙ ap (λ t. cond t (escape (front ++ r) >>= λ e. Ok (made e.0, e.1)) (raw b (front ++ r))) d
            ∙ again r),
        piece,
      )

      by : (t : Bool) → eqb b 92 ≡ t → Told (ReadsFront Piece f (b ∷ bs)) IsOther
          (cond t (escape bs >>= λ e. Ok (made e.0, e.1)) (raw b bs))
      by true d = by_escape (eqb-true b 92 d) (escape bs) (p bs)
      by false d = by_raw d (raw b bs) (q b bs)

pub text_item_reader : (quote : ℕ) → quote < 128 → IsReader IsPiece (text_item quote)
unfolding text_item
text_item_reader quote small =
    item_reader IsPiece (text_item quote) (λ b bs. cond (eqb b quote) (Err BadBytes) (Ok (b ∷ [], bs))) IsScalar
    (escape_at quote) encode_utf8
    refl (λ b bs. refl) (escape_reader quote small) (λ more c l s. inr (more, refl, l, IsUtf8-encode c s))
    (λ b. raw b (eqb b quote))
  where
    raw : (b : ℕ) (t : Bool) → IsReader (λ front i. IsPiece (b ∷ front) i)
        (λ bs. cond t (Err BadBytes) (Ok (b ∷ [], bs)))
    raw b true bytes = λ e. cc
    raw b false bytes = ([], refl, (λ r. refl), inl (b, refl, refl))

pub byte_item_reader : IsReader (λ front i. Unit {0}) byte_item
unfolding byte_item
byte_item_reader =
    item_reader (λ front i. Unit {0}) byte_item
    (λ b bs. cond (is_between 32 126 b && not (eqb b 34)) (Ok (b ∷ [], bs)) (Err BadBytes))
    (λ n. Unit {0}) byte_escape_at (λ e. e ∷ [])
    refl (λ b bs. refl) byte_escape_reader (λ more c l s. tt) (λ b. raw b (is_between 32 126 b && not (eqb b 34)))
  where
    raw : (b : ℕ) (t : Bool) → IsReader (λ front i. Unit {0}) (λ bs. cond t (Ok (b ∷ [], bs)) (Err BadBytes))
    raw b true bytes = ([], refl, (λ r. refl), tt)
    raw b false bytes = λ e. cc
