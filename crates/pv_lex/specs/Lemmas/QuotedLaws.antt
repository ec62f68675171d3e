-- Text in quotes: what is well written is read up to its quote, or to what is cut off or badly written; and so it
-- stands.
use Rattle.std.proofs.Common.{◌≡◌, ℕ, zero, suc, ◌<◌, ◌≤◌, eqb, Bool, true, false, not, ◌&&◌, cond, List, [], ◌∷◌, ◌++◌}
use Rattle.std.proofs.Common.{length, Option, Some, Result, Ok, Err, refl, sym, ap, ◌∙◌, subst, append_assoc}
use Rattle.std.proofs.Common.{length-append, inl, inr, ◌⊎◌, arith}
use Rattle.std.proofs.lemmas.Bool.{not-true, eqb-false, eqb-true, ne_eqb, eq-eqb, and_parts}
use Rattle.std.proofs.lemmas.List.{append-nil}
use Rattle.std.specs.Result.{result_ok}
use Rattle.pv_read.specs.Results.{◌>>=◌}
use Rattle.pv_read.specs.Lemmas.Binds.{ok, err, ok_same, err_same, bind_ok, Told, told_ok}
use Rattle.pv_read.specs.Lemmas.Fronts.{with_front, behind_front, behind_front_more}
use Rattle.pv_lex.specs.Characters.{is_between, all_of, run}
use Rattle.pv_lex.specs.Quoted.{content_in, items_value}
use Rattle.pv_lex.specs.Escapes.{text_item}
use Rattle.pv_lex.specs.ByteTexts.{byte_item}
use Rattle.pv_lex.specs.Classes.{quote_of, item_of, content_at, is_plain}
use Rattle.pv_lex.specs.TokenFaults.{IsBadItem}
use Rattle.pv_lex.specs.Lemmas.Runs.{Parts, run_parts}
use Rattle.pv_lex.specs.Lemmas.Readers.{ReadsFront, text_item_reader, byte_item_reader}
use Rattle.pv_lex.specs.declared.runs.Quotes.{Quotes}
use Rattle.pv_lex.specs.declared.runs.Quotes.TheVariants as quotes
use Rattle.pv_lex.specs.declared.faults.TextKind.{TextKind}
use Rattle.pv_lex.specs.declared.faults.TextKind.TheVariants.{Unclosed, BadBytes}

-- ---- items

-- the bytes are a front and then the rest, and the front is read so whatever follows it
abbrev pub IsFront : Quotes → List ℕ → List ℕ × List ℕ → Type 0
IsFront q bytes x = ReadsFront (λ front i. Unit {0}) (item_of q) bytes x

text_local : (quote : ℕ) → quote < 128 → (bytes : List ℕ) (x : List ℕ × List ℕ) → text_item quote bytes ≡ Ok x
    → ReadsFront (λ front i. Unit {0}) (text_item quote) bytes x
text_local quote small bytes x e =
    let h = told_ok _ _ (text_item quote bytes) x (text_item_reader quote small bytes) e in (h.0, h.1, h.2, tt)

pub item_local : (q : Quotes) (bytes : List ℕ) (s m : List ℕ) → item_of q bytes ≡ Ok (s, m) → IsFront q bytes (s, m)
item_local quotes.String bytes s m e = text_local 34 (omega arith) bytes (s, m) e
item_local quotes.Symbol bytes s m e = text_local 124 (omega arith) bytes (s, m) e
item_local quotes.Ascii bytes s m e = told_ok _ _ (byte_item bytes) (s, m) (byte_item_reader bytes) e

pub item_none : (q : Quotes) → item_of q [] ≡ Err Unclosed
unfolding text_item byte_item
item_none quotes.String = refl
item_none quotes.Symbol = refl
item_none quotes.Ascii = refl

pub item_quote : (q : Quotes) (bs : List ℕ) → item_of q (quote_of q ∷ bs) ≡ Err BadBytes
unfolding text_item byte_item
item_quote quotes.String bs = refl
item_quote quotes.Symbol bs = refl
item_quote quotes.Ascii bs = refl

plain_text : (quote b : ℕ) (bs : List ℕ) → eqb b 92 ≡ false → eqb b quote ≡ false → text_item quote (b ∷ bs)
    ≡ Ok (b ∷ [], bs)
unfolding text_item
plain_text quote b bs e f = rw (e, f)

plain_item : (q : Quotes) (b : ℕ) (bs : List ℕ) → is_plain q b ≡ true → item_of q (b ∷ bs) ≡ Ok (b ∷ [], bs)
unfolding byte_item
plain_item quotes.String b bs e =
    let h = and_parts _ _ e in plain_text 34 b bs (not-true (eqb b 92) h.1) (not-true (eqb b 34) h.0)
plain_item quotes.Symbol b bs e =
    let h = and_parts _ _ e in plain_text 124 b bs (not-true (eqb b 92) h.1) (not-true (eqb b 124) h.0)
plain_item quotes.Ascii b bs e =
    let h = and_parts (is_between 32 126 b && not (eqb b 34)) (not (eqb b 92)) e in
    rw (not-true (eqb b 92) h.1, h.0)

-- what of a list is some is told by its first part
pub some_is : (o : Result (List ℕ) TextKind) (t : List ℕ) → result_ok o ≡ Some t → o ≡ Ok t
some_is (Err k) t e = cc
some_is (Ok s) t e = let same : s ≡ t = cc in ap (λ (x : List ℕ). ok x) same

front_none : (o : Result (List ℕ × List ℕ) TextKind) → behind_front [] o ≡ o
front_none (Ok x) = refl
front_none (Err k) = refl

module _ (q : Quotes) where
  abbrev items_in : ℕ → List ℕ → Result (List ℕ) TextKind
  items_in k s = items_value (item_of q) k s

  abbrev read_in : ℕ → List ℕ → Result (List ℕ × List ℕ) TextKind
  read_in k s = content_in (item_of q) (quote_of q) k s

  -- what is read of a whole text
  abbrev pub items : List ℕ → Result (List ℕ) TextKind
  items s = items_in (length s) s

  -- an item takes a byte at least
  front_some : (bytes s m : List ℕ) (h : IsFront q bytes (s, m)) → (b : ℕ) × (front : List ℕ) × (h.0 ≡ b ∷ front)
  front_some bytes s m h = by h.0 (h.2 [])
    where
      by : (front : List ℕ) → item_of q (front ++ []) ≡ Ok (s, []) → (b : ℕ) × (rest : List ℕ) × (front ≡ b ∷ rest)
      by [] e = cc (item_none q)
      by (b ∷ rest) e = (b, rest, refl)

  shorter : (bytes s m : List ℕ) → item_of q bytes ≡ Ok (s, m) → length m < length bytes
  shorter bytes s m e =
      let h = item_local q bytes s m e in
      let f = front_some bytes s m h in
      omega (arith, ap length h.1, length-append h.0 m, ap length f.2)

  -- ---- as many turns as there are bytes are enough

  items_same : (j k : ℕ) (s : List ℕ) → length s ≤ j → length s ≤ k → items_in j s ≡ items_in k s
  items_same zero zero s l m = refl
  items_same zero (suc k) [] l m = refl
  items_same zero (suc k) (b ∷ bs) l m = absurd (omega arith)
  items_same (suc j) zero [] l m = refl
  items_same (suc j) zero (b ∷ bs) l m = absurd (omega arith)
  items_same (suc j) (suc k) [] l m = refl
  items_same (suc j) (suc k) (b ∷ bs) l m =
      by (item_of q (b ∷ bs)) refl (λ s n. items_same j k s (omega arith) (omega arith))
    where
      by : (o : Result (List ℕ × List ℕ) TextKind) → item_of q (b ∷ bs) ≡ o
          → ((s : List ℕ) → length s ≤ length bs → items_in j s ≡ items_in k s)
          → (o >>= λ i. with_front i.0 (items_in j i.1)) ≡ (o >>= λ i. with_front i.0 (items_in k i.1))
      by (Err e) h f = refl
      by (Ok i) h f = let less = shorter (b ∷ bs) i.0 i.1 h in ap (with_front i.0) (f i.1 (omega arith))

  content_same : (j k : ℕ) (s : List ℕ) → length s ≤ j → length s ≤ k → read_in j s ≡ read_in k s
  content_same zero zero s l m = refl
  content_same zero (suc k) [] l m = refl
  content_same zero (suc k) (b ∷ bs) l m = absurd (omega arith)
  content_same (suc j) zero [] l m = refl
  content_same (suc j) zero (b ∷ bs) l m = absurd (omega arith)
  content_same (suc j) (suc k) [] l m = refl
  content_same (suc j) (suc k) (b ∷ bs) l m =
      ap (λ o. cond (eqb b (quote_of q)) (Ok ([], bs)) o)
      (by (item_of q (b ∷ bs)) refl (λ s n. content_same j k s (omega arith) (omega arith)))
    where
      by : (o : Result (List ℕ × List ℕ) TextKind) → item_of q (b ∷ bs) ≡ o
          → ((s : List ℕ) → length s ≤ length bs → read_in j s ≡ read_in k s)
          → (o >>= λ i. behind_front i.0 (read_in j i.1)) ≡ (o >>= λ i. behind_front i.0 (read_in k i.1))
      by (Err e) h f = refl
      by (Ok i) h f = let less = shorter (b ∷ bs) i.0 i.1 h in ap (behind_front i.0) (f i.1 (omega arith))

  -- ---- at the first item

  items_first : (b : ℕ) (bs i m : List ℕ) → item_of q (b ∷ bs) ≡ Ok (i, m) → items (b ∷ bs) ≡ with_front i (items m)
  items_first b bs i m e =
      let less = shorter (b ∷ bs) i m e in
      rw e (ap (with_front i) (items_same (length bs) (length m) m (omega arith) (omega arith)))

  pub content_closes : (b : ℕ) (bs : List ℕ) → b ≡ quote_of q → content_at q (b ∷ bs) ≡ Ok ([], bs)
  content_closes b bs e = rw (eq-eqb b (quote_of q) e)

  pub content_first : (b : ℕ) (bs i m : List ℕ) → (b ≡ quote_of q → ⊥) → item_of q (b ∷ bs) ≡ Ok (i, m)
      → content_at q (b ∷ bs) ≡ behind_front i (content_at q m)
  content_first b bs i m n e =
      let less = shorter (b ∷ bs) i m e in
      rw (ne_eqb b (quote_of q) n, e)
      (ap (behind_front i) (content_same (length bs) (length m) m (omega arith) (omega arith)))

  pub content_fails : (b : ℕ) (bs : List ℕ) (k : TextKind) → (b ≡ quote_of q → ⊥) → item_of q (b ∷ bs) ≡ Err k
      → content_at q (b ∷ bs) ≡ Err k
  content_fails b bs k n e = rw (ne_eqb b (quote_of q) n, e)

  -- ---- what is well written is passed over

  differs : (b : ℕ) (bs s m : List ℕ) → item_of q (b ∷ bs) ≡ Ok (s, m) → b ≡ quote_of q → ⊥
  differs b bs s m e h = cc (item_quote q bs, ap (λ c. item_of q (c ∷ bs)) h)

  again : (b : ℕ) (bs s m r : List ℕ) → item_of q (b ∷ bs) ≡ Ok (s, m) → item_of q (b ∷ (bs ++ r)) ≡ Ok (s, m ++ r)
  again b bs s m r e =
      let h = item_local q (b ∷ bs) s m e in
      let is : (b ∷ bs) ++ r ≡ h.0 ++ (m ++ r) = ap (λ x. x ++ r) h.1 ∙ append_assoc h.0 m r in
      subst (λ x. item_of q x ≡ Ok (s, m ++ r)) (sym is) (h.2 (m ++ r))

  over_in : (n : ℕ) (s u t : List ℕ) → length s ≤ n → items s ≡ Ok u → content_at q (s ++ t)
      ≡ behind_front u (content_at q t)
  over_in n [] u t l e =
      let none : [] ≡ u = ok_same {E = TextKind} [] u e in
      sym (front_none (content_at q t)) ∙ ap (λ (x : List ℕ). behind_front x (content_at q t)) none
  over_in zero (b ∷ bs) u t l e = absurd (omega arith)
  over_in (suc n) (b ∷ bs) u t l e =
      let x = bind_ok (item_of q (b ∷ bs)) _ u e in
      let less = shorter (b ∷ bs) x.0.0 x.0.1 x.1 in
      let y = bind_ok (items x.0.1) (λ s. Ok (x.0.0 ++ s)) u (sym (items_first b bs x.0.0 x.0.1 x.1) ∙ e) in
      content_first b (bs ++ t) x.0.0 (x.0.1 ++ t) (differs b bs x.0.0 x.0.1 x.1) (again b bs x.0.0 x.0.1 t x.1)
      ∙ ap (behind_front x.0.0) (over_in n x.0.1 y.0 t (omega arith) y.1)
      ∙ sym (behind_front_more x.0.0 y.0 (content_at q t))
      ∙ ap (λ (z : List ℕ). behind_front z (content_at q t)) (ok_same {E = TextKind} (x.0.0 ++ y.0) u y.2)

  pub over : (s u t : List ℕ) → items s ≡ Ok u → content_at q (s ++ t) ≡ behind_front u (content_at q t)
  over s u t e = over_in (length s) s u t (omega arith) e

  plain_items : (s : List ℕ) → all_of (is_plain q) s ≡ true → items s ≡ Ok s
  plain_items [] e = refl
  plain_items (b ∷ s) e =
      let h = and_parts (is_plain q b) (all_of (is_plain q) s) e in
      items_first b s (b ∷ []) s (plain_item q b s h.0) ∙ ap (with_front (b ∷ [])) (plain_items s h.1)

  pub plain_over : (s t : List ℕ) → all_of (is_plain q) s ≡ true → content_at q (s ++ t)
      ≡ behind_front s (content_at q t)
  plain_over s t e = over s s t (plain_items s e)

  pub plain_run : (bytes s t : List ℕ) → run (is_plain q) bytes ≡ (s, t) → content_at q bytes
      ≡ behind_front s (content_at q t)
  plain_run bytes s t e =
      let p = subst (Parts (is_plain q) bytes) e (run_parts (is_plain q) bytes) in
      ap (content_at q) p.0 ∙ plain_over s t p.1

  -- ---- up to the quote, or to what is no item

  -- what the whole text stands for
  abbrev pub value : List ℕ → Option (List ℕ)
  value s = result_ok (items s)

  pub content_read : (s u r : List ℕ) → value s ≡ Some u → content_at q (s ++ quote_of q ∷ r) ≡ Ok (u, r)
  content_read s u r e =
      over s u (quote_of q ∷ r) (some_is (items s) u e) ∙ ap (behind_front u) (content_closes (quote_of q) r refl)
      ∙ ap (λ (x : List ℕ). ok (x, r)) (append-nil u)

  abbrev pub IsBad : TextKind → List ℕ → Type 0
  IsBad k t = IsBadItem (λ b. item_of q b ≡ Err k) (quote_of q) t

  bad_fails : (t : List ℕ) (k : TextKind) → IsBad k t → content_at q t ≡ Err k
  bad_fails [] k h =
      ap (λ (x : TextKind). err {A = List ℕ × List ℕ} x)
      (err_same {A = List ℕ × List ℕ} Unclosed k (sym (item_none q) ∙ h.1))
  bad_fails (b ∷ bs) k h = content_fails b bs k (λ e. h.0 bs (ap (λ c. c ∷ bs) e)) h.1

  pub content_spoiled : (s u t : List ℕ) (k : TextKind) → value s ≡ Some u → IsBad k t → content_at q (s ++ t) ≡ Err k
  content_spoiled s u t k e h = over s u t (some_is (items s) u e) ∙ ap (behind_front u) (bad_fails t k h)

  -- ---- the other way round

  -- what is well written, and what comes then
  record Split (bytes : List ℕ) : Type 0 where
    front : List ℕ
    content : List ℕ
    tail : List ℕ
    is : bytes ≡ front ++ tail
    reads : items front ≡ Ok content
    stops : ((r : List ℕ) × (tail ≡ quote_of q ∷ r)) ⊎ ((k : TextKind) × IsBad k tail)

  split_more : (b : ℕ) (bs i m : List ℕ) → item_of q (b ∷ bs) ≡ Ok (i, m) → Split m → Split (b ∷ bs)
  split_more b bs i m e s =
      let h = item_local q (b ∷ bs) i m e in
      let f = front_some (b ∷ bs) i m h in
      let whole : h.0 ++ s.front ≡ f.0 ∷ (f.1 ++ s.front) = ap (λ x. x ++ s.front) f.2 in
      let first : item_of q (f.0 ∷ (f.1 ++ s.front)) ≡ Ok (i, s.front) =
      subst (λ x. item_of q x ≡ Ok (i, s.front)) whole (h.2 s.front) in
      let all : items (f.0 ∷ (f.1 ++ s.front)) ≡ Ok (i ++ s.content) =
      items_first f.0 (f.1 ++ s.front) i s.front first ∙ ap (with_front i) s.reads in
      record {
        front = h.0 ++ s.front;
        content = i ++ s.content;
        tail = s.tail;
        is = h.1 ∙ ap (λ x. h.0 ++ x) s.is ∙ sym (append_assoc h.0 s.front s.tail);
        reads = subst (λ x. items x ≡ Ok (i ++ s.content)) (sym whole) all;
        stops = s.stops;
      }

  first_of_two : (b c : ℕ) (bs r : List ℕ) → b ∷ bs ≡ c ∷ r → b ≡ c
  first_of_two b c bs r e = cc

  split : (n : ℕ) (bytes : List ℕ) → length bytes ≤ n → Split bytes
  split n [] l =
      record {
        front = [];
        content = [];
        tail = [];
        is = refl;
        reads = refl;
        stops = inr
            (Unclosed, ((λ r e. cc), item_none q));
      }
  split zero (b ∷ bs) l = absurd (omega arith)
  split (suc n) (b ∷ bs) l = by (eqb b (quote_of q)) (item_of q (b ∷ bs)) refl refl (λ m h. split n m (omega arith))
    where
      by : (t : Bool) (o : Result (List ℕ × List ℕ) TextKind) → eqb b (quote_of q) ≡ t → item_of q (b ∷ bs) ≡ o
          → ((m : List ℕ) → length m ≤ length bs → Split m) → Split (b ∷ bs)
      by true o d e f =
          record {
            front = [];
            content = [];
            tail = b ∷ bs;
            is = refl;
            reads = refl;
            stops = inl
                (bs, ap (λ c. c ∷ bs) (eqb-true b (quote_of q) d));
          }
      by false (Err k) d e f =
          record {
            front = [];
            content = [];
            tail = b ∷ bs;
            is = refl;
            reads = refl;
            stops = inr
                (k, ((λ r h. eqb-false b (quote_of q) d (first_of_two b (quote_of q) bs r h)), e));
          }
      by false (Ok x) d e f = let less = shorter (b ∷ bs) x.0 x.1 e in split_more b bs x.0 x.1 e (f x.1 (omega arith))

  -- what is read stands before the quote, and what isn't stands before what is no item
  abbrev pub Stands : List ℕ → List ℕ × List ℕ → Type 0
  Stands bytes x = (s : List ℕ) × (bytes ≡ s ++ quote_of q ∷ x.1) × (value s ≡ Some x.0)

  abbrev pub Spoiled : List ℕ → TextKind → Type 0
  Spoiled bytes k = (s : List ℕ) × (t : List ℕ) × (u : List ℕ) × (bytes ≡ s ++ t) × (value s ≡ Some u) × IsBad k t

  pub content_told : (bytes : List ℕ) → Told (Stands bytes) (Spoiled bytes) (content_at q bytes)
  content_told bytes = by s.stops
    where
      s : Split bytes
      s = split (length bytes) bytes (omega arith)

      reads : value s.front ≡ Some s.content
      reads = ap result_ok s.reads

      by : (((r : List ℕ) × (s.tail ≡ quote_of q ∷ r)) ⊎ ((k : TextKind) × IsBad k s.tail))
          → Told (Stands bytes) (Spoiled bytes) (content_at q bytes)
      by (inl h) =
          let is : bytes ≡ s.front ++ quote_of q ∷ h.0 = s.is ∙ ap (λ x. s.front ++ x) h.1 in
          rw (ap (content_at q) is ∙ content_read s.front s.content h.0 reads) (s.front, is, reads)
      by (inr h) =
          rw (ap (content_at q) s.is ∙ content_spoiled s.front s.content s.tail h.0 reads h.1)
          (s.front, s.tail, s.content, s.is, reads, h.1)
