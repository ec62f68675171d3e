-- The tokens of a text: what is read of it is what it is, token by token.
use Rattle.std.proofs.Common.{◌≡◌, ◌≢◌, ℕ, zero, suc, ◌+◌, ◌-◌, ◌<◌, ◌≤◌, false, List, [], ◌∷◌, ◌++◌, length, Result}
use Rattle.std.proofs.Common.{Ok, Err, refl, sym, ap, ◌∙◌, subst, length-append, arith}
use Rattle.pv_read.specs.Results.{Fault, ◌>>=◌, within}
use Rattle.pv_read.specs.Leading.{LeadsOver}
use Rattle.pv_read.specs.Lemmas.Binds.{ok, err, Told}
use Rattle.pv_read.specs.Lemmas.Fronts.{with_front, with_front_more}
use Rattle.pv_lex.specs.Gaps.{after_blank}
use Rattle.pv_lex.specs.Marks.{mark_text}
use Rattle.pv_lex.specs.Tokens.{IsToken, LeadsToToken, AreTokens, TokensStop, AreInOrder}
use Rattle.pv_lex.specs.Lexing.{lexeme_at, kind_of, token_of, tokens_in}
use Rattle.pv_lex.specs.Lemmas.GapLaws.{gap_passed, gap_found, after_shorter, after_stays}
use Rattle.pv_lex.specs.Lemmas.Begins.{atom_begins, fault_begins}
use Rattle.pv_lex.specs.Lemmas.Found.{IsLexeme}
use Rattle.pv_lex.specs.Lemmas.Lexemes.{atom_of_read, atom_some, mark_read, fault_read, lexeme_found, fault_found}
use Rattle.pv_lex.specs.declared.kinds.Mark.{Mark}
use Rattle.pv_lex.specs.declared.kinds.Mark.TheVariants as mark
use Rattle.pv_lex.specs.declared.kinds.TokenKind.{TokenKind}
use Rattle.pv_lex.specs.declared.kinds.TokenKind.TheVariants as kind
use Rattle.pv_lex.specs.declared.kinds.Token.{Token}
use Rattle.pv_lex.specs.declared.kinds.Lexeme.{Lexeme}
use Rattle.pv_lex.specs.declared.kinds.Lexeme.TheVariants as lexeme
use Rattle.pv_lex.specs.declared.faults.TextKind.{TextKind}

-- ---- one token

mark_stays : (m : Mark) (r : List ℕ) → (after_blank false (mark_text m ++ r) ≡ mark_text m ++ r)
    × (0 < length (mark_text m))
mark_stays mark.RecordOpen r = (refl, omega arith)
mark_stays mark.RecordClose r = (refl, omega arith)
mark_stays mark.SequenceOpen r = (refl, omega arith)
mark_stays mark.SequenceClose r = (refl, omega arith)
mark_stays mark.SetOpen r = (refl, omega arith)
mark_stays mark.DictionaryOpen r = (refl, omega arith)
mark_stays mark.BraceClose r = (refl, omega arith)
mark_stays mark.Colon r = (refl, omega arith)
mark_stays mark.Comma r = (refl, omega arith)
mark_stays mark.Annotation r = (refl, omega arith)
mark_stays mark.Embedded r = (refl, omega arith)

-- no gap stands before it, it isn't empty, and it is read so
record Seen (k : TokenKind) (t r : List ℕ) : Type 0 where
  read : Lexeme
  of_kind : kind_of read ≡ k
  reads : lexeme_at (t ++ r) ≡ Ok (read, r)
  stays : after_blank false (t ++ r) ≡ t ++ r
  some : 0 < length t

some_length : (t : List ℕ) → t ≢ [] → 0 < length t
some_length [] n = absurd (n refl)
some_length (b ∷ bs) n = omega arith

seen : (k : TokenKind) (t r : List ℕ) → IsToken k t r → Seen k t r
seen (kind.Mark m) t r e =
    let s = mark_stays m r in
    record {
      read = lexeme.Mark m;
      of_kind = refl;
      reads = ap (λ x. lexeme_at (x ++ r)) e ∙ mark_read m r;
      stays = subst (λ x. after_blank false (x ++ r) ≡ x ++ r) (sym e) s.0;
      some = omega (arith, s.1, ap length e);
    }
seen (kind.Atom f) t r (v, h) =
    let b = atom_begins false t v r (f, h) in
    record {
      read = lexeme.Atom f v;
      of_kind = refl;
      reads = atom_of_read f t v r h;
      stays = subst (λ x. after_blank false x ≡ x) (sym b.2) b.3;
      some = some_length t (atom_some f t v r h);
    }

is_token : (x : Lexeme) (t r : List ℕ) → IsLexeme x t r → IsToken (kind_of x) t r
is_token (lexeme.Mark m) t r e = e
is_token (lexeme.Atom f v) t r h = (v, h)

module _ (total : ℕ) where
  -- ---- what is read at the first token

  tokens_first : (k : ℕ) (bytes : List ℕ) (x : Lexeme) (r : List ℕ) → lexeme_at bytes ≡ Ok (x, r)
      → tokens_in total (suc k) bytes
      ≡ with_front (token_of total bytes (x, r) ∷ []) (tokens_in total k (after_blank false r))
  unfolding lexeme_at
  tokens_first k [] x r e = cc
  tokens_first k (b ∷ bs) x r e =
      ap (λ o. within (total - length (b ∷ bs)) o >>= λ y. with_front (token_of total (b ∷ bs) y ∷ [])
      (tokens_in total k (after_blank false y.1))) e

  tokens_fail : (k : ℕ) (bytes : List ℕ) (f : TextKind) → lexeme_at bytes ≡ Err f → bytes ≢ []
      → tokens_in total (suc k) bytes ≡ Err (record { kind = f; place = total - length bytes })
  tokens_fail k [] f e n = absurd (n refl)
  tokens_fail k (b ∷ bs) f e n =
      ap (λ o. within (total - length (b ∷ bs)) o >>= λ y. with_front (token_of total (b ∷ bs) y ∷ [])
      (tokens_in total k (after_blank false y.1))) e

  -- ---- what is read is there

  abbrev Is : List ℕ → Result (List Token) (Fault TextKind) → Type 0
  Is bytes o = Told (AreTokens total bytes) (TokensStop total bytes) o

  is_more : (bytes : List ℕ) (x : Token) (r : List ℕ) (o : Result (List Token) (Fault TextKind))
      → LeadsToToken total bytes x r → Is r o
      → Is bytes (with_front (x ∷ []) o)
  is_more bytes x r (Ok ts) to h = (h.0, (r, to, h.1), h.2)
  is_more bytes x r (Err f) to h = (x ∷ h.0, h.1, h.2, (r, to, h.3), h.4, h.5, h.6)

  pub tokens_told : (k : ℕ) (bytes : List ℕ) → length bytes < k → length bytes ≤ total
      → Is bytes (tokens_in total k (after_blank false bytes))
  tokens_told zero bytes l m = absurd (omega arith)
  tokens_told (suc k) bytes l m = by (after_blank false bytes) refl (λ r n. tokens_told k r (omega arith) (omega arith))
    where
      by_lexeme : (b : ℕ) (bs : List ℕ) → after_blank false bytes ≡ b ∷ bs
          → ((r : List ℕ) → length r < length bytes → Is r (tokens_in total k (after_blank false r)))
          → (o : Result (Lexeme × List ℕ) TextKind) → lexeme_at (b ∷ bs) ≡ o
          → Is bytes (within (total - length (b ∷ bs)) o >>= λ y. with_front (token_of total (b ∷ bs) y ∷ [])
          (tokens_in total k (after_blank false y.1)))
      by_lexeme b bs e next (Err f) h =
          let g = gap_found false bytes b bs e in
          let n = ap length g.1 ∙ length-append g.0 (b ∷ bs) in
          ([], g.0, b ∷ bs, g.1, g.2, fault_found false b bs f (after_stays false bytes b bs e) h, omega (arith, n, m))
      by_lexeme b bs e next (Ok (x, r)) h =
          let g = gap_found false bytes b bs e in
          let f = lexeme_found (b ∷ bs) x r h in
          let t = is_token x f.0 r f.2 in
          let s = seen (kind_of x) f.0 r t in
          let is : bytes ≡ g.0 ++ (f.0 ++ r) = g.1 ∙ ap (λ y. g.0 ++ y) f.1 in
          let n = ap length is ∙ length-append g.0 (f.0 ++ r) in
          let p = length-append f.0 r in
          let q = ap length f.1 in
          is_more bytes (token_of total (b ∷ bs) (x, r)) r _
          (g.0, f.0, is, g.2, t, omega (arith, n, m, q), omega (arith, n, m, p))
          (next r (omega (arith, n, p, s.some)))

      by : (rest : List ℕ) → after_blank false bytes ≡ rest
          → ((r : List ℕ) → length r < length bytes → Is r (tokens_in total k (after_blank false r)))
          → Is bytes (tokens_in total (suc k) rest)
      by [] e next = (bytes, refl, e)
      by (b ∷ bs) e next = by_lexeme b bs e next (lexeme_at (b ∷ bs)) refl

  -- ---- what is there is read

  abbrev token : TokenKind → ℕ → ℕ → Token
  token k s e = record { kind = k; start = s; end = e }

  token_is : (x : Token) (k : TokenKind) (s e : ℕ) → k ≡ x.kind → s ≡ x.start → e ≡ x.end → token k s e ≡ x
  token_is x k s e p q r = ap (λ y. token y s e) p ∙ ap (λ y. token x.kind y e) q ∙ ap (λ y. token x.kind x.start y) r

  leads_seen : (k : ℕ) (bytes : List ℕ) (x : Token) (r : List ℕ) → LeadsToToken total bytes x r
      → (tokens_in total (suc k) (after_blank false bytes)
      ≡ with_front (x ∷ []) (tokens_in total k (after_blank false r))) × (length r < length bytes)
  leads_seen k bytes x r (g, t, is, gap, token, start, end) =
      let s = seen x.kind t r token in
      let same : token_of total (t ++ r) (s.read, r) ≡ x =
      token_is x (kind_of s.read) _ _ s.of_kind (omega (arith, start)) (omega (arith, end)) in (
        ap (λ y. tokens_in total (suc k) (after_blank false y)) is
            ∙ ap (tokens_in total (suc k)) (gap_passed false g (t ++ r) gap ∙ s.stays)
            ∙ tokens_first k (t ++ r) s.read r s.reads
            ∙ ap (λ y. with_front (y ∷ []) (tokens_in total k (after_blank false r))) same,
        omega (arith, ap length is, length-append g (t ++ r), length-append t r, s.some),
      )

  pub tokens_read : (k : ℕ) (bytes : List ℕ) (ts : List Token) → length bytes < k → AreTokens total bytes ts
      → tokens_in total k (after_blank false bytes) ≡ Ok ts
  tokens_read zero bytes ts l h = absurd (omega arith)
  tokens_read (suc k) bytes [] l (rest, is, last) =
      ap (λ y. tokens_in total (suc k) (after_blank false y)) is ∙ ap (tokens_in total (suc k)) last
  tokens_read (suc k) bytes (x ∷ xs) l (rest, (r, to, leads), last) =
      let s = leads_seen k bytes x r to in
      s.0 ∙ ap (with_front (x ∷ [])) (tokens_read k r xs (omega (arith, s.1)) (rest, leads, last))

  pub stop_read : (k : ℕ) (bytes : List ℕ) (f : Fault TextKind) → length bytes < k → TokensStop total bytes f
      → tokens_in total k (after_blank false bytes) ≡ Err f
  stop_read zero bytes f l h = absurd (omega arith)
  stop_read (suc k) bytes f l ([], g, u, is, gap, fault, place) =
      let b = fault_begins false u f.kind fault in
      let stays : after_blank false u ≡ u = subst (λ y. after_blank false y ≡ y) (sym b.2) b.3 in
      let at : total - length u ≡ f.place = omega (arith, place) in
      ap (λ y. tokens_in total (suc k) (after_blank false y)) is
      ∙ ap (tokens_in total (suc k)) (gap_passed false g u gap ∙ stays)
      ∙ tokens_fail k u f.kind (fault_read u f.kind fault) (λ e. cc (b.2))
      ∙ ap (λ p. err (record { kind = f.kind; place = p })) at
  stop_read (suc k) bytes f l (x ∷ xs, g, u, (r, to, leads), gap, fault, place) =
      let s = leads_seen k bytes x r to in
      s.0 ∙ ap (with_front (x ∷ [])) (stop_read k r f (omega (arith, s.1)) (xs, g, u, leads, gap, fault, place))

  -- ---- in order

  pub in_order : (from : ℕ) (bytes : List ℕ) (ts : List Token) (rest : List ℕ)
      → LeadsOver (LeadsToToken total) bytes ts rest → from + length bytes ≤ total → AreInOrder total from ts
  in_order from bytes [] rest is l = omega arith
  in_order from bytes (x ∷ xs) rest (r, to, leads) l =
      let (g, t, is, gap, token, start, end) = to in
      let s = seen x.kind t r token in
      let n = ap length is ∙ length-append g (t ++ r) in
      let p = length-append t r in (
        omega (arith, n, start),
        omega (arith, start, end, p, s.some),
        in_order x.end r xs rest leads
            (omega (arith, end)),
      )

  -- ---- the loop

  pub none_before : (o : Result (List Token) (Fault TextKind)) (front : List Token) → front ≡ [] → with_front front o
      ≡ o
  none_before (Ok ts) front e = ap (λ x. ok (x ++ ts)) e
  none_before (Err f) front e = refl

  pub one_more : (k : ℕ) (rest : List ℕ) (x : Lexeme) (r more : List ℕ) (front new : List Token)
      (all : Result (List Token) (Fault TextKind))
      → with_front front (tokens_in total k rest) ≡ all → length rest < k → lexeme_at rest ≡ Ok (x, r)
      → length r < length rest
      → new ≡ front ++ token_of total rest (x, r) ∷ [] → more ≡ after_blank false r
      → (j : ℕ) × (length more < j) × (with_front new (tokens_in total j more) ≡ all)
  one_more zero rest x r more front new all i l e s is next = absurd (omega arith)
  one_more (suc k) rest x r more front new all i l e s is next = (
    k,
    omega (arith, ap length next, after_shorter false r),
    rw (is, next) (with_front_more front (token_of total rest (x, r) ∷ []) (tokens_in total k (after_blank false r))
        ∙ ap (with_front front) (sym (tokens_first k rest x r e)) ∙ i),
  )
