-- What an end says of the status, of the line, of the dial and of the count that rose.
use Rattle.std.proofs.Common.{◌≡◌, ◌≢◌, ◌⊎◌, ℕ, List, ◌∷◌, [], ◌++◌, Contains, Option, codes, true, lit<, arith}
use Rattle.std.proofs.Common.{refl, sym, subst, inl, inr}
use Rattle.std.proofs.lemmas.Fmt.{decimal_digit}
use Rattle.out_ports.specs.Ports.{Rose}
use Rattle.out_ports.specs.Dialled.{ToldLink}
use Rattle.dq_link.specs.Asked.{CauseOf, NoneFell, HostRest, RestStays, is_behind_dial}
use Rattle.dq_link.specs.declared.dialling.QueryEnd.{QueryEnd}
use Rattle.dq_link.specs.declared.dialling.QueryEnd.TheVariants as end
use Rattle.dsd_top.specs.Lines.{words_of, line_of}
use Rattle.dsd_top.specs.declared.faults.Fault.TheVariants as fault
use Rattle.dsd_query.specs.Ends.{status_by, words_by, lines, query_statuses, Says}

pub known : (e : QueryEnd) (n : ℕ) → n ≡ status_by e → Contains query_statuses n
known end.Done n is = (0, lit< tt, sym is)
known end.HearFailed n is = (2, lit< tt, sym is)
known end.SayFailed n is = (3, lit< tt, sym is)
known end.OutputFailed n is = (3, lit< tt, sym is)
known end.NoMemory n is = (4, lit< tt, sym is)
known end.Spent n is = (5, lit< tt, sym is)
known end.DialFailed n is = (6, lit< tt, sym is)
known end.Rejected n is = (7, lit< tt, sym is)
known end.Left n is = (8, lit< tt, sym is)
known end.BadServer n is = (9, lit< tt, sym is)

pub never_2 : (e : QueryEnd) (n : ℕ) → n ≡ status_by e → n ≢ 2
never_2 end.Done n is two = omega (arith, is, two)
never_2 end.HearFailed n is two = omega (arith, is, two)
never_2 end.SayFailed n is two = omega (arith, is, two)
never_2 end.OutputFailed n is two = omega (arith, is, two)
never_2 end.NoMemory n is two = omega (arith, is, two)
never_2 end.Spent n is two = omega (arith, is, two)
never_2 end.DialFailed n is two = omega (arith, is, two)
never_2 end.Rejected n is two = omega (arith, is, two)
never_2 end.Left n is two = omega (arith, is, two)
never_2 end.BadServer n is two = omega (arith, is, two)

-- ---- the line

has_line : (e : QueryEnd) → status_by e ≢ 0 → Contains lines (status_by e, words_by e)
has_line end.Done not = absurd (not refl)
has_line end.HearFailed not = (1, lit< tt, refl)
has_line end.SayFailed not = (2, lit< tt, refl)
has_line end.OutputFailed not = (2, lit< tt, refl)
has_line end.NoMemory not = (3, lit< tt, refl)
has_line end.Spent not = (4, lit< tt, refl)
has_line end.DialFailed not = (5, lit< tt, refl)
has_line end.Rejected not = (6, lit< tt, refl)
has_line end.Left not = (7, lit< tt, refl)
has_line end.BadServer not = (8, lit< tt, refl)

module _ (Grows : Option (List ℕ) → Option (List ℕ) → List ℕ → Type 0) (before now : Option (List ℕ)) where
  says_so : (n k : ℕ) (words : List ℕ) → n ≡ k → Contains lines (k, words) → Grows before now (words ++ 10 ∷ [])
      → Says Grows n before now
  says_so n k words is line grows =
      let P : ℕ → Type 0 = λ s. Contains lines (s, words) in (words, subst P (sym is) line, grows)

  pub says_end : (e : QueryEnd) (n : ℕ) → n ≡ status_by e → n ≢ 0 → Grows before now (words_by e ++ 10 ∷ [])
      → Says Grows n before now
  says_end e n is not grows =
      says_so n (status_by e) (words_by e) is (has_line e (subst (λ s. s ≢ 0) is not)) grows

  pub says_limit : (e : QueryEnd) → e ≡ end.Spent → Grows before now (line_of (fault.Limit 7))
      → Grows before now (words_by e ++ 10 ∷ [])
  says_limit e is grows =
      let P : QueryEnd → Type 0 = λ x. Grows before now (words_by x ++ 10 ∷ []) in
      let Q : List ℕ → Type 0 = λ ds. Grows before now (words_of (fault.Limit 7) ++ ds ++ 10 ∷ []) in
      subst P (sym is) (subst Q (decimal_digit 7 (lit< tt)) grows)

  pub says_bad_words : (n : ℕ) → n ≡ 2 → Grows before now (line_of fault.BadWords) → Says Grows n before now
  says_bad_words n is grows = says_so n 2 (codes "dsd: bad words") is (0, lit< tt, refl) grows

  pub says_no_memory : (n : ℕ) → n ≡ 5 → Grows before now (line_of fault.NoMemory) → Says Grows n before now
  says_no_memory n is grows = says_so n 5 (codes "dsd: out of memory") is (3, lit< tt, refl) grows

-- ---- the dial, and what rose

pub is_dialled : (e : QueryEnd) (n : ℕ) → n ≡ status_by e → n ≢ 5 → n ≢ 11 → is_behind_dial e ≡ true
is_dialled end.Done n is five eleven = refl
is_dialled end.HearFailed n is five eleven = refl
is_dialled end.SayFailed n is five eleven = refl
is_dialled end.OutputFailed n is five eleven = refl
is_dialled end.NoMemory n is five eleven = absurd (five is)
is_dialled end.Spent n is five eleven = refl
is_dialled end.DialFailed n is five eleven = absurd (eleven is)
is_dialled end.Rejected n is five eleven = refl
is_dialled end.Left n is five eleven = refl
is_dialled end.BadServer n is five eleven = refl

module _ (before now : ToldLink) (output outputs : ℕ) where
  pub hearing_rose : (e : QueryEnd) (n : ℕ) → n ≡ status_by e → CauseOf e before now output outputs → n ≡ 3
      → Rose before.heard.faults now.heard.faults
  hearing_rose end.HearFailed n is rose three = rose
  hearing_rose end.Done n is rose three = absurd (omega (arith, is, three))
  hearing_rose end.SayFailed n is rose three = absurd (omega (arith, is, three))
  hearing_rose end.OutputFailed n is rose three = absurd (omega (arith, is, three))
  hearing_rose end.NoMemory n is rose three = absurd (omega (arith, is, three))
  hearing_rose end.Spent n is rose three = absurd (omega (arith, is, three))
  hearing_rose end.DialFailed n is rose three = absurd (omega (arith, is, three))
  hearing_rose end.Rejected n is rose three = absurd (omega (arith, is, three))
  hearing_rose end.Left n is rose three = absurd (omega (arith, is, three))
  hearing_rose end.BadServer n is rose three = absurd (omega (arith, is, three))

  pub writing_rose : (e : QueryEnd) (n : ℕ) → n ≡ status_by e → CauseOf e before now output outputs → n ≡ 4
      → Rose output outputs ⊎ Rose before.said.faults now.said.faults
  writing_rose end.SayFailed n is rose four = inr rose
  writing_rose end.OutputFailed n is rose four = inl rose
  writing_rose end.Done n is rose four = absurd (omega (arith, is, four))
  writing_rose end.HearFailed n is rose four = absurd (omega (arith, is, four))
  writing_rose end.NoMemory n is rose four = absurd (omega (arith, is, four))
  writing_rose end.Spent n is rose four = absurd (omega (arith, is, four))
  writing_rose end.DialFailed n is rose four = absurd (omega (arith, is, four))
  writing_rose end.Rejected n is rose four = absurd (omega (arith, is, four))
  writing_rose end.Left n is rose four = absurd (omega (arith, is, four))
  writing_rose end.BadServer n is rose four = absurd (omega (arith, is, four))

  pub dialling_rose : (e : QueryEnd) (n : ℕ) → n ≡ status_by e → CauseOf e before now output outputs → n ≡ 11
      → Rose before.dial_faults now.dial_faults
  dialling_rose end.DialFailed n is rose eleven = rose
  dialling_rose end.Done n is rose eleven = absurd (omega (arith, is, eleven))
  dialling_rose end.HearFailed n is rose eleven = absurd (omega (arith, is, eleven))
  dialling_rose end.SayFailed n is rose eleven = absurd (omega (arith, is, eleven))
  dialling_rose end.OutputFailed n is rose eleven = absurd (omega (arith, is, eleven))
  dialling_rose end.NoMemory n is rose eleven = absurd (omega (arith, is, eleven))
  dialling_rose end.Spent n is rose eleven = absurd (omega (arith, is, eleven))
  dialling_rose end.Rejected n is rose eleven = absurd (omega (arith, is, eleven))
  dialling_rose end.Left n is rose eleven = absurd (omega (arith, is, eleven))
  dialling_rose end.BadServer n is rose eleven = absurd (omega (arith, is, eleven))

-- ---- where nothing is done

pub all_stays : (h : HostRest) → RestStays h h
all_stays h = record {
  files = refl;
  address = refl;
  closed = refl;
  gave = refl;
  stops = refl;
  file_lasting = omega arith;
  port_lasting = omega arith;
  accept_lasting = omega arith;
}

pub none_falls : (l : ToldLink) (output : ℕ) → NoneFell l l output output
none_falls l output = record { dial = omega arith; hear = omega arith; say = omega arith; output = omega arith }
