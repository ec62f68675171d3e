-- How the logic stores patterns: as trees of numbers, no two alike.
use Rattle.std.specs.Prelude.{◌≡◌, ℕ, List, refl}
use Rattle.std.specs.Coded.{Coded, coded_list, coded_ℕ}
use Rattle.std.proofs.Common.{ap}
use base.Stored.{Gv, gnil, gnum, gcons}
use Rattle.pv_value.specs.Lemmas.Coded.{plain_code}
use Rattle.pv_words.specs.Lemmas.Kinds.{kind_number, kind_inj}
use Rattle.ps_schema.specs.Patterns.{PlainPattern, any_value, of_kind, literal, reference, embedded_as, record_with}
use Rattle.ps_schema.specs.Patterns.{record_of_both, tuple, tuple_with_rest, set_of_all, dictionary_of_all}
use Rattle.ps_schema.specs.Patterns.{dictionary_with, one_of, all_of, PlainPatterns, no_patterns, then_pattern}
use Rattle.ps_schema.specs.Patterns.{PlainFields, no_fields, then_field}

abbrev pub text_code : Coded (List ℕ)
text_code = coded_list coded_ℕ

abbrev mutual
  pub code : PlainPattern → Gv
  code any_value = gnil
  code (of_kind k) = gnum (kind_number k)
  code (literal v) = gcons (gnum 0) (plain_code.code v)
  code (reference a) = gcons (gnum 1) (text_code.code a)
  code (embedded_as p) = gcons (gnum 2) (code p)
  code (record_with l ps) = gcons (gnum 3) (gcons (plain_code.code l) (codes ps))
  code (record_of_both p q) = gcons (gnum 4) (gcons (code p) (code q))
  code (tuple ps) = gcons (gnum 5) (codes ps)
  code (tuple_with_rest ps q) = gcons (gnum 6) (gcons (codes ps) (code q))
  code (set_of_all p) = gcons (gnum 7) (code p)
  code (dictionary_of_all p q) = gcons (gnum 8) (gcons (code p) (code q))
  code (dictionary_with fs) = gcons (gnum 9) (field_codes fs)
  code (one_of ps) = gcons (gnum 10) (codes ps)
  code (all_of ps) = gcons (gnum 11) (codes ps)

  pub codes : PlainPatterns → Gv
  codes no_patterns = gnil
  codes (then_pattern p ps) = gcons (code p) (codes ps)

  pub field_codes : PlainFields → Gv
  field_codes no_fields = gnil
  field_codes (then_field k p fs) = gcons (gcons (plain_code.code k) (code p)) (field_codes fs)

mutual
  pub code_inj : (p q : PlainPattern) → code p ≡ code q → p ≡ q
  code_inj any_value any_value e = refl
  code_inj (of_kind k) (of_kind l) e =
      let f : kind_number k ≡ kind_number l = cc in ap of_kind (kind_inj k l f)
  code_inj (literal u) (literal v) e =
      let f : plain_code.code u ≡ plain_code.code v = cc in ap literal (plain_code.inj u v f)
  code_inj (reference a) (reference b) e =
      let f : text_code.code a ≡ text_code.code b = cc in ap reference (text_code.inj a b f)
  code_inj (embedded_as p) (embedded_as q) e = let f : code p ≡ code q = cc in ap embedded_as (code_inj p q f)
  code_inj (record_with l ps) (record_with m qs) e =
      let f : plain_code.code l ≡ plain_code.code m = cc in
      let g : codes ps ≡ codes qs = cc in
      λ i. record_with (plain_code.inj l m f i) (codes_inj ps qs g i)
  code_inj (record_of_both p q) (record_of_both r s) e =
      let f : code p ≡ code r = cc in
      let g : code q ≡ code s = cc in
      λ i. record_of_both (code_inj p r f i) (code_inj q s g i)
  code_inj (tuple ps) (tuple qs) e = let f : codes ps ≡ codes qs = cc in ap tuple (codes_inj ps qs f)
  code_inj (tuple_with_rest ps p) (tuple_with_rest qs q) e =
      let f : codes ps ≡ codes qs = cc in
      let g : code p ≡ code q = cc in
      λ i. tuple_with_rest (codes_inj ps qs f i) (code_inj p q g i)
  code_inj (set_of_all p) (set_of_all q) e = let f : code p ≡ code q = cc in ap set_of_all (code_inj p q f)
  code_inj (dictionary_of_all p q) (dictionary_of_all r s) e =
      let f : code p ≡ code r = cc in
      let g : code q ≡ code s = cc in
      λ i. dictionary_of_all (code_inj p r f i) (code_inj q s g i)
  code_inj (dictionary_with fs) (dictionary_with gs) e =
      let f : field_codes fs ≡ field_codes gs = cc in ap dictionary_with (field_codes_inj fs gs f)
  code_inj (one_of ps) (one_of qs) e = let f : codes ps ≡ codes qs = cc in ap one_of (codes_inj ps qs f)
  code_inj (all_of ps) (all_of qs) e = let f : codes ps ≡ codes qs = cc in ap all_of (codes_inj ps qs f)
  code_inj p q e = absurd cc

  pub codes_inj : (ps qs : PlainPatterns) → codes ps ≡ codes qs → ps ≡ qs
  codes_inj no_patterns no_patterns e = refl
  codes_inj (then_pattern p ps) (then_pattern q qs) e =
      let f : code p ≡ code q = cc in
      let g : codes ps ≡ codes qs = cc in
      λ i. then_pattern (code_inj p q f i) (codes_inj ps qs g i)
  codes_inj ps qs e = absurd cc

  pub field_codes_inj : (fs gs : PlainFields) → field_codes fs ≡ field_codes gs → fs ≡ gs
  field_codes_inj no_fields no_fields e = refl
  field_codes_inj (then_field k p fs) (then_field l q gs) e =
      let f : plain_code.code k ≡ plain_code.code l = cc in
      let g : code p ≡ code q = cc in
      let h : field_codes fs ≡ field_codes gs = cc in
      λ i. then_field (plain_code.inj k l f i) (code_inj p q g i) (field_codes_inj fs gs h i)
  field_codes_inj fs gs e = absurd cc

abbrev pub pattern_code : Coded PlainPattern
pattern_code = record { code = code; inj = code_inj }
