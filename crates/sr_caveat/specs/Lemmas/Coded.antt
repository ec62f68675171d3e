-- How the logic stores patterns, templates and caveats: as trees of numbers, no two alike.
use Rattle.std.specs.Prelude.{◌≡◌, ℕ, suc, List, refl}
use Rattle.std.specs.Coded.{Coded, coded_list, coded_ℕ}
use Rattle.std.proofs.Common.{ap}
use base.Stored.{Gv, gnil, gnum, gcons}
use Rattle.pv_value.specs.Lemmas.Coded.{plain_code}
use Rattle.pv_value.specs.Plain.{Plains, sequence}
use Rattle.pv_words.specs.Lemmas.Kinds as kinds
use Rattle.sr_caveat.specs.Patterns.{Kind, Atom, Embedded}
use Rattle.sr_caveat.specs.Patterns.{Pattern, discard, of_kind, bind, all_of, none_of, literal, record_with}
use Rattle.sr_caveat.specs.Patterns.{sequence_with, dictionary_with, Patterns, no_patterns, then_pattern}
use Rattle.sr_caveat.specs.Patterns.{Template, attenuate, binding, constant, record_from, sequence_from, dictionary_of}
use Rattle.sr_caveat.specs.Patterns.{Templates, no_templates, then_template}
use Rattle.sr_caveat.specs.Patterns.{Caveat, rewrite, one_of, reject, guard, Caveats, no_caveats}
use Rattle.sr_caveat.specs.Patterns.{then_caveat, Rewrites, no_rewrites, then_rewrite}

abbrev text_code : Coded (List ℕ)
text_code = coded_list coded_ℕ

keys_inj : (ks ls : Plains) → plain_code.code (sequence ks) ≡ plain_code.code (sequence ls) → ks ≡ ls
keys_inj ks ls e = let f : sequence ks ≡ sequence ls = plain_code.inj (sequence ks) (sequence ls) e in cc

-- ---- kinds, by their numbers

abbrev kind_number : Kind → ℕ
kind_number Embedded = 0
kind_number (Atom k) = suc (kinds.kind_number k)

kind_inj : (k l : Kind) → kind_number k ≡ kind_number l → k ≡ l
kind_inj Embedded Embedded e = refl
kind_inj (Atom k) (Atom l) e =
    let f : kinds.kind_number k ≡ kinds.kind_number l = cc in ap Atom (kinds.kind_inj k l f)
kind_inj k l e = absurd cc

-- ---- patterns

abbrev mutual
  pub code : Pattern → Gv
  code discard = gnil
  code (of_kind k) = gnum (kind_number k)
  code (bind p) = gcons (gnum 0) (code p)
  code (all_of ps) = gcons (gnum 1) (codes ps)
  code (none_of p) = gcons (gnum 2) (code p)
  code (literal u) = gcons (gnum 3) (plain_code.code u)
  code (record_with l ps) = gcons (gnum 4) (gcons (plain_code.code l) (codes ps))
  code (sequence_with ps) = gcons (gnum 5) (codes ps)
  code (dictionary_with ks ps) = gcons (gnum 6) (gcons (plain_code.code (sequence ks)) (codes ps))

  pub codes : Patterns → Gv
  codes no_patterns = gnil
  codes (then_pattern p ps) = gcons (code p) (codes ps)

mutual
  pub code_inj : (p q : Pattern) → code p ≡ code q → p ≡ q
  code_inj discard discard e = refl
  code_inj (of_kind k) (of_kind l) e =
      let f : kind_number k ≡ kind_number l = cc in ap of_kind (kind_inj k l f)
  code_inj (bind p) (bind q) e = let f : code p ≡ code q = cc in ap bind (code_inj p q f)
  code_inj (all_of ps) (all_of qs) e = let f : codes ps ≡ codes qs = cc in ap all_of (codes_inj ps qs f)
  code_inj (none_of p) (none_of q) e = let f : code p ≡ code q = cc in ap none_of (code_inj p q f)
  code_inj (literal u) (literal v) e =
      let f : plain_code.code u ≡ plain_code.code v = cc in
      ap literal (plain_code.inj u v f)
  code_inj (record_with l ps) (record_with m qs) e =
      let f : plain_code.code l ≡ plain_code.code m = cc in
      let g : codes ps ≡ codes qs = cc in
      λ i. record_with (plain_code.inj l m f i) (codes_inj ps qs g i)
  code_inj (sequence_with ps) (sequence_with qs) e =
      let f : codes ps ≡ codes qs = cc in ap sequence_with (codes_inj ps qs f)
  code_inj (dictionary_with ks ps) (dictionary_with ls qs) e =
      let f : plain_code.code (sequence ks) ≡ plain_code.code (sequence ls) = cc in
      let g : codes ps ≡ codes qs = cc in
      λ i. dictionary_with (keys_inj ks ls f i) (codes_inj ps qs g i)
  code_inj p q e = absurd cc

  pub codes_inj : (ps qs : Patterns) → codes ps ≡ codes qs → ps ≡ qs
  codes_inj no_patterns no_patterns e = refl
  codes_inj (then_pattern p ps) (then_pattern q qs) e =
      let f : code p ≡ code q = cc in
      let g : codes ps ≡ codes qs = cc in
      λ i. then_pattern (code_inj p q f i) (codes_inj ps qs g i)
  codes_inj ps qs e = absurd cc

abbrev pub pattern_code : Coded Pattern
pattern_code = record { code = code; inj = code_inj }

-- ---- templates and caveats

abbrev mutual
  pub template_code_of : Template → Gv
  template_code_of (attenuate t cs) = gcons (gnum 0) (gcons (template_code_of t) (caveat_codes cs))
  template_code_of (binding n) = gnum n
  template_code_of (constant v) = gcons (gnum 1) (plain_code.code v)
  template_code_of (record_from l ts) = gcons (gnum 2) (gcons (plain_code.code l) (template_codes ts))
  template_code_of (sequence_from ts) = gcons (gnum 3) (template_codes ts)
  template_code_of (dictionary_of ks ts) = gcons (gnum 4) (gcons (plain_code.code (sequence ks)) (template_codes ts))

  pub template_codes : Templates → Gv
  template_codes no_templates = gnil
  template_codes (then_template t ts) = gcons (template_code_of t) (template_codes ts)

  pub caveat_code_of : Caveat → Gv
  caveat_code_of (rewrite p t) = gcons (gnum 0) (gcons (code p) (template_code_of t))
  caveat_code_of (one_of rs) = gcons (gnum 1) (rewrite_codes rs)
  caveat_code_of (reject p) = gcons (gnum 2) (code p)
  caveat_code_of (guard name) = gcons (gnum 3) (text_code.code name)

  pub caveat_codes : Caveats → Gv
  caveat_codes no_caveats = gnil
  caveat_codes (then_caveat c cs) = gcons (caveat_code_of c) (caveat_codes cs)

  pub rewrite_codes : Rewrites → Gv
  rewrite_codes no_rewrites = gnil
  rewrite_codes (then_rewrite p t rs) = gcons (gcons (code p) (template_code_of t)) (rewrite_codes rs)

mutual
  pub template_inj : (t u : Template) → template_code_of t ≡ template_code_of u → t ≡ u
  template_inj (attenuate t cs) (attenuate u ds) e =
      let f : template_code_of t ≡ template_code_of u = cc in
      let g : caveat_codes cs ≡ caveat_codes ds = cc in
      λ i. attenuate (template_inj t u f i) (caveats_inj cs ds g i)
  template_inj (binding m) (binding n) e = let f : m ≡ n = cc in ap binding f
  template_inj (constant u) (constant v) e =
      let f : plain_code.code u ≡ plain_code.code v = cc in
      ap constant (plain_code.inj u v f)
  template_inj (record_from l ts) (record_from m us) e =
      let f : plain_code.code l ≡ plain_code.code m = cc in
      let g : template_codes ts ≡ template_codes us = cc in
      λ i. record_from (plain_code.inj l m f i) (templates_inj ts us g i)
  template_inj (sequence_from ts) (sequence_from us) e =
      let f : template_codes ts ≡ template_codes us = cc in ap sequence_from (templates_inj ts us f)
  template_inj (dictionary_of ks ts) (dictionary_of ls us) e =
      let f : plain_code.code (sequence ks) ≡ plain_code.code (sequence ls) = cc in
      let g : template_codes ts ≡ template_codes us = cc in
      λ i. dictionary_of (keys_inj ks ls f i) (templates_inj ts us g i)
  template_inj t u e = absurd cc

  pub templates_inj : (ts us : Templates) → template_codes ts ≡ template_codes us → ts ≡ us
  templates_inj no_templates no_templates e = refl
  templates_inj (then_template t ts) (then_template u us) e =
      let f : template_code_of t ≡ template_code_of u = cc in
      let g : template_codes ts ≡ template_codes us = cc in
      λ i. then_template (template_inj t u f i) (templates_inj ts us g i)
  templates_inj ts us e = absurd cc

  pub caveat_inj : (c d : Caveat) → caveat_code_of c ≡ caveat_code_of d → c ≡ d
  caveat_inj (rewrite p t) (rewrite q u) e =
      let f : code p ≡ code q = cc in
      let g : template_code_of t ≡ template_code_of u = cc in
      λ i. rewrite (code_inj p q f i) (template_inj t u g i)
  caveat_inj (one_of rs) (one_of ss) e =
      let f : rewrite_codes rs ≡ rewrite_codes ss = cc in ap one_of (rewrites_inj rs ss f)
  caveat_inj (reject p) (reject q) e = let f : code p ≡ code q = cc in ap reject (code_inj p q f)
  caveat_inj (guard m) (guard n) e =
      let f : text_code.code m ≡ text_code.code n = cc in ap guard (text_code.inj m n f)
  caveat_inj c d e = absurd cc

  pub caveats_inj : (cs ds : Caveats) → caveat_codes cs ≡ caveat_codes ds → cs ≡ ds
  caveats_inj no_caveats no_caveats e = refl
  caveats_inj (then_caveat c cs) (then_caveat d ds) e =
      let f : caveat_code_of c ≡ caveat_code_of d = cc in
      let g : caveat_codes cs ≡ caveat_codes ds = cc in
      λ i. then_caveat (caveat_inj c d f i) (caveats_inj cs ds g i)
  caveats_inj cs ds e = absurd cc

  pub rewrites_inj : (rs ss : Rewrites) → rewrite_codes rs ≡ rewrite_codes ss → rs ≡ ss
  rewrites_inj no_rewrites no_rewrites e = refl
  rewrites_inj (then_rewrite p t rs) (then_rewrite q u ss) e =
      let f : code p ≡ code q = cc in
      let g : template_code_of t ≡ template_code_of u = cc in
      let h : rewrite_codes rs ≡ rewrite_codes ss = cc in
      λ i. then_rewrite (code_inj p q f i) (template_inj t u g i) (rewrites_inj rs ss h i)
  rewrites_inj rs ss e = absurd cc

abbrev pub template_code : Coded Template
template_code = record { code = template_code_of; inj = template_inj }

abbrev pub caveat_code : Coded Caveat
caveat_code = record { code = caveat_code_of; inj = caveat_inj }
