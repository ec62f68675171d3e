-- How the logic stores patterns: as trees of numbers, no two alike.
use Rattle.std.specs.Prelude.{◌≡◌, refl}
use Rattle.std.specs.Coded.{Coded}
use Rattle.std.proofs.Common.{ap}
use base.Stored.{Gv, gnil, gnum, gcons}
use Rattle.pv_value.specs.Lemmas.Coded.{plain_code}
use Rattle.dp_pattern.specs.Patterns.{Extent, Open, Exactly, Group, InRecord, InSequence, InDictionary}
use Rattle.dp_pattern.specs.Patterns.{Pattern, discard, bind, literal, group, Fields, no_fields, then_field}

abbrev extent_code : Extent → Gv
extent_code Open = gnil
extent_code (Exactly n) = gnum n

extent_inj : (d e : Extent) → extent_code d ≡ extent_code e → d ≡ e
extent_inj Open Open is = refl
extent_inj (Exactly n) (Exactly m) is = cc
extent_inj d e is = absurd cc

abbrev group_code : Group → Gv
group_code (InSequence e) = gcons (gnum 0) (extent_code e)
group_code InDictionary = gnil
group_code (InRecord label e) = gcons (gcons gnil (extent_code e)) (plain_code.code label)

group_inj : (g h : Group) → group_code g ≡ group_code h → g ≡ h
group_inj (InSequence d) (InSequence e) is =
    let f : extent_code d ≡ extent_code e = cc in
    ap InSequence (extent_inj d e f)
group_inj InDictionary InDictionary is = refl
group_inj (InRecord l d) (InRecord m e) is =
    let f : plain_code.code l ≡ plain_code.code m = cc in
    let g : extent_code d ≡ extent_code e = cc in
    λ i. InRecord (plain_code.inj l m f i) (extent_inj d e g i)
group_inj g h is = absurd cc

abbrev mutual
  pub code : Pattern → Gv
  code discard = gnil
  code (bind p) = gcons gnil (code p)
  code (literal u) = gcons (gnum 0) (plain_code.code u)
  code (group g fs) = gcons (gcons gnil (group_code g)) (codes fs)

  pub codes : Fields → Gv
  codes no_fields = gnil
  codes (then_field k p fs) = gcons (gcons (plain_code.code k) (code p)) (codes fs)

mutual
  pub code_inj : (p q : Pattern) → code p ≡ code q → p ≡ q
  code_inj discard discard e = refl
  code_inj (bind p) (bind q) e = let f : code p ≡ code q = cc in ap bind (code_inj p q f)
  code_inj (literal u) (literal v) e =
      let f : plain_code.code u ≡ plain_code.code v = cc in
      ap literal (plain_code.inj u v f)
  code_inj (group g fs) (group h gs) e =
      let f : group_code g ≡ group_code h = cc in
      let k : codes fs ≡ codes gs = cc in
      λ i. group (group_inj g h f i) (codes_inj fs gs k i)
  code_inj p q e = absurd cc

  pub codes_inj : (fs gs : Fields) → codes fs ≡ codes gs → fs ≡ gs
  codes_inj no_fields no_fields e = refl
  codes_inj (then_field k p fs) (then_field l q gs) e =
      let f : plain_code.code k ≡ plain_code.code l = cc in
      let g : code p ≡ code q = cc in
      let h : codes fs ≡ codes gs = cc in
      λ i. then_field (plain_code.inj k l f i) (code_inj p q g i) (codes_inj fs gs h i)
  codes_inj fs gs e = absurd cc

abbrev pub pattern_code : Coded Pattern
pattern_code = record { code = code; inj = code_inj }
