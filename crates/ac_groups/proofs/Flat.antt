-- What is found in the flat lists is what is found under groups.
use Rattle.std.proofs.Common.{◌≡◌, ℕ, List, [], ◌∷◌, Bool, true, false, cond, ◌&&◌, Option, Some, None}
use Rattle.std.proofs.Common.{refl, sym, ap, ◌∙◌}
use Rattle.std.specs.Option.{option_or}
use Rattle.pv_value.specs.Plain.{Plain}
use Rattle.pv_words.specs.Parts.{same}
use Rattle.ac_groups.specs.Groups.{pair, parts}
use Rattle.ac_groups.specs.Kept.{Group, handle_in, facet_in, with_handles, all_handles, with_facet, all_facets}
use Rattle.ac_groups.proofs.ByMarks.{marked_at, MarksAscend, found_marked, found_behind, tail_ascends}
use Rattle.ac_groups.proofs.Entries.{found, Ascend, found_insert, ascend_insert, ascend_none}
use Rattle.ac_groups.proofs.Entries.{same_is, same_self, same_turns}
use Rattle.ac_groups.proofs.Pairs.{same_pairs, no_pair}

-- ---- they ascend

ascend_group : (o : Plain) (hs es : List (Plain × ℕ)) → Ascend es → Ascend (with_handles o hs es)
ascend_group o [] es s = s
ascend_group o (h ∷ hs) es s = ascend_insert (pair o h.0) h.1 (with_handles o hs es) (ascend_group o hs es s)

pub handles_ascend : (gs : List (Plain × Group)) (others : List (Plain × ℕ)) → Ascend others
    → Ascend (all_handles gs others)
handles_ascend [] others s = s
handles_ascend (g ∷ gs) others s =
    ascend_group g.0 g.1.handles.entries (all_handles gs others) (handles_ascend gs others s)

pub facets_ascend : (gs : List (Plain × Group)) → Ascend (all_facets gs)
facets_ascend [] = ascend_none ℕ
facets_ascend (g ∷ gs) = by g.1.facet (facets_ascend gs)
  where
    by : (f : Option ℕ) → Ascend (all_facets gs) → Ascend (with_facet g.0 f (all_facets gs))
    by None s = s
    by (Some f) s = ascend_insert g.0 f (all_facets gs) s

-- ---- handles

-- of its own keys a group has what it has
found_here : (o d : Plain) (hs es : List (Plain × ℕ))
    → found (pair o d) (with_handles o hs es) ≡ option_or (found d hs) (found (pair o d) es)
found_here o d [] es = refl
found_here o d (h ∷ hs) es =
    let one : same (pair o h.0) (pair o d) ≡ same d h.0 =
    same_pairs o h.0 o d ∙ ap (λ b. b && same h.0 d) (same_self o) ∙ same_turns h.0 d in
    found_insert (pair o h.0) (pair o d) h.1 (with_handles o hs es)
    ∙ ap (λ b. cond b (Some h.1) (found (pair o d) (with_handles o hs es))) one
    ∙ by (same d h.0) (found_here o d hs es)
  where
    by : (b : Bool) → found (pair o d) (with_handles o hs es) ≡ option_or (found d hs) (found (pair o d) es)
        → cond b (Some h.1) (found (pair o d) (with_handles o hs es))
        ≡ option_or (cond b (Some h.1) (found d hs)) (found (pair o d) es)
    by true e = refl
    by false e = e

-- and of no others
found_past : (q o : Plain) (hs es : List (Plain × ℕ)) → ((c : Plain) → same (pair o c) q ≡ false)
    → found q (with_handles o hs es) ≡ found q es
found_past q o [] es other = refl
found_past q o (h ∷ hs) es other =
    found_insert (pair o h.0) q h.1 (with_handles o hs es)
    ∙ ap (λ b. cond b (Some h.1) (found q (with_handles o hs es))) (other h.0) ∙ found_past q o hs es other

none_more : (x : Option ℕ) → option_or x None ≡ x
none_more None = refl
none_more (Some h) = refl

-- a key `[o c]`
pair_found : (gs : List (Plain × Group)) (others : List (Plain × ℕ)) → MarksAscend gs
    → ((o c : Plain) → found (pair o c) others ≡ None) → (p d : Plain)
    → found (pair p d) (all_handles gs others) ≡ handle_in (found p gs) d
pair_found [] others s apart p d = apart p d
pair_found (g ∷ gs) others s apart p d =
    by (same p g.0) refl (pair_found gs others (tail_ascends g gs s) apart p d)
  where
    by : (b : Bool) → same p g.0 ≡ b → found (pair p d) (all_handles gs others) ≡ handle_in (found p gs) d
        → found (pair p d) (with_handles g.0 g.1.handles.entries (all_handles gs others))
        ≡ handle_in (cond b (Some g.1) (found p gs)) d
    by true is rest =
        let one : p ≡ g.0 = same_is p g.0 is in
        let none : found (pair p d) (all_handles gs others) ≡ None =
        rest ∙ ap (λ x. handle_in (found x gs) d) one ∙ ap (λ x. handle_in x d) (found_behind g gs s) in
        ap (λ x. found (pair p d) (with_handles x g.1.handles.entries (all_handles gs others))) (sym one)
        ∙ found_here p d g.1.handles.entries (all_handles gs others)
        ∙ ap (option_or (found d g.1.handles.entries)) none ∙ none_more (found d g.1.handles.entries)
    by false is rest =
        found_past (pair p d) g.0 g.1.handles.entries (all_handles gs others)
        (λ c. same_pairs g.0 c p d ∙ ap (λ b. b && same c d) (same_turns g.0 p ∙ is)) ∙ rest

pub found_pair : (gs : List (Plain × Group)) (others : List (Plain × ℕ)) → MarksAscend gs
    → ((o c : Plain) → found (pair o c) others ≡ None) → (p d : Plain)
    → found (pair p d) (all_handles gs others) ≡ handle_in (marked_at p gs) d
found_pair gs others s apart p d =
    pair_found gs others s apart p d ∙ ap (λ x. handle_in x d) (sym (found_marked p gs))

-- any other key
pub found_other : (gs : List (Plain × Group)) (others : List (Plain × ℕ)) (q : Plain) → parts q ≡ None
    → found q (all_handles gs others) ≡ found q others
found_other [] others q e = refl
found_other (g ∷ gs) others q e =
    found_past q g.0 g.1.handles.entries (all_handles gs others) (λ c. no_pair q g.0 c e)
    ∙ found_other gs others q e

-- ---- facets

facet_found : (gs : List (Plain × Group)) → MarksAscend gs → (q : Plain)
    → found q (all_facets gs) ≡ facet_in (found q gs)
facet_found [] s q = refl
facet_found (g ∷ gs) s q = by g.1.facet refl (same q g.0) refl (facet_found gs (tail_ascends g gs s) q)
  where
    by : (f : Option ℕ) → g.1.facet ≡ f → (b : Bool) → same q g.0 ≡ b
        → found q (all_facets gs) ≡ facet_in (found q gs)
        → found q (with_facet g.0 f (all_facets gs)) ≡ facet_in (cond b (Some g.1) (found q gs))
    by None e true is rest =
        rest ∙ ap (λ x. facet_in (found x gs)) (same_is q g.0 is) ∙ ap facet_in (found_behind g gs s) ∙ sym e
    by None e false is rest = rest
    by (Some f) e true is rest =
        found_insert g.0 q f (all_facets gs)
        ∙ ap (λ b. cond b (Some f) (found q (all_facets gs))) (same_turns g.0 q ∙ is) ∙ sym e
    by (Some f) e false is rest =
        found_insert g.0 q f (all_facets gs)
        ∙ ap (λ b. cond b (Some f) (found q (all_facets gs))) (same_turns g.0 q ∙ is) ∙ rest

pub found_facet : (gs : List (Plain × Group)) → MarksAscend gs → (q : Plain)
    → found q (all_facets gs) ≡ facet_in (marked_at q gs)
found_facet gs s q = facet_found gs s q ∙ ap facet_in (sym (found_marked q gs))
