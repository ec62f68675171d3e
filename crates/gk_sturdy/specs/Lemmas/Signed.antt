-- Chains: their length, and one link more.
use Rattle.std.proofs.Common.{◌≡◌, ℕ, List, [], ◌∷◌, ◌++◌, length, map, refl, ap, sym, ◌∙◌, arith}
use Rattle.std.proofs.lemmas.List.{map-append, length-take-le, append_assoc, append-nil}
use Rattle.b2s_mac.specs.Hmac.{hmac}
use Rattle.b2s_mac.specs.Lemmas.Lengths.{length-hmac}
use Rattle.pv_value.specs.Plain.{Plain}
use Rattle.pv_canon.specs.Canonical.{canonical}
use Rattle.gk_sturdy.specs.Refs.{SturdyRef}
use Rattle.gk_sturdy.specs.Chain.{link, chained, due, IsValidRef, minted, narrowed}
use Rattle.gk_sturdy.specs.Laws.{LinksHaveSixteenBytes, MintedIsValid, NarrowedIsValid, ValidIsMinted}
use Rattle.gk_sturdy.specs.Laws.{LastCaveatIsSigned, all_narrowed}

pub length-link : (key bytes : List ℕ) → length (link key bytes) ≡ 16
unfolding link
length-link key bytes = length-take-le 16 (hmac key bytes) (omega (arith, length-hmac key bytes))

length-chained : (l : List ℕ) (cs : List (List ℕ)) → length l ≡ 16 → length (chained l cs) ≡ 16
length-chained l [] h = h
length-chained l (c ∷ cs) h = length-chained (link l c) cs (length-link l c)

pub sixteen : LinksHaveSixteenBytes
sixteen key oid cs = length-chained (link key oid) cs (length-link key oid)

chained-append : (l : List ℕ) (cs : List (List ℕ)) (c : List ℕ)
    → chained l (cs ++ c ∷ []) ≡ link (chained l cs) c
chained-append l [] c = refl
chained-append l (d ∷ cs) c = chained-append (link l d) cs c

-- what is due with one caveat more
due_more : (key sig : List ℕ) (c : Plain) (r : SturdyRef)
    → due key (record { oid = r.oid; sig = sig; caveats = r.caveats ++ c ∷ [] }) ≡ link (due key r) (canonical c)
due_more key sig c r =
    ap (chained (link key (canonical r.oid))) (map-append canonical r.caveats (c ∷ []))
    ∙ chained-append (link key (canonical r.oid)) (map canonical r.caveats) (canonical c)

pub minted_valid : MintedIsValid
minted_valid key oid = refl

pub narrowed_valid : NarrowedIsValid
narrowed_valid key c r valid =
    ap (λ s. link s (canonical c)) valid ∙ sym (due_more key (link r.sig (canonical c)) c r)

pub attenuated_valid : (key : List ℕ) (c : Plain) (r : SturdyRef) (sig : List ℕ) (cs : List Plain)
    → sig ≡ link r.sig (canonical c) → cs ≡ r.caveats ++ c ∷ [] → IsValidRef key r
    → IsValidRef key (record { oid = r.oid; sig = sig; caveats = cs })
attenuated_valid key c r sig cs is more valid =
    is ∙ narrowed_valid key c r valid
    ∙ ap (λ l. due key (record { oid = r.oid; sig = sig; caveats = l })) (sym more)

-- ---- what is valid

all_is : (cs : List Plain) (r : SturdyRef)
    → all_narrowed cs r
    ≡ record { oid = r.oid; sig = chained r.sig (map canonical cs); caveats = r.caveats ++ cs }
all_is [] r = ap (λ l. record { oid = r.oid; sig = r.sig; caveats = l }) (sym (append-nil r.caveats))
all_is (c ∷ cs) r =
    all_is cs (narrowed c r)
    ∙ ap (λ l. record { oid = r.oid; sig = chained (link r.sig (canonical c)) (map canonical cs); caveats = l })
    (append_assoc r.caveats (c ∷ []) cs)

pub valid_minted : ValidIsMinted
valid_minted key r =
    let all = all_is r.caveats (minted key r.oid) in (
      λ valid. ap (λ s. record { oid = r.oid; sig = s; caveats = r.caveats }) valid ∙ sym all,
      λ is. ap (λ (q : SturdyRef). q.sig) (is ∙ all),
    )

pub last_signed : LastCaveatIsSigned
last_signed key sig c r valid =
    let last : sig ≡ link (due key r) (canonical c) = valid ∙ due_more key sig c r in
    (λ before. sym before ∙ last, λ alike. last ∙ sym alike)
