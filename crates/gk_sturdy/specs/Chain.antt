-- The chain of links that signs a reference. The links are this server's own; each is of HMAC (RFC 2104) over BLAKE2s
-- (RFC 7693), and what is signed is the canonical form of a value (Preserves, "Canonical Form for Binary Syntax").
use Rattle.std.specs.Prelude.{◌≡◌, ℕ, List, [], ◌∷◌, ◌++◌, map, take, Bool}
use Rattle.std.specs.Str.{bytes_eq}
use Rattle.pv_value.specs.Plain.{Plain}
use Rattle.pv_canon.specs.Canonical.{canonical}
use Rattle.b2s_mac.specs.Hmac.{hmac}
use Rattle.gk_sturdy.specs.Refs.{SturdyRef}

-- ---- over bytes

-- the first 16 bytes of the code of these bytes under a key
unfoldable pub link : List ℕ → List ℕ → List ℕ
link key bytes = take 16 (hmac key bytes)

-- the last link from this one on: each caveat is signed under the link before it
abbrev pub chained : List ℕ → List (List ℕ) → List ℕ
chained l [] = l
chained l (c ∷ cs) = chained (link l c) cs

-- the last link, where the first one is that of the oid under the key
abbrev pub chain : List ℕ → List ℕ → List (List ℕ) → List ℕ
chain key oid cs = chained (link key oid) cs

-- ---- of references

-- the signature that is due under a key
abbrev pub due : List ℕ → SturdyRef → List ℕ
due key r = chain key (canonical r.oid) (map canonical r.caveats)

-- the signature is the last link, in all of its 16 bytes
abbrev pub IsValidRef : List ℕ → SturdyRef → Type 0
IsValidRef key r = r.sig ≡ due key r

abbrev pub is_valid : List ℕ → SturdyRef → Bool
is_valid key r = bytes_eq r.sig (due key r)

-- a reference without caveats, signed under a key
abbrev pub minted : List ℕ → Plain → SturdyRef
minted key oid = record { oid = oid; sig = link key (canonical oid); caveats = [] }

-- the reference with one caveat more, behind the others: whoever has it can sign that, with no key
abbrev pub narrowed : Plain → SturdyRef → SturdyRef
narrowed c r = record { oid = r.oid; sig = link r.sig (canonical c); caveats = r.caveats ++ c ∷ [] }
