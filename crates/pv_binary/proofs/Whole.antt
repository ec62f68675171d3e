-- The reader's clauses, from what it computes, and the uniqueness of spellings.
use Rattle.std.proofs.Common.{◌≡◌, ℕ, zero, suc, max, ◌++◌, ◌-◌, ◌<◌, ◌≤◌, List, [], ◌∷◌, length, get_or, take, drop}
use Rattle.std.proofs.Common.{Ok, Err, sym, ap, ◌∙◌, subst, length-append, length-drop, arith}
use Rattle.std.proofs.Math.Seq.{take-append_seam, drop-append_seam}
use Rattle.std.proofs.lemmas.List.{take-append-drop, append_cancel_right}
use Rattle.pv_value.specs.Plain.{Plain}
use Rattle.pv_value.specs.Depth.{depth}
use Rattle.pv_read.specs.Results.{Fault}
use Rattle.pv_binary.specs.declared.faults.BinKind.{BinKind}
use Rattle.pv_binary.specs.Reading.{value_at}
use Rattle.pv_binary.specs.Spells.{Spells}
use Rattle.pv_binary.specs.Reads.{BeginsWith, LeadsWithin}
use Rattle.pv_read.specs.Lemmas.Binds.{parts}
use Rattle.pv_binary.proofs.Varints.{IsBytes}
use Rattle.pv_binary.proofs.Sound.{value_sound}
use Rattle.pv_binary.proofs.Complete.{again}

pub are_bytes : (bytes : List ℕ) → ((i : ℕ) → get_or bytes i 0 < 256) → IsBytes bytes
are_bytes [] h = tt
are_bytes (b ∷ bs) h = (h 0, are_bytes bs (λ i. h (suc i)))

pub found_law : (total d : ℕ) (bytes : List ℕ) (v : Plain) (rest : List ℕ) → IsBytes bytes → value_at total d bytes
    ≡ Ok (v, rest) → (length rest ≤ length bytes) × Spells (take (length bytes - length rest) bytes) v × (depth v ≤ d)
found_law total d bytes v rest all e =
    let f = value_sound total d bytes v rest all e in
    let l = ap length f.is in
    let k = length-append f.front rest in
    let n : length f.front ≡ length bytes - length rest = omega arith in
    let t : take (length f.front) bytes ≡ f.front = ap (take (length f.front)) f.is ∙ take-append_seam f.front rest in
    let u : take (length bytes - length rest) bytes ≡ f.front = ap (λ m. take m bytes) (sym n) ∙ t in
    (omega arith, subst (λ b. Spells b v) (sym u) f.spells, f.shallow)

pub only_law : (total d : ℕ) (bytes : List ℕ) (n : ℕ) (v : Plain) → Spells (take n bytes) v → depth v ≤ d
    → value_at total d bytes ≡ Ok (v, drop n bytes)
only_law total d bytes n v s l =
    subst (λ b. value_at total d b ≡ Ok (v, drop n bytes)) (take-append-drop n bytes)
    ((again v total d (take n bytes) s l).reads (drop n bytes))

pub same_read : (total d : ℕ) (bytes : List ℕ) (n : ℕ) (v w : Plain) (rest : List ℕ) → n ≤ length bytes
    → Spells (take n bytes) v → depth v ≤ d → value_at total d bytes ≡ Ok (w, rest) → (w ≡ v)
    × (length bytes - length rest ≡ n)
same_read total d bytes n v w rest l s deep e =
    let p = parts v w (drop n bytes) rest (sym (only_law total d bytes n v s deep) ∙ e) in
    (sym p.0, omega (arith, length-drop n bytes, ap length p.1))

-- a fault comes only where nothing is spelled so
pub none_begins : (bytes : List ℕ) (f : Fault BinKind) → value_at (length bytes) 64 bytes ≡ Err f → (n : ℕ) (v : Plain)
    → BeginsWith bytes n v → ⊥
none_begins bytes f e n v b = let w = sym (only_law (length bytes) 64 bytes n v b.1 b.2) ∙ e in cc

front_same : (a b x y : List ℕ) → a ++ x ≡ b ++ y → x ≡ y → a ≡ b
front_same a b x y e p = append_cancel_right a b y (ap (λ r. a ++ r) (sym p) ∙ e)

pub unique_law : (a b x y : List ℕ) (v w : Plain) → Spells a v → Spells b w → a ++ x ≡ b ++ y → (a ≡ b) × (v ≡ w)
unique_law a b x y v w s t e =
    let d = max (depth v) (depth w) in
    let f = (again v zero d a s (omega arith)).reads x in
    let g = (again w zero d b t (omega arith)).reads y in
    let p = parts v w x y (sym f ∙ ap (value_at zero d) e ∙ g) in
    (front_same a b x y e p.1, p.0)

-- what is read with this bound leads the bytes within it
pub leads_law : (total d : ℕ) (bytes : List ℕ) (v : Plain) (rest : List ℕ) → IsBytes bytes → value_at total d bytes
    ≡ Ok (v, rest) → LeadsWithin d bytes v rest
leads_law total d bytes v rest all e =
    let f = value_sound total d bytes v rest all e in
    let l = ap length f.is in
    let k = length-append f.front rest in
    let n : ℕ = length f.front in
    let t : take n bytes ≡ f.front = ap (take n) f.is ∙ take-append_seam f.front rest in
    let u : drop n bytes ≡ rest = ap (drop n) f.is ∙ drop-append_seam f.front rest in
    (n, omega arith, subst (λ b. Spells b v) (sym t) f.spells, f.shallow, sym u)

-- a fault comes only where nothing leads within the bound
pub none_leads : (d : ℕ) (bytes : List ℕ) (f : Fault BinKind) → value_at (length bytes) d bytes ≡ Err f → (v : Plain)
    (more : List ℕ) → LeadsWithin d bytes v more → ⊥
none_leads d bytes f e v more l = let w = sym (only_law (length bytes) d bytes l.0 v l.2 l.3) ∙ e in cc
