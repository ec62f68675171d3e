-- What stands after events is what they leave of what stood before, and of what they assert.
use Rattle.std.proofs.Common.{◌≡◌, ℕ, ◌+◌, ◌≤◌, List, [], ◌∷◌, ◌++◌, Bool, true, false, cond, Some, refl, sym, ap}
use Rattle.std.proofs.Common.{◌∙◌, subst, arith}
use Rattle.std.specs.Prelude.{◌==◌, ◌||◌, ◌&&◌, not, nat_lt, if◌then◌else◌}
use Rattle.std.specs.List.{list_any}
use Rattle.std.specs.Ordering.{nat_cmp, is_eq}
use Rattle.std.specs.declared.cmp.Ordering.TheVariants.{Less, Equal, Greater}
use Rattle.std.specs.Map.{lookup, remove_entry}
use Rattle.std.specs.BTreeMap.{insert_entry, is_at}
use Rattle.std.proofs.lemmas.Bool.Decides.{nat_tests}
use Rattle.pv_value.specs.Plain.{Plain}
use Rattle.rl_packet.specs.declared.packets.Event.{Event}
use Rattle.rl_packet.specs.declared.packets.TurnEvent.{TurnEvent}
use Rattle.rl_packet.specs.declared.packets.Event.TheVariants.{Assert, Retract, Message, Sync}
use Rattle.rl_packet.specs.Holding.{retracts, retracted_by, kept, all_kept, is_before, insert_holding, holdings_in_order}
use Rattle.rl_packet.specs.declared.holding.Holding.{Holding}
use Rattle.dq_core.specs.declared.client.Standing.{Standing}
use Rattle.dq_core.specs.Laws.{stands_at}
use Rattle.dq_core.proofs.Counting.{one_if, number, number-same, at_key, number-insert, number-absent, taken_out, IsTakenOut}
use Rattle.dq_core.proofs.Counting.{number-apart}
use Rattle.dq_core.proofs.Moving.{Entries, Moves}

-- events, one after another
abbrev pub AllMove : List TurnEvent → Entries → Entries → Type 0
AllMove [] old new = new ≡ old
AllMove (e ∷ es) old new = (mid : Entries) × Moves e.oid e.event old mid × AllMove es mid new

pub moves-append : (es fs : List TurnEvent) (old mid new : Entries) → AllMove es old mid → AllMove fs mid new
    → AllMove (es ++ fs) old new
moves-append [] fs old mid new first later = subst (λ s. AllMove fs s new) first later
moves-append (e ∷ es) fs old mid new (s, one, others) later = (s, one, moves-append es fs s mid new others later)

-- at most one entry is at each key
abbrev pub AreApart : Entries → Type 0
AreApart es = (k : ℕ) → number (at_key k) es ≤ 1

-- ---- keys

apart_by : (k h : ℕ) → nat_lt k h ≡ true → (k == h) ≡ false
apart_by k h is = grind (arith, nat_tests)

key_by : (b c : Bool) → (b ≡ true → c ≡ false) → is_eq (cond b Less (cond c Equal Greater)) ≡ c
key_by true c apart = sym (apart refl)
key_by false true apart = refl
key_by false false apart = refl

key_is : (k h : ℕ) → is_at (nat_cmp k) h ≡ (k == h)
key_is k h = key_by (nat_lt k h) (k == h) (apart_by k h)

same_by : (k h : ℕ) → (k == h) ≡ true → k ≡ h
same_by k h is = grind (arith, nat_tests)

same_key : (k h : ℕ) → is_at (nat_cmp k) h ≡ true → k ≡ h
same_key k h is = same_by k h (sym (key_is k h) ∙ is)

self_key : (k : ℕ) → (k == k) ≡ true
self_key k = grind (arith, nat_tests)

-- ---- apart stays apart

module _ (old : Entries) (apart : AreApart old) where
  apart_in : (b : Bool) (k h : ℕ) → is_at (nat_cmp k) h ≡ b → number (at_key h) old ≡ 0
      → one_if b + number (at_key k) old ≤ 1
  apart_in true k h at none =
      let same : k ≡ h = same_key k h at in
      let e : number (at_key k) old ≡ 0 = subst (λ (m : ℕ). number (at_key m) old ≡ 0) (sym same) none in
      omega arith
  apart_in false k h at none = let l : number (at_key k) old ≤ 1 = apart k in omega arith

  pub apart_moves : (oid : ℕ) (e : Event) (new : Entries) → Moves oid e old new → AreApart new
  apart_moves oid (Assert v h) new (none, is) k =
      let s : Standing = record { oid = oid; value = v } in
      let e : number (at_key k) new ≡ number (at_key k) (insert_entry nat_cmp old h s) = ap (number (at_key k)) is in
      let f : number (at_key k) (insert_entry nat_cmp old h s)
      ≡ one_if (is_at (nat_cmp k) h) + number (at_key k) old = number-insert (at_key k) old h s none in
      let l : one_if (is_at (nat_cmp k) h) + number (at_key k) old ≤ 1 =
      apart_in (is_at (nat_cmp k) h) k h refl (number-absent h old none) in
      omega arith
  apart_moves oid (Retract h) new (s, found, at, is) k =
      let t : IsTakenOut h s old (remove_entry (is_at (nat_cmp h)) old) = taken_out h s old found in
      let e : number (at_key k) new ≡ number (at_key k) (remove_entry (is_at (nat_cmp h)) old) =
      ap (number (at_key k)) is in
      let f : number (at_key k) old
      ≡ one_if (at_key k (t.key, s)) + number (at_key k) (remove_entry (is_at (nat_cmp h)) old) =
      t.counted (at_key k) in
      let l : number (at_key k) old ≤ 1 = apart k in
      omega arith
  apart_moves oid (Message v) new is k = subst (λ es. number (at_key k) es ≤ 1) (sym is) (apart k)
  apart_moves oid (Sync peer) new is k = subst (λ es. number (at_key k) es ≤ 1) (sym is) (apart k)

-- ---- what events leave

module _ (test : Plain → Bool) where
  -- an entry at object 2 whose value passes, and the same where no event retracts it
  abbrev pub passes : ℕ × Standing → Bool
  passes e = (e.1.oid == 2) && test e.1.value

  abbrev pub stays : List TurnEvent → ℕ × Standing → Bool
  stays es e = not (list_any (retracted_by e.0) es) && passes e

  -- how many of what events assert stay
  abbrev pub kept_number : List TurnEvent → ℕ
  kept_number es = number (stands_at 2 test) (all_kept es)

  kept_here : (b : Bool) (h : Holding) (others : List Holding)
      → number (stands_at 2 test) (if b then others else h ∷ others)
      ≡ one_if (not b && stands_at 2 test h) + number (stands_at 2 test) others
  kept_here true h others = omega arith
  kept_here false h others = refl

  -- an assertion leaves what was there, and itself where it isn't retracted
  assertion_left : (e : TurnEvent) (es : List TurnEvent) (v : Plain) (h : ℕ) (s : Entries)
      → e.event ≡ Assert v h
      → kept_number (e ∷ es) + number (stays (e ∷ es)) s
      ≡ kept_number es + (one_if (stays es (h, record { oid = e.oid; value = v })) + number (stays es) s)
  assertion_left e es v h s is =
      let k : kept_number (e ∷ es)
      ≡ one_if (not (list_any (retracted_by h) es) && stands_at 2 test (record { oid = e.oid; handle = h; value = v }))
      + kept_number es =
      ap (λ w. number (stands_at 2 test) (kept e w es (all_kept es))) is
      ∙ kept_here (list_any (retracted_by h) es) (record { oid = e.oid; handle = h; value = v }) (all_kept es) in
      let n : number (stays (e ∷ es)) s ≡ number (stays es) s =
      number-same (stays (e ∷ es)) (stays es) s
      (λ x. ap (λ w. not (retracts x.0 w || list_any (retracted_by x.0) es) && passes x) is) in
      omega arith

  -- what neither asserts nor retracts leaves all
  nothing_left : (e : TurnEvent) (es : List TurnEvent) (w : Event) (s : Entries) → e.event ≡ w
      → ((h : ℕ) → retracts h w ≡ false) → kept e w es (all_kept es) ≡ all_kept es
      → kept_number (e ∷ es) + number (stays (e ∷ es)) s ≡ kept_number es + number (stays es) s
  nothing_left e es w s is none same =
      let k : kept_number (e ∷ es) ≡ kept_number es =
      ap (λ u. number (stands_at 2 test) (kept e u es (all_kept es))) is ∙ ap (number (stands_at 2 test)) same in
      let n : number (stays (e ∷ es)) s ≡ number (stays es) s =
      number-same (stays (e ∷ es)) (stays es) s
      (λ x. ap (λ u. not (retracts x.0 u || list_any (retracted_by x.0) es) && passes x) is
      ∙ ap (λ b. not (b || list_any (retracted_by x.0) es) && passes x) (none x.0)) in
      omega arith

  -- a retraction leaves what isn't at its handle
  retraction_left : (e : TurnEvent) (es : List TurnEvent) (h : ℕ) (s : Standing) (old : Entries)
      → e.event ≡ Retract h → AreApart old → lookup (is_at (nat_cmp h)) old ≡ Some s
      → kept_number (e ∷ es) + number (stays (e ∷ es)) old
      ≡ kept_number es + number (stays es) (remove_entry (is_at (nat_cmp h)) old)
  retraction_left e es h s old is apart found =
      let new = remove_entry (is_at (nat_cmp h)) old in
      let t : IsTakenOut h s old new = taken_out h s old found in
      let k : kept_number (e ∷ es) ≡ kept_number es =
      ap (λ u. number (stands_at 2 test) (kept e u es (all_kept es))) is in
      let gone : stays (e ∷ es) (t.key, s) ≡ false =
      ap (λ u. not (retracts t.key u || list_any (retracted_by t.key) es) && passes (t.key, s)) is
      ∙ ap (λ b. not (b || list_any (retracted_by t.key) es) && passes (t.key, s))
      (ap (λ (m : ℕ). h == m) (sym (same_key h t.key t.is)) ∙ self_key h) in
      let a : number (stays (e ∷ es)) old ≡ one_if (stays (e ∷ es) (t.key, s)) + number (stays (e ∷ es)) new =
      t.counted (stays (e ∷ es)) in
      let z : one_if (stays (e ∷ es) (t.key, s)) ≡ 0 = ap one_if gone in
      let one : number (at_key h) old ≡ one_if (is_at (nat_cmp h) t.key) + number (at_key h) new =
      t.counted (at_key h) in
      let here : one_if (is_at (nat_cmp h) t.key) ≡ 1 = ap one_if t.is in
      let few : number (at_key h) old ≤ 1 = apart h in
      let none : number (at_key h) new ≡ 0 = omega arith in
      let n : number (stays (e ∷ es)) new ≡ number (stays es) new =
      number-apart h (stays (e ∷ es)) (stays es) new none
      (λ x at. ap (λ u. not (retracts x.0 u || list_any (retracted_by x.0) es) && passes x) is
      ∙ ap (λ b. not (b || list_any (retracted_by x.0) es) && passes x) (not_named x.0 at)) in
      omega arith
    where
      not_named : (k : ℕ) → is_at (nat_cmp h) k ≡ false → (h == k) ≡ false
      not_named k at = sym (key_is h k) ∙ at

  one_left : (e : TurnEvent) (es : List TurnEvent) (w : Event) (old mid : Entries) → e.event ≡ w → AreApart old
      → Moves e.oid w old mid
      → kept_number (e ∷ es) + number (stays (e ∷ es)) old ≡ kept_number es + number (stays es) mid
  one_left e es (Assert v h) old mid is apart (none, made) =
      assertion_left e es v h old is
      ∙ ap (λ n. kept_number es + n)
      (sym (ap (number (stays es)) made
      ∙ number-insert (stays es) old h (record { oid = e.oid; value = v }) none))
  one_left e es (Retract h) old mid is apart (s, found, at, made) =
      retraction_left e es h s old is apart found
      ∙ ap (λ n. kept_number es + n) (sym (ap (number (stays es)) made))
  one_left e es (Message v) old mid is apart made =
      nothing_left e es (Message v) old is (λ h. refl) refl
      ∙ ap (λ n. kept_number es + n) (sym (ap (number (stays es)) made))
  one_left e es (Sync peer) old mid is apart made =
      nothing_left e es (Sync peer) old is (λ h. refl) refl
      ∙ ap (λ n. kept_number es + n) (sym (ap (number (stays es)) made))

  pub all_left : (es : List TurnEvent) (old new : Entries) → AreApart old → AllMove es old new
      → number passes new ≡ kept_number es + number (stays es) old
  all_left [] old new apart is =
      let e : number passes new ≡ number passes old = ap (number passes) is in
      let f : number passes old ≡ number (stays []) old = number-same passes (stays []) old (λ x. refl) in
      omega arith
  all_left (e ∷ es) old new apart (mid, one, others) =
      all_left es mid new (apart_moves old apart e.oid e.event mid one) others
      ∙ sym (one_left e es e.event old mid refl apart one)

  -- ---- what is held, in order

  inserted_number : (b : Bool) (x y : Holding) (ys more : List Holding)
      → number (stands_at 2 test) more ≡ one_if (stands_at 2 test x) + number (stands_at 2 test) ys
      → number (stands_at 2 test) (if b then x ∷ y ∷ ys else y ∷ more)
      ≡ one_if (stands_at 2 test x) + (one_if (stands_at 2 test y) + number (stands_at 2 test) ys)
  inserted_number true x y ys more later = refl
  inserted_number false x y ys more later = omega arith

  insert_number : (x : Holding) (ys : List Holding)
      → number (stands_at 2 test) (insert_holding x ys)
      ≡ one_if (stands_at 2 test x) + number (stands_at 2 test) ys
  insert_number x [] = refl
  insert_number x (y ∷ ys) =
      inserted_number (is_before x y) x y ys (insert_holding x ys) (insert_number x ys)

  pub order_number : (xs : List Holding)
      → number (stands_at 2 test) (holdings_in_order xs) ≡ number (stands_at 2 test) xs
  order_number [] = refl
  order_number (x ∷ xs) =
      insert_number x (holdings_in_order xs) ∙ ap (λ n. one_if (stands_at 2 test x) + n) (order_number xs)
