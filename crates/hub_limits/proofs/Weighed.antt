-- What is summed of a connection's rows within a packet is what they weigh: each event keeps it so.
use Rattle.std.proofs.Common.{◌≡◌, ◌≢◌, ◌⊎◌, ℕ, ◌+◌, ◌≤◌, ◌==◌, List, Bool, true, false}
use Rattle.std.proofs.Common.{cond, Some, None, inl, inr, refl, ap, sym, ◌∙◌, subst, arith, nat_lt}
use Rattle.std.specs.Prelude.{unwrap_or}
use Rattle.std.proofs.lemmas.Bool.Decides.{nat_tests}
use Rattle.pv_value.specs.Plain.{Plain}
use Rattle.pv_value.specs.Weight.{weight}
use Rattle.sr_caveat.specs.declared.caps.Cap.{Cap}
use Rattle.ac_table.specs.declared.batches.Row.{Row as TableRow}
use Rattle.ac_table.specs.declared.loads.Load.{Load}
use Rattle.ac_table.specs.Sums.{top}
use Rattle.ac_table.specs.Tables.{TableState, IsTable, find_row, asserted, retracted, is_live}
use Rattle.ac_world.specs.declared.acts.Act.{Act}
use Rattle.ac_world.specs.Worlds.{WorldState, actor_of, entry_of}
use Rattle.ac_world.specs.Lemmas.Entries.{KeysAscend, ascend_with, ascend_without, entry_of_with, entry_of_without}
use Rattle.rl_ports.specs.declared.ports.Inbound.{Inbound}
use Rattle.rl_ports.specs.declared.ports.Inbound.TheVariants.{Row, Refused}
use Rattle.rl_ports.specs.Ports.{PortsState, inbound_of, taken_into_use, freed}
use Rattle.hub_machine.specs.Admission.{Admitting, after_assertion, after_retraction, row_weighs, weighed, rows_with}
use Rattle.hub_machine.specs.Admission.{weight_of_row}
use Rattle.hub_laws.proofs.Finding.{find_row-asserted, find_row-retracted, row_next, none_from_next}
use Rattle.hub_laws.proofs.Finding.{asserted_table, retracted_table}
use Rattle.hub_limits.proofs.Weights.{weighs, weighs_more, weighs_less}

-- ---- handles

-- once a handle is in use, one that stands for a row is that, or stood for it before
used_with : (g h n : ℕ) (what : Inbound) (ports : PortsState)
    → inbound_of g (taken_into_use h what ports) ≡ Some (Row n)
    → ((h ≡ g) × (what ≡ Row n)) ⊎ (inbound_of g ports ≡ Some (Row n))
used_with g h n what ports is = by (h == g) refl (sym (entry_of_with g h what ports.handles) ∙ is)
  where
    by : (b : Bool) → (h == g) ≡ b → cond b (Some what) (inbound_of g ports) ≡ Some (Row n)
        → ((h ≡ g) × (what ≡ Row n)) ⊎ (inbound_of g ports ≡ Some (Row n))
    by true here found = let one : what ≡ Row n = cc in inl (grind (arith, nat_tests, here), one)
    by false other found = inr found

-- once one is out of use, one that stands for a row is another, and stood for it before
used_freed : (g h n : ℕ) (ports : PortsState) → KeysAscend ports.handles
    → inbound_of g (freed h ports) ≡ Some (Row n) → (h ≢ g) × (inbound_of g ports ≡ Some (Row n))
used_freed g h n ports s is = by (h == g) refl (sym (entry_of_without g h ports.handles s) ∙ is)
  where
    by : (b : Bool) → (h == g) ≡ b → cond b None (inbound_of g ports) ≡ Some (Row n)
        → (h ≢ g) × (inbound_of g ports ≡ Some (Row n))
    by true here found = absurd cc
    by false other found = (λ same. absurd (grind (arith, nat_tests, other, same)), found)

-- ---- what each event keeps

-- the row under n stands, and is a's
pub record Stands (a n : ℕ) (rows : List TableRow) : Type 0 where
  pub row : TableRow
  pub found : find_row n rows ≡ Some row
  pub own : row.owner ≡ a

-- Connection k does what x says so far, in the world w, of whose table t was made so. Each handle that stands for a row
-- stands for one of its own, no two for the same; what is known of each of its rows is what it weighs, and what is
-- summed is what they weigh.
pub record IsWeighed (k : ℕ) (w : WorldState) (x : Admitting) (t : TableState) : Type 0 where
  pub table : IsTable t
  pub live : is_live (actor_of k) t ≡ true
  pub next : t.next ≡ x.next
  pub ascend : KeysAscend x.ports.handles
  pub stand : (h n : ℕ) → inbound_of h x.ports ≡ Some (Row n) → Stands (actor_of k) n t.rows
  pub apart : (g h n : ℕ) → inbound_of g x.ports ≡ Some (Row n) → inbound_of h x.ports ≡ Some (Row n) → g ≡ h
  pub known : (n : ℕ) (r : TableRow) → find_row n t.rows ≡ Some r → r.owner ≡ actor_of k
      → row_weighs n w x ≡ top (weight r.value)
  pub rows : x.rows ≡ weighs (actor_of k) t.rows
  pub few : x.rows ≤ 4194304

-- a handle of a value that is stale, or that the caveats refused
pub refused_weighed : (k h : ℕ) (w : WorldState) (x : Admitting) (t : TableState) → IsWeighed k w x t
    → IsWeighed k w (record x { ports = taken_into_use h Refused x.ports }) t
refused_weighed k h w x t i = record {
  table = i.table;
  live = i.live;
  next = i.next;
  ascend = ascend_with h Refused x.ports.handles i.ascend;
  stand = λ g n is. elim (used_with g h n Refused x.ports is) [
    | inl new ↦ absurd (let clash : Refused ≡ Row n = new.1 in cc)
    | inr old ↦ i.stand g n old
  ];
  apart = λ f g n one two. elim (used_with f h n Refused x.ports one) [
    | inl new ↦ absurd (let clash : Refused ≡ Row n = new.1 in cc)
    | inr old ↦ elim (used_with g h n Refused x.ports two) [
      | inl new ↦ absurd (let clash : Refused ≡ Row n = new.1 in cc)
      | inr older ↦ i.apart f g n old older
    ]
  ];
  known = i.known;
  rows = i.rows;
  few = i.few;
}

-- a handle of such a value that is taken back
pub freed_weighed : (k h : ℕ) (w : WorldState) (x : Admitting) (t : TableState) → IsWeighed k w x t
    → IsWeighed k w (after_retraction h (Some Refused) w x) t
freed_weighed k h w x t i = record {
  table = i.table;
  live = i.live;
  next = i.next;
  ascend = ascend_without h x.ports.handles i.ascend;
  stand = λ g n is. i.stand g n (used_freed g h n x.ports i.ascend is).1;
  apart = λ f g n one two.
      i.apart f g n (used_freed f h n x.ports i.ascend one).1 (used_freed g h n x.ports i.ascend two).1;
  known = i.known;
  rows = i.rows;
  few = i.few;
}

-- what is only said, and what waits, is no row
pub said_weighed : (k : ℕ) (w : WorldState) (acts : List Act) (load : Load) (x : Admitting) (t : TableState)
    → IsWeighed k w x t → IsWeighed k w (record x { acts = acts; load = load }) t
said_weighed k w acts load x t i = record {
  table = i.table;
  live = i.live;
  next = i.next;
  ascend = i.ascend;
  stand = i.stand;
  apart = i.apart;
  known = i.known;
  rows = i.rows;
  few = i.few;
}

-- below the greatest 64-bit number nothing is cut off
untopped : (n : ℕ) → nat_lt 4194304 (top n) ≡ false → (top n ≡ n) × (n ≤ 4194304)
untopped n is =
    let low : top n ≤ 4194304 = grind (arith, nat_tests, is) in
    (omega (arith, low), omega (arith, low))

-- ---- a row that comes

module _ (k h : ℕ) (w : WorldState) (to : Cap) (v : Plain) (x : Admitting) (t : TableState) (i : IsWeighed k w x t)
    (light : nat_lt 4194304 (rows_with (weighed v) x) ≡ false)
  where
    -- the table with the row
    abbrev made : TableState
    made = asserted (actor_of k) 0 to.actor to.entity v t

    -- the row
    abbrev new : TableRow
    new = row_next (actor_of k) 0 to.actor to.entity v t

    -- it is found under what was the next handle, and the others as before
    found_is : (n : ℕ) → find_row n made.rows ≡ cond (t.next == n) (Some new) (find_row n t.rows)
    found_is n = find_row-asserted n (actor_of k) 0 to.actor to.entity v t i.table

    -- a row that was there has another handle
    still : (n : ℕ) (r : TableRow) → find_row n t.rows ≡ Some r → find_row n made.rows ≡ Some r
    still n r found = found_is n ∙ by (t.next == n) refl
      where
        by : (b : Bool) → (t.next == n) ≡ b → cond b (Some new) (find_row n t.rows) ≡ Some r
        by false other = found
        by true here =
            let low : t.next ≤ n = grind (arith, nat_tests, here) in
            let clash : None ≡ Some r = sym (none_from_next n t i.table low) ∙ found in
            absurd cc

    -- it is the connection's own
    new_stands : Stands (actor_of k) x.next made.rows
    new_stands = record {
      row = new;
      found =
          let here : (t.next == x.next) ≡ true = grind (arith, nat_tests, i.next) in
          found_is x.next ∙ ap (λ b. cond b (Some new) (find_row x.next t.rows)) here;
      own = refl;
    }

    -- no handle stands for a row of this number yet
    not_yet : (g : ℕ) → inbound_of g x.ports ≡ Some (Row x.next) → ⊥
    not_yet g is =
        let s = i.stand g x.next is in
        let next = i.next in
        let none : find_row x.next t.rows ≡ None = none_from_next x.next t i.table (omega (arith, next)) in
        let clash : None ≡ Some s.row = sym none ∙ s.found in
        absurd cc

    before : (g n : ℕ) → x.next ≡ n → inbound_of g x.ports ≡ Some (Row n) → ⊥
    before g n same is = not_yet g (subst (λ m. inbound_of g x.ports ≡ Some (Row m)) (sym same) is)

    -- what stands for one row stands for no other
    row_of : {n : ℕ} → Row x.next ≡ Row n → x.next ≡ n
    row_of is = cc

    -- an assertion whose value gets through
    pub made_weighed : IsWeighed k w (after_assertion w to (Some v) h x) made
    made_weighed = record {
      table = asserted_table (actor_of k) 0 to.actor to.entity v t i.table i.live;
      live = i.live;
      next = ap (λ n. n + 1) i.next;
      ascend = ascend_with h (Row x.next) x.ports.handles i.ascend;
      stand = λ g n is. elim (used_with g h n (Row x.next) x.ports is) [
        | inl fresh ↦ subst (λ m. Stands (actor_of k) m made.rows) (row_of fresh.1) new_stands
        | inr old ↦ (let s = i.stand g n old in record { row = s.row; found = still n s.row s.found; own = s.own })
      ];
      apart = apart_still;
      known = known_still;
      rows = summed ∙ sym (weighs_more (actor_of k) t.rows new refl);
      few =
          let sum = untopped (x.rows + top (weight v)) light in
          let same = sum.0 in
          let low = sum.1 in
          omega (arith, same, low);
    }
      where
        -- the handle stands for a row for which no other does
        apart_still : (f g n : ℕ) → inbound_of f (taken_into_use h (Row x.next) x.ports) ≡ Some (Row n)
            → inbound_of g (taken_into_use h (Row x.next) x.ports) ≡ Some (Row n) → f ≡ g
        apart_still f g n one two = elim (used_with f h n (Row x.next) x.ports one) [
          | inl fresh ↦ elim (used_with g h n (Row x.next) x.ports two) [
            | inl other ↦ sym fresh.0 ∙ other.0
            | inr old ↦ absurd (before g n (row_of fresh.1) old)
          ]
          | inr old ↦ elim (used_with g h n (Row x.next) x.ports two) [
            | inl fresh ↦ absurd (before f n (row_of fresh.1) old)
            | inr older ↦ i.apart f g n old older
          ]
        ]

        -- what it weighs is noted under its handle, and under no other
        known_still : (n : ℕ) (r : TableRow) → find_row n made.rows ≡ Some r → r.owner ≡ actor_of k
            → row_weighs n w (after_assertion w to (Some v) h x) ≡ top (weight r.value)
        known_still n r found own =
            ap (λ o. unwrap_or o before_it) (entry_of_with n x.next (weighed v) x.made)
            ∙ by (x.next == n) refl (sym (found_is n) ∙ found)
          where
            -- what the row weighed that stood before the packet
            before_it : ℕ
            before_it = weight_of_row (find_row n w.table.rows)

            by : (b : Bool) → (x.next == n) ≡ b → cond (t.next == n) (Some new) (find_row n t.rows) ≡ Some r
                → unwrap_or (cond b (Some (weighed v)) (entry_of n x.made)) before_it ≡ top (weight r.value)
            by true here is =
                let mine : (t.next == n) ≡ true = grind (arith, nat_tests, here, i.next) in
                let one : Some new ≡ Some r = sym (ap (λ c. cond c (Some new) (find_row n t.rows)) mine) ∙ is in
                let same : new ≡ r = cc in
                ap (λ (q : TableRow). top (weight q.value)) same
            by false other is =
                let not_mine : (t.next == n) ≡ false = grind (arith, nat_tests, other, i.next) in
                i.known n r (sym (ap (λ c. cond c (Some new) (find_row n t.rows)) not_mine) ∙ is) own

        -- what is summed is as much more as the row weighs
        summed : rows_with (weighed v) x ≡ weighs (actor_of k) t.rows + weight v
        summed =
            let sum = untopped (x.rows + top (weight v)) light in
            let l = sum.1 in
            let same = sum.0 in
            let rows = i.rows in
            omega (arith, l, same, rows)

-- ---- a row that goes

module _ (k h n : ℕ) (w : WorldState) (x : Admitting) (t : TableState) (i : IsWeighed k w x t)
    (is : inbound_of h x.ports ≡ Some (Row n))
  where
    -- the table without the row
    abbrev gone : TableState
    gone = retracted n t

    -- one that is found is another, and was found before
    other_row : (m : ℕ) (r : TableRow) → find_row m gone.rows ≡ Some r → (n ≢ m) × (find_row m t.rows ≡ Some r)
    other_row m r found = by (n == m) refl (sym (find_row-retracted m n t) ∙ found)
      where
        by : (b : Bool) → (n == m) ≡ b → cond b None (find_row m t.rows) ≡ Some r
            → (n ≢ m) × (find_row m t.rows ≡ Some r)
        by true here none = absurd cc
        by false other old = (λ same. absurd (grind (arith, nat_tests, other, same)), old)

    -- another that stood still stands
    stands_still : (m : ℕ) → n ≢ m → Stands (actor_of k) m t.rows → Stands (actor_of k) m gone.rows
    stands_still m apart s = record {
      row = s.row;
      found =
          let other : (n == m) ≡ false = grind (arith, nat_tests, apart) in
          find_row-retracted m n t ∙ ap (λ b. cond b None (find_row m t.rows)) other ∙ s.found;
      own = s.own;
    }

    -- a retraction of it
    pub gone_weighed : IsWeighed k w (after_retraction h (Some (Row n)) w x) gone
    gone_weighed =
        let s = i.stand h n is in
        let less = weighs_less (actor_of k) n t.rows s.row i.table.rows_ascend s.found s.own in
        let known = i.known n s.row s.found s.own in
        let rows = i.rows in
        let few = i.few in
        record {
          table = retracted_table n t i.table;
          live = i.live;
          next = i.next;
          ascend = ascend_without h x.ports.handles i.ascend;
          stand = λ g m found.
              let old = used_freed g h m x.ports i.ascend found in
              stands_still m (λ same. old.0 (i.apart h g m (subst (λ j. inbound_of h x.ports ≡ Some (Row j)) same is)
              old.1)) (i.stand g m old.1);
          apart = λ f g m one two.
              i.apart f g m (used_freed f h m x.ports i.ascend one).1 (used_freed g h m x.ports i.ascend two).1;
          known = λ m r found own. i.known m r (other_row m r found).1 own;
          rows = omega (arith, less, known, rows, few);
          few = omega (arith, few);
        }
