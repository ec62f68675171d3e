-- Each step keeps the rule.
use Rattle.std.proofs.Common.{◌≡◌, ℕ, zero, suc, ◌+◌, ◌-◌, ◌%◌, ◌^◌, ◌<◌, ◌≤◌, eqb, ◌≢◌, ◌⊎◌, inl, inr, List, [], ◌∷◌}
use Rattle.std.proofs.Common.{◌++◌, length, get_or, set, sym, refl, ap, ◌∙◌, subst, arith, length-append}
use Rattle.std.specs.Prelude.{true, false, Bool, Some}
use mathlib.Core.List.{IsPrefix}
use mathlib.Core.Option.{none, some, some-injective, some-ne-none}
use mathlib.Core.Option as maybe
use mathlib.Core.Logic.{dite}
use native.Mathlib.Decide.{ℕ_discrete}
use lib.ListN.{get_elem?}
use prog.Atomic.{either}
use Rattle.atomic_table.specs.Table.{opening, State, Act, step, keeps, takes, gives, Allows, Valid, stepped}
use Rattle.atomic_table.specs.Table.{carried_after}
use Rattle.atomic_table.proofs.Lists.{at_set, at_snoc, set_else, exchanged}
use Rattle.turn_gate.specs.declared.view.Entry.{Entry}
use Rattle.turn_gate.specs.declared.view.Joined.{Joined}
use Rattle.turn_gate.specs.declared.view.View.{View}
use Rattle.turn_gate.specs.declared.view.Has.{Has}
use Rattle.turn_gate.specs.declared.view.Has.TheVariants.{Nothing, Value, Mark}
use Rattle.turn_gate.specs.declared.view.Held.{Held}
use Rattle.turn_gate.specs.declared.view.Held.TheVariants as held
use Rattle.turn_gate.specs.History.{after, IsLegal, places}
use Rattle.turn_gate.specs.Table.{words_of}
use Rattle.turn_gate.specs.Table.{first_view, Lock, free, by, lock_word, Owner, own, joined_as, Among, Stands}
use Rattle.turn_gate.specs.Table.{HasFits, Fits, resting, homes_of, Kept, Us, asked, taking, asking, giving, seeing}
use Rattle.turn_gate.specs.Table.{lost_after, gave, again, looked, compared, took, entry_of, noting, noted, Ready}
use Rattle.turn_gate.proofs.Histories.{prefix_refl, prefix_trans, prefix_length, legal_more, places_mine}
use Rattle.turn_gate.proofs.Histories.{places_others, same_pairs}

free_of : (l : Lock) → lock_word l ≡ 0 → l ≡ free
free_of free e = refl
free_of (by j) e = absurd (omega arith)

pub not_lost : (b g : Bool) → (b ≡ true → g ≡ true) → g ≡ false → b ≡ false
not_lost true g h e = absurd (let a = h refl in cc)
not_lost false g h e = refl

pub not_both : {A : Type 0} (b : Bool) → b ≡ true → b ≡ false → A
not_both b p q = absurd (cc)

pub own_same : (i j : ℕ) → own i ≡ own j → i ≡ j
own_same i j e = cc

pub own_joined : (i k : ℕ) → own i ≢ joined_as k
own_joined i k e = cc

free_not_by : (l : Lock) (j : ℕ) → l ≡ free → l ≢ by j
free_not_by l j e b = cc

by_not_by : (l : Lock) (i j : ℕ) → l ≡ by i → j ≢ i → l ≢ by j
by_not_by l i j e ne b = ne (cc)

abbrev top : {A : Type 0} → A → List (ℕ × A) → A
top a [] = a
top a (x ∷ xs) = x.1

-- lists of views of which one changes
module _ {V : Type 0} where
  pub here_after : (views : List V) (id : ℕ) (v w : V) → get_elem? views id ≡ some v
      → get_elem? (set views id w) id ≡ some w
  here_after [] id v w at = absurd (some-ne-none v (sym at))
  here_after (x ∷ xs) zero v w at = refl
  here_after (x ∷ xs) (suc id) v w at = here_after xs id v w at

  pub each_after : (views : List V) (id : ℕ) (w : V) (P Q : ℕ → V → Type 0) → P id w
      → ((j : ℕ) (u : V) → j ≢ id → Q j u → P j u) → ((j : ℕ) (u : V) → get_elem? views j ≡ some u → Q j u)
      → (j : ℕ) (u : V) → get_elem? (set views id w) j ≡ some u → P j u
  each_after views id w P Q mine others all j u at = go (at_set views id j w u at)
    where
      go : ((j ≡ id) × (w ≡ u)) ⊎ ((j ≢ id) × (get_elem? views j ≡ some u)) → P j u
      go (inl e) = subst (λ (z : ℕ × V). P z.0 z.1) (λ i. (sym e.0 i, e.1 i)) mine
      go (inr n) = others j u n.0 (all j u n.1)

  pub among_after : (views : List V) (id : ℕ) (v w : V) (P Q : V → Type 0) → get_elem? views id ≡ some v → (P v → Q w)
      → ((u : V) → P u → Q u) → Among views P → Among (set views id w) Q
  among_after views id v w P Q at mine others a = dite (ℕ_discrete a.0 id)
      (λ e. let same : v ≡ a.1 = some-injective v a.1 (sym at ∙ ap (get_elem? views) (sym e) ∙ a.2) in
      (id, w, here_after views id v w at, mine (subst P (sym same) a.3)))
      (λ ne. (a.0, a.1, set_else views id a.0 w ne ∙ a.2, others a.1 a.3))

module _ {S R : Type 0} where
  -- a view that has nothing, whoever has the slot
  idle_hand : (log log' base : List (Entry S R)) (lock lock' : Lock) (gone gone' : Bool) (j : ℕ) (h : Has)
      → lock ≢ by j → HasFits log lock gone j base h → HasFits log' lock' gone' j base h
  idle_hand log log' base lock lock' gone gone' j Nothing a f = tt
  idle_hand log log' base lock lock' gone gone' j Value a f = absurd (a f.0)
  idle_hand log log' base lock lock' gone gone' j Mark a f = absurd (a f.0)

  hand_as : (log base : List (Entry S R)) (lock : Lock) (gone : Bool) (id : ℕ) (h h' : Has) → h ≡ h'
      → HasFits log lock gone id base h → HasFits log lock gone id base h'
  hand_as log base lock gone id h h' e f = subst (HasFits log lock gone id base) e f

  held_by : (log base : List (Entry S R)) (lock : Lock) (gone : Bool) (id : ℕ) (h : Has) → (h ≡ Value) ⊎ (h ≡ Mark)
      → HasFits log lock gone id base h → lock ≡ by id
  held_by log base lock gone id h (inl e) f = (hand_as log base lock gone id h Value e f).0
  held_by log base lock gone id h (inr e) f = (hand_as log base lock gone id h Mark e f).0

no_value : Value ≢ Nothing
no_value e = cc

no_mark : Mark ≢ Nothing
no_mark e = cc

module _ {T S R : Type 0} (t : T) (log log' : List (Entry S R)) (lock lock' : Lock) (gone gone' : Bool) (owner : ℕ
    → Owner) (kids : ℕ) (joined : List (Joined S R)) where
  pub still : (j : ℕ) (u : View T S R) → IsPrefix log log' → (gone ≡ true → gone' ≡ true)
      → (HasFits log lock gone j u.base u.has → HasFits log' lock' gone' j u.base u.has)
      → (owner u.name ≡ own j → places u.name log' ≡ places u.name log) → Fits t log lock gone owner kids joined j u
      → Fits t log' lock' gone' owner kids joined j u
  still j u more g hand at f = record {
    begins = prefix_trans u.seen log log' f.begins more;
    based = prefix_trans u.base log log' f.based more;
    low = let a : u.floor ≤ length log = f.low in let b = prefix_length log log' more in omega arith;
    told = λ e. g (f.told e);
    hand = hand f.hand;
    named = λ n. let o = f.named n in record {
      opened = o.opened;
      owned = o.owned;
      all_mine = o.all_mine ∙ sym (at o.owned);
      own_seen = o.own_seen;
      known = o.known;
      first = o.first;
      later = o.later;
    };
    spent = f.spent;
  }

-- what a step does to the history: nothing, or it adds entries of one name that is this view's own
record Grown {S R : Type 0} (log log' : List (Entry S R)) (owner : ℕ → Owner) (kids id : ℕ) : Type 0 where
  more : IsPrefix log log'
  others : (n : ℕ) → owner n ≢ own id → places n log' ≡ places n log
  names : (p : ℕ) (e : Entry S R) → get_elem? log' p ≡ some e → e.name ≤ kids

module _ {T S R : Type 0} (next : T → S → T × R) (t : T) where
  abbrev V : Type 0
  V = View T S R

  abbrev St : Type 0
  St = State (Held T S) V

  abbrev stays : (s : St) (k : Kept next t s) (id : ℕ) → Grown k.log k.log k.owner k.kids id
  stays s k id = record { more = prefix_refl k.log; others = λ n ne. refl; names = k.names }

  -- what a move has to show of the lock: which others had nothing, and that who has the slot then has something
  record Turned (k_lock lock : Lock) (gone gone' : Bool) (log log' : List (Entry S R)) (id : ℕ)
      (views : List V) : Type 0 where
    lost : gone ≡ true → gone' ≡ true
    hands : (j : ℕ) (base : List (Entry S R)) (h : Has) → j ≢ id → HasFits log k_lock gone j base h
        → HasFits log' lock gone' j base h
    why : gone' ≡ true → Among views (λ u. u.lost ≡ true)
    holder : (j : ℕ) → lock ≡ by j → (u : V) × (get_elem? views j ≡ some u) × (u.has ≢ Nothing)

  pub stands_after : (views : List V) (owner : ℕ → Owner) (joined : List (Joined S R)) (id : ℕ) (v w : V) (n : ℕ)
      → get_elem? views id ≡ some v → (v.named ≡ true → w.named ≡ true) → w.name ≡ v.name
      → Stands views owner joined n → Stands (set views id w) owner joined n
  stands_after views owner joined id v w n at kn sn (inr x) = inr x
  stands_after views owner joined id v w n at kn sn (inl x) = dite (ℕ_discrete x.0 id)
      (λ e. let same : v ≡ x.1 = some-injective v x.1 (sym at ∙ ap (get_elem? views) (sym e) ∙ x.3) in
      inl (
        id,
        w,
        x.2 ∙ ap own e,
        here_after views id v w at,
        kn (ap (λ (z : V). z.named) same ∙ x.4),
        sn
            ∙ ap (λ (z : V). z.name) same ∙ x.5,
      ))
      (λ ne. inl (x.0, x.1, x.2, set_else views id x.0 w ne ∙ x.3, x.4, x.5))

  -- the rule after one view changed
  moved : (s : St) (k : Kept next t s) (id : ℕ) (v w : V) → get_elem? s.views id ≡ some v
      → (v.named ≡ true → w.named ≡ true) → w.name ≡ v.name → (ws : List ℕ) (hs : List (maybe.Option (Held T S)))
      (log : List (Entry S R)) (lock : Lock) (gone : Bool) (others : List ℕ)
      → ws ≡ words_of (length log) (lock_word lock) others → hs ≡ homes_of next t log gone lock → length log ≤ 2 ^ 62
      → IsLegal next t log → Grown k.log log k.owner k.kids id
      → Turned k.lock lock k.gone gone k.log log id (set s.views id w)
      → Fits t log lock gone k.owner k.kids k.joined id w → Among (set s.views id w) (λ u. u.seen ≡ log)
      → Kept next t record { words = ws; homes = hs; views = set s.views id w }
  moved s k id v w at kept_name same_name ws hs log lock gone others words homes short legal grown turned mine
      longest = record {
        log = log;
        lock = lock;
        gone = gone;
        owner = k.owner;
        kids = k.kids;
        joined = k.joined;
        others = others;
        words = words;
        homes = homes;
        short = short;
        legal = legal;
        each = each_after s.views id w (Fits t log lock gone k.owner k.kids k.joined)
            (Fits t k.log k.lock k.gone k.owner k.kids k.joined) mine
            (λ j u ne f. still t k.log log k.lock lock k.gone gone k.owner k.kids k.joined j u grown.more turned.lost
            (turned.hands j u.base u.has ne) (λ o. grown.others u.name
            (λ e. ne (own_same j id (sym o ∙ e)))) f) k.each;
        names = grown.names;
        took_in = λ q j at. let o = k.took_in q j at in record {
          owned = o.owned;
          all_mine = o.all_mine ∙ sym (grown.others j.name (λ e. own_joined id q (sym e ∙ o.owned)));
          all_pairs = o.all_pairs ∙ sym (same_pairs j.name k.log log grown.more
              (grown.others j.name (λ e. own_joined id q (sym e ∙ o.owned))));
          later = o.later;
          known = o.known;
        };
        placed = λ n le. stands_after s.views k.owner k.joined id v w n at kept_name same_name (k.placed n le);
        longest = longest;
        why = turned.why;
        holder = turned.holder;
      }

  abbrev Goes : St → ℕ → ℕ → Us T S R → (ℕ → Us T S R → Type 0) → ℕ → Type 0
  Goes s i id me then y = (w : V) × (a : Act (Held T S)) × Valid s.homes me.1 a
      × Kept next t (stepped s i y id me.1 w a) × then (get_or s.words i 0) (w, carried_after me.1 a)

  -- who gets the slot has something then
  got : (views : List V) (id : ℕ) (v w : V) (lock : Lock) → get_elem? views id ≡ some v → lock ≡ by id
      → w.has ≢ Nothing → (j : ℕ) → lock ≡ by j → (u : V) × (get_elem? (set views id w) j ≡ some u)
      × (u.has ≢ Nothing)
  got views id v w lock at is has j e = let same : id ≡ j = (let z : by id ≡ by j = sym is ∙ e in cc) in
      subst (λ (n : ℕ). (u : V) × (get_elem? (set views id w) n ≡ some u) × (u.has ≢ Nothing)) same (
        w,
        here_after views id v w at,
        has,
      )

  nobody_has : (views : List V) (lock : Lock) → lock ≡ free → (j : ℕ) → lock ≡ by j → (u : V)
      × (get_elem? views j ≡ some u) × (u.has ≢ Nothing)
  nobody_has views lock is j e = absurd (free_not_by lock j is e)

  -- the view changes in other parts than `has`
  pub same_holder : (views : List V) (id : ℕ) (v w : V) (lock : Lock) → get_elem? views id ≡ some v → w.has ≡ v.has
      → ((j : ℕ) → lock ≡ by j → (u : V) × (get_elem? views j ≡ some u) × (u.has ≢ Nothing))
      → (j : ℕ) → lock ≡ by j → (u : V) × (get_elem? (set views id w) j ≡ some u) × (u.has ≢ Nothing)
  same_holder views id v w lock at has old j who = let o = old j who in dite (ℕ_discrete j id)
      (λ e. let same : v ≡ o.0 = some-injective v o.0 (sym at ∙ ap (get_elem? views) (sym e) ∙ o.1) in
      subst (λ (n : ℕ). (u : V) × (get_elem? (set views id w) n ≡ some u) × (u.has ≢ Nothing)) (sym e) (
        w,
        here_after views id v w at,
        λ none. o.2 (ap (λ (z : V). z.has) (sym same) ∙ sym has ∙ none),
      ))
      (λ ne. (o.0, set_else views id j w ne ∙ o.1, o.2))

  -- a view that is like the old one in what it has seen and lost
  pub same_why : (s : St) (k : Kept next t s) (id : ℕ) (v w : V) → get_elem? s.views id ≡ some v → w.lost ≡ v.lost
      → k.gone ≡ true → Among (set s.views id w) (λ u. u.lost ≡ true)
  same_why s k id v w at lost gone = among_after s.views id v w (λ u. u.lost ≡ true) (λ u. u.lost ≡ true) at
      (λ e. lost ∙ e) (λ u e. e) (k.why gone)

  pub same_longest : (s : St) (k : Kept next t s) (id : ℕ) (v w : V) → get_elem? s.views id ≡ some v → w.seen ≡ v.seen
      → Among (set s.views id w) (λ u. u.seen ≡ k.log)
  same_longest s k id v w at seen = among_after s.views id v w (λ u. u.seen ≡ k.log) (λ u. u.seen ≡ k.log) at
      (λ e. seen ∙ e) (λ u e. e) k.longest

  -- the slot goes from nobody to this view
  seized : (s : St) (k : Kept next t s) (id : ℕ) (v w : V) → get_elem? s.views id ≡ some v → ((j : ℕ) → k.lock ≢ by j)
      → w.lost ≡ v.lost → w.has ≢ Nothing → Turned k.lock (by id) k.gone k.gone k.log k.log id (set s.views id w)
  seized s k id v w at alone lost has = record {
    lost = λ e. e;
    hands = λ j base h ne. idle_hand k.log k.log base k.lock (by id) k.gone k.gone j h (alone j);
    why = same_why s k id v w at lost;
    holder = got s.views id v w (by id) at refl has;
  }

  unspent : (v : V) → v.named ≡ true → v.named ≡ false → (v.seen ≡ []) × (v.lost ≡ false) × (v.has ≡ Nothing)
  unspent v n m = not_both v.named n m

  hits : (slots id : ℕ) (v : V) (said : maybe.Option (Held T S)) (s : St) (k : Kept next t s) → v.named ≡ true
      → get_elem? s.views id ≡ some v → get_or s.words 8 0 ≡ 0 → k.lock ≡ free → (g : Bool) → k.gone ≡ g
      → Goes s 8 id (v, []) (took next (step slots 8 0 1 said) (v, [])) 1
  hits slots id v said s k named at hit e false gi = let f = k.each id v at in
      let h : s.homes ≡ some (held.Value (after next t k.log)) ∷ [] = k.homes
      ∙ (λ i. homes_of next t k.log (gi i) (e i)) in let w : V = taking v Value k.log (asked said) in (
        w,
        takes 0 (held.Value (after next t k.log)),
        ap (λ hs. get_elem? hs 0) h,
        moved s k id v w at (λ n. n) refl (set s.words 8 1) (set s.homes 0 none) k.log (by id) k.gone k.others
            (ap (λ ws. set ws 8 1) k.words) (ap (λ hs. set hs 0 none) h) k.short k.legal (stays s k id)
            (seized s k id v w at (λ j. free_not_by k.lock j e) refl no_value)
            record {
              begins = f.begins;
              based = prefix_refl k.log;
              low = f.low;
              told = f.told;
              hand = (refl, refl, gi);
              named = f.named;
              spent = λ m. not_both v.named named m;
            } (same_longest s k id v w at refl),
        (
          (λ _. (
            k.log,
            f.begins,
            f.low,
            inl (
              after next t k.log,
              refl,
              (λ t' is. let o = (f.named named).opened in let same : t ≡ t' = cc in
                  (ap (λ (z : T). after next z k.log) same, subst (λ (z : T). IsLegal next z k.log) same k.legal)),
              not_lost v.lost k.gone f.told gi,
            ),
          )),
          λ miss. absurd (miss hit),
        ),
      )
  hits slots id v said s k named at hit e true gi = let f = k.each id v at in
      let h : s.homes ≡ some held.Mark ∷ [] = k.homes ∙ (λ i. homes_of next t k.log (gi i) (e i)) in
      let w : V = taking v Mark k.log (asked said) in (
        w,
        takes 0 held.Mark,
        ap (λ hs. get_elem? hs 0) h,
        moved s k id v w at (λ n. n) refl (set s.words 8 1) (set s.homes 0 none) k.log (by id) k.gone k.others
            (ap (λ ws. set ws 8 1) k.words) (ap (λ hs. set hs 0 none) h) k.short k.legal (stays s k id)
            (seized s k id v w at (λ j. free_not_by k.lock j e) refl no_mark)
            record {
              begins = f.begins;
              based = prefix_refl k.log;
              low = f.low;
              told = f.told;
              hand = (refl, gi);
              named = f.named;
              spent = λ m. not_both v.named named m;
            } (same_longest s k id v w at refl),
        ((λ _. (k.log, f.begins, f.low, inr refl)), λ miss. absurd (miss hit)),
      )

  -- a move that changes no word and no lock
  turned_same : (s : St) (k : Kept next t s) (id : ℕ) (v w : V) → get_elem? s.views id ≡ some v → w.has ≡ v.has
      → w.lost ≡ v.lost → Turned k.lock k.lock k.gone k.gone k.log k.log id (set s.views id w)
  turned_same s k id v w at has lost = record {
    lost = λ e. e;
    hands = λ j base h ne f. f;
    why = same_why s k id v w at lost;
    holder = same_holder s.views id v w k.lock at has k.holder;
  }

  takes_at : (slots id : ℕ) (v : V) (said : maybe.Option (Held T S)) → v.named ≡ true
      → Allows (Kept next t) slots id (v, []) 8 (λ n. either (eqb n 0) 1 n)
      (took next (step slots 8 0 1 said) (v, []))
  takes_at slots id v said named s k wide at small = let n : ℕ = get_or s.words 8 0 in
      let is : n ≡ lock_word k.lock = ap (λ ws. get_or ws 8 0) k.words in
      exchanged n 0 1 (Goes s 8 id (v, []) (took next (step slots 8 0 1 said) (v, [])))
      (λ hit. hits slots id v said s k named at hit (free_of k.lock (sym is ∙ hit)) k.gone refl)
      (λ miss. (
        v,
        keeps,
        tt,
        moved s k id v v at (λ n. n) refl (set s.words 8 n) s.homes k.log k.lock k.gone k.others
            (ap (λ ws. set ws 8 n) k.words ∙ ap (λ (m : ℕ). words_of (length k.log) m k.others) is) k.homes k.short
            k.legal
            (stays s k id) (turned_same s k id v v at refl refl) (k.each id v at) (same_longest s k id v v at refl),
        ((λ hit. absurd (miss hit)), λ _. refl),
      ))

  pub takes_slot : (slots id : ℕ) (me : Us T S R) (said : maybe.Option (Held T S)) → me.1 ≡ [] → me.0.named ≡ true
      → Allows (Kept next t) slots id me 8 (λ n. either (eqb n 0) 1 n) (took next (step slots 8 0 1 said) me)
  takes_slot slots id me said e named = subst (λ (c : List (ℕ × Held T S)). Allows (Kept next t) slots id (
    me.0,
    c,
  ) 8 (λ n. either (eqb n 0) 1 n) (took next (step slots 8 0 1 said) (me.0, c))) (sym e)
      (takes_at slots id me.0 said named)

  pub asks_again : (slots id : ℕ) (me : Us T S R) (said : maybe.Option (Held T S))
      → Allows (Kept next t) slots id me 8 (λ n. either (eqb n 1) 1 n) (λ _. again (step slots 8 1 1 said) me)
  asks_again slots id me said s k wide at small = let v = me.0 in let f = k.each id v at in
      let n : ℕ = get_or s.words 8 0 in let is : n ≡ lock_word k.lock = ap (λ ws. get_or ws 8 0) k.words in
      exchanged n 1 1 (λ y. (u : V) × (a : Act (Held T S)) × Valid s.homes me.1 a
      × Kept next t (stepped s 8 y id me.1 u a) × again (step slots 8 1 1 said) me (u, carried_after me.1 a))
      (λ hit. same f 1 (sym hit ∙ is)) (λ miss. same f n is)
    where
      same : Fits t k.log k.lock k.gone k.owner k.kids k.joined id me.0 → (y : ℕ) → y ≡ lock_word k.lock
          → (u : V) × (a : Act (Held T S)) × Valid s.homes me.1 a
          × Kept next t (stepped s 8 y id me.1 u a) × again (step slots 8 1 1 said) me (u, carried_after me.1 a)
      same f y is = let v = me.0 in let w : V = asking v (asked said) in (
        w,
        keeps,
        tt,
        moved s k id v w at (λ n. n) refl (set s.words 8 y) s.homes k.log k.lock k.gone k.others
            (ap (λ ws. set ws 8 y) k.words ∙ ap (λ (m : ℕ). words_of (length k.log) m k.others) is) k.homes k.short
            k.legal
            (stays s k id) (turned_same s k id v w at refl refl)
            record {
              begins = f.begins;
              based = f.based;
              low = f.low;
              told = f.told;
              hand = f.hand;
              named = f.named;
              spent = f.spent;
            } (same_longest s k id v w at refl),
        refl,
      )

  pub looks : (slots id : ℕ) (me : Us T S R) → Allows (Kept next t) slots id me 0 (λ n. n) (looked me)
  looks slots id me s k wide at small = let v = me.0 in let f = k.each id v at in let n : ℕ = get_or s.words 0 0 in
      let is : n ≡ length k.log = ap (λ ws. get_or ws 0 0) k.words in
      let low : v.floor ≤ length k.log = f.low in let long : length v.seen ≤ length k.log =
      prefix_length v.seen k.log f.begins in let short : length k.log ≤ 2 ^ 62 = k.short in
      let w : V = seeing v n in (
        w,
        keeps,
        tt,
        moved s k id v w at (λ n. n) refl (set s.words 0 n) s.homes k.log k.lock k.gone k.others
            (ap (λ ws. set ws 0 n) k.words ∙ ap
            (λ (m : ℕ). words_of m (lock_word k.lock) k.others) is) k.homes k.short k.legal (stays s k id)
            (turned_same s k id v w at refl refl)
            record {
              begins = f.begins;
              based = f.based;
              low = omega arith;
              told = f.told;
              hand = f.hand;
              named = f.named;
              spent = f.spent;
            } (same_longest s k id v w at refl),
        (
          refl,
          omega arith,
          omega arith,
          omega arith,
          λ h. is ∙ ap length
              (sym (hand_as k.log v.base k.lock k.gone id v.has Value h f.hand).1),
        ),
      )

  pub compares : (slots id : ℕ) (me : Us T S R) → Allows (Kept next t) slots id me 0 (λ n. n) (λ _. compared me)
  compares slots id me s k wide at small = let v = me.0 in let f = k.each id v at in let n : ℕ = get_or s.words 0 0 in
      let is : n ≡ length k.log = ap (λ ws. get_or ws 0 0) k.words in (
        v,
        keeps,
        tt,
        moved s k id v v at (λ n. n) refl (set s.words 0 n) s.homes k.log k.lock k.gone k.others
            (ap (λ ws. set ws 0 n) k.words ∙ ap (λ (m : ℕ). words_of m (lock_word k.lock) k.others) is) k.homes
            k.short k.legal
            (stays s k id) (turned_same s k id v v at refl refl) f (same_longest s k id v v at refl),
        (
          refl,
          (
            k.log,
            f.begins,
            f.based,
            λ q j n z a. (k.took_in q j
                (ap (λ (l : List (Joined S R)). get_elem? l q) (sym ((f.named n).first z).1) ∙ a)).all_mine,
          ),
          λ n. (f.named n).own_seen,
        ),
      )

  -- a word changes of which the rule says nothing
  pub touches : (slots id : ℕ) (me : Us T S R) (i : ℕ) (f : ℕ → ℕ)
      → Allows (Kept next t) slots id me (suc (suc (suc (suc (suc (suc (suc (suc (suc i))))))))) f (λ _ m'. m' ≡ me)
  touches slots id me i f s k wide at small = let v = me.0 in let y : ℕ =
      f (get_or s.words (suc (suc (suc (suc (suc (suc (suc (suc (suc i))))))))) 0) in (
        v,
        keeps,
        tt,
        moved s k id v v at (λ n. n) refl (set s.words (suc (suc (suc (suc (suc (suc (suc (suc (suc i))))))))) y) s.homes
            k.log k.lock k.gone (set k.others i y)
            (ap (λ ws. set ws (suc (suc (suc (suc (suc (suc (suc (suc (suc i))))))))) y) k.words) k.homes k.short k.legal
            (stays s k id)
            (turned_same s k id v v at refl refl) (k.each id v at) (same_longest s k id v v at refl),
        refl,
      )

  -- the same, of any word behind the lock
  pub touches_at : (slots id : ℕ) (me : Us T S R) (w : ℕ) (f : ℕ → ℕ) → 9 ≤ w
      → Allows (Kept next t) slots id me w f (λ _ m'. m' ≡ me)
  touches_at slots id me w f le = let e : suc (suc (suc (suc (suc (suc (suc (suc (suc (w - 9))))))))) ≡ w = omega arith in
      subst (λ (v : ℕ). Allows (Kept next t) slots id me v f (λ _ m'. m' ≡ me)) e (touches slots id me (w - 9) f)

  names_more : (log : List (Entry S R)) (e : Entry S R) (kids : ℕ) → e.name ≤ kids
      → ((p : ℕ) (x : Entry S R) → get_elem? log p ≡ some x → x.name ≤ kids) → (p : ℕ) (x : Entry S R)
      → get_elem? (log ++ e ∷ []) p ≡ some x → x.name ≤ kids
  names_more log e kids known all p x at = go (at_snoc log e x p at)
    where
      go : (get_elem? log p ≡ some x) ⊎ (e ≡ x) → x.name ≤ kids
      go (inl a) = all p x a
      go (inr same) = subst (λ (z : Entry S R). z.name ≤ kids) same known

  pub notes : (slots id : ℕ) (me : Us T S R) (a : S) → me.0.has ≡ Value → me.0.ask ≡ Some a
      → length me.0.base < 2 ^ 62 → me.0.named ≡ true → Allows (Kept next t) slots id me 0 (λ n. (n + 1) % 2 ^ 64)
      (λ _. noted next me)
  notes slots id me a has ask room named s k wide at small = let v = me.0 in let f = k.each id v at in
      let n : ℕ = get_or s.words 0 0 in let is : n ≡ length k.log = ap (λ ws. get_or ws 0 0) k.words in
      let hand = hand_as k.log v.base k.lock k.gone id v.has Value has f.hand in
      let e : Entry S R = entry_of next t v a in let log : List (Entry S R) = v.base ++ e ∷ [] in
      let y : ℕ = (n + 1) % 2 ^ 64 in let w : V = noting next t v a in
      let lb : length v.base ≡ length k.log = ap length hand.1 in
      let ll : length log ≡ length v.base + 1 = length-append v.base (e ∷ []) in
      let room' : length v.base < 2 ^ 62 = room in let ys : y ≡ length log = omega arith in
      let more : IsPrefix k.log log = (e ∷ [], ap (λ (l : List (Entry S R)). l ++ e ∷ []) (sym hand.1)) in
      let legal : IsLegal next t log = subst (λ (b : List (Entry S R)). IsLegal next t (b ++ e ∷ [])) (sym hand.1)
      (legal_more next t k.log e k.legal (λ i. (next (after next t (hand.1 i)) a).1)) in
      let o = f.named named in let mine : v.mine ++ length v.base ∷ [] ≡ places v.name log =
      ap (λ (l : List ℕ). l ++ length v.base ∷ []) (o.all_mine ∙ ap (places v.name) (sym hand.1))
      ∙ sym (places_mine v.name v.base e refl) in
      let grown : Grown k.log log k.owner k.kids id = record {
        more = more;
        others = λ m ne. places_others m v.base e (λ same. ne (ap k.owner (sym same) ∙ o.owned)) ∙ ap (places m) hand.1;
        names = names_more v.base e k.kids o.known (subst (λ (b : List (Entry S R)). (p : ℕ) (x : Entry S R)
            → get_elem? b p ≡ some x → x.name ≤ k.kids) (sym hand.1) k.names);
      } in
      let turned : Turned k.lock k.lock k.gone k.gone k.log log id (set s.views id w) = record {
        lost = λ z. z;
        hands = λ j base h ne. idle_hand k.log log base k.lock k.lock k.gone k.gone j h
            (by_not_by k.lock id j hand.0 ne);
        why = same_why s k id v w at refl;
        holder = same_holder s.views id v w k.lock at refl k.holder;
      } in (
        w,
        keeps,
        tt,
        moved s k id v w at (λ n. n) refl (set s.words 0 y) s.homes log k.lock k.gone k.others
            (ap (λ ws. set ws 0 y) k.words ∙ ap (λ (m : ℕ). words_of m (lock_word k.lock) k.others) ys) (k.homes
            ∙ (λ i. homes_of next t k.log k.gone (hand.0 i)) ∙ (λ i. homes_of next t log k.gone (sym hand.0 i)))
            (omega arith) legal grown turned
            record {
              begins = prefix_refl log;
              based = prefix_refl log;
              low = omega arith;
              told = f.told;
              hand = subst (HasFits log k.lock k.gone id log) (sym has) (hand.0, refl, hand.2);
              named = λ _. record {
                opened = o.opened;
                owned = o.owned;
                all_mine = mine;
                own_seen = mine;
                known = o.known;
                first = o.first;
                later = o.later;
              };
              spent = λ m. not_both v.named named m;
            }
            (id, w, here_after s.views id v w at, refl),
        λ t' a' opened ask'. let one : a ≡ a' = cc in let same : t ≡ t' = (let z : v.opening ≡ Some t = o.opened in
            cc) in
            subst (λ (z : T). (◌≡◌ {A = Us T S R} (w, me.1) (noting next z v a', me.1)) × IsLegal next z log
            × (w.mine ≡ places v.name log)) same (ap (λ (x : S). (noting next t v x, me.1)) one, legal, mine),
      )

  gives_at : (slots id : ℕ) (v : V) (x : Held T S) → v.named ≡ true → Ready next t v x
      → Allows (Kept next t) slots id (v, (0, x) ∷ []) 8 (λ _. 0) (λ _. gave (v, (0, x) ∷ []))
  gives_at slots id v x named (inl ok) s k wide at small = let f = k.each id v at in
      let hand = hand_as k.log v.base k.lock k.gone id v.has Value ok.0 f.hand in
      let out : s.homes ≡ none ∷ [] = k.homes ∙ ap (homes_of next t k.log k.gone) hand.0 in
      let w : V = giving v (lost_after x v.lost) in let stood : w.lost ≡ v.lost =
      ap (λ (y : Held T S). lost_after y v.lost) ok.1 in (
        w,
        gives,
        tt,
        moved s k id v w at (λ n. n) refl (set s.words 8 0) (set s.homes 0 (some x)) k.log free k.gone k.others
            (ap (λ ws. set ws 8 0) k.words)
            (ap (λ hs. set hs 0 (some x)) out ∙ ap (λ (z : Held T S). some z ∷ []) (ok.1
            ∙ (λ i. held.Value (after next t (hand.1 i)))) ∙ ap (λ (b : Bool). some (resting next t k.log b) ∷ [])
            (sym hand.2)) k.short k.legal (stays s k id)
            record {
              lost = λ z. z;
              hands = λ j base h ne. idle_hand k.log k.log base k.lock free k.gone k.gone j h
                  (by_not_by k.lock id j hand.0 ne);
              why = same_why s k id v w at stood;
              holder = nobody_has (set s.views id w) free refl;
            }
            record {
              begins = f.begins;
              based = (k.log, refl);
              low = f.low;
              told = λ z. f.told (sym stood ∙ z);
              hand = tt;
              named = f.named;
              spent = λ m. not_both v.named named m;
            } (same_longest s k id v w at refl),
        λ x' same. ap (λ (y : Held T S). (giving v (lost_after y v.lost), [])) (ap (top x) same),
      )
  gives_at slots id v x named (inr ok) s k wide at small = let f = k.each id v at in
      let mine = held_by k.log v.base k.lock k.gone id v.has ok.0 f.hand in
      let out : s.homes ≡ none ∷ [] = k.homes ∙ ap (homes_of next t k.log k.gone) mine in
      let w : V = giving v (lost_after x v.lost) in let lost : w.lost ≡ true =
      ap (λ (y : Held T S). lost_after y v.lost) ok.1 in (
        w,
        gives,
        tt,
        moved s k id v w at (λ n. n) refl (set s.words 8 0) (set s.homes 0 (some x)) k.log free true k.others
            (ap (λ ws. set ws 8 0) k.words)
            (ap (λ hs. set hs 0 (some x)) out ∙ ap (λ (z : Held T S). some z ∷ []) ok.1) k.short k.legal (stays s k id)
            record {
              lost = λ _. refl;
              hands = λ j base h ne. idle_hand k.log k.log base k.lock free k.gone true j h
                  (by_not_by k.lock id j mine ne);
              why = λ _. (id, w, here_after s.views id v w at, lost);
              holder = nobody_has (set s.views id w) free refl;
            }
            record {
              begins = f.begins;
              based = (k.log, refl);
              low = f.low;
              told = λ _. refl;
              hand = tt;
              named = f.named;
              spent = λ m. not_both v.named named m;
            } (same_longest s k id v w at refl),
        λ x' same. ap (λ (y : Held T S). (giving v (lost_after y v.lost), [])) (ap (top x) same),
      )

  pub gives_slot : (slots id : ℕ) (me : Us T S R) (x : Held T S) → me.0.named ≡ true → me.1 ≡ (0, x) ∷ []
      → Ready next t me.0 x → Allows (Kept next t) slots id me 8 (λ _. 0) (λ _. gave me)
  gives_slot slots id me x named e ok = subst (λ (c : List (ℕ × Held T S)). Allows (Kept next t) slots id (
    me.0,
    c,
  ) 8 (λ _. 0) (λ _. gave (me.0, c))) (sym e) (gives_at slots id me.0 x named ok)

  abbrev first_owner : ℕ → Owner
  first_owner _ = own 0

  first_each : (j : ℕ) (u : V) → get_elem? (first_view {S = S} {R = R} t ∷ []) j ≡ some u
      → Fits t [] free false first_owner 0 [] j u
  first_each zero u at = subst (Fits t [] free false first_owner 0 [] zero)
      (some-injective (first_view t) u at) record {
        begins = prefix_refl [];
        based = prefix_refl [];
        low = omega arith;
        told = λ z. z;
        hand = tt;
        named = λ _. record {
          opened = refl;
          owned = refl;
          all_mine = refl;
          own_seen = refl;
          known = omega arith;
          first = λ _. (refl, refl);
          later = λ _. (refl, refl);
        };
        spent = λ m. absurd (cc);
      }
  first_each (suc j) u at = absurd (some-ne-none u (sym at))

  pub starts : (others : List ℕ)
      → Kept next t (opening (words_of 0 0 others) (held.Value t ∷ []) (first_view {S = S} {R = R} t))
  starts others = record {
    log = [];
    lock = free;
    gone = false;
    owner = first_owner;
    kids = 0;
    joined = [];
    others = others;
    words = refl;
    homes = refl;
    short = omega arith;
    legal = tt;
    each = first_each;
    names = λ p e at. absurd (some-ne-none e (sym at));
    took_in = λ k j at. absurd (some-ne-none j (sym at));
    placed = λ n le. inl (0, first_view t, refl, refl, refl, (let h : n ≤ 0 = le in omega arith));
    longest = (0, first_view t, refl, refl);
    why = λ e. absurd (cc);
    holder = λ j e. absurd (cc);
  }
