-- What was found in a feed, as what is next of packets.
use Rattle.std.proofs.Common.{◌≡◌, ℕ, ◌+◌, List, Option, Result, IfOk, IfSome, ap, subst, arith}
use Rattle.pv_value.specs.Plain.{Plain}
use Rattle.pv_binary.specs.Reads.{BeginsWith}
use Rattle.pv_stream.specs.Feeds.{FeedState, given}
use Rattle.pv_stream.specs.Nexts as values
use Rattle.pv_stream.specs.declared.nexts.Next.TheVariants.{Value}
use Rattle.pv_stream.specs.declared.nexts.Found.{Found}
use Rattle.rl_stream.specs.Nexts.{front_of, IsNext}
use Rattle.rl_stream.specs.Streams.{StreamState}
use Rattle.rl_stream.specs.declared.nexts.Next.{Next}

-- a value has as many bytes as are given with it
pub found_value : (f : FeedState) (v : Plain) (size : ℕ) → values.IsNext f (Value v) (given size f)
    → BeginsWith (front_of f.left) size v
found_value f v size (n, begins, same) =
    let e : f.before + size ≡ f.before + n = ap (λ (g : FeedState). g.before) same in
    let is : n ≡ size = omega (arith, e) in
    subst (λ m. BeginsWith (front_of f.left) m v) is begins

abbrev pub IsFound : FeedState → Found → Type 0
IsFound f x = values.IsNext f x.next (given x.size f)

abbrev pub at_place : List ℕ → ℕ → FeedState
at_place rest place = record { left = rest; before = place }

-- what is found in the feed of a stream is next in the stream
pub next_here : {E : Type 0} (f : FeedState) (st : StreamState) (x : Found) (place : ℕ) (y : Result Next E)
    → record { rest = f.left; place = f.before } ≡ st → place ≡ f.before → IsFound f x
    → ((rest : List ℕ) → IsFound (at_place rest place) x → IfOk y (IsNext rest place))
    → IfOk y (IsNext st.rest st.place)
next_here f st x place y view here found next =
    let there = subst (λ n. IsFound (at_place f.left n) x → IfOk y (IsNext f.left n)) here (next f.left) found in
    subst (λ (s : StreamState). IfOk y (IsNext s.rest s.place)) view there

-- and so is the turn with which its bytes begin
pub turn_here : {E : Type 0} (f : FeedState) (st : StreamState) (bytes : List ℕ) (y : Result (Option Next) E)
    → record { rest = f.left; place = f.before } ≡ st → bytes ≡ f.left
    → ((place : ℕ) → IfOk y (λ o. IfSome o (IsNext bytes place)))
    → IfOk y (λ o. IfSome o (IsNext st.rest st.place))
turn_here f st bytes y view here next =
    let there = subst (λ (b : List ℕ). IfOk y (λ o. IfSome o (IsNext b f.before))) here (next f.before) in
    subst (λ (s : StreamState). IfOk y (λ o. IfSome o (IsNext s.rest s.place))) view there
