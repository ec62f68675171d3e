-- The values of a stream, one behind another, and what is done to a feed: pieces are pushed, and it is asked what is
-- next.
use Rattle.std.specs.Prelude.{◌≡◌, ℕ, List, [], ◌∷◌, ◌++◌, false}
use Rattle.pv_value.specs.Plain.{Plain}
use Rattle.pv_stream.specs.Feeds.{FeedState, with_bytes}
use Rattle.pv_stream.specs.Nexts.{IsNext, is_value}
use Rattle.pv_stream.specs.declared.nexts.Next.{Next}
use Rattle.pv_stream.specs.declared.nexts.Next.TheVariants as next

-- ---- values

-- these values are next, one behind another, and then the stream stands so
abbrev pub AreNext : List Plain → FeedState → FeedState → Type 0
AreNext [] f g = g ≡ f
AreNext (v ∷ vs) f g = (h : FeedState) × IsNext f (next.Value v) h × AreNext vs h g

-- the values, how the stream stands behind them, and what is next there
pub record Course : Type 0 where
  pub values : List Plain
  pub left : FeedState
  pub ends : Next

-- all the values of the stream
pub record AreValuesOf (f : FeedState) (c : Course) : Type 0 where
  pub values : AreNext c.values f c.left
  pub ends : IsNext c.left c.ends c.left
  pub no_more : is_value c.ends ≡ false

-- ---- what is done to a feed

pub data Deed : Type 0 where
  pushed : List ℕ → Deed
  told : Next → Deed

-- these deeds lead from one state to another
abbrev pub AreDone : List Deed → FeedState → FeedState → Type 0
AreDone [] f g = g ≡ f
AreDone (pushed b ∷ ds) f g = AreDone ds (with_bytes b f) g
AreDone (told x ∷ ds) f g = (h : FeedState) × IsNext f x h × AreDone ds h g

-- all that was pushed
abbrev pub pieces_of : List Deed → List ℕ
pieces_of [] = []
pieces_of (pushed b ∷ ds) = b ++ pieces_of ds
pieces_of (told x ∷ ds) = pieces_of ds

-- all values that were told
abbrev pub values_of : List Deed → List Plain
values_of [] = []
values_of (told (next.Value v) ∷ ds) = v ∷ values_of ds
values_of (d ∷ ds) = values_of ds
