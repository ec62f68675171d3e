-- A reference with caveats that were read behind its own is sound.
use Rattle.std.proofs.Common.{◌≡◌, false, List, [], ◌∷◌, ◌++◌, map, refl, subst, sym}
use Rattle.std.specs.List.{AllByRecursion}
use Rattle.pv_value.specs.Plain.{Plain}
use Rattle.sr_caveat.specs.Patterns.{Caveat}
use Rattle.sr_caveat.specs.Written.{caveat_of}
use Rattle.sr_caveat.specs.Caps.{Cap, IsSound, IsReadBack}
use Rattle.sr_caveat.specs.Lemmas.CaveatsBack.{read_back as caveat_back}
use Rattle.gk_sturdy.specs.Refs.{SturdyRef}
use Rattle.gk_sturdy.specs.Bindings.{Binding}
use Rattle.gk_sturdy.specs.Answers.{given_by}

pub all_read : (vs : List Plain) → AllByRecursion IsReadBack (map (caveat_of false) vs)
all_read [] = tt
all_read (v ∷ vs) = (caveat_back false v, all_read vs)

all_more : (cs ds : List Caveat) → AllByRecursion IsReadBack cs → AllByRecursion IsReadBack ds
    → AllByRecursion IsReadBack (cs ++ ds)
all_more [] ds h k = k
all_more (c ∷ cs) ds h k = (h.0, all_more cs ds h.1 k)

pub sound_more : (c : Cap) (ds cs : List Caveat) → IsSound c → AllByRecursion IsReadBack ds → cs ≡ c.caveats ++ ds
    → IsSound (record { actor = c.actor; entity = c.entity; caveats = cs })
sound_more c ds cs h k is =
    (h.0, h.1, subst (AllByRecursion IsReadBack) (sym is) (all_more c.caveats ds h.2 k))

-- what a binding gives is sound, where its own reference is
pub given_sound : (b : Binding) (r : SturdyRef) → IsSound b.cap → IsSound (given_by b r)
given_sound b r h =
    sound_more b.cap (map (caveat_of false) r.caveats) (given_by b r).caveats h (all_read r.caveats) refl
