-- A reference with further caveats is read as the reference that it was, with what was read of these behind its own.
use Rattle.std.proofs.Common.{◌≡◌, List, [], ◌∷◌, ◌++◌, map, false, refl, ap, ◌∙◌}
use Rattle.std.specs.List.{AllByRecursion}
use Rattle.pv_value.specs.Plain.{Plain, sequence, then_more, plains, listed}
use Rattle.pv_words.specs.Words.{number}
use Rattle.sr_caveat.specs.Patterns.{Caveat, caveats}
use Rattle.sr_caveat.specs.Spelled.{caveat_value, caveat_values}
use Rattle.sr_caveat.specs.Written.{caveat_of}
use Rattle.sr_caveat.specs.declared.caps.Cap.{Cap}
use Rattle.sr_caveat.specs.Caps.{cap_of, cap_value, attenuated, IsReadBack, IsSound}
use Rattle.sr_caveat.specs.Lemmas.Capped.{cap_is, cap_sound, caps_are_their_values}
use Rattle.sr_caveat.specs.Lemmas.CaveatsBack.{read_back}
use Rattle.rl_wire.specs.Crossing.{caveat_kept, with_caveats}
use Rattle.rl_wire.specs.Laws.{AttenuatedReferencesAreCaps}

abbrev from_wire : List Plain → List Caveat
from_wire ws = map (caveat_of false) ws

-- ---- the value of the reference with these caveats

kept_values : (ws : List Plain) → plains (map caveat_kept ws) ≡ caveat_values (caveats (from_wire ws))
kept_values [] = refl
kept_values (w ∷ ws) = ap (then_more (caveat_kept w)) (kept_values ws)

behind_own : (cs : List Caveat) (ws : List Plain)
    → plains (listed (caveat_values (caveats cs)) ++ map caveat_kept ws)
    ≡ caveat_values (caveats (cs ++ from_wire ws))
behind_own [] ws = kept_values ws
behind_own (c ∷ cs) ws = ap (then_more (caveat_value c)) (behind_own cs ws)

pub with_caveats_value : (c : Cap) (ws : List Plain)
    → with_caveats ws (cap_value c) ≡ cap_value (attenuated (from_wire ws) c)
with_caveats_value c ws =
    ap (λ xs. sequence (then_more (number c.actor) (then_more (number c.entity) xs))) (behind_own c.caveats ws)

-- ---- each of its caveats is one that was read

all_read : (ws : List Plain) → AllByRecursion IsReadBack (from_wire ws)
all_read [] = tt
all_read (w ∷ ws) = (read_back false w, all_read ws)

all_behind : (cs ds : List Caveat) → AllByRecursion IsReadBack cs → AllByRecursion IsReadBack ds
    → AllByRecursion IsReadBack (cs ++ ds)
all_behind [] ds own more = more
all_behind (c ∷ cs) ds own more = (own.0, all_behind cs ds own.1 more)

attenuated_sound : (c : Cap) (ws : List Plain) → IsSound c → IsSound (attenuated (from_wire ws) c)
attenuated_sound c ws sound = (sound.0, sound.1, all_behind c.caveats (from_wire ws) sound.2 (all_read ws))

-- ---- the law

pub with_caveats_is_cap : AttenuatedReferencesAreCaps
with_caveats_is_cap x c ws is =
    ap (λ y. cap_of (with_caveats ws y)) (cap_is x c is)
    ∙ ap cap_of (with_caveats_value c ws)
    ∙ caps_are_their_values.0 (attenuated (from_wire ws) c) (attenuated_sound c ws (cap_sound x c is))
