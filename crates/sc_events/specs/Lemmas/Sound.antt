-- What a value writes is an event that, where it binds a reference, binds one that is read back.
use Rattle.std.proofs.Common.{◌≡◌, ℕ, zero, suc, pos, ◌<◌, ◌^◌, Bool, true, false, nat_lt, List, codes}
use Rattle.std.proofs.Common.{refl, sym, ap, ◌∙◌, subst, arith, Option, Some, None, option_map, if◌then◌else◌, ◌||◌}
use Rattle.std.proofs.lemmas.Bool.Decides.{nat_tests}
use Rattle.std.specs.List.{AllByRecursion}
use Rattle.pv_value.specs.Plain.{Plain, integer, string, byte_string, symbol, record_of, sequence, Plains, no_more}
use Rattle.pv_value.specs.Plain.{then_more}
use Rattle.pv_words.specs.Words.{is_word}
use Rattle.sr_caveat.specs.Patterns.{Caveat}
use Rattle.sr_caveat.specs.Caps.{IsSound, IsReadBack, caveats_from}
use Rattle.sr_caveat.specs.Embedded.{has_embedded, any_embedded}
use Rattle.sr_caveat.specs.Lemmas.CaveatsBack.{read_back}
use Rattle.gk_sturdy.specs.declared.bound.Binding.{Binding}
use Rattle.sc_events.specs.Events.{ScriptEvent, Bind, Open, Bytes, Close, Turn, Drain, LongDrain, name_in, arrival_in}
use Rattle.sc_events.specs.Events.{space_in, drain_event, schema_event, event_of_one, event_of_two}
use Rattle.sc_events.specs.Events.{reference_to, bound_to, binding_event, watch_between, watch_event}
use Rattle.sc_events.specs.Events.{event_of_four, event_of_record, event_of, IsSoundEvent}

all_read_back : (cs : Plains) → AllByRecursion IsReadBack (caveats_from cs)
all_read_back no_more = tt
all_read_back (then_more c cs) = (read_back true c, all_read_back cs)

-- a reference whose caveats were read
pub reference_sound : (actor : ℕ) (cs : Plains) (own : List Caveat) → actor < 2 ^ 32 → own ≡ caveats_from cs
    → IsSound (record { actor = actor; entity = 0; caveats = own })
reference_sound actor cs own small is =
    (small, omega arith, subst (AllByRecursion IsReadBack) (sym is) (all_read_back cs))

abbrev Fine : Option ScriptEvent → Type 0
Fine (Some (Bind b)) = IsSound b.cap
Fine o = Unit {0}

either : (b : Bool) (x y : Option ScriptEvent) → Fine x → Fine y → Fine (if b then x else y)
either true x y p q = p
either false x y p q = q

-- ---- events of one field and of two

open_fine : (o : Option ℕ) → Fine (option_map Open o)
open_fine None = tt
open_fine (Some s) = tt

close_fine : (o : Option ℕ) → Fine (option_map Close o)
close_fine None = tt
close_fine (Some k) = tt

turn_fine : (o : Option ℕ) → Fine (option_map Turn o)
turn_fine None = tt
turn_fine (Some k) = tt

bytes_fine : (b : List ℕ) (o : Option ℕ) → Fine (option_map (λ k. Bytes k b) o)
bytes_fine b None = tt
bytes_fine b (Some k) = tt

drain_fine : (v : Plain) → Fine (drain_event v)
drain_fine (integer (pos n)) = either _ (Some (Drain n)) (Some LongDrain) tt tt
drain_fine v = tt

schema_fine : (v : Plain) → Fine (schema_event v)
schema_fine (string s) = tt
schema_fine v = tt

one_fine : (word : List ℕ) (f : Plain) → Fine (event_of_one word f)
one_fine word f =
    either (is_word word (codes "open")) _ _ (open_fine (arrival_in f)) (either (is_word word (codes "close")) _ _
    (close_fine (name_in f)) (either (is_word word (codes "step")) _ _ (turn_fine (name_in f))
    (either (is_word word (codes "drain")) _ _ (drain_fine f) (either (is_word word (codes "schema")) _ None
    (schema_fine f) tt))))

two_fine : (word : List ℕ) (f g : Plain) → Fine (event_of_two word f g)
two_fine word f (byte_string b) = either (is_word word (codes "bytes")) _ None (bytes_fine b (name_in f)) tt
two_fine word f g = either (is_word word (codes "bytes")) None None tt tt

-- ---- events of four

space_small : (n : ℕ) (b : Bool) → nat_lt n 8 ≡ b → (s : ℕ) → (if b then Some (suc n) else None) ≡ Some s → s < 2 ^ 32
space_small n true is s e = let same : suc n ≡ s = cc in grind (arith, nat_tests, is, same)
space_small n false is s e = absurd cc

space_below : (v : Plain) (s : ℕ) → space_in v ≡ Some s → s < 2 ^ 32
space_below (integer (pos (suc n))) s is = space_small n (nat_lt n 8) refl s is
space_below v s is = absurd cc

module _ (oid : Plain) (key : List ℕ) (cs : Plains) where
  bound_fine : (o : Option ℕ) → ((s : ℕ) → o ≡ Some s → s < 2 ^ 32) → Fine (option_map (bound_to oid key cs) o)
  bound_fine None small = tt
  bound_fine (Some s) small = reference_sound s cs (caveats_from cs) (small s refl) refl

binding_fine : (oid key space caveats : Plain) → Fine (binding_event oid key space caveats)
binding_fine oid (byte_string key) space (sequence cs) =
    either (has_embedded oid || any_embedded cs) None _ tt (bound_fine oid key cs (space_in space) (space_below space))
binding_fine oid key space caveats = tt

between_fine : (pattern : Plain) (name : List ℕ) (from to : Option ℕ) → Fine (watch_between pattern name from to)
between_fine pattern name (Some from) (Some to) = tt
between_fine pattern name (Some from) None = tt
between_fine pattern name None to = tt

watch_fine : (from pattern to name : Plain) → Fine (watch_event from pattern to name)
watch_fine from pattern to (symbol name) =
    either (has_embedded pattern) None _ tt (between_fine pattern name (space_in from) (space_in to))
watch_fine from pattern to name = tt

four_fine : (word : List ℕ) (f g h i : Plain) → Fine (event_of_four word f g h i)
four_fine word f g h i =
    either (is_word word (codes "bind")) _ _ (binding_fine f g h i)
    (either (is_word word (codes "watch")) _ None (watch_fine f g h i) tt)

-- ---- any event

record_fine : (word : List ℕ) (fs : Plains) → Fine (event_of_record word fs)
record_fine word (then_more f no_more) = one_fine word f
record_fine word (then_more f (then_more g no_more)) = two_fine word f g
record_fine word (then_more f (then_more g (then_more h (then_more i no_more)))) = four_fine word f g h i
record_fine word fs = tt

event_fine : (v : Plain) → Fine (event_of v)
event_fine (record_of (symbol word) fs) = record_fine word fs
event_fine v = tt

pub sound_event : (v : Plain) (e : ScriptEvent) → event_of v ≡ Some e → IsSoundEvent e
sound_event v e is = λ b o. subst Fine (is ∙ ap Some o) (event_fine v)
