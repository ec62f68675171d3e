-- Of what may stand next, one alone stands.
use Rattle.std.proofs.Common.{◌≡◌, ℕ, ◌+◌, ◌<◌, List, refl, sym, ap, ◌∙◌, ◌⊎◌, inl, inr, arith}
use Rattle.std.proofs.lemmas.List.Elements.{All-take}
use Rattle.pv_value.specs.Plain.{Plain}
use Rattle.pv_read.specs.Results.{Fault}
use Rattle.pv_binary.specs.OneOfThree.{AreBytes, IsFront, HasValue, HasFault, OneOfThreeHolds}
use Rattle.pv_binary.specs.Kinds.{kind_number}
use Rattle.pv_binary.specs.declared.faults.BinKind.{BinKind}
use Rattle.rl_packet.specs.declared.packets.Packet.{Packet}
use Rattle.rl_packet.specs.Grammar.{IsPacketOf, OnePacket}
use Rattle.rl_stream.specs.Limits.{packet_bytes}
use Rattle.rl_stream.specs.declared.nexts.Next.{Next}
use Rattle.rl_stream.specs.declared.nexts.Next.TheVariants.{Whole, BadBytes, BadPacket, Waits}
use Rattle.rl_stream.specs.Nexts.{front_of, IsNext, OneNext}

module _ (one : OnePacket) (rest : List ℕ) (place : ℕ) (three : OneOfThreeHolds (front_of rest)) where
  same_packet : (v w : Plain) (p q : Packet) → v ≡ w → IsPacketOf v p → IsPacketOf w q → p ≡ q
  same_packet v w p q e a b = one p q a.0 b.0 (sym a.1 ∙ e ∙ b.1)

  whole_same : (p q : Packet) (m n : ℕ) → IsNext rest place (Whole p m) → IsNext rest place (Whole q n)
      → Whole p m ≡ Whole q n
  whole_same p q m n x y =
      let u = three.2.value m n x.0 y.0 x.1 y.1 in
      let e = same_packet x.0 y.0 p q u.1 x.2 y.2 in
      λ i. Whole (e i) (u.0 i)

  not_both : (p : Packet) (m : ℕ) → IsNext rest place (Whole p m) → IsNext rest place BadPacket → ⊥
  not_both p m x y =
      let u = three.2.value m y.0 x.0 y.1.0 x.1 y.1.1 in
      y.1.2 p (x.2.0, sym u.1 ∙ x.2.1)

  -- a value leaves room for nothing else
  abbrev HasNone : Type 0
  HasNone = HasFault (front_of rest) ⊎ IsFront (front_of rest)

  stopped : (number at : ℕ) → IsNext rest place (BadBytes number at) → HasNone
  stopped number at (inl f) = inl (f.0, f.1)
  stopped number at (inr l) = inr l.0

  no_value : HasValue (front_of rest) → HasNone → ⊥
  no_value v (inl f) = three.1.value_and_fault v f
  no_value v (inr f) = three.1.value_and_front v f

  fault_same : (f g : Fault BinKind) (a b m n : ℕ) → f ≡ g → kind_number f.kind ≡ m → kind_number g.kind ≡ n
      → place + f.place ≡ a → place + g.place ≡ b → BadBytes m a ≡ BadBytes n b
  fault_same f g a b m n e k l x y =
      let h = sym k ∙ ap (λ (z : Fault BinKind). kind_number z.kind) e ∙ l in
      let t = sym x ∙ ap (λ (z : Fault BinKind). place + z.place) e ∙ y in
      λ i. BadBytes (h i) (t i)

  bad_same : (m n a b : ℕ) → IsNext rest place (BadBytes m a) → IsNext rest place (BadBytes n b)
      → BadBytes m a ≡ BadBytes n b
  bad_same m n a b (inl f) (inl g) =
      fault_same f.0 g.0 a b m n (three.2.fault f.0 g.0 f.1 g.1) f.2 g.2 f.3 g.3
  bad_same m n a b (inl f) (inr l) = absurd (three.1.front_and_fault l.0 (f.0, f.1))
  bad_same m n a b (inr l) (inl f) = absurd (three.1.front_and_fault l.0 (f.0, f.1))
  bad_same m n a b (inr l) (inr k) = cc (l.2, l.3, k.2, k.3)

  not_waiting : (m a : ℕ) → IsNext rest place (BadBytes m a) → IsNext rest place Waits → ⊥
  not_waiting m a (inl f) w = three.1.front_and_fault w.0 (f.0, f.1)
  not_waiting m a (inr l) w = absurd (omega (arith, l.1, w.1))

  next_same : (x y : Next) → IsNext rest place x → IsNext rest place y → x ≡ y
  next_same (Whole p m) (Whole q n) x y = whole_same p q m n x y
  next_same (Whole p m) (BadBytes n b) x y = absurd (no_value (m, x.0, x.1) (stopped n b y))
  next_same (Whole p m) BadPacket x y = absurd (not_both p m x y)
  next_same (Whole p m) Waits x y = absurd (no_value (m, x.0, x.1) (inr y.0))
  next_same (BadBytes m a) (Whole q n) x y = absurd (no_value (n, y.0, y.1) (stopped m a x))
  next_same (BadBytes m a) (BadBytes n b) x y = bad_same m n a b x y
  next_same (BadBytes m a) BadPacket x y = absurd (no_value (y.0, y.1.0, y.1.1) (stopped m a x))
  next_same (BadBytes m a) Waits x y = absurd (not_waiting m a x y)
  next_same BadPacket (Whole q n) x y = absurd (not_both q n y x)
  next_same BadPacket (BadBytes n b) x y = absurd (no_value (x.0, x.1.0, x.1.1) (stopped n b y))
  next_same BadPacket BadPacket x y = refl
  next_same BadPacket Waits x y = absurd (no_value (x.0, x.1.0, x.1.1) (inr y.0))
  next_same Waits (Whole q n) x y = absurd (no_value (n, y.0, y.1) (inr x.0))
  next_same Waits (BadBytes n b) x y = absurd (not_waiting n b y x)
  next_same Waits BadPacket x y = absurd (no_value (y.0, y.1.0, y.1.1) (inr x.0))
  next_same Waits Waits x y = refl

-- from what one_packet_a_value and one_of_three ensure
pub one_is_next : OnePacket → ((bytes : List ℕ) → AreBytes bytes → OneOfThreeHolds bytes) → OneNext
one_is_next one three rest place x y are a b =
    let all = All-take (λ n. n < 256) packet_bytes rest are in
    next_same one rest place (three (front_of rest) all) x y a b
