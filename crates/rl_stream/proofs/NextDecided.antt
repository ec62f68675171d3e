-- What is next in a stream can be told.
use Rattle.std.proofs.Common.{ℕ, ◌+◌, ◌<◌, List, [], ◌∷◌, length, refl, ◌⊎◌, inl, inr, arith}
use Rattle.std.proofs.lemmas.Bool.Decides.{leb_tells}
use Rattle.std.proofs.lemmas.List.Elements.{All-nil, All-head, All-tail, All-cons, All-take}
use Rattle.pv_binary.specs.Kinds.{kind_number}
use Rattle.pv_binary.specs.OneOfThree.{AreBytes, OneOfThreeHolds}
use Rattle.rl_stream.specs.Limits.{packet_bytes}
use Rattle.rl_stream.specs.declared.nexts.Next.{Next}
use Rattle.rl_stream.specs.declared.nexts.Next.TheVariants.{Whole, BadBytes, BadPacket, Waits}
use Rattle.rl_stream.specs.Nexts.{front_of, IsNext, HasDecider}
use Rattle.rl_stream.proofs.PacketFinding.{packet_or_none}

are_bytes : (bytes : List ℕ) → AreBytes bytes ⊎ (AreBytes bytes → ⊥)
are_bytes [] = inl (All-nil (λ b. b < 256))
are_bytes (b ∷ bs) = elim (leb_tells 256 b) [
  | inl l ↦ inr (λ are. let h = All-head (λ n. n < 256) b bs are in omega (arith, l.1, h))
  | inr l ↦ elim (are_bytes bs) [
    | inl are ↦ inl (All-cons (λ n. n < 256) b bs l.1 are)
    | inr other ↦ inr (λ are. other (All-tail (λ n. n < 256) b bs are))
  ]
]

module _ (three : (bytes : List ℕ) → AreBytes bytes → OneOfThreeHolds bytes) where
  abbrev some_next : (rest : List ℕ) (place : ℕ) → AreBytes rest → (x : Next) × IsNext rest place x
  some_next rest place are = elim (three (front_of rest) (All-take (λ n. n < 256) packet_bytes rest are)).0 [
    | inl x ↦ elim (packet_or_none x.1) [
      | inl p ↦ (Whole p.0 x.0, (x.1, x.2, p.1))
      | inr other ↦ (BadPacket, (x.0, (x.1, x.2, other)))
    ]
    | inr (inl f) ↦ elim (leb_tells packet_bytes (length rest)) [
      | inl l ↦ (BadBytes 9 place, inr (f, l.1, refl, refl))
      | inr l ↦ (Waits, (f, l.1))
    ]
    | inr (inr f) ↦ (BadBytes (kind_number f.0.kind) (place + f.0.place), inl (f.0, f.1, refl, refl))
  ]

  -- of a list that isn't bytes nothing is asked
  abbrev next_where : (rest : List ℕ) (place : ℕ) → AreBytes rest ⊎ (AreBytes rest → ⊥) → Next
  next_where rest place (inl are) = (some_next rest place are).0
  next_where rest place (inr other) = Waits

  is_next_where : (rest : List ℕ) (place : ℕ) (d : AreBytes rest ⊎ (AreBytes rest → ⊥)) → AreBytes rest
      → IsNext rest place (next_where rest place d)
  is_next_where rest place (inl are) a = (some_next rest place are).1
  is_next_where rest place (inr other) a = absurd (other a)

  pub has_decider : HasDecider
  has_decider =
      (λ rest place. next_where rest place (are_bytes rest), λ rest place. is_next_where rest place (are_bytes rest))
