-- The link that a host dials: what is told of it, and what a call on the host does to that.
use Rattle.std.specs.Prelude.{◌≡◌, ℕ, Bool, false, List, Option, None, Some, Result, Ok, Err, is_some, true}

-- what is heard: what is left to be heard, where that is told, how many bytes were heard, at most the greatest u64,
-- whether a call has answered the end, and how often one failed
pub record ToldHearing : Type 0 where
  pub left : Option (List ℕ)
  pub given : ℕ
  pub ended : Bool
  pub faults : ℕ

-- what is said, where that is told, and how often a call failed
pub record ToldSaying : Type 0 where
  pub held : Option (List ℕ)
  pub faults : ℕ

-- the address of the last dial that was answered, how often a dial failed, and what is heard and said
pub record ToldLink : Type 0 where
  pub address : Option (List ℕ)
  pub dial_faults : ℕ
  pub heard : ToldHearing
  pub said : ToldSaying

-- of something that dials nobody
abbrev pub no_link : ToldLink
no_link = record {
  address = None;
  dial_faults = 0;
  heard = record { left = None; given = 0; ended = false; faults = 0 };
  said = record { held = None; faults = 0 };
}

-- a link is dialled: to hear and to say is to do it there
abbrev pub IsDialled : ToldLink → Type 0
IsDialled link = is_some link.address ≡ true

-- the address after a dial: a new one where it was answered
abbrev pub address_after : {X E : Type 0} → Result X E → List ℕ → Option (List ℕ) → Option (List ℕ)
address_after (Ok x) address before = Some address
address_after (Err e) address before = before

-- only hearing changes: what is told of the dial and of what is said stays
abbrev pub OnlyHearing : ToldLink → ToldLink → Type 0
OnlyHearing before after = (after.address ≡ before.address) × (after.dial_faults ≡ before.dial_faults)
    × (after.said ≡ before.said)

-- only saying changes: what is told of the dial and of what is heard stays
abbrev pub OnlySaying : ToldLink → ToldLink → Type 0
OnlySaying before after = (after.address ≡ before.address) × (after.dial_faults ≡ before.dial_faults)
    × (after.heard ≡ before.heard)

-- only dialling changes: what is told of hearing and of saying stays
abbrev pub OnlyDialling : ToldLink → ToldLink → Type 0
OnlyDialling before after = (after.heard ≡ before.heard) × (after.said ≡ before.said)
