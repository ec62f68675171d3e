-- What stays of a host besides the link that it dials, over calls one after another; and counts of faults.
use Rattle.std.proofs.Common.{◌≡◌, ℕ, ◌≤◌, refl, sym, ap, ◌∙◌, subst, arith, List, Option, is_some, Result, Ok, Err}
use Rattle.std.specs.Prelude.{IsErrAnd}
use Rattle.out_ports.specs.Dialled.{ToldHearing, ToldSaying, ToldLink, IsDialled}
use Rattle.dq_link.specs.Asked.{HostRest, RestStays, CauseOf}
use Rattle.dq_link.specs.Going.{OnlySaid, OnlyHeard, SameLink, OutputEnds, SayEnds}
use Rattle.dq_link.specs.declared.dialling.QueryEnd.{QueryEnd}
use Rattle.dq_link.specs.declared.dialling.QueryEnd.TheVariants as end

pub rest_same : (a : HostRest) → RestStays a a
rest_same a = record {
  files = refl;
  address = refl;
  closed = refl;
  gave = refl;
  stops = refl;
  file_lasting = omega arith;
  port_lasting = omega arith;
  accept_lasting = omega arith;
}

pub rest_both : (a b c : HostRest) → RestStays a b → RestStays b c → RestStays a c
rest_both a b c first then = record {
  files = then.files ∙ first.files;
  address = then.address ∙ first.address;
  closed = then.closed ∙ first.closed;
  gave = then.gave ∙ first.gave;
  stops = then.stops ∙ first.stops;
  file_lasting = omega (arith, first.file_lasting, then.file_lasting);
  port_lasting = omega (arith, first.port_lasting, then.port_lasting);
  accept_lasting = omega (arith, first.accept_lasting, then.accept_lasting);
}

-- ---- the link

-- a link with the same address is dialled too
pub still_dialled : (a b : ToldLink) → b.address ≡ a.address → IsDialled a → IsDialled b
still_dialled a b same is = ap (λ (o : Option (List ℕ)). is_some o) same ∙ is

pub said_same : (a : ToldLink) → OnlySaid a a
said_same a = record { rest = (refl, refl, refl); lasting = omega arith }

pub said_both : (a b c : ToldLink) → OnlySaid a b → OnlySaid b c → OnlySaid a c
said_both a b c first then = record {
  rest = (then.rest.0 ∙ first.rest.0, then.rest.1 ∙ first.rest.1, then.rest.2 ∙ first.rest.2);
  lasting = omega (arith, first.lasting, then.lasting);
}

pub link_same : (a : ToldLink) → SameLink a a
link_same a = record { address = refl; dial = refl; hear = omega arith; say = omega arith }

pub link_both : (a b c : ToldLink) → SameLink a b → SameLink b c → SameLink a c
link_both a b c first then = record {
  address = then.address ∙ first.address;
  dial = then.dial ∙ first.dial;
  hear = omega (arith, first.hear, then.hear);
  say = omega (arith, first.say, then.say);
}

same_count : (m n : ℕ) → m ≡ n → n ≤ m
same_count m n is = omega arith

pub link_of_said : (a b : ToldLink) → OnlySaid a b → SameLink a b
link_of_said a b is = record {
  address = is.rest.0;
  dial = is.rest.1;
  hear = same_count b.heard.faults a.heard.faults (ap (λ (h : ToldHearing). h.faults) is.rest.2);
  say = is.lasting;
}

pub link_of_heard : (a b : ToldLink) → OnlyHeard a b → SameLink a b
link_of_heard a b is = record {
  address = is.rest.0;
  dial = is.rest.1;
  hear = is.lasting;
  say = same_count b.said.faults a.said.faults (ap (λ (s : ToldSaying). s.faults) is.rest.2);
}

-- ---- a fault that goes on upwards

-- what holds at an error holds at the answer that it becomes
pub on_err : {T : Type 0} (P : Result T QueryEnd → Type 0) (r : Result T QueryEnd) (e : QueryEnd)
    → IsErrAnd r (λ x. x ≡ e) → P (Err e) → P r
on_err P (Ok x) e is h = absurd is
on_err P (Err f) e is h = subst (λ (x : QueryEnd). P (Err x)) (sym is) h

-- ---- causes

-- a count that rose later rose in all
pub output_later : (e : QueryEnd) (a b c : ℕ) → a ≤ b → OutputEnds e b c → OutputEnds e a c
output_later end.OutputFailed a b c few is = omega (arith, few, is)
output_later end.NoMemory a b c few is = tt
output_later end.Done a b c few is = absurd is
output_later end.DialFailed a b c few is = absurd is
output_later end.Rejected a b c few is = absurd is
output_later end.Spent a b c few is = absurd is
output_later end.Left a b c few is = absurd is
output_later end.BadServer a b c few is = absurd is
output_later end.HearFailed a b c few is = absurd is
output_later end.SayFailed a b c few is = absurd is

-- a count that rose later, or earlier, rose in all
pub cause_later : (e : QueryEnd) (a b c : ToldLink) (m n o : ℕ) → SameLink a b → m ≤ n → CauseOf e b c n o
    → CauseOf e a c m o
cause_later end.DialFailed a b c m n o same few is =
    let d : b.dial_faults ≡ a.dial_faults = same.dial in omega (arith, d, is)
cause_later end.HearFailed a b c m n o same few is = omega (arith, same.hear, is)
cause_later end.SayFailed a b c m n o same few is = omega (arith, same.say, is)
cause_later end.OutputFailed a b c m n o same few is = omega (arith, few, is)
cause_later end.Done a b c m n o same few is = tt
cause_later end.Rejected a b c m n o same few is = tt
cause_later end.Spent a b c m n o same few is = tt
cause_later end.Left a b c m n o same few is = tt
cause_later end.BadServer a b c m n o same few is = tt
cause_later end.NoMemory a b c m n o same few is = tt

pub cause_of_output : (e : QueryEnd) (a b : ToldLink) (m n : ℕ) → OutputEnds e m n → CauseOf e a b m n
cause_of_output end.OutputFailed a b m n is = is
cause_of_output end.NoMemory a b m n is = tt
cause_of_output end.Done a b m n is = tt
cause_of_output end.DialFailed a b m n is = absurd is
cause_of_output end.Rejected a b m n is = tt
cause_of_output end.Spent a b m n is = tt
cause_of_output end.Left a b m n is = tt
cause_of_output end.BadServer a b m n is = tt
cause_of_output end.HearFailed a b m n is = absurd is
cause_of_output end.SayFailed a b m n is = absurd is

pub cause_of_say : (e : QueryEnd) (a b : ToldLink) (m n : ℕ) → SayEnds e a.said.faults b.said.faults → CauseOf e a b m n
cause_of_say end.SayFailed a b m n is = is
cause_of_say end.NoMemory a b m n is = tt
cause_of_say end.Done a b m n is = tt
cause_of_say end.DialFailed a b m n is = absurd is
cause_of_say end.Rejected a b m n is = tt
cause_of_say end.Spent a b m n is = tt
cause_of_say end.Left a b m n is = tt
cause_of_say end.BadServer a b m n is = tt
cause_of_say end.HearFailed a b m n is = absurd is
cause_of_say end.OutputFailed a b m n is = absurd is
