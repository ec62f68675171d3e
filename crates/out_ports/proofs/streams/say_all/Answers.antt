use Rattle.std.proofs.Common.{arith, length-take, length-drop, ℕ, Option, List, is_some, true, ◌≡◌, ◌∙◌, ap}
use Rattle.std.proofs.lemmas.Grind.{common_steps}
use Rattle.out_ports.proofs.Parts.{Appends-front}
use Rattle.out_ports.proofs.streams.say_all.Goals as goal

-- what is told still stands where the address is the same
still_some : (a b : Option (List ℕ)) → a ≡ b → is_some b ≡ true → is_some a ≡ true
still_some a b same some = ap (λ x. is_some x) same ∙ some

pub loop-at-preserved : goal.loop-at-preserved
loop-at-preserved g c =
    let said = c.in-Some.ensures in
    let so_far = c.loop-at.invariant in
    let size = said.size in record {
      in_range = omega (arith, length-take {A = ℕ}, length-drop {A = ℕ});
      written = Appends-front _ _ _ _ _ _ _ so_far.written said.content (grind (arith, common_steps));
      lasting = omega (arith, so_far.lasting, said.lasting);
      dialled = still_some _ _ said.rest.0 so_far.dialled;
      rest = (said.rest.0 ∙ so_far.rest.0, said.rest.1 ∙ so_far.rest.1, said.rest.2 ∙ so_far.rest.2);
      same_files = said.same_files ∙ so_far.same_files;
      place = said.place ∙ so_far.place;
      same_closed = said.same_closed ∙ so_far.same_closed;
      links = said.links ∙ so_far.links;
      ends = said.ends ∙ so_far.ends;
      file_lasting = omega (arith, so_far.file_lasting, said.file_lasting);
      port_lasting = omega (arith, so_far.port_lasting, said.port_lasting);
      accept_lasting = omega (arith, so_far.accept_lasting, said.accept_lasting);
    }
