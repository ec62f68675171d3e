use Rattle.std.proofs.Common.{◌≡◌, ℕ, List, [], ◌∷◌, arith, rules, sym, subst, refl}
use Rattle.ac_world.specs.Keeping.{residents_by}
use Rattle.ac_world.specs.Outboxes.{Plan, plan_over}
use Rattle.ac_world.specs.Watchers.{Watched}
use Rattle.ac_world.specs.Worlds.{Resident, IsWorld, HaveOwnFacets}
use Rattle.ac_world.proofs.OwnFacetsKept.{first_own}
use Rattle.ac_world.proofs.Numbers.{first_world}
use Rattle.ac_world.proofs.parts.Parts.begin.Goals as goal

pub returns-clause-sound : goal.returns-clause-sound
returns-clause-sound g c =
    let plan : c.new-2.result ≡ plan_over c.in_ok-table.table = search rules in
    let watches : c.new.result.items ≡ [] = search rules in
    let got : c.new-4.result.system.got ≡ [] = search rules in
    let handles : c.new-4.result.groups.handles ≡ [] = search rules in
    let facets : c.new-4.result.groups.facets ≡ [] = search rules in
    let none : c.new-5.result.entries ≡ [] = search rules in
    let t = c.in_ok-table.table in
    let r : Resident = record {
      got = c.new-4.result.system.got;
      handles = c.new-4.result.groups.handles;
      facets = c.new-4.result.groups.facets;
    } in
    let rs : List (ℕ × Resident) = (0, r) ∷ residents_by c.new-5.result.entries in
    record {
      posted = rw plan refl;
      numbered = subst (λ (p : Plan). IsWorld 0 c.new.result.items p.table) (sym plan)
          (subst (λ (ws : List Watched). IsWorld 0 ws t) (sym watches)
          (first_world 9 t (omega arith) c.in_ok-table.ensures));
      own_facets = subst (λ (p : Plan). HaveOwnFacets p.table rs) (sym plan) (subst (HaveOwnFacets t)
          (sym (λ i. (0, record { got = got i; handles = handles i; facets = facets i }) ∷ residents_by (none i)))
          (first_own 9 t c.in_ok-table.ensures));
      seated = rw none tt;
    }
