-- After every list of steps whose callers saw to their conditions each row stands in its facet.
use Rattle.hub_laws.specs.Laws.{AfterAll}
use Rattle.hub_facets.specs.Rooms.{AreRoomed, ComeWithRows, NoneForNothing, AreInRoots, EndWithActors}

abbrev pub Rooms : Type 0
Rooms = AfterAll (λ s. AreRoomed s.world)

abbrev pub Roots : Type 0
Roots = AfterAll (λ s. AreInRoots s.world)

abbrev pub Comings : Type 0
Comings = AfterAll (λ s. ComeWithRows s.world)

abbrev pub Nothings : Type 0
Nothings = AfterAll (λ s. NoneForNothing s.world)

abbrev pub Leavings : Type 0
Leavings = AfterAll (λ s. EndWithActors s.world)
