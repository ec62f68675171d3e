-- Outlines as values, by which they are told apart.
use Rattle.std.specs.Prelude.{false, List, [], ◌∷◌, map, codes}
use Rattle.std.specs.declared.cmp.Ordering.{Ordering}
use Rattle.std.specs.Ordering.{on}
use Rattle.pv_value.specs.Plain.{Plain, boolean, sequence, plains}
use Rattle.pv_value.specs.Order.{order}
use Rattle.pv_words.specs.Words.{labelled, number}
use Rattle.dp_pattern.specs.declared.Extent.{Extent}
use Rattle.dp_pattern.specs.declared.Extent.TheVariants.{Open, Exactly}
use Rattle.dp_pattern.specs.declared.Group.{Group}
use Rattle.dp_pattern.specs.declared.Group.TheVariants.{InRecord, InSequence, InDictionary}
use Rattle.ds_shape.specs.Paths.{Step, Field, Item, Under}
use Rattle.ds_shape.specs.Outlines.{Kind, Any, Of, Test, Outline}

-- `[x ..]`
abbrev pub list_value : List Plain → Plain
list_value xs = sequence (plains xs)

-- `<field place>`, `<item place>`, `<under key>`
abbrev pub step_value : Step → Plain
step_value (Field place) = labelled (codes "field") (place ∷ [])
step_value (Item place) = labelled (codes "item") (place ∷ [])
step_value (Under key) = labelled (codes "under") (key ∷ [])

-- `[step ..]`
abbrev pub path_value : List Step → Plain
path_value path = list_value (map step_value path)

-- how many, or `#f` where there may be any number
abbrev pub extent_value : Extent → Plain
extent_value Open = boolean false
extent_value (Exactly n) = number n

-- `<rec label extent>`, `<arr extent>`, `<dict>`
abbrev pub group_value : Group → Plain
group_value (InRecord label e) = labelled (codes "rec") (label ∷ extent_value e ∷ [])
group_value (InSequence e) = labelled (codes "arr") (extent_value e ∷ [])
group_value InDictionary = labelled (codes "dict") []

-- `<any>`, or the value of the group
abbrev pub kind_value : Kind → Plain
kind_value Any = labelled (codes "any") []
kind_value (Of g) = group_value g

-- `[path kind]`
abbrev pub test_value : Test → Plain
test_value t = list_value (path_value t.path ∷ kind_value t.kind ∷ [])

-- `[[test ..] [path ..] [path ..]]`: the tests, the constant paths and the capture paths
abbrev pub outline_value : Outline → Plain
outline_value o =
    list_value
    (list_value (map test_value o.tests) ∷ list_value (map path_value o.constants)
    ∷ list_value (map path_value o.captures) ∷ [])

-- outlines stand in the order of their values
abbrev pub outline_order : Outline → Outline → Ordering
outline_order = on outline_value order
