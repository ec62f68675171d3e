-- What a dataspace pattern is. Syndicate Protocol, "dataspace patterns".
use Rattle.pv_value.specs.Plain.{Plain}
pub use Rattle.dp_pattern.specs.declared.Extent.{Extent}
pub use Rattle.dp_pattern.specs.declared.Extent.TheVariants.{Open, Exactly}
pub use Rattle.dp_pattern.specs.declared.Group.{Group}
pub use Rattle.dp_pattern.specs.declared.Group.TheVariants.{InRecord, InSequence, InDictionary}

mutual
  pub data Pattern : Type 0 where
    discard : Pattern
    bind : Pattern → Pattern
    literal : Plain → Pattern
    group : Group → Fields → Pattern

  -- patterns of the parts under keys
  pub data Fields : Type 0 where
    no_fields : Fields
    then_field : Plain → Pattern → Fields → Fields
