-- Why a text, or a file, is refused as the schema of `check`.
use Rattle.std.proofs.Common.{◌≢◌, ℕ, ◌≤◌, List, length, refl, inl, inr}
use Rattle.ps_read.specs.Answers.{IsSchemaFault}
use Rattle.ps_read.specs.declared.faults.SchemaFault.{SchemaFault}
use Rattle.ps_read.specs.declared.faults.SchemaFault.TheVariants as schema
use Rattle.dsd_top.specs.Limits.{most_file}
use Rattle.dsd_top.specs.Schemas.{IsRefusedAt, place_in}
use Rattle.dsd_top.specs.Works.{IsTextFaultOf, refused_for}

module _ (text name : List ℕ) (short : length text ≤ most_file) where
  at_place : (f : SchemaFault) → (f ≢ schema.NoMemory) → IsSchemaFault text f → IsRefusedAt text name (place_in f)
  at_place f not is = inr (short, inl (f, not, is, refl))

  -- what a schema's fault says of the text
  pub refused_text : (f : SchemaFault) → IsSchemaFault text f → IsTextFaultOf text name (refused_for f)
  refused_text schema.NoMemory is = tt
  refused_text (schema.Unguarded a) is = at_place (schema.Unguarded a) (λ e. absurd (cc e)) is
  refused_text (schema.NoSuchName a) is = at_place (schema.NoSuchName a) (λ e. absurd (cc e)) is
  refused_text (schema.NameTwice a) is = at_place (schema.NameTwice a) (λ e. absurd (cc e)) is
  refused_text (schema.BadSchema n) is = at_place (schema.BadSchema n) (λ e. absurd (cc e)) is
  refused_text (schema.NotSupported n) is = at_place (schema.NotSupported n) (λ e. absurd (cc e)) is
  refused_text (schema.Text k p) is = at_place (schema.Text k p) (λ e. absurd (cc e)) is
