-- The counted index, and the schema by which guards judge, may go to another thread.
use denote.Param.Send.{IsSend, sendable}
use Rattle.std.proofs.Crossing.{crosses}
use Rattle.std.proofs.MapsCrossing as maps
use Rattle.std.proofs.MapsCrossingOver as sets
use Rattle.ps_schema.proofs.Pattern.TheLaws.TheKnot as pattern_knot
use Rattle.ps_schema.specs.contracts.Pattern as pattern
use Rattle.ps_schema.specs.contracts.Definition as definition
use Rattle.ps_schema.specs.contracts.Schema as schema
use Rattle.ds_skeleton.specs.contracts.skeleton.Skeleton as skeleton
use Rattle.srv_serve.proofs.Sending.{value_send}

pub skeleton_send : IsSend skeleton.the_row
skeleton_send = search (crosses, maps.crosses, sets.crosses, sendable, value_send) depth 60 fits 20000

pattern_send : IsSend pattern.the_row
pattern_send = search (crosses, pattern_knot.crosses, sendable, value_send) depth 60 fits 20000

definition_send : IsSend definition.the_row
definition_send = search (crosses, sendable, pattern_send) depth 60 fits 20000

pub schema_send : IsSend schema.the_row
schema_send = search (crosses, maps.crosses, sendable, definition_send) depth 60 fits 20000
