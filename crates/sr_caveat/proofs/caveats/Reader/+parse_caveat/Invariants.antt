-- What lasts in the loops of `parse_caveat`, and what falls.
use Rattle.std.proofs.Common.{◌≡◌, ◌+◌, ◌*◌, map, drop}
use Rattle.pv_value.specs.Plain.{plains, pairs}
use Rattle.pv_value.specs.View.{key_and_value}
use Rattle.pv_value.specs.Lemmas.Measures.{measure, measure_all, measure_pairs}
use Rattle.sr_caveat.specs.Patterns.{then_caveat}
use Rattle.sr_caveat.specs.Written.{templates_in, templates_in_pairs, caveats_in, rewrites_in}
use Rattle.sr_caveat.specs.Lemmas.Folding.{folded, put_template, put_rewrite}
use Rattle.sr_caveat.proofs.caveats.Reader.+parse_caveat.Given as goal

abbrev pub decreases-parse_standing : goal.decreases-parse_standing
decreases-parse_standing l = 3 * measure l.value.now + 1

abbrev pub decreases-parse_rule : goal.decreases-parse_rule
decreases-parse_rule l = 3 * measure l.value.now

abbrev pub decreases-parse_worded_rule : goal.decreases-parse_worded_rule
decreases-parse_worded_rule l = 3 * measure_all (plains l.parts.now) + 1

abbrev pub decreases-parse_short_rule : goal.decreases-parse_short_rule
decreases-parse_short_rule l = 3 * measure l.x.now + 2

abbrev pub decreases-parse_or : goal.decreases-parse_or
decreases-parse_or l = 3 * measure l.x.now + 1

abbrev pub decreases-parse_rewrites : goal.decreases-parse_rewrites
decreases-parse_rewrites l = 3 * measure_all (plains l.items.now)

abbrev pub decreases-parse_rewrite : goal.decreases-parse_rewrite
decreases-parse_rewrite l = 3 * measure l.template.now + 1

abbrev pub decreases-parse_template : goal.decreases-parse_template
decreases-parse_template l = 3 * measure l.value.now

abbrev pub decreases-parse_worded : goal.decreases-parse_worded
decreases-parse_worded l = 3 * measure_all (plains l.parts.now) + 1

abbrev pub decreases-parse_short : goal.decreases-parse_short
decreases-parse_short l = 3 * measure l.x.now + 2

abbrev pub decreases-parse_long : goal.decreases-parse_long
decreases-parse_long l = 3 * (measure l.x.now + measure l.y.now) + 3

abbrev pub decreases-parse_attenuate : goal.decreases-parse_attenuate
decreases-parse_attenuate l = 3 * (measure l.x.now + measure l.y.now) + 2

abbrev pub decreases-parse_caveats : goal.decreases-parse_caveats
decreases-parse_caveats l = 3 * measure_all (plains l.items.now)

abbrev pub decreases-parse_list : goal.decreases-parse_list
decreases-parse_list l = 3 * measure l.x.now + 1

abbrev pub decreases-parse_each : goal.decreases-parse_each
decreases-parse_each l = 3 * measure_all (plains l.items.now)

abbrev pub decreases-parse_dictionary : goal.decreases-parse_dictionary
decreases-parse_dictionary l = 3 * measure l.x.now + 1

abbrev pub decreases-parse_values : goal.decreases-parse_values
decreases-parse_values l = 3 * measure_pairs (pairs (map key_and_value l.entries.now))

-- those that were read, before the rest
abbrev pub invariant-parse_each-loop-x : goal.invariant-parse_each-loop-x
invariant-parse_each-loop-x l =
    folded put_template l.templates.items (templates_in l.self.own l.self.names (plains (drop l.x-index l.items)))
    ≡ templates_in l.self.own l.self.names (plains l.items)

abbrev pub invariant-parse_values-loop-e : goal.invariant-parse_values-loop-e
invariant-parse_values-loop-e l =
    folded put_template l.templates.items
    (templates_in_pairs l.self.own l.self.names (pairs (map key_and_value (drop l.e-index l.entries))))
    ≡ templates_in_pairs l.self.own l.self.names (pairs (map key_and_value l.entries))

abbrev pub invariant-parse_caveats-loop-x : goal.invariant-parse_caveats-loop-x
invariant-parse_caveats-loop-x l =
    folded then_caveat l.read.items (caveats_in l.self.own (plains (drop l.x-index l.items)))
    ≡ caveats_in l.self.own (plains l.items)

abbrev pub invariant-parse_rewrites-loop-x : goal.invariant-parse_rewrites-loop-x
invariant-parse_rewrites-loop-x l =
    folded put_rewrite l.rewrites.items (rewrites_in l.self.own (plains (drop l.x-index l.items)))
    ≡ rewrites_in l.self.own (plains l.items)
