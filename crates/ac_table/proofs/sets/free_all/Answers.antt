use Rattle.std.proofs.Common.{◌≡◌, not, ◌&&◌, ◌||◌, ◌∙◌, sym, ap, map}
use Rattle.std.specs.Map.Iter.{deref}
use Rattle.std.proofs.lemmas.Map.Iter.{iter_end, rest_so_far}
use Rattle.ac_table.specs.Maps.{is_key}
use Rattle.ac_table.proofs.Members.{more_step, or_false, on_ok, on_error, taken_back, in_front}
use Rattle.ac_table.proofs.sets.free_all.Goals as goal

pub loop-number-init : goal.loop-number-init
loop-number-init c n = sym (or_false _)

pub loop-number-preserved : goal.loop-number-preserved
loop-number-preserved c n =
    more_step n _ _ _ c.loop-number.yielded c.in-Some.number
    ((on_ok _ c.insert.result (sym c.if-is_err.ensures.value) c.insert.ensures.updates).0 n) (c.loop-number.invariant n)

pub returns-clause-freed : goal.returns-clause-freed
returns-clause-freed c n =
    let end =
    iter_end deref c.args.numbers.now.keys c.loop-number.yielded _ _ _ _
    (c.into_iter-number-iterator.ensures.into_iter_gives ∙ c.iter-number-items.ensures.rest)
    c.loop-number.yielded_by c.in-None.is c.next.ensures.steps in
    c.loop-number.invariant n ∙ ap (λ ks. is_key n c.args.free.now.keys || is_key n ks) end.0

pub returns-then-is_err-clause-same : goal.returns-then-is_err-clause-same
returns-then-is_err-clause-same c n =
    let same = on_error _ c.insert.result (sym c.if-is_err.ensures.value) c.insert.ensures.err in
    let was : is_key n c.insert.new.self.keys
    ≡ (is_key n c.args.free.now.keys || is_key n (map deref c.loop-number.yielded)) =
    ap (is_key n) same ∙ c.loop-number.invariant n in
    let so_far = rest_so_far deref c.loop-number.yielded _ _ c.loop-number.yielded_by in
    let all = sym (c.into_iter-number-iterator.ensures.into_iter_gives ∙ c.iter-number-items.ensures.rest) ∙ so_far in
    c.take_all.ensures n ∙ ap (λ b. b && not (is_key n c.args.numbers.now.keys)) was
    ∙ taken_back (is_key n c.args.free.now.keys) (is_key n (map deref c.loop-number.yielded))
    (is_key n c.args.numbers.now.keys) (c.requires n)
    (in_front n (map deref c.loop-number.yielded) _ c.args.numbers.now.keys all)
