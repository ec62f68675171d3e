use Rattle.std.proofs.Common.{◌≡◌, ℕ, ◌+◌, ◌≤◌, ◌<◌, List, ◌++◌, length, take, drop, ap, ◌∙◌, arith, length-take}
use Rattle.std.proofs.Common.{length-drop}
use Rattle.std.proofs.lemmas.List.Elements.{All-take}
use Rattle.pv_stream.specs.Buffers.{BufferState}
use Rattle.pv_stream.proofs.Filling.{put_behind}
use Rattle.pv_stream.proofs.buffers.Buffer.take_from.Goals as goal

pub returns-in-Some-clause-taken : goal.returns-in-Some-clause-taken
returns-in-Some-clause-taken g c =
    let s = c.self.inside.start in
    let e = c.self.inside.end in
    let n = c.in-Some.n in
    let xs : List ℕ = c.deref_mut.result.now in
    let room : List ℕ = c.ask-took.new.room in
    let long : length xs ≡ length c.self.inside.bytes.items = ap (λ (ys : List ℕ). length ys) c.deref_mut.ensures.value in
    let fits : n ≤ length room = omega (arith, c.in-Some.ensures.size.1, c.in-Some.ensures.same) in
    let short : e + n ≤ c.self.inside.bytes.len =
    omega (
      arith,
      length-take {A = ℕ},
      length-drop {A = ℕ},
      c.in-Some.ensures.size.1,
      c.deref_mut.ensures.len,
      c.self.invariant.1,
      long,
    ) in
    let behind : drop s (take e xs) ≡ c.args.self.now.held =
    ap (λ (ys : List ℕ). drop s (take e ys)) c.deref_mut.ensures.value
    ∙ ap (λ (b : BufferState). b.held) c.self.view_is in
    record {
      room = room;
      fits = (c.in-Some.ensures.size.0, fits);
      taken = c.in-Some.ensures.content;
      filled = (
        put_behind s e n _ xs room _ _ c.self.invariant.0 (omega (arith, long, c.self.invariant.1)) fits short
            ∙ ap (λ (ys : List ℕ). ys ++ take n room) behind,
        All-take (λ b. b < 256) n room c.in-Some.ensures.bytes,
      );
    }
