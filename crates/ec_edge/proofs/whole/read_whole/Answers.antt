use Rattle.std.proofs.Common.{rules, ◌≡◌, ◌≤◌, IsTrue, length, drop, ◌++◌, arith, length-append}
use Rattle.std.proofs.lemmas.List.{length-take}
use Rattle.ec_edge.proofs.Reading.{SoFar-more, SoFar-whole, IsFront-past}
use Rattle.ec_edge.proofs.whole.read_whole.Goals as goal

pub loop-buf-preserved : goal.loop-buf-preserved
loop-buf-preserved g c =
    let fits : c.in_ok-n.n ≤ length c.piece.new.buf = c.in_ok-n.ensures.bound in
    let at_is : c.len-in-loop-buf-2.result ≡ length c.loop-buf.bytes.items = omega arith in
    record {
      so_far = SoFar-more _ _ _ c.piece.new.buf (drop c.min-want.result c.loop-buf.buf) _ c.in_ok-n.n c.loop-buf.invariant.so_far
          (λ told.
          let told_now : IsTrue (g.F.Files.tells c.loop-buf.files) = rw c.loop-buf.invariant.tells told in
          rw (← c.loop-buf.invariant.stays c.args.name.now, ← at_is) (c.in_ok-n.ensures.bytes told_now))
          fits c.in_ok-extend_from_slice.ensures.items;
      room = omega (arith, length-append c.piece.new.buf (drop c.min-want.result c.loop-buf.buf));
      within =
          omega (
            arith,
            c.in_ok-extend_from_slice.ensures.len,
            c.piece.auto.buf,
            length-take c.in_ok-n.n (c.piece.new.buf ++ drop c.min-want.result c.loop-buf.buf),
            length-take c.min-want.result c.loop-buf.buf,
          );
      end = omega arith;
      stays = λ other. search rules;
      failed_starts = search rules;
      tells = search rules;
      faults = omega (arith, c.in_ok-n.ensures.faults);
      absences = omega (arith, c.in_ok-n.ensures.absences);
    }

pub returns-then-n-eq0-clause-bytes : goal.returns-then-n-eq0-clause-bytes
returns-then-n-eq0-clause-bytes g c = λ told.
    let at_is : c.len-in-loop-buf-2.result ≡ length c.loop-buf.bytes.items = omega arith in
    let told_now : IsTrue (g.F.Files.tells c.loop-buf.files) = rw c.loop-buf.invariant.tells told in
    SoFar-whole _ _ _ c.piece.new.buf c.in_ok-n.n _ c.loop-buf.invariant.so_far told
    (rw (← c.loop-buf.invariant.stays c.args.name.now, ← at_is) (c.in_ok-n.ensures.bytes told_now))
    c.if-n-eq0.true (omega (arith, c.piece.auto.buf, length-take c.min-want.result c.loop-buf.buf)) (omega arith)

pub returns-clause-bytes : goal.returns-clause-bytes
returns-clause-bytes g c = λ told. IsFront-past _ _ _ (c.loop-buf.invariant.so_far.begun told (omega arith)) (omega arith)
