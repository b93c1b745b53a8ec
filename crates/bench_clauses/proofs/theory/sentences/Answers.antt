use Rattle.std.proofs.Common.{◌≡◌, ◌+◌, suc, [], arith}
use Rattle.bench_clauses.specs.Alike.{sentence_tree}
use Rattle.bench_clauses.proofs.Alike.{pushed}
use Rattle.bench_clauses.proofs.theory.sentences.Goals as goal

pub loop-preserved : goal.loop-preserved
loop-preserved c =
    let next : c.loop.counter + 1 ≡ suc c.loop.counter = omega arith in
    pushed [] c.loop.counter (c.loop.counter + 1) sentence_tree c.loop.found.items c.push.new.self.items c.in_ok-sentence.field-0 next c.loop.invariant c.in_ok-push.ensures.items c.in_ok-sentence.ensures
