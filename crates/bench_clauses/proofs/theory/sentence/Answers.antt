use Rattle.std.proofs.Common.{◌≡◌, ◌+◌, suc, ◌∷◌, [], true, arith}
use Rattle.ec_folding.specs.Tree.{literal}
use Rattle.bench_clauses.specs.Alike.{pair_tree}
use Rattle.bench_clauses.proofs.Alike.{pushed}
use Rattle.bench_clauses.proofs.theory.sentence.Goals as goal

pub loop-preserved : goal.loop-preserved
loop-preserved c =
    let next : c.loop.counter + 1 ≡ suc c.loop.counter = omega arith in
    pushed (pair_tree ∷ []) c.loop.counter (c.loop.counter + 1) (literal 2 true) c.loop.parts.items c.push-in-loop.new.self.items c.literal.result next c.loop.invariant c.in_ok-push-2.ensures.items c.literal.ensures
