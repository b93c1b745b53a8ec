use Rattle.std.proofs.Common.{length, sym, ap, arith}
use Rattle.std.proofs.lemmas.List.{length-map, take_all}
use Rattle.ec_clause.specs.ClauseList.{ClauseList, piece}
use Rattle.ec_clause.proofs.ClauseListLemmas.{pieces_front, AreSpans_front}
use Rattle.ec_clause.proofs.clauses.Clauses.truncate.Goals as goal

pub invariant_of-self : goal.invariant_of-self
invariant_of-self c =
    let a = c.self.inside in
    rw (c.truncate.ensures.items, c.truncate-then-len.ensures.items)
    (AreSpans_front a.variables a.lits.items a.spans.items c.args.len c.index-span.result.now c.self.invariant (omega arith) c.index-span.ensures)

pub returns-then-len-clause-clauses : goal.returns-then-len-clause-clauses
returns-then-len-clause-clauses c =
    let a = c.self.inside in
    rw (c.truncate.ensures.items, c.truncate-then-len.ensures.items, ← c.self.view_is)
    (pieces_front a.variables a.lits.items a.spans.items c.args.len c.index-span.result.now c.self.invariant (omega arith) c.index-span.ensures)

pub returns-else-len-clause-clauses : goal.returns-else-len-clause-clauses
returns-else-len-clause-clauses c =
    let a = c.self.inside in
    sym (take_all c.args.len c.args.self.now.clauses (omega (arith, length-map a.spans.items (piece a.lits.items), ap (λ (v : ClauseList). length v.clauses) c.self.view_is)))
