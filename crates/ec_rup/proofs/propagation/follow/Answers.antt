use Rattle.std.proofs.Common.{◌≡◌, ◌∙◌, ap, Some, length, get_or, arith}
use Rattle.std.proofs.lemmas.List.{length-set}
use Rattle.ec_clause.specs.ClauseList.{clause_at}
use Rattle.ec_clause.specs.Truth.{unit_literal}
use Rattle.ec_rup.proofs.Following.{followed_more}
use Rattle.ec_rup.proofs.propagation.follow.Goals as goal

pub loop-at-preserved : goal.loop-at-preserved
loop-at-preserved c =
    let clauses = c.args.clauses.now in
    let hints = c.args.hints.now in
    let p = c.loop-at.assumed in
    let at = c.loop-at.at in
    let l = c.in-OneLeft-look.lit in
    let grown = c.in_ok-make_true-in-OneLeft-look.ensures.ok in
    let unit : unit_literal p (clause_at clauses (get_or hints at 0)) ≡ Some l = rw (← c.values.ensures, ← c.get.ensures.value) c.in-OneLeft-look.ensures.sees.one_left in (
      followed_more clauses hints c.args.assumed.now p c.make_true.new.self at l c.loop-at.invariant.0 (omega arith) (omega arith) (omega arith) unit grown,
      ap length grown ∙ length-set p l.variable (Some l.positive) ∙ c.loop-at.invariant.1,
    )
