use Rattle.std.proofs.Common.{◌≡◌, drop}
use Rattle.ec_logic.specs.ClauseTree.{any_body, are_clauses}
use Rattle.ec_theory.specs.View.{formula_trees}
use Rattle.ec_split.specs.Dealt.{is_head}
use Rattle.ec_split.proofs.heads.+heads.Given as goal

abbrev pub invariant-have_heads-loop-f : goal.invariant-have_heads-loop-f
invariant-have_heads-loop-f l = are_clauses (is_head l.heads) any_body (formula_trees (drop l.f-index l.fs)) ≡ are_clauses (is_head l.heads) any_body (formula_trees l.fs)
