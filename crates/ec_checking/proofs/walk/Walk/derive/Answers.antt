use Rattle.std.proofs.Common.{◌+◌, sym, ap, ◌∙◌}
use Rattle.ec_checking.proofs.WalkLemmas.{takes-step}
use Rattle.ec_checking.proofs.walk.Walk.derive.Goals as goal

pub returns-in-Ok : goal.returns-in-Ok
returns-in-Ok c = λ list truths ending notes keeps. takes-step list truths notes c.args.lits.now c.args.hints.now c.args.self.now _ keeps (sym c.closed.ensures ∙ c.if-closed.false) c.in-Ok.ensures.step (ap (λ k. record c.args.self.now { checker = k; derived = c.args.self.now.derived + 1 }) c.in-Ok.ensures.ok)
