use Rattle.std.proofs.Common.{false, replicate, arith, ap, ◌∙◌, subst}
use Rattle.ec_sat.specs.Reasons.{mark_all}
use Rattle.ec_sat.specs.Stops.{AreListed}
use Rattle.ec_sat.proofs.Listed.{listed_none}
use Rattle.ec_sat.proofs.Learns.{starts, left_starts}
use Rattle.ec_sat.proofs.learn.learn.Goals as goal

pub refute-requires-clause-walked : goal.refute-requires-clause-walked
refute-requires-clause-walked c =
    starts c.args.clauses.now c.args.trail.now c.args.number c.mark.new.marks c.get.result.now c.in_ok-hints.hints.items c.values-values.ensures.trail c.requires.variables c.get.ensures.clause c.get.ensures.value c.requires.conflict (c.in_ok-open.ensures.marks ∙ ap (λ m. mark_all m c.get.result.now) (c.fill.ensures.after (λ y e. e) ∙ ap (λ n. replicate n false) c.requires.marks)) (c.in_ok-hints.ensures.items_if_clones_equal (λ y e. e))

pub cut-requires-clause-walked : goal.cut-requires-clause-walked
cut-requires-clause-walked c =
    starts c.args.clauses.now c.args.trail.now c.args.number c.mark.new.marks c.get.result.now c.in_ok-hints.hints.items c.values-values.ensures.trail c.requires.variables c.get.ensures.clause c.get.ensures.value c.requires.conflict (c.in_ok-open.ensures.marks ∙ ap (λ m. mark_all m c.get.result.now) (c.fill.ensures.after (λ y e. e) ∙ ap (λ n. replicate n false) c.requires.marks)) (c.in_ok-hints.ensures.items_if_clones_equal (λ y e. e))

pub cut-requires-clause-left : goal.cut-requires-clause-left
cut-requires-clause-left c =
    left_starts c.args.clauses.now c.args.trail.now c.args.number c.mark.new.marks c.get.result.now c.values-values.ensures.trail c.requires.variables c.get.ensures.clause c.get.ensures.value c.requires.conflict c.requires.quiet (omega arith) (c.in_ok-open.ensures.marks ∙ ap (λ m. mark_all m c.get.result.now) (c.fill.ensures.after (λ y e. e) ∙ ap (λ n. replicate n false) c.requires.marks))

pub mark-requires-clause-listed : goal.mark-requires-clause-listed
mark-requires-clause-listed c =
    listed_none c.args.trail.now.variables c.args.trail.now.entries c.fill.new.self c.level-level.result _ c.values-values.ensures.trail (c.fill.ensures.after (λ y e. e) ∙ ap (λ n. replicate n false) c.requires.marks)

pub cut-requires-clause-listed : goal.cut-requires-clause-listed
cut-requires-clause-listed c =
    subst (λ n. AreListed c.args.trail.now.entries c.mark.new.marks n c.mark.new.lower.items) c.level-level.ensures.value c.in_ok-open.ensures.listed
