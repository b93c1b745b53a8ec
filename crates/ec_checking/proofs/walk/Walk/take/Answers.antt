use Rattle.std.proofs.Common.{◌∙◌, sym, ap}
use Rattle.ec_log.specs.Line.{Derived}
use Rattle.ec_log.specs.Reading.{view}
use Rattle.ec_checking.proofs.WalkLemmas.{turn-moved}
use Rattle.ec_checking.proofs.walk.Walk.take.Goals as goal

pub returns-in-Derived : goal.returns-in-Derived
returns-in-Derived c = λ list notes keeps.
    turn-moved list c.args.truths.now c.args.ending.now notes _ _ c.derive.new.self c.derive.result
    (ap (λ ls. Derived ls c.deref-in-Derived.result.now) c.deref.ensures.value ∙ ap (λ hs. Derived c.in-Derived.lits.items hs) c.deref-in-Derived.ensures.value ∙ sym (ap view c.in-Derived.is))
    (c.derive.ensures list c.args.truths.now c.args.ending.now notes keeps)

pub returns-in-Blocked : goal.returns-in-Blocked
returns-in-Blocked c = λ list notes keeps.
    turn-moved list c.args.truths.now c.args.ending.now notes _ _ c.block.new.self c.block.result (sym (ap view c.in-Blocked.is)) (c.block.ensures list c.args.ending.now notes keeps)
