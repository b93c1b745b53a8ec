use Rattle.std.proofs.Common.{◌≡◌, [], length, get_or, rules, refl, sym, ap, subst, ◌∙◌, arith}
use Rattle.std.proofs.lemmas.Bool.{ltb-false}
use Rattle.ec_clause.specs.ClauseList.{IsClause}
use Rattle.ec_checking.proofs.WalkLemmas.{takes-truth, takes-none-blocked, IsClause-forbids}
use Rattle.ec_checking.proofs.walk.Walk.block.Goals as goal

pub returns-in_default : goal.returns-in_default
returns-in_default c = λ list ending notes keeps. takes-none-blocked list c.args.truths.now ending notes c.args.digits.now.items (c.in_default.ensures c.requires.over.visible c.args.truths.now notes c.requires.over.each keeps.left)

pub unreachable-requires : goal.unreachable-requires
unreachable-requires c =
    let within = (c.in-Some.ensures c.requires.over.visible c.args.truths.now c.requires.walked.notes c.requires.over.each c.requires.walked.keeps.left).0.within in
    omega (arith, within, ltb-false _ _ (sym c.in_default-get.ensures.lookup.0))

pub block-requires-clause-clause : goal.block-requires-clause-clause
block-requires-clause-clause c =
    let within = (c.in-Some.ensures c.requires.over.visible c.args.truths.now c.requires.walked.notes c.requires.over.each c.requires.walked.keeps.left).0.within in
    let truth : c.in-Some-get.truth.now ≡ get_or c.args.truths.now c.in-Some.place [] = search rules in
    let size : length c.in-Some-get.truth.now ≡ c.requires.over.visible = ap length truth ∙ c.requires.over.each c.in-Some.place [] within in
    subst (IsClause c.args.self.now.checker.list.variables) (sym (c.deref.ensures.value ∙ c.in_ok-lits.ensures)) (IsClause-forbids c.args.self.now.checker.list.variables c.in-Some-get.truth.now (omega (arith, size, c.requires.over.within)))

pub returns : goal.returns
returns c = λ list ending notes keeps. (
    let t = c.in-Some.ensures c.requires.over.visible c.args.truths.now notes c.requires.over.each keeps.left in
    let truth : c.in-Some-get.truth.now ≡ get_or c.args.truths.now c.in-Some.place [] = search rules in
    takes-truth list c.args.truths.now notes c.args.digits.now.items c.in-Some.place c.in-Some-get.truth.now c.deref.result.now c.args.self.now _ keeps (sym c.closed.ensures ∙ c.if-closed.false) t.0
    truth (c.deref.ensures.value ∙ c.in_ok-lits.ensures) t.1 c.in_ok-block.ensures.ok refl)
