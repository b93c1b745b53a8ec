use Rattle.std.proofs.Common.{◌≤◌, ◌^◌, length, sym, ◌∙◌, subst}
use Rattle.ec_clause.specs.ClauseList.{ClauseList}
use Rattle.ec_clause.specs.declared.ending.Ending.{Ending}
use Rattle.ec_log.specs.Log.{Log}
use Rattle.ec_theory.specs.Theories.{theory_of}
use Rattle.ec_solve.specs.Progress.{IsGoing, IsDone}
use Rattle.ec_solve.proofs.Finding.{found_sorted}
use Rattle.ec_solve.proofs.searching.search.Goals as goal

pub run-requires : goal.run-requires
run-requires c =
    let p = c.in_ok-progress.progress in (
      subst (λ (l : ClauseList). IsGoing l c.args.bounds.conflicts p.visible p.truths.items p.log p.solver) (sym c.in_ok-progress.ensures.list) (c.in_ok-progress.ensures.going c.args.bounds.conflicts c.requires.one_conflict),
      (c.in_ok-progress.ensures.truths, (c.requires.few_models, c.requires.few_conflicts)),
    )

pub returns : goal.returns
returns c =
    let list = c.in_ok-progress.progress.solver.list in
    let now = c.run.new.self in
    let found = c.finish.result in
    let same = c.in_ok-progress.ensures.list in
    let done = subst (λ (e : Ending). IsDone list c.args.bounds now.visible now.truths.items found.log e) (sym c.finish.ensures.ending) (subst (λ (l : Log). IsDone list c.args.bounds now.visible now.truths.items l c.in_ok-ending.ending) (sym c.finish.ensures.log) c.in_ok-ending.ensures.done) in
    found_sorted (theory_of c.args.theory.now) c.requires.valid c.args.bounds now.truths.items found.truths.items found.log found.ending c.requires.one_model c.requires.one_conflict c.requires.few_models c.requires.few_conflicts c.finish.ensures.permutation c.finish.ensures.sorted
    list now.visible (same ∙ c.in_ok-list.ensures.list) (c.in_ok-ending.ensures.visible ∙ (c.in_ok-progress.ensures.visible ∙ c.in_ok-list.ensures.visible)) (subst (λ (l : ClauseList). l.variables ≤ 2 ^ 29) (sym same) c.in_ok-list.ensures.few_variables) (subst (λ (l : ClauseList). length l.clauses ≤ 2 ^ 29) (sym same) c.in_ok-list.ensures.few_clauses) done
