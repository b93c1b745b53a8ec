use Rattle.std.proofs.Common.{◌≡◌, ◌≤◌, arith}
use Rattle.ec_encode.specs.Cnf.{variables_of, clauses_of_theory}
use Rattle.ec_encode.specs.declared.list.Cnf.{Cnf}
use Rattle.ec_solve.specs.Lists.{IsListOf}
use Rattle.ec_solve.proofs.Lists.{if_ok_both, list_is, visible_within}
use Rattle.ec_solve.proofs.listing.list_of.Goals as goal

pub returns-clause-list : goal.returns-clause-list
returns-clause-list c =
    let g = c.args.grounded.now in
    if_ok_both c.encode.result (λ (list : Cnf). list.clauses.variables ≡ variables_of g) (λ (list : Cnf). list.clauses.clauses ≡ clauses_of_theory g) (λ (list : Cnf). IsListOf g list.clauses)
    (λ list count clauses theory sentences defined atoms. list_is list.clauses g theory sentences defined atoms count clauses) c.encode.ensures.variables c.encode.ensures.clauses

pub returns-clause-within : goal.returns-clause-within
returns-clause-within c =
    let g = c.args.grounded.now in
    if_ok_both c.encode.result (λ (list : Cnf). list.visible ≡ c.args.visible) (λ (list : Cnf). list.clauses.variables ≡ variables_of g) (λ (list : Cnf). list.visible ≤ list.clauses.variables)
    (λ list seen count. omega (arith, seen, count, visible_within c.args.visible g c.encode.ensures.visible_atoms)) c.encode.ensures.visible c.encode.ensures.variables
