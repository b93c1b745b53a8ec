use Rattle.std.proofs.Common.{true, ap, sym, ◌∙◌}
use Rattle.ec_walk.specs.Scopes.{words}
use Rattle.ec_names.specs.View.{named_symbol}
use Rattle.ec_walk.specs.Faults.{arguments_fault}
use Rattle.ec_syntax.specs.View.{terms_of}
use Rattle.ec_walk.proofs.FaultLemmas.{application_refused, application_walked, if_ok_along}
use Rattle.ec_walk.proofs.formula_faults.atom_fault.Goals as goal

pub returns-in-Some-2 : goal.returns-in-Some-2
returns-in-Some-2 c =
    let names = c.args.names.now in
    let n = c.args.name.now in
    application_refused true names (words c.args.scope.now) n c.args.args.now (named_symbol n c.in-Some.symbol.now) c.in-Some-2.fault c.in-Some.ensures.symbol (sym c.in-Some-2.is ∙ c.in_ok-fault.ensures)

pub returns : goal.returns
returns c =
    let names = c.args.names.now in
    let n = c.args.name.now in
    let scope = words c.args.scope.now in
    let walked = application_walked true names scope n c.args.args.now (named_symbol n c.in-Some.symbol.now) c.in-Some.ensures.symbol (sym c.in_default-2.is ∙ c.in_ok-fault.ensures) in
    if_ok_along c.arguments_fault.result _ _ (ap (λ sorts. arguments_fault names scope sorts (terms_of c.args.args.now)) c.sorts_of_arguments.ensures ∙ walked) c.arguments_fault.ensures
