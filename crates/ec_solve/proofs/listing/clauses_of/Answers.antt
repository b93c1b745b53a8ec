use Rattle.std.proofs.Common.{◌≡◌, length, sym, ap, ◌∙◌, subst}
use Rattle.ec_logic.specs.Atom.{visible_atoms}
use Rattle.ec_logic.specs.Universe.{universe_of}
use Rattle.ec_theory.specs.Theories.{theory_of}
use Rattle.ec_cnf.specs.List as cnf
use Rattle.ec_encode.specs.declared.list.Cnf.{Cnf}
use Rattle.ec_prop.specs.Grounded.{IsGrounded}
use Rattle.ec_grounding.specs.WellFormed.{visible_count}
use Rattle.ec_solve.specs.Lists.{IsListOf}
use Rattle.ec_solve.proofs.Lists.{if_ok_both}
use Rattle.ec_solve.proofs.listing.clauses_of.Goals as goal

pub list_of-requires : goal.list_of-requires
list_of-requires c =
    let same = c.visible.ensures.count ∙ ap (λ s. length (visible_atoms (universe_of s))) c.requires.of in
    subst (IsGrounded c.in-Ok.grounded) (sym same) c.in-Ok.ensures.grounded

pub returns-in-Ok-clause-list : goal.returns-in-Ok-clause-list
returns-in-Ok-clause-list c =
    let g = c.in-Ok.grounded in
    let theory = theory_of c.args.theory.now in
    if_ok_both c.list_of.result (λ (list : Cnf). IsListOf g list.clauses) (λ (list : Cnf). IsListOf g list.clauses) (λ (list : Cnf). list.clauses ≡ cnf.clauses_of theory)
    (λ list is again. is theory c.in-Ok.ensures.sentences c.in-Ok.ensures.definitions c.in-Ok.ensures.variables) c.list_of.ensures.list c.list_of.ensures.list

pub returns-in-Ok-clause-visible : goal.returns-in-Ok-clause-visible
returns-in-Ok-clause-visible c =
    let same = c.visible.ensures.count ∙ ap (λ s. length (visible_atoms (universe_of s))) c.requires.of in
    if_ok_both c.list_of.result (λ (list : Cnf). list.visible ≡ c.visible.result) (λ (list : Cnf). list.visible ≡ c.visible.result) (λ (list : Cnf). list.visible ≡ visible_count (theory_of c.args.theory.now)) (λ list e f. e ∙ same) c.list_of.ensures.visible c.list_of.ensures.visible
