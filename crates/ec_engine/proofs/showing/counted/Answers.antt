use Rattle.std.proofs.Common.{◌≡◌, ◌∙◌, length, arith, ap, sym}
use Rattle.std.proofs.lemmas.List.{length-map}
use Rattle.ec_clause.specs.ClauseList.{ClauseList}
use Rattle.ec_theory.specs.Theories.{group_of}
use Rattle.ec_engine.proofs.Atoms.{visible_is}
use Rattle.ec_engine.proofs.showing.counted.Goals as goal

pub returns : goal.returns
returns c =
    let groups : c.len-2.result ≡ length c.args.accepted.now.theory.groups.items = omega (arith, c.len-2.ensures) in
    record {
      files = omega (arith, c.len.ensures);
      groups = groups ∙ sym (length-map c.args.accepted.now.theory.groups.items group_of);
      weight = omega (arith, c.in_ok-weight.ensures, c.requires.light);
      atoms = visible_is c.args.accepted.now.atoms c.args.accepted.now.theory.signature c.visible.result c.requires.numbered c.visible.ensures.count;
      variables = c.variables.ensures.value ∙ ap (λ (l : ClauseList). l.variables) c.in_ok-list.ensures.list;
      clauses = c.len-3.ensures.value ∙ ap (λ (l : ClauseList). length l.clauses) c.in_ok-list.ensures.list;
    }
