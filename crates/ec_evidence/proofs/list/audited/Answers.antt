use Rattle.std.proofs.Common.{List, Bool, Option, length, ap, sym, subst, ◌∙◌, arith}
use Rattle.ec_logic.specs.Atom.{visible_atoms}
use Rattle.ec_logic.specs.Universe.{universe_of}
use Rattle.ec_logic.specs.Signature.{Signature}
use Rattle.ec_theory.specs.Theories.{theory_of}
use Rattle.ec_prop.specs.Grounded.{IsGrounded}
use Rattle.ec_audit.specs.Firsts.{TellsFirst}
use Rattle.ec_audit.specs.declared.first.Failing.{Failing}
use Rattle.ec_evidence.specs.Found.{model}
use Rattle.ec_evidence.proofs.Shown.{lengths_of}
use Rattle.ec_evidence.proofs.list.audited.Goals as goal

pub list_of-requires : goal.list_of-requires
list_of-requires c =
    let same = c.visible.ensures.count ∙ ap (λ (s : Signature). length (visible_atoms (universe_of s))) c.requires.of in
    subst (IsGrounded c.in-Ok.grounded) (sym same) c.in-Ok.ensures.grounded

pub returns-in-Ok-list_of-clause-audits : goal.returns-in-Ok-list_of-clause-audits
returns-in-Ok-list_of-clause-audits c =
    let theory = theory_of c.args.theory.now in
    let found = c.in-Ok-list_of.ensures in
    let count = c.visible.ensures.count ∙ ap (λ (s : Signature). length (visible_atoms (universe_of s))) c.requires.of in
    record {
      is = found.list theory c.in-Ok.ensures.sentences c.in-Ok.ensures.definitions c.in-Ok.ensures.variables;
      few = omega (arith, found.few_clauses);
      truths = record {
        visible = length (visible_atoms (universe_of c.args.theory.now.signature));
        each = lengths_of c.args.theory.now.signature c.args.listed.now.models.items c.requires.fit.0;
        within = omega (arith, found.within, found.visible, count);
      };
      each = subst (λ (o : Option Failing). TellsFirst theory c.args.listed.now.models.items o) c.in-Ok-None.field-0-is
          (subst (λ (ts : List (List Bool)). TellsFirst theory ts c.in-Ok-None.field-0) c.deref.ensures.value c.in-Ok-None.ensures);
    }

pub returns-in-Ok-Some-clause-audits : goal.returns-in-Ok-Some-clause-audits
returns-in-Ok-Some-clause-audits c = λ held name log lists. model c.args.listed.now.models.items c.args.listed.now.ending c.in-Ok-Some.failing lists
    (subst (λ (o : Option Failing). TellsFirst (theory_of c.args.theory.now) c.args.listed.now.models.items o) c.in-Ok-Some.field-0-is
    (subst (λ (ts : List (List Bool)). TellsFirst (theory_of c.args.theory.now) ts c.in-Ok-Some.field-0) c.deref.ensures.value c.in-Ok-Some.ensures))
