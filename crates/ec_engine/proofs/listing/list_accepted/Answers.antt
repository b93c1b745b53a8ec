use Rattle.std.proofs.Common.{codes, List, Bool, arith, refl, sym, subst}
use Rattle.ec_logic.specs.Listing.{AreTruths}
use Rattle.ec_theory.specs.Theories.{theory_of}
use Rattle.ec_load.specs.Refusals.{refused, in_file}
use Rattle.ec_engine.specs.declared.listing.ListEnd.TheVariants as end
use Rattle.ec_engine.proofs.Endings.{list_ends, list_line}
use Rattle.ec_engine.proofs.Atoms.{few_atoms, too_many}
use Rattle.ec_engine.proofs.listing.list_accepted.Goals as goal

pub returns-then-visible-gt-MOST_ATOMS-clause-put : goal.returns-then-visible-gt-MOST_ATOMS-clause-put
returns-then-visible-gt-MOST_ATOMS-clause-put g c = λ held accepted.
    rw c.refused.ensures (list_ends held c.args.file.now _ _ _ _ end.Refused (refused 21 (in_file c.args.file.now 0) (codes "atoms")) c.refuse_file.result
    (too_many held c.args.file.now (theory_of c.args.accepted.now.theory) c.args.accepted.now.atoms c.visible.result c.requires.numbered c.visible.ensures.count (omega (arith, c.if-visible-gt-MOST_ATOMS.true)) accepted, refl)
    c.refuse_file.ensures.same c.refuse_file.ensures.ok c.refuse_file.ensures.part)

pub returns-then-visible-gt-MOST_ATOMS-clause-line : goal.returns-then-visible-gt-MOST_ATOMS-clause-line
returns-then-visible-gt-MOST_ATOMS-clause-line g c = λ shown r is.
    list_line (refused 21 (in_file c.args.file.now 0) (codes "atoms")) r _ _ c.refuse_file.result c.refused.result c.refused.ensures c.refuse_file.ensures.same (c.refuse_file.ensures.ok shown) is

pub models-requires-clause-few : goal.models-requires-clause-few
models-requires-clause-few g c =
    few_atoms c.args.accepted.now.atoms c.args.accepted.now.theory.signature c.visible.result c.requires.numbered c.visible.ensures.count (omega (arith, c.if-visible-gt-MOST_ATOMS.false))

pub returns-in-Ok-clause-put : goal.returns-in-Ok-clause-put
returns-in-Ok-clause-put g c = λ held accepted.
    c.list_truths.ensures.put held c.args.file.now (record {
      theory = theory_of c.args.accepted.now.theory;
      accepted = accepted;
      few = few_atoms c.args.accepted.now.atoms c.args.accepted.now.theory.signature c.visible.result c.requires.numbered c.visible.ensures.count (omega (arith, c.if-visible-gt-MOST_ATOMS.false));
      truths = c.deref.result.now;
      all = subst (λ (ts : List (List Bool)). AreTruths (theory_of c.args.accepted.now.theory) ts) (sym c.deref.ensures.value) c.in-Ok.ensures.truths;
      counted = refl;
      is = refl;
    })
