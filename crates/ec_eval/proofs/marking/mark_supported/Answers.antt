use Rattle.std.proofs.Common.{◌≡◌, length, ap, arith, subst}
use Rattle.ec_logic.specs.Signature.{Signature}
use Rattle.ec_logic.specs.Universe.{universe_of}
use Rattle.ec_logic.specs.Atom.{visible_atoms}
use Rattle.ec_logic.proofs.Counted.{countable_by_visible}
use Rattle.ec_logic.proofs.Readable.{sentence_readable}
use Rattle.ec_theory.specs.View.{formula_tree}
use Rattle.ec_values.proofs.StackLemmas.{drop_all}
use Rattle.ec_eval.proofs.marking.mark_supported.Goals as goal

pub mark_at-requires-clause-countable : goal.mark_at-requires-clause-countable
mark_at-requires-clause-countable c =
    let P : Signature → Type 0 = λ s. c.visible-visible.result ≡ length (visible_atoms (universe_of s)) in
    countable_by_visible c.args.signature.now c.visible-visible.result c.sorts-sorts.ensures.valid (subst P c.requires.of c.visible-visible.ensures.count) c.visible-visible.ensures.few

pub mark_at-requires-clause-readable : goal.mark_at-requires-clause-readable
mark_at-requires-clause-readable c =
    let whole = drop_all c.as_mut_slice-2.result.now c.len-start.result (omega (arith, c.len-start.ensures, ap length c.as_mut_slice-2.ensures.value)) in
    rw whole (sentence_readable c.args.signature.now (formula_tree c.args.sentence.now) c.sorts-sorts.ensures.valid c.requires.sentence)
