use Rattle.std.proofs.Common.{rules, ◌≡◌, ◌+◌, ◌<◌, false, length, subst, sym, set, arith}
use Rattle.std.proofs.lemmas.Option.{get_or_from_slice_get}
use Rattle.ec_logic.specs.Universe.{universe_of}
use Rattle.ec_logic.specs.Atom.{all_atoms, visible_atoms}
use Rattle.ec_models.proofs.Steps.{visible_within}
use Rattle.ec_audit.proofs.Copied.{IsCopied, one_copied, all_copied}
use Rattle.ec_audit.proofs.part.structure_with.Goals as goal

pub loop-atom-preserved : goal.loop-atom-preserved
loop-atom-preserved c =
    let truth = c.args.truth.now in
    let old = c.loop-atom.structure in
    let size = length (all_atoms (universe_of c.args.atoms.now)) in
    let below : c.loop-atom.atom < length (visible_atoms (universe_of c.args.atoms.now)) = search rules in
    let lt : c.loop-atom.atom < size = omega (arith, below, visible_within (universe_of c.args.atoms.now)) in
    let bit = get_or_from_slice_get truth c.loop-atom.atom c.get.result false c.get.ensures in
    let e : c.set.new.self ≡ set old c.loop-atom.atom c.get.result = search rules in
    subst (IsCopied truth size (c.loop-atom.atom + 1)) (sym e) (one_copied truth old size c.loop-atom.atom c.get.result lt bit c.loop-atom.invariant)

pub returns-clause-same : goal.returns-clause-same
returns-clause-same c =
    let truth = c.args.truth.now in
    let size = length (all_atoms (universe_of c.args.atoms.now)) in
    let end : c.loop-atom.atom ≡ length truth = search rules in
    all_copied truth c.loop-atom.structure size (subst (λ n. IsCopied truth size n c.loop-atom.structure) end c.loop-atom.invariant)
