use Rattle.std.proofs.Common.{◌≡◌, ◌∙◌, ◌<◌, length, ap, arith}
use Rattle.std.proofs.lemmas.List.{length-set}
use Rattle.ec_logic.specs.Universe.{universe_of}
use Rattle.ec_models.specs.Tried.{visible_count}
use Rattle.ec_models.proofs.Steps.{count_moved, visible_within, front_copied, all_copied}
use Rattle.ec_models.proofs.truths.Trial.visible_truth.Goals as goal

pub get-requires : goal.get-requires
get-requires c =
    let signature = c.args.self.now.theory.now.signature in
    let count = count_moved c.args.self.now.atoms.now signature c.visible-visible.result c.requires.of c.visible-visible.ensures.count in
    omega (arith, count, visible_within (universe_of signature), c.requires.all, c.loop-atom-test.true)

pub loop-atom-preserved : goal.loop-atom-preserved
loop-atom-preserved c =
    let row = c.loop-atom.row in
    let atom = c.loop-atom.atom in
    let low : atom < length row = omega (arith, c.loop-atom.invariant.size, c.loop-atom-test.true) in
    record {
      size = ap length c.set.ensures ∙ (length-set row atom c.get.result ∙ c.loop-atom.invariant.size);
      front = rw c.set.ensures (front_copied row c.args.structure.now atom c.get.result low c.get.ensures c.loop-atom.invariant.front);
    }

pub returns : goal.returns
returns c =
    let signature = c.args.self.now.theory.now.signature in
    let count = count_moved c.args.self.now.atoms.now signature c.visible-visible.result c.requires.of c.visible-visible.ensures.count in
    let last : c.loop-atom.atom ≡ c.visible-visible.result = omega (arith, c.loop-atom-test.false, c.loop-atom.auto.atom-end) in
    all_copied c.loop-atom.row c.args.structure.now c.loop-atom.atom c.visible-visible.result (visible_count signature) c.loop-atom.invariant.size last count c.loop-atom.invariant.front
