use Rattle.std.proofs.Common.{◌≡◌, ◌+◌, ◌<◌, Bool, List, length, set, sym, ap, ◌∙◌, subst, arith}
use Rattle.std.proofs.lemmas.List.{length-map, take_all}
use Rattle.std.specs.Prelude.{All}
use Rattle.ec_folding.specs.Tree.{EachAtom, true_in}
use Rattle.ec_prop.specs.Grounded.{definition_of, definitions_of}
use Rattle.ec_prop.specs.Prop.{tree_of, truth_of}
use Rattle.ec_audit.specs.Fillable.{IsFilled, IsWithin}
use Rattle.ec_audit.proofs.Filling.{AreFilled, image_at, image_is, passed_more, filled_more}
use Rattle.ec_audit.proofs.trees.fill_others.Goals as goal
use Rattle.ec_audit.proofs.trees.fill_others.Goals.{then-atom-visible, else-atom-visible}

pub true_in-requires : goal.true_in-requires
true_in-requires c =
    let within = image_at (IsWithin (length c.args.truths.now)) definition_of c.args.definitions.now c.loop-definition.definition-index c.definition-item.result c.requires (omega arith) c.definition-item.is in
    subst (λ n. EachAtom (λ a. a < n) (tree_of c.definition-item.result.scope)) (sym c.loop-definition.invariant.size) within.1

pub bounds-truths-atom : goal.bounds-truths-atom
bounds-truths-atom c =
    let within = image_at (IsWithin (length c.args.truths.now)) definition_of c.args.definitions.now c.loop-definition.definition-index c.definition-item.result c.requires (omega arith) c.definition-item.is in
    let low : c.definition-item.result.atom < length c.args.truths.now = within.0 in
    omega (arith, low, c.loop-definition.invariant.size)

pub loop-definition-preserved : goal.loop-definition-preserved
loop-definition-preserved c =
    let ds = definitions_of c.args.definitions.now in
    let i = c.loop-definition.definition-index in
    let now = c.loop-definition.truths in
    let d = definition_of c.definition-item.result in
    let there : i < length ds = omega (arith, length-map c.args.definitions.now definition_of) in
    let is = image_is definition_of c.args.definitions.now i c.definition-item.result (omega arith) c.definition-item.is in
    let within = image_at (IsWithin (length c.args.truths.now)) definition_of c.args.definitions.now i c.definition-item.result c.requires (omega arith) c.definition-item.is in
    let low : d.atom < length now = (let first = within.0 in omega (arith, first, c.loop-definition.invariant.size)) in
    elim c.if-atom-visible.branch [
      | then-atom-visible w ↦ (
          let next : c.if-atom-visible.truths ≡ set now d.atom (true_in (truth_of now) d.scope) = w.truths-is ∙ ap (set now d.atom) w.true_in.ensures in
          subst (λ (t : List Bool). AreFilled c.args.visible ds c.args.truths.now t (i + 1)) (sym next)
          (filled_more c.args.visible ds c.args.truths.now now i d c.loop-definition.invariant there is (omega arith) low))
      | else-atom-visible w ↦ (
          subst (λ (t : List Bool). AreFilled c.args.visible ds c.args.truths.now t (i + 1)) (sym w.truths-is)
          (passed_more c.args.visible ds c.args.truths.now now i d c.loop-definition.invariant there is (omega arith)))
    ]

pub returns-clause-filled : goal.returns-clause-filled
returns-clause-filled c can =
    let ds = definitions_of c.args.definitions.now in
    let all = take_all c.loop-definition.definition-index ds (omega (arith, length-map c.args.definitions.now definition_of)) in
    subst (All (IsFilled c.args.visible (truth_of c.loop-definition.truths))) all (c.loop-definition.invariant.filled can)
