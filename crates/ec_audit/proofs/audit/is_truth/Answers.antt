use Rattle.std.proofs.Common.{◌∙◌, ◌<◌, List, length, ap, sym, subst}
use Rattle.std.specs.Prelude.{All, IsTrue, ◌↔◌, Bool}
use Rattle.ec_logic.specs.Listing.{IsTruth}
use Rattle.ec_folding.specs.Tree.{EachAtom}
use Rattle.ec_folding.specs.Definition.{Definition}
use Rattle.ec_prop.specs.Grounded.{definitions_of, sentences_of}
use Rattle.ec_prop.specs.Prop.{truth_of}
use Rattle.ec_audit.specs.Fillable.{Fills, IsWithin}
use Rattle.ec_audit.proofs.Auditing.{exact_of}
use Rattle.ec_audit.proofs.Within.{sentences_within, definitions_within, visible_within}
use Rattle.ec_audit.proofs.audit.is_truth.Goals as goal

pub copy_visible-requires : goal.copy_visible-requires
copy_visible-requires c = visible_within (length c.args.truths.now) (length c.args.truth.now) c.args.grounded.now c.requires.grounded c.requires.room

pub fill_others-requires : goal.fill_others-requires
fill_others-requires c =
    let within = definitions_within (length c.args.truths.now) (length c.args.truth.now) c.args.grounded.now c.requires.grounded c.requires.room in
    subst (λ (ds : List Definition). All (IsWithin (length c.copy_visible.new.truths)) ds) (ap definitions_of (sym c.deref.ensures.value))
    (subst (λ n. All (IsWithin n) (definitions_of c.args.grounded.now.definitions.items)) (sym c.copy_visible.ensures.size) within)

pub trees_hold-requires-clause-sentences : goal.trees_hold-requires-clause-sentences
trees_hold-requires-clause-sentences c =
    let within = sentences_within (length c.args.truths.now) (length c.args.truth.now) c.args.grounded.now c.requires.grounded c.requires.room in
    subst (λ n. All (EachAtom (λ a. a < n)) (sentences_of c.args.grounded.now)) (sym (c.fill_others.ensures.size ∙ c.copy_visible.ensures.size)) within

pub trees_hold-requires-clause-definitions : goal.trees_hold-requires-clause-definitions
trees_hold-requires-clause-definitions c =
    let within = definitions_within (length c.args.truths.now) (length c.args.truth.now) c.args.grounded.now c.requires.grounded c.requires.room in
    subst (λ n. All (IsWithin n) (definitions_of c.args.grounded.now.definitions.items)) (sym (c.fill_others.ensures.size ∙ c.copy_visible.ensures.size)) within

pub returns-clause-exact : goal.returns-clause-exact
returns-clause-exact c theory valid ground size =
    let visible = c.len-visible.result in
    let v = truth_of c.fill_others.new.truths in
    let ds = definitions_of c.args.grounded.now.definitions.items in
    let filled = subst (Fills visible v) (ap definitions_of c.deref.ensures.value) c.fill_others.ensures.filled in
    let exact = exact_of theory valid c.args.truth.now v visible (sentences_of c.args.grounded.now) ds
    (c.len-visible.ensures ∙ size) ground.sentences ground.definitions (sym c.len-visible.ensures)
    (λ a low. c.fill_others.ensures.visible a low ∙ c.copy_visible.ensures.visible a (subst (λ n. a < n) c.len-visible.ensures low)) filled in
    subst (λ (b : Bool). IsTrue b ↔ IsTruth theory c.args.truth.now) (sym c.trees_hold.ensures) exact
