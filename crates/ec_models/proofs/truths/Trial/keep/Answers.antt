use Rattle.std.proofs.Common.{◌∙◌, ◌++◌, ◌∷◌, [], take, ap, Bool, List}
use Rattle.ec_theory.specs.Theories.{theory_of}
use Rattle.ec_models.specs.Tried.{visible_count}
use Rattle.ec_models.proofs.Finding.{tried_passed}
use Rattle.ec_models.proofs.Leaves.{visible_kept, kept_minimal, kept_other}
use Rattle.ec_models.proofs.truths.Trial.keep.Goals as goal

pub returns-then-not-passes_early-clause-found : goal.returns-then-not-passes_early-clause-found
returns-then-not-passes_early-clause-found c =
    let theory = c.args.self.now.theory.now in
    tried_passed (theory_of theory) (take (visible_count theory.signature) c.args.structure.now) c.args.found.now.items (c.passes_early.ensures.other c.if-not-passes_early.true)

pub visible_truth-requires : goal.visible_truth-requires
visible_truth-requires c = record { of = c.requires.of; all = c.in_ok-least_effects.ensures.size ∙ c.requires.all }

pub returns-in_ok-push-in-Minimal-clause-same : goal.returns-in_ok-push-in-Minimal-clause-same
returns-in_ok-push-in-Minimal-clause-same c =
    let size = c.in_ok-least_effects.ensures.size ∙ c.requires.all in
    visible_kept (theory_of c.args.self.now.theory.now) c.requires.valid c.args.structure.now c.least_effects.new.structure c.requires.all size c.in_ok-least_effects.ensures.filled

pub returns-in_ok-push-in-Minimal-clause-found : goal.returns-in_ok-push-in-Minimal-clause-found
returns-in_ok-push-in-Minimal-clause-found c =
    let before = c.args.found.now.items in
    let size = c.in_ok-least_effects.ensures.size ∙ c.requires.all in
    let added = c.in_ok-push-in-Minimal.ensures.items ∙ ap (λ (x : List Bool). before ++ x ∷ []) c.in_ok-visible_truth-in-Minimal.ensures in
    kept_minimal (theory_of c.args.self.now.theory.now) c.requires.valid c.args.structure.now c.least_effects.new.structure c.requires.all size c.in_ok-least_effects.ensures.filled before c.push.new.self.items (c.in_ok-verdict.ensures.minimal.0 c.in-Minimal.is) added

pub returns-in-Untrue-clause-same : goal.returns-in-Untrue-clause-same
returns-in-Untrue-clause-same c =
    let size = c.in_ok-least_effects.ensures.size ∙ c.requires.all in
    visible_kept (theory_of c.args.self.now.theory.now) c.requires.valid c.args.structure.now c.least_effects.new.structure c.requires.all size c.in_ok-least_effects.ensures.filled

pub returns-in-Untrue-clause-found : goal.returns-in-Untrue-clause-found
returns-in-Untrue-clause-found c =
    let size = c.in_ok-least_effects.ensures.size ∙ c.requires.all in
    kept_other (theory_of c.args.self.now.theory.now) c.requires.valid c.args.structure.now c.least_effects.new.structure c.requires.all size c.in_ok-least_effects.ensures.filled c.args.found.now.items
    (λ minimal. let is = c.in_ok-verdict.ensures.minimal.1 minimal in let other = c.in-Untrue.is in cc)

-- ---- the judge is as it was

pub passes_early-requires : goal.passes_early-requires
passes_early-requires c = record { judge = c.requires.judge; of = c.requires.of; valid = c.requires.valid; early = c.requires.early; all = c.requires.all }

pub least_effects-requires : goal.least_effects-requires
least_effects-requires c = record { of = c.requires.of; valid = c.requires.valid; all = c.requires.all }

pub verdict-requires : goal.verdict-requires
verdict-requires c = record { judge = c.passes_early.ensures.judge; of = c.requires.of; valid = c.requires.valid; all = c.in_ok-least_effects.ensures.size ∙ c.requires.all }

pub returns-then-not-passes_early-clause-judge : goal.returns-then-not-passes_early-clause-judge
returns-then-not-passes_early-clause-judge c = c.passes_early.ensures.judge

pub returns-in_ok-push-in-Minimal-clause-judge : goal.returns-in_ok-push-in-Minimal-clause-judge
returns-in_ok-push-in-Minimal-clause-judge c = c.verdict.ensures.judge

pub returns-in-Untrue-clause-judge : goal.returns-in-Untrue-clause-judge
returns-in-Untrue-clause-judge c = c.verdict.ensures.judge
