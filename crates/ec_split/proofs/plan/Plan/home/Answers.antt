use Rattle.std.proofs.Common.{◌∙◌, ◌<◌, ℕ, Option, IfSome, length, sym, subst, arith}
use Rattle.std.proofs.lemmas.List.{length-map}
use Rattle.ec_theory.specs.View.{formula_tree}
use Rattle.ec_split.specs.Plan.{groups_in, made_of}
use Rattle.ec_split.proofs.DealLemmas.{heads_below, label_below}
use Rattle.ec_split.proofs.plan.Plan.home.Goals as goal

pub returns-in-Some-clause-below : goal.returns-in-Some-clause-below
returns-in-Some-clause-below c =
    omega (arith, length-map c.args.self.now.made.items made_of, label_below (groups_in c.args.self.now) c.args.label.now c.in-Some.place (sym c.home_by_label.ensures ∙ c.in-Some.is))

pub returns-in-None-clause-below : goal.returns-in-None-clause-below
returns-in-None-clause-below c =
    let P : Option ℕ → Type 0 = λ o. IfSome o (λ k. k < length (groups_in c.args.self.now)) in
    let Q : ℕ → Type 0 = λ n. IfSome c.home_by_heads.result (λ k. k < n) in
    subst Q (length-map c.args.self.now.made.items made_of) (subst P (sym c.home_by_heads.ensures) (heads_below (groups_in c.args.self.now) (formula_tree c.args.f.now)))
