use Rattle.std.proofs.Common.{◌≡◌, ◌∷◌, [], ◌++◌, sym, map}
use Rattle.std.proofs.lemmas.List.{map-append, append-nil}
use Rattle.ec_theory.specs.View.{formula_tree}
use Rattle.ec_axiom.proofs.ReleaseLemmas.{axioms_more}
use Rattle.ec_axiom.proofs.release.release_axioms.Goals as goal
use Rattle.ec_axiom.proofs.release.release_axioms.Goals.{in-Some+in_ok-push, in_default}

pub loop-number-preserved : goal.loop-number-preserved
loop-number-preserved c =
    let signature = c.args.signature.now in
    let before = map formula_tree c.loop-number.formulas.items in
    elim c.match-branch-2.branch [
      | in-Some+in_ok-push w ↦ (
          let pushed : map formula_tree w.push.new.self.items ≡ before ++ formula_tree w.in-Some.formula ∷ [] = rw w.in_ok-push.ensures.items (map-append formula_tree c.loop-number.formulas.items (w.in-Some.formula ∷ [])) in
          rw w.formulas-is (axioms_more signature c.loop-number.number before (map formula_tree w.push.new.self.items) (formula_tree w.in-Some.formula ∷ []) (rw w.in-Some.is at c.in_ok-formula.ensures) pushed c.loop-number.invariant))
      | in_default w ↦ (rw w.formulas-is (axioms_more signature c.loop-number.number before before [] (rw w.in_default.is at c.in_ok-formula.ensures) (sym (append-nil before)) c.loop-number.invariant))
    ]
