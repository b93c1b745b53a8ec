use Rattle.std.proofs.Common.{◌∙◌, sym, subst, ℕ}
use Rattle.std.proofs.lemmas.Result.{on_ok_weaker}
use Rattle.ec_naming.specs.Marks.{AreInRange}
use Rattle.ec_naming.proofs.Keeping.{clause_kept, clauses_added}
use Rattle.ec_encode.proofs.tidy.Tidy.push.Goals as goal

pub add_unless-requires-clause-clause : goal.add_unless-requires-clause-clause
add_unless-requires-clause-clause c =
    let n = c.self.inside.variables in
    let range = subst (λ (m : ℕ). AreInRange m c.args.raw.now) (sym c.self.view_is) c.requires.range in
    clause_kept n _ c.args.raw.now c.deref.result.now c.in_ok-clash.clash (c.requires.variables ∙ sym c.self.view_is) range c.in_ok-clash.ensures.clash (c.deref.ensures.value ∙ c.in_ok-clash.ensures.kept)

pub returns-clause-ok : goal.returns-clause-ok
returns-clause-ok c =
    let n = c.self.inside.variables in
    let range = subst (λ (m : ℕ). AreInRange m c.args.raw.now) (sym c.self.view_is) c.requires.range in
    on_ok_weaker c.add_unless.result
    (clauses_added n c.args.raw.now c.deref.result.now c.in_ok-clash.clash _ _ range c.in_ok-clash.ensures.clash (c.deref.ensures.value ∙ c.in_ok-clash.ensures.kept))
    c.add_unless.ensures.ok
