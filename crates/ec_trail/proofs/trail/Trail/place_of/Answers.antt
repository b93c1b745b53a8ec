use Rattle.std.proofs.Common.{◌≡◌, ◌<◌, Some, true, length, get_or, ap, sym, subst, ◌∙◌, arith}
use Rattle.std.specs.Prelude.{IfSome, slice_get, vec_capacity}
use Rattle.ec_clause.specs.Truth.{literal_value}
use Rattle.ec_trail.specs.TrailList.{TrailList, truth_of}
use Rattle.ec_trail.proofs.Values.{true_place}
use Rattle.ec_trail.proofs.trail.Trail.place_of.Goals as goal

pub returns-in-Some-true-clause-within : goal.returns-in-Some-true-clause-within
returns-in-Some-true-clause-within c =
    let a = c.self.inside in
    let variables = ap (λ (t : TrailList). t.variables) c.self.view_is in
    let is : literal_value (truth_of c.args.self.now) c.args.lit ≡ Some true = cc (c.value.ensures, c.in-Some-true.is, c.in-Some-true.field-0-test) in
    let at = c.index.ensures ∙ ap (λ v. get_or a.places.items v c.index.result.now) c.variable.ensures.variable in
    let place = true_place a.variables (vec_capacity a.entries) a.entries.items a.values a.places.items c.args.lit c.index.result.now c.self.invariant (omega (arith, c.requires, variables)) at (subst (λ (t : TrailList). literal_value (truth_of t) c.args.lit ≡ Some true) (sym c.self.view_is) is) in
    subst (λ (t : TrailList). c.index.result.now < length t.entries) c.self.view_is place.0

pub returns-in-Some-true-clause-there : goal.returns-in-Some-true-clause-there
returns-in-Some-true-clause-there c =
    let a = c.self.inside in
    let variables = ap (λ (t : TrailList). t.variables) c.self.view_is in
    let is : literal_value (truth_of c.args.self.now) c.args.lit ≡ Some true = cc (c.value.ensures, c.in-Some-true.is, c.in-Some-true.field-0-test) in
    let at = c.index.ensures ∙ ap (λ v. get_or a.places.items v c.index.result.now) c.variable.ensures.variable in
    let place = true_place a.variables (vec_capacity a.entries) a.entries.items a.values a.places.items c.args.lit c.index.result.now c.self.invariant (omega (arith, c.requires, variables)) at (subst (λ (t : TrailList). literal_value (truth_of t) c.args.lit ≡ Some true) (sym c.self.view_is) is) in
    subst (λ (t : TrailList). IfSome (slice_get t.entries c.index.result.now) (λ e. e.lit ≡ c.args.lit)) c.self.view_is place.1
