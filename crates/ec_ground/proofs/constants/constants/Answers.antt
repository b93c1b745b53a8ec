use Rattle.std.proofs.Common.{◌∙◌, ◌∷◌, ◌++◌, [], Bool, Option, option_map, refl, ap}
use Rattle.ec_prop.specs.declared.tree.Prop.{Prop}
use Rattle.ec_prop.specs.Prop.{tree_of}
use Rattle.ec_ground.specs.Constants.{constant_in, constants_of}
use Rattle.ec_ground.proofs.Items.{one_made, all_made}
use Rattle.ec_ground.proofs.constants.constants.Goals as goal

abbrev constant_of : Option Prop → Option Bool
constant_of scope = constant_in (option_map tree_of scope)

pub loop-scope-preserved : goal.loop-scope-preserved
loop-scope-preserved c =
    one_made constant_of constants_of (λ x xs. refl) c.args.scopes.now c.loop-scope.scope-index c.scope-item.result c.loop-scope.known.items c.push.new.self.items (constants_of c.args.scopes.now) c.loop-scope-test.true c.scope-item.is
    (c.in_ok-push.ensures.items ∙ ap (λ constant. c.loop-scope.known.items ++ constant ∷ []) c.constant_of.ensures) c.loop-scope.invariant

pub returns : goal.returns
returns c = all_made constant_of constants_of refl c.args.scopes.now c.loop-scope.scope-index c.loop-scope.known.items (constants_of c.args.scopes.now) c.loop-scope-test.false c.loop-scope.invariant
