-- The tables of trees that are gathered from the groups of a theory: that of the first group, and that of the others.
use Rattle.std.proofs.Common.{◌≡◌, ◌∙◌, ◌-◌, Bool, List, length, map, take, drop, Option, ap, subst}
use Rattle.ec_logic.specs.Universe.{Universe}
use Rattle.ec_logic.specs.Theory as logic
use Rattle.ec_theory.specs.declared.theory.Group.{Group}
use Rattle.ec_theory.specs.Theories.{group_of}
use Rattle.ec_prop.specs.declared.tree.Prop.{Prop}
use Rattle.ec_grounding.specs.Folded.{Reading}
use Rattle.ec_fold.specs.Known.{read_with}
use Rattle.ec_gather.specs.Scopes.{AreScopes}
use Rattle.ec_ground.proofs.Parts.{first_viewed, rest_viewed}

module _ (lent groups : List Group) (same : lent ≡ groups) where
  pub first_group : map group_of (take 1 lent) ≡ take 1 (map group_of groups)
  first_group = ap (λ (gs : List Group). map group_of (take 1 gs)) same ∙ first_viewed group_of groups

  pub other_groups : map group_of (take (length lent - 1) (drop 1 lent)) ≡ drop 1 (map group_of groups)
  other_groups = ap (λ (gs : List Group). map group_of (take (length gs - 1) (drop 1 gs))) same ∙ rest_viewed group_of groups

  module _ (universe : Universe) (scopes : List (Option Prop)) where
    pub of_first : (reading : Reading) → AreScopes universe reading (map group_of (take 1 lent)) scopes → AreScopes universe reading (take 1 (map group_of groups)) scopes
    of_first reading h =
        let P : List logic.Group → Type 0 = λ gs. AreScopes universe reading gs scopes in
        subst P first_group h

    pub of_others : (used known : List (Option Bool)) → used ≡ known → AreScopes universe (read_with universe used) (map group_of (take (length lent - 1) (drop 1 lent))) scopes
        → AreScopes universe (read_with universe known) (drop 1 (map group_of groups)) scopes
    of_others used known is h =
        let P : List logic.Group → Type 0 = λ gs. AreScopes universe (read_with universe used) gs scopes in
        let Q : List (Option Bool) → Type 0 = λ ks. AreScopes universe (read_with universe ks) (drop 1 (map group_of groups)) scopes in
        subst Q is (subst P other_groups h)
