-- The definitions of a group define its predicates.
use Rattle.std.proofs.Common.{◌≡◌, ℕ, List, [], ◌∷◌, map, All, IfOk, Result, Ok, Err, subst, sym}
use Rattle.std.proofs.lemmas.List.Elements.{All-cons, All-nil}
use Rattle.ec_logic.specs.Tree.{Formula}
use Rattle.ec_logic.specs.Signature.{Signature}
use Rattle.ec_logic.specs.Universe.{universe_of}
use Rattle.ec_logic.specs.Sorting.{IsWellSorted}
use Rattle.ec_logic.specs.ValidTheory.{IsValidSentence}
use Rattle.ec_complete.specs.Completion.{definition, Defines}
use Rattle.ec_complete.proofs.Defining.{definition_says}

pub if_ok_both : {A E : Type 0} {P Q R : A → Type 0} (r : Result A E) → IfOk r P → IfOk r Q → ((a : A) → P a → Q a → R a) → IfOk r R
if_ok_both (Ok a) p q go = go a p q
if_ok_both (Err e) p q go = tt

all_sorted : (signature : Signature) (sentences : List Formula) → All (IsValidSentence signature) sentences → All (IsWellSorted signature []) sentences
all_sorted signature sentences h = λ k f l. (h k f l).sentence.well_sorted

module _ (signature : Signature) (sentences : List Formula) (sorted : All (IsWellSorted signature []) sentences) {X : Type 0} (predicate : X → ℕ) (scope : X → Formula) where
  abbrev Right : X → Type 0
  Right d = Defines (universe_of signature) sentences (predicate d) (scope d)

  all_right : (ds : List X) → map scope ds ≡ map (definition (universe_of signature) sentences) (map predicate ds) → All Right ds
  all_right [] e = All-nil Right
  all_right (d ∷ ds) e =
      let first : scope d ≡ definition (universe_of signature) sentences (predicate d) = cc in
      let rest : map scope ds ≡ map (definition (universe_of signature) sentences) (map predicate ds) = cc in
      All-cons Right d ds (subst (Defines (universe_of signature) sentences (predicate d)) (sym first) (definition_says signature sentences sorted (predicate d))) (all_right ds rest)

pub all_define : (signature : Signature) (sentences : List Formula) → All (IsValidSentence signature) sentences → {X : Type 0} (predicate : X → ℕ) (scope : X → Formula) (ds : List X) (ps : List ℕ)
    → map predicate ds ≡ ps → map scope ds ≡ map (definition (universe_of signature) sentences) ps → All (λ d. Defines (universe_of signature) sentences (predicate d) (scope d)) ds
all_define signature sentences valid predicate scope ds ps p e = all_right signature sentences (all_sorted signature sentences valid) predicate scope ds (rw p e)
