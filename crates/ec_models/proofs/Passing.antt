-- What a loop over sentences keeps as it passes the next one.
use Rattle.std.proofs.Common.{◌≡◌, ◌≤◌, ◌<◌, ◌+◌, ◌∙◌, ℕ, suc, Bool, true, false, ◌&&◌, List, [], ◌∷◌, ◌++◌, drop, drop-cons, get_or, length, refl, sym, ap, add-one, subst, append_assoc, arith}
use Rattle.std.proofs.lemmas.List.{map-append}
use Rattle.std.specs.Borrow.{Bor}
use Rattle.ec_logic.specs.Tree.{Formula}
use Rattle.ec_logic.specs.TreeList.{formulas_of}
use Rattle.ec_logic.specs.Universe.{Universe}
use Rattle.ec_logic.specs.Truth.{Structure, truth}
use Rattle.ec_logic.specs.Reach.{nesting_of}
use Rattle.ec_logic.specs.Theory.{all_hold}
use Rattle.ec_theory.specs.declared.formula.Formula.{Formula as Code}
use Rattle.ec_models.specs.Early.{speaks_of_no_effect, early_of, tree_behind, trees_behind}

pub item_at : {A : Type 0} (xs : List A) (i : ℕ) (x : A) → i < length xs → x ≡ get_or xs i x → drop i xs ≡ x ∷ drop (i + 1) xs
item_at xs i x l e = rw (add-one i) (drop-cons xs i x l ∙ ap (λ y. y ∷ drop (suc i) xs) (sym e))

pub later_hold : (universe : Universe) (m : Structure) (f : Formula) (later rest : List Formula) (whole : Bool) → rest ≡ f ∷ later → truth universe m [] f ≡ true → all_hold universe m rest ≡ whole → all_hold universe m later ≡ whole
later_hold universe m f later rest whole at holds is =
    let P : List Formula → Type 0 = λ gs. all_hold universe m gs ≡ whole in
    let Q : Bool → Type 0 = λ b. (b && all_hold universe m later) ≡ whole in
    subst Q holds (subst P at is)

pub later_nest : (f : Formula) (later rest : List Formula) (old new : ℕ) → rest ≡ f ∷ later → new ≡ old → nesting_of (formulas_of rest) ≤ old → nesting_of (formulas_of later) ≤ new
later_nest f later rest old new at same room =
    let P : List Formula → Type 0 = λ gs. nesting_of (formulas_of gs) ≤ old in
    let both : nesting_of (formulas_of (f ∷ later)) ≤ old = subst P at room in
    omega (arith, both, same)

-- ---- the sentences that speak of no effect, those found so far before those to come

pub early_added : (found new : List (Bor Code)) (one : Bor Code) (later rest whole : List Formula) → rest ≡ tree_behind one ∷ later → speaks_of_no_effect (tree_behind one) ≡ true → new ≡ found ++ one ∷ []
    → trees_behind found ++ early_of rest ≡ whole → trees_behind new ++ early_of later ≡ whole
early_added found new one later rest whole at speaks added is =
    let f = tree_behind one in
    let front : trees_behind new ≡ trees_behind found ++ f ∷ [] = ap trees_behind added ∙ map-append tree_behind found (one ∷ []) in
    let next : early_of (f ∷ later) ≡ f ∷ early_of later = rw speaks refl in
    let P : List Formula → Type 0 = λ fs. trees_behind found ++ early_of fs ≡ whole in
    let Q : List Formula → Type 0 = λ fs. trees_behind found ++ fs ≡ whole in
    ap (λ (fs : List Formula). fs ++ early_of later) front ∙ (append_assoc (trees_behind found) (f ∷ []) (early_of later) ∙ subst Q next (subst P at is))

pub early_passed : (found : List (Bor Code)) (f : Formula) (later rest whole : List Formula) → rest ≡ f ∷ later → speaks_of_no_effect f ≡ false → trees_behind found ++ early_of rest ≡ whole → trees_behind found ++ early_of later ≡ whole
early_passed found f later rest whole at speaks is =
    let next : early_of (f ∷ later) ≡ early_of later = rw speaks refl in
    let P : List Formula → Type 0 = λ fs. trees_behind found ++ early_of fs ≡ whole in
    let Q : List Formula → Type 0 = λ fs. trees_behind found ++ fs ≡ whole in
    subst Q next (subst P at is)
