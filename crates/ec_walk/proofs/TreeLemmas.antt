-- Lists of terms and formulas and their trees, and places in a list.
use Rattle.std.proofs.Common.{◌≡◌, ℕ, suc, ◌+◌, ◌≤◌, Bool, true, false, not, nat_lt, cond, List, [], ◌∷◌, map, length, Option, Some, None, refl, sym, ap, ◌∙◌, arith}
use Rattle.std.specs.Prelude.{position}
use Rattle.std.specs.List.{position_or_len}
use Rattle.std.proofs.lemmas.List.{length-map}
use Rattle.std.proofs.lemmas.Bool.Decides.{nat_tests}
use Rattle.ec_logic.specs.Tree as tree
use Rattle.ec_logic.specs.TreeList.{terms_of, formulas_of}
use Rattle.ec_names.specs.Names.{Names, sort_words, sort_name}
use Rattle.std.specs.Str.{bytes_eq}
use Rattle.ec_syntax.specs.declared.tree.Arg.{Arg}
use Rattle.ec_syntax.specs.declared.tree.Tree.{Tree}
use Rattle.ec_syntax.specs.View as written
use Rattle.ec_walk.specs.Trees.{term_tree, term_trees, formula_tree, formula_trees, sort_place}

pub term_trees_of : (names : Names) (scope : List (List ℕ)) (args : List Arg)
    → term_trees names scope (written.terms_of args) ≡ terms_of (map (λ a. term_tree names scope (written.term_of a)) args)
term_trees_of names scope [] = refl
term_trees_of names scope (a ∷ args) = ap (tree.term (term_tree names scope (written.term_of a))) (term_trees_of names scope args)

pub formula_trees_of : (names : Names) (scope : List (List ℕ)) (trees : List Tree)
    → formula_trees names scope (written.formulas_of trees) ≡ formulas_of (map (λ t. formula_tree names scope (written.formula_of t)) trees)
formula_trees_of names scope [] = refl
formula_trees_of names scope (t ∷ trees) = ap (tree.formula (formula_tree names scope (written.formula_of t))) (formula_trees_of names scope trees)

pub place_within : {X : Type 0} (p : X → Bool) (xs : List X) → position_or_len p xs ≤ length xs
place_within p [] = omega arith
place_within p (x ∷ xs) = by_test (p x) (place_within p xs)
  where
    by_test : (b : Bool) → position_or_len p xs ≤ length xs → cond (not b) (1 + position_or_len p xs) 0 ≤ suc (length xs)
    by_test true h = omega arith
    by_test false h = omega arith

pub no_place : {X : Type 0} (p : X → Bool) (xs : List X) → None ≡ position p xs → length xs ≡ position_or_len p xs
no_place p xs e = by_test (nat_lt (position_or_len p xs) (length xs)) refl e (place_within p xs)
  where
    by_test : (b : Bool) → nat_lt (position_or_len p xs) (length xs) ≡ b → None ≡ cond b (Some (position_or_len p xs)) None → position_or_len p xs ≤ length xs → length xs ≡ position_or_len p xs
    by_test true h f within = absurd cc
    by_test false h f within = let least : length xs ≤ position_or_len p xs = grind (arith, nat_tests) in omega arith

-- a sort that isn't declared, if there could be one
pub unknown_sort : (names : Names) (sort : List ℕ) (o : Option (List ℕ)) → Some sort ≡ o → None ≡ position (bytes_eq sort) (sort_words names) → length names.sorts ≡ sort_place names o
unknown_sort names sort o is none = sym (length-map names.sorts sort_name) ∙ no_place (bytes_eq sort) (sort_words names) none ∙ ap (sort_place names) is
