-- Clauses of a gate hold exactly where its literal has the gate's truth.
use Rattle.std.proofs.Common.{◌≡◌, ℕ, Bool, true, false, not, ◌&&◌, ◌||◌, List, [], ◌∷◌, ◌++◌, map, refl, ◌∙◌}
use Rattle.std.specs.List.{list_all, list_any}
use Rattle.std.proofs.lemmas.List.Folds.{list_all-append}
use Rattle.ec_folding.specs.Tree.{under_sign}
use Rattle.ec_clause.specs.Literal.{Literal, opposite}
use Rattle.ec_clause.specs.Step.{holds, clause_holds}
use Rattle.ec_clause.specs.Truth.{agree}
use Rattle.ec_naming.specs.Naming.{and_clauses, or_clauses}

abbrev pub same_truth : Bool → Bool → Bool
same_truth true b = b
same_truth false b = not b

pub same_truth-is : (a b : Bool) → same_truth a b ≡ true → a ≡ b
same_truth-is true true h = refl
same_truth-is false false h = refl
same_truth-is true false h = cc
same_truth-is false true h = cc

pub is-same_truth : (a b : Bool) → a ≡ b → same_truth a b ≡ true
is-same_truth true true h = refl
is-same_truth false false h = refl
is-same_truth true false h = cc
is-same_truth false true h = cc

-- all these clauses hold
abbrev pub all_hold : (ℕ → Bool) → List (List Literal) → Bool
all_hold w cs = list_all (clause_holds w) cs

-- a literal's sign is read alike in clauses and in trees
pub agree-is : (s b : Bool) → agree s b ≡ under_sign s b
agree-is true b = refl
agree-is false b = refl

module _ (w : ℕ → Bool) where
  pub opposite-true : (l : Literal) → holds w (opposite l) ≡ not (holds w l)
  opposite-true l = by_sign l.positive (w l.variable)
    where
      by_sign : (s b : Bool) → agree (not s) b ≡ not (agree s b)
      by_sign true true = refl
      by_sign true false = refl
      by_sign false true = refl
      by_sign false false = refl

  pub hold-append : (cs ds : List (List Literal)) → all_hold w (cs ++ ds) ≡ (all_hold w cs && all_hold w ds)
  hold-append cs ds = list_all-append (clause_holds w) cs ds

  opposites : (cs : List Literal) → clause_holds w (map opposite cs) ≡ not (list_all (holds w) cs)
  opposites [] = refl
  opposites (c ∷ cs) = rw (opposite-true c, opposites cs) (by_tests (holds w c) (list_all (holds w) cs))
    where
      by_tests : (a b : Bool) → (not a || not b) ≡ not (a && b)
      by_tests true b = refl
      by_tests false b = refl

  -- each clause (not l, c)
  downs : (l : Literal) (cs : List Literal) → all_hold w (map (λ c. opposite l ∷ c ∷ []) cs) ≡ (not (holds w l) || list_all (holds w) cs)
  downs l [] = by_test (holds w l)
    where
      by_test : (a : Bool) → true ≡ (not a || true)
      by_test true = refl
      by_test false = refl
  downs l (c ∷ cs) = rw (opposite-true l, downs l cs) (by_tests (holds w l) (holds w c) (list_all (holds w) cs))
    where
      by_tests : (a b r : Bool) → ((not a || (b || false)) && (not a || r)) ≡ (not a || (b && r))
      by_tests true true r = refl
      by_tests true false r = refl
      by_tests false b r = refl

  -- each clause (l, not c)
  ups : (l : Literal) (cs : List Literal) → all_hold w (map (λ c. l ∷ opposite c ∷ []) cs) ≡ (holds w l || not (list_any (holds w) cs))
  ups l [] = by_test (holds w l)
    where
      by_test : (a : Bool) → true ≡ (a || true)
      by_test true = refl
      by_test false = refl
  ups l (c ∷ cs) = rw (opposite-true c, ups l cs) (by_tests (holds w l) (holds w c) (list_any (holds w) cs))
    where
      by_tests : (a b r : Bool) → ((a || (not b || false)) && (a || not r)) ≡ (a || not (b || r))
      by_tests true b r = refl
      by_tests false true r = refl
      by_tests false false r = refl

  pub and-hold : (l : Literal) (cs : List Literal) → all_hold w (and_clauses l cs) ≡ same_truth (holds w l) (list_all (holds w) cs)
  and-hold l cs = hold-append (map (λ c. opposite l ∷ c ∷ []) cs) ((l ∷ map opposite cs) ∷ []) ∙ (rw (downs l cs, opposites cs) (by_tests (holds w l) (list_all (holds w) cs)))
    where
      by_tests : (a b : Bool) → ((not a || b) && ((a || not b) && true)) ≡ same_truth a b
      by_tests true true = refl
      by_tests true false = refl
      by_tests false true = refl
      by_tests false false = refl

  pub or-hold : (l : Literal) (cs : List Literal) → all_hold w (or_clauses l cs) ≡ same_truth (holds w l) (list_any (holds w) cs)
  or-hold l cs = rw (opposite-true l, ups l cs) (by_tests (holds w l) (list_any (holds w) cs))
    where
      by_tests : (a b : Bool) → ((not a || b) && (a || not b)) ≡ same_truth a b
      by_tests true true = refl
      by_tests true false = refl
      by_tests false true = refl
      by_tests false false = refl
