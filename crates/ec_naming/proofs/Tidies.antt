-- Tidying changes no truth.
use Rattle.std.proofs.Common.{◌≡◌, ℕ, Bool, true, false, not, ◌&&◌, ◌||◌, List, [], ◌∷◌, map, refl, sym, ap, ◌∙◌, arith, ◌==◌, filter, if◌then◌else◌}
use Rattle.std.proofs.lemmas.Bool.Decides.{nat_tests}
use Rattle.std.specs.List.{list_any}
use Rattle.ec_clause.specs.Literal.{Literal, opposite}
use Rattle.ec_clause.specs.Step.{holds, clause_holds}
use Rattle.ec_naming.specs.Tidy.{same_sign, same, distinct, has_opposites, tidied}
use Rattle.ec_naming.proofs.Gates.{all_hold, opposite-true}

pub same-variable : (k l : Literal) → same k l ≡ true → k.variable ≡ l.variable
same-variable k l h = by_test (k.variable == l.variable) refl
  where
    by_test : (b : Bool) → (k.variable == l.variable) ≡ b → k.variable ≡ l.variable
    by_test true e = grind (arith, nat_tests)
    by_test false e = cc

same-positive : (k l : Literal) → same k l ≡ true → k.positive ≡ l.positive
same-positive k l h = by_tests (k.variable == l.variable) k.positive l.positive h
  where
    by_tests : (b s t : Bool) → (b && same_sign s t) ≡ true → s ≡ t
    by_tests b true true e = refl
    by_tests b false false e = refl
    by_tests true true false e = cc
    by_tests true false true e = cc
    by_tests false true false e = cc
    by_tests false false true e = cc

pub same-is : (k l : Literal) → same k l ≡ true → k ≡ l
same-is k l h = ap (λ (n : ℕ). literal_with n k.positive) (same-variable k l h) ∙ ap (literal_with l.variable) (same-positive k l h)
  where
    literal_with : ℕ → Bool → Literal
    literal_with n s = record { variable = n; positive = s }

or-middle : (a b r : Bool) → (a || (b || r)) ≡ (b || (a || r))
or-middle true true r = refl
or-middle true false r = refl
or-middle false b r = refl

or-idle : (a r : Bool) → (a || (a || r)) ≡ (a || r)
or-idle true r = refl
or-idle false r = refl

module _ (w : ℕ → Bool) where
  without : (l : Literal) (ds : List Literal) → (holds w l || clause_holds w (filter (λ k. not (same k l)) ds)) ≡ (holds w l || clause_holds w ds)
  without l [] = refl
  without l (k ∷ ds) = cases (without l ds) (same k l) refl
    where
      cases : (holds w l || clause_holds w (filter (λ k. not (same k l)) ds)) ≡ (holds w l || clause_holds w ds) → (b : Bool) → same k l ≡ b → (holds w l || clause_holds w (if not b then k ∷ filter (λ k. not (same k l)) ds else filter (λ k. not (same k l)) ds)) ≡ (holds w l || (holds w k || clause_holds w ds))
      cases ih true e = ih ∙ sym (ap (λ (x : Literal). holds w l || (holds w x || clause_holds w ds)) (same-is k l e) ∙ or-idle (holds w l) (clause_holds w ds))
      cases ih false e = or-middle (holds w l) (holds w k) (clause_holds w (filter (λ k. not (same k l)) ds)) ∙ ap (λ b. holds w k || b) ih ∙ or-middle (holds w k) (holds w l) (clause_holds w ds)

  pub distinct-true : (c : List Literal) → clause_holds w (distinct c) ≡ clause_holds w c
  distinct-true [] = refl
  distinct-true (l ∷ ls) = without l (distinct ls) ∙ ap (λ b. holds w l || b) (distinct-true ls)

  found : (k : Literal) (ls : List Literal) → list_any (same k) ls ≡ true → holds w k ≡ true → clause_holds w ls ≡ true
  found k [] h t = cc
  found k (l ∷ ls) h t = cases (λ g. found k ls g t) (same k l) refl
    where
      or-right : (b : Bool) → (b || true) ≡ true
      or-right true = refl
      or-right false = refl

      after : (b : Bool) → b ≡ false → (b || list_any (same k) ls) ≡ true → list_any (same k) ls ≡ true
      after true e h = cc
      after false e h = h

      cases : (list_any (same k) ls ≡ true → clause_holds w ls ≡ true) → (b : Bool) → same k l ≡ b → clause_holds w (l ∷ ls) ≡ true
      cases ih true e = let same_truth = sym (ap (holds w) (same-is k l e)) ∙ t in rw same_truth refl
      cases ih false e = rw (ih (after (same k l) e h)) (or-right (holds w l))

  pub opposites-true : (ls : List Literal) → has_opposites ls ≡ true → clause_holds w ls ≡ true
  opposites-true [] h = cc
  opposites-true (l ∷ ls) h = cases (λ g. opposites-true ls g) (list_any (same (opposite l)) ls) refl (holds w l) refl
    where
      after : (b : Bool) → b ≡ false → (b || has_opposites ls) ≡ true → has_opposites ls ≡ true
      after true e h = cc
      after false e h = h

      cases : (has_opposites ls ≡ true → clause_holds w ls ≡ true) → (b : Bool) → list_any (same (opposite l)) ls ≡ b → (t : Bool) → holds w l ≡ t → clause_holds w (l ∷ ls) ≡ true
      cases ih b e true f = rw f refl
      cases ih true e false f = rw f (found (opposite l) ls e (opposite-true w l ∙ ap not f))
      cases ih false e false f = rw f (ih (after (list_any (same (opposite l)) ls) e h))

  pub tidied-hold : (cs : List (List Literal)) → all_hold w (tidied cs) ≡ all_hold w cs
  tidied-hold [] = refl
  tidied-hold (c ∷ cs) = cases (tidied-hold cs) (has_opposites c) refl
    where
      cases : all_hold w (tidied cs) ≡ all_hold w cs → (b : Bool) → has_opposites c ≡ b → all_hold w (map distinct (if not b then c ∷ filter (λ c. not (has_opposites c)) cs else filter (λ c. not (has_opposites c)) cs)) ≡ (clause_holds w c && all_hold w cs)
      cases ih true e = rw (opposites-true c e) ih
      cases ih false e = rw (distinct-true c, ih) refl
