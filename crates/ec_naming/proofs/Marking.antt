-- Marks find the literals that are kept, and opposite ones.
use Rattle.std.proofs.Common.{◌≡◌, ◌≢◌, ℕ, zero, suc, ◌+◌, ◌<◌, Bool, true, false, ◌||◌, ◌==◌, List, [], ◌∷◌, length, get_or, set, replicate, refl, ap, ◌∙◌, arith, Option, Some, None}
use Rattle.std.proofs.lemmas.Bool.Decides.{nat_tests}
use Rattle.std.specs.List.{list_any}
use Rattle.std.proofs.lemmas.List.{get_or-set_other, length-replicate}
use Rattle.std.proofs.Math.ListN.{length-set}
use Rattle.ec_clause.specs.Literal.{Literal}
use Rattle.ec_clause.specs.Truth.{Truth, literal_value}
use Rattle.ec_naming.specs.Marks.{blank, mark_step, marks_after, unmarked}

-- ---- the marks are taken away again

all_none : (p : Truth) → ((i : ℕ) → i < length p → get_or p i None ≡ None) → p ≡ replicate (length p) None
all_none [] h = refl
all_none (o ∷ p) h = ap (λ (x : Option Bool). x ∷ p) (h 0 (omega arith)) ∙ ap (λ (q : Truth). None ∷ q) (all_none p (λ i lt. h (suc i) (omega (arith, lt))))

length-unmarked : (p : Truth) (ls : List Literal) → length (unmarked p ls) ≡ length p
length-unmarked p [] = refl
length-unmarked p (l ∷ ls) = length-unmarked (set p l.variable None) ls ∙ length-set p l.variable None

pub length-marks_after : (p : Truth) (ls : List Literal) → length (marks_after p ls) ≡ length p
length-marks_after p [] = refl
length-marks_after p (l ∷ ls) = length-marks_after (mark_step (literal_value p l) l p) ls ∙ by_value (literal_value p l)
  where
    by_value : (o : Option Bool) → length (mark_step o l p) ≡ length p
    by_value None = length-set p l.variable (Some l.positive)
    by_value (Some b) = refl

set_none : (p : Truth) (v i : ℕ) → get_or p v None ≡ None → get_or (set p i None) v None ≡ None
set_none [] v i h = h
set_none (o ∷ p) zero zero h = refl
set_none (o ∷ p) zero (suc i) h = h
set_none (o ∷ p) (suc v) zero h = h
set_none (o ∷ p) (suc v) (suc i) h = set_none p v i h

set_here : (p : Truth) (v : ℕ) → get_or (set p v None) v None ≡ None
set_here [] v = refl
set_here (o ∷ p) zero = refl
set_here (o ∷ p) (suc v) = set_here p v

unmarked-none : (p : Truth) (ls : List Literal) (v : ℕ) → get_or p v None ≡ None → get_or (unmarked p ls) v None ≡ None
unmarked-none p [] v h = h
unmarked-none p (l ∷ ls) v h = unmarked-none (set p l.variable None) ls v (set_none p v l.variable h)

abbrev pub mentions : ℕ → List Literal → Bool
mentions v ls = list_any (λ (l : Literal). l.variable == v) ls

unmarked-mentioned : (p : Truth) (ls : List Literal) (v : ℕ) → mentions v ls ≡ true → get_or (unmarked p ls) v None ≡ None
unmarked-mentioned p [] v h = cc
unmarked-mentioned p (l ∷ ls) v h = cases (λ g. unmarked-mentioned (set p l.variable None) ls v g) (l.variable == v) refl h
  where
    cases : (mentions v ls ≡ true → get_or (unmarked (set p l.variable None) ls) v None ≡ None) → (b : Bool) → (l.variable == v) ≡ b → (b || mentions v ls) ≡ true → get_or (unmarked (set p l.variable None) ls) v None ≡ None
    cases ih true e h =
        let same_variable : l.variable ≡ v = grind (arith, nat_tests) in
        unmarked-none (set p l.variable None) ls v (rw same_variable (set_here p v))
    cases ih false e h = ih h

mark_step-other : (o : Option Bool) (l : Literal) (p : Truth) (v : ℕ) → (l.variable == v) ≡ false → get_or p v None ≡ None → get_or (mark_step o l p) v None ≡ None
mark_step-other (Some b) l p v e h = h
mark_step-other None l p v e h =
    let apart : v ≢ l.variable = λ f. absurd (let g : (l.variable == v) ≡ true = grind (arith, nat_tests) in cc) in
    get_or-set_other p l.variable v (Some l.positive) None apart ∙ h

marks_after-other : (p : Truth) (ls : List Literal) (v : ℕ) → mentions v ls ≡ false → get_or p v None ≡ None → get_or (marks_after p ls) v None ≡ None
marks_after-other p [] v e h = h
marks_after-other p (l ∷ ls) v e h = marks_after-other (mark_step (literal_value p l) l p) ls v (later (l.variable == v) e) (mark_step-other (literal_value p l) l p v (first (l.variable == v) e) h)
  where
    first : (b : Bool) → (b || mentions v ls) ≡ false → b ≡ false
    first true e = e
    first false e = refl

    later : (b : Bool) → (b || mentions v ls) ≡ false → mentions v ls ≡ false
    later true e = cc
    later false e = e

abbrev pub nothing : Option Bool
nothing = None

pub blank-none : (n v : ℕ) → get_or (blank n) v None ≡ None
blank-none n v = each (n + 1) v
  where
    each : (m v : ℕ) → get_or (replicate m nothing) v nothing ≡ nothing
    each zero v = refl
    each (suc m) zero = refl
    each (suc m) (suc v) = each m v

pub unmarked_marks : (n : ℕ) (ls : List Literal) → unmarked (marks_after (blank n) ls) ls ≡ blank n
unmarked_marks n ls =
    let p = marks_after (blank n) ls in
    let size : length (unmarked p ls) ≡ n + 1 = length-unmarked p ls ∙ length-marks_after (blank n) ls ∙ length-replicate (n + 1) None in
    all_none (unmarked p ls) (λ i h. by_test i (mentions i ls) refl) ∙ ap (λ (m : ℕ). replicate m None) size
  where
    by_test : (i : ℕ) (b : Bool) → mentions i ls ≡ b → get_or (unmarked (marks_after (blank n) ls) ls) i None ≡ None
    by_test i true e = unmarked-mentioned (marks_after (blank n) ls) ls i e
    by_test i false e = unmarked-none (marks_after (blank n) ls) ls i (marks_after-other (blank n) ls i e (blank-none n i))
