-- Completion statements and sentences with their groups worked out by hand.
use Rattle.std.proofs.Common.{◌≡◌, ℕ, ◌==◌, ◌||◌, Bool, codes, List, [], ◌∷◌, ◌++◌, Option, None, Some, Ok, Err, refl}
use Rattle.ec_syntax.specs.declared.book.Refusal.{Refusal}
use Rattle.ec_theory.specs.declared.sorted.Wanted.{Wanted}
use Rattle.ec_logic.specs.BuiltIn.{built_in_predicates}
use Rattle.ec_logic.specs.Valid.{symbol_names}
use Rattle.ec_logic.specs.Tree.{variable, term, no_terms, Formula, falsum, atom, equal, less, negation, all_of, any_of, implies, iff, for_all, exists, no_formulas, formula}
use Rattle.ec_split.specs.Groups.{Maker, effects, label, alone, Made, effect_group, groups_of}
use Rattle.ec_split.specs.Form.{no_clause, misplaced, clause_fault}
use Rattle.ec_split.specs.Split.{home, group_name}

-- the built-in predicates, then P, Q and R, numbered from 6
abbrev names : List (List ℕ)
names = symbol_names built_in_predicates ++ (codes "P" ∷ codes "Q" ∷ codes "R" ∷ [])

-- ---- completion statements

abbrev statement : ℕ → Option (List ℕ) → List ℕ → Wanted
statement line name predicate = record { file = codes "t.e"; line = line; label = name; predicate = predicate }

abbrev refused : ℕ → ℕ → List ℕ → Refusal
refused code line name = record { code = code; file = codes "t.e"; line = line; name = name }

abbrev made : Maker → List ℕ → Made
made maker predicates = record { maker = maker; predicates = predicates }

no-statement : groups_of names [] ≡ Ok (effect_group ∷ [])
no-statement = refl

-- completion A P / completion B P
two-labels : groups_of names (statement 2 (Some (codes "A")) (codes "P") ∷ statement 3 (Some (codes "B")) (codes "P") ∷ []) ≡ Err (refused 17 3 (codes "P"))
two-labels = refl

-- completion P / completion P P: the label P isn't the group of P alone
alone-then-label : groups_of names (statement 2 None (codes "P") ∷ statement 3 (Some (codes "P")) (codes "P") ∷ []) ≡ Err (refused 17 3 (codes "P"))
alone-then-label = refl

-- completion A P / completion P
label-then-alone : groups_of names (statement 2 (Some (codes "A")) (codes "P") ∷ statement 3 None (codes "P") ∷ []) ≡ Err (refused 17 3 (codes "P"))
label-then-alone = refl

-- completion A Initiates
effect-by-label : groups_of names (statement 1 (Some (codes "A")) (codes "Initiates") ∷ []) ≡ Err (refused 17 1 (codes "Initiates"))
effect-by-label = refl

-- completion S: no predicate
unknown : groups_of names (statement 1 None (codes "S") ∷ []) ≡ Err (refused 18 1 (codes "S"))
unknown = refl

-- the first fault counts, whichever it is
first-counts : groups_of names (statement 1 (Some (codes "A")) (codes "P") ∷ statement 2 (Some (codes "B")) (codes "P") ∷ statement 3 None (codes "S") ∷ []) ≡ Err (refused 17 2 (codes "P"))
first-counts = refl

-- completion A Q / completion P / completion A R / completion P / completion Releases / completion A Q
order : groups_of names (statement 1 (Some (codes "A")) (codes "Q") ∷ statement 2 None (codes "P") ∷ statement 3 (Some (codes "A")) (codes "R") ∷ statement 4 None (codes "P") ∷ statement 5 None (codes "Releases") ∷ statement 6 (Some (codes "A")) (codes "Q") ∷ [])
    ≡ Ok (effect_group ∷ made (label (codes "A")) (7 ∷ 8 ∷ []) ∷ made (alone 6) (6 ∷ []) ∷ [])
order = refl

alone-name : group_name names (alone 6) ≡ codes "P"
alone-name = refl

effect-name : group_name names effects ≡ codes "effect"
effect-name = refl

-- ---- the group of a sentence

-- the effect group, A with Q and R, and P alone
abbrev groups : List Made
groups = effect_group ∷ made (label (codes "A")) (7 ∷ 8 ∷ []) ∷ made (alone 6) (6 ∷ []) ∷ []

abbrev P : Formula
P = atom 6 no_terms

abbrev Q : Formula
Q = atom 7 no_terms

abbrev R : Formula
R = atom 8 no_terms

abbrev Happens : Formula
Happens = for_all 4 (for_all 2 (atom 2 (term (variable 1) (term (variable 0) no_terms))))

abbrev Initiates : Formula
Initiates = atom 3 no_terms

abbrev Releases : Formula
Releases = atom 5 no_terms

abbrev both : Formula → Formula → Formula
both f g = all_of (formula f (formula g no_formulas))

abbrev either : Formula → Formula → Formula
either f g = any_of (formula f (formula g no_formulas))

by-label : home groups (Some (codes "A")) (negation P) ≡ Some 1
by-label = refl

-- the label of a one-word completion is none: the heads decide
label-of-alone : home groups (Some (codes "P")) Q ≡ None
label-of-alone = refl

heads-of-alone : home groups (Some (codes "P")) (for_all 6 (implies Q P)) ≡ Some 2
heads-of-alone = refl

-- a predicate that is completed with a label draws no sentence by its heads
heads-of-label : home groups None Q ≡ None
heads-of-label = refl

effect-heads : home groups (Some (codes "B")) (for_all 2 (implies Happens (both Initiates Releases))) ≡ Some 0
effect-heads = refl

mixed-heads : home groups None (both Initiates P) ≡ None
mixed-heads = refl

effect-under-not : home groups None (negation Initiates) ≡ None
effect-under-not = refl

-- ---- the clause form, in the group of Q and R

abbrev group : ℕ → Bool
group p = (p == 7) || (p == 8)

fits : clause_fault group (for_all 6 (implies (exists 6 P) (both Q (implies (negation P) R)))) ≡ None
fits = refl

form-exists : clause_fault group (exists 6 Q) ≡ Some no_clause
form-exists = refl

form-or : clause_fault group (either Q R) ≡ Some no_clause
form-or = refl

form-not : clause_fault group (implies P (negation Q)) ≡ Some no_clause
form-not = refl

form-iff : clause_fault group (for_all 6 (iff Q P)) ≡ Some no_clause
form-iff = refl

form-equal : clause_fault group (implies P (equal (variable 0) (variable 0))) ≡ Some no_clause
form-equal = refl

form-less : clause_fault group (both Q (less (variable 0) (variable 0))) ≡ Some no_clause
form-less = refl

form-false : clause_fault group falsum ≡ Some no_clause
form-false = refl

head-outside : clause_fault group (both Q (for_all 6 P)) ≡ Some (misplaced 6)
head-outside = refl

body-at-top : clause_fault group (implies Q R) ≡ Some (misplaced 7)
body-at-top = refl

body-under-not : clause_fault group (implies (negation Q) R) ≡ Some (misplaced 7)
body-under-not = refl

body-deep : clause_fault group (implies (exists 6 (iff P (for_all 6 (either P (both P Q))))) R) ≡ Some (misplaced 7)
body-deep = refl

-- a body stands before its clause tree, and the first of several counts
body-first : clause_fault group (implies (either P (implies R Q)) (negation Q)) ≡ Some (misplaced 8)
body-first = refl

tree-after-body : clause_fault group (implies P (implies (negation P) P)) ≡ Some (misplaced 6)
tree-after-body = refl

left-before-right : clause_fault group (both (implies P P) (implies Q R)) ≡ Some (misplaced 6)
left-before-right = refl
