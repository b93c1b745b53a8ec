-- Small theories with their trees worked out by hand.
use Rattle.std.proofs.Common.{◌≡◌, ℕ, true, false, codes, List, [], ◌∷◌, ◌++◌, None, Some, pos, refl}
use Rattle.ec_logic.specs.Tree.{variable, int, constant, event, fluent, no_terms, term, Formula, atom, negation, all_of, implies, iff, for_all, exists, no_formulas, formula}
use Rattle.ec_logic.specs.Signature.{Signature, plain, integer, integer_sort, time_sort, holds_at, happens, initiates, terminates, releases}
use Rattle.ec_logic.specs.BuiltIn.{built_in_sorts, built_in_predicates, predicate_row, sort_row}
use Rattle.ec_logic.specs.Universe.{Universe, universe_of}
use Rattle.ec_logic.specs.Theory.{Theory}
use Rattle.ec_folding.specs.Tree.{Tree, always, never, literal, as_trees, all_of as and_tree, any_of as or_tree}
use Rattle.ec_grounding.specs.Folded.{folded}
use Rattle.ec_grounding.specs.Grounded.{read_by_number, sentence_trees, variables, definitions}

abbrev either : List Tree → Tree
either ts = or_tree (as_trees ts)

abbrev both : List Tree → Tree
both ts = and_tree (as_trees ts)

-- ---- an agent wakes up

-- an agent James, the times 0 and 1, the fluent Awake(agent) and the event WakeUp(agent)
abbrev wake_signature : Signature
wake_signature = record {
  sorts = built_in_sorts None (Some (pos 0, pos 1)) (Some (pos 1, pos 1)) ++ sort_row (codes "agent") plain None None ∷ [];
  constants = record { name = codes "James"; sort = 6 } ∷ [];
  events = record { name = codes "WakeUp"; sorts = 6 ∷ []; noninertial = false } ∷ [];
  fluents = record { name = codes "Awake"; sorts = 6 ∷ []; noninertial = false } ∷ [];
  predicates = built_in_predicates;
  manual_release = false;
  time_diff = true;
}

-- [agent,time] Initiates(WakeUp(agent),Awake(agent),time). / !HoldsAt(Awake(James),0). / Happens(WakeUp(James),0), with Happens in a group
abbrev wake : Theory
wake = record {
  signature = wake_signature;
  remaining = negation (atom holds_at (term (fluent 0 (term (constant 0) no_terms)) (term (int (pos 0)) no_terms))) ∷ [];
  groups = record {
    predicates = initiates ∷ terminates ∷ releases ∷ [];
    sentences = for_all 6 (for_all time_sort (atom initiates (term (event 0 (term (variable 1) no_terms)) (term (fluent 0 (term (variable 1) no_terms)) (term (variable 0) no_terms))))) ∷ [];
  } ∷ record {
    predicates = happens ∷ [];
    sentences = atom happens (term (event 0 (term (constant 0) no_terms)) (term (int (pos 0)) no_terms)) ∷ [];
  } ∷ [];
}

-- HoldsAt at 0 and 1, ReleasedAt at 0 and 1, Happens at 0 and 1; each effect atom is a constant
wake-variables : variables wake ≡ 0 ∷ 1 ∷ 2 ∷ 3 ∷ 4 ∷ 5 ∷ []
wake-variables = refl

-- the sentence, DEC5 to DEC12 at time 0 alone, since the last time has no next one, and the release axiom
wake-sentences :
    sentence_trees wake
    ≡ literal 0 false
    ∷ either (literal 0 false ∷ literal 3 true ∷ literal 1 true ∷ [])
    ∷ either (literal 0 true ∷ literal 3 true ∷ literal 4 true ∷ literal 1 false ∷ [])
    ∷ either (literal 2 false ∷ literal 4 true ∷ literal 3 true ∷ [])
    ∷ either (literal 2 true ∷ literal 3 false ∷ [])
    ∷ either (literal 4 false ∷ literal 1 true ∷ [])
    ∷ always
    ∷ always
    ∷ either (literal 4 false ∷ literal 3 false ∷ [])
    ∷ literal 2 false
    ∷ []
wake-sentences = refl

-- the event happens at 0, and not at 1
wake-definitions : definitions wake ≡ record { atom = 4; scope = always } ∷ record { atom = 5; scope = never } ∷ []
wake-definitions = refl

-- ---- trees of a group's atoms

-- the predicates A(n) and B(n) over the numbers 1 and 2
abbrev pair_signature : Signature
pair_signature = record {
  sorts = built_in_sorts None None None ++ sort_row (codes "n") integer (Some integer_sort) (Some (pos 1, pos 2)) ∷ [];
  constants = [];
  events = [];
  fluents = [];
  predicates = built_in_predicates ++ predicate_row (codes "A") (6 ∷ []) ∷ predicate_row (codes "B") (6 ∷ []) ∷ [];
  manual_release = false;
  time_diff = false;
}

abbrev A : ℕ → Formula
A n = atom 6 (term (int (pos n)) no_terms)

abbrev B : ℕ → Formula
B n = atom 7 (term (int (pos n)) no_terms)

-- [n] A(n) -> B(1) & B(n). / A(1) & !A(2) -> B(2)., with B in a group
abbrev pair : Theory
pair = record {
  signature = pair_signature;
  remaining = [];
  groups = record { predicates = initiates ∷ terminates ∷ releases ∷ []; sentences = [] } ∷ record {
    predicates = 7 ∷ [];
    sentences =
        for_all 6 (implies (atom 6 (term (variable 0) no_terms)) (all_of (formula (B 1) (formula (atom 7 (term (variable 0) no_terms)) no_formulas))))
        ∷ implies (all_of (formula (A 1) (formula (negation (A 2)) no_formulas))) (B 2)
        ∷ [];
  } ∷ [];
}

-- Of B(1) the first path's instances at 1 and 2, then the second path's at 1; of B(2) the second path's instance at 2, then the other sentence.
pair-definitions :
    definitions pair
    ≡ record { atom = 2; scope = either (literal 0 true ∷ literal 1 true ∷ literal 0 true ∷ []) }
    ∷ record { atom = 3; scope = either (literal 1 true ∷ both (literal 0 true ∷ literal 1 false ∷ []) ∷ []) }
    ∷ []
pair-definitions = refl

-- ---- folds under both signs

abbrev over : Universe
over = universe_of pair_signature

-- A(1) <-> B(2)
iff-true : folded over (read_by_number over) [] true (iff (A 1) (B 2)) ≡ both (either (literal 0 false ∷ literal 3 true ∷ []) ∷ either (literal 0 true ∷ literal 3 false ∷ []) ∷ [])
iff-true = refl

iff-false : folded over (read_by_number over) [] false (iff (A 1) (B 2)) ≡ both (either (literal 0 true ∷ literal 3 true ∷ []) ∷ either (literal 0 false ∷ literal 3 false ∷ []) ∷ [])
iff-false = refl

-- A(1) -> B(2)
implies-true : folded over (read_by_number over) [] true (implies (A 1) (B 2)) ≡ either (literal 0 false ∷ literal 3 true ∷ [])
implies-true = refl

implies-false : folded over (read_by_number over) [] false (implies (A 1) (B 2)) ≡ both (literal 0 true ∷ literal 3 false ∷ [])
implies-false = refl

-- that not all n have A or B: a part for each value, in order
for-all-false : folded over (read_by_number over) [] false (for_all 6 (implies (negation (atom 6 (term (variable 0) no_terms))) (atom 7 (term (variable 0) no_terms)))) ≡ either (both (literal 0 false ∷ literal 2 false ∷ []) ∷ both (literal 1 false ∷ literal 3 false ∷ []) ∷ [])
for-all-false = refl

-- there is an n with A: an Or of two literals
exists-true : folded over (read_by_number over) [] true (exists 6 (atom 6 (term (variable 0) no_terms))) ≡ either (literal 0 true ∷ literal 1 true ∷ [])
exists-true = refl

-- over no event: False
exists-none : folded over (read_by_number over) [] true (exists 4 (A 1)) ≡ never
exists-none = refl

-- an atom outside the domains is False
outside : folded over (read_by_number over) [] true (A 3) ≡ never
outside = refl
