-- Small formulas and theories with their weights worked out by hand.
use Rattle.std.proofs.Common.{◌≡◌, true, false, codes, [], ◌∷◌, ◌++◌, None, Some, pos, refl}
use Rattle.ec_logic.specs.Tree.{sum, Term, variable, int, constant, event, fluent, no_terms, term, Formula, verum, atom, equal, less, negation, all_of, any_of, implies, iff, for_all, exists, no_formulas, formula}
use Rattle.ec_logic.specs.TreeList.{formulas_of}
use Rattle.ec_logic.specs.Signature.{Signature, plain, time_sort, holds_at, happens, initiates, terminates, releases, integer, integer_sort, event_sort}
use Rattle.ec_logic.specs.BuiltIn.{built_in_sorts, built_in_predicates, sort_row}
use Rattle.ec_logic.specs.Extent.{members, numbers}
use Rattle.ec_logic.specs.Universe.{Universe}
use Rattle.ec_logic.specs.Axiom.{dec_axioms, release_axioms}
use Rattle.ec_logic.specs.Theory.{Theory}
use Rattle.ec_logic.specs.Universe.{universe_of}
use Rattle.ec_weight.specs.Weight.{weight, weights, clause_weight, weight_of}

-- ---- formulas, where sort 0 has no value, sort 1 three and sort 2 two thousand

abbrev over : Universe
over = record { extents = members 0 (λ k. false) ∷ members 3 (λ k. true) ∷ numbers (pos 1) 2000 ∷ []; events = []; fluents = []; predicates = [] ∷ [] ∷ [] ∷ [] }

abbrev P : Formula
P = atom 0 no_terms

abbrev Q : Formula
Q = atom 1 no_terms

abbrev R : Formula
R = atom 2 no_terms

-- 1 + 2 * (1 + 1)
sides-twice : weight over (iff P Q) ≡ 5
sides-twice = refl

-- P <-> Q <-> !R, grouped to the left: 1 + 2 * (5 + 2)
grouped-left : weight over (iff (iff P Q) (negation R)) ≡ 15
grouped-left = refl

-- grouped to the right: 1 + 2 * (1 + (1 + 2 * (1 + 2)))
grouped-right : weight over (iff P (iff Q (negation R))) ≡ 17
grouped-right = refl

-- 1 + (1 + 1 + (1 + (1 + 1)) + 1)
parts-together : weight over (all_of (formula P (formula verum (formula (any_of (formula Q (formula R no_formulas))) (formula (equal (variable 0) (int (pos 1))) no_formulas))))) ≡ 7
parts-together = refl

-- no part
no-part : weight over (any_of no_formulas) ≡ 1
no-part = refl

-- 1 + (1 + 2)
condition : weight over (implies P (negation Q)) ≡ 4
condition = refl

-- 1 + 3 * (1 + 3 * (1 + 1 + 1))
nested : weight over (for_all 1 (exists 1 (implies P (less (variable 0) (variable 1))))) ≡ 31
nested = refl

-- over no value: 1 + 0 * 3
empty : weight over (exists 0 (implies P Q)) ≡ 1
empty = refl

-- for all of two thousand, for all of two thousand, P -> Q: 1 + 2000 * (1 + 2000 * 3)
large : weight over (for_all 2 (for_all 2 (implies P Q))) ≡ 12002001
large = refl

-- ---- clause trees

-- for all of three, A -> H & K: the body is copied to two heads: 1 + 3 * (1 + 2 * 1 + (1 + 1 + 1))
body-for-each-head : clause_weight over (for_all 1 (implies P (all_of (formula Q (formula R no_formulas))))) ≡ 19
body-for-each-head = refl

-- elsewhere the body weighs once: 1 + 3 * (1 + 1 + (1 + 1 + 1))
body-once-elsewhere : weight over (for_all 1 (implies P (all_of (formula Q (formula R no_formulas))))) ≡ 16
body-once-elsewhere = refl

-- !P -> for all of three, Q: the body is copied to three instances: 1 + 3 * 2 + (1 + 3 * 1)
body-for-each-instance : clause_weight over (implies (negation P) (for_all 1 Q)) ≡ 11
body-for-each-instance = refl

-- P -> !P -> Q & for all of three, R: the heads have four instances, and the and weighs 1 + 1 + (1 + 3): 1 + 4 * 1 + (1 + 4 * 2 + 6)
body-above-body : clause_weight over (implies P (implies (negation P) (all_of (formula Q (formula (for_all 1 R) no_formulas))))) ≡ 20
body-above-body = refl

-- a body weighs as a formula, whatever its form: 1 + 2 * (1 + 1 + (1 + 1 + 1)) + (1 + 1 + 1)
body-as-formula : clause_weight over (implies (implies P (all_of (formula Q (formula R no_formulas)))) (all_of (formula Q (formula R no_formulas)))) ≡ 14
body-as-formula = refl

-- over no value a body is copied nowhere: 1 + 0 * 2 + (1 + 0 * 1)
body-for-no-head : clause_weight over (implies (negation P) (for_all 0 Q)) ≡ 2
body-for-no-head = refl

-- ---- theories

-- an agent James, the times 0 and 1, the fluent Awake(agent) and the event WakeUp(agent)
abbrev wake_signature : Signature
wake_signature = record {
  sorts = built_in_sorts None (Some (pos 0, pos 1)) (Some (pos 1, pos 1)) ++ sort_row (codes "agent") plain None None ∷ [];
  constants = record { name = codes "James"; sort = 6 } ∷ [];
  events = record { name = codes "WakeUp"; sorts = 6 ∷ []; noninertial = false } ∷ [];
  fluents = record { name = codes "Awake"; sorts = 6 ∷ []; noninertial = false } ∷ [];
  predicates = built_in_predicates;
  manual_release = false;
  time_diff = true;
}

-- [agent,time] Initiates(WakeUp(agent),Awake(agent),time). / !HoldsAt(Awake(James),0). / Happens(WakeUp(James),0), with Happens in a group
abbrev wake : Theory
wake = record {
  signature = wake_signature;
  remaining = negation (atom holds_at (term (fluent 0 (term (constant 0) no_terms)) (term (int (pos 0)) no_terms))) ∷ [];
  groups = record {
    predicates = initiates ∷ terminates ∷ releases ∷ [];
    sentences = for_all 6 (for_all time_sort (atom initiates (term (event 0 (term (variable 1) no_terms)) (term (fluent 0 (term (variable 1) no_terms)) (term (variable 0) no_terms))))) ∷ [];
  } ∷ record {
    predicates = happens ∷ [];
    sentences = atom happens (term (event 0 (term (constant 0) no_terms)) (term (int (pos 0)) no_terms)) ∷ [];
  } ∷ [];
}

-- over one event, one fluent and two times: 24 + 28 + 24 + 24 + 13 + 15 + 13 + 19
wake-dec : weights (universe_of wake_signature) (formulas_of dec_axioms) ≡ 160
wake-dec = refl

-- for all agents, not released at 0: 1 + 1 * 2
wake-release : weights (universe_of wake_signature) (formulas_of (release_axioms wake_signature)) ≡ 3
wake-release = refl

-- 2 of the remaining sentence, 1 + 1 * (1 + 2 * 1) and 1 of the groups, 160 and 3 of the axioms
wake-whole : weight_of wake ≡ 170
wake-whole = refl

-- two steps that are done in order, over the times from 0 to 3: the fluent Done(step) and the event Do(step)
abbrev steps_signature : Signature
steps_signature = record {
  sorts = built_in_sorts None (Some (pos 0, pos 3)) None ++ sort_row (codes "step") integer (Some integer_sort) (Some (pos 1, pos 2)) ∷ [];
  constants = [];
  events = record { name = codes "Do"; sorts = 6 ∷ []; noninertial = false } ∷ [];
  fluents = record { name = codes "Done"; sorts = 6 ∷ []; noninertial = false } ∷ [];
  predicates = built_in_predicates;
  manual_release = false;
  time_diff = false;
}

abbrev done_at : Term → Term → Formula
done_at step time = atom holds_at (term (fluent 0 (term step no_terms)) (term time no_terms))

abbrev do_at : Term → Term → Formula
do_at step time = atom happens (term (event 0 (term step no_terms)) (term time no_terms))

abbrev happens_at : Term → Term → Formula
happens_at some time = atom happens (term some (term time no_terms))

-- Doing a step gets it done. None is done at 0, none is done twice or before the one before it, one is done at a time, and all are done at 3.
abbrev steps : Theory
steps = record {
  signature = steps_signature;
  remaining =
      for_all 6 (negation (done_at (variable 0) (int (pos 0))))
      ∷ for_all 6 (for_all time_sort (implies (do_at (variable 1) (variable 0)) (negation (done_at (variable 1) (variable 0)))))
      ∷ for_all 6 (for_all time_sort (implies (do_at (sum (variable 1) (int (pos 1))) (variable 0)) (done_at (variable 1) (variable 0))))
      ∷ for_all event_sort (for_all event_sort (for_all time_sort (implies (all_of (formula (happens_at (variable 2) (variable 0)) (formula (happens_at (variable 1) (variable 0)) no_formulas))) (equal (variable 2) (variable 1)))))
      ∷ for_all 6 (done_at (variable 0) (int (pos 3)))
      ∷ [];
  groups = record {
    predicates = initiates ∷ terminates ∷ releases ∷ [];
    sentences = for_all 6 (for_all time_sort (atom initiates (term (event 0 (term (variable 1) no_terms)) (term (fluent 0 (term (variable 1) no_terms)) (term (variable 0) no_terms))))) ∷ [];
  } ∷ [];
}

-- over two events, two fluents and four times: 115 + 131 + 131 + 115 + 87 + 103 + 87 + 135
steps-dec : weights (universe_of steps_signature) (formulas_of dec_axioms) ≡ 904
steps-dec = refl

-- 5 + 35 + 27 + 87 + 3 of the remaining sentences, 11 of the group, 904 and 1 + 2 * 2 of the axioms
steps-whole : weight_of steps ≡ 1077
steps-whole = refl
