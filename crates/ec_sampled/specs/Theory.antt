-- The theory of the sample of n steps: what its statements come to, number by number.
use Rattle.std.specs.Prelude.{ℕ, ◌+◌, pos, true, false, codes, List, [], ◌∷◌, ◌++◌, Some, None}
use Rattle.ec_logic.specs.BuiltIn.{built_in_predicates, built_in_sorts, sort_row}
use Rattle.ec_logic.specs.Signature.{Signature, SymbolRow, integer, integer_sort, time_sort, event_sort, holds_at, initiates}
use Rattle.ec_logic.specs.Signature as signature
use Rattle.ec_logic.specs.Theory.{Theory}
use Rattle.ec_logic.specs.Tree.{Term, Terms, no_terms, term, variable, int, event, fluent, sum, Formula, atom, equal, negation, all_of, implies, for_all, formula, no_formulas}
use Rattle.ec_logic.specs.ValidTheory.{effect_predicates}

-- ---- what is declared

-- the number of the sort of steps, the first behind the built-in ones
abbrev pub step_sort : ℕ
step_sort = 6

-- a symbol with a step for its argument
abbrev pub of_a_step : List ℕ → SymbolRow
of_a_step name = record { name = name; sorts = step_sort ∷ []; noninertial = false }

-- steps from 1 to n, times from 0 to n + 1, the event Do and the fluent Done
abbrev pub sample_signature : ℕ → Signature
sample_signature n = record {
  sorts = built_in_sorts None (Some (pos 0, pos (n + 1))) None ++ sort_row (codes "step") integer (Some integer_sort) (Some (pos 1, pos n)) ∷ [];
  constants = [];
  events = of_a_step (codes "Do") ∷ [];
  fluents = of_a_step (codes "Done") ∷ [];
  predicates = built_in_predicates;
  manual_release = false;
  time_diff = true;
}

-- ---- terms and atoms

abbrev pub one : Term → Terms
one t = term t no_terms

-- the event of a step, and the fluent
abbrev pub do_of : Term → Term
do_of s = event 0 (one s)

abbrev pub done_of : Term → Term
done_of s = fluent 0 (one s)

-- an event happens at a time
abbrev pub happens_at : Term → Term → Formula
happens_at e t = atom signature.happens (term e (one t))

-- a step is done at a time
abbrev pub done_at : Term → Term → Formula
done_at s t = atom holds_at (term (done_of s) (one t))

-- within a formula for each step at each time, the step and the time
abbrev pub this_step : Term
this_step = variable 1

abbrev pub this_time : Term
this_time = variable 0

abbrev pub each_step : Formula → Formula
each_step f = for_all step_sort f

abbrev pub each_step_and_time : Formula → Formula
each_step_and_time f = for_all step_sort (for_all time_sort f)

-- ---- sentences

-- to do a step has it done
abbrev pub effect : Formula
effect = each_step_and_time (atom initiates (term (do_of this_step) (term (done_of this_step) (one this_time))))

-- at first no step is done
abbrev pub start : Formula
start = each_step (negation (done_at (variable 0) (int (pos 0))))

-- no step is done twice
abbrev pub once : Formula
once = each_step_and_time (implies (happens_at (do_of this_step) this_time) (negation (done_at this_step this_time)))

-- a step is done after the one before it
abbrev pub order : Formula
order = each_step_and_time (implies (happens_at (do_of (sum this_step (int (pos 1)))) this_time) (done_at this_step this_time))

-- one step at a time
abbrev pub single : Formula
single =
    for_all event_sort (for_all event_sort (for_all time_sort
    (implies (all_of (formula (happens_at (variable 2) (variable 0)) (formula (happens_at (variable 1) (variable 0)) no_formulas))) (equal (variable 2) (variable 1)))))

-- in the end all steps are done
abbrev pub end : ℕ → Formula
end n = each_step (done_at (variable 0) (int (pos (n + 1))))

-- ---- the theory

abbrev pub remaining : ℕ → List Formula
remaining n = start ∷ once ∷ order ∷ single ∷ end n ∷ []

-- the effect group alone, since no predicate is completed
abbrev pub sample_theory : ℕ → Theory
sample_theory n = record { signature = sample_signature n; remaining = remaining n; groups = record { predicates = effect_predicates; sentences = effect ∷ [] } ∷ [] }
