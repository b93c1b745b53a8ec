-- What the sample of n steps says, statement by statement, and the book that it is.
use Rattle.std.specs.Prelude.{ℕ, ◌+◌, pos, codes, List, [], ◌∷◌, map, Some, None}
use Rattle.ec_syntax.specs.declared.tree.Op.TheVariants as op
use Rattle.ec_syntax.specs.Written.{Term, Terms, no_terms, Formula, Formulas, no_formulas, Content, Shape, Statement, Book}
use Rattle.ec_syntax.specs.Written as w
use Rattle.ec_load.specs.Book.{placed_at}

-- ---- words

abbrev pub step : List ℕ
step = codes "step"

abbrev pub time : List ℕ
time = codes "time"

abbrev pub first_event : List ℕ
first_event = codes "event1"

abbrev pub second_event : List ℕ
second_event = codes "event2"

-- ---- terms

abbrev pub the_step : Term
the_step = w.variable step

abbrev pub the_time : Term
the_time = w.variable time

-- `Do` or `Done`, of a step
abbrev pub do_of : Term → Term
do_of s = w.name (codes "Do") (w.term s no_terms)

abbrev pub done_of : Term → Term
done_of s = w.name (codes "Done") (w.term s no_terms)

-- ---- atoms

abbrev pub happens : Term → Formula
happens event = w.atom (codes "Happens") (w.term event (w.term the_time no_terms))

-- the step is done at this time
abbrev pub done_at : Term → Formula
done_at t = w.atom (codes "HoldsAt") (w.term (done_of the_step) (w.term t no_terms))

-- a formula for each step, and for each step at each time
abbrev pub each_step : Formula → Formula
each_step f = w.for_all (step ∷ []) f

abbrev pub each_step_and_time : Formula → Formula
each_step_and_time f = w.for_all (step ∷ time ∷ []) f

-- ---- what is declared

abbrev pub sort_said : Content
sort_said = w.sorts (record { name = step; parent = Some (codes "integer") } ∷ [])

abbrev pub steps_said : ℕ → Content
steps_said n = w.range step (pos 1) (pos n)

abbrev pub times_said : ℕ → Content
times_said n = w.range time (pos 0) (pos (n + 1))

-- a symbol with a step for its argument
abbrev pub of_a_step : List ℕ → Shape
of_a_step name = record { name = name; sorts = step ∷ [] }

abbrev pub fluent_said : Content
fluent_said = w.fluents (of_a_step (codes "Done") ∷ [])

abbrev pub event_said : Content
event_said = w.events (of_a_step (codes "Do") ∷ [])

-- ---- what is said of it

-- to do a step has it done
abbrev pub effect : Formula
effect = each_step_and_time (w.atom (codes "Initiates") (w.term (do_of the_step) (w.term (done_of the_step) (w.term the_time no_terms))))

-- at first no step is done
abbrev pub start : Formula
start = each_step (w.not (done_at (w.number 0)))

-- no step is done twice
abbrev pub once : Formula
once = each_step_and_time (w.implies (happens (do_of the_step)) (w.not (done_at the_time)))

-- a step is done after the one before it
abbrev pub order : Formula
order = each_step_and_time (w.implies (happens (do_of (w.sum the_step (w.number 1)))) (done_at the_time))

-- one step at a time
abbrev pub single : Formula
single =
    w.for_all (first_event ∷ second_event ∷ time ∷ [])
    (w.implies (w.and (w.formula (happens (w.variable first_event)) (w.formula (happens (w.variable second_event)) no_formulas)))
    (w.compare op.Equal (w.variable first_event) (w.variable second_event)))

-- in the end all steps are done
abbrev pub end : ℕ → Formula
end n = each_step (done_at (w.number (n + 1)))

-- ---- the statements, one on each line

abbrev pub says : ℕ → Content → Statement
says line content = record { line = line; content = content }

-- a sentence without a label
abbrev pub holds : ℕ → Formula → Statement
holds line f = says line (w.sentence None f)

abbrev pub sample_statements : ℕ → List Statement
sample_statements n =
    says 1 sort_said ∷ says 2 (steps_said n) ∷ says 3 (times_said n) ∷ says 4 fluent_said ∷ says 5 event_said
    ∷ holds 6 effect ∷ holds 7 start ∷ holds 8 once ∷ holds 9 order ∷ holds 10 single ∷ holds 11 (end n) ∷ []

-- ---- the book of the root file

abbrev pub sample_file : List ℕ
sample_file = codes "sample.e"

abbrev pub sample_book : ℕ → Book
sample_book n = record { files = sample_file ∷ []; statements = map (placed_at 0) (sample_statements n) }
