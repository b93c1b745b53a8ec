-- The text of the sample of n steps: they are done in order, one at a time, at the times from 0 on, and one time stays idle.
use Rattle.std.specs.Prelude.{ℕ, ◌+◌, codes, decimal, List, [], ◌∷◌, ◌++◌, flat_map}

-- ---- what is declared

abbrev pub sort_line : List ℕ
sort_line = codes "sort step: integer"

-- the steps from 1 to n
abbrev pub steps_line : ℕ → List ℕ
steps_line n = codes "range step 1 " ++ decimal n

-- the times from 0 to n + 1
abbrev pub times_line : ℕ → List ℕ
times_line n = codes "range time 0 " ++ decimal (n + 1)

abbrev pub fluent_line : List ℕ
fluent_line = codes "fluent Done(step)"

abbrev pub event_line : List ℕ
event_line = codes "event Do(step)"

-- ---- what is said of it

-- to do a step has it done
abbrev pub effect_line : List ℕ
effect_line = codes "[step,time] Initiates(Do(step),Done(step),time)."

-- at first no step is done
abbrev pub start_line : List ℕ
start_line = codes "[step] !HoldsAt(Done(step),0)."

-- no step is done twice
abbrev pub once_line : List ℕ
once_line = codes "[step,time] Happens(Do(step),time) -> !HoldsAt(Done(step),time)."

-- a step is done after the one before it
abbrev pub order_line : List ℕ
order_line = codes "[step,time] Happens(Do(step+1),time) -> HoldsAt(Done(step),time)."

-- one step at a time
abbrev pub single_line : List ℕ
single_line = codes "[event1,event2,time] Happens(event1,time) & Happens(event2,time) -> event1=event2."

-- in the end all steps are done
abbrev pub end_line : ℕ → List ℕ
end_line n = codes "[step] HoldsAt(Done(step)," ++ decimal (n + 1) ++ codes ")."

-- ---- the text

abbrev pub sample_lines : ℕ → List (List ℕ)
sample_lines n =
    sort_line ∷ steps_line n ∷ times_line n ∷ fluent_line ∷ event_line ∷ effect_line ∷ start_line ∷ once_line ∷ order_line ∷ single_line ∷ end_line n ∷ []

-- a line and the byte 10 that ends it
abbrev pub ended : List ℕ → List ℕ
ended line = line ++ 10 ∷ []

abbrev pub sample_text : ℕ → List ℕ
sample_text n = flat_map ended (sample_lines n)
