-- The tokens of the sample's text, line by line.
use Rattle.std.specs.Prelude.{ℕ, ◌+◌, codes, decimal, List, [], ◌∷◌, ◌++◌}
use Rattle.ec_lex.specs.declared.token.Kind.TheVariants.{Upper, Lower, Number, Sign}
use Rattle.ec_lex.specs.declared.token.Token.{Token}

-- ---- single tokens, by the line that they stand on

abbrev pub upper : ℕ → List ℕ → Token
upper line word = record { kind = Upper; word = word; line = line }

abbrev pub lower : ℕ → List ℕ → Token
lower line word = record { kind = Lower; word = word; line = line }

abbrev pub number : ℕ → ℕ → Token
number line n = record { kind = Number; word = decimal n; line = line }

abbrev pub sign : ℕ → List ℕ → Token
sign line word = record { kind = Sign; word = word; line = line }

-- ---- pieces that stand on several lines

-- `Do(step)` and `Done(step)`
abbrev pub of_step : ℕ → List ℕ → List Token
of_step line name = upper line name ∷ sign line (codes "(") ∷ lower line (codes "step") ∷ sign line (codes ")") ∷ []

-- `[step]`
abbrev pub for_step : ℕ → List Token
for_step line = sign line (codes "[") ∷ lower line (codes "step") ∷ sign line (codes "]") ∷ []

-- `[step,time]`
abbrev pub for_step_and_time : ℕ → List Token
for_step_and_time line = sign line (codes "[") ∷ lower line (codes "step") ∷ sign line (codes ",") ∷ lower line (codes "time") ∷ sign line (codes "]") ∷ []

-- `Happens(event,time)`, where the event is spelled by these
abbrev pub happens : ℕ → List Token → List Token
happens line event = upper line (codes "Happens") ∷ sign line (codes "(") ∷ (event ++ sign line (codes ",") ∷ lower line (codes "time") ∷ sign line (codes ")") ∷ [])

-- `HoldsAt(Done(step),time)`, where the time is this token
abbrev pub holds_done : ℕ → Token → List Token
holds_done line time = upper line (codes "HoldsAt") ∷ sign line (codes "(") ∷ (of_step line (codes "Done") ++ sign line (codes ",") ∷ time ∷ sign line (codes ")") ∷ [])

-- ---- the lines

abbrev pub sort_tokens : List Token
sort_tokens = lower 1 (codes "sort") ∷ lower 1 (codes "step") ∷ sign 1 (codes ":") ∷ lower 1 (codes "integer") ∷ []

abbrev pub steps_tokens : ℕ → List Token
steps_tokens n = lower 2 (codes "range") ∷ lower 2 (codes "step") ∷ number 2 1 ∷ number 2 n ∷ []

abbrev pub times_tokens : ℕ → List Token
times_tokens n = lower 3 (codes "range") ∷ lower 3 (codes "time") ∷ number 3 0 ∷ number 3 (n + 1) ∷ []

abbrev pub fluent_tokens : List Token
fluent_tokens = lower 4 (codes "fluent") ∷ of_step 4 (codes "Done")

abbrev pub event_tokens : List Token
event_tokens = lower 5 (codes "event") ∷ of_step 5 (codes "Do")

abbrev pub effect_tokens : List Token
effect_tokens =
    for_step_and_time 6 ++ upper 6 (codes "Initiates") ∷ sign 6 (codes "(")
    ∷ (of_step 6 (codes "Do") ++ sign 6 (codes ",") ∷ (of_step 6 (codes "Done") ++ sign 6 (codes ",") ∷ lower 6 (codes "time") ∷ sign 6 (codes ")") ∷ sign 6 (codes ".") ∷ []))

abbrev pub start_tokens : List Token
start_tokens = for_step 7 ++ sign 7 (codes "!") ∷ (holds_done 7 (number 7 0) ++ sign 7 (codes ".") ∷ [])

abbrev pub once_tokens : List Token
once_tokens =
    for_step_and_time 8 ++ happens 8 (of_step 8 (codes "Do")) ++ sign 8 (codes "->") ∷ sign 8 (codes "!") ∷ (holds_done 8 (lower 8 (codes "time")) ++ sign 8 (codes ".") ∷ [])

-- `Do(step+1)`
abbrev pub do_next : List Token
do_next = upper 9 (codes "Do") ∷ sign 9 (codes "(") ∷ lower 9 (codes "step") ∷ sign 9 (codes "+") ∷ number 9 1 ∷ sign 9 (codes ")") ∷ []

abbrev pub order_tokens : List Token
order_tokens = for_step_and_time 9 ++ happens 9 do_next ++ sign 9 (codes "->") ∷ (holds_done 9 (lower 9 (codes "time")) ++ sign 9 (codes ".") ∷ [])

-- `[event1,event2,time]`
abbrev pub for_events_and_time : List Token
for_events_and_time =
    sign 10 (codes "[") ∷ lower 10 (codes "event1") ∷ sign 10 (codes ",") ∷ lower 10 (codes "event2") ∷ sign 10 (codes ",") ∷ lower 10 (codes "time") ∷ sign 10 (codes "]") ∷ []

abbrev pub single_tokens : List Token
single_tokens =
    for_events_and_time ++ happens 10 (lower 10 (codes "event1") ∷ []) ++ sign 10 (codes "&") ∷ (happens 10 (lower 10 (codes "event2") ∷ [])
    ++ sign 10 (codes "->") ∷ lower 10 (codes "event1") ∷ sign 10 (codes "=") ∷ lower 10 (codes "event2") ∷ sign 10 (codes ".") ∷ [])

abbrev pub end_tokens : ℕ → List Token
end_tokens n = for_step 11 ++ holds_done 11 (number 11 (n + 1)) ++ sign 11 (codes ".") ∷ []

abbrev pub sample_tokens : ℕ → List Token
sample_tokens n =
    sort_tokens ++ steps_tokens n ++ times_tokens n ++ fluent_tokens ++ event_tokens ++ effect_tokens ++ start_tokens ++ once_tokens ++ order_tokens ++ single_tokens ++ end_tokens n
