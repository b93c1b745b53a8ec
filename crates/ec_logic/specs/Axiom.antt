-- The axioms DEC5 to DEC12 of the discrete event calculus (Mueller, Commonsense Reasoning, 2nd edition), and this project's release axioms.
use Rattle.std.specs.Prelude.{ℕ, zero, suc, ◌+◌, ℤ, pos, Bool, true, false, List, [], ◌∷◌, ◌++◌, length, Option, Some, None, slice_get}
use Rattle.ec_logic.specs.Tree.{Term, variable, int, fluent, sum, Terms, no_terms, term, Formula, atom, negation, all_of, any_of, implies, for_all, exists, no_formulas, formula}
use Rattle.ec_logic.specs.Signature.{Signature, SortRow, SymbolRow, time_sort, event_sort, fluent_sort, holds_at, released_at, happens, initiates, terminates, releases}

-- ---- atoms over variables, each named by the number of binders between itself and its own

abbrev pub next : ℕ → Term
next time = sum (variable time) (int (pos 1))

abbrev pub HoldsAt : ℕ → Term → Formula
HoldsAt f time = atom holds_at (term (variable f) (term time no_terms))

abbrev pub ReleasedAt : ℕ → Term → Formula
ReleasedAt f time = atom released_at (term (variable f) (term time no_terms))

abbrev pub Happens : ℕ → ℕ → Formula
Happens e time = atom happens (term (variable e) (term (variable time) no_terms))

-- an event's effect on a fluent, by one of the predicates Initiates, Terminates and Releases
abbrev pub Effect : ℕ → ℕ → ℕ → ℕ → Formula
Effect predicate e f time = atom predicate (term (variable e) (term (variable f) (term (variable time) no_terms)))

abbrev pub both : Formula → Formula → Formula
both f g = all_of (formula f (formula g no_formulas))

abbrev pub each_of_three : Formula → Formula → Formula → Formula
each_of_three f g h = all_of (formula f (formula g (formula h no_formulas)))

abbrev pub either : Formula → Formula → Formula
either f g = any_of (formula f (formula g no_formulas))

-- for all fluents and times: the time is variable 0, the fluent variable 1
abbrev pub every_fluent : Formula → Formula
every_fluent f = for_all fluent_sort (for_all time_sort f)

-- for all events, fluents and times: the time is variable 0, the fluent variable 1, the event variable 2
abbrev pub every_event : Formula → Formula
every_event f = for_all event_sort (for_all fluent_sort (for_all time_sort f))

-- that no event happens with such an effect: the event is variable 0, the time variable 1, the fluent variable 2
abbrev pub no_event : Formula → Formula
no_event effect = negation (exists event_sort (both (Happens 0 1) effect))

-- ---- what stays

abbrev pub DEC5 : Formula
DEC5 = every_fluent (implies
    (each_of_three (HoldsAt 1 (variable 0)) (negation (ReleasedAt 1 (next 0))) (no_event (Effect terminates 0 2 1)))
    (HoldsAt 1 (next 0)))

abbrev pub DEC6 : Formula
DEC6 = every_fluent (implies
    (each_of_three (negation (HoldsAt 1 (variable 0))) (negation (ReleasedAt 1 (next 0))) (no_event (Effect initiates 0 2 1)))
    (negation (HoldsAt 1 (next 0))))

abbrev pub DEC7 : Formula
DEC7 = every_fluent (implies
    (both (ReleasedAt 1 (variable 0)) (no_event (either (Effect initiates 0 2 1) (Effect terminates 0 2 1))))
    (ReleasedAt 1 (next 0)))

abbrev pub DEC8 : Formula
DEC8 = every_fluent (implies
    (both (negation (ReleasedAt 1 (variable 0))) (no_event (Effect releases 0 2 1)))
    (negation (ReleasedAt 1 (next 0))))

-- ---- what events change

abbrev pub DEC9 : Formula
DEC9 = every_event (implies (both (Happens 2 0) (Effect initiates 2 1 0)) (HoldsAt 1 (next 0)))

abbrev pub DEC10 : Formula
DEC10 = every_event (implies (both (Happens 2 0) (Effect terminates 2 1 0)) (negation (HoldsAt 1 (next 0))))

abbrev pub DEC11 : Formula
DEC11 = every_event (implies (both (Happens 2 0) (Effect releases 2 1 0)) (ReleasedAt 1 (next 0)))

abbrev pub DEC12 : Formula
DEC12 = every_event (implies
    (both (Happens 2 0) (either (Effect initiates 2 1 0) (Effect terminates 2 1 0)))
    (negation (ReleasedAt 1 (next 0))))

abbrev pub dec_axioms : List Formula
dec_axioms = DEC5 ∷ DEC6 ∷ DEC7 ∷ DEC8 ∷ DEC9 ∷ DEC10 ∷ DEC11 ∷ DEC12 ∷ []

-- ---- the release axioms

-- the variables of so many binders, the outermost first, where the innermost of them is this one
abbrev pub variables_from : ℕ → ℕ → Terms
variables_from innermost zero = no_terms
variables_from innermost (suc count) = term (variable (innermost + count)) (variables_from innermost count)

-- a binder for each argument, the first outermost
abbrev pub for_each : List ℕ → Formula → Formula
for_each [] f = f
for_each (s ∷ ss) f = for_all s (for_each ss f)

-- the least time, where time has a range
abbrev pub first_time : Signature → ℤ
first_time signature = least_of (slice_get signature.sorts time_sort)
  where
    least : Option (ℤ × ℤ) → ℤ
    least None = pos 0
    least (Some range) = range.0

    least_of : Option SortRow → ℤ
    least_of None = pos 0
    least_of (Some row) = least row.range

-- A noninertial fluent is released at all times.
abbrev pub always_released : ℕ → SymbolRow → Formula
always_released number row = for_each row.sorts (for_all time_sort
    (atom released_at (term (fluent number (variables_from 1 (length row.sorts))) (term (variable 0) no_terms))))

-- An inertial fluent isn't released at the least time.
abbrev pub not_released_first : Signature → ℕ → SymbolRow → Formula
not_released_first signature number row = for_each row.sorts
    (negation (atom released_at (term (fluent number (variables_from 0 (length row.sorts))) (term (int (first_time signature)) no_terms))))

-- the axiom of a fluent, if it has one, by whether it is noninertial and whether its first release is left open
abbrev pub release_axiom : Signature → ℕ → SymbolRow → Bool → Bool → List Formula
release_axiom signature number row true manual = always_released number row ∷ []
release_axiom signature number row false true = []
release_axiom signature number row false false = not_released_first signature number row ∷ []

-- those of the fluents from a number on
abbrev pub release_axioms_from : Signature → ℕ → List SymbolRow → List Formula
release_axioms_from signature number [] = []
release_axioms_from signature number (row ∷ rows) =
    release_axiom signature number row row.noninertial signature.manual_release ++ release_axioms_from signature (suc number) rows

abbrev pub release_axioms : Signature → List Formula
release_axioms signature = release_axioms_from signature 0 signature.fluents
