-- The signatures of the tables, and a formula with three binders.
use Rattle.std.specs.Prelude.{codes, ℤ, Bool, true, false, [], ◌∷◌, ◌++◌, Some, None, pos, negsuc}
use Rattle.ec_logic.specs.Signature.{Signature, plain, integer, integer_sort, event_sort}
use Rattle.ec_logic.specs.BuiltIn.{built_in_sorts, built_in_predicates, predicate_row, sort_row}
use Rattle.ec_logic.specs.Tree.{variable, fluent, sum, no_terms, term, Formula, atom, implies, for_all, exists}

-- agents with the subsort child, levels from -1 to 2, times from 1 to 3; a noninertial fluent between two inertial ones
abbrev pub small : Bool → Signature
small manual_release = record {
  sorts = built_in_sorts None (Some (pos 1, pos 3)) None
      ++ sort_row (codes "agent") plain None None
      ∷ sort_row (codes "child") plain (Some 6) None
      ∷ sort_row (codes "level") integer (Some integer_sort) (Some (negsuc 0, pos 2))
      ∷ [];
  constants =
      record { name = codes "James"; sort = 6 }
      ∷ record { name = codes "Nell"; sort = 7 }
      ∷ record { name = codes "Ada"; sort = 6 }
      ∷ [];
  events =
      record { name = codes "Wake"; sorts = 6 ∷ []; noninertial = false }
      ∷ record { name = codes "Set"; sorts = 7 ∷ 8 ∷ []; noninertial = false }
      ∷ [];
  fluents =
      record { name = codes "Awake"; sorts = 6 ∷ []; noninertial = false }
      ∷ record { name = codes "Heard"; sorts = 7 ∷ 8 ∷ []; noninertial = true }
      ∷ record { name = codes "Dark"; sorts = []; noninertial = false }
      ∷ [];
  predicates = built_in_predicates ++ predicate_row (codes "Near") (6 ∷ 8 ∷ []) ∷ [];
  manual_release = manual_release;
  time_diff = true;
}

-- an event with three arguments of 2,000,001 values each, more than 2^62 in all, and a fluent with two, fewer
abbrev pub wide : Signature
wide = record {
  sorts = built_in_sorts None (Some (pos 0, pos 1)) None ++ sort_row (codes "mark") integer (Some integer_sort) (Some (negsuc 999999, pos 1000000)) ∷ [];
  constants = [];
  events = record { name = codes "Move"; sorts = 6 ∷ 6 ∷ 6 ∷ []; noninertial = false } ∷ [];
  fluents = record { name = codes "At"; sorts = 6 ∷ 6 ∷ []; noninertial = false } ∷ [];
  predicates = built_in_predicates;
  manual_release = false;
  time_diff = false;
}

-- agents with the subsort child, levels from -1 to 1, times 0 and 1, three ground events and two ground fluents; predicates
-- without an argument, over a subsort, over a sort and a range, and over the events
abbrev pub listed : Signature
listed = record {
  sorts = built_in_sorts None (Some (pos 0, pos 1)) None
      ++ sort_row (codes "agent") plain None None
      ∷ sort_row (codes "child") plain (Some 6) None
      ∷ sort_row (codes "level") integer (Some integer_sort) (Some (negsuc 0, pos 1))
      ∷ [];
  constants =
      record { name = codes "James"; sort = 6 }
      ∷ record { name = codes "Nell"; sort = 7 }
      ∷ [];
  events =
      record { name = codes "Rest"; sorts = []; noninertial = false }
      ∷ record { name = codes "Wake"; sorts = 6 ∷ []; noninertial = false }
      ∷ [];
  fluents = record { name = codes "Awake"; sorts = 6 ∷ []; noninertial = false } ∷ [];
  predicates = built_in_predicates
      ++ predicate_row (codes "Open") []
      ∷ predicate_row (codes "Young") (7 ∷ [])
      ∷ predicate_row (codes "Near") (6 ∷ 8 ∷ [])
      ∷ predicate_row (codes "Rare") (event_sort ∷ [])
      ∷ [];
  manual_release = false;
  time_diff = false;
}

-- one predicate over the numbers of a range, no event and no fluent
abbrev pub ranged : ℤ × ℤ → Signature
ranged range = record {
  sorts = built_in_sorts None (Some (pos 0, pos 1)) None ++ sort_row (codes "mark") integer (Some integer_sort) (Some range) ∷ [];
  constants = [];
  events = [];
  fluents = [];
  predicates = built_in_predicates ++ predicate_row (codes "Marked") (6 ∷ []) ∷ [];
  manual_release = false;
  time_diff = false;
}

-- [agent] ({level} Near(v1, v0 + v3) -> [time] HoldsAt(Heard(v1, v2), v0)), where v3 under two binders is the free
-- variable 1, v1 under the last binder is its agent, and v2 there is the free variable 0
abbrev pub three_binders : Formula
three_binders = for_all 6 (implies
    (exists 8 (atom 6 (term (variable 1) (term (sum (variable 0) (variable 3)) no_terms))))
    (for_all 2 (atom 0 (term (fluent 1 (term (variable 1) (term (variable 2) no_terms))) (term (variable 0) no_terms)))))
