-- The tables of the groups that are made.
use Rattle.std.specs.Prelude.{ℕ, zero, suc, ◌++◌, [], ◌∷◌, ◌≡◌, nat_eq, Bool, true, false, if◌then◌else◌, List, map, Option, None, Some, unwrap_or, slice_get, length, Result, Ok, Err}
use Rattle.std.specs.Cmp.Lexicographic.{pointwise}
use Rattle.indexmap.specs.IndexMap.{IndexMap, get}
use Rattle.ec_theory.specs.declared.sorted.Wanted.{Wanted}
use Rattle.ec_split.specs.declared.fault.SplitFault.{SplitFault}
use Rattle.ec_split.specs.declared.fault.SplitFault.TheVariants.{Refused, Memory}
use Rattle.ec_split.specs.declared.plan.Maker as code
use Rattle.ec_split.specs.declared.plan.Maker.TheVariants.{Effects, Label, Alone}
use Rattle.ec_split.specs.declared.plan.Made as code_made
use Rattle.ec_split.specs.declared.plan.Plan.{Plan}
use Rattle.ec_split.specs.Groups.{Maker, effects, label, alone, Made, same_maker, is_made_by, has_predicate, place, groups_of, groups_after}

abbrev pub maker_of : code.Maker → Maker
maker_of Effects = effects
maker_of (Label name) = label name
maker_of (Alone p) = alone p

abbrev pub made_of : code_made.Made → Made
made_of group = record { maker = maker_of group.maker; predicates = group.predicates.items }

abbrev pub groups_in : Plan → List Made
groups_in plan = map made_of plan.made.items

-- the groups once a predicate is added to the one at a place
abbrev pub added : ℕ → ℕ → List Made → List Made
added k p [] = []
added zero p (group ∷ groups) = record { maker = group.maker; predicates = group.predicates ++ p ∷ [] } ∷ groups
added (suc k) p (group ∷ groups) = group ∷ added k p groups

-- what a table says of a number
abbrev pub told : List (Option ℕ) → ℕ → Option ℕ
told table p = unwrap_or (slice_get table p) None

-- The tables tell the places of the groups, where there are so many predicates.
pub record IsTabled (count : ℕ) (plan : Plan) : Type 0 where
  pub labels : (name : List ℕ) → get (pointwise nat_eq) plan.labels name ≡ place (is_made_by (label name)) (groups_in plan)
  pub alone : (p : ℕ) → told plan.alone.items p ≡ place (is_made_by (alone p)) (groups_in plan)
  pub homes : (p : ℕ) → told plan.homes.items p ≡ place (has_predicate p) (groups_in plan)
  pub effects : place (is_made_by effects) (groups_in plan) ≡ Some 0
  pub alone_count : length plan.alone.items ≡ count
  pub home_count : length plan.homes.items ≡ count

-- what makes the group of a predicate, where there is none yet
abbrev pub new_maker : Option (List ℕ) → ℕ → Maker
new_maker (Some name) p = label name
new_maker None p = alone p

-- The labels' places once one is noted.
pub record AreNoted (maker : Maker) (k : ℕ) {S : Type 0} (old new : IndexMap (List ℕ) ℕ S) : Type 0 where
  pub noted : (name : List ℕ) → get (pointwise nat_eq) new name ≡ (if same_maker (label name) maker then Some k else get (pointwise nat_eq) old name)

-- The places of predicates that are alone, once one is noted.
pub record IsNotedAlone (maker : Maker) (k : ℕ) (old new : List (Option ℕ)) : Type 0 where
  pub noted : (p : ℕ) → told new p ≡ (if same_maker (alone p) maker then Some k else told old p)
  pub count : length new ≡ length old

-- the groups after a statement, where the answer tells whether it could be
abbrev pub settled_as : Bool → List Made → Option (List Made)
settled_as true groups = Some groups
settled_as false groups = None

-- The plan after a statement, by the answer.
abbrev pub IsPlanAfter : List (List ℕ) → List Made → Wanted → Plan → Result Unit SplitFault → Type 0
IsPlanAfter names groups wanted plan (Ok done) = (groups_after names groups wanted ≡ Ok (groups_in plan)) × IsTabled (length names) plan
IsPlanAfter names groups wanted plan (Err (Refused refusal)) = groups_after names groups wanted ≡ Err refusal
IsPlanAfter names groups wanted plan (Err Memory) = Unit {0}

-- The plan of all statements, by the answer.
abbrev pub IsPlanned : List (List ℕ) → List Wanted → Result Plan SplitFault → Type 0
IsPlanned names wanted (Ok plan) = (groups_of names wanted ≡ Ok (groups_in plan)) × IsTabled (length names) plan
IsPlanned names wanted (Err (Refused refusal)) = groups_of names wanted ≡ Err refusal
IsPlanned names wanted (Err Memory) = Unit {0}
