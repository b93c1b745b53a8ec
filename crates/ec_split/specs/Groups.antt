-- The groups that completion statements make, without their sentences.
use Rattle.std.specs.Prelude.{ℕ, suc, ◌==◌, nat_eq, Bool, true, false, if◌then◌else◌, List, [], ◌∷◌, ◌++◌, Option, None, Some, option_map, Result, Ok, Err, position}
use Rattle.std.specs.List.{list_any}
use Rattle.std.specs.Option.{ok_or}
use Rattle.std.specs.Cmp.Lexicographic.{pointwise}
use Rattle.ec_logic.specs.ValidTheory.{effect_predicates}
use Rattle.ec_syntax.specs.declared.book.Refusal.{Refusal}
use Rattle.ec_theory.specs.declared.sorted.Wanted.{Wanted}

-- What a group is made by: the effect predicates have one in any case, a label has one of its own, and so has a predicate that is completed alone.
pub data Maker : Type 0 where
  effects : Maker
  label : List ℕ → Maker
  alone : ℕ → Maker

abbrev pub same_maker : Maker → Maker → Bool
same_maker effects effects = true
same_maker (label a) (label b) = pointwise nat_eq a b
same_maker (alone p) (alone q) = p == q
same_maker _ _ = false

pub record Made : Type 0 where
  pub maker : Maker
  pub predicates : List ℕ

abbrev pub is_made_by : Maker → Made → Bool
is_made_by maker group = same_maker maker group.maker

abbrev pub has_predicate : ℕ → Made → Bool
has_predicate p group = list_any (λ q. q == p) group.predicates

-- the place of the first item that passes a test
abbrev pub place : {A : Type 0} → (A → Bool) → List A → Option ℕ
place test [] = None
place test (x ∷ xs) = if test x then Some 0 else option_map suc (place test xs)

abbrev pub is_effect : ℕ → Bool
is_effect p = list_any (λ q. q == p) effect_predicates

abbrev pub effect_group : Made
effect_group = record { maker = effects; predicates = effect_predicates }

abbrev pub same_place : Option ℕ → Option ℕ → Bool
same_place None None = true
same_place (Some j) (Some k) = j == k
same_place _ _ = false

-- ---- what a statement says

-- the number of the predicate with a name, where the names of all predicates are these
abbrev pub predicate_called : List (List ℕ) → List ℕ → Option ℕ
predicate_called names name = position (pointwise nat_eq name) names

-- what makes the group that a statement asks for; an effect predicate alone is to stay with the effects
abbrev pub maker_for : Option (List ℕ) → ℕ → Maker
maker_for (Some name) p = label name
maker_for None p = if is_effect p then effects else alone p

-- the groups once a predicate joins the one that is made so, which is made last where there is none
abbrev pub joined : Maker → ℕ → List Made → List Made
joined maker p [] = record { maker = maker; predicates = p ∷ [] } ∷ []
joined maker p (group ∷ groups) =
    if is_made_by maker group then record { maker = group.maker; predicates = group.predicates ++ p ∷ [] } ∷ groups else group ∷ joined maker p groups

-- The groups once a predicate, whose group stands at a place if it has one, is asked into the one that is made so. In another it can't be.
abbrev pub settled_from : Maker → ℕ → List Made → Option ℕ → Option (List Made)
settled_from maker p groups None = Some (joined maker p groups)
settled_from maker p groups (Some home) = if same_place (Some home) (place (is_made_by maker) groups) then Some groups else None

abbrev pub settled : Maker → ℕ → List Made → Option (List Made)
settled maker p groups = settled_from maker p groups (place (has_predicate p) groups)

-- ---- the statements in book order

abbrev pub wanted_refusal : ℕ → Wanted → Refusal
wanted_refusal code wanted = record { code = code; file = wanted.file; line = wanted.line; name = wanted.predicate }

-- 18: no predicate has the name; 17: the predicate is in another group
abbrev pub groups_with : List Made → Wanted → Option ℕ → Result (List Made) Refusal
groups_with groups wanted None = Err (wanted_refusal 18 wanted)
groups_with groups wanted (Some p) = ok_or (settled (maker_for wanted.label p) p groups) (wanted_refusal 17 wanted)

abbrev pub groups_after : List (List ℕ) → List Made → Wanted → Result (List Made) Refusal
groups_after names groups wanted = groups_with groups wanted (predicate_called names wanted.predicate)

abbrev pub and_then : {A B E : Type 0} → Result A E → (A → Result B E) → Result B E
and_then (Ok a) f = f a
and_then (Err e) f = Err e

abbrev pub groups_from : List (List ℕ) → List Made → List Wanted → Result (List Made) Refusal
groups_from names groups [] = Ok groups
groups_from names groups (wanted ∷ rest) = and_then (groups_after names groups wanted) (λ more. groups_from names more rest)

-- the groups that completion statements make, the effect group first, or the first statement that can't be
abbrev pub groups_of : List (List ℕ) → List Wanted → Result (List Made) Refusal
groups_of names wanted = groups_from names (effect_group ∷ []) wanted
