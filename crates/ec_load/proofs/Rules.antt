-- What the rules for lists, shapes and line statements keep of well-formed marks.
use Rattle.std.proofs.Common.{◌≡◌, ℕ, ◌+◌, ◌≤◌, List, [], ◌∷◌, length, map, arith, refl}
use Rattle.ec_syntax.specs.Written.{Content, Shape}
use Rattle.ec_parse.specs.Mark.{Mark, sign}
use Rattle.ec_parse.specs.Mark as m
use Rattle.ec_parse.specs.Lists.{IsName, name, IsVariable, variable, AreMore, no_more, one_more, AreParted, parted}
use Rattle.ec_parse.specs.Lines.{IsShape, bare, empty, full, IsSortItem, orphan, child, IsLine, sorts, reified, constants, events, fluents, predicates, noninertial, range, completion, labelled_completion, left_out}
use Rattle.ec_load.specs.Sound.{IsUpperWord, shape_name, declared_names, shapes_count, names_count}

-- The word of an upper-case mark is one.
abbrev pub IsFormedMark : Mark → Type 0
IsFormedMark (m.upper n) = IsUpperWord n
IsFormedMark (m.lower v) = Unit {0}
IsFormedMark (m.keyword x v) = Unit {0}
IsFormedMark (m.number n) = Unit {0}
IsFormedMark (m.load text) = Unit {0}
IsFormedMark (m.choice text) = Unit {0}
IsFormedMark (m.sign x) = Unit {0}
IsFormedMark m.other = Unit {0}

abbrev pub Formed : List Mark → Type 0
Formed [] = Unit {0}
Formed (x ∷ ms) = IsFormedMark x × Formed ms

-- What a rule keeps: what is said of what it reads, the form of the marks behind it, and that it takes as many marks as are counted.
record Kept (good : Type 0) (count : ℕ) (ms rest : List Mark) : Type 0 where
  pub holds : good
  pub formed : Formed rest
  pub few : count + length rest ≤ length ms

abbrev Keeps : {X : Type 0} → (List Mark → X → List Mark → Type 0) → (X → Type 0) → (X → ℕ) → Type 0
Keeps {X} R P count = (ms : List Mark) (x : X) (rest : List Mark) → R ms x rest → Formed ms → Kept (P x) (count x) ms rest

abbrev pub Each : {X : Type 0} → (X → Type 0) → List X → Type 0
Each P [] = Unit {0}
Each P (x ∷ xs) = P x × Each P xs

abbrev total : {X : Type 0} → (X → ℕ) → List X → ℕ
total count [] = 0
total count (x ∷ xs) = count x + total count xs

more_keep : {X : Type 0} (R : List Mark → X → List Mark → Type 0) (P : X → Type 0) (count : X → ℕ) → Keeps R P count → {ms : List Mark} {xs : List X} {rest : List Mark} → AreMore R ms xs rest → Formed ms → Kept (Each P xs) (total count xs) ms rest
more_keep R P count keeps no_more f = record { holds = tt; formed = f; few = omega arith }
more_keep R P count keeps (one_more {ms = ms} {mid = mid} {a = a} one more) f =
    let first = keeps ms a mid one f.1 in
    let others = more_keep R P count keeps more first.formed in
    record { holds = (first.holds, others.holds); formed = others.formed; few = omega (arith, first.few, others.few) }

parted_keep : {X : Type 0} (R : List Mark → X → List Mark → Type 0) (P : X → Type 0) (count : X → ℕ) → Keeps R P count → {ms : List Mark} {xs : List X} {rest : List Mark} → AreParted R ms xs rest → Formed ms → Kept (Each P xs) (total count xs) ms rest
parted_keep R P count keeps (parted {ms = ms} {mid = mid} {a = a} one more) f =
    let first = keeps ms a mid one f in
    let others = more_keep R P count keeps more first.formed in
    record { holds = (first.holds, others.holds); formed = others.formed; few = omega (arith, first.few, others.few) }

-- ---- the rules

abbrev Anything : {X : Type 0} → X → Type 0
Anything x = Unit {0}

abbrev one : {X : Type 0} → X → ℕ
one x = 1

total-one : {X : Type 0} (xs : List X) → total one xs ≡ length xs
total-one [] = refl
total-one (x ∷ xs) = omega (arith, total-one xs)

name_keeps : Keeps IsName IsUpperWord one
name_keeps ms x rest name f = record { holds = f.0; formed = f.1; few = omega arith }

variable_keeps : Keeps IsVariable Anything one
variable_keeps ms x rest (variable is) f = record { holds = tt; formed = f.1; few = omega arith }

item_keeps : Keeps IsSortItem Anything one
item_keeps ms x rest (orphan c) f = record { holds = tt; formed = f.1; few = omega arith }
item_keeps ms x rest child f = record { holds = tt; formed = f.1.1.1; few = omega arith }

abbrev IsNamedShape : Shape → Type 0
IsNamedShape s = IsUpperWord s.name

abbrev shape_count : Shape → ℕ
shape_count s = 1 + length s.sorts

total-shapes : (shapes : List Shape) → total shape_count shapes ≡ shapes_count shapes
total-shapes [] = refl
total-shapes (s ∷ shapes) = omega (arith, total-shapes shapes)

shape_keeps : Keeps IsShape IsNamedShape shape_count
shape_keeps ms x rest (bare o) f = record { holds = f.0; formed = f.1; few = omega arith }
shape_keeps ms x rest empty f = record { holds = f.0; formed = f.1.1.1; few = omega arith }
shape_keeps ms x rest (full {sorts = words} p) f =
    let inner = parted_keep IsVariable Anything one variable_keeps p f.1.1 in record { holds = f.0; formed = inner.formed.1; few = omega (arith, inner.few, total-one words) }

names_of_shapes : (shapes : List Shape) → Each IsNamedShape shapes → Each IsUpperWord (map shape_name shapes)
names_of_shapes [] e = tt
names_of_shapes (s ∷ shapes) e = (e.0, names_of_shapes shapes e.1)

-- ---- line statements

abbrev pub IsGood : List Mark → Content → Type 0
IsGood ms c = Each IsUpperWord (declared_names c) × (1 + names_count c ≤ length ms)

shapes_good : {ms : List Mark} {shapes : List Shape} → AreParted IsShape ms shapes [] → Formed ms → Each IsUpperWord (map shape_name shapes) × (shapes_count shapes ≤ length ms)
shapes_good {shapes = shapes} p f = let k = parted_keep IsShape IsNamedShape shape_count shape_keeps p f in (names_of_shapes shapes k.holds, omega (arith, k.few, total-shapes shapes))

pub line_good : {ms : List Mark} {c : Content} → IsLine ms c → Formed ms → IsGood ms c
line_good (sorts {items = items} p) f = let k = parted_keep IsSortItem Anything one item_keeps p f.1 in (tt, omega (arith, k.few, total-one items))
line_good (reified o) f = (tt, omega arith)
line_good (constants {names = names} p) f = let k = parted_keep IsName IsUpperWord one name_keeps p f.1 in (k.holds, omega (arith, k.few, total-one names))
line_good (events p) f = let k = shapes_good p f.1 in (k.0, omega (arith, k.1))
line_good (fluents p) f = let k = shapes_good p f.1 in (k.0, omega (arith, k.1))
line_good (predicates p) f = let k = shapes_good p f.1 in (k.0, omega (arith, k.1))
line_good (noninertial p) f = (tt, omega arith)
line_good (range l h) f = (tt, omega arith)
line_good completion f = (tt, omega arith)
line_good labelled_completion f = (tt, omega arith)
line_good (left_out o) f = (tt, omega arith)
