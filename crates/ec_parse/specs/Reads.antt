-- What a function of the parser answers.
use Rattle.std.specs.Prelude.{◌≡◌, ◌≢◌, ◌∷◌, ℕ, ℤ, [], ◌<◌, ◌≤◌, List, length, map, Result, Ok, Err}
use Rattle.std.specs.Borrow.{Bor}
use Rattle.std.specs.declared.vec.Vec.{Vec}
use Rattle.std.specs.declared.alloc.Global.{Global}
use Rattle.ec_parse.specs.declared.mark.Mark as rust
use Rattle.ec_parse.specs.declared.fault.Fault.{Fault}
use Rattle.ec_parse.specs.declared.fault.Fault.TheVariants.{Memory, Syntax}
use Rattle.ec_syntax.specs.declared.tree.Arg.{Arg}
use Rattle.ec_syntax.specs.Written.{Terms, Shape}
use Rattle.ec_syntax.specs.View.{terms_of, shape_of}
use Rattle.ec_syntax.specs.declared.statement.SortItem.{SortItem}
use Rattle.ec_syntax.specs.declared.statement.Shape as rust_shape
use Rattle.ec_parse.specs.declared.mark.Sign.{Sign}
use Rattle.ec_parse.specs.Mark.{Mark, sign, seen_all, Lacks}

-- A rule relates marks, what they spell, and the marks behind it.
abbrev pub Rule : Type 0 → Type 1
Rule X = List Mark → X → List Mark → Type 0

-- no mark ends a rule that may end anywhere
abbrev pub free : List Mark → ℕ
free ms = 0

-- No front of the marks is of the rule, where what follows joins less than this.
abbrev pub Fails : {X : Type 0} → Rule X → (List Mark → ℕ) → ℕ → List Mark → Fault → Type 0
Fails R level n ms Memory = Unit {0}
Fails {X} R level n ms Syntax = (a : X) (rest : List Mark) → R ms a rest → level rest < n → ⊥

-- A front of the marks is of the rule, and what follows joins less than this.
abbrev pub Reads : {A X : Type 0} → (A → X) → Rule X → (List Mark → ℕ) → ℕ → List Mark → Result (A × Bor (List rust.Mark)) Fault → Type 0
Reads view R level n ms (Ok r) = R ms (view r.0) (seen_all r.1.now) × (level (seen_all r.1.now) < n) × (length (seen_all r.1.now) ≤ length ms)
Reads view R level n ms (Err e) = Fails R level n ms e

-- What was read, before a sign.
abbrev pub IsClosed : {A : Type 0} → A → List Mark → Sign → Result (A × Bor (List rust.Mark)) Fault → Type 0
IsClosed read ms close (Ok r) = (r.0 ≡ read) × (ms ≡ sign close ∷ seen_all r.1.now)
IsClosed read ms close (Err e) = (e ≡ Syntax) × Lacks ms (sign close)

-- What was read, with no mark behind it.
abbrev pub IsEnded : {A : Type 0} → A → List Mark → Result A Fault → Type 0
IsEnded read ms (Ok a) = (a ≡ read) × (ms ≡ [])
IsEnded read ms (Err e) = (e ≡ Syntax) × (ms ≢ [])

-- What was read before, with what is read next.
abbrev pub IsWith : {A B : Type 0} → A → Result (B × Bor (List rust.Mark)) Fault → Result ((A × B) × Bor (List rust.Mark)) Fault → Type 0
IsWith before next (Ok r) = (r.0.0 ≡ before) × (next ≡ Ok (r.0.1, r.1))
IsWith before next (Err e) = next ≡ Err e

-- What all of the marks spell, by a rule that takes them all.
abbrev pub Unspelled : {X : Type 0} → (List Mark → X → Type 0) → List Mark → Fault → Type 0
Unspelled R ms Memory = Unit {0}
Unspelled {X} R ms Syntax = (x : X) → R ms x → ⊥

abbrev pub Whole : {A X : Type 0} → (A → X) → (List Mark → X → Type 0) → List Mark → Result A Fault → Type 0
Whole view R ms (Ok a) = R ms (view a)
Whole view R ms (Err e) = Unspelled R ms e

-- a rule that has to take all of the marks
abbrev pub Ending : {X : Type 0} → Rule X → List Mark → X → Type 0
Ending R ms x = R ms x []

abbrev pub arguments_of : Vec Arg Global → Terms
arguments_of v = terms_of v.items

-- words as they are
abbrev pub word_of : List ℕ → List ℕ
word_of w = w

abbrev pub words_of : Vec (List ℕ) Global → List (List ℕ)
words_of v = v.items

abbrev pub whole_of : ℤ → ℤ
whole_of z = z

abbrev pub item_of : SortItem → SortItem
item_of i = i

abbrev pub items_of : Vec SortItem Global → List SortItem
items_of v = v.items

abbrev pub shapes_of : Vec rust_shape.Shape Global → List Shape
shapes_of v = map shape_of v.items
