-- what holds of a trail whose literals have reasons
use Rattle.std.specs.Prelude.{◌≡◌, ℕ, ◌≤◌, ◌<◌, Bool, true, false, List, [], ◌∷◌, Some, None, length, take, slice_index_or, fold, slice_set, if◌then◌else◌, Contains, All}
use Rattle.ec_clause.specs.Literal.{Literal, opposite}
use Rattle.ec_clause.specs.ClauseList.{ClauseList, clause_at}
use Rattle.ec_clause.specs.Truth.{unit_literal}
use Rattle.ec_trail.specs.declared.trail.Entry.{Entry}
use Rattle.ec_trail.specs.TrailList.{TrailList, values_of, top_level, kept}
use Rattle.ec_unit.specs.Settling.{IsNumber, IsQuiet}

-- each implied literal was the one left of its clause; a decision's level is above 0 and above those before
pub record AreReasons (c : ClauseList) (variables : ℕ) (es : List Entry) : Type 0 where
  pub low : (k r : ℕ) (d : Entry) → k < length es → (slice_index_or es k d).reason ≡ Some r → 1 ≤ r
  pub high : (k r : ℕ) (d : Entry) → k < length es → (slice_index_or es k d).reason ≡ Some r → r ≤ length c.clauses
  pub unit : (k r : ℕ) (d : Entry) → k < length es → (slice_index_or es k d).reason ≡ Some r → unit_literal (values_of variables (take k es)) (clause_at c r) ≡ Some (slice_index_or es k d).lit
  pub decided : (k : ℕ) (d : Entry) → k < length es → (slice_index_or es k d).reason ≡ None → 0 < (slice_index_or es k d).level
  pub first : (k i : ℕ) (d : Entry) → k < length es → (slice_index_or es k d).reason ≡ None → i < k → (slice_index_or es i d).level < (slice_index_or es k d).level

-- the variable of a literal marked too
abbrev pub mark : List Bool → Literal → List Bool
mark m l = slice_set m l.variable true

-- the variables of a clause marked too
abbrev pub mark_all : List Bool → List Literal → List Bool
mark_all m lits = fold mark m lits

-- the opposites of the literals that are marked
abbrev pub left_of : List Bool → List Entry → List Literal
left_of m [] = []
left_of m (e ∷ es) = if slice_index_or m e.lit.variable false then opposite e.lit ∷ left_of m es else left_of m es

-- no clause is false or unit at a level below the top
abbrev pub AreQuietBelow : ClauseList → ℕ → List Entry → Type 0
AreQuietBelow c variables es = (level number : ℕ) → level < top_level es → IsNumber c number → IsQuiet (values_of variables (kept level es)) (clause_at c number)

-- no clause has all its literals among these
abbrev pub ContainsNone : ClauseList → List Literal → Type 0
ContainsNone c lits = (number : ℕ) → IsNumber c number → All (Contains lits) (clause_at c number) → ⊥

-- what a search keeps
pub record IsSearching (c : ClauseList) (t : TrailList) : Type 0 where
  pub variables : c.variables ≡ t.variables
  pub reasons : AreReasons c t.variables t.entries
  pub quiet : AreQuietBelow c t.variables t.entries
