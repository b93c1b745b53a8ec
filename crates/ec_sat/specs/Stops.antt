-- where the walk down the trail is
use Rattle.std.specs.Prelude.{◌≡◌, ℕ, ◌+◌, ◌≤◌, ◌<◌, Bool, true, false, List, Some, None, All, length, reverse, Contains, nat_le, ◌-◌, slice_index_or as get_or}
use Rattle.ec_clause.specs.Literal.{Literal}
use Rattle.std.specs.List.{prefix_len}
use Rattle.ec_trail.specs.TrailList.{top_level}
use Rattle.ec_clause.specs.Truth.{Truth}
use Rattle.ec_clause.specs.ClauseList.{ClauseList}
use Rattle.ec_trail.specs.declared.trail.Entry.{Entry}
use Rattle.ec_clause.specs.Step.{hints_fault}

-- a truth that agrees with the marked literals below a place, and has no value for those from there on
pub record Fits (n : ℕ) (es : List Entry) (m : List Bool) (k : ℕ) (p : Truth) : Type 0 where
  pub size : length p ≡ n + 1
  pub below : (i : ℕ) (d : Entry) → i < k → i < length es → get_or m (get_or es i d).lit.variable false ≡ true → get_or p (get_or es i d).lit.variable None ≡ Some (get_or es i d).lit.positive
  pub above : (i : ℕ) (d : Entry) → k ≤ i → i < length es → get_or p (get_or es i d).lit.variable None ≡ None

-- the walk has come down to a place
pub record Walked (c : ClauseList) (n : ℕ) (es : List Entry) (m : List Bool) (hints : List ℕ) (k : ℕ) : Type 0 where
  pub size : length m ≡ n + 1
  pub some : 0 < length hints
  pub above : (i : ℕ) (d : Entry) → k ≤ i → i < length es → get_or m (get_or es i d).lit.variable false ≡ false
  pub follows : (p : Truth) (at : ℕ) → Fits n es m k p → hints_fault c hints p at ≡ None

-- the first place of the top level
abbrev pub first_top : List Entry → ℕ
first_top es = prefix_len (λ (e : Entry). nat_le e.level (top_level es - 1)) es

-- a marked literal of the top level is left below a place
pub record IsLeftBelow (es : List Entry) (m : List Bool) (k : ℕ) : Type 0 where
  pub place : ℕ
  pub below : place < k
  pub high : first_top es ≤ place
  pub marked : (d : Entry) → get_or m (get_or es place d).lit.variable false ≡ true

-- the walk stops where no literal below is marked at the level of the place, or above
pub record StopsAt (c : ClauseList) (n : ℕ) (es : List Entry) (m : List Bool) (hints : List ℕ) (place : ℕ) : Type 0 where
  pub in_range : place < length es
  pub walked : Walked c n es m (reverse hints) (place + 1)
  pub top : first_top es ≤ place
  pub alone : (i : ℕ) (d : Entry) → i < place → get_or m (get_or es i d).lit.variable false ≡ true → (get_or es i d).level < (get_or es place d).level

-- a truth that agrees with the marked literals, and has no value for the others from a place on
pub record Agrees (n : ℕ) (es : List Entry) (m : List Bool) (k : ℕ) (p : Truth) : Type 0 where
  pub size : length p ≡ n + 1
  pub marked : (i : ℕ) (d : Entry) → i < length es → get_or m (get_or es i d).lit.variable false ≡ true → get_or p (get_or es i d).lit.variable None ≡ Some (get_or es i d).lit.positive
  pub rest : (i : ℕ) (d : Entry) → k ≤ i → i < length es → get_or m (get_or es i d).lit.variable false ≡ false → get_or p (get_or es i d).lit.variable None ≡ None

-- the marked literals, none of which stands above a place, are a clause that follows, whose only literal of the
-- place's level or above is the place's; those from k on are dropped or left for good
pub record IsAsserting (c : ClauseList) (n : ℕ) (es : List Entry) (m : List Bool) (hints : List ℕ) (place k : ℕ) : Type 0 where
  pub in_range : place < length es
  pub some : 0 < length hints
  pub above : (i : ℕ) (d : Entry) → place < i → i < length es → get_or m (get_or es i d).lit.variable false ≡ false
  pub follows : (p : Truth) (at : ℕ) → Agrees n es m k p → hints_fault c (reverse hints) p at ≡ None
  pub top : first_top es ≤ place
  pub alone : (i : ℕ) (d : Entry) → i < place → get_or m (get_or es i d).lit.variable false ≡ true → (get_or es i d).level < (get_or es place d).level

-- the variable of each literal is marked
abbrev pub AllMarked : List Bool → List Literal → Type 0
AllMarked m lits = All (λ (l : Literal). get_or m l.variable false ≡ true) lits

-- the places of the marked literals below a level are among these
abbrev pub AreListed : List Entry → List Bool → ℕ → List ℕ → Type 0
AreListed es m level places = (i : ℕ) (d : Entry) → i < length es → (get_or es i d).level < level → get_or m (get_or es i d).lit.variable false ≡ true → Contains places i

-- so are those of all marked literals below a place
abbrev pub AreListedUpTo : List Entry → List Bool → ℕ → List ℕ → Type 0
AreListedUpTo es m count places = (i : ℕ) (d : Entry) → i < count → i < length es → get_or m (get_or es i d).lit.variable false ≡ true → Contains places i

-- what was listed is so still
abbrev pub StayListed : List Entry → List Bool → List Bool → Type 0
StayListed es m m' = (level : ℕ) (places : List ℕ) → AreListed es m level places → AreListed es m' level places
