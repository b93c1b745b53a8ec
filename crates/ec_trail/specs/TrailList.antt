-- a trail: literals that were made true, each with its level and its reason
use Rattle.std.specs.Prelude.{◌≡◌, ℕ, ◌+◌, ◌≤◌, ◌<◌, ◌^◌, List, Option, Some, None, Bool, length, All, AllPairs, slice_index_or, fold, find, replicate, take_while, nat_le, nat_eq, option_map, option_and_then, take, sum_by}
use Rattle.ec_clause.specs.Truth.{Truth, with_true}
use Rattle.ec_trail.specs.declared.trail.Entry.{Entry}

pub record TrailList : Type 0 where
  pub variables : ℕ
  pub entries : List Entry

-- the truth with an entry's literal made true
abbrev pub add_entry : Truth → Entry → Truth
add_entry p e = with_true p e.lit

-- the truth that the literals make
abbrev pub values_of : ℕ → List Entry → Truth
values_of variables entries = fold add_entry (replicate (variables + 1) None) entries

-- the truth that a trail's literals make
abbrev pub truth_of : TrailList → Truth
truth_of t = values_of t.variables t.entries

-- the level of the later entry
abbrev pub level_step : ℕ → Entry → ℕ
level_step n e = e.level

-- the level of the last literal, 0 where there is none
abbrev pub top_level : List Entry → ℕ
top_level entries = fold level_step 0 entries

-- what a level keeps: the entries up to the first of a higher level
abbrev pub kept : ℕ → List Entry → List Entry
kept level entries = take_while (λ (e : Entry). nat_le e.level level) entries

-- whether an entry is of a variable
abbrev pub is_of : ℕ → Entry → Bool
is_of variable e = nat_eq e.lit.variable variable

-- the entry of a variable
abbrev pub entry_of : List Entry → ℕ → Option Entry
entry_of entries variable = find (is_of variable) entries

-- the level at which a variable got its value
abbrev pub level_of : List Entry → ℕ → Option ℕ
level_of entries variable = option_map (λ (e : Entry). e.level) (entry_of entries variable)

-- the clause that implied a variable's value
abbrev pub reason_of : List Entry → ℕ → Option ℕ
reason_of entries variable = option_and_then (λ (e : Entry). e.reason) (entry_of entries variable)

-- 1 for a value, 0 for none
abbrev pub taken : Option Bool → ℕ
taken None = 0
taken (Some b) = 1

-- variables are in range and each had no value before its entry; levels never fall, and rise by one at most
pub record IsTrail (variables : ℕ) (entries : List Entry) : Type 0 where
  pub in_range : All (λ (e : Entry). (1 ≤ e.lit.variable) × (e.lit.variable ≤ variables)) entries
  pub fresh : (k : ℕ) (d : Entry) → k < length entries → slice_index_or (values_of variables (take k entries)) (slice_index_or entries k d).lit.variable None ≡ None
  pub rising : AllPairs (λ (a b : Entry). a.level ≤ b.level) entries
  pub low : (k : ℕ) (d : Entry) → k < length entries → (slice_index_or entries k d).level ≤ k + 1

-- what a trail keeps in memory: room for all variables, the truth of its entries, and the place of each
pub record IsKept (variables capacity : ℕ) (entries : List Entry) (values : Truth) (places : List ℕ) : Type 0 where
  pub small : variables < 2 ^ 31
  pub room : variables ≤ capacity
  pub trail : IsTrail variables entries
  pub same : values ≡ values_of variables entries
  pub count : sum_by taken values ≡ length entries
  pub none : slice_index_or values 0 None ≡ None
  pub table : length places ≡ variables + 1
  pub at_place : (k : ℕ) (d : Entry) → k < length entries → slice_index_or places (slice_index_or entries k d).lit.variable 0 ≡ k
