-- The truths that meet the clause list.
use Rattle.std.specs.Prelude.{◌≡◌, ℕ, ◌+◌, ◌-◌, ◌<◌, ◌↔◌, nat_lt, Bool, true, List, All, slice_index_or, if◌then◌else◌}
use Rattle.ec_folding.specs.Tree.{Tree, never, true_in}
use Rattle.ec_folding.specs.Definition.{Definition, Holds}
use Rattle.ec_clause.specs.Literal.{Literal}
use Rattle.ec_clause.specs.Step.{clause_holds}
use Rattle.ec_naming.specs.Tidy.{tidied}
use Rattle.ec_naming.specs.Listing.{named_whole, names_taken_whole, naming_whole, clause_list}

-- a truth of all variables meets these clauses
abbrev pub Meets : (ℕ → Bool) → List (List Literal) → Type 0
Meets w cs = All (λ c. clause_holds w c ≡ true) cs

-- the atoms' part of a truth of all variables
abbrev pub atoms_of : (ℕ → ℕ) → (ℕ → Bool) → ℕ → Bool
atoms_of at w a = w (at a)

-- a truth as it is below n, with the truths of these trees from there on
abbrev pub extended : (ℕ → ℕ) → ℕ → List Tree → (ℕ → Bool) → ℕ → Bool
extended at n ts v i = if nat_lt i n then v i else true_in (atoms_of at v) (slice_index_or ts (i - n) never)

-- the sentences are true and the definitions hold
pub record IsModel (ss : List Tree) (ds : List Definition) (v : ℕ → Bool) : Type 0 where
  pub sentences : All (λ t. true_in v t ≡ true) ss
  pub definitions : All (Holds v) ds

-- a truth of the variables before n has one extension to the names, and a truth meets the list exactly where it is its own extension and a model
pub record HasOneExtension (at : ℕ → ℕ) (n : ℕ) (ss : List Tree) (ds : List Definition) : Type 0 where
  pub extends : (v : ℕ → Bool) → Meets (extended at n (named_whole ss ds) v) (tidied (naming_whole at n ss ds))
  pub keeps : (v : ℕ → Bool) (i : ℕ) → i < n → extended at n (named_whole ss ds) v i ≡ v i
  pub only : (v w : ℕ → Bool) → ((i : ℕ) → i < n → w i ≡ v i) → Meets w (tidied (naming_whole at n ss ds)) → (i : ℕ) → i < n + names_taken_whole ss ds → w i ≡ extended at n (named_whole ss ds) v i
  pub meets : (w : ℕ → Bool) → Meets w (clause_list at n ss ds) ↔ (((i : ℕ) → i < n + names_taken_whole ss ds → w i ≡ extended at n (named_whole ss ds) w i) × IsModel ss ds (atoms_of at w))
