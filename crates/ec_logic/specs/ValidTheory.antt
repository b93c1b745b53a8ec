-- Valid theories: what `split` gives, and what every call that takes a theory, a group or a sentence asks.
use Rattle.std.specs.Prelude.{ℕ, ◌≡◌, ◌<◌, ◌≤◌, ◌^◌, true, false, List, [], ◌∷◌, length, All, AllPairs}
use Rattle.ec_logic.specs.Tree.{Formula}
use Rattle.ec_logic.specs.Signature.{Signature, initiates, terminates, releases}
use Rattle.ec_logic.specs.Universe.{universe_of}
use Rattle.ec_logic.specs.Reach.{nesting}
use Rattle.ec_logic.specs.Theory.{Group, Theory, is_in_group}
use Rattle.ec_logic.specs.ClauseTree.{has_clause_form}
use Rattle.ec_logic.specs.Valid.{IsSignature}
use Rattle.ec_logic.specs.Sorting.{IsWellSorted}
use Rattle.ec_logic.specs.Bound.{IsBounded, has_fixed_in_range}

-- A closed formula whose truth can be asked: it is well sorted, no bound is over 2^62, and each place without a variable is in range.
pub record IsSentence (signature : Signature) (f : Formula) : Type 0 where
  pub well_sorted : IsWellSorted signature [] f
  pub bounded : IsBounded signature [] f
  pub fixed_places : has_fixed_in_range (universe_of signature) f ≡ true

-- how many binders may nest in a sentence of a file
abbrev pub binder_limit : ℕ
binder_limit = 16

-- A sentence as a file may have it.
pub record IsValidSentence (signature : Signature) (f : Formula) : Type 0 where
  pub sentence : IsSentence signature f
  pub nested : nesting f ≤ binder_limit

abbrev pub AreValidSentences : Signature → List Formula → Type 0
AreValidSentences signature sentences = All (IsValidSentence signature) sentences

-- The group's predicates are the signature's, its sentences are valid, each is a clause tree, the heads are of the group and the bodies are free of it.
pub record IsValidGroup (signature : Signature) (group : Group) : Type 0 where
  pub predicates : All (λ p. p < length signature.predicates) group.predicates
  pub sentences : AreValidSentences signature group.sentences
  pub clause_form : has_clause_form group ≡ true

abbrev pub effect_predicates : List ℕ
effect_predicates = initiates ∷ terminates ∷ releases ∷ []

-- The first group is that of the predicates Initiates, Terminates and Releases.
abbrev pub BeginsWithEffects : List Group → Type 0
BeginsWithEffects [] = ⊥
BeginsWithEffects (group ∷ groups) = group.predicates ≡ effect_predicates

abbrev pub AreDisjoint : Group → Group → Type 0
AreDisjoint g h = (p : ℕ) → is_in_group g p ≡ true → is_in_group h p ≡ false

pub record IsValidTheory (theory : Theory) : Type 0 where
  pub signature : IsSignature theory.signature
  pub remaining : AreValidSentences theory.signature theory.remaining
  pub groups : All (IsValidGroup theory.signature) theory.groups
  pub effects_first : BeginsWithEffects theory.groups
  -- no predicate is in two groups
  pub disjoint : AllPairs AreDisjoint theory.groups
  pub few_remaining : length theory.remaining < 2 ^ 32
  pub few_groups : length theory.groups < 2 ^ 32
