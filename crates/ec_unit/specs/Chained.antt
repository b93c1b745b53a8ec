-- watches in chains
use Rattle.std.specs.Prelude.{◌⊎◌, ◌≡◌, ℕ, ◌+◌, ◌-◌, ◌*◌, ◌≤◌, ◌<◌, Bool, true, false, List, Option, Some, None, length, slice_index_or, slice_set, sum_by, if◌then◌else◌}
use Rattle.ec_clause.specs.Literal.{Literal}
use Rattle.ec_unit.specs.declared.chains.Chain.{Chain}
use Rattle.ec_unit.specs.declared.chains.Cell.{Cell}

-- where a literal's chain stands
abbrev pub index_of : Literal → ℕ
index_of l = 2 * l.variable + (if l.positive then 1 else 0)

abbrev pub no_chain : Chain
no_chain = record { head = 0; len = 0 }

abbrev pub no_cell : Cell
no_cell = record { lit = None; next = 0 }

-- a literal's chain
abbrev pub chain_at : List Chain → Literal → Chain
chain_at chains l = slice_index_or chains (index_of l) no_chain

-- the literal watched at a place
abbrev pub lit_at : List Cell → ℕ → Option Literal
lit_at cells place = (slice_index_or cells place no_cell).lit

-- the watch behind that of a place
abbrev pub next_at : List Cell → ℕ → ℕ
next_at cells place = (slice_index_or cells place no_cell).next

abbrev pub chain_len : Chain → ℕ
chain_len chain = chain.len

-- from its head a chain leads through its members alone, each once, by falling ranks down to 0
pub record IsChain (cells : List Cell) (member : ℕ → Type 0) (rank : ℕ → ℕ) (head len : ℕ) : Type 0 where
  pub below : (c : ℕ) → member c → rank c < len
  pub first : 0 < len → member head × (rank head + 1 ≡ len)
  pub next : (c : ℕ) → member c → 0 < rank c → member (next_at cells c) × (rank (next_at cells c) + 1 ≡ rank c)
  pub apart : (c d : ℕ) → member c → member d → rank c ≡ rank d → c ≡ d

-- a watch of a literal that is in its chain
abbrev pub IsOn : List Cell → (ℕ → Bool) → Literal → ℕ → Type 0
IsOn cells on l c = (on c ≡ true) × (lit_at cells c ≡ Some l)

-- a walk over the chain of a literal has come to a place with so many watches left: behind the watch before it, if
-- there is one, and else at the front
abbrev pub IsBehind : (ℕ → Bool) → (ℕ → ℕ) → List Chain → List Cell → Literal → Option ℕ → ℕ → ℕ → Type 0
IsBehind on rank chains cells a None head left = left ≡ (chain_at chains a).len
IsBehind on rank chains cells a (Some last) head left = IsOn cells on a last × (rank last ≡ left) × (0 < left → next_at cells last ≡ head)

-- the watch of a literal at a place is taken out of its chain, from behind the watch before it, if there is one
abbrev pub Unlinks : Option ℕ → List Chain → List Cell → Literal → ℕ → List Chain → List Cell → Type 0
Unlinks None chains cells a place chains' cells' = (chains' ≡ slice_set chains (index_of a) (record { head = next_at cells place; len = (chain_at chains a).len - 1 })) × (cells' ≡ cells)
Unlinks (Some last) chains cells a place chains' cells' = (chains' ≡ slice_set chains (index_of a) (record { head = (chain_at chains a).head; len = (chain_at chains a).len - 1 })) × (cells' ≡ slice_set cells last (record { lit = lit_at cells last; next = next_at cells place }))

-- each watch below a place is in the chain of its literal, or in what is left of a walk over the watches of one literal
pub record IsWalking (variables : ℕ) (chains : List Chain) (cells : List Cell) (upto : ℕ) (walked : Literal) (head left : ℕ) : Type 0 where
  pub on : ℕ → Bool
  pub rest : ℕ → Bool
  pub rank : ℕ → ℕ
  pub size : length chains ≡ 2 * variables + 2
  pub fits : upto ≤ length cells
  pub total : sum_by chain_len chains + left ≤ upto
  pub each : (l : Literal) → l.variable ≤ variables → IsChain cells (IsOn cells on l) rank (chain_at chains l).head (chain_at chains l).len
  pub ahead : IsChain cells (λ c. rest c ≡ true) rank head left
  pub of_walked : (c : ℕ) → rest c ≡ true → lit_at cells c ≡ Some walked
  pub rest_below : (c : ℕ) → rest c ≡ true → c < upto
  pub on_below : (c : ℕ) → on c ≡ true → c < upto
  pub loose : (c : ℕ) → rest c ≡ true → on c ≡ false
  pub all : (c : ℕ) (l : Literal) → c < upto → lit_at cells c ≡ Some l → (on c ≡ true) ⊎ (rest c ≡ true)
