-- Terms, formulas and statements as they are written, as plain data. A word is a list of bytes.
use Rattle.std.specs.Prelude.{ℕ, ℤ, Bool, List, Option}
use Rattle.ec_syntax.specs.declared.tree.Op.{Op}
use Rattle.ec_syntax.specs.declared.statement.SortItem.{SortItem}

mutual
  pub data Term : Type 0 where
    name : List ℕ → Terms → Term
    variable : List ℕ → Term
    number : ℕ → Term
    sum : Term → Term → Term
    difference : Term → Term → Term
    product : Term → Term → Term
    negative : Term → Term

  pub data Terms : Type 0 where
    no_terms : Terms
    term : Term → Terms → Terms

mutual
  pub data Formula : Type 0 where
    atom : List ℕ → Terms → Formula
    compare : Op → Term → Term → Formula
    not : Formula → Formula
    and : Formulas → Formula
    or : Formulas → Formula
    implies : Formula → Formula → Formula
    iff : Formula → Formula → Formula
    for_all : List (List ℕ) → Formula → Formula
    exists : List (List ℕ) → Formula → Formula

  pub data Formulas : Type 0 where
    no_formulas : Formulas
    formula : Formula → Formulas → Formulas

-- one formula stands for itself, several are joined
abbrev pub all_of : Formula → Formulas → Formula
all_of a no_formulas = a
all_of a (formula b bs) = and (formula a (formula b bs))

abbrev pub any_of : Formula → Formulas → Formula
any_of a no_formulas = a
any_of a (formula b bs) = or (formula a (formula b bs))

-- a declared symbol and the sorts of its arguments
pub record Shape : Type 0 where
  pub name : List ℕ
  pub sorts : List (List ℕ)

-- what a statement says
pub data Content : Type 0 where
  sorts : List SortItem → Content
  reified : List ℕ → Content
  constants : List ℕ → List (List ℕ) → Content
  events : List Shape → Content
  fluents : List Shape → Content
  predicates : List Shape → Content
  noninertial : List (List ℕ) → Content
  range : List ℕ → ℤ → ℤ → Content
  load : List ℕ → Content
  choice : List ℕ → Bool → Content
  ignored : Content
  completion : Option (List ℕ) → List ℕ → Content
  left_out : List ℕ → Content
  sentence : Option (List ℕ) → Formula → Content

-- a statement and the line of its first token
pub record Statement : Type 0 where
  pub line : ℕ
  pub content : Content

-- a statement and the place of its file
pub record Placed : Type 0 where
  pub file : ℕ
  pub statement : Statement

-- the files and their statements
pub record Book : Type 0 where
  pub files : List (List ℕ)
  pub statements : List Placed
