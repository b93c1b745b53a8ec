-- what a checker comes to, and what it then shows
use Rattle.std.specs.Prelude.{◌≡◌, ℕ, Bool, true, false, List, [], ◌∷◌, ◌++◌, Any}
use Rattle.ec_clause.specs.Literal.{Literal}
use Rattle.ec_clause.specs.ClauseList.{ClauseList}
use Rattle.ec_clause.specs.Step.{IsStep, AllHold, clause_holds}
use Rattle.ec_rup.specs.Checked.{Checked, fresh, with_block, with_step}

-- From this clause list a checker comes to this state, with these clauses blocked, in order, and steps between them.
pub data IsReached (list : ClauseList) : List (List Literal) → Checked → Type 0 where
  begun : IsReached list [] (fresh list)
  blocked : (before : List (List Literal)) (c : Checked) (lits : List Literal) → IsReached list before c → IsReached list (before ++ lits ∷ []) (with_block c lits)
  stepped : (before : List (List Literal)) (c : Checked) (lits : List Literal) (hints : List ℕ) → IsReached list before c → IsStep c.list lits hints → IsReached list before (with_step c lits)

-- Each truth of all variables that meets the clause list which a closed checker began with is forbidden by a blocked clause.
abbrev pub ClosedLeavesNoneOut : Type 0
ClosedLeavesNoneOut = (list : ClauseList) (forbidden : List (List Literal)) (c : Checked) → IsReached list forbidden c → c.closed ≡ true
    → (w : ℕ → Bool) → AllHold w list → Any (λ lits. clause_holds w lits ≡ false) forbidden
