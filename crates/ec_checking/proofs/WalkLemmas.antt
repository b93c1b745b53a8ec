-- What the lines of notes come to.
use Rattle.std.proofs.Common.{◌≡◌, ◌||◌, ℕ, zero, suc, ◌+◌, ◌<◌, ◌≤◌, Bool, true, false, cond, List, [], ◌∷◌, ◌++◌, Result, length, get_or, count_by, Contains, refl, sym, ap, subst, ◌∙◌, arith}
use Rattle.std.specs.Prelude.{IfOk}
use Rattle.std.specs.List.{list_any}
use Rattle.std.specs.declared.alloc.AllocError.{AllocError}
use Rattle.std.proofs.lemmas.List.{get_or_default}
use Rattle.std.proofs.lemmas.List.Folds.{list_any-append}
use Rattle.std.proofs.lemmas.List.Sums.{sum_by-append}
use Rattle.ec_clause.specs.Literal.{Literal}
use Rattle.ec_clause.specs.ClauseList.{ClauseList, IsClause}
use Rattle.ec_clause.specs.Note.{Note}
use Rattle.ec_clause.specs.Note as note
use Rattle.ec_clause.specs.Step.{IsStep}
use Rattle.ec_clause.specs.declared.ending.Ending.{Ending}
use Rattle.ec_log.specs.Digits.{digits_of}
use Rattle.ec_log.specs.Line.{LogLine, Derived, Blocked}
use Rattle.ec_log.specs.Log.{noted, forbidden}
use Rattle.ec_rup.specs.Checked.{Checked, with_block, with_step, is_empty}
use Rattle.ec_certificate.specs.Accepted.{forbids, forbids_from, clause_of, with_notes, refutes, is_derived}
use Rattle.ec_certificate.specs.Judged.{MayFollow}
use Rattle.ec_certificate.proofs.Appending.{with_notes-push}
use Rattle.ec_certificate.proofs.LineBytes.{blocked_digits}
use Rattle.ec_checking.specs.Left.{IsBlocked, IsOpen, AreLeft, truth_at, table_of}
use Rattle.ec_checking.specs.Walk.{Keeps, TakesNote, TakesNone, IsTurn}
use Rattle.ec_checking.specs.declared.walk.Walk.{Walk}
use Rattle.ec_checking.specs.declared.walk.Turn.{Turn}
use Rattle.ec_checking.proofs.LeftLemmas.{left-derived}

-- ---- one note more

count-push : (notes : List Note) (n : Note) → count_by is_derived (notes ++ n ∷ []) ≡ count_by is_derived notes + cond (is_derived n) 1 0
count-push notes n =
    let split : count_by is_derived (notes ++ n ∷ []) ≡ count_by is_derived notes + (0 + cond (is_derived n) 1 0) = sum_by-append (λ (m : Note). cond (is_derived m) 1 0) notes (n ∷ []) in
    omega (arith, split)

refutes-push : (notes : List Note) (n : Note) → list_any refutes (notes ++ n ∷ []) ≡ (list_any refutes notes || list_any refutes (n ∷ []))
refutes-push notes n = list_any-append refutes notes (n ∷ [])

refutes-derived : (lits : List Literal) (hints : List ℕ) → is_empty lits ≡ list_any refutes (note.Derived lits hints ∷ [])
refutes-derived [] hints = refl
refutes-derived (l ∷ lits) hints = refl

or-false : (b : Bool) → b ≡ (b || false)
or-false true = refl
or-false false = refl

clauses-push : (list : ClauseList) (notes : List Note) (n : Note) (now : ClauseList) → now ≡ with_notes list notes → record { variables = now.variables; clauses = now.clauses ++ clause_of n ∷ [] } ≡ with_notes list (notes ++ n ∷ [])
clauses-push list notes n now is = ap (λ c. record { variables = c.variables; clauses = c.clauses ++ clause_of n ∷ [] }) is ∙ sym (with_notes-push list notes n)

-- a step that is accepted is a note that may follow
pub takes-step : (list : ClauseList) (truths : List (List Bool)) (notes : List Note) (lits : List Literal) (hints : List ℕ) (old new : Walk) → Keeps list truths notes old → old.checker.closed ≡ false → IsStep old.checker.list lits hints
    → new ≡ record old { checker = with_step old.checker lits; derived = old.derived + 1 } → TakesNote list truths notes (Derived lits hints) new
takes-step list truths notes lits hints old new keeps none step is = record {
  note = note.Derived lits hints;
  is = refl;
  right = subst (λ c. IsStep c lits hints) keeps.clauses step;
  open_still = sym keeps.closed ∙ none;
  keeps = subst (Keeps list truths (notes ++ note.Derived lits hints ∷ [])) (sym is) (record {
    clauses = clauses-push list notes (note.Derived lits hints) old.checker.list keeps.clauses;
    closed = ap (λ b. b || is_empty lits) keeps.closed ∙ ap (λ b. list_any refutes notes || b) (refutes-derived lits hints) ∙ sym (refutes-push notes (note.Derived lits hints));
    left = left-derived truths notes lits hints (table_of old.left) keeps.left;
    derived = omega (arith, keeps.derived, count-push notes (note.Derived lits hints));
  });
}

-- a truth that is taken out is a note that may follow
pub takes-truth : (list : ClauseList) (truths : List (List Bool)) (notes : List Note) (digits : List ℕ) (place : ℕ) (truth : List Bool) (lits : List Literal) (old new : Walk) → Keeps list truths notes old → old.checker.closed ≡ false → IsOpen truths notes digits place
    → truth ≡ truth_at truths place → lits ≡ forbids truth → AreLeft truths (notes ++ note.Blocked (forbids (truth_at truths place)) ∷ []) (table_of new.left) → new.checker ≡ with_block old.checker lits → new.derived ≡ old.derived → TakesNote list truths notes (Blocked digits) new
takes-truth list truths notes digits place truth lits old new keeps none open_still is forbids-is left checker derived =
    let n = note.Blocked (forbids (truth_at truths place)) in
    let lits-are : lits ≡ forbids (truth_at truths place) = forbids-is ∙ ap forbids is in
    record {
      note = n;
      is = ap (λ ds. Blocked ds) (open_still.are ∙ sym (blocked_digits (truth_at truths place)));
      right = (record { truth = truth_at truths place; listed = (place, open_still.within, listed place open_still.within); forbidden = refl }, open_still.unblocked);
      open_still = sym keeps.closed ∙ none;
      keeps = record {
        clauses = ap (λ (c : Checked). c.list) checker ∙ ap (λ ls. record { variables = old.checker.list.variables; clauses = old.checker.list.clauses ++ ls ∷ [] }) lits-are ∙ clauses-push list notes n old.checker.list keeps.clauses;
        closed = ap (λ (c : Checked). c.closed) checker ∙ keeps.closed ∙ or-false (list_any refutes notes) ∙ sym (refutes-push notes n);
        left = left;
        derived = omega (arith, derived, keeps.derived, count-push notes n);
      };
    }
  where
    listed : (k : ℕ) → k < length truths → get_or truths k (truth_at truths k) ≡ truth_at truths k
    listed k lt = get_or_default truths k (truth_at truths k) [] lt

-- ---- faults

-- digits of no truth that is left are those of no note that may follow
pub takes-none-blocked : (list : ClauseList) (truths : List (List Bool)) (ending : Ending) (notes : List Note) (digits : List ℕ) → IsBlocked truths notes digits → TakesNone list truths ending notes (Blocked digits)
takes-none-blocked list truths ending notes digits blocked = record {
  no_note = none;
  no_end = λ is may. cc;
}
  where
    none : (n : Note) → Blocked digits ≡ noted n → MayFollow list truths notes n → ⊥
    none (note.Derived lits hints) is may = cc
    none (note.Blocked lits) is may =
        let listed = may.right.0 in
        let k = listed.listed.0 in
        let here : truth_at truths k ≡ listed.truth = get_or_default truths k [] listed.truth listed.listed.1 ∙ listed.listed.2 in
        let same : digits ≡ digits_of (forbidden lits) = cc in
        let are : digits ≡ digits_of (truth_at truths k) = same ∙ ap (λ ls. digits_of (forbidden ls)) listed.forbidden ∙ blocked_digits listed.truth ∙ ap digits_of (sym here) in
        may.right.1 (subst (λ ls. Contains notes (note.Blocked ls)) (ap forbids here ∙ sym listed.forbidden) (blocked k listed.listed.1 are))

-- a line of another kind
pub turn-moved : (list : ClauseList) (truths : List (List Bool)) (ending : Ending) (notes : List Note) (line line' : LogLine) (walk : Walk) (result : Result Turn AllocError) → line ≡ line' → IfOk result (IsTurn list truths ending notes line walk) → IfOk result (IsTurn list truths ending notes line' walk)
turn-moved list truths ending notes line line' walk result e h = subst (λ l. IfOk result (IsTurn list truths ending notes l walk)) e h

-- ---- the clause that forbids a truth

length-forbids : (variable : ℕ) (truth : List Bool) → length (forbids_from variable truth) ≡ length truth
length-forbids variable [] = refl
length-forbids variable (b ∷ truth) = ap suc (length-forbids (variable + 1) truth)

variable-at : (variable : ℕ) (truth : List Bool) (k : ℕ) (d : Literal) → k < length truth → (get_or (forbids_from variable truth) k d).variable ≡ variable + k
variable-at variable [] k d lt = absurd (omega (arith, lt))
variable-at variable (b ∷ truth) zero d lt = omega arith
variable-at variable (b ∷ truth) (suc k) d lt = variable-at (variable + 1) truth k d (omega (arith, lt)) ∙ omega arith

pub IsClause-forbids : (variables : ℕ) (truth : List Bool) → length truth ≤ variables → IsClause variables (forbids truth)
IsClause-forbids variables truth le = record {
  in_range = λ k d lt. (
      let at = variable-at 1 truth k d (omega (arith, lt, length-forbids 1 truth)) in
      (omega (arith, at), omega (arith, at, lt, length-forbids 1 truth, le)));
  apart = λ i j d ij lt e. (
      let at_i = variable-at 1 truth i d (omega (arith, ij, lt, length-forbids 1 truth)) in
      let at_j = variable-at 1 truth j d (omega (arith, lt, length-forbids 1 truth)) in
      omega (arith, at_i, at_j, ij, e));
}
