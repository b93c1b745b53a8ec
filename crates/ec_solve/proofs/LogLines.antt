-- The lines of an accepted log are lines that can be read.
use Rattle.std.proofs.Common.{◌≡◌, ℕ, ◌+◌, ◌<◌, ◌≤◌, ◌^◌, ◌&&◌, nat_le, Bool, true, false, cond, List, [], ◌∷◌, length, map, take, get_or, Option, Some, None, All, refl, sym, ap, subst, arith, length-append}
use Rattle.std.proofs.lemmas.Bool.Decides.{nat_tests}
use Rattle.std.proofs.lemmas.List.{length-map, length-take}
use Rattle.std.proofs.lemmas.List.Elements.{All-cons, All-nil}
use Rattle.std.specs.List.{AllByRecursion}
use Rattle.ec_clause.specs.ClauseList.{ClauseList, clause_at}
use Rattle.ec_clause.specs.Note.{Note, Derived, Blocked}
use Rattle.ec_clause.specs.Truth.{Truth, unit_literal}
use Rattle.ec_clause.specs.Step.{Fault, Unknown, is_known, all_false, unit_or, go_on, hints_fault}
use Rattle.ec_clause.specs.Ending.{number_of}
use Rattle.ec_clause.specs.declared.ending.Ending.{Ending}
use Rattle.ec_clause.specs.declared.ending.Ending.TheVariants.{Complete, Models, Conflicts}
use Rattle.ec_log.specs.Line.{IsLine}
use Rattle.ec_log.specs.Log.{Log, CountsUp, IsNote, HasLimit, HasRange, log_lines}
use Rattle.ec_log.proofs.WrittenLines.{written_lines}
use Rattle.ec_certificate.specs.Accepted.{IsRight, IsAccepted, forbids_from, with_notes, clause_of}
use Rattle.ec_solve.specs.Found.{IsWithin}
use Rattle.ec_solve.specs.declared.searching.Bounds.{Bounds}

-- ---- hints

-- a hint that names a clause
record IsKnown (c : ClauseList) (hint : ℕ) : Type 0 where
  pub low : 1 ≤ hint
  pub high : hint ≤ length c.clauses

known_within : (c : ClauseList) (h : ℕ) → is_known c h ≡ true → IsKnown c h
known_within c h known = by_test (nat_le 1 h) refl known
  where
    by_test : (b : Bool) → nat_le 1 h ≡ b → (b && nat_le h (length c.clauses)) ≡ true → IsKnown c h
    by_test true e known = record { low = grind (arith, nat_tests); high = grind (arith, nat_tests) }
    by_test false e known = cc

known_from : (b : Bool) (x : Option Fault) (at : ℕ) → cond b x (Some (Unknown at)) ≡ None → (b ≡ true) × (x ≡ None)
known_from true x at h = (refl, h)
known_from false x at h = cc

going_from : (rest : Truth → Option Fault) (at : ℕ) (o : Option Truth) (P : Type 0) → ((p : Truth) → rest p ≡ None → P) → go_on rest at o ≡ None → P
going_from rest at None P next e = cc
going_from rest at (Some p) P next e = next p e

-- each hint of a step names a clause
hints_known : (c : ClauseList) (hints : List ℕ) (p : Truth) (at : ℕ) → hints_fault c hints p at ≡ None → All (IsKnown c) hints
hints_known c [] p at e = cc
hints_known c (h ∷ []) p at e =
    let known = known_from (is_known c h) _ at e in
    All-cons (IsKnown c) h [] (known_within c h known.0) (All-nil (IsKnown c))
hints_known c (h ∷ g ∷ gs) p at e =
    let known = known_from (is_known c h) _ at e in
    All-cons (IsKnown c) h (g ∷ gs) (known_within c h known.0) (going_from (λ q. hints_fault c (g ∷ gs) q (at + 1)) at (unit_or (unit_literal p (clause_at c h)) p) (All (IsKnown c) (g ∷ gs)) (λ q f. hints_known c (g ∷ gs) q (at + 1) f) known.1)

-- ---- notes

counts_up : (variable : ℕ) (truth : List Bool) → CountsUp variable (forbids_from variable truth)
counts_up variable [] = tt
counts_up variable (b ∷ truth) = (refl, counts_up (variable + 1) truth)

-- a note that is right can be written,
pub note_of_right : (list : ClauseList) (truths : List (List Bool)) (before : List Note) (note : Note) → IsRight list truths before note → IsNote note
note_of_right list truths before (Derived lits hints) r = (λ k d lt. (hints_known (with_notes list before) hints (all_false list.variables lits) 0 r.follows k d lt).low)
note_of_right list truths before (Blocked lits) r = subst (CountsUp 1) (sym r.0.forbidden) (counts_up 1 r.0.truth)

-- and its parts have the ranges of their types
range_of_right : (list : ClauseList) (truths : List (List Bool)) (before : List Note) (note : Note) → list.variables < 2 ^ 31 → length list.clauses + length before < 2 ^ 32 → IsRight list truths before note → HasRange note
range_of_right list truths before (Derived lits hints) few few_clauses r =
    let size : length (with_notes list before).clauses ≡ length list.clauses + length before = omega (arith, length-append list.clauses (map clause_of before), length-map before clause_of) in (
      λ k d lt. (let l = r.clause.in_range k d lt in (l.0, omega (arith, l.1))),
      λ k d lt. omega (arith, (hints_known (with_notes list before) hints (all_false list.variables lits) 0 r.follows k d lt).high),
    )
range_of_right list truths before (Blocked lits) few few_clauses r = tt

-- ---- endings

-- the number of a limit is at least 1
pub limit_of_within : (bounds : Bounds) (truths : List (List Bool)) (notes : List Note) (ending : Ending) → 1 ≤ bounds.models → 1 ≤ bounds.conflicts → IsWithin bounds truths notes ending → HasLimit ending
limit_of_within bounds truths notes (Complete n) models conflicts w = tt
limit_of_within bounds truths notes (Models n) models conflicts w = omega (arith, models, w.1)
limit_of_within bounds truths notes (Conflicts n) models conflicts w = omega (arith, conflicts, w.0)

number_within : (bounds : Bounds) (truths : List (List Bool)) (notes : List Note) (ending : Ending) → bounds.models ≤ 10000 → bounds.conflicts ≤ 2000000000 → IsWithin bounds truths notes ending → number_of ending < 2 ^ 64
number_within bounds truths notes (Complete n) models conflicts w = omega (arith, models, w.1)
number_within bounds truths notes (Models n) models conflicts w = omega (arith, models, w.1)
number_within bounds truths notes (Conflicts n) models conflicts w = omega (arith, conflicts, w.0)

-- ---- lines

-- an accepted log within the bounds, over few variables and with few clauses, has lines that can be read
pub lines_of_accepted : (list : ClauseList) (bounds : Bounds) (truths : List (List Bool)) (ending : Ending) (log : Log) → 1 ≤ bounds.models → 1 ≤ bounds.conflicts → bounds.models ≤ 10000 → bounds.conflicts ≤ 2000000000 → list.variables < 2 ^ 31
    → length list.clauses + length log.notes < 2 ^ 32 → IsAccepted list truths ending log → IsWithin bounds truths log.notes ending → AllByRecursion IsLine (log_lines log ending)
lines_of_accepted list bounds truths ending log one_model one_conflict few_models few_conflicts few few_clauses a w =
    let variables : log.numbers.0 ≡ list.variables = ap (λ (ns : ℕ × ℕ). ns.0) a.numbers in
    let clauses : log.numbers.1 ≡ length list.clauses = ap (λ (ns : ℕ × ℕ). ns.1) a.numbers in
    written_lines log ending (λ k d lt. note_of_right list truths (take k log.notes) (get_or log.notes k d) (a.right k d lt)) (limit_of_within bounds truths log.notes ending one_model one_conflict w)
    (record {
      variables = omega arith;
      clauses = omega arith;
      notes = λ k d lt. range_of_right list truths (take k log.notes) (get_or log.notes k d) few (omega (arith, length-take k log.notes)) (a.right k d lt);
      number = number_within bounds truths log.notes ending few_models few_conflicts w;
    })
