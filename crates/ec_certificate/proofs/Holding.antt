-- What meets a clause list meets the clauses of right notes behind it.
use Rattle.std.proofs.Common.{◌≡◌, ℕ, zero, suc, ◌+◌, ◌-◌, ◌≤◌, Bool, true, false, not, cond, List, [], ◌∷◌, Option, Some, None, length, take, get_or, map, All, Contains, nat_le, refl, sym, ap, ◌∙◌, subst, inl, inr, arith}
use Rattle.std.proofs.lemmas.Bool.{cases_Bool, and_parts, leb-true, true≢false, not-true}
use Rattle.std.proofs.lemmas.List.Elements.{All-nil, All-cons, All-append, All-map, All-more}
use Rattle.std.proofs.lemmas.List.Folds.{Any-from_list_any, list_any_at}
use Rattle.std.specs.List.{list_any, range_with_len}
use Rattle.ec_clause.specs.Literal.{Literal}
use Rattle.ec_clause.specs.ClauseList.{ClauseList, clause_at}
use Rattle.ec_clause.specs.Note.{Note, Derived, Blocked}
use Rattle.ec_clause.specs.Truth.{Truth, unit_literal}
use Rattle.ec_clause.specs.Step.{Fault, Unknown, is_known, all_false, unit_or, go_on, hints_fault, IsStep, clause_holds, NamedHold, AllHold}
use Rattle.ec_clause.proofs.Sound.{step_holds}
use Rattle.ec_certificate.specs.Accepted.{forbids, clause_of, with_notes, refutes, IsRight, AreRight}
use Rattle.ec_certificate.specs.Shown.{visible_part, LeavesNoneOut}
use Rattle.ec_certificate.proofs.Forbidding.{forbids_from-fails_alone}

-- a truth meets a clause
abbrev pub Meets : (ℕ → Bool) → List Literal → Type 0
Meets w lits = clause_holds w lits ≡ true

known_holds : (c : ClauseList) (w : ℕ → Bool) (h : ℕ) → AllHold w c → is_known c h ≡ true → Meets w (clause_at c h)
known_holds c w h all known =
    let parts = and_parts (nat_le 1 h) (nat_le h (length c.clauses)) known in
    all (h - 1) [] (omega (arith, leb-true 1 h parts.0, leb-true h (length c.clauses) parts.1))

known_from : (b : Bool) (x : Option Fault) (at : ℕ) → cond b x (Some (Unknown at)) ≡ None → (b ≡ true) × (x ≡ None)
known_from true x at h = (refl, h)
known_from false x at h = cc

unit_from : (rest : Truth → Option Fault) (at : ℕ) (o : Option Truth) → go_on rest at o ≡ None → (q : Truth) × (rest q ≡ None)
unit_from rest at None h = cc
unit_from rest at (Some q) h = (q, h)

-- hints without a fault name clauses of the list
named_hold : (c : ClauseList) (w : ℕ → Bool) (hints : List ℕ) (p : Truth) (at : ℕ) → AllHold w c → hints_fault c hints p at ≡ None → NamedHold w c hints
named_hold c w [] p at all e = cc
named_hold c w (h ∷ []) p at all e =
    let known = known_from (is_known c h) _ at e in
    All-cons (λ n. Meets w (clause_at c n)) h [] (known_holds c w h all known.0) (All-nil (λ n. Meets w (clause_at c n)))
named_hold c w (h ∷ g ∷ gs) p at all e =
    let known = known_from (is_known c h) _ at e in
    let next = unit_from (λ q. hints_fault c (g ∷ gs) q (at + 1)) at (unit_or (unit_literal p (clause_at c h)) p) known.1 in
    All-cons (λ n. Meets w (clause_at c n)) h (g ∷ gs) (known_holds c w h all known.0) (named_hold c w (g ∷ gs) next.0 (at + 1) all next.1)

-- what meets a clause list meets each step from it
pub step-meets : (c : ClauseList) (lits : List Literal) (hints : List ℕ) (w : ℕ → Bool) → IsStep c lits hints → AllHold w c → Meets w lits
step-meets c lits hints w step all = step_holds c lits hints w step (named_hold c w hints (all_false c.variables lits) 0 all step.follows)

-- a truth meets the clauses of the listed truths
abbrev pub MeetsEach : (ℕ → Bool) → List (List Bool) → Type 0
MeetsEach w truths = (truth : List Bool) → Contains truths truth → Meets w (forbids truth)

pub note-meets : (list : ClauseList) (truths : List (List Bool)) (before : List Note) (note : Note) (w : ℕ → Bool) → IsRight list truths before note → AllHold w (with_notes list before) → MeetsEach w truths → Meets w (clause_of note)
note-meets list truths before (Derived lits hints) w right all each = step-meets (with_notes list before) lits hints w right all
note-meets list truths before (Blocked lits) w right all each = ap (clause_holds w) right.0.forbidden ∙ each right.0.truth right.0.listed

-- what meets the list, and the clauses of notes, meets the list with these notes
pub with_notes-hold : (list : ClauseList) (notes : List Note) (w : ℕ → Bool) → AllHold w list → All (λ note. Meets w (clause_of note)) notes → AllHold w (with_notes list notes)
with_notes-hold list notes w all each = All-append (Meets w) list.clauses (map clause_of notes) all (All-map (Meets w) clause_of notes each)

notes-meet : (list : ClauseList) (truths : List (List Bool)) (notes : List Note) (w : ℕ → Bool) → AreRight list truths notes → AllHold w list → MeetsEach w truths → (k : ℕ) → k ≤ length notes → All (λ note. Meets w (clause_of note)) (take k notes)
notes-meet list truths notes w right all each zero le = All-nil (λ note. Meets w (clause_of note))
notes-meet list truths notes w right all each (suc k) le =
    let before = notes-meet list truths notes w right all each k (omega arith) in
    let d = Blocked [] in
    let here = note-meets list truths (take k notes) (get_or notes k d) w (right k d (omega arith)) (with_notes-hold list (take k notes) w all before) each in
    let more : suc k ≡ k + 1 = omega arith in
    rw more (All-more (λ note. Meets w (clause_of note)) notes k d (omega arith) before here)

refutes-nil : (note : Note) → refutes note ≡ true → clause_of note ≡ []
refutes-nil (Derived [] hints) h = refl
refutes-nil (Derived (l ∷ lits) hints) h = cc
refutes-nil (Blocked lits) h = cc

-- nothing meets the list and the clauses of all listed truths where right notes derive the clause without a literal
pub refuted-meets_none : (list : ClauseList) (truths : List (List Bool)) (notes : List Note) (w : ℕ → Bool) → AreRight list truths notes → list_any refutes notes ≡ true → AllHold w list → MeetsEach w truths → ⊥
refuted-meets_none list truths notes w right closed all each =
    let a = Any-from_list_any refutes notes closed in
    let k = a.0 in
    let note = a.1 in
    let before = notes-meet list truths notes w right all each k (omega (arith, a.2)) in
    let here = note-meets list truths (take k notes) (get_or notes k note) w (right k note a.2) (with_notes-hold list (take k notes) w all before) each in
    let nil : clause_of (get_or notes k note) ≡ [] = ap clause_of a.3 ∙ refutes-nil note a.4 in
    true≢false (sym here ∙ ap (clause_holds w) nil)

-- A closed log leaves no truth out.
pub leaves_none_out : LeavesNoneOut
leaves_none_out list truths n visible log accepted sizes w all =
    let fails = λ (truth : List Bool). not (clause_holds w (forbids truth)) in
    elim (cases_Bool (list_any fails truths)) [
      | inl found ↦ (
          let a = Any-from_list_any fails truths found in
          let k = a.0 in
          let truth = a.1 in
          let size : length truth ≡ visible = ap length (sym a.3) ∙ sizes k truth a.2 in
          let same : visible_part visible w ≡ truth = ap (λ m. map w (range_with_len 1 m)) (sym size) ∙ forbids_from-fails_alone w 1 truth (not-true (clause_holds w (forbids truth)) a.4) in
          subst (λ (t : List Bool). Contains truths t) (sym same) (k, a.2, a.3))
      | inr none ↦ absurd (refuted-meets_none list truths log.notes w accepted.right accepted.ended all (λ truth listed. elim (cases_Bool (clause_holds w (forbids truth))) [
        | inl t ↦ t
        | inr f ↦ (
            let here : fails (get_or truths listed.0 truth) ≡ true = ap fails listed.2 ∙ ap not f in
            absurd (true≢false (sym (list_any_at fails truths listed.0 truth listed.1 here) ∙ none)))
      ]))
    ]
