-- Notes behind right notes.
use Rattle.std.proofs.Common.{◌≡◌, ℕ, zero, suc, ◌+◌, ◌-◌, ◌<◌, Bool, true, false, cond, List, [], ◌∷◌, ◌++◌, length, take, get_or, map, All, Contains, count_by, refl, sym, ap, ◌∙◌, subst, inl, inr, arith}
use Rattle.std.proofs.lemmas.Bool.{cases_lt, true≢false, or_from}
use Rattle.std.proofs.lemmas.List.{append-nil, append_assoc, map-append, take-append-le, get_or_append_left, get_or-append_right, get_or-map, take-map, length-map, length-append}
use Rattle.std.proofs.lemmas.List.Elements.{All-map, Contains-append_left}
use Rattle.std.proofs.lemmas.List.Folds.{list_any-append, list_any_none, list_any_at}
use Rattle.std.proofs.lemmas.List.Sums.{sum_by-append, sum_by-cons}
use Rattle.std.specs.List.{list_any}
use Rattle.ec_clause.specs.Literal.{Literal}
use Rattle.ec_clause.specs.ClauseList.{ClauseList}
use Rattle.ec_clause.specs.Note.{Note, Derived, Blocked}
use Rattle.ec_clause.specs.Step.{IsStep}
use Rattle.ec_sat.specs.Reasons.{ContainsNone}
use Rattle.ec_sat.specs.Run.{Derivation, note_of, lits_of, extended, IsRun, HaveLiterals}
use Rattle.ec_certificate.specs.Accepted.{clause_of, with_notes, is_derived, refutes, IsRight, AreRight}
use Rattle.ec_certificate.specs.Shown.{RepeatsNothing}

take-append_right : {X : Type 0} (xs ys : List X) (j k : ℕ) → k ≡ length xs + j → take k (xs ++ ys) ≡ xs ++ take j ys
take-append_right [] ys j k e = ap (λ n. take n ys) (omega (arith, e))
take-append_right (x ∷ xs) ys j zero e = absurd (omega (arith, e))
take-append_right (x ∷ xs) ys j (suc k) e = ap (λ zs. x ∷ zs) (take-append_right xs ys j k (omega (arith, e)))

-- something holds of each note and those before it
abbrev pub Each : (List Note → Note → Type 0) → List Note → Type 0
Each F notes = (k : ℕ) (d : Note) → k < length notes → F (take k notes) (get_or notes k d)

pub moved : (F : List Note → Note → Type 0) (before before' : List Note) (note note' : Note) → before ≡ before' → note ≡ note' → F before' note' → F before note
moved F before before' note note' e f h = subst (λ ns. F ns note) (sym e) (subst (F before') (sym f) h)

pub each-append : (F : List Note → Note → Type 0) (notes more : List Note) → Each F notes → ((k : ℕ) (d : Note) → k < length more → F (notes ++ take k more) (get_or more k d)) → Each F (notes ++ more)
each-append F notes more old new k d lt = elim (cases_lt k (length notes)) [
  | inl below ↦ moved F (take k (notes ++ more)) (take k notes) (get_or (notes ++ more) k d) (get_or notes k d) (take-append-le k notes more (omega arith)) (get_or_append_left notes more d k below) (old k d below)
  | inr above ↦ (
      let j = k - length notes in
      let size : k ≡ length notes + (k - length notes) = omega (arith, above) in
      moved F (take k (notes ++ more)) (notes ++ take j more) (get_or (notes ++ more) k d) (get_or more j d) (take-append_right notes more j k size) (get_or-append_right notes more (length notes) k d refl above)
      (new j d (omega (arith, lt, above, length-append notes more))))
]

pub each-push : (F : List Note → Note → Type 0) (notes : List Note) (note : Note) → Each F notes → F notes note → Each F (notes ++ note ∷ [])
each-push F notes note old new = each-append F notes (note ∷ []) old (λ k d lt. at k d lt)
  where
    at : (k : ℕ) (d : Note) → k < length (note ∷ []) → F (notes ++ take k (note ∷ [])) (get_or (note ∷ []) k d)
    at zero d lt = subst (λ ns. F ns note) (sym (append-nil notes)) new
    at (suc k) d lt = absurd (omega (arith, lt))

-- right also where more truths are listed
pub right-more : (list : ClauseList) (truths truths' : List (List Bool)) (before : List Note) (note : Note) → ((t : List Bool) → Contains truths t → Contains truths' t) → IsRight list truths before note → IsRight list truths' before note
right-more list truths truths' before (Derived lits hints) more h = h
right-more list truths truths' before (Blocked lits) more h = (record { truth = h.0.truth; listed = more h.0.truth h.0.listed; forbidden = h.0.forbidden }, h.1)

pub are_right-more : (list : ClauseList) (truths truths' : List (List Bool)) (notes : List Note) → ((t : List Bool) → Contains truths t → Contains truths' t) → AreRight list truths notes → AreRight list truths' notes
are_right-more list truths truths' notes more h k d lt = right-more list truths truths' (take k notes) (get_or notes k d) more (h k d lt)

lits-notes : (steps : List Derivation) → map lits_of steps ≡ map clause_of (map note_of steps)
lits-notes [] = refl
lits-notes (s ∷ ss) = ap (λ cs. s.lits ∷ cs) (lits-notes ss)

-- derived clauses behind a list with notes are their notes behind it
pub extended-with_notes : (list : ClauseList) (notes : List Note) (steps : List Derivation) → extended (with_notes list notes) steps ≡ with_notes list (notes ++ map note_of steps)
extended-with_notes list notes steps =
    let clauses : (list.clauses ++ map clause_of notes) ++ map lits_of steps ≡ list.clauses ++ map clause_of (notes ++ map note_of steps) =
    append_assoc list.clauses (map clause_of notes) (map lits_of steps) ∙ ap (λ cs. list.clauses ++ (map clause_of notes ++ cs)) (lits-notes steps) ∙ ap (λ cs. list.clauses ++ cs) (sym (map-append clause_of notes (map note_of steps))) in
    ap (λ cs. record { variables = list.variables; clauses = cs }) clauses

pub with_notes-push : (list : ClauseList) (notes : List Note) (note : Note) → with_notes list (notes ++ note ∷ []) ≡ record { variables = list.variables; clauses = (with_notes list notes).clauses ++ clause_of note ∷ [] }
with_notes-push list notes note =
    let clauses : list.clauses ++ map clause_of (notes ++ note ∷ []) ≡ (list.clauses ++ map clause_of notes) ++ clause_of note ∷ [] =
    ap (λ cs. list.clauses ++ cs) (map-append clause_of notes (note ∷ [])) ∙ sym (append_assoc list.clauses (map clause_of notes) (clause_of note ∷ [])) in
    ap (λ cs. record { variables = list.variables; clauses = cs }) clauses

-- the clauses before a step of a run
before_step : (list now : ClauseList) (notes : List Note) (steps : List Derivation) (k : ℕ) → now ≡ with_notes list notes → extended now (take k steps) ≡ with_notes list (notes ++ take k (map note_of steps))
before_step list now notes steps k is =
    ap (λ c. extended c (take k steps)) is ∙ extended-with_notes list notes (take k steps) ∙ ap (λ ns. with_notes list (notes ++ ns)) (sym (take-map note_of k steps))

some_step : Derivation
some_step = record { lits = []; hints = [] }

pub run-right : (list now now' : ClauseList) (truths : List (List Bool)) (notes notes' : List Note) (steps : List Derivation) → AreRight list truths notes → now ≡ with_notes list notes → IsRun now now' notes notes' steps → AreRight list truths notes'
run-right list now now' truths notes notes' steps right is run =
    subst (AreRight list truths) (sym run.noted) (each-append (IsRight list truths) notes (map note_of steps) right (λ k d lt.
    let below : k < length steps = omega (arith, lt, length-map steps note_of) in
    let s = get_or steps k some_step in
    let step : IsStep (with_notes list (notes ++ take k (map note_of steps))) s.lits s.hints = subst (λ c. IsStep c s.lits s.hints) (before_step list now notes steps k is) (run.each k some_step below).step in
    subst (IsRight list truths (notes ++ take k (map note_of steps))) (sym (get_or-map note_of steps k some_step d below)) step))

-- a note with a literal contains none of the clauses before it
abbrev pub IsFresh : ClauseList → List Note → Note → Type 0
IsFresh list before note = (lits : List Literal) (hints : List ℕ) → note ≡ Derived lits hints → 0 < length lits → ContainsNone (with_notes list before) lits

pub fresh_from : (list : ClauseList) (notes : List Note) → RepeatsNothing list notes → Each (IsFresh list) notes
fresh_from list notes h k d lt lits hints is some = h k d lits hints lt is some

pub repeats_from : (list : ClauseList) (notes : List Note) → Each (IsFresh list) notes → RepeatsNothing list notes
repeats_from list notes h k d lits hints lt is some = h k d lt lits hints is some

pub run-repeats_nothing : (list now now' : ClauseList) (notes notes' : List Note) (steps : List Derivation) → RepeatsNothing list notes → now ≡ with_notes list notes → IsRun now now' notes notes' steps → RepeatsNothing list notes'
run-repeats_nothing list now now' notes notes' steps old is run =
    subst (RepeatsNothing list) (sym run.noted) (repeats_from list (notes ++ map note_of steps) (each-append (IsFresh list) notes (map note_of steps) (fresh_from list notes old) (λ k d lt lits hints same some.
    let below : k < length steps = omega (arith, lt, length-map steps note_of) in
    let s = get_or steps k some_step in
    let equal : s.lits ≡ lits = ap clause_of (sym (get_or-map note_of steps k some_step d below) ∙ same) in
    let size : 0 < length s.lits = omega (arith, some, ap length equal) in
    subst (λ c. ContainsNone c lits) (before_step list now notes steps k is) (subst (ContainsNone (extended now (take k steps))) equal ((run.each k some_step below).none size)))))

refutes-literal : (lits : List Literal) (hints : List ℕ) → 0 < length lits → refutes (Derived lits hints) ≡ false
refutes-literal [] hints h = absurd (omega (arith, h))
refutes-literal (l ∷ lits) hints h = refl

-- notes with literals refute nothing
pub refutes-steps : (notes : List Note) (steps : List Derivation) → list_any refutes notes ≡ false → HaveLiterals steps → list_any refutes (notes ++ map note_of steps) ≡ false
refutes-steps notes steps none have =
    list_any-append refutes notes (map note_of steps) ∙ or_from (list_any refutes notes) (list_any refutes (map note_of steps)) none
    (list_any_none refutes (map note_of steps) (All-map (λ note. refutes note ≡ false) note_of steps (λ k d lt. refutes-literal (get_or steps k d).lits (get_or steps k d).hints (have k d lt))))

pub blocked-append : (notes more : List Note) (truths : List (List Bool)) (clause : List Bool → List Literal) → All (λ truth. Contains notes (Blocked (clause truth))) truths → All (λ truth. Contains (notes ++ more) (Blocked (clause truth))) truths
blocked-append notes more truths clause h k d lt = Contains-append_left notes more (Blocked (clause (get_or truths k d))) (h k d lt)

-- where no note refutes, none at a place does
pub refutes-none_at : (notes : List Note) → list_any refutes notes ≡ false → (k : ℕ) (d : Note) → k < length notes → refutes (get_or notes k d) ≡ true → ⊥
refutes-none_at notes none k d lt h = true≢false (sym (list_any_at refutes notes k d lt h) ∙ none)

count-steps : (steps : List Derivation) → count_by is_derived (map note_of steps) ≡ length steps
count-steps [] = refl
count-steps (s ∷ ss) =
    let more : count_by is_derived (map note_of (s ∷ ss)) ≡ 1 + count_by is_derived (map note_of ss) = sum_by-cons (λ (n : Note). cond (is_derived n) 1 0) (note_of s) (map note_of ss) in
    omega (arith, more, count-steps ss)

-- a run adds its length to the number of derived clauses
pub run-counted : (now now' : ClauseList) (notes notes' : List Note) (steps : List Derivation) → IsRun now now' notes notes' steps → count_by is_derived notes' ≡ count_by is_derived notes + length steps
run-counted now now' notes notes' steps run =
    ap (count_by is_derived) run.noted ∙ sum_by-append (λ (n : Note). cond (is_derived n) 1 0) notes (map note_of steps) ∙ ap (λ n. count_by is_derived notes + n) (count-steps steps)
