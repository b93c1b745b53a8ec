-- The derived clauses of a log that repeats nothing are few.
use Rattle.std.proofs.Common.{◌≡◌, ◌≢◌, ℕ, suc, ◌+◌, ◌^◌, ◌<◌, ◌≤◌, Bool, true, false, cond, List, [], ◌∷◌, ◌++◌, length, take, get_or, map, filter, All, AllPairs, Contains, refl, sym, ap, ◌∙◌, subst, arith}
use Rattle.std.proofs.lemmas.Bool.{eqb-true, true≢false}
use Rattle.std.proofs.lemmas.Bool.Decides.{Decides-eqb}
use Rattle.std.proofs.lemmas.List.{get_or-append-add, get_or-map, get_or-take, length-map, length-append, length-take-le}
use Rattle.std.proofs.lemmas.List.Elements.{All-cons, All-map, All-filter, All-contains, filter_passes}
use Rattle.std.proofs.lemmas.List.Kept.{AllPairs-cons}
use Rattle.std.proofs.lemmas.List.Sums.{length-filter}
use Rattle.std.proofs.lemmas.Map.Views.{Contains-from_any}
use Rattle.std.proofs.lemmas.Map.Made.{IsDistinct-from_AllPairs}
use Rattle.std.proofs.lemmas.Map.Steps.{length-le_from_distinct_below}
use Rattle.ec_clause.specs.Literal.{Literal}
use Rattle.ec_clause.specs.ClauseList.{ClauseList, clause_at, IsClause}
use Rattle.ec_clause.specs.Note.{Note, Derived, Blocked}
use Rattle.ec_certificate.specs.Accepted.{clause_of, with_notes, has_literal, AreRight, IsRight}
use Rattle.ec_certificate.specs.Shown.{RepeatsNothing, AreFewDerived}
use Rattle.ec_certificate.proofs.Codes.{code_of, code_of-lt, code_of-same, code_of-some}

-- pairs that pass a test are related in what a filter keeps
pairs-filter : {X : Type 0} (R : X → X → Type 0) (p : X → Bool) (xs : List X) → ((i j : ℕ) (d : X) → i < j → j < length xs → p (get_or xs i d) ≡ true → p (get_or xs j d) ≡ true → R (get_or xs i d) (get_or xs j d)) → AllPairs R (filter p xs)
pairs-filter R p [] h = λ i j d ij lt. absurd (omega (arith, lt))
pairs-filter {X} R p (x ∷ xs) h = cases (p x) refl (pairs-filter R p xs (λ i j d ij lt f g. h (suc i) (suc j) d (omega (arith, ij)) (omega (arith, lt)) f g))
  where
    cases : (b : Bool) → p x ≡ b → AllPairs R (filter p xs) → AllPairs R (cond b (x ∷ filter p xs) (filter p xs))
    cases false e rest = rest
    cases true e rest =
        let later : All (λ y. p y ≡ true → R x y) (filter p xs) = All-filter p (λ y. p y ≡ true → R x y) xs (λ k d lt f. h 0 (suc k) d (omega arith) (omega (arith, lt)) e f) in
        AllPairs-cons R x (filter p xs) (λ k d lt. later k d lt (filter_passes p xs k d lt)) rest

-- a derived clause with a literal, as a note is known to be
record IsLiteralNote (note : Note) : Type 0 where
  lits : List Literal
  hints : List ℕ
  is : note ≡ Derived lits hints
  some : 0 < length lits

literal_note : (note : Note) → has_literal note ≡ true → IsLiteralNote note
literal_note (Derived [] hints) h = absurd (true≢false (sym h))
literal_note (Derived (l ∷ lits) hints) h = record { lits = l ∷ lits; hints = hints; is = refl; some = omega arith }
literal_note (Blocked lits) h = absurd (true≢false (sym h))

right-clause : (list : ClauseList) (truths : List (List Bool)) (before : List Note) (note : Note) → IsRight list truths before note → has_literal note ≡ true → IsClause list.variables (clause_of note)
right-clause list truths before (Derived lits hints) right h = right.clause
right-clause list truths before (Blocked lits) right h = absurd (true≢false (sym h))

-- the clause of a note at a place, by its number
clause_at-note : (list : ClauseList) (notes : List Note) (i j : ℕ) (d : Note) → i < j → j ≤ length notes → clause_at (with_notes list (take j notes)) (length list.clauses + i + 1) ≡ clause_of (get_or notes i d)
clause_at-note list notes i j d ij le =
    let size : length (take j notes) ≡ j = length-take-le j notes le in
    ap (λ k. get_or (list.clauses ++ map clause_of (take j notes)) k []) (omega arith) ∙ get_or-append-add list.clauses (map clause_of (take j notes)) i [] ∙ get_or-map clause_of (take j notes) i d [] (omega (arith, ij, size)) ∙ ap clause_of (get_or-take j notes i d ij)

-- two derived clauses with a literal have two numbers
codes-apart : (list : ClauseList) (truths : List (List Bool)) (notes : List Note) → AreRight list truths notes → RepeatsNothing list notes → (i j : ℕ) (d : Note) → i < j → j < length notes → has_literal (get_or notes i d) ≡ true → has_literal (get_or notes j d) ≡ true
    → code_of list.variables (clause_of (get_or notes i d)) ≢ code_of list.variables (clause_of (get_or notes j d))
codes-apart list truths notes right fresh i j d ij lt hi hj same =
    let w = literal_note (get_or notes j d) hj in
    let a = clause_of (get_or notes i d) in
    let clause = right-clause list truths (take i notes) (get_or notes i d) (right i d (omega (arith, ij, lt))) hi in
    let inside : All (Contains w.lits) a = code_of-same list.variables a w.lits clause (same ∙ ap (λ n. code_of list.variables (clause_of n)) w.is) in
    let c = with_notes list (take j notes) in
    let number = length list.clauses + i + 1 in
    let high : number ≤ length c.clauses = omega (arith, ij, length-append list.clauses (map clause_of (take j notes)), length-map (take j notes) clause_of, length-take-le j notes (omega (arith, lt))) in
    fresh j d w.lits w.hints lt w.is w.some number (record { low = omega arith; high = high }) (subst (All (Contains w.lits)) (sym (clause_at-note list notes i j d ij (omega (arith, lt)))) inside)

-- Where nothing is repeated, the derived clauses are few.
pub are_few_derived : AreFewDerived
are_few_derived list truths ending log accepted fresh =
    let n = list.variables in
    let code = λ (note : Note). code_of n (clause_of note) in
    let kept = filter has_literal log.notes in
    let numbers = map code kept in
    let pairs : AllPairs (λ (a b : Note). code a ≢ code b) kept = pairs-filter (λ (a b : Note). code a ≢ code b) has_literal log.notes (codes-apart list truths log.notes accepted.right fresh) in
    let each : All (λ (note : Note). has_literal note ≡ true → 0 ≢ code note) log.notes = (λ k d lt h zero_is. (
    let note = get_or log.notes k d in
    let w = literal_note note h in
    code_of-some n (clause_of note) (right-clause list truths (take k log.notes) note (accepted.right k d lt) h) (omega (arith, w.some, ap (λ x. length (clause_of x)) w.is)) (sym zero_is))) in
    let some : All (λ (note : Note). 0 ≢ code note) kept = (λ k d lt. All-filter has_literal (λ (note : Note). has_literal note ≡ true → 0 ≢ code note) log.notes each k d lt (filter_passes has_literal log.notes k d lt)) in
    let d0 = Blocked [] in
    let size : length numbers ≡ length kept = length-map kept code in
    let apart : AllPairs (λ (x y : ℕ). x ≢ y) numbers = (λ i j d ij lt e. (
    let first = get_or-map code kept i d0 d (omega (arith, ij, lt, size)) in
    let second = get_or-map code kept j d0 d (omega (arith, lt, size)) in
    pairs i j d0 ij (omega (arith, lt, size)) (sym first ∙ e ∙ second))) in
    let whole : AllPairs (λ (x y : ℕ). x ≢ y) (0 ∷ numbers) = AllPairs-cons (λ (x y : ℕ). x ≢ y) 0 numbers (All-map (λ x. 0 ≢ x) code kept some) apart in
    let below : All (λ x. x < 3 ^ n) (0 ∷ numbers) = All-cons (λ x. x < 3 ^ n) 0 numbers (omega (arith, code_of-lt n [])) (All-map (λ x. x < 3 ^ n) code kept (λ k d lt. code_of-lt n (clause_of (get_or kept k d)))) in
    let few = length-le_from_distinct_below (0 ∷ numbers) (3 ^ n) (IsDistinct-from_AllPairs Decides-eqb (0 ∷ numbers) whole) (λ q h. All-contains (λ x. x < 3 ^ n) (0 ∷ numbers) q below (Contains-from_any eqb-true q (0 ∷ numbers) h)) in
    omega (arith, few, size, length-filter has_literal log.notes)
