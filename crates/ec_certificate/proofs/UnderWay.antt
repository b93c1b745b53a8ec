-- A log under way: how it begins, goes on and ends.
use Rattle.std.proofs.Common.{◌≡◌, ℕ, ◌+◌, ◌<◌, Bool, true, false, List, [], ◌∷◌, ◌++◌, length, get_or, map, All, Contains, count_by, refl, sym, ap, ◌∙◌, subst, inl, inr, arith}
use Rattle.std.proofs.lemmas.Bool.{cases_lt, true≢false, or_from}
use Rattle.std.proofs.lemmas.List.{append-nil, append_assoc, map-append, get_or_append_left, get_or_push, get_or-map, length-map, length-append, length_push}
use Rattle.std.proofs.lemmas.List.Elements.{All-push, All-contains, Contains-push, Contains-append_left, Contains-append_right}
use Rattle.std.proofs.lemmas.List.Folds.{list_any-append, list_any_at}
use Rattle.std.specs.List.{list_any, range_with_len}
use Rattle.ec_clause.specs.Literal.{Literal}
use Rattle.ec_clause.specs.ClauseList.{ClauseList}
use Rattle.ec_clause.specs.Note.{Note, Derived, Blocked}
use Rattle.ec_clause.specs.Truth.{Truth}
use Rattle.ec_clause.specs.Step.{AllHold}
use Rattle.ec_clause.specs.declared.ending.Ending.TheVariants.{Complete, Models, Conflicts}
use Rattle.ec_sat.specs.Run.{Derivation, note_of, extended, IsRun, HaveLiterals, EndEmpty, value_in, blocked_clause}
use Rattle.ec_certificate.specs.Accepted.{forbids, clause_of, with_notes, is_derived, refutes, IsRight, AreRight, IsAccepted}
use Rattle.ec_certificate.specs.Shown.{visible_part, RepeatsNothing}
use Rattle.ec_certificate.specs.Progress.{IsUnderWay, log_of}
use Rattle.ec_certificate.proofs.Forbidding.{forbids-fails, blocked_clause-forbids}
use Rattle.ec_certificate.proofs.Holding.{Meets}
use Rattle.ec_certificate.proofs.Appending.{each-push, are_right-more, extended-with_notes, with_notes-push, run-right, IsFresh, fresh_from, repeats_from, run-repeats_nothing, refutes-steps, refutes-none_at, blocked-append}

-- A log begins without a note.
pub under_way-none : (list : ClauseList) → IsUnderWay list [] [] list
under_way-none list = record {
  right = λ k d lt. absurd (omega (arith, lt));
  repeats_nothing = λ k d lits hints lt is some. absurd (omega (arith, lt));
  blocked = λ k d lt. absurd (omega (arith, lt));
  open_still = refl;
  now_is = ap (λ cs. record { variables = list.variables; clauses = cs }) (sym (append-nil list.clauses));
}

run-now : (list now now' : ClauseList) (notes notes' : List Note) (steps : List Derivation) → now ≡ with_notes list notes → IsRun now now' notes notes' steps → now' ≡ with_notes list notes'
run-now list now now' notes notes' steps is run =
    run.added ∙ ap (λ c. extended c steps) is ∙ extended-with_notes list notes steps ∙ ap (with_notes list) (sym run.noted)

-- A run whose clauses have literals leaves it under way.
pub under_way-run : (list now now' : ClauseList) (truths : List (List Bool)) (notes notes' : List Note) (steps : List Derivation) → IsUnderWay list truths notes now → IsRun now now' notes notes' steps → HaveLiterals steps → IsUnderWay list truths notes' now'
under_way-run list now now' truths notes notes' steps u run have = record {
  right = run-right list now now' truths notes notes' steps u.right u.now_is run;
  repeats_nothing = run-repeats_nothing list now now' notes notes' steps u.repeats_nothing u.now_is run;
  blocked = subst (λ ns. All (λ truth. Contains ns (Blocked (forbids truth))) truths) (sym run.noted) (blocked-append notes (map note_of steps) truths forbids u.blocked);
  open_still = ap (list_any refutes) run.noted ∙ refutes-steps notes steps u.open_still have;
  now_is = run-now list now now' notes notes' steps u.now_is run;
}

-- what meets the clauses of now meets the list
pub found-meets : (list now : ClauseList) (truths : List (List Bool)) (notes : List Note) (w : ℕ → Bool) → IsUnderWay list truths notes now → AllHold w now → AllHold w list
found-meets list now truths notes w u all k d lt =
    let whole : AllHold w (with_notes list notes) = subst (AllHold w) u.now_is all in
    subst (Meets w) (get_or_append_left list.clauses (map clause_of notes) d k lt) (whole k d (omega (arith, lt, length-append list.clauses (map clause_of notes))))

-- the clause that forbids its visible part is none of a note's
not_blocked : (list : ClauseList) (notes : List Note) (w : ℕ → Bool) (visible : ℕ) → AllHold w (with_notes list notes) → Contains notes (Blocked (forbids (visible_part visible w))) → ⊥
not_blocked list notes w visible all h =
    let clause = forbids (visible_part visible w) in
    let among : Contains (map clause_of notes) clause = (h.0, omega (arith, h.1, length-map notes clause_of), get_or-map clause_of notes h.0 (Blocked clause) clause h.1 ∙ ap clause_of h.2) in
    let holds = All-contains (Meets w) (list.clauses ++ map clause_of notes) clause all (Contains-append_right list.clauses (map clause_of notes) clause among) in
    true≢false (sym holds ∙ forbids-fails visible w)

-- The visible truth of what meets the clauses of now was not blocked before.
pub found-new : (list now : ClauseList) (truths : List (List Bool)) (notes : List Note) (visible : ℕ) (w : ℕ → Bool) → IsUnderWay list truths notes now → AllHold w now → Contains truths (map w (range_with_len 1 visible)) → ⊥
found-new list now truths notes visible w u all listed =
    not_blocked list notes w visible (subst (AllHold w) u.now_is all) (All-contains (λ truth. Contains notes (Blocked (forbids truth))) truths (map w (range_with_len 1 visible)) u.blocked listed)

-- a list of clauses is its parts
list_is : (c : ClauseList) (n : ℕ) (cs : List (List Literal)) → c.variables ≡ n → c.clauses ≡ cs → c ≡ record { variables = n; clauses = cs }
list_is c n cs e f = ap (λ m. record { variables = m; clauses = c.clauses }) e ∙ ap (λ xs. record { variables = n; clauses = xs }) f

-- A model that is blocked leaves it under way, with one truth more.
pub under_way-block : (list now now' : ClauseList) (truths : List (List Bool)) (notes notes' : List Note) (visible : ℕ) (p : Truth) → IsUnderWay list truths notes now → AllHold (value_in p) now → now'.variables ≡ now.variables
    → now'.clauses ≡ now.clauses ++ blocked_clause visible p ∷ [] → notes' ≡ notes ++ Blocked (blocked_clause visible p) ∷ [] → IsUnderWay list (truths ++ map (value_in p) (range_with_len 1 visible) ∷ []) notes' now'
under_way-block list now now' truths notes notes' visible p u all same grown noted =
    let truth = map (value_in p) (range_with_len 1 visible) in
    let clause = blocked_clause visible p in
    let note = Blocked clause in
    let fb : clause ≡ forbids truth = blocked_clause-forbids visible p in
    let whole : AllHold (value_in p) (with_notes list notes) = subst (AllHold (value_in p)) u.now_is all in
    let clauses : now'.clauses ≡ (with_notes list notes).clauses ++ clause ∷ [] = grown ∙ ap (λ (c : ClauseList). c.clauses ++ clause ∷ []) u.now_is in
    let variables : now'.variables ≡ list.variables = same ∙ ap (λ (c : ClauseList). c.variables) u.now_is in
    let old : AreRight list (truths ++ truth ∷ []) notes = are_right-more list truths (truths ++ truth ∷ []) notes (λ t c. Contains-append_left truths (truth ∷ []) t c) u.right in
    let right : AreRight list (truths ++ truth ∷ []) (notes ++ note ∷ []) =
    each-push (IsRight list (truths ++ truth ∷ [])) notes note old (record { truth = truth; listed = Contains-push truths truth; forbidden = fb }, λ h. not_blocked list notes (value_in p) visible whole (subst (λ c. Contains notes (Blocked c)) fb h)) in
    let fresh : RepeatsNothing list (notes ++ note ∷ []) =
    repeats_from list (notes ++ note ∷ []) (each-push (IsFresh list) notes note (fresh_from list notes u.repeats_nothing) (λ lits hints is some. absurd (true≢false (sym (ap is_derived is))))) in
    let blocked : All (λ t. Contains (notes ++ note ∷ []) (Blocked (forbids t))) (truths ++ truth ∷ []) =
    All-push (λ t. Contains (notes ++ note ∷ []) (Blocked (forbids t))) truths truth (blocked-append notes (note ∷ []) truths forbids u.blocked) (subst (λ c. Contains (notes ++ note ∷ []) (Blocked c)) fb (Contains-push notes note)) in
    record {
      right = subst (AreRight list (truths ++ truth ∷ [])) (sym noted) right;
      repeats_nothing = subst (RepeatsNothing list) (sym noted) fresh;
      blocked = subst (λ ns. All (λ t. Contains ns (Blocked (forbids t))) (truths ++ truth ∷ [])) (sym noted) blocked;
      open_still = ap (list_any refutes) noted ∙ list_any-append refutes notes (note ∷ []) ∙ or_from (list_any refutes notes) (list_any refutes (note ∷ [])) u.open_still refl;
      now_is = list_is now' list.variables ((with_notes list notes).clauses ++ clause ∷ []) variables clauses ∙ sym (with_notes-push list notes note) ∙ ap (with_notes list) (sym noted);
    }

-- A log under way can end at a limit on models, whatever its number.
pub accepted-models : (list now : ClauseList) (truths : List (List Bool)) (notes : List Note) (n : ℕ) → IsUnderWay list truths notes now → IsAccepted list truths (Models n) (log_of list notes)
accepted-models list now truths notes n u = record {
  numbers = refl;
  right = u.right;
  last = λ k d lt h. absurd (refutes-none_at notes u.open_still k d lt h);
  blocked = u.blocked;
  ended = u.open_still;
}

-- It can end at a limit on derived clauses, which is their number.
pub accepted-conflicts : (list now : ClauseList) (truths : List (List Bool)) (notes : List Note) (n : ℕ) → IsUnderWay list truths notes now → count_by is_derived notes ≡ n → IsAccepted list truths (Conflicts n) (log_of list notes)
accepted-conflicts list now truths notes n u count = record {
  numbers = refl;
  right = u.right;
  last = λ k d lt h. absurd (refutes-none_at notes u.open_still k d lt h);
  blocked = u.blocked;
  ended = (u.open_still, count);
}

-- notes of which the last alone refutes
record EndRefuted (notes : List Note) : Type 0 where
  front : List Note
  note : Note
  are : notes ≡ front ++ note ∷ []
  refuting : refutes note ≡ true
  none : list_any refutes front ≡ false

end-refuted : (now now' : ClauseList) (notes notes' : List Note) (steps : List Derivation) → list_any refutes notes ≡ false → IsRun now now' notes notes' steps → EndEmpty steps → EndRefuted notes'
end-refuted now now' notes notes' steps none run e = record {
  front = notes ++ map note_of e.front;
  note = note_of e.last;
  are = run.noted ∙ ap (λ ss. notes ++ map note_of ss) e.are ∙ ap (λ ns. notes ++ ns) (map-append note_of e.front (e.last ∷ [])) ∙ sym (append_assoc notes (map note_of e.front) (note_of e.last ∷ []));
  refuting = ap (λ ls. refutes (Derived ls e.last.hints)) e.empty;
  none = refutes-steps notes e.front none e.literals;
}

refuted-any : (notes : List Note) → EndRefuted notes → list_any refutes notes ≡ true
refuted-any notes e =
    let at : get_or (e.front ++ e.note ∷ []) (length e.front) e.note ≡ e.note = get_or_push e.front e.note e.note (length e.front) refl in
    ap (list_any refutes) e.are ∙ list_any_at refutes (e.front ++ e.note ∷ []) (length e.front) e.note (omega (arith, length_push e.front e.note)) (ap refutes at ∙ e.refuting)

refuted-last : (notes : List Note) (k : ℕ) (d : Note) → EndRefuted notes → k < length notes → refutes (get_or notes k d) ≡ true → k + 1 ≡ length notes
refuted-last notes k d e lt h =
    let size : length notes ≡ length e.front + 1 = ap length e.are ∙ length_push e.front e.note in
    elim (cases_lt k (length e.front)) [
      | inl below ↦ (
          let same : get_or notes k d ≡ get_or e.front k d = ap (λ ns. get_or ns k d) e.are ∙ get_or_append_left e.front (e.note ∷ []) d k below in
          absurd (refutes-none_at e.front e.none k d below (ap refutes (sym same) ∙ h)))
      | inr above ↦ omega (arith, lt, above, size)
    ]

-- A run that ends with the clause without a literal closes the log.
pub accepted-complete : (list now now' : ClauseList) (truths : List (List Bool)) (notes notes' : List Note) (steps : List Derivation) (n : ℕ) → IsUnderWay list truths notes now → IsRun now now' notes notes' steps → EndEmpty steps
    → IsAccepted list truths (Complete n) (log_of list notes')
accepted-complete list now now' truths notes notes' steps n u run e =
    let ended = end-refuted now now' notes notes' steps u.open_still run e in
    record {
      numbers = refl;
      right = run-right list now now' truths notes notes' steps u.right u.now_is run;
      last = λ k d lt h. refuted-last notes' k d ended lt h;
      blocked = subst (λ ns. All (λ truth. Contains ns (Blocked (forbids truth))) truths) (sym run.noted) (blocked-append notes (map note_of steps) truths forbids u.blocked);
      ended = refuted-any notes' ended;
    }
