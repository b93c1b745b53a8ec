-- A log is judged accepted exactly where it is the text of an accepted log, and a closed one leaves no truth out.
use Rattle.std.proofs.Common.{◌≡◌, ℕ, zero, suc, ◌+◌, ◌<◌, ◌≤◌, Bool, true, false, List, [], ◌∷◌, ◌++◌, length, take, get_or, map, Contains, refl, sym, ap, subst, ◌∙◌, inl, inr, arith}
use Rattle.std.specs.List.{flat_map, list_any, AllByRecursion}
use Rattle.std.proofs.lemmas.Bool.{cases_lt, cases_Bool, true≢false}
use Rattle.std.proofs.lemmas.Grind.{flat_map-append}
use Rattle.std.proofs.lemmas.List.{get_or-take, length-take}
use Rattle.std.proofs.lemmas.List.Folds.{Any-from_list_any, list_any_at}
use Rattle.ec_clause.specs.ClauseList.{ClauseList}
use Rattle.ec_clause.specs.Note.{Note}
use Rattle.ec_clause.specs.Step.{AllHold}
use Rattle.ec_clause.specs.declared.ending.Ending.{Ending}
use Rattle.ec_clause.specs.declared.ending.Ending.TheVariants.{Complete}
use Rattle.ec_log.specs.Line.{LogLine, End, IsLine}
use Rattle.ec_log.specs.Log.{Log, line_text, noted, log_lines, log_text}
use Rattle.ec_certificate.specs.Accepted.{refutes}
use Rattle.ec_certificate.specs.Judged.{Accepted, header_of, AreInOrder, IsJudged, accepted, IsAcceptedText}
use Rattle.ec_certificate.specs.Progress.{log_of}
use Rattle.ec_certificate.specs.Shown.{visible_part}
use Rattle.ec_certificate.proofs.Holding.{leaves_none_out}
use Rattle.ec_certificate.proofs.LineBytes.{OfOneLength}

-- the text of a log, as it is read
text-is : (list : ClauseList) (notes : List Note) (ending : Ending) → log_text (log_of list notes) ending ≡ line_text (header_of list) ++ (flat_map line_text (map noted notes) ++ (line_text (End ending) ++ []))
text-is list notes ending = ap (λ (bs : List ℕ). line_text (header_of list) ++ bs) (flat_map-append line_text (map noted notes) (End ending ∷ []))

-- the lines of notes that are in order, and the end line
lines-of : (notes : List Note) (end : LogLine) → ((k : ℕ) (d : Note) → k < length notes → IsLine (noted (get_or notes k d))) → IsLine end → AllByRecursion IsLine (map noted notes ++ end ∷ [])
lines-of [] end h is = (is, tt)
lines-of (n ∷ notes) end h is = (h 0 n (omega arith), lines-of notes end (λ k d lt. h (suc k) d (omega arith)) is)

-- nothing follows a clause without a literal
pub refutes-last : (list : ClauseList) (truths : List (List Bool)) (notes : List Note) → AreInOrder list truths notes → (k : ℕ) (d : Note) → k < length notes → refutes (get_or notes k d) ≡ true → k + 1 ≡ length notes
refutes-last list truths notes h k d lt is = elim (cases_lt (k + 1) (length notes)) [
  | inl more ↦ (
      let next = h (k + 1) d more in
      let here : get_or (take (k + 1) notes) k d ≡ get_or notes k d = get_or-take (k + 1) notes k d (omega arith) in
      absurd (true≢false (sym (list_any_at refutes (take (k + 1) notes) k d (omega (arith, length-take (k + 1) notes, more)) (ap refutes here ∙ is)) ∙ next.open_still)))
  | inr all ↦ omega (arith, all, lt)
]

-- an accepted log is the text of one
pub accepted-text : (size : ℕ) (list : ClauseList) (truths : List (List Bool)) (ending : Ending) (bytes : List ℕ) → IsJudged size list truths ending bytes Accepted → IsAcceptedText list truths ending bytes × (length bytes ≤ size)
accepted-text size list truths ending bytes (accepted notes r) = (
  record {
    log = log_of list notes;
    accepted = record {
      numbers = refl;
      right = λ k d lt. (r.reads.in_order k d lt).right;
      last = refutes-last list truths notes r.reads.in_order;
      blocked = r.ends.blocked;
      ended = r.ends.ended;
    };
    lines = (r.reads.header, lines-of notes (End ending) (λ k d lt. (r.reads.in_order k d lt).line) r.ends.line);
    are = r.reads.begins ∙ sym (text-is list notes ending);
  },
  omega (arith, r.within),
)

-- before a note that is not behind a clause without a literal
open-before : (notes : List Note) → ((k : ℕ) (d : Note) → k < length notes → refutes (get_or notes k d) ≡ true → k + 1 ≡ length notes) → (k : ℕ) → k < length notes → list_any refutes (take k notes) ≡ false
open-before notes last k lt = elim (cases_Bool (list_any refutes (take k notes))) [
  | inl found ↦ (
      let a = Any-from_list_any refutes (take k notes) found in
      let below : a.0 < k = omega (arith, a.2, length-take k notes) in
      let here : get_or notes a.0 a.1 ≡ a.1 = sym (get_or-take k notes a.0 a.1 below) ∙ a.3 in
      absurd (omega (arith, last a.0 a.1 (omega (arith, below, lt)) (ap refutes here ∙ a.4), below, lt)))
  | inr none ↦ none
]

line-at : (notes : List Note) (end : LogLine) → AllByRecursion IsLine (map noted notes ++ end ∷ []) → (k : ℕ) (d : Note) → k < length notes → IsLine (noted (get_or notes k d))
line-at [] end h k d lt = absurd (omega (arith, lt))
line-at (n ∷ notes) end h zero d lt = h.0
line-at (n ∷ notes) end h (suc k) d lt = line-at notes end h.1 k d (omega (arith, lt))

end-line : (notes : List Note) (end : LogLine) → AllByRecursion IsLine (map noted notes ++ end ∷ []) → IsLine end
end-line [] end h = h.0
end-line (n ∷ notes) end h = end-line notes end h.1

-- and the text of an accepted log is accepted, within its size
pub text-accepted : (size : ℕ) (list : ClauseList) (truths : List (List Bool)) (ending : Ending) (bytes : List ℕ) → IsAcceptedText list truths ending bytes → length bytes ≤ size → IsJudged size list truths ending bytes Accepted
text-accepted size list truths ending bytes t within =
    let notes = t.log.notes in
    let log-is : t.log ≡ log_of list notes = ap (λ (p : ℕ × ℕ). record { numbers = p; notes = notes }) t.accepted.numbers in
    let lines : AllByRecursion IsLine (log_lines (log_of list notes) ending) = subst (λ (l : Log). AllByRecursion IsLine (log_lines l ending)) log-is t.lines in
    let begins : bytes ≡ line_text (header_of list) ++ (flat_map line_text (map noted notes) ++ (line_text (End ending) ++ [])) = t.are ∙ ap (λ (l : Log). log_text l ending) log-is ∙ text-is list notes ending in
    accepted notes (record {
      reads = record {
        begins = begins;
        header = lines.0;
        in_order = λ k d lt. record { line = line-at notes (End ending) lines.1 k d lt; right = t.accepted.right k d lt; open_still = open-before notes t.accepted.last k lt };
        within = omega (arith, within);
      };
      ends = record { line = end-line notes (End ending) lines.1; blocked = t.accepted.blocked; ended = t.accepted.ended };
      within = omega (arith, within);
    })

-- So a closed log that is accepted leaves no truth of the clause list out.
pub judged-none_out : (size : ℕ) (list : ClauseList) (truths : List (List Bool)) (n visible : ℕ) (bytes : List ℕ) → OfOneLength visible truths → IsJudged size list truths (Complete n) bytes Accepted → (w : ℕ → Bool) → AllHold w list → Contains truths (visible_part visible w)
judged-none_out size list truths n visible bytes sizes judged w all =
    let t = accepted-text size list truths (Complete n) bytes judged in
    leaves_none_out list truths n visible t.0.log t.0.accepted sizes w all
