-- How far a check has come, and what its answers say.
use Rattle.std.proofs.Common.{◌≡◌, ◌≢◌, ℕ, ◌+◌, ◌-◌, ◌<◌, ◌≤◌, Bool, List, [], ◌∷◌, ◌++◌, Option, Some, None, Err, IsTrue, length, drop, take, refl, sym, ap, subst, ◌∙◌, append_assoc, length-append, length-drop, arith}
use Rattle.std.specs.Prelude.{IsSomeAnd, IfSome}
use Rattle.std.specs.List.{AllByRecursion}
use Rattle.std.proofs.lemmas.List.{append-nil, length_push, drop_all}
use Rattle.ec_clause.specs.ClauseList.{ClauseList}
use Rattle.ec_clause.specs.Note.{Note}
use Rattle.ec_clause.specs.declared.ending.Ending.{Ending}
use Rattle.ec_edge.specs.Lines.{cut_at, cut_line}
use Rattle.ec_edge.proofs.Cuts.{cut_at-append, cut_at-whole}
use Rattle.ec_log.specs.Line.{LogLine, End, spelled, IsLine}
use Rattle.ec_log.specs.Log.{line_text, noted}
use Rattle.ec_log.specs.Reader.{Reader, Fits, HasNoLine, IsForm, IsPast, IsNext, IsUsed, largest_log}
use Rattle.ec_log.proofs.Unending.{ended-take}
use Rattle.ec_certificate.specs.Accepted.{with_notes}
use Rattle.ec_certificate.specs.Judged.{Judgement, Accepted, AreInOrder, Faulty, header_of, MayFollow, Reads, ReadsToEnd, IsJudged, accepted, no_header, no_line, goes_on}
use Rattle.ec_certificate.specs.Progress.{log_of}
use Rattle.ec_certificate.proofs.Appending.{each-push}
use Rattle.ec_certificate.proofs.JudgedLogs.{refutes-last}
use Rattle.ec_certificate.proofs.Judging.{reads-more, next-of, end-of, judged_once}
use Rattle.ec_certificate.proofs.LineBytes.{NoEnd-spelled, line_apart, OfOneLength}
use Rattle.ec_checking.specs.Checked.{HasCome, HasNoLineAt, IsNextLine, IsBehindEnd, IsChecked, IsDueFor, IsDue, AreTruthsOver, HasLog}
use Rattle.ec_checking.specs.Walk.{Keeps, TakesNote, TakesEnd, TakesNone}
use Rattle.ec_checking.specs.declared.walk.Walk.{Walk}
use Rattle.ec_checking.specs.declared.end.LogEnd.{LogEnd}
use Rattle.ec_checking.specs.declared.end.LogEnd.TheVariants as end

abbrev parts : List ℕ → List ℕ → List ℕ × List ℕ
parts a b = (a, b)

-- ---- no line

split : (line : LogLine) (rest : List ℕ) → line_text line ++ rest ≡ spelled line ++ 10 ∷ rest
split line rest = append_assoc (spelled line) (10 ∷ []) rest

cut-text : (line : LogLine) (bytes rest : List ℕ) → IsLine line → bytes ≡ line_text line ++ rest → cut_line bytes ≡ Some (parts (spelled line) rest)
cut-text line bytes rest is e = ap (λ (bs : List ℕ). cut_at 10 bs) (e ∙ split line rest) ∙ cut_at-append 10 (spelled line) rest (NoEnd-spelled line is)

pub form-no_line : (place : ℕ) (log : List ℕ) → IsForm place log → HasNoLineAt place log
form-no_line place log h line left is e within = (subst HasNoLine (cut-text line (drop place log) left is e) h.no_line) line is refl

pub past-no_line : (place : ℕ) (log : List ℕ) → place ≤ largest_log → IsPast place log → HasNoLineAt place log
past-no_line place log low h line left is e within =
    let text : drop place log ≡ spelled line ++ 10 ∷ left = e ∙ split line left in
    let size : length (drop place log) ≡ length (spelled line) + length (10 ∷ left) = ap length text ∙ length-append (spelled line) (10 ∷ left) in
    ended-take (largest_log - place) (spelled line) left (omega (arith, size, length-drop place log, within, low, h.longer)) (subst (λ (bs : List ℕ). AllByRecursion (λ b. b ≢ 10) (take (largest_log - place) bs)) text h.unended)

pub end-no_line : (place : ℕ) (log : List ℕ) → place ≡ length log → HasNoLineAt place log
end-no_line place log all line left is e within =
    let size : length (drop place log) ≡ length (line_text line) + length left = ap length e ∙ length-append (line_text line) left in
    omega (arith, size, length-drop place log, all, length-append (spelled line) (10 ∷ []))

-- ---- a line

next-bytes : (place : ℕ) (log : List ℕ) (line : LogLine) (reader : Reader) → IsNext place log line reader → drop place log ≡ line_text line ++ drop reader.place log
next-bytes place log line reader h =
    let P : Option (List ℕ × List ℕ) → Type 0 = λ o. IfSome o (λ p. drop place log ≡ p.0 ++ 10 ∷ p.1) in
    subst P h.cut (cut_at-whole 10 (drop place log)) ∙ sym (split line (drop reader.place log))

next-within : (place : ℕ) (log : List ℕ) (line : LogLine) (old reader : Reader) → IsUsed old line reader → Fits reader log → length log ≤ largest_log + length (drop reader.place log)
next-within place log line old reader used fits = omega (arith, used.within, fits.within, length-drop reader.place log)

-- ---- the header

pub header-read : (list : ClauseList) (truths : List (List Bool)) (log : List ℕ) (line : LogLine) (old reader : Reader) → old.place ≡ 0 → line ≡ header_of list → IsUsed old line reader → IsNext old.place log line reader → HasCome list truths [] reader log
header-read list truths log line old reader start is used next =
    let bytes : log ≡ line_text line ++ drop reader.place log = ap (λ n. drop n log) (sym start) ∙ next-bytes old.place log line reader next in
    record {
      reads = record {
        begins = bytes ∙ ap (λ l. line_text l ++ drop reader.place log) is;
        header = subst IsLine is used.is_line;
        in_order = λ k d lt. absurd (omega (arith, lt));
        within = next-within old.place log line old reader used next.fits;
      };
      fits = next.fits;
    }

pub header-other : (list : ClauseList) (truths : List (List Bool)) (ending : Ending) (log : List ℕ) (line : LogLine) (old reader : Reader) → old.place ≡ 0 → (line ≡ header_of list → ⊥) → IsUsed old line reader → IsNext old.place log line reader → IsJudged largest_log list truths ending log (Faulty 1)
header-other list truths ending log line old reader start other used next =
    no_header (λ rest r. other (line_apart line (header_of list) (drop reader.place log) rest used.is_line r.header (sym (ap (λ n. drop n log) (sym start) ∙ next-bytes old.place log line reader next) ∙ r.begins)).0)

pub header-none : (list : ClauseList) (truths : List (List Bool)) (ending : Ending) (log : List ℕ) (place : ℕ) → place ≡ 0 → HasNoLineAt place log → IsJudged largest_log list truths ending log (Faulty 1)
header-none list truths ending log place start none =
    no_header (λ rest r. none (header_of list) rest r.header (ap (λ n. drop n log) start ∙ r.begins) r.within)

-- ---- behind the header

-- The lines before this number are the header and those of notes, each of which may follow those before it.
pub record IsAt (list : ClauseList) (truths : List (List Bool)) (told : Bool) (held : Option (List ℕ)) (number : ℕ) (walk : Walk) (reader : Reader) : Type 0 where
  pub notes : List Note
  pub count : number ≡ length notes + 2
  pub in_order : AreInOrder list truths notes
  pub keeps : Keeps list truths notes walk
  pub low : number ≤ reader.place + 1
  pub high : reader.place ≤ largest_log
  pub read : IsTrue told → IsSomeAnd held (HasCome list truths notes reader)

-- of what is held
pub both : {P Q R : List ℕ → Type 0} (held : Option (List ℕ)) → ((log : List ℕ) → P log → Q log → R log) → IsSomeAnd held P → IsSomeAnd held Q → IsSomeAnd held R
both None f p q = p
both (Some log) f p q = f log p q

pub each : {P Q : List ℕ → Type 0} (held : Option (List ℕ)) → ((log : List ℕ) → P log → Q log) → IsSomeAnd held P → IsSomeAnd held Q
each None f p = p
each (Some log) f p = f log p

come-more : (list : ClauseList) (truths : List (List Bool)) (notes : List Note) (line : LogLine) (n : Note) (old reader : Reader) (log : List ℕ) → line ≡ noted n → MayFollow list truths notes n → IsUsed old line reader → HasCome list truths notes old log → IsNext old.place log line reader → HasCome list truths (notes ++ n ∷ []) reader log
come-more list truths notes line n old reader log is may used come next = record {
  reads = reads-more largest_log list truths log notes n (drop reader.place log) (subst (Reads largest_log list truths log notes) (next-bytes old.place log line reader next ∙ ap (λ l. line_text l ++ drop reader.place log) is) come.reads) may (next-within old.place log line old reader used next.fits);
  fits = next.fits;
}

-- one note more
pub at-more : (list : ClauseList) (truths : List (List Bool)) (told : Bool) (held : Option (List ℕ)) (number : ℕ) (walk walk' : Walk) (old reader : Reader) (line : LogLine) (at : IsAt list truths told held number walk old) → IsUsed old line reader → (IsTrue told → IsSomeAnd held (λ log. IsNext old.place log line reader))
    → TakesNote list truths at.notes line walk' → IsAt list truths told held (number + 1) walk' reader
at-more list truths told held number walk walk' old reader line at used next takes =
    let may : MayFollow list truths at.notes takes.note = record { line = subst IsLine takes.is used.is_line; right = takes.right; open_still = takes.open_still } in
    record {
      notes = at.notes ++ takes.note ∷ [];
      count = omega (arith, at.count, length_push at.notes takes.note);
      in_order = each-push (MayFollow list truths) at.notes takes.note at.in_order may;
      keeps = takes.keeps;
      low = omega (arith, at.low, used.place, length-append (spelled line) (10 ∷ []));
      high = used.within;
      read = λ t. both held (λ log. come-more list truths at.notes line takes.note old reader log takes.is may used) (at.read t) (next t);
    }

-- no line follows
pub at-none : (list : ClauseList) (truths : List (List Bool)) (ending : Ending) (notes : List Note) (number : ℕ) (reader : Reader) (log : List ℕ) → number ≡ length notes + 2 → HasCome list truths notes reader log → HasNoLineAt reader.place log → IsJudged largest_log list truths ending log (Faulty number)
at-none list truths ending notes number reader log count come none =
    subst (λ n. IsJudged largest_log list truths ending log (Faulty n)) (sym count) (no_line notes (drop reader.place log) come.reads
    (λ n left r. (let next = next-of largest_log list truths log notes n (drop reader.place log) left come.reads r in none (noted n) left next.may.line next.line next.within))
    (λ left r. none (End ending) left r.ends.line (end-of largest_log list truths log ending notes (drop reader.place log) left come.reads r) r.within))

-- a line follows that may not
pub at-fault : (list : ClauseList) (truths : List (List Bool)) (ending : Ending) (notes : List Note) (number : ℕ) (line : LogLine) (old reader : Reader) (log : List ℕ) → number ≡ length notes + 2 → IsUsed old line reader → TakesNone list truths ending notes line → HasCome list truths notes old log → IsNext old.place log line reader
    → IsJudged largest_log list truths ending log (Faulty number)
at-fault list truths ending notes number line old reader log count used takes come next =
    let bytes = next-bytes old.place log line reader next in
    subst (λ n. IsJudged largest_log list truths ending log (Faulty n)) (sym count) (no_line notes (drop old.place log) come.reads
    (λ n left r. (
    let more = next-of largest_log list truths log notes n (drop old.place log) left come.reads r in
    takes.no_note n (line_apart line (noted n) (drop reader.place log) left used.is_line more.may.line (sym bytes ∙ more.line)).0 more.may))
    (λ left r. (
    let is_end = end-of largest_log list truths log ending notes (drop old.place log) left come.reads r in
    takes.no_end (line_apart line (End ending) (drop reader.place log) left used.is_line r.ends.line (sym bytes ∙ is_end)).0 r.ends)))

-- the end line follows
pub at-end : (list : ClauseList) (truths : List (List Bool)) (ending : Ending) (notes : List Note) (line : LogLine) (old reader : Reader) (log : List ℕ) → IsUsed old line reader → TakesEnd truths ending notes line → HasCome list truths notes old log → IsNext old.place log line reader
    → ReadsToEnd largest_log list truths ending log notes (drop reader.place log)
at-end list truths ending notes line old reader log used takes come next = record {
  reads = subst (Reads largest_log list truths log notes) (next-bytes old.place log line reader next ∙ ap (λ l. line_text l ++ drop reader.place log) takes.is) come.reads;
  ends = record { line = subst IsLine takes.is used.is_line; blocked = takes.blocked; ended = takes.ended };
  within = next-within old.place log line old reader used next.fits;
}

pub end-accepted : (list : ClauseList) (truths : List (List Bool)) (ending : Ending) (notes : List Note) (place : ℕ) (log : List ℕ) → ReadsToEnd largest_log list truths ending log notes (drop place log) → place ≡ length log → IsJudged largest_log list truths ending log Accepted
end-accepted list truths ending notes place log r all = accepted notes (subst (ReadsToEnd largest_log list truths ending log notes) (drop_all place log (omega (arith, all))) r)

pub end-goes_on : (list : ClauseList) (truths : List (List Bool)) (ending : Ending) (notes : List Note) (number place : ℕ) (log : List ℕ) → number ≡ length notes + 3 → ReadsToEnd largest_log list truths ending log notes (drop place log) → place < length log → IsJudged largest_log list truths ending log (Faulty number)
end-goes_on list truths ending notes number place log count r some =
    subst (λ n. IsJudged largest_log list truths ending log (Faulty n)) (sym count) (goes_on notes (drop place log) r (λ none. omega (arith, ap length none, length-drop place log, some)))

-- ---- the log of the lines so far

-- with the end line behind it
pub log-shown : (list : ClauseList) (truths : List (List Bool)) (ending : Ending) (told : Bool) (held : Option (List ℕ)) (number : ℕ) (walk : Walk) (reader : Reader) (line : LogLine) (at : IsAt list truths told held number walk reader) → TakesEnd truths ending at.notes line → HasLog list truths ending
log-shown list truths ending told held number walk reader line at takes = record {
  log = log_of list at.notes;
  accepted = record {
    numbers = refl;
    right = λ k d lt. (at.in_order k d lt).right;
    last = refutes-last list truths at.notes at.in_order;
    blocked = takes.blocked;
    ended = takes.ended;
  };
}

-- ---- the answers

pub err-checked : (list : ClauseList) (truths : List (List Bool)) (ending : Ending) (told : Bool) (held : Option (List ℕ)) (number : ℕ) (walk : Walk) (old reader : Reader) (answer : LogEnd) → IsAt list truths told held number walk old → IsTrue told → IsNextLine old held number (Err answer) reader → IsChecked list truths ending held answer
err-checked list truths ending told held number walk old reader end.Accepted at t h = absurd h
err-checked list truths ending told held number walk old reader (end.Line n) at t h = both held (λ log come none. at-none list truths ending at.notes n old log (h.0 ∙ at.count) come none) (at.read t) h.1
err-checked list truths ending told held number walk old reader end.Absent at t h = h
err-checked list truths ending told held number walk old reader end.Files at t h = tt
err-checked list truths ending told held number walk old reader end.Memory at t h = tt

pub fault-checked : (list : ClauseList) (truths : List (List Bool)) (ending : Ending) (told : Bool) (held : Option (List ℕ)) (number : ℕ) (walk : Walk) (old reader : Reader) (line : LogLine) (at : IsAt list truths told held number walk old) → IsTrue told → IsUsed old line reader → IsSomeAnd held (λ log. IsNext old.place log line reader) → TakesNone list truths ending at.notes line
    → IsSomeAnd held (λ log. IsJudged largest_log list truths ending log (Faulty number))
fault-checked list truths ending told held number walk old reader line at t used next takes = both held (λ log. at-fault list truths ending at.notes number line old reader log at.count used takes) (at.read t) next

behind-checked : (list : ClauseList) (truths : List (List Bool)) (ending : Ending) (notes : List Note) (number place : ℕ) (held : Option (List ℕ)) (answer : LogEnd) → number ≡ length notes + 3 → IsSomeAnd held (λ log. ReadsToEnd largest_log list truths ending log notes (drop place log)) → IsBehindEnd place held number answer
    → IsChecked list truths ending held answer
behind-checked list truths ending notes number place held end.Accepted count r h = both held (end-accepted list truths ending notes place) r h
behind-checked list truths ending notes number place held (end.Line n) count r h = both held (λ log. end-goes_on list truths ending notes n place log (h.0 ∙ count)) r h.1
behind-checked list truths ending notes number place held end.Absent count r h = h
behind-checked list truths ending notes number place held end.Files count r h = tt
behind-checked list truths ending notes number place held end.Memory count r h = tt

pub end-checked : (list : ClauseList) (truths : List (List Bool)) (ending : Ending) (told : Bool) (held : Option (List ℕ)) (number : ℕ) (walk : Walk) (old reader : Reader) (line : LogLine) (answer : LogEnd) (at : IsAt list truths told held number walk old) → IsTrue told → IsUsed old line reader → IsSomeAnd held (λ log. IsNext old.place log line reader) → TakesEnd truths ending at.notes line
    → IsBehindEnd reader.place held (number + 1) answer → IsChecked list truths ending held answer
end-checked list truths ending told held number walk old reader line answer at t used next takes behind =
    behind-checked list truths ending at.notes (number + 1) reader.place held answer (omega (arith, at.count)) (both held (λ log. at-end list truths ending at.notes line old reader log used takes) (at.read t) next) behind

-- a walk that has come past no note has the clauses of the list
pub with_none : (list : ClauseList) → with_notes list [] ≡ list
with_none list = ap (λ cs. record { variables = list.variables; clauses = cs }) (append-nil list.clauses)

-- no line at the beginning
pub first-checked : (list : ClauseList) (truths : List (List Bool)) (ending : Ending) (held : Option (List ℕ)) (old reader : Reader) (answer : LogEnd) → old.place ≡ 0 → IsNextLine old held 1 (Err answer) reader → IsChecked list truths ending held answer
first-checked list truths ending held old reader end.Accepted start h = absurd h
first-checked list truths ending held old reader (end.Line n) start h = each held (λ log none. subst (λ m. IsJudged largest_log list truths ending log (Faulty m)) (sym h.0) (header-none list truths ending log old.place start none)) h.1
first-checked list truths ending held old reader end.Absent start h = h
first-checked list truths ending held old reader end.Files start h = tt
first-checked list truths ending held old reader end.Memory start h = tt

-- ---- no other answer

due-for : (visible : ℕ) (list : ClauseList) (truths : List (List Bool)) (ending : Ending) (held : Option (List ℕ)) (answer : LogEnd) (judgement : Judgement) → OfOneLength visible truths → IsChecked list truths ending held answer → IsSomeAnd held (λ log. IsJudged largest_log list truths ending log judgement) → IsDueFor judgement answer
due-for visible list truths ending None end.Accepted judgement sizes h j = absurd j
due-for visible list truths ending (Some log) end.Accepted judgement sizes h j = judged_once largest_log list truths log visible ending judgement Accepted sizes j h
due-for visible list truths ending None (end.Line n) judgement sizes h j = absurd j
due-for visible list truths ending (Some log) (end.Line n) judgement sizes h j = judged_once largest_log list truths log visible ending judgement (Faulty n) sizes j h
due-for visible list truths ending None end.Absent judgement sizes h j = absurd j
due-for visible list truths ending (Some log) end.Absent judgement sizes h j = absurd (let same : Some log ≡ None = h in cc)
due-for visible list truths ending held end.Files judgement sizes h j = tt
due-for visible list truths ending held end.Memory judgement sizes h j = tt

-- What was checked is all that the log comes to.
pub checked-due : (variables : ℕ) (list : ClauseList) (truths : List (List Bool)) (ending : Ending) (held : Option (List ℕ)) (answer : LogEnd) → AreTruthsOver variables truths → IsChecked list truths ending held answer → IsDue list truths ending held answer
checked-due variables list truths ending held answer over h judgement j = due-for over.visible list truths ending held answer judgement over.each h j
