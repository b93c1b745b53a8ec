-- What the bytes that a reader has taken and holds tell of its log.
use Rattle.std.proofs.Common.{◌≡◌, ◌≢◌, ℕ, ◌+◌, ◌-◌, ◌<◌, ◌≤◌, List, [], ◌∷◌, ◌++◌, length, take, drop, Option, Some, None, refl, sym, ap, subst, ◌∙◌, arith, append_assoc, length-append, length-drop}
use Rattle.std.specs.Prelude.{IsSomeAnd, nat_eq, cond, Bool, true, false, slice_range}
use Rattle.std.proofs.lemmas.Bool.{eqb-true, eq-eqb}
use Rattle.std.proofs.lemmas.List.{take-append-le, take-append-drop, drop-drop, drop-take, append-nil, length-take}
use Rattle.std.proofs.Math.Seq.{take-append_seam, drop-append_seam}
use Rattle.ec_edge.specs.Lines.{cut_line}
use Rattle.ec_edge.proofs.Cuts.{cut_at-append, cut_at-none}
use Rattle.ec_log.specs.Line.{LogLine, spelled, IsLine}
use Rattle.ec_log.specs.Log.{line_text}
use Rattle.ec_log.specs.Reader.{Reader, largest_log, Fits, FitsHeld, IsPast, HasNoLine, IsForm, IsNext, IsUsed, AnswersNext}
use Rattle.ec_log.specs.declared.next_line.NextLine.{NextLine}
use Rattle.ec_log.specs.declared.next_line.NextLine.TheVariants as next
use Rattle.ec_log.specs.Collecting.{Unended, EndsAt, IsBehind, HasFront, HasFrontHeld, IsFilled}
use Rattle.ec_log.proofs.Unending.{Unended-append, Unended-take, ended-take}

-- a reader begins with an empty front
HasFront-begin : (reader : Reader) (log : List ℕ) → Fits reader log → HasFront reader.place [] reader.held log
HasFront-begin reader log fits = record {
  rest = drop (length reader.held) (drop reader.place log);
  within = fits.within;
  stands =
      sym (take-append-drop (length reader.held) (drop reader.place log))
      ∙ ap (λ (xs : List ℕ). xs ++ drop (length reader.held) (drop reader.place log)) fits.stands;
  unended = tt;
}

pub HasFrontHeld-begin : (reader : Reader) (held : Option (List ℕ)) → FitsHeld reader held → HasFrontHeld reader.place [] reader.held held
HasFrontHeld-begin reader (Some log) fits = HasFront-begin reader log fits
HasFrontHeld-begin reader None fits = (fits.0, refl, fits.1)

-- all bytes that are held are taken
HasFront-take : (old : ℕ) (front held log : List ℕ) → HasFront old front held log → Unended held → HasFront old (front ++ held) [] log
HasFront-take old front held log h unended = record {
  rest = h.rest;
  within = h.within;
  stands = h.stands ∙ sym (append_assoc front held h.rest);
  unended = Unended-append front held h.unended unended;
}

pub HasFrontHeld-take : (old : ℕ) (front held : List ℕ) (name : Option (List ℕ)) → HasFrontHeld old front held name → Unended held → HasFrontHeld old (front ++ held) [] name
HasFrontHeld-take old front held (Some log) h unended = HasFront-take old front held log h unended
HasFrontHeld-take old front held None h unended = (h.0, ap (λ (xs : List ℕ). xs ++ held) h.1 ∙ h.2, refl)

-- a line's end belongs to its bytes
pub spliced : (bytes after : List ℕ) → bytes ++ 10 ∷ after ≡ (bytes ++ 10 ∷ []) ++ after
spliced bytes after = sym (append_assoc bytes (10 ∷ []) after)

-- what stands in the log behind the front
behind : (old place : ℕ) (front log rest : List ℕ) → drop old log ≡ front ++ rest → place ≡ old + length front → drop place log ≡ rest
behind old place front log rest stands is =
    ap (λ n. drop n log) is ∙ sym (drop-drop (length front) old log) ∙ ap (λ (xs : List ℕ). drop (length front) xs) stands ∙ drop-append_seam front rest

-- further bytes are held
HasFront-fill : (old place : ℕ) (front held log : List ℕ) → HasFront old front [] log → place ≡ old + length front → IsFilled place held log → HasFront old front held log
HasFront-fill old place front held log h is filled =
    let rest = drop (length held) (drop place log) in
    let there : drop place log ≡ held ++ rest = sym (take-append-drop (length held) (drop place log)) ∙ ap (λ (xs : List ℕ). xs ++ rest) (sym filled.same) in
    record {
      rest = rest;
      within = h.within;
      stands = h.stands ∙ ap (λ (xs : List ℕ). front ++ xs) (sym (behind old place front log h.rest h.stands is) ∙ there);
      unended = h.unended;
    }

pub HasFrontHeld-fill : (old place : ℕ) (front held : List ℕ) (name : Option (List ℕ)) → HasFrontHeld old front [] name → place ≡ old + length front → IsSomeAnd name (IsFilled place held) → HasFrontHeld old front held name
HasFrontHeld-fill old place front held (Some log) h is filled = HasFront-fill old place front held log h is filled
HasFrontHeld-fill old place front held None h is filled = absurd filled

-- how long the log is
log_length : (old : ℕ) (log left : List ℕ) → old ≤ length log → drop old log ≡ left → length log ≡ old + length left
log_length old log left within is = omega (arith, length-drop old log, ap length is)

-- a front that goes past the largest size
IsPast-of : (old : ℕ) (log front rest : List ℕ) → old ≤ length log → drop old log ≡ front ++ rest → Unended front → largest_log ≤ old + length front → largest_log < length log → IsPast old log
IsPast-of old log front rest within stands unended reaches longer =
    let same : take (largest_log - old) (drop old log) ≡ take (largest_log - old) front =
    ap (λ (xs : List ℕ). take (largest_log - old) xs) stands ∙ take-append-le (largest_log - old) front rest (omega arith) in
    record { longer = longer; unended = subst Unended (sym same) (Unended-take (largest_log - old) front unended) }

-- no end is held, and the bytes that are held go past the largest size
IsPast-held : (old place : ℕ) (front held log : List ℕ) → HasFront old front held log → Unended held → place ≡ old + length front → largest_log < place + length held → IsPast old log
IsPast-held old place front held log h unended is past =
    let there : drop old log ≡ (front ++ held) ++ h.rest = h.stands ∙ sym (append_assoc front held h.rest) in
    let len = length-append front held in
    IsPast-of old log (front ++ held) h.rest h.within there (Unended-append front held h.unended unended) (omega arith)
    (omega (arith, log_length old log _ h.within there, length-append (front ++ held) h.rest))

pub IsPast-all : (old place : ℕ) (front held : List ℕ) (name : Option (List ℕ)) → HasFrontHeld old front held name → Unended held → place ≡ old + length front → largest_log < place + length held → IsSomeAnd name (IsPast old)
IsPast-all old place front held (Some log) h unended is past = IsPast-held old place front held log h unended is past
IsPast-all old place front held None h unended is past = absurd (omega (arith, h.0, ap length h.1, ap length h.2))

-- no byte was left
pub IsEnd-none : (old place : ℕ) (front held : List ℕ) (name : Option (List ℕ)) → HasFrontHeld old front [] name → place ≡ old + length front → IsSomeAnd name (IsFilled place held) → length held ≡ 0 → length front ≡ 0 → IsSomeAnd name (λ log. old ≡ length log)
IsEnd-none old place front held (Some log) h is filled none empty =
    let len = log_length old log _ h.within h.stands in
    let short : length log ≤ place = grind (arith, filled.some) in
    omega (arith, h.within)
IsEnd-none old place front held None h is filled none empty = absurd filled

-- the log ends behind the front of a line
IsForm-unended : (old place : ℕ) (front held log : List ℕ) → HasFront old front [] log → place ≡ old + length front → IsFilled place held log → length held ≡ 0 → place ≤ largest_log → length front ≢ 0 → IsForm old log
IsForm-unended old place front held log h is filled none small some =
    let short : length log ≤ place = grind (arith, filled.some) in
    let len : length log ≡ old + length (front ++ h.rest) = log_length old log _ h.within h.stands in
    let nothing : length h.rest ≡ 0 = omega (arith, length-append front h.rest) in
    let all : drop old log ≡ front = h.stands ∙ ap (λ (xs : List ℕ). front ++ xs) (empty h.rest nothing) ∙ append-nil front in
    let uncut : cut_line (drop old log) ≡ None = ap cut_line all ∙ cut_at-none 10 front h.unended in
    record {
      some = omega (arith, length-append front h.rest);
      not_past = λ past. omega (arith, past.longer);
      no_line = subst HasNoLine (sym uncut) tt;
    }
  where
    empty : (xs : List ℕ) → length xs ≡ 0 → xs ≡ []
    empty [] e = refl
    empty (x ∷ xs) e = absurd (omega (arith, e))

pub IsForm-end : (old place : ℕ) (front held : List ℕ) (name : Option (List ℕ)) → HasFrontHeld old front [] name → place ≡ old + length front → IsSomeAnd name (IsFilled place held) → length held ≡ 0 → place ≤ largest_log → length front ≢ 0 → IsSomeAnd name (IsForm old)
IsForm-end old place front held (Some log) h is filled none small some = IsForm-unended old place front held log h is filled none small some
IsForm-end old place front held None h is filled none small some = absurd filled

-- what was taken and what is held up to the end of the line, and behind it what follows
record IsEnded (old : ℕ) (bytes after log : List ℕ) : Type 0 where
  pub within : old ≤ length log
  pub stands : drop old log ≡ bytes ++ 10 ∷ after
  pub unended : Unended bytes

ended : (old : ℕ) (front held log : List ℕ) (at : ℕ) → (h : HasFront old front held log) → EndsAt held at → IsEnded old (front ++ take at held) (drop (at + 1) held ++ h.rest) log
ended old front held log at h ends =
    let last : held ++ h.rest ≡ take at held ++ (10 ∷ (drop (at + 1) held ++ h.rest)) = ap (λ (xs : List ℕ). xs ++ h.rest) ends.ends ∙ append_assoc (take at held) (10 ∷ drop (at + 1) held) h.rest in
    record {
      within = h.within;
      stands = h.stands ∙ ap (λ (xs : List ℕ). front ++ xs) last ∙ sym (append_assoc front (take at held) (10 ∷ (drop (at + 1) held ++ h.rest)));
      unended = Unended-append front (take at held) h.unended ends.unended;
    }

ended_length : (front held : List ℕ) (at : ℕ) → EndsAt held at → length (front ++ take at held) ≡ length front + at
ended_length front held at ends = omega (arith, length-append front (take at held), length-take at held, ends.within)

ended_cut : (old : ℕ) (bytes after log : List ℕ) → IsEnded old bytes after log → cut_line (drop old log) ≡ Some (bytes, after)
ended_cut old bytes after log e = ap cut_line e.stands ∙ cut_at-append 10 bytes after e.unended

-- the line that ends goes past the largest size
IsPast-here : (old place : ℕ) (front held log : List ℕ) (at : ℕ) → HasFront old front held log → EndsAt held at → place ≡ old + length front → largest_log ≤ place + at → IsPast old log
IsPast-here old place front held log at h ends is past =
    let e = ended old front held log at h ends in
    let len = ended_length front held at ends in
    IsPast-of old log (front ++ take at held) (10 ∷ (drop (at + 1) held ++ h.rest)) e.within e.stands e.unended (omega arith)
    (omega (arith, log_length old log _ e.within e.stands, length-append (front ++ take at held) (10 ∷ (drop (at + 1) held ++ h.rest))))

pub IsPast-ended : (old place : ℕ) (front held : List ℕ) (at : ℕ) (name : Option (List ℕ)) → HasFrontHeld old front held name → EndsAt held at → place ≡ old + length front → largest_log ≤ place + at → IsSomeAnd name (IsPast old)
IsPast-ended old place front held at (Some log) h ends is past = IsPast-here old place front held log at h ends is past
IsPast-ended old place front held at None h ends is past = absurd (omega (arith, ends.within, ap length h.2))

-- the line that ends is no line of a log
IsForm-here : (old place : ℕ) (front held log : List ℕ) (at : ℕ) → HasFront old front held log → EndsAt held at → place ≡ old + length front → place + at < largest_log
    → ((line : LogLine) → IsLine line → front ++ take at held ≢ spelled line) → IsForm old log
IsForm-here old place front held log at h ends is small none =
    let e = ended old front held log at h ends in
    let len = ended_length front held at ends in
    record {
      some = omega (arith, log_length old log _ e.within e.stands, length-append (front ++ take at held) (10 ∷ (drop (at + 1) held ++ h.rest)));
      not_past = λ past. ended-take (largest_log - old) (front ++ take at held) (drop (at + 1) held ++ h.rest) (omega arith)
          (subst (λ (xs : List ℕ). Unended (take (largest_log - old) xs)) e.stands past.unended);
      no_line = subst HasNoLine (sym (ended_cut old _ _ log e)) none;
    }

pub IsForm-ended : (old place : ℕ) (front held : List ℕ) (at : ℕ) (name : Option (List ℕ)) → HasFrontHeld old front held name → EndsAt held at → place ≡ old + length front → place + at < largest_log
    → ((line : LogLine) → IsLine line → front ++ take at held ≢ spelled line) → IsSomeAnd name (IsForm old)
IsForm-ended old place front held at (Some log) h ends is small none = IsForm-here old place front held log at h ends is small none
IsForm-ended old place front held at None h ends is small none = absurd (omega (arith, ends.within, ap length h.2))

-- the line that ends is the next line, and the reader fits behind it
abbrev skipped : Reader → ℕ → Reader
skipped reader count = record reader { place = reader.place + count; held = drop count reader.held }

IsNext-here : (old : ℕ) (front : List ℕ) (reader : Reader) (log : List ℕ) (at : ℕ) (line : LogLine) → HasFront old front reader.held log → EndsAt reader.held at → reader.place ≡ old + length front
    → front ++ take at reader.held ≡ spelled line → IsNext old log line (skipped reader (at + 1))
IsNext-here old front reader log at line h ends is spells =
    let e = ended old front reader.held log at h ends in
    let bytes = front ++ take at reader.held in
    let after = drop (at + 1) reader.held ++ h.rest in
    let len = ended_length front reader.held at ends in
    let whole : drop old log ≡ (bytes ++ 10 ∷ []) ++ after = e.stands ∙ spliced bytes after in
    let there : drop (reader.place + (at + 1)) log ≡ after = behind old (reader.place + (at + 1)) (bytes ++ 10 ∷ []) log after whole (omega (arith, length-append bytes (10 ∷ []))) in
    record {
      cut = ended_cut old bytes after log e ∙ ap (λ (xs : List ℕ). Some (xs, after)) spells ∙ ap (λ (xs : List ℕ). Some (spelled line, xs)) (sym there);
      fits = record {
        within = omega (arith, log_length old log _ e.within e.stands, length-append bytes (10 ∷ after));
        stands = ap (λ (xs : List ℕ). take (length (drop (at + 1) reader.held)) xs) there ∙ take-append_seam (drop (at + 1) reader.held) h.rest;
      };
    }

pub IsNext-ended : (old : ℕ) (front : List ℕ) (reader new : Reader) (at : ℕ) (line : LogLine) (name : Option (List ℕ)) → HasFrontHeld old front reader.held name → EndsAt reader.held at → reader.place ≡ old + length front
    → front ++ take at reader.held ≡ spelled line → new ≡ skipped reader (at + 1) → IsSomeAnd name (λ log. IsNext old log line new)
IsNext-ended old front reader new at line (Some log) h ends is spells same = subst (λ r. IsNext old log line r) (sym same) (IsNext-here old front reader log at line h ends is spells)
IsNext-ended old front reader new at line None h ends is spells same = absurd (omega (arith, ends.within, ap length h.2))

-- what that line uses
pub IsUsed-ended : (old : Reader) (front : List ℕ) (reader new : Reader) (at : ℕ) (line : LogLine) → IsBehind old front reader → EndsAt reader.held at → reader.place + at < largest_log → IsLine line
    → front ++ take at reader.held ≡ spelled line → new ≡ skipped reader (at + 1) → IsUsed old line new
IsUsed-ended old front reader new at line behind ends small is_line spells same =
    let len = ended_length front reader.held at ends in
    let text : length (line_text line) ≡ length front + at + 1 = omega (arith, length-append (spelled line) (10 ∷ []), ap length spells) in
    subst (λ r. IsUsed old line r) (sym same)
    (record { is_line = is_line; place = omega (arith, behind.place); within = omega arith; size = behind.size })

-- a reader by its parts
abbrev reader : ℕ → ℕ → List ℕ → Reader
reader size place held = record { size = size; place = place; held = held }

-- what is held behind so many bytes
slice_drop : (items : List ℕ) (start end count : ℕ) → start + count ≤ end → slice_range items (start + count) end ≡ drop count (slice_range items start end)
slice_drop items start end count fits =
    let size : count + (end - (start + count)) ≡ end - start = omega arith in
    ap (λ (xs : List ℕ). take (end - (start + count)) xs) (sym (drop-drop count start items)) ∙ sym (drop-take count (end - (start + count)) (drop start items)) ∙ ap (λ n. drop count (take n (drop start items))) size

pub skipped_view : (items : List ℕ) (place start end count : ℕ) (now : Reader) → reader (length items) place (slice_range items start end) ≡ now → start + count ≤ end
    → reader (length items) (place + count) (slice_range items (start + count) end) ≡ skipped now count
skipped_view items place start end count now view fits =
    let P : Reader → Type 0 = λ r. reader (length items) (place + count) (slice_range items (start + count) end) ≡ skipped r count in
    subst P view (ap (reader (length items) (place + count)) (slice_drop items start end count fits))

-- the bytes that a reader holds are as many as lie between its two places
pub held_length : (items : List ℕ) (place start end : ℕ) (now : Reader) → reader (length items) place (slice_range items start end) ≡ now → start ≤ end → end ≤ length items → start + length now.held ≡ end
held_length items place start end now view ordered fits =
    let P : Reader → Type 0 = λ r. start + length r.held ≡ end in
    subst P view (omega (arith, length-take (end - start) (drop start items), length-drop start items))

-- a reader that took all bytes that it held, and then holds others
abbrev pub emptied : Reader → Reader
emptied reader = record reader { place = reader.place + length reader.held; held = [] }

pub IsBehind-take : (old : Reader) (front : List ℕ) (before taken filled : Reader) → IsBehind old front before → taken ≡ emptied before → filled.place ≡ taken.place → filled.size ≡ taken.size → IsBehind old (front ++ before.held) filled
IsBehind-take old front before taken filled behind is place size = record {
  place = omega (arith, behind.place, ap (λ (r : Reader). r.place) is, length-append front before.held);
  size = size ∙ ap (λ (r : Reader). r.size) is ∙ behind.size;
}

-- the answer where the log ends behind the front of a line
answered : (old new : Reader) (held : Option (List ℕ)) (n : ℕ) (empty : Bool) → nat_eq n 0 ≡ empty → (answer : NextLine) → answer ≡ cond empty next.End next.Form → (n ≡ 0 → IsSomeAnd held (λ log. old.place ≡ length log)) → (n ≢ 0 → IsSomeAnd held (IsForm old.place))
    → AnswersNext old held answer new
answered old new held n true e answer is end form = subst (λ a. AnswersNext old held a new) (sym is) (end (eqb-true n 0 e))
answered old new held n false e answer is end form = subst (λ a. AnswersNext old held a new) (sym is) (form (λ none. absurd (let same = sym e ∙ eq-eqb n 0 none in cc)))

pub answered_end : (old new : Reader) (place : ℕ) (front held : List ℕ) (name : Option (List ℕ)) (answer : NextLine) → answer ≡ cond (nat_eq (length front) 0) next.End next.Form → HasFrontHeld old.place front [] name → place ≡ old.place + length front → IsSomeAnd name (IsFilled place held)
    → length held ≡ 0 → place ≤ largest_log → AnswersNext old name answer new
answered_end old new place front held name answer is h behind filled none small =
    answered old new name (length front) (nat_eq (length front) 0) refl answer is (λ empty. IsEnd-none old.place place front held name h behind filled none empty) (λ some. IsForm-end old.place place front held name h behind filled none small some)
