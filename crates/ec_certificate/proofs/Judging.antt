-- How far a log reads, and that it comes to one judgement only.
use Rattle.std.proofs.Common.{◌≡◌, ℕ, suc, ◌+◌, ◌≤◌, Bool, List, [], ◌∷◌, ◌++◌, length, take, get_or, map, All, refl, sym, ap, subst, ◌∙◌, inl, inr, append_assoc, arith}
use Rattle.std.specs.List.{flat_map}
use Rattle.std.proofs.lemmas.Bool.{cases_lt}
use Rattle.std.proofs.lemmas.Grind.{flat_map-append}
use Rattle.std.proofs.lemmas.List.{append-nil, append_cancel_left, map-append, take-append-le, get_or_append_left, get_or_push, length-append, length_push}
use Rattle.ec_clause.specs.ClauseList.{ClauseList}
use Rattle.ec_clause.specs.Note.{Note}
use Rattle.ec_clause.specs.Note as note
use Rattle.ec_clause.specs.declared.ending.Ending.{Ending}
use Rattle.ec_log.specs.Line.{End, IsLine}
use Rattle.ec_log.specs.Log.{line_text, noted}
use Rattle.ec_certificate.specs.Accepted.{IsRight}
use Rattle.ec_certificate.specs.Judged.{Judgement, Faulty, header_of, MayFollow, AreInOrder, Reads, ReadsToEnd, IsJudged, accepted, no_header, no_line, goes_on}
use Rattle.ec_certificate.proofs.Appending.{each-push, moved}
use Rattle.ec_certificate.proofs.LineBytes.{line_apart, BlocksListed, OfOneLength, noted-apart, noted-no_end}

-- the lines of notes, and what follows them
abbrev pub spell : List Note → List ℕ → List ℕ
spell notes rest = flat_map line_text (map noted notes) ++ rest

spell-cons : (n : Note) (notes : List Note) (rest : List ℕ) → spell (n ∷ notes) rest ≡ line_text (noted n) ++ spell notes rest
spell-cons n notes rest = append_assoc (line_text (noted n)) (flat_map line_text (map noted notes)) rest

pub spell-append : (notes more : List Note) (rest : List ℕ) → spell (notes ++ more) rest ≡ spell notes (spell more rest)
spell-append notes more rest =
    ap (λ ls. flat_map line_text ls ++ rest) (map-append noted notes more) ∙ ap (λ (bs : List ℕ). bs ++ rest) (flat_map-append line_text (map noted notes) (map noted more))
    ∙ append_assoc (flat_map line_text (map noted notes)) (flat_map line_text (map noted more)) rest

pub spell-push : (notes : List Note) (n : Note) (rest : List ℕ) → spell (notes ++ n ∷ []) rest ≡ spell notes (line_text (noted n) ++ rest)
spell-push notes n rest = spell-append notes (n ∷ []) rest ∙ ap (spell notes) (spell-cons n [] rest)

-- a note with a line that is one of the list's, if it is a blocked one
record IsOwn (truths : List (List Bool)) (n : Note) : Type 0 where
  line : IsLine (noted n)
  blocks : BlocksListed truths n

blocks-right : (list : ClauseList) (truths : List (List Bool)) (before : List Note) (n : Note) → IsRight list truths before n → BlocksListed truths n
blocks-right list truths before (note.Derived lits hints) h = tt
blocks-right list truths before (note.Blocked lits) h = h.0

own : (list : ClauseList) (truths : List (List Bool)) (notes : List Note) → AreInOrder list truths notes → All (IsOwn truths) notes
own list truths notes h k d lt =
    let here = h k d lt in
    record { line = here.line; blocks = blocks-right list truths (take k notes) (get_or notes k d) here.right }

tail : (truths : List (List Bool)) (n : Note) (notes : List Note) → All (IsOwn truths) (n ∷ notes) → All (IsOwn truths) notes
tail truths n notes h k d lt = h (suc k) d (omega arith)

-- what one reading has over a shorter one
pub record Beyond (notes notes' : List Note) (rest rest' : List ℕ) : Type 0 where
  more : List Note
  notes_are : notes' ≡ notes ++ more
  rest_is : rest ≡ spell more rest'

-- of two readings of a text one goes on where the other ends
go_on : (visible : ℕ) (truths : List (List Bool)) (notes notes' : List Note) (rest rest' : List ℕ) → OfOneLength visible truths → All (IsOwn truths) notes → All (IsOwn truths) notes' → length notes ≤ length notes' → spell notes rest ≡ spell notes' rest' → Beyond notes notes' rest rest'
go_on visible truths [] notes' rest rest' sizes h g le e = record { more = notes'; notes_are = refl; rest_is = e }
go_on visible truths (a ∷ notes) [] rest rest' sizes h g le e = absurd (omega (arith, le))
go_on visible truths (a ∷ notes) (b ∷ notes') rest rest' sizes h g le e =
    let own_a = h 0 a (omega arith) in
    let own_b = g 0 b (omega arith) in
    let parts = line_apart (noted a) (noted b) (spell notes rest) (spell notes' rest') own_a.line own_b.line (sym (spell-cons a notes rest) ∙ e ∙ spell-cons b notes' rest') in
    let same = noted-apart visible truths a b sizes own_a.blocks own_b.blocks parts.0 in
    let beyond = go_on visible truths notes notes' rest rest' sizes (tail truths a notes h) (tail truths b notes' g) (omega (arith, le)) parts.1 in
    record { more = beyond.more; notes_are = ap (λ n. n ∷ notes') (sym same) ∙ ap (λ ns. a ∷ ns) beyond.notes_are; rest_is = beyond.rest_is }

module _ (size : ℕ) (list : ClauseList) (truths : List (List Bool)) (bytes : List ℕ) where
  beyond : (visible : ℕ) (notes notes' : List Note) (rest rest' : List ℕ) → OfOneLength visible truths → Reads size list truths bytes notes rest → Reads size list truths bytes notes' rest' → length notes ≤ length notes' → Beyond notes notes' rest rest'
  beyond visible notes notes' rest rest' sizes r s le =
      let same : spell notes rest ≡ spell notes' rest' = append_cancel_left (line_text (header_of list)) (spell notes rest) (spell notes' rest') (sym r.begins ∙ s.begins) in
      go_on visible truths notes notes' rest rest' sizes (own list truths notes r.in_order) (own list truths notes' s.in_order) le same

  -- the first notes of a reading are read as well
  reads-front : (notes more : List Note) (rest : List ℕ) → Reads size list truths bytes (notes ++ more) rest → Reads size list truths bytes notes (spell more rest)
  reads-front notes more rest r = record {
    begins = r.begins ∙ ap (λ (bs : List ℕ). line_text (header_of list) ++ bs) (spell-append notes more rest);
    header = r.header;
    in_order = λ k d lt. moved (MayFollow list truths) (take k notes) (take k (notes ++ more)) (get_or notes k d) (get_or (notes ++ more) k d) (sym (take-append-le k notes more (omega arith))) (sym (get_or_append_left notes more d k lt))
        (r.in_order k d (omega (arith, lt, length-append notes more)));
    within = omega (arith, r.within, length-append (flat_map line_text (map noted more)) rest);
  }

  -- one note more is read
  pub reads-more : (notes : List Note) (n : Note) (rest : List ℕ) → Reads size list truths bytes notes (line_text (noted n) ++ rest) → MayFollow list truths notes n → length bytes ≤ size + length rest → Reads size list truths bytes (notes ++ n ∷ []) rest
  reads-more notes n rest r may within = record {
    begins = r.begins ∙ ap (λ (bs : List ℕ). line_text (header_of list) ++ bs) (sym (spell-push notes n rest));
    header = r.header;
    in_order = each-push (MayFollow list truths) notes n r.in_order may;
    within = within;
  }

  -- and what that says of the reading before it
  pub record IsNext (notes : List Note) (n : Note) (rest left : List ℕ) : Type 0 where
    pub line : rest ≡ line_text (noted n) ++ left
    pub may : MayFollow list truths notes n
    pub within : length bytes ≤ size + length left

  pub next-of : (notes : List Note) (n : Note) (rest left : List ℕ) → Reads size list truths bytes notes rest → Reads size list truths bytes (notes ++ n ∷ []) left → IsNext notes n rest left
  next-of notes n rest left r s =
      let same : spell notes rest ≡ spell (notes ++ n ∷ []) left = append_cancel_left (line_text (header_of list)) (spell notes rest) (spell (notes ++ n ∷ []) left) (sym r.begins ∙ s.begins) in
      let long = length_push notes n in
      let last = s.in_order (length notes) n (omega (arith, long)) in
      record {
        line = append_cancel_left (flat_map line_text (map noted notes)) rest (line_text (noted n) ++ left) (same ∙ spell-push notes n left);
        may = moved (MayFollow list truths) notes (take (length notes) (notes ++ n ∷ [])) n (get_or (notes ++ n ∷ []) (length notes) n) (sym (take-all notes (n ∷ []))) (sym (get_or_push notes n n (length notes) refl)) last;
        within = s.within;
      }
    where
      take-all : (xs ys : List Note) → take (length xs) (xs ++ ys) ≡ xs
      take-all [] ys = refl
      take-all (x ∷ xs) ys = ap (λ zs. x ∷ zs) (take-all xs ys)

  pub end-of : (ending : Ending) (notes : List Note) (rest left : List ℕ) → Reads size list truths bytes notes rest → ReadsToEnd size list truths ending bytes notes left → rest ≡ line_text (End ending) ++ left
  end-of ending notes rest left r s =
      append_cancel_left (flat_map line_text (map noted notes)) rest (line_text (End ending) ++ left) (append_cancel_left (line_text (header_of list)) (spell notes rest) (spell notes (line_text (End ending) ++ left)) (sym r.begins ∙ s.reads.begins))

  -- no note is read behind these
  abbrev pub NoFurther : List Note → Type 0
  NoFurther notes = (n : Note) (left : List ℕ) → Reads size list truths bytes (notes ++ n ∷ []) left → ⊥

  -- one reading begins the other, so of two that no note follows neither is longer
  nothing_beyond : (notes notes' : List Note) (rest rest' : List ℕ) → Reads size list truths bytes notes' rest' → NoFurther notes → (more : List Note) → notes' ≡ notes ++ more → rest ≡ spell more rest' → (notes ≡ notes') × (rest ≡ rest')
  nothing_beyond notes notes' rest rest' s none [] are is = (sym (append-nil notes) ∙ sym are, is)
  nothing_beyond notes notes' rest rest' s none (n ∷ more) are is =
      let longer : Reads size list truths bytes ((notes ++ n ∷ []) ++ more) rest' = subst (λ ns. Reads size list truths bytes ns rest') (are ∙ sym (append_assoc notes (n ∷ []) more)) s in
      absurd (none n (spell more rest') (reads-front (notes ++ n ∷ []) more rest' longer))

  same-length : (visible : ℕ) (notes notes' : List Note) (rest rest' : List ℕ) → OfOneLength visible truths → Reads size list truths bytes notes rest → Reads size list truths bytes notes' rest' → NoFurther notes → length notes ≤ length notes' → (notes ≡ notes') × (rest ≡ rest')
  same-length visible notes notes' rest rest' sizes r s none le =
      let b = beyond visible notes notes' rest rest' sizes r s le in
      nothing_beyond notes notes' rest rest' s none b.more b.notes_are b.rest_is

  same-reading : (visible : ℕ) (notes notes' : List Note) (rest rest' : List ℕ) → OfOneLength visible truths → Reads size list truths bytes notes rest → Reads size list truths bytes notes' rest' → NoFurther notes → NoFurther notes' → (notes ≡ notes') × (rest ≡ rest')
  same-reading visible notes notes' rest rest' sizes r s none none' = elim (cases_lt (length notes) (length notes')) [
    | inl lt ↦ same-length visible notes notes' rest rest' sizes r s none (omega (arith, lt))
    | inr ge ↦ (let e = same-length visible notes' notes rest' rest sizes s r none' (omega (arith, ge)) in (sym e.0, sym e.1))
  ]

  -- behind a reading that the end line follows there is no further note
  end-no_further : (ending : Ending) (notes : List Note) (rest : List ℕ) → ReadsToEnd size list truths ending bytes notes rest → NoFurther notes
  end-no_further ending notes rest r n left s =
      let next = next-of notes n (line_text (End ending) ++ rest) left r.reads s in
      noted-no_end n ending (sym (line_apart (End ending) (noted n) rest left r.ends.line next.may.line next.line).0)

  -- two readings to the end are one
  same-end : (visible : ℕ) (ending : Ending) (notes notes' : List Note) (rest rest' : List ℕ) → OfOneLength visible truths → ReadsToEnd size list truths ending bytes notes rest → ReadsToEnd size list truths ending bytes notes' rest' → (notes ≡ notes') × (rest ≡ rest')
  same-end visible ending notes notes' rest rest' sizes r s =
      let same = same-reading visible notes notes' _ _ sizes r.reads s.reads (end-no_further ending notes rest r) (end-no_further ending notes' rest' s) in
      (same.0, append_cancel_left (line_text (End ending)) rest rest' same.1)

  -- where neither a note nor the end line follows, there is no reading to the end
  no_end : (visible : ℕ) (ending : Ending) (notes notes' : List Note) (rest rest' : List ℕ) → OfOneLength visible truths → Reads size list truths bytes notes rest → NoFurther notes → ((left : List ℕ) → ReadsToEnd size list truths ending bytes notes left → ⊥) → ReadsToEnd size list truths ending bytes notes' rest' → ⊥
  no_end visible ending notes notes' rest rest' sizes r none none_ends s =
      let same = same-reading visible notes notes' rest (line_text (End ending) ++ rest') sizes r s.reads none (end-no_further ending notes' rest' s) in
      none_ends rest' (subst (λ ns. ReadsToEnd size list truths ending bytes ns rest') (sym same.0) s)

  no_reading : (notes : List Note) (rest : List ℕ) → ((left : List ℕ) → Reads size list truths bytes [] left → ⊥) → Reads size list truths bytes notes rest → ⊥
  no_reading notes rest none r = none (spell notes rest) (reads-front [] notes rest r)

  -- A log comes to one judgement only.
  pub judged_once : (visible : ℕ) (ending : Ending) (j k : Judgement) → OfOneLength visible truths → IsJudged size list truths ending bytes j → IsJudged size list truths ending bytes k → j ≡ k
  judged_once visible ending _ _ sizes (accepted notes r) (accepted notes' s) = refl
  judged_once visible ending _ _ sizes (accepted notes r) (no_header none) = absurd (no_reading notes _ none r.reads)
  judged_once visible ending _ _ sizes (accepted notes r) (no_line notes' rest' s none none_ends) = absurd (no_end visible ending notes' notes rest' [] sizes s none none_ends r)
  judged_once visible ending _ _ sizes (accepted notes r) (goes_on notes' rest' s some) = absurd (some (sym (same-end visible ending notes notes' [] rest' sizes r s).1))
  judged_once visible ending _ _ sizes (no_header none) (accepted notes' s) = absurd (no_reading notes' _ none s.reads)
  judged_once visible ending _ _ sizes (no_header none) (no_header none') = refl
  judged_once visible ending _ _ sizes (no_header none) (no_line notes' rest' s none' none_ends) = absurd (no_reading notes' rest' none s)
  judged_once visible ending _ _ sizes (no_header none) (goes_on notes' rest' s some) = absurd (no_reading notes' _ none s.reads)
  judged_once visible ending _ _ sizes (no_line notes rest r none none_ends) (accepted notes' s) = absurd (no_end visible ending notes notes' rest [] sizes r none none_ends s)
  judged_once visible ending _ _ sizes (no_line notes rest r none none_ends) (no_header none') = absurd (no_reading notes rest none' r)
  judged_once visible ending _ _ sizes (no_line notes rest r none none_ends) (no_line notes' rest' s none' none_ends') = ap (λ ns. Faulty (length ns + 2)) (same-reading visible notes notes' rest rest' sizes r s none none').0
  judged_once visible ending _ _ sizes (no_line notes rest r none none_ends) (goes_on notes' rest' s some) = absurd (no_end visible ending notes notes' rest rest' sizes r none none_ends s)
  judged_once visible ending _ _ sizes (goes_on notes rest r some) (accepted notes' s) = absurd (some (same-end visible ending notes notes' rest [] sizes r s).1)
  judged_once visible ending _ _ sizes (goes_on notes rest r some) (no_header none') = absurd (no_reading notes _ none' r.reads)
  judged_once visible ending _ _ sizes (goes_on notes rest r some) (no_line notes' rest' s none none_ends) = absurd (no_end visible ending notes' notes rest' rest sizes s none none_ends r)
  judged_once visible ending _ _ sizes (goes_on notes rest r some) (goes_on notes' rest' s some') = ap (λ ns. Faulty (length ns + 3)) (same-end visible ending notes notes' rest rest' sizes r s).0
