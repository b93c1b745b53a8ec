-- A prefix of a part of a log, behind all parts before it, is a prefix of the log.
use Rattle.std.proofs.Common.{◌≡◌, ℕ, suc, ◌+◌, ◌<◌, List, [], ◌∷◌, ◌++◌, Option, Some, map, take, drop, length, get_or, sym, ap, subst, ◌∙◌, append_assoc, arith}
use Rattle.std.specs.List.{flat_map}
use Rattle.std.proofs.lemmas.Grind.{flat_map-append}
use Rattle.std.proofs.lemmas.List.{append-nil, take-append-drop}
use Rattle.std.proofs.lemmas.List.Folds.{flat_map-map}
use Rattle.std.proofs.Math.Seq.{drop-cons, take-suc}
use Rattle.ec_clause.specs.declared.ending.Ending.{Ending}
use Rattle.ec_edge.specs.Pieces.{appended, AppendsHeldPrefix}
use Rattle.ec_edge.proofs.Prefixes.{AppendsHeldPrefix-after, appended-append}
use Rattle.ec_log.specs.Kept.{note_of}
use Rattle.ec_log.specs.Line.{Header, End}
use Rattle.ec_log.specs.Log.{Log, noted, line_text, log_text}
use Rattle.ec_log.specs.declared.kept.Kept.{Kept}

-- the log of these numbers and kept notes
abbrev pub log_of : ℕ → ℕ → List Kept → Log
log_of v c kept = record { numbers = (v, c); notes = map note_of kept }

-- the bytes of the lines of notes
abbrev pub notes_text : List Kept → List ℕ
notes_text kept = flat_map line_text (map noted (map note_of kept))

-- the header, the notes and the end
log_parts : (v c : ℕ) (kept : List Kept) (ending : Ending) → log_text (log_of v c kept) ending ≡ line_text (Header v c) ++ (notes_text kept ++ line_text (End ending))
log_parts v c kept ending =
    let behind : flat_map line_text (map noted (map note_of kept) ++ End ending ∷ []) ≡ notes_text kept ++ (line_text (End ending) ++ []) = flat_map-append line_text (map noted (map note_of kept)) (End ending ∷ []) in
    ap (λ (bytes : List ℕ). line_text (Header v c) ++ bytes) (behind ∙ ap (λ (bytes : List ℕ). notes_text kept ++ bytes) (append-nil (line_text (End ending))))

-- the log that a writer is seen as, where its notes are read from these
seen : (log : Log) (v c : ℕ) (kept read : List Kept) → log_of v c kept ≡ log → read ≡ kept → log_of v c read ≡ log
seen log v c kept read view same = ap (log_of v c) same ∙ view

pub header_part : (log : Log) (v c : ℕ) (kept : List Kept) (ending : Ending) (old new : Option (List ℕ)) → log_of v c kept ≡ log → old ≡ Some [] → AppendsHeldPrefix (line_text (Header v c)) old new → AppendsHeldPrefix (log_text log ending) (Some []) new
header_part log v c kept ending old new view none part =
    let P : Log → Type 0 = λ l. AppendsHeldPrefix (log_text l ending) (Some []) new in
    subst P view (AppendsHeldPrefix-after _ [] (line_text (Header v c)) (notes_text kept ++ line_text (End ending)) (Some []) old new part none (log_parts v c kept ending))

pub notes_part : (log : Log) (v c : ℕ) (kept read : List Kept) (ending : Ending) (old mid new : Option (List ℕ)) → log_of v c kept ≡ log → read ≡ kept → old ≡ Some [] → mid ≡ appended old (line_text (Header v c)) → AppendsHeldPrefix (notes_text read) mid new
    → AppendsHeldPrefix (log_text log ending) (Some []) new
notes_part log v c kept read ending old mid new view same none header part =
    let P : Log → Type 0 = λ l. AppendsHeldPrefix (log_text l ending) (Some []) new in
    let begun : mid ≡ appended (Some []) (line_text (Header v c)) = header ∙ ap (λ held. appended held (line_text (Header v c))) none in
    subst P (seen log v c kept read view same) (AppendsHeldPrefix-after _ (line_text (Header v c)) (notes_text read) (line_text (End ending)) (Some []) mid new part begun (log_parts v c read ending))

-- the header and the notes behind one another
begun : (v c : ℕ) (read : List Kept) (old mid last : Option (List ℕ)) → old ≡ Some [] → mid ≡ appended old (line_text (Header v c)) → last ≡ appended mid (notes_text read) → last ≡ appended (Some []) (line_text (Header v c) ++ notes_text read)
begun v c read old mid last none header notes =
    notes ∙ ap (λ held. appended held (notes_text read)) (header ∙ ap (λ held. appended held (line_text (Header v c))) none) ∙ appended-append (Some []) (line_text (Header v c)) (notes_text read)

pub end_part : (log : Log) (v c : ℕ) (kept read : List Kept) (ending : Ending) (old mid last new : Option (List ℕ)) → log_of v c kept ≡ log → read ≡ kept → old ≡ Some [] → mid ≡ appended old (line_text (Header v c)) → last ≡ appended mid (notes_text read)
    → AppendsHeldPrefix (line_text (End ending)) last new → AppendsHeldPrefix (log_text log ending) (Some []) new
end_part log v c kept read ending old mid last new view same none header notes part =
    let P : Log → Type 0 = λ l. AppendsHeldPrefix (log_text l ending) (Some []) new in
    let sent : List ℕ = line_text (Header v c) ++ notes_text read in
    let whole : log_text (log_of v c read) ending ≡ sent ++ (line_text (End ending) ++ []) =
    log_parts v c read ending ∙ sym (append_assoc (line_text (Header v c)) (notes_text read) (line_text (End ending))) ∙ ap (λ (bytes : List ℕ). sent ++ bytes) (sym (append-nil (line_text (End ending)))) in
    subst P (seen log v c kept read view same) (AppendsHeldPrefix-after _ sent (line_text (End ending)) [] (Some []) last new part (begun v c read old mid last none header notes) whole)

-- with the end behind them they are the log
pub end_whole : (log : Log) (v c : ℕ) (kept read : List Kept) (ending : Ending) (old mid last new : Option (List ℕ)) → log_of v c kept ≡ log → read ≡ kept → old ≡ Some [] → mid ≡ appended old (line_text (Header v c)) → last ≡ appended mid (notes_text read)
    → new ≡ appended last (line_text (End ending)) → new ≡ Some (log_text log ending)
end_whole log v c kept read ending old mid last new view same none header notes end =
    let P : Log → Type 0 = λ l. new ≡ Some (log_text l ending) in
    let whole : (line_text (Header v c) ++ notes_text read) ++ line_text (End ending) ≡ log_text (log_of v c read) ending =
    append_assoc (line_text (Header v c)) (notes_text read) (line_text (End ending)) ∙ sym (log_parts v c read ending) in
    subst P (seen log v c kept read view same) (end ∙ ap (λ held. appended held (line_text (End ending))) (begun v c read old mid last none header notes) ∙ ap (λ (bytes : List ℕ). Some bytes) whole)

-- the line of one kept note
abbrev kept_text : Kept → List ℕ
kept_text kept = line_text (noted (note_of kept))

notes_text-flat : (kept : List Kept) → notes_text kept ≡ flat_map kept_text kept
notes_text-flat kept = flat_map-map line_text noted (map note_of kept) ∙ flat_map-map (λ n. line_text (noted n)) note_of kept

-- one note, and those before and after it
notes_split : (before after : List Kept) (item : Kept) → notes_text (before ++ item ∷ after) ≡ notes_text before ++ (kept_text item ++ notes_text after)
notes_split before after item =
    notes_text-flat (before ++ item ∷ after) ∙ flat_map-append kept_text before (item ∷ after) ∙ ap (λ (bytes : List ℕ). bytes ++ (kept_text item ++ flat_map kept_text after)) (sym (notes_text-flat before)) ∙ ap (λ (bytes : List ℕ). notes_text before ++ (kept_text item ++ bytes)) (sym (notes_text-flat after))

pub note_part : (notes before after : List Kept) (item : Kept) (start old new : Option (List ℕ)) → notes ≡ before ++ item ∷ after → old ≡ appended start (notes_text before) → AppendsHeldPrefix (line_text (noted (note_of item))) old new → AppendsHeldPrefix (notes_text notes) start new
note_part notes before after item start old new split begun part =
    AppendsHeldPrefix-after _ (notes_text before) (kept_text item) (notes_text after) start old new part begun (ap notes_text split ∙ notes_split before after item)

-- the items before a place, the one there and those behind it
pub split_there : {X : Type 0} (xs : List X) (k : ℕ) (x : X) → k < length xs → x ≡ get_or xs k x → xs ≡ take k xs ++ x ∷ drop (k + 1) xs
split_there xs k x within is =
    let there : drop k xs ≡ get_or xs k x ∷ drop (suc k) xs = drop-cons xs k x within in
    let next : suc k ≡ k + 1 = omega arith in
    sym (take-append-drop k xs) ∙ ap (λ rest. take k xs ++ rest) (there ∙ ap (λ y. y ∷ drop (suc k) xs) (sym is) ∙ ap (λ n. x ∷ drop n xs) next)

-- one note more
pub note_whole : (notes : List Kept) (k : ℕ) (item : Kept) (start old new : Option (List ℕ)) → k < length notes → item ≡ get_or notes k item → old ≡ appended start (notes_text (take k notes)) → new ≡ appended old (line_text (noted (note_of item))) → new ≡ appended start (notes_text (take (k + 1) notes))
note_whole notes k item start old new within is before added =
    let next : k + 1 ≡ suc k = omega arith in
    let there : take (k + 1) notes ≡ take k notes ++ item ∷ [] = ap (λ n. take n notes) next ∙ take-suc notes k item within ∙ ap (λ x. take k notes ++ x ∷ []) (sym is) in
    let text : notes_text (take (k + 1) notes) ≡ notes_text (take k notes) ++ kept_text item =
    ap notes_text there ∙ notes_split (take k notes) [] item ∙ ap (λ (bytes : List ℕ). notes_text (take k notes) ++ bytes) (append-nil (kept_text item)) in
    added ∙ ap (λ held. appended held (kept_text item)) before ∙ appended-append start (notes_text (take k notes)) (kept_text item) ∙ ap (λ (bytes : List ℕ). appended start bytes) (sym text)
