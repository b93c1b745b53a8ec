-- What a list comes to of which more bytes were read than it may have.
use Rattle.std.proofs.Common.{◌≡◌, ℕ, zero, suc, ◌+◌, ◌<◌, ◌≤◌, inl, inr, Bool, true, false, min, List, [], ◌∷◌, length, take, Option, Some, None, Result, Ok, Err, refl, ap, sym, subst, ◌∙◌, arith}
use Rattle.std.specs.Prelude.{IsSomeAnd}
use Rattle.std.proofs.Math.Dec.{ltb}
use Rattle.std.proofs.lemmas.Bool.{ltb-true, ltb-false}
use Rattle.std.proofs.lemmas.List.{take_all}
use Rattle.ec_logic.proofs.Tests.{test_cases}
use Rattle.ec_logic.specs.Listing.{Ending}
use Rattle.ec_logic.specs.Signature.{Signature}
use Rattle.ec_logic.specs.Valid.{IsSignature}
use Rattle.ec_listing.specs.Reading.{Answer, listed, faulty, IsReadAs, line_count}
use Rattle.ec_listing.specs.Within.{IsListWithin, within, earlier, passes}
use Rattle.ec_listing.proofs.OneReading.{one_answer}
use Rattle.ec_listing.proofs.ToldBySlots.{told_by_slots}
use Rattle.ec_logic.specs.Theory.{Theory}
use Rattle.ec_edge.specs.Pieces.{IsRead}
use Rattle.ec_edge.specs.declared.whole.Whole.{Whole}
use Rattle.ec_narr.specs.declared.listed.Listed.{Listed}
use Rattle.ec_evidence.specs.declared.finding.Finding.{Finding}
use Rattle.ec_evidence.specs.declared.finding.Finding.TheVariants.{Yes, No, NoList, NoLog, Files, Memory}
use Rattle.ec_evidence.specs.declared.finding.Reason.TheVariants as reason
use Rattle.ec_evidence.specs.Found.{Held, list_line, largest_list}
use Rattle.ec_evidence.specs.Steps.{IsCut, IsWithinOrBehind, TellsTooLong, ReadsBytes, ReadsWithin, ReadsTo, IsOfText}

module _ (signature : Signature) (valid : IsSignature signature) (lines : List ℕ) (count : ℕ) where
  one : (a b : Answer) → IsReadAs signature lines a → IsReadAs signature lines b → a ≡ b
  one a b r s = one_answer signature (told_by_slots signature valid) [] 1 lines a b r s

  pub behind_listed : (truths : List (List Bool)) (ending : Ending) → IsReadAs signature lines (listed truths ending) → IsWithinOrBehind signature lines count (count + 1)
  behind_listed truths ending read = inr (refl, λ other r. let clash : listed truths ending ≡ faulty other = one (listed truths ending) (faulty other) read r in absurd (is_other truths ending other clash))
    where
      is_other : (ts : List (List Bool)) (e : Ending) (n : ℕ) → listed ts e ≡ faulty n → ⊥
      is_other ts e n clash = cc

  same_line : (a b : ℕ) → faulty a ≡ faulty b → a ≡ b
  same_line a b e = cc

  pub first_of : (number : ℕ) → IsReadAs signature lines (faulty number) → IsWithinOrBehind signature lines count (min number (count + 1))
  first_of number read = test_cases (IsWithinOrBehind signature lines count (min number (count + 1))) (ltb count number)
      (λ e. let past = ltb-true count number e in
      let same : min number (count + 1) ≡ count + 1 = omega (arith, past) in
      subst (IsWithinOrBehind signature lines count) (sym same) (inr (refl, λ other r. subst (λ n. count < n) (same_line number other (one (faulty number) (faulty other) read r)) past)))
      (λ e. let below = ltb-false count number e in
      let same : min number (count + 1) ≡ number = omega (arith, below) in
      subst (IsWithinOrBehind signature lines count) (sym same) (inl (read, below)))

-- a list that goes past its size, by the whole lines within it
pub cut_short : (signature : Signature) (size : ℕ) (bytes lines : List ℕ) (count number : ℕ) → size < length bytes → IsCut (take size bytes) lines count → IsWithinOrBehind signature lines count number
    → IsListWithin signature size bytes (faulty number)
cut_short signature size bytes lines count number more cut (inl first) =
    let counted : number ≤ line_count lines = omega (arith, first.1, cut.counted) in
    earlier lines number (record { more = more; begun = cut.begun; parts = cut.parts; whole = cut.whole; one = cut.one }) first.0 counted
cut_short signature size bytes lines count number more cut (inr behind) =
    let place : number ≡ line_count lines + 1 = behind.0 ∙ ap (λ n. n + 1) cut.counted in
    subst (λ n. IsListWithin signature size bytes (faulty n)) (sym place)
    (passes lines (record { more = more; begun = cut.begun; parts = cut.parts; whole = cut.whole; one = cut.one }) (λ other r. subst (λ n. n < other) cut.counted (behind.1 other r)))

-- ---- what was read of a file

pub read_whole : (size : ℕ) (bytes read slice : List ℕ) (past : Bool) → IsRead bytes size read past → past ≡ false → slice ≡ read → (slice ≡ bytes) × (length bytes ≤ size)
read_whole size bytes read slice past is whole same =
    let small = ltb-false size (length bytes) (sym is.is_past ∙ whole) in
    let few : length bytes ≤ size + 1 = omega (arith, small) in
    (same ∙ (is.front ∙ take_all (size + 1) bytes few), small)

-- the front of what was read is that of all bytes
take_less : {A : Type 0} (n m : ℕ) (xs : List A) → n ≤ m → take n (take m xs) ≡ take n xs
take_less zero m xs le = refl
take_less (suc n) zero xs le = absurd (let no : suc n ≤ 0 → ⊥ = omega arith in no le)
take_less (suc n) (suc m) [] le = refl
take_less (suc n) (suc m) (x ∷ xs) le = let less : n ≤ m = omega (arith, le) in ap (λ ys. x ∷ ys) (take_less n m xs less)

pub read_past : (size : ℕ) (bytes read front : List ℕ) (past : Bool) → IsRead bytes size read past → past ≡ true → front ≡ take size read → (front ≡ take size bytes) × (size < length bytes)
read_past size bytes read front past is whole same =
    let less : size ≤ size + 1 = omega arith in
    (same ∙ (ap (take size) is.front ∙ take_less size (size + 1) bytes less), ltb-true size (length bytes) (sym is.is_past ∙ whole))

pub within_whole : (signature : Signature) (size : ℕ) (bytes slice : List ℕ) (answer : Answer) → slice ≡ bytes → length bytes ≤ size → IsReadAs signature slice answer → IsListWithin signature size bytes answer
within_whole signature size bytes slice answer same small read = within small (subst (λ bs. IsReadAs signature bs answer) same read)

-- what was found of a list that is too long
pub cut_found : (signature : Signature) (bytes lines : List ℕ) (count : ℕ) (finding : Finding) → largest_list < length bytes → IsCut (take largest_list bytes) lines count → TellsTooLong signature lines count finding → ReadsBytes signature bytes (Err finding)
cut_found signature bytes lines count (No (reason.List number)) more cut told = cut_short signature largest_list bytes lines count number more cut told
cut_found signature bytes lines count (No (reason.Model number part)) more cut told = absurd told
cut_found signature bytes lines count (No (reason.Log number)) more cut told = absurd told
cut_found signature bytes lines count (Yes ending) more cut told = absurd told
cut_found signature bytes lines count NoList more cut told = absurd told
cut_found signature bytes lines count NoLog more cut told = absurd told
cut_found signature bytes lines count Files more cut told = absurd told
cut_found signature bytes lines count Memory more cut told = tt

pub cut_text : (A : Type 0) (signature : Signature) (lines : List ℕ) (count : ℕ) (finding : Finding) → TellsTooLong signature lines count finding → IsOfText {A = A} (Err finding)
cut_text A signature lines count (No (reason.List number)) told = tt
cut_text A signature lines count (No (reason.Model number part)) told = tt
cut_text A signature lines count (No (reason.Log number)) told = tt
cut_text A signature lines count (Yes ending) told = told
cut_text A signature lines count NoList told = told
cut_text A signature lines count NoLog told = told
cut_text A signature lines count Files told = told
cut_text A signature lines count Memory told = tt

-- what is read of the list that a name holds
pub reads_to : (held : Held) (list : List ℕ) (theory : Theory) (whole : Whole) (result : Result Listed Finding) → IsSomeAnd (held list) (λ bytes. IsRead bytes largest_list whole.bytes.items whole.past)
    → ReadsWithin theory.signature whole result → ReadsTo held list theory result
reads_to held list theory whole result there reads = by_held (held list) refl there
  where
    by_result : (bytes : List ℕ) → held list ≡ Some bytes → (r : Result Listed Finding) → ReadsBytes theory.signature bytes r → ReadsTo held list theory r
    by_result bytes e (Ok found) h = record { bytes = bytes; there = e; read = h.0; text = h.1 }
    by_result bytes e (Err (No (reason.List number))) h = λ log. list_line bytes e h
    by_result bytes e (Err (No (reason.Model number part))) h = absurd h
    by_result bytes e (Err (No (reason.Log number))) h = absurd h
    by_result bytes e (Err (Yes ending)) h = absurd h
    by_result bytes e (Err NoList) h = absurd h
    by_result bytes e (Err NoLog) h = absurd h
    by_result bytes e (Err Files) h = absurd h
    by_result bytes e (Err Memory) h = λ log. tt

    by_held : (o : Option (List ℕ)) → held list ≡ o → IsSomeAnd o (λ bytes. IsRead bytes largest_list whole.bytes.items whole.past) → ReadsTo held list theory result
    by_held None e h = absurd h
    by_held (Some bytes) e h = by_result bytes e result (reads bytes h)
