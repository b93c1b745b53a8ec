-- What a list text goes on with, and what the whole of it comes to.
use Rattle.std.proofs.Common.{◌≡◌, ◌≢◌, ℕ, zero, suc, ◌+◌, ◌-◌, ◌==◌, Bool, true, false, cond, List, [], ◌∷◌, ◌++◌, length, slice_get, Some, refl, sym, ap, subst, ◌∙◌, arith, append_assoc}
use Rattle.std.specs.Prelude.{IsTrue, All}
use Rattle.std.specs.Ordering.{bool_cmp, is_lt}
use Rattle.std.specs.Cmp.Lexicographic.{slice_cmp}
use Rattle.std.proofs.lemmas.Bool.{eqb-true, eq-eqb}
use Rattle.std.proofs.lemmas.List.Sums.{sum_by-append, sum_by-cons}
use Rattle.ec_clause.specs.declared.ending.Ending.{Ending}
use Rattle.ec_logic.specs.Atom.{visible_atoms}
use Rattle.ec_logic.specs.Listing.{Precedes, ending_text}
use Rattle.ec_logic.specs.Listing as listing
use Rattle.ec_logic.specs.Narrative.{line}
use Rattle.ec_logic.specs.Signature.{Signature}
use Rattle.ec_logic.specs.Universe.{universe_of}
use Rattle.ec_logic.specs.Valid.{IsSignature}
use Rattle.ec_listing.specs.Endings.{list_ending}
use Rattle.ec_listing.specs.Slots.{Slot, slots_of}
use Rattle.ec_listing.specs.Apart.{AreReadable}
use Rattle.ec_listing.specs.Passing.{IsReached, IsBroken}
use Rattle.ec_listing.specs.Reading.{IsLineText, line_count, model_text, narrative_of, IsLast, IsWhole, ComesAfter, Answer, listed, faulty, IsReadFrom, ends, goes_past, neither, breaks, falls, goes_on, IsReadAs}
use Rattle.ec_listing.proofs.TextLines.{HasNoEnd, no_end}
use Rattle.ec_listing.proofs.ToldBySlots.{told_by_slots}
use Rattle.ec_listing.proofs.Words.{ending_line}
use Rattle.ec_listing.proofs.Narratives.{reached_whole, broken_off_so, BreaksOff}
use Rattle.ec_narr.specs.Reading.{IsReaderOf, IsFaultAt, IsModelNext, IsReadTo}

-- ---- counts of lines

pub count_append : (a b : List ℕ) → line_count (a ++ b) ≡ line_count a + line_count b
count_append a b = sum_by-append (λ (x : ℕ). cond (x == 10) 1 0) a b

pub count_none : (text : List ℕ) → HasNoEnd text → line_count text ≡ 0
count_none [] h = refl
count_none (b ∷ text) h = sum_by-cons (λ (x : ℕ). cond (x == 10) 1 0) b text ∙ by_test (b == 10) refl (count_none text h.1)
  where
    by_test : (test : Bool) → b == 10 ≡ test → line_count text ≡ 0 → cond test 1 0 + line_count text ≡ 0
    by_test true e rest = absurd (h.0 (eqb-true b 10 e))
    by_test false e rest = omega (arith, rest)

pub count_line : (text : List ℕ) → IsLineText text → line_count (line text) ≡ 1
count_line text one = count_append text (10 ∷ []) ∙ ap (λ n. n + 1) (count_none text (no_end text one))

-- ---- the order of truths

pub nothing_left : (rest : List ℕ) (empty : Bool) → empty ≡ (length rest == 0) → empty ≡ true → rest ≡ []
nothing_left [] empty e is = refl
nothing_left (b ∷ rest) empty e is = absurd (omega (arith, eqb-true (suc (length rest)) 0 (sym e ∙ is)))

pub something_left : (rest : List ℕ) (empty : Bool) → empty ≡ (length rest == 0) → empty ≡ false → rest ≢ []
something_left rest empty e is none = let clash : true ≡ false = sym (eq-eqb (length rest) 0 (ap length none)) ∙ (sym e ∙ is) in cc

less_precedes : (a b : List Bool) → length a ≡ length b → is_lt (slice_cmp bool_cmp a b) ≡ true → Precedes a b
less_precedes [] [] same h = cc
less_precedes [] (y ∷ b) same h = absurd (omega (arith, same))
less_precedes (x ∷ a) [] same h = absurd (omega (arith, same))
less_precedes (false ∷ a) (false ∷ b) same h = less_precedes a b (omega (arith, same)) h
less_precedes (false ∷ a) (true ∷ b) same h = tt
less_precedes (true ∷ a) (false ∷ b) same h = cc
less_precedes (true ∷ a) (true ∷ b) same h = less_precedes a b (omega (arith, same)) h

precedes_less : (a b : List Bool) → Precedes a b → is_lt (slice_cmp bool_cmp a b) ≡ true
precedes_less [] b h = absurd h
precedes_less (false ∷ a) [] h = absurd h
precedes_less (true ∷ a) [] h = absurd h
precedes_less (false ∷ a) (false ∷ b) h = precedes_less a b h
precedes_less (false ∷ a) (true ∷ b) h = refl
precedes_less (true ∷ a) (false ∷ b) h = absurd h
precedes_less (true ∷ a) (true ∷ b) h = precedes_less a b h

last_of : (models : List (List Bool)) (earlier truth : List Bool) → Some earlier ≡ slice_get models (length models - 1) → (ComesAfter models truth → Precedes earlier truth) × (Precedes earlier truth → ComesAfter models truth)
last_of [] earlier truth is = cc
last_of (e ∷ []) earlier truth is = let same : earlier ≡ e = cc in (λ h. subst (λ x. Precedes x truth) (sym same) h, λ h. subst (λ x. Precedes x truth) same h)
last_of (e ∷ next ∷ more) earlier truth is =
    let place : length (e ∷ next ∷ more) - 1 ≡ suc (length (next ∷ more) - 1) = omega arith in
    last_of (next ∷ more) earlier truth (is ∙ ap (slice_get (e ∷ next ∷ more)) place)

pub compared : (models : List (List Bool)) (earlier truth : List Bool) (less : Bool) → Some earlier ≡ slice_get models (length models - 1) → All (λ model. length model ≡ length truth) models → less ≡ is_lt (slice_cmp bool_cmp earlier truth)
    → (IsTrue less → ComesAfter models truth) × (ComesAfter models truth → IsTrue less)
compared models earlier truth less is lengths told =
    let last = last_of models earlier truth is in
    let same : length earlier ≡ length truth = of_last models lengths is in
    (λ h. last.1 (less_precedes earlier truth same (sym told ∙ h)), λ h. told ∙ precedes_less earlier truth (last.0 h))
  where
    of_last : (models : List (List Bool)) → All (λ model. length model ≡ length truth) models → Some earlier ≡ slice_get models (length models - 1) → length earlier ≡ length truth
    of_last models lengths is = at models (length models - 1) is lengths
      where
        at : (models : List (List Bool)) (k : ℕ) → Some earlier ≡ slice_get models k → All (λ model. length model ≡ length truth) models → length earlier ≡ length truth
        at [] k is lengths = cc
        at (m ∷ models) zero is lengths = let e : earlier ≡ m = cc in ap length e ∙ lengths 0 m (omega arith)
        at (m ∷ models) (suc k) is lengths = at models k is (λ j d l. lengths (suc j) d (omega (arith, l)))

-- ---- what the bytes go on with

module _ (signature : Signature) (before : List (List Bool)) where
  read_on : (bytes : List ℕ) (a b : Answer) (number : ℕ) → a ≡ b → IsReadFrom signature before number bytes a → IsReadFrom signature before number bytes b
  read_on bytes a b number e read = subst (λ x. IsReadFrom signature before number bytes x) e read

  here_faulty : (bytes : List ℕ) → ((number : ℕ) → IsReadFrom signature before number bytes (faulty number)) → IsFaultAt signature before bytes bytes
  here_faulty bytes says = record {
    front = [];
    parts = refl;
    says = λ number. let same : number ≡ number + line_count [] = omega arith in read_on bytes (faulty number) (faulty (number + line_count [])) number (ap faulty same) (says number);
  }

  pub ended : (bytes rest : List ℕ) (e : Ending) → IsLast (length before) bytes (list_ending e) rest → rest ≡ [] → (number : ℕ) → IsReadFrom signature before number bytes (listed before (list_ending e))
  ended bytes rest e last none number = ends (list_ending e) (subst (λ r. IsLast (length before) bytes (list_ending e) r) none last)

  pub gone_past : (bytes rest : List ℕ) (e : Ending) → IsLast (length before) bytes (list_ending e) rest → rest ≢ [] → IsFaultAt signature before bytes rest
  gone_past bytes rest e last some = record {
    front = line (ending_text (list_ending e));
    parts = last.is;
    says = λ number.
        let same : number + 1 ≡ number + line_count (line (ending_text (list_ending e))) = ap (λ n. number + n) (sym (count_line (ending_text (list_ending e)) (ending_line (list_ending e)))) in
        read_on bytes (faulty (number + 1)) (faulty (number + line_count (line (ending_text (list_ending e))))) number (ap faulty same) (goes_past (list_ending e) rest last some);
  }

  pub neither_stands : (bytes : List ℕ) → ((e : listing.Ending) (rest : List ℕ) → IsLast (length before) bytes e rest → ⊥) → ((rest : List ℕ) → bytes ≢ line (model_text (length before + 1)) ++ rest) → IsFaultAt signature before bytes bytes
  neither_stands bytes no_last no_model = here_faulty bytes (λ number. neither no_last no_model)

  -- what was reached, by the slots of the signature
  module _ (slots : List Slot) (visible : ℕ) (reader : IsReaderOf signature slots visible) (bytes behind : List ℕ) (begins : bytes ≡ line (model_text (length before + 1)) ++ behind) where
    whole_next : (row : List Bool) (rest : List ℕ) → IsReached visible slots slots [] row behind rest → IsWhole signature (length before + 1) bytes (narrative_of signature (length before + 1) row) rest row
    whole_next row rest reached =
        let mine : IsReached (length (visible_atoms (universe_of signature))) (slots_of signature) (slots_of signature) [] row behind rest =
        subst (λ n. IsReached n (slots_of signature) (slots_of signature) [] row behind rest) reader.count (subst (λ s. IsReached visible s s [] row behind rest) reader.are reached) in
        subst (λ b. IsWhole signature (length before + 1) b (narrative_of signature (length before + 1) row) rest row) (sym begins) (reached_whole signature reader.told (length before + 1) row behind rest mine)

    pub model_next : (row : List Bool) (rest : List ℕ) → IsReached visible slots slots [] row behind rest → (rest ≢ [] → ComesAfter before row) → IsModelNext signature before bytes row rest
    model_next row rest reached after = record { front = narrative_of signature (length before + 1) row; whole = whole_next row rest reached; after = after }

    pub model_falls : (row : List Bool) (rest : List ℕ) → IsReached visible slots slots [] row behind rest → rest ≢ [] → (ComesAfter before row → ⊥) → IsFaultAt signature before bytes bytes
    model_falls row rest reached some not_after = here_faulty bytes (λ number. falls (narrative_of signature (length before + 1) row) rest row (whole_next row rest reached) some not_after)

    pub model_breaks : (row : List Bool) (rest : List ℕ) → IsBroken visible slots row behind rest → IsFaultAt signature before bytes rest
    model_breaks row rest broken =
        let mine : IsBroken (length (visible_atoms (universe_of signature))) (slots_of signature) row behind rest =
        subst (λ n. IsBroken n (slots_of signature) row behind rest) reader.count (subst (λ s. IsBroken visible s row behind rest) reader.are broken) in
        let off : BreaksOff signature reader.told (length before + 1) bytes rest =
        subst (λ b. BreaksOff signature reader.told (length before + 1) b rest) (sym begins) (broken_off_so signature reader.told (length before + 1) row behind rest mine) in
        record { front = off.front; parts = off.longest.parts; says = λ number. breaks off.front rest off.longest off.some off.not_whole }

-- ---- what all of the bytes come to

pub read_more : (signature : Signature) (before : List (List Bool)) (bytes rest behind : List ℕ) (truth : List Bool) → IsReadTo signature before bytes rest → IsModelNext signature before rest truth behind → IsReadTo signature (before ++ truth ∷ []) bytes behind
read_more signature before bytes rest behind truth read next = record {
  front = read.front ++ next.front;
  parts = read.parts ∙ (ap (λ x. read.front ++ x) next.whole.longest.parts ∙ sym (append_assoc read.front next.front behind));
  on = λ answer more.
      let number : 1 + line_count (read.front ++ next.front) ≡ 1 + line_count read.front + line_count next.front = omega (arith, count_append read.front next.front) in
      read.on answer (goes_on next.front behind truth next.whole next.after (subst (λ n. IsReadFrom signature (before ++ truth ∷ []) n behind answer) number more));
}

pub fault_found : (signature : Signature) (before : List (List Bool)) (bytes rest fault : List ℕ) (number : ℕ) → IsReadTo signature before bytes rest → IsFaultAt signature before rest fault
    → ((front : List ℕ) → bytes ≡ front ++ fault → number ≡ 1 + line_count front) → IsReadAs signature bytes (faulty number)
fault_found signature before bytes rest fault number read at told =
    let parts : bytes ≡ (read.front ++ at.front) ++ fault = read.parts ∙ (ap (λ x. read.front ++ x) at.parts ∙ sym (append_assoc read.front at.front fault)) in
    let same : 1 + line_count read.front + line_count at.front ≡ number = omega (arith, count_append read.front at.front, told (read.front ++ at.front) parts) in
    subst (λ n. IsReadAs signature bytes (faulty n)) same (read.on (faulty (1 + line_count read.front + line_count at.front)) (at.says (1 + line_count read.front)))

-- ---- what it takes to read a signature's narratives

pub reader_of : (signature numbered : Signature) (slots : List Slot) (visible : ℕ) → IsSignature signature → numbered ≡ signature → slots ≡ slots_of signature → visible ≡ length (visible_atoms (universe_of numbered)) → IsReaderOf signature slots visible
reader_of signature numbered slots visible valid same are count = record {
  told = told_by_slots signature valid;
  are = are;
  count = count ∙ ap (λ s. length (visible_atoms (universe_of s))) same;
}

pub readable_of : (signature : Signature) (slots : List Slot) (visible : ℕ) → IsReaderOf signature slots visible → AreReadable visible slots
readable_of signature slots visible reader = subst (λ s. AreReadable visible s) (sym reader.are) (subst (λ n. AreReadable n (slots_of signature)) (sym reader.count) reader.told.readable)
