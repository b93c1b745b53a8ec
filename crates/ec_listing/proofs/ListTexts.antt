-- A list's text is read as its truths and its ending, and no other text is.
use Rattle.std.proofs.Common.{◌≡◌, ◌≢◌, ℕ, suc, ◌+◌, Bool, true, false, List, [], ◌∷◌, ◌++◌, length, sym, ap, subst, ◌∙◌, arith, append_assoc}
use Rattle.std.specs.List.{AllByRecursion}
use Rattle.std.proofs.lemmas.List.{append-nil, length_push}
use Rattle.ec_logic.specs.Signature.{Signature}
use Rattle.ec_logic.specs.Narrative.{line}
use Rattle.ec_logic.specs.Listing.{Ending, ending_text, narratives_from, list_text, Precedes, IsRising}
use Rattle.ec_listing.specs.Slots.{slots_of, told_text}
use Rattle.ec_listing.specs.Apart.{IsToldBySlots}
use Rattle.ec_listing.specs.Reading.{IsFitting, narrative_of, model_text, line_count, HasNumber, ComesAfter, Answer, listed, faulty, IsReadFrom, ends, goes_past, neither, breaks, falls, goes_on, IsReadAs}
use Rattle.ec_listing.specs.Lists.{IsListText}
use Rattle.ec_listing.proofs.Stepping.{IsNoSlotLine}
use Rattle.ec_listing.proofs.Words.{ending_no_slot, model_no_slot}
use Rattle.ec_listing.proofs.Narratives.{narrative_whole}

-- ---- rising truths

pub after_earlier : (before : List (List Bool)) (t : List Bool) (more : List (List Bool)) → IsRising (before ++ t ∷ more) → ComesAfter before t
after_earlier [] t more h = tt
after_earlier (e ∷ []) t more h = h.0.0
after_earlier (e ∷ next ∷ before) t more h = after_earlier (next ∷ before) t more h.1

precedes_on : (a b c : List Bool) → Precedes a b → Precedes b c → Precedes a c
precedes_on [] b c h g = absurd h
precedes_on (false ∷ a) [] c h g = absurd h
precedes_on (true ∷ a) [] c h g = absurd h
precedes_on (true ∷ a) (false ∷ b) c h g = absurd h
precedes_on (false ∷ a) (false ∷ b) [] h g = absurd g
precedes_on (false ∷ a) (false ∷ b) (false ∷ c) h g = precedes_on a b c h g
precedes_on (false ∷ a) (false ∷ b) (true ∷ c) h g = tt
precedes_on (false ∷ a) (true ∷ b) [] h g = absurd g
precedes_on (false ∷ a) (true ∷ b) (false ∷ c) h g = absurd g
precedes_on (false ∷ a) (true ∷ b) (true ∷ c) h g = tt
precedes_on (true ∷ a) (true ∷ b) [] h g = absurd g
precedes_on (true ∷ a) (true ∷ b) (false ∷ c) h g = absurd g
precedes_on (true ∷ a) (true ∷ b) (true ∷ c) h g = precedes_on a b c h g

all_push : (e : List Bool) (more : List (List Bool)) (t : List Bool) → AllByRecursion (Precedes e) more → Precedes e t → AllByRecursion (Precedes e) (more ++ t ∷ [])
all_push e [] t h g = (g, tt)
all_push e (x ∷ more) t h g = (h.0, all_push e more t h.1 g)

first_precedes : (e next : List Bool) (more : List (List Bool)) (t : List Bool) → Precedes e next → IsRising (next ∷ more) → ComesAfter (next ∷ more) t → Precedes e t
first_precedes e next [] t h rising after = precedes_on e next t h after
first_precedes e next (x ∷ more) t h rising after = first_precedes e x more t (precedes_on e next x h rising.0.0) rising.1 after

pub rising_push : (before : List (List Bool)) (t : List Bool) → IsRising before → ComesAfter before t → IsRising (before ++ t ∷ [])
rising_push [] t h after = (tt, tt)
rising_push (e ∷ []) t h after = ((after, tt), (tt, tt))
rising_push (e ∷ next ∷ before) t h after =
    (all_push e (next ∷ before) t h.0 (first_precedes e next before t h.0.0 h.1 after), rising_push (next ∷ before) t h.1 after)

-- ---- a list's text

-- narratives from a number on, and a last line
abbrev pub list_from : Signature → ℕ → List (List Bool) → Ending → List ℕ
list_from signature number truths ending = narratives_from signature number truths ++ line (ending_text ending)

some_list : (signature : Signature) (number : ℕ) (truths : List (List Bool)) (ending : Ending) → list_from signature number truths ending ≢ []
some_list signature number truths ending is = ends_so (narratives_from signature number truths) (ending_text ending) is
  where
    ends_so : (front text : List ℕ) → front ++ line text ≢ []
    ends_so [] [] is = cc
    ends_so [] (b ∷ text) is = cc
    ends_so (b ∷ front) text is = cc

regroup : (a b c d : List ℕ) → a ++ b ++ c ++ d ≡ a ++ (b ++ (c ++ d))
regroup a b c d = append_assoc (a ++ b) c d ∙ append_assoc a b (c ++ d)

module _ (signature : Signature) (told : IsToldBySlots signature) where
  behind_narrative : (number : ℕ) (truths : List (List Bool)) (ending : Ending) → IsNoSlotLine (list_from signature number truths ending)
  behind_narrative number [] ending = subst IsNoSlotLine (append-nil (line (ending_text ending))) (ending_no_slot ending [])
  behind_narrative number (t ∷ truths) ending =
      let more : List ℕ = narratives_from signature (suc number) truths in
      let text : List ℕ = told_text t (slots_of signature) in
      let is : list_from signature number (t ∷ truths) ending ≡ line (model_text number) ++ (text ++ (more ++ line (ending_text ending))) =
      ap (λ x. x ++ more ++ line (ending_text ending)) (told.tells t number) ∙ regroup (line (model_text number)) text more (line (ending_text ending)) in
      subst IsNoSlotLine (sym is) (model_no_slot number (text ++ (more ++ line (ending_text ending))))

  -- the truths fit and rise, and the ending has their number
  text_read : (truths before : List (List Bool)) (number : ℕ) (ending : Ending) → AllByRecursion (IsFitting signature) truths → IsRising (before ++ truths) → HasNumber (length (before ++ truths)) ending
      → IsReadFrom signature before number (list_from signature (length before + 1) truths ending) (listed (before ++ truths) ending)
  text_read [] before number ending fits rising right =
      let all : before ++ [] ≡ before = append-nil before in
      subst (λ ts. IsReadFrom signature before number (line (ending_text ending)) (listed ts ending)) (sym all)
      (ends ending (record { number = subst (λ ts. HasNumber (length ts) ending) all right; is = sym (append-nil (line (ending_text ending))) }))
  text_read (t ∷ truths) before number ending fits rising right =
      let front : List ℕ = narrative_of signature (length before + 1) t in
      let count : suc (length before + 1) ≡ length (before ++ t ∷ []) + 1 = omega (arith, length_push before t) in
      let all : (before ++ t ∷ []) ++ truths ≡ before ++ t ∷ truths = append_assoc before (t ∷ []) truths in
      let rest : List ℕ = list_from signature (suc (length before + 1)) truths ending in
      let on' : IsReadFrom signature (before ++ t ∷ []) (number + line_count front) (list_from signature (length (before ++ t ∷ []) + 1) truths ending) (listed ((before ++ t ∷ []) ++ truths) ending) =
      text_read truths (before ++ t ∷ []) (number + line_count front) ending fits.1 (subst IsRising (sym all) rising) (subst (λ ts. HasNumber (length ts) ending) (sym all) right) in
      let on : IsReadFrom signature (before ++ t ∷ []) (number + line_count front) rest (listed (before ++ t ∷ truths) ending) =
      subst (λ ts. IsReadFrom signature (before ++ t ∷ []) (number + line_count front) rest (listed ts ending)) all
      (subst (λ n. IsReadFrom signature (before ++ t ∷ []) (number + line_count front) (list_from signature n truths ending) (listed ((before ++ t ∷ []) ++ truths) ending)) (sym count) on') in
      let whole = narrative_whole signature told (length before + 1) t rest fits.0 (behind_narrative (suc (length before + 1)) truths ending) in
      subst (λ bytes. IsReadFrom signature before number bytes (listed (before ++ t ∷ truths) ending)) (sym (append_assoc front (narratives_from signature (suc (length before + 1)) truths) (line (ending_text ending))))
      (goes_on front rest t whole (λ some. after_earlier before t truths rising) on)

  pub text_is_read : (truths : List (List Bool)) (ending : Ending) → AllByRecursion (IsFitting signature) truths → IsRising truths → HasNumber (length truths) ending → IsReadAs signature (list_text signature truths ending) (listed truths ending)
  text_is_read truths ending fits rising right = text_read truths [] 1 ending fits rising right

-- What was read from a place on is narratives of truths that fit and rise, and a last line with the right number.
pub record IsListFrom (signature : Signature) (before : List (List Bool)) (bytes : List ℕ) (truths : List (List Bool)) (ending : Ending) : Type 0 where
  pub more : List (List Bool)
  pub are : truths ≡ before ++ more
  pub is : bytes ≡ list_from signature (length before + 1) more ending
  pub fit : AllByRecursion (IsFitting signature) more
  pub rise : IsRising before → IsRising truths
  pub number : HasNumber (length truths) ending

abbrev pub Says : Signature → List (List Bool) → List ℕ → Answer → Type 0
Says signature before bytes (listed truths ending) = IsListFrom signature before bytes truths ending
Says signature before bytes (faulty n) = Unit {0}

says_on : (signature : Signature) (before : List (List Bool)) (bytes front rest : List ℕ) (truth : List Bool) (answer : Answer) → bytes ≡ front ++ rest → front ≡ narrative_of signature (length before + 1) truth → IsFitting signature truth
    → (rest ≢ [] → ComesAfter before truth) → Says signature (before ++ truth ∷ []) rest answer → Says signature before bytes answer
says_on signature before bytes front rest truth (faulty n) parts is fits after says = tt
says_on signature before bytes front rest truth (listed truths ending) parts is fits after says =
    let count : length (before ++ truth ∷ []) + 1 ≡ suc (length before + 1) = omega (arith, length_push before truth) in
    let some : rest ≢ [] = λ none. some_list signature (length (before ++ truth ∷ []) + 1) says.more ending (sym says.is ∙ none) in
    let more : List ℕ = narratives_from signature (suc (length before + 1)) says.more in
    let rest_is : rest ≡ more ++ line (ending_text ending) = says.is ∙ ap (λ n. list_from signature n says.more ending) count in
    record {
      more = truth ∷ says.more;
      are = says.are ∙ append_assoc before (truth ∷ []) says.more;
      is = parts ∙ (ap (λ x. x ++ rest) is ∙ (ap (λ x. narrative_of signature (length before + 1) truth ++ x) rest_is ∙ sym (append_assoc (narrative_of signature (length before + 1) truth) more (line (ending_text ending)))));
      fit = (fits, says.fit);
      rise = λ rising. says.rise (rising_push before truth rising (after some));
      number = says.number;
    }

read_says : (signature : Signature) (before : List (List Bool)) (number : ℕ) (bytes : List ℕ) (answer : Answer) → IsReadFrom signature before number bytes answer → Says signature before bytes answer
read_says signature before number bytes answer (ends ending last) = record {
  more = [];
  are = sym (append-nil before);
  is = last.is ∙ append-nil (line (ending_text ending));
  fit = tt;
  rise = λ rising. rising;
  number = last.number;
}
read_says signature before number bytes answer (goes_past ending rest last some) = tt
read_says signature before number bytes answer (neither no_last no_model) = tt
read_says signature before number bytes answer (breaks front rest longest some not_whole) = tt
read_says signature before number bytes answer (falls front rest truth whole some not_after) = tt
read_says signature before number bytes answer (goes_on {answer = a} front rest truth whole after on) =
    says_on signature before bytes front rest truth a whole.longest.parts whole.is whole.fits after (read_says signature (before ++ truth ∷ []) (number + line_count front) rest a on)

pub read_is_text : (signature : Signature) (bytes : List ℕ) (truths : List (List Bool)) (ending : Ending) → IsReadAs signature bytes (listed truths ending) → IsListText signature bytes truths ending
read_is_text signature bytes truths ending read =
    let says : IsListFrom signature [] bytes truths ending = read_says signature [] 1 bytes (listed truths ending) read in
    let P : List (List Bool) → Type 0 = λ ts. IsListText signature bytes ts ending in
    subst P (sym says.are) (record { is = says.is; fit = says.fit; rise = subst IsRising says.are (says.rise tt); number = subst (λ ts. HasNumber (length ts) ending) says.are says.number })
