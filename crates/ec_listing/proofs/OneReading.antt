-- A text comes to one answer at most.
use Rattle.std.proofs.Common.{◌≡◌, ◌≢◌, ℕ, ◌+◌, Bool, List, [], ◌∷◌, ◌++◌, length, refl, sym, ap, subst, ◌∙◌}
use Rattle.ec_logic.specs.Signature.{Signature}
use Rattle.ec_logic.specs.Narrative.{line}
use Rattle.ec_logic.specs.Listing.{Ending}
use Rattle.ec_listing.specs.Apart.{IsToldBySlots}
use Rattle.ec_listing.specs.Reading.{IsFitting, narrative_of, model_text, line_count, IsLongest, IsWhole, IsLast, ComesAfter, Answer, listed, faulty, IsReadFrom, ends, goes_past, neither, breaks, falls, goes_on}
use Rattle.ec_listing.proofs.Words.{one_last, ending_no_model}
use Rattle.ec_listing.proofs.Fronts.{one_front}
use Rattle.ec_listing.proofs.Narratives.{one_narrative, bytes_begin, some_narrative}

module _ (signature : Signature) (told : IsToldBySlots signature) where
  -- the bytes begin with the next `model` line
  abbrev BeginsSo : List (List Bool) → List ℕ → Type 0
  BeginsSo before bytes = (more : List ℕ) × (bytes ≡ line (model_text (length before + 1)) ++ more)

  model_of_front : (before : List (List Bool)) (bytes front rest : List ℕ) → front ≢ [] → IsLongest signature (length before + 1) bytes front rest → BeginsSo before bytes
  model_of_front before bytes front rest some longest = bytes_begin signature told (length before + 1) bytes front rest some longest

  model_of_whole : (before : List (List Bool)) (bytes front rest : List ℕ) (truth : List Bool) → IsWhole signature (length before + 1) bytes front rest truth → BeginsSo before bytes
  model_of_whole before bytes front rest truth whole =
      model_of_front before bytes front rest (λ none. some_narrative signature told (length before + 1) truth (sym whole.is ∙ none)) whole.longest

  last_no_model : (before : List (List Bool)) (bytes : List ℕ) (ending : Ending) (rest : List ℕ) → IsLast (length before) bytes ending rest → BeginsSo before bytes → ⊥
  last_no_model before bytes ending rest last begins = ending_no_model ending (length before + 1) rest begins.0 (sym last.is ∙ begins.1)

  breaks_whole : (before : List (List Bool)) (bytes front front' rest rest' : List ℕ) (truth : List Bool) → IsLongest signature (length before + 1) bytes front rest
      → ((truth : List Bool) → IsFitting signature truth → front ≢ narrative_of signature (length before + 1) truth) → IsWhole signature (length before + 1) bytes front' rest' truth → ⊥
  breaks_whole before bytes front front' rest rest' truth longest not_whole whole =
      not_whole truth whole.fits ((one_front signature (length before + 1) bytes front rest front' rest' longest whole.longest).0 ∙ whole.is)

  wholes_same : (before : List (List Bool)) (bytes front front' rest rest' : List ℕ) (truth truth' : List Bool) → IsWhole signature (length before + 1) bytes front rest truth → IsWhole signature (length before + 1) bytes front' rest' truth'
      → (front ≡ front') × (rest ≡ rest') × (truth ≡ truth')
  wholes_same before bytes front front' rest rest' truth truth' whole whole' =
      let same = one_front signature (length before + 1) bytes front rest front' rest' whole.longest whole'.longest in
      (same.0, same.1, one_narrative signature told (length before + 1) (length before + 1) truth truth' whole.fits whole'.fits (sym whole.is ∙ (same.0 ∙ whole'.is)))

  falls_on : (before : List (List Bool)) (bytes front front' rest rest' : List ℕ) (truth truth' : List Bool) → IsWhole signature (length before + 1) bytes front rest truth → IsWhole signature (length before + 1) bytes front' rest' truth'
      → rest ≢ [] → (ComesAfter before truth → ⊥) → (rest' ≢ [] → ComesAfter before truth') → ⊥
  falls_on before bytes front front' rest rest' truth truth' whole whole' some not_after after =
      let same = wholes_same before bytes front front' rest rest' truth truth' whole whole' in
      not_after (subst (ComesAfter before) (sym same.2) (after (λ none. some (same.1 ∙ none))))

  on_same : (before : List (List Bool)) (number : ℕ) (bytes front front' rest rest' : List ℕ) (truth truth' : List Bool) (answer : Answer) → IsWhole signature (length before + 1) bytes front rest truth
      → IsWhole signature (length before + 1) bytes front' rest' truth' → IsReadFrom signature (before ++ truth' ∷ []) (number + line_count front') rest' answer → IsReadFrom signature (before ++ truth ∷ []) (number + line_count front) rest answer
  on_same before number bytes front front' rest rest' truth truth' answer whole whole' on =
      let same = wholes_same before bytes front front' rest rest' truth truth' whole whole' in
      subst (λ t. IsReadFrom signature (before ++ t ∷ []) (number + line_count front) rest answer) (sym same.2)
      (subst (λ f. IsReadFrom signature (before ++ truth' ∷ []) (number + line_count f) rest answer) (sym same.0)
      (subst (λ r. IsReadFrom signature (before ++ truth' ∷ []) (number + line_count front') r answer) (sym same.1) on))

  -- ---- each way of reading against each

  from_ends : (before : List (List Bool)) (number : ℕ) (bytes : List ℕ) (b : Answer) (ending : Ending) (last : IsLast (length before) bytes ending []) → IsReadFrom signature before number bytes b → listed before ending ≡ b
  from_ends before number bytes b ending last (ends ending' last') = ap (listed before) (one_last (length before) bytes ending ending' [] [] last last').0
  from_ends before number bytes b ending last (goes_past ending' rest' last' some') = absurd (some' (sym (one_last (length before) bytes ending ending' [] rest' last last').1))
  from_ends before number bytes b ending last (neither no_last' no_model') = absurd (no_last' ending [] last)
  from_ends before number bytes b ending last (breaks front' rest' longest' begun' not_whole') = absurd (last_no_model before bytes ending [] last (model_of_front before bytes front' rest' begun' longest'))
  from_ends before number bytes b ending last (falls front' rest' truth' whole' some' not_after') = absurd (last_no_model before bytes ending [] last (model_of_whole before bytes front' rest' truth' whole'))
  from_ends before number bytes b ending last (goes_on {answer = answer'} front' rest' truth' whole' after' on') = absurd (last_no_model before bytes ending [] last (model_of_whole before bytes front' rest' truth' whole'))

  from_goes_past : (before : List (List Bool)) (number : ℕ) (bytes : List ℕ) (b : Answer) (ending : Ending) (rest : List ℕ) (last : IsLast (length before) bytes ending rest) (some : rest ≢ []) → IsReadFrom signature before number bytes b → faulty (number + 1) ≡ b
  from_goes_past before number bytes b ending rest last some (ends ending' last') = absurd (some (one_last (length before) bytes ending ending' rest [] last last').1)
  from_goes_past before number bytes b ending rest last some (goes_past ending' rest' last' some') = refl
  from_goes_past before number bytes b ending rest last some (neither no_last' no_model') = absurd (no_last' ending rest last)
  from_goes_past before number bytes b ending rest last some (breaks front' rest' longest' begun' not_whole') = absurd (last_no_model before bytes ending rest last (model_of_front before bytes front' rest' begun' longest'))
  from_goes_past before number bytes b ending rest last some (falls front' rest' truth' whole' some' not_after') = absurd (last_no_model before bytes ending rest last (model_of_whole before bytes front' rest' truth' whole'))
  from_goes_past before number bytes b ending rest last some (goes_on {answer = answer'} front' rest' truth' whole' after' on') = absurd (last_no_model before bytes ending rest last (model_of_whole before bytes front' rest' truth' whole'))

  from_neither : (before : List (List Bool)) (number : ℕ) (bytes : List ℕ) (b : Answer) (no_last : (ending : Ending) (rest : List ℕ) → IsLast (length before) bytes ending rest → ⊥) (no_model : (rest : List ℕ) → bytes ≢ line (model_text (length before + 1)) ++ rest) → IsReadFrom signature before number bytes b → faulty number ≡ b
  from_neither before number bytes b no_last no_model (ends ending' last') = absurd (no_last ending' [] last')
  from_neither before number bytes b no_last no_model (goes_past ending' rest' last' some') = absurd (no_last ending' rest' last')
  from_neither before number bytes b no_last no_model (neither no_last' no_model') = refl
  from_neither before number bytes b no_last no_model (breaks front' rest' longest' begun' not_whole') = absurd (no_model (((model_of_front before bytes front' rest' begun' longest')).0) (((model_of_front before bytes front' rest' begun' longest')).1))
  from_neither before number bytes b no_last no_model (falls front' rest' truth' whole' some' not_after') = absurd (no_model (((model_of_whole before bytes front' rest' truth' whole')).0) (((model_of_whole before bytes front' rest' truth' whole')).1))
  from_neither before number bytes b no_last no_model (goes_on {answer = answer'} front' rest' truth' whole' after' on') = absurd (no_model (((model_of_whole before bytes front' rest' truth' whole')).0) (((model_of_whole before bytes front' rest' truth' whole')).1))

  from_breaks : (before : List (List Bool)) (number : ℕ) (bytes : List ℕ) (b : Answer) (front rest : List ℕ) (longest : IsLongest signature (length before + 1) bytes front rest) (begun : front ≢ []) (not_whole : (truth : List Bool) → IsFitting signature truth → front ≢ narrative_of signature (length before + 1) truth) → IsReadFrom signature before number bytes b → faulty (number + line_count front) ≡ b
  from_breaks before number bytes b front rest longest begun not_whole (ends ending' last') = absurd (last_no_model before bytes ending' [] last' (model_of_front before bytes front rest begun longest))
  from_breaks before number bytes b front rest longest begun not_whole (goes_past ending' rest' last' some') = absurd (last_no_model before bytes ending' rest' last' (model_of_front before bytes front rest begun longest))
  from_breaks before number bytes b front rest longest begun not_whole (neither no_last' no_model') = absurd (no_model' (((model_of_front before bytes front rest begun longest)).0) (((model_of_front before bytes front rest begun longest)).1))
  from_breaks before number bytes b front rest longest begun not_whole (breaks front' rest' longest' begun' not_whole') = ap (λ f. faulty (number + line_count f)) (one_front signature (length before + 1) bytes front rest front' rest' longest longest').0
  from_breaks before number bytes b front rest longest begun not_whole (falls front' rest' truth' whole' some' not_after') = absurd (breaks_whole before bytes front front' rest rest' truth' longest not_whole whole')
  from_breaks before number bytes b front rest longest begun not_whole (goes_on {answer = answer'} front' rest' truth' whole' after' on') = absurd (breaks_whole before bytes front front' rest rest' truth' longest not_whole whole')

  from_falls : (before : List (List Bool)) (number : ℕ) (bytes : List ℕ) (b : Answer) (front rest : List ℕ) (truth : List Bool) (whole : IsWhole signature (length before + 1) bytes front rest truth) (some : rest ≢ []) (not_after : ComesAfter before truth → ⊥) → IsReadFrom signature before number bytes b → faulty number ≡ b
  from_falls before number bytes b front rest truth whole some not_after (ends ending' last') = absurd (last_no_model before bytes ending' [] last' (model_of_whole before bytes front rest truth whole))
  from_falls before number bytes b front rest truth whole some not_after (goes_past ending' rest' last' some') = absurd (last_no_model before bytes ending' rest' last' (model_of_whole before bytes front rest truth whole))
  from_falls before number bytes b front rest truth whole some not_after (neither no_last' no_model') = absurd (no_model' (((model_of_whole before bytes front rest truth whole)).0) (((model_of_whole before bytes front rest truth whole)).1))
  from_falls before number bytes b front rest truth whole some not_after (breaks front' rest' longest' begun' not_whole') = absurd (breaks_whole before bytes front' front rest' rest truth longest' not_whole' whole)
  from_falls before number bytes b front rest truth whole some not_after (falls front' rest' truth' whole' some' not_after') = refl
  from_falls before number bytes b front rest truth whole some not_after (goes_on {answer = answer'} front' rest' truth' whole' after' on') = absurd (falls_on before bytes front front' rest rest' truth truth' whole whole' some not_after after')

  from_goes_on : (before : List (List Bool)) (number : ℕ) (bytes : List ℕ) (b : Answer) (answer : Answer) (front rest : List ℕ) (truth : List Bool) (whole : IsWhole signature (length before + 1) bytes front rest truth) (after : rest ≢ [] → ComesAfter before truth) (rec : (b : Answer) → IsReadFrom signature (before ++ truth ∷ []) (number + line_count front) rest b → answer ≡ b) → IsReadFrom signature before number bytes b → answer ≡ b
  from_goes_on before number bytes b answer front rest truth whole after rec (ends ending' last') = absurd (last_no_model before bytes ending' [] last' (model_of_whole before bytes front rest truth whole))
  from_goes_on before number bytes b answer front rest truth whole after rec (goes_past ending' rest' last' some') = absurd (last_no_model before bytes ending' rest' last' (model_of_whole before bytes front rest truth whole))
  from_goes_on before number bytes b answer front rest truth whole after rec (neither no_last' no_model') = absurd (no_model' (((model_of_whole before bytes front rest truth whole)).0) (((model_of_whole before bytes front rest truth whole)).1))
  from_goes_on before number bytes b answer front rest truth whole after rec (breaks front' rest' longest' begun' not_whole') = absurd (breaks_whole before bytes front' front rest' rest truth longest' not_whole' whole)
  from_goes_on before number bytes b answer front rest truth whole after rec (falls front' rest' truth' whole' some' not_after') = absurd (falls_on before bytes front' front rest' rest truth' truth whole' whole some' not_after' after)
  from_goes_on before number bytes b answer front rest truth whole after rec (goes_on {answer = answer'} front' rest' truth' whole' after' on') = rec answer' (on_same before number bytes front front' rest rest' truth truth' answer' whole whole' on')

  -- bytes come to one answer at most
  pub one_answer : (before : List (List Bool)) (number : ℕ) (bytes : List ℕ) (a b : Answer) → IsReadFrom signature before number bytes a → IsReadFrom signature before number bytes b → a ≡ b
  one_answer before number bytes a b (ends ending last) other = from_ends before number bytes b ending last other
  one_answer before number bytes a b (goes_past ending rest last some) other = from_goes_past before number bytes b ending rest last some other
  one_answer before number bytes a b (neither no_last no_model) other = from_neither before number bytes b no_last no_model other
  one_answer before number bytes a b (breaks front rest longest begun not_whole) other = from_breaks before number bytes b front rest longest begun not_whole other
  one_answer before number bytes a b (falls front rest truth whole some not_after) other = from_falls before number bytes b front rest truth whole some not_after other
  one_answer before number bytes a b (goes_on {answer = answer} front rest truth whole after on) other = from_goes_on before number bytes b answer front rest truth whole after (λ c d. one_answer (before ++ truth ∷ []) (number + line_count front) rest answer c on d) other
