-- What was read can be gone on with: the silent atoms that are left are true, and the others any.
use Rattle.std.proofs.Common.{◌≡◌, ◌≢◌, ℕ, ◌<◌, Bool, true, List, [], ◌∷◌, ◌++◌, length, set, refl, sym, ap, subst, ◌∙◌, arith}
use Rattle.std.specs.Prelude.{AllPairs, All, Contains}
use Rattle.std.proofs.lemmas.List.{append-nil, length-set}
use Rattle.std.proofs.lemmas.List.Elements.{All-contains, Contains-append_left, Contains-append_right}
use Rattle.ec_logic.specs.Narrative.{line}
use Rattle.ec_listing.specs.Reading.{IsLineText}
use Rattle.ec_listing.specs.Slots.{Slot, fixed, told, changed, silent, told_text, truth_at}
use Rattle.ec_listing.specs.Apart.{slot_atoms, AreEarlierBefore, AreSilent, AreReadable}
use Rattle.ec_listing.specs.Passing.{Suits, Agree, nothing, same_line, IsReached, IsBroken}
use Rattle.ec_listing.proofs.TextLines.{same_lines, some_line}
use Rattle.ec_listing.proofs.Truths.{truth_set, truth_set_other, parts_apart, pairs_right, contains_one}
use Rattle.ec_listing.proofs.SlotTexts.{Agree-back, told_same, silent_same, silent_append, earlier_left, atoms_append, told_append}
use Rattle.ec_listing.proofs.Reaching.{placed, here}

filled : List Bool → List Slot → List Bool
filled row [] = row
filled row (fixed text ∷ slots) = filled row slots
filled row (told k text ∷ slots) = filled row slots
filled row (changed e k text ∷ slots) = filled row slots
filled row (silent k ∷ slots) = filled (set row k true) slots

length-filled : (row : List Bool) (slots : List Slot) → length (filled row slots) ≡ length row
unfolding filled
length-filled row [] = refl
length-filled row (fixed text ∷ slots) = length-filled row slots
length-filled row (told k text ∷ slots) = length-filled row slots
length-filled row (changed e k text ∷ slots) = length-filled row slots
length-filled row (silent k ∷ slots) = length-filled (set row k true) slots ∙ length-set row k true

filled_other : (row : List Bool) (slots : List Slot) (j : ℕ) → (Contains (slot_atoms slots) j → ⊥) → truth_at (filled row slots) j ≡ truth_at row j
unfolding filled
filled_other row [] j h = refl
filled_other row (fixed text ∷ slots) j h = filled_other row slots j h
filled_other row (told k text ∷ slots) j h = filled_other row slots j (λ c. h (Contains-append_right (k ∷ []) (slot_atoms slots) j c))
filled_other row (changed e k text ∷ slots) j h = filled_other row slots j (λ c. h (Contains-append_right (k ∷ []) (slot_atoms slots) j c))
filled_other row (silent k ∷ slots) j h =
    filled_other (set row k true) slots j (λ c. h (Contains-append_right (k ∷ []) (slot_atoms slots) j c))
    ∙ truth_set_other row k j true (λ e. h (Contains-append_left (k ∷ []) (slot_atoms slots) j (subst (λ i. Contains (k ∷ []) i) (sym e) (contains_one k))))

filled_silent : (row : List Bool) (slots : List Slot) → AllPairs (λ i j. i ≢ j) (slot_atoms slots) → ((k : ℕ) → Contains (slot_atoms slots) k → k < length row) → AreSilent (filled row slots) slots
unfolding filled
filled_silent row [] once below = tt
filled_silent row (fixed text ∷ slots) once below = filled_silent row slots once below
filled_silent row (told k text ∷ slots) once below = filled_silent row slots (pairs_right (k ∷ []) (slot_atoms slots) once) (λ j c. below j (Contains-append_right (k ∷ []) (slot_atoms slots) j c))
filled_silent row (changed e k text ∷ slots) once below = filled_silent row slots (pairs_right (k ∷ []) (slot_atoms slots) once) (λ j c. below j (Contains-append_right (k ∷ []) (slot_atoms slots) j c))
filled_silent row (silent k ∷ slots) once below =
    let own : k < length row = below k (Contains-append_left (k ∷ []) (slot_atoms slots) k (contains_one k)) in (
      filled_other (set row k true) slots k (λ c. parts_apart (k ∷ []) (slot_atoms slots) k once (contains_one k) c) ∙ truth_set row k true own,
      filled_silent (set row k true) slots (pairs_right (k ∷ []) (slot_atoms slots) once) (λ j c. omega (arith, length-set row k true, below j (Contains-append_right (k ∷ []) (slot_atoms slots) j c))),
    )

-- A truth that suits and tells what was read, and more.
pub record GoesOn (visible : ℕ) (slots passed : List Slot) (row : List Bool) : Type 0 where
  pub truth : List Bool
  pub suits : Suits visible slots truth
  pub more : List ℕ
  pub is : told_text truth slots ≡ told_text row passed ++ more

pub goes_on_so : (visible : ℕ) (slots passed left : List Slot) (row : List Bool) (bytes rest : List ℕ) → AreReadable visible slots → IsReached visible slots passed left row bytes rest → GoesOn visible slots passed row
goes_on_so visible slots passed left row bytes rest readable reached =
    let truth : List Bool = filled row left in
    let atoms : slot_atoms slots ≡ slot_atoms passed ++ slot_atoms left = ap slot_atoms reached.parts ∙ atoms_append passed left in
    let once : AllPairs (λ j k. j ≢ k) (slot_atoms passed ++ slot_atoms left) = subst (λ ks. AllPairs (λ j k. j ≢ k) ks) atoms readable.once in
    let known : All (λ k. k < visible) (slot_atoms passed ++ slot_atoms left) = subst (λ ks. All (λ k. k < visible) ks) atoms readable.known in
    let same : Agree (slot_atoms passed) truth row = λ j c. filled_other row left j (λ d. parts_apart (slot_atoms passed) (slot_atoms left) j once c d) in
    let below : (k : ℕ) → Contains (slot_atoms left) k → k < length row = λ k c. omega (arith, reached.whole, All-contains (λ i. i < visible) (slot_atoms passed ++ slot_atoms left) k known (Contains-append_right (slot_atoms passed) (slot_atoms left) k c)) in
    let silents : AreSilent truth (passed ++ left) = silent_append truth passed left (silent_same passed row truth (Agree-back (slot_atoms passed) truth row same) reached.known_silent)
    (filled_silent row left (pairs_right (slot_atoms passed) (slot_atoms left) once) below) in
    record {
      truth = truth;
      suits = record { whole = length-filled row left ∙ reached.whole; silent = subst (AreSilent truth) (sym reached.parts) silents };
      more = told_text truth left;
      is = ap (told_text truth) reached.parts ∙ (told_append truth passed left ∙ ap (λ f. f ++ told_text truth left) (told_same [] passed truth row (earlier_left [] passed left (subst (λ s. AreEarlierBefore [] s) reached.parts readable.earlier)) same));
    }

-- ---- where a line that is always there doesn't stand next

module _ (visible : ℕ) (slots : List Slot) (row : List Bool) (bytes rest : List ℕ) (readable : AreReadable visible slots) (broken : IsBroken visible slots row bytes rest) where
  -- no truth tells what was read and the next line
  pub broken_off : (truth : List Bool) (text more others : List ℕ) → Suits visible slots truth → IsLineText text → rest ≡ line text ++ more → told_text truth slots ≡ told_text row broken.passed ++ (line text ++ others) → ⊥
  broken_off truth text more others suits one is told_is =
      let at = placed visible slots broken.passed (fixed broken.text) broken.left readable broken.reached.parts in
      let now = here visible slots broken.passed (fixed broken.text) broken.left row bytes rest at broken.reached truth (line text ++ others) suits (same_line text more others one is refl) told_is in
      let words = same_lines broken.text text (told_text truth broken.left) others at.lines.0.0.one one now.tells in
      broken.other more (is ∙ ap (λ w. line w ++ more) (sym words.0))

  -- nor only what was read
  pub not_over : (truth : List Bool) → Suits visible slots truth → told_text truth slots ≡ told_text row broken.passed → ⊥
  not_over truth suits told_is =
      let at = placed visible slots broken.passed (fixed broken.text) broken.left readable broken.reached.parts in
      let now = here visible slots broken.passed (fixed broken.text) broken.left row bytes rest at broken.reached truth [] suits (nothing refl) (told_is ∙ sym (append-nil (told_text row broken.passed))) in
      some_line broken.text (told_text truth broken.left) now.tells
