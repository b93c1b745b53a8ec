-- What is so where all slots are passed: one truth tells what was read, and none goes on with the next line.
use Rattle.std.proofs.Common.{◌≡◌, ℕ, Bool, List, [], ◌∷◌, ◌++◌, refl, sym, ap, subst, ◌∙◌, append_assoc}
use Rattle.std.proofs.lemmas.List.{append-nil}
use Rattle.ec_logic.specs.Narrative.{line}
use Rattle.ec_listing.specs.Reading.{IsLineText}
use Rattle.ec_listing.specs.Slots.{Slot, fixed, told, changed, silent, slot_text, told_text}
use Rattle.ec_listing.specs.Apart.{AreSilent, AreReadable}
use Rattle.ec_listing.specs.Passing.{Suits, Follows, nothing, same_line, IsReached}
use Rattle.ec_listing.proofs.TextLines.{some_line, some_behind}
use Rattle.ec_listing.proofs.Truths.{same_truths}
use Rattle.ec_listing.proofs.Reaching.{placed, reached_by}
use Rattle.ec_listing.proofs.Stepping.{reached_none, IsNoSlotLine, own_step}

pub row_suits : (visible : ℕ) (slots : List Slot) (row : List Bool) (bytes rest : List ℕ) → IsReached visible slots slots [] row bytes rest → Suits visible slots row
row_suits visible slots row bytes rest reached = record { whole = reached.whole; silent = reached.known_silent }

pub truth_is_row : (visible : ℕ) (slots : List Slot) (row : List Bool) (bytes rest : List ℕ) → AreReadable visible slots → IsReached visible slots slots [] row bytes rest → (truth : List Bool) (tail : List ℕ) → Suits visible slots truth → Follows rest tail
    → told_text truth slots ≡ told_text row slots ++ tail → truth ≡ row
truth_is_row visible slots row bytes rest readable reached truth tail suits follows is =
    same_truths visible truth row suits.whole reached.whole (λ k l. reached.only truth tail suits follows is k (readable.each k l))

pub no_more : (visible : ℕ) (slots : List Slot) (row : List Bool) (bytes rest : List ℕ) → AreReadable visible slots → IsReached visible slots slots [] row bytes rest → (truth : List Bool) (text more others : List ℕ) → Suits visible slots truth → IsLineText text
    → rest ≡ line text ++ more → told_text truth slots ≡ told_text row slots ++ (line text ++ others) → ⊥
no_more visible slots row bytes rest readable reached truth text more others suits one is told_is =
    let e : truth ≡ row = truth_is_row visible slots row bytes rest readable reached truth (line text ++ others) suits (same_line text more others one is refl) told_is in
    some_behind (told_text row slots) text others (sym (ap (λ t. told_text t slots) e) ∙ told_is)

-- ---- a truth reads its own text

silent_here : (t : List Bool) (slot : Slot) (left : List Slot) → AreSilent t (slot ∷ left) → AreSilent t (slot ∷ [])
silent_here t (fixed text) left h = tt
silent_here t (told k text) left h = tt
silent_here t (changed e k text) left h = tt
silent_here t (silent k) left h = (h.0, tt)

silent_rest : (t : List Bool) (slot : Slot) (left : List Slot) → AreSilent t (slot ∷ left) → AreSilent t left
silent_rest t (fixed text) left h = h
silent_rest t (told k text) left h = h
silent_rest t (changed e k text) left h = h
silent_rest t (silent k) left h = h.1

module _ (visible : ℕ) (slots : List Slot) (readable : AreReadable visible slots) (t : List Bool) (bytes tail : List ℕ) (none : IsNoSlotLine tail) where
  reached_on : (left passed : List Slot) → AreSilent t left → IsReached visible slots passed left t bytes (told_text t left ++ tail) → IsReached visible slots (passed ++ left) [] t bytes tail
  reached_on [] passed silents reached = subst (λ p. IsReached visible slots p [] t bytes tail) (sym (append-nil passed)) reached
  reached_on (slot ∷ left) passed silents reached =
      let here : IsReached visible slots passed (slot ∷ left) t bytes (slot_text t slot ++ (told_text t left ++ tail)) =
      subst (λ r. IsReached visible slots passed (slot ∷ left) t bytes r) (append_assoc (slot_text t slot) (told_text t left) tail) reached in
      let at = placed visible slots passed slot left readable reached.parts in
      let next : IsReached visible slots (passed ++ slot ∷ []) left t bytes (told_text t left ++ tail) =
      reached_by visible slots passed slot left t bytes (slot_text t slot ++ (told_text t left ++ tail)) t (told_text t left ++ tail) at here (own_step visible passed slot left t tail at reached.whole (silent_here t slot left silents) none) in
      subst (λ p. IsReached visible slots p [] t bytes tail) (append_assoc passed (slot ∷ []) left) (reached_on left (passed ++ slot ∷ []) (silent_rest t slot left silents) next)

pub own_reached : (visible : ℕ) (slots : List Slot) → AreReadable visible slots → (t : List Bool) (tail : List ℕ) → Suits visible slots t → IsNoSlotLine tail → IsReached visible slots slots [] t (told_text t slots ++ tail) tail
own_reached visible slots readable t tail suits none =
    reached_on visible slots readable t (told_text t slots ++ tail) tail none slots [] suits.silent (reached_none visible slots t (told_text t slots ++ tail) suits.whole)

-- a text is told by one truth
pub one_truth : (visible : ℕ) (slots : List Slot) → AreReadable visible slots → (t u : List Bool) → Suits visible slots t → Suits visible slots u → told_text t slots ≡ told_text u slots → t ≡ u
one_truth visible slots readable t u suits suits' is =
    sym (truth_is_row visible slots t (told_text t slots ++ []) [] readable (own_reached visible slots readable t [] suits (λ text more h no. some_line text more (sym no))) u [] suits' (nothing refl) (sym is ∙ sym (append-nil (told_text t slots))))
