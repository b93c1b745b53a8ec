-- Reading by slots, a slot at a time: what is reached behind each.
use Rattle.std.proofs.Common.{◌≡◌, ◌≢◌, ℕ, ◌<◌, Bool, true, false, List, [], ◌∷◌, ◌++◌, length, refl, sym, ap, subst, ◌∙◌, append_assoc}
use Rattle.std.specs.Prelude.{All, AllPairs, Contains, codes}
use Rattle.std.specs.List.{AllByRecursion}
use Rattle.std.proofs.lemmas.List.{append_cancel_left}
use Rattle.std.proofs.lemmas.List.Elements.{All-contains, Contains-append_left, Contains-append_right}
use Rattle.ec_logic.specs.Narrative.{line, line_if}
use Rattle.ec_listing.specs.Reading.{IsLineText}
use Rattle.ec_listing.specs.Slots.{Slot, fixed, told, changed, silent, slot_text, told_text, truth_at, changed_text}
use Rattle.ec_listing.specs.Apart.{lines_of, atoms_in, slot_atoms, IsSlotLine, AreApart, AreEarlierBefore, AreSilent, AreReadable}
use Rattle.ec_listing.specs.Passing.{Suits, Agree, IsWithin, Follows, nothing, same_line, IsReached}
use Rattle.ec_listing.proofs.Truths.{parts_apart, contains_one}
use Rattle.ec_listing.proofs.SlotTexts.{SlotLines, slot_lines, Agree-both, Agree-back, Agree-on, told_same, silent_same, silent_append, silent_right, apart_right, lines_right, earlier_left, earlier_right, atoms_append, told_append, atoms_push, told_push}

-- ---- a slot in its place

pub record IsPlaced (visible : ℕ) (passed : List Slot) (slot : Slot) (left : List Slot) : Type 0 where
  pub apart : AreApart (slot ∷ left)
  pub lines : SlotLines (slot ∷ left)
  pub earlier_passed : AreEarlierBefore [] passed
  pub earlier : AreEarlierBefore (slot_atoms passed) (slot ∷ left)
  pub within : (k : ℕ) → Contains (atoms_in slot) k → k < visible
  pub fresh : (k : ℕ) → Contains (atoms_in slot) k → Contains (slot_atoms passed) k → ⊥

placed_at : (visible : ℕ) (passed : List Slot) (slot : Slot) (left : List Slot) → AreReadable visible (passed ++ slot ∷ left) → IsPlaced visible passed slot left
placed_at visible passed slot left readable =
    let atoms : slot_atoms (passed ++ slot ∷ left) ≡ slot_atoms passed ++ (atoms_in slot ++ slot_atoms left) = atoms_append passed (slot ∷ left) in
    let known : All (λ k. k < visible) (slot_atoms passed ++ (atoms_in slot ++ slot_atoms left)) = subst (λ ks. All (λ k. k < visible) ks) atoms readable.known in
    let once : AllPairs (λ j k. j ≢ k) (slot_atoms passed ++ (atoms_in slot ++ slot_atoms left)) = subst (λ ks. AllPairs (λ j k. j ≢ k) ks) atoms readable.once in
    record {
      apart = apart_right passed (slot ∷ left) readable.apart;
      lines = lines_right passed (slot ∷ left) (slot_lines (passed ++ slot ∷ left) readable.lines);
      earlier_passed = earlier_left [] passed (slot ∷ left) readable.earlier;
      earlier = earlier_right [] passed (slot ∷ left) readable.earlier;
      within = λ k c. All-contains (λ k. k < visible) (slot_atoms passed ++ (atoms_in slot ++ slot_atoms left)) k known (Contains-append_right (slot_atoms passed) (atoms_in slot ++ slot_atoms left) k (Contains-append_left (atoms_in slot) (slot_atoms left) k c));
      fresh = λ k c d. parts_apart (slot_atoms passed) (atoms_in slot ++ slot_atoms left) k once d (Contains-append_left (atoms_in slot) (slot_atoms left) k c);
    }

pub placed : (visible : ℕ) (slots passed : List Slot) (slot : Slot) (left : List Slot) → AreReadable visible slots → slots ≡ passed ++ slot ∷ left → IsPlaced visible passed slot left
placed visible slots passed slot left readable parts = placed_at visible passed slot left (subst (AreReadable visible) parts readable)

-- ---- what a truth must tell behind what was read

pub record IsHere (passed : List Slot) (slot : Slot) (left : List Slot) (row truth : List Bool) (tail : List ℕ) : Type 0 where
  pub same : Agree (slot_atoms passed) truth row
  pub tells : slot_text truth slot ++ told_text truth left ≡ tail

pub here : (visible : ℕ) (slots passed : List Slot) (slot : Slot) (left : List Slot) (row : List Bool) (bytes rest : List ℕ) → IsPlaced visible passed slot left → IsReached visible slots passed (slot ∷ left) row bytes rest
    → (truth : List Bool) (tail : List ℕ) → Suits visible slots truth → Follows rest tail → told_text truth slots ≡ told_text row passed ++ tail → IsHere passed slot left row truth tail
here visible slots passed slot left row bytes rest at reached truth tail suits follows is =
    let same : Agree (slot_atoms passed) truth row = reached.only truth tail suits follows is in
    let front : told_text truth passed ≡ told_text row passed = told_same [] passed truth row at.earlier_passed same in
    let all : told_text truth slots ≡ told_text truth passed ++ told_text truth (slot ∷ left) = ap (told_text truth) reached.parts ∙ told_append truth passed (slot ∷ left) in
    record {
      same = same;
      tells = append_cancel_left (told_text row passed) (told_text truth (slot ∷ left)) tail (ap (λ f. f ++ told_text truth (slot ∷ left)) (sym front) ∙ sym all ∙ is);
    }

-- ---- a slot's text is nothing or a line

pub data IsNoneOrLine (text : List ℕ) : Type 0 where
  none_told : text ≡ [] → IsNoneOrLine text
  one_told : (words : List ℕ) → IsLineText words → text ≡ line words → IsNoneOrLine text

pub none_or_line : (t : List Bool) (slot : Slot) → AllByRecursion IsSlotLine (lines_of slot) → IsNoneOrLine (slot_text t slot)
none_or_line t (fixed y) h = one_told y h.0.one refl
none_or_line t (told k y) h = plain (truth_at t k)
  where
    plain : (b : Bool) → IsNoneOrLine (line_if b y)
    plain true = one_told y h.0.one refl
    plain false = none_told refl
none_or_line t (changed e k y) h = change (truth_at t e) (truth_at t k)
  where
    change : (b c : Bool) → IsNoneOrLine (changed_text b c y)
    change false false = none_told refl
    change false true = one_told (codes "+" ++ y) h.0.one refl
    change true false = one_told (codes "-" ++ y) h.1.0.one refl
    change true true = none_told refl
none_or_line t (silent k) h = none_told refl

follows_more : (text rest tail : List ℕ) → IsNoneOrLine text → Follows rest tail → Follows (text ++ rest) (text ++ tail)
follows_more text rest tail (one_told words one e) follows = same_line words rest tail one (ap (λ x. x ++ rest) e) (ap (λ x. x ++ tail) e)
follows_more text rest tail (none_told e) (nothing is) = nothing (ap (λ x. x ++ tail) e ∙ is)
follows_more text rest tail (none_told e) (same_line words more others one is is') = same_line words more others one (ap (λ x. x ++ rest) e ∙ is) (ap (λ x. x ++ tail) e ∙ is')

-- ---- one slot on

pub record IsStep (visible : ℕ) (passed : List Slot) (slot : Slot) (left : List Slot) (row : List Bool) (rest : List ℕ) (new : List Bool) (behind : List ℕ) : Type 0 where
  pub whole : length new ≡ visible
  pub same : Agree (slot_atoms passed) new row
  pub known_silent : AreSilent new (slot ∷ [])
  pub is : rest ≡ slot_text new slot ++ behind
  pub only : (truth : List Bool) (tail : List ℕ) → AreSilent truth (slot ∷ left) → Follows behind tail → Agree (slot_atoms passed) truth row → slot_text truth slot ++ told_text truth left ≡ slot_text new slot ++ tail
      → Agree (atoms_in slot) truth new

pub reached_by : (visible : ℕ) (slots passed : List Slot) (slot : Slot) (left : List Slot) (row : List Bool) (bytes rest : List ℕ) (new : List Bool) (behind : List ℕ) → IsPlaced visible passed slot left
    → IsReached visible slots passed (slot ∷ left) row bytes rest → IsStep visible passed slot left row rest new behind → IsReached visible slots (passed ++ slot ∷ []) left new bytes behind
reached_by visible slots passed slot left row bytes rest new behind at reached step =
    let front : told_text new passed ≡ told_text row passed = told_same [] passed new row at.earlier_passed step.same in
    let pushed : told_text new (passed ++ slot ∷ []) ≡ told_text row passed ++ slot_text new slot = told_push new passed slot ∙ ap (λ f. f ++ slot_text new slot) front in
    record {
      parts = reached.parts ∙ sym (append_assoc passed (slot ∷ []) left);
      whole = step.whole;
      known_silent = silent_append new passed (slot ∷ []) (silent_same passed row new (Agree-back (slot_atoms passed) new row step.same) reached.known_silent) step.known_silent;
      is = reached.is ∙ (ap (λ r. told_text row passed ++ r) step.is ∙ (sym (append_assoc (told_text row passed) (slot_text new slot) behind) ∙ ap (λ f. f ++ behind) (sym pushed)));
      only = λ truth tail suits follows is.
          let old : told_text truth slots ≡ told_text row passed ++ (slot_text new slot ++ tail) = is ∙ (ap (λ f. f ++ tail) pushed ∙ append_assoc (told_text row passed) (slot_text new slot) tail) in
          let follows_old : Follows rest (slot_text new slot ++ tail) = subst (λ r. Follows r (slot_text new slot ++ tail)) (sym step.is) (follows_more (slot_text new slot) behind tail (none_or_line new slot at.lines.0) follows) in
          let now = here visible slots passed slot left row bytes rest at reached truth (slot_text new slot ++ tail) suits follows_old old in
          let silents : AreSilent truth (slot ∷ left) = silent_right truth passed (slot ∷ left) (subst (AreSilent truth) reached.parts suits.silent) in
          let own : Agree (atoms_in slot) truth new = step.only truth tail silents follows now.same now.tells in
          let both : Agree (slot_atoms passed ++ atoms_in slot) truth new = Agree-both (slot_atoms passed) (atoms_in slot) truth new (Agree-on (slot_atoms passed) truth row new now.same (Agree-back (slot_atoms passed) new row step.same)) own in
          subst (λ atoms. Agree atoms truth new) (sym (atoms_push passed slot)) both;
    }

-- the atoms of a slot in its place are known
pub within_at : (visible : ℕ) (slots passed : List Slot) (slot : Slot) (left : List Slot) → AreReadable visible slots → slots ≡ passed ++ slot ∷ left → IsWithin visible slot
within_at visible slots passed slot left readable parts = by_kind slot (placed visible slots passed slot left readable parts) known
  where
    known : (k : ℕ) → Contains (slot_atoms passed) k → k < visible
    known k c =
        let atoms : slot_atoms slots ≡ slot_atoms passed ++ slot_atoms (slot ∷ left) = ap slot_atoms parts ∙ atoms_append passed (slot ∷ left) in
        All-contains (λ i. i < visible) (slot_atoms slots) k readable.known (subst (λ atoms. Contains atoms k) (sym atoms) (Contains-append_left (slot_atoms passed) (slot_atoms (slot ∷ left)) k c))

    by_kind : (slot : Slot) → IsPlaced visible passed slot left → ((k : ℕ) → Contains (slot_atoms passed) k → k < visible) → IsWithin visible slot
    by_kind (fixed text) at known = tt
    by_kind (told k text) at known = at.within k (contains_one k)
    by_kind (changed e k text) at known = (known e at.earlier.0, at.within k (contains_one k))
    by_kind (silent k) at known = at.within k (contains_one k)
