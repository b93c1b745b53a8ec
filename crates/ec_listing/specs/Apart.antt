-- What is so of the slots of a signature, by which a text can be read slot by slot.
use Rattle.std.specs.Prelude.{◌≡◌, ◌≢◌, ℕ, ◌<◌, ◌↔◌, codes, true, Bool, List, [], ◌∷◌, ◌++◌, length, All, AllPairs, Contains}
use Rattle.std.specs.List.{flat_map, AllByRecursion}
use Rattle.ec_logic.specs.Signature.{Signature}
use Rattle.ec_logic.specs.Universe.{universe_of}
use Rattle.ec_logic.specs.Atom.{visible_atoms}
use Rattle.ec_logic.specs.Narrative.{line}
use Rattle.ec_listing.specs.Slots.{Slot, fixed, told, changed, silent, slots_of, told_text, truth_at}
use Rattle.ec_listing.specs.Reading.{IsFitting, narrative_of, model_text}

-- the lines that a slot may tell, without their byte 10
abbrev pub lines_of : Slot → List (List ℕ)
lines_of (fixed text) = text ∷ []
lines_of (told k text) = text ∷ []
lines_of (changed e k text) = (codes "+" ++ text) ∷ (codes "-" ++ text) ∷ []
lines_of (silent k) = []

-- the lines that slots may tell up to the first that is always there, that one too
abbrev pub lines_ahead : List Slot → List (List ℕ)
lines_ahead [] = []
lines_ahead (fixed text ∷ slots) = text ∷ []
lines_ahead (told k text ∷ slots) = text ∷ lines_ahead slots
lines_ahead (changed e k text ∷ slots) = (codes "+" ++ text) ∷ (codes "-" ++ text) ∷ lines_ahead slots
lines_ahead (silent k ∷ slots) = lines_ahead slots

-- the atom that a slot tells of, if it tells of one
abbrev pub atoms_in : Slot → List ℕ
atoms_in (fixed text) = []
atoms_in (told k text) = k ∷ []
atoms_in (changed e k text) = k ∷ []
atoms_in (silent k) = k ∷ []

abbrev pub slot_atoms : List Slot → List ℕ
slot_atoms slots = flat_map atoms_in slots

-- a line of a slot can't be taken for one of the `model` lines or of a list's last lines, which begin with a small letter, and is one line
pub record IsSlotLine (text : List ℕ) : Type 0 where
  pub first : ℕ
  pub others : List ℕ
  pub is : text ≡ first ∷ others
  pub not_small : first < 97
  pub one : All (λ b. b ≢ 10) text

-- no line of a slot can stand further ahead, up to the next line that is always there
abbrev pub AreApart : List Slot → Type 0
AreApart [] = Unit {0}
AreApart (fixed text ∷ slots) = AreApart slots
AreApart (slot ∷ slots) = AllByRecursion (λ text. AllByRecursion (λ ahead. text ≢ ahead) (lines_ahead slots)) (lines_of slot) × AreApart slots

-- the earlier atom of a change is that of a slot before it, where these atoms stand before
abbrev pub AreEarlierBefore : List ℕ → List Slot → Type 0
AreEarlierBefore before [] = Unit {0}
AreEarlierBefore before (changed e k text ∷ slots) = Contains before e × AreEarlierBefore (before ++ k ∷ []) slots
AreEarlierBefore before (slot ∷ slots) = AreEarlierBefore (before ++ atoms_in slot) slots

-- Slots by which a text can be read, for so many atoms.
pub record AreReadable (visible : ℕ) (slots : List Slot) : Type 0 where
  pub apart : AreApart slots
  pub lines : All (λ slot. All IsSlotLine (lines_of slot)) slots
  pub earlier : AreEarlierBefore [] slots
  -- each atom stands in one slot
  pub known : All (λ k. k < visible) (slot_atoms slots)
  pub each : (k : ℕ) → k < visible → Contains (slot_atoms slots) k
  pub once : AllPairs (λ j k. j ≢ k) (slot_atoms slots)

-- the atoms that have no line are true
abbrev pub AreSilent : List Bool → List Slot → Type 0
AreSilent truth [] = Unit {0}
AreSilent truth (silent k ∷ slots) = (truth_at truth k ≡ true) × AreSilent truth slots
AreSilent truth (slot ∷ slots) = AreSilent truth slots

-- What is so of the slots of a signature.
pub record IsToldBySlots (signature : Signature) : Type 0 where
  pub readable : AreReadable (length (visible_atoms (universe_of signature))) (slots_of signature)
  -- the narrative of a truth is what its slots tell
  pub tells : (truth : List Bool) (number : ℕ) → narrative_of signature number truth ≡ line (model_text number) ++ told_text truth (slots_of signature)
  -- a truth fits where its silent atoms are true
  pub fits : (truth : List Bool) → IsFitting signature truth ↔ ((length truth ≡ length (visible_atoms (universe_of signature))) × AreSilent truth (slots_of signature))
