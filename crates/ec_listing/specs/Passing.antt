-- How far a text was read slot by slot: the truths found so far are those of each truth whose narrative can begin so.
use Rattle.std.specs.Prelude.{◌≡◌, ◌≢◌, ◌<◌, ℕ, ◌⊎◌, codes, Bool, true, false, not, List, [], ◌∷◌, ◌++◌, length, set, Contains}
use Rattle.ec_logic.specs.Narrative.{line}
use Rattle.ec_listing.specs.Reading.{IsLineText}
use Rattle.ec_listing.specs.Slots.{Slot, fixed, told, changed, silent, told_text, truth_at}
use Rattle.ec_listing.specs.Apart.{slot_atoms, AreSilent}

-- A truth of so many atoms in which the silent ones are true.
pub record Suits (visible : ℕ) (slots : List Slot) (truth : List Bool) : Type 0 where
  pub whole : length truth ≡ visible
  pub silent : AreSilent truth slots

-- two truths are the same at these atoms
abbrev pub Agree : List ℕ → List Bool → List Bool → Type 0
Agree atoms t u = (k : ℕ) → Contains atoms k → truth_at t k ≡ truth_at u k

-- the sign of a change: `-` where the earlier atom is true, so that the atom isn't
abbrev pub sign_of : Bool → List ℕ
sign_of false = codes "+"
sign_of true = codes "-"

-- what comes of looking for a line: it stands next and gives the atom this value, or it doesn't and the atom has the other value
abbrev pub IsLookedFor : ℕ → Bool → List ℕ → List Bool → List ℕ → List Bool → List ℕ → Type 0
IsLookedFor atom value text row bytes new rest =
    ((bytes ≡ line text ++ rest) × (new ≡ set row atom value)) ⊎ (((more : List ℕ) → bytes ≢ line text ++ more) × (rest ≡ bytes) × (new ≡ set row atom (not value)))

-- what comes of a slot, with the truths that are known before it: the truths behind it, and what is left of the bytes
abbrev pub Passes : Slot → List Bool → List ℕ → List Bool → List ℕ → Type 0
Passes (fixed text) row bytes new rest = (bytes ≡ line text ++ rest) × (new ≡ row)
Passes (told k text) row bytes new rest = IsLookedFor k true text row bytes new rest
Passes (changed e k text) row bytes new rest = IsLookedFor k (not (truth_at row e)) (sign_of (truth_at row e) ++ text) row bytes new rest
Passes (silent k) row bytes new rest = (rest ≡ bytes) × (new ≡ set row k true)

-- the atoms of a slot are among so many
abbrev pub IsWithin : ℕ → Slot → Type 0
IsWithin visible (fixed text) = Unit {0}
IsWithin visible (told k text) = k < visible
IsWithin visible (changed e k text) = (e < visible) × (k < visible)
IsWithin visible (silent k) = k < visible

-- a line that is always there doesn't stand next, and nothing has changed
abbrev pub Stops : Slot → List ℕ → List Bool → List Bool → Type 0
Stops (fixed text) bytes row new = ((more : List ℕ) → bytes ≢ line text ++ more) × (new ≡ row)
Stops (told k text) bytes row new = ⊥
Stops (changed e k text) bytes row new = ⊥
Stops (silent k) bytes row new = ⊥

-- A tail is nothing, or begins with the line that the rest begins with.
pub data Follows (rest tail : List ℕ) : Type 0 where
  nothing : tail ≡ [] → Follows rest tail
  same_line : (text more others : List ℕ) → IsLineText text → rest ≡ line text ++ more → tail ≡ line text ++ others → Follows rest tail

-- The bytes were read by the slots that are passed, and the row has the truths of their atoms: no other truth is told by what was read
-- with no more behind it, or with the next line of the rest.
pub record IsReached (visible : ℕ) (slots passed left : List Slot) (row : List Bool) (bytes rest : List ℕ) : Type 0 where
  pub parts : slots ≡ passed ++ left
  pub whole : length row ≡ visible
  pub known_silent : AreSilent row passed
  pub is : bytes ≡ told_text row passed ++ rest
  pub only : (truth : List Bool) (tail : List ℕ) → Suits visible slots truth → Follows rest tail → told_text truth slots ≡ told_text row passed ++ tail
      → Agree (slot_atoms passed) truth row

-- The rest doesn't begin with a line that is always there.
pub record IsBroken (visible : ℕ) (slots : List Slot) (row : List Bool) (bytes rest : List ℕ) : Type 0 where
  pub passed : List Slot
  pub text : List ℕ
  pub left : List Slot
  pub reached : IsReached visible slots passed (fixed text ∷ left) row bytes rest
  pub other : (more : List ℕ) → rest ≢ line text ++ more
