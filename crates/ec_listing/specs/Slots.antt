-- A narrative as a row of slots, each of which has one line or none.
use Rattle.std.specs.Prelude.{ℕ, ℤ, codes, Bool, true, false, not, ◌||◌, if◌then◌else◌, List, [], ◌∷◌, ◌++◌, map, slice_get, unwrap_or}
use Rattle.std.specs.List.{flat_map}
use Rattle.std.specs.Ordering.{int_eq}
use Rattle.ec_logic.specs.Signature.{Signature, time_sort, event_sort, fluent_sort, holds_at, released_at, happens}
use Rattle.ec_logic.specs.Universe.{universe_of, domain}
use Rattle.ec_logic.specs.Axiom.{first_time}
use Rattle.ec_logic.specs.Atom.{GroundAtom, declared, atoms_of, number_of}
use Rattle.ec_logic.specs.Narrative.{integer_text, fluent_text, event_text, atom_text, is_noninertial, before_time, line, line_if}

-- What a place of a narrative may tell, without the byte 10 that ends its line.
pub data Slot : Type 0 where
  -- a line that is always there: a time's number, or `P`
  fixed : (text : List ℕ) → Slot
  -- a line that is there where the atom of this number is true
  told : (atom : ℕ) (text : List ℕ) → Slot
  -- how a fluent changed: `+` and the text where the atom is true and the earlier one isn't, `-` and the text the other way
  changed : (earlier atom : ℕ) (text : List ℕ) → Slot
  -- an atom that has no line, since it is true in each truth that fits: the release of a noninertial fluent
  silent : (atom : ℕ) → Slot

-- ---- the slots of a signature

-- the number of an atom whose arguments are in their domains
abbrev pub atom_number : Signature → ℕ → List ℤ → ℕ
atom_number signature p vs = unwrap_or (number_of (universe_of signature) p vs) 0

abbrev pub fluent_slot : Signature → ℤ → ℤ → Slot
fluent_slot signature t f = if int_eq t (first_time signature) || not signature.time_diff
    then told (atom_number signature holds_at (f ∷ t ∷ [])) (fluent_text signature f ++ codes ".")
    else changed (atom_number signature holds_at (f ∷ before_time t ∷ [])) (atom_number signature holds_at (f ∷ t ∷ [])) (fluent_text signature f ++ codes ".")

abbrev pub released_slot : Signature → ℤ → ℤ → Slot
released_slot signature t f = if is_noninertial signature f
    then silent (atom_number signature released_at (f ∷ t ∷ []))
    else told (atom_number signature released_at (f ∷ t ∷ [])) (codes "ReleasedAt(" ++ fluent_text signature f ++ codes ", " ++ integer_text t ++ codes ").")

abbrev pub happens_slot : Signature → ℤ → ℤ → Slot
happens_slot signature t e = told (atom_number signature happens (e ∷ t ∷ [])) (codes "Happens(" ++ event_text signature e ++ codes ", " ++ integer_text t ++ codes ").")

-- the time's number, its fluents, what is released, and what happens
abbrev pub time_slots : Signature → ℤ → List Slot
time_slots signature t = fixed (integer_text t)
    ∷ map (fluent_slot signature t) (domain (universe_of signature) fluent_sort)
    ++ map (released_slot signature t) (domain (universe_of signature) fluent_sort)
    ++ map (happens_slot signature t) (domain (universe_of signature) event_sort)

-- an atom of a declared predicate
abbrev pub atom_slot : Signature → GroundAtom → Slot
atom_slot signature atom = told (atom_number signature atom.predicate atom.args) (atom_text signature atom ++ codes ".")

abbrev pub predicate_slots : Signature → List Slot
predicate_slots signature = fixed (codes "P") ∷ map (atom_slot signature) (flat_map (atoms_of (universe_of signature)) (declared (universe_of signature)))

-- the slots of a narrative, behind its first line
abbrev pub slots_of : Signature → List Slot
slots_of signature = flat_map (time_slots signature) (domain (universe_of signature) time_sort) ++ predicate_slots signature

-- ---- what they tell

abbrev pub truth_at : List Bool → ℕ → Bool
truth_at truth k = unwrap_or (slice_get truth k) false

abbrev pub changed_text : Bool → Bool → List ℕ → List ℕ
changed_text false true text = line (codes "+" ++ text)
changed_text true false text = line (codes "-" ++ text)
changed_text _ _ text = []

-- the line of a slot, if it has one, where the atoms have these truths
abbrev pub slot_text : List Bool → Slot → List ℕ
slot_text truth (fixed text) = line text
slot_text truth (told k text) = line_if (truth_at truth k) text
slot_text truth (changed e k text) = changed_text (truth_at truth e) (truth_at truth k) text
slot_text truth (silent k) = []

-- what slots tell, one behind the other
abbrev pub told_text : List Bool → List Slot → List ℕ
told_text truth slots = flat_map (slot_text truth) slots
