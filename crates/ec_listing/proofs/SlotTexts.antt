-- What slots tell: whole lines, and none that a slot before them, since the last line that is always there, could tell.
use Rattle.std.proofs.Common.{◌≡◌, ◌≢◌, ℕ, ◌⊎◌, Bool, true, false, List, [], ◌∷◌, ◌++◌, inl, inr, refl, sym, ap, subst, ◌∙◌, append_assoc}
use Rattle.std.specs.Prelude.{All, Contains, codes}
use Rattle.std.specs.List.{AllByRecursion}
use Rattle.std.proofs.lemmas.List.Elements.{recursion_from_All, Contains-append_left, Contains-append_right, Contains-append_cases}
use Rattle.std.proofs.lemmas.Grind.{flat_map-append}
use Rattle.std.proofs.lemmas.List.{append-nil}
use Rattle.ec_logic.specs.Narrative.{line, line_if}
use Rattle.ec_listing.specs.Reading.{IsLineText, AreLines}
use Rattle.ec_listing.specs.Slots.{Slot, fixed, told, changed, silent, slot_text, told_text, truth_at, changed_text}
use Rattle.ec_listing.specs.Apart.{lines_of, lines_ahead, atoms_in, slot_atoms, IsSlotLine, AreApart, AreEarlierBefore, AreSilent}
use Rattle.ec_listing.specs.Passing.{Agree}
use Rattle.ec_listing.proofs.TextLines.{same_lines, lines_behind}
use Rattle.ec_listing.proofs.Truths.{contains_one}

-- each line of these slots is one line
abbrev pub SlotLines : List Slot → Type 0
SlotLines slots = AllByRecursion (λ slot. AllByRecursion IsSlotLine (lines_of slot)) slots

pub slot_lines : (slots : List Slot) → All (λ slot. All IsSlotLine (lines_of slot)) slots → SlotLines slots
slot_lines slots h = each slots (recursion_from_All (λ slot. All IsSlotLine (lines_of slot)) slots h)
  where
    each : (slots : List Slot) → AllByRecursion (λ slot. All IsSlotLine (lines_of slot)) slots → SlotLines slots
    each [] h = tt
    each (slot ∷ slots) h = (recursion_from_All IsSlotLine (lines_of slot) h.0, each slots h.1)

-- ---- what slots tell has none of the lines ahead as its first

abbrev pub IsNotAhead : List Slot → List ℕ → Type 0
IsNotAhead slots text = AllByRecursion (λ ahead. text ≢ ahead) (lines_ahead slots)

line_first : (y rest tail text more : List ℕ) → IsSlotLine y → IsLineText text → text ≢ y → (line y ++ rest) ++ tail ≡ line text ++ more → ⊥
line_first y rest tail text more h one apart is = apart (sym (same_lines y text (rest ++ tail) more h.one one (sym (append_assoc (line y) rest tail) ∙ is)).0)

plain_first : (b : Bool) (y rest tail text more : List ℕ) → IsSlotLine y → IsLineText text → text ≢ y → (rest ++ tail ≡ line text ++ more → ⊥) → (line_if b y ++ rest) ++ tail ≡ line text ++ more → ⊥
plain_first true y rest tail text more h one apart other is = line_first y rest tail text more h one apart is
plain_first false y rest tail text more h one apart other is = other is

change_first : (b c : Bool) (y rest tail text more : List ℕ) → IsSlotLine (codes "+" ++ y) → IsSlotLine (codes "-" ++ y) → IsLineText text → text ≢ codes "+" ++ y → text ≢ codes "-" ++ y → (rest ++ tail ≡ line text ++ more → ⊥)
    → (changed_text b c y ++ rest) ++ tail ≡ line text ++ more → ⊥
change_first false false y rest tail text more plus minus one apart apart' other is = other is
change_first false true y rest tail text more plus minus one apart apart' other is = line_first (codes "+" ++ y) rest tail text more plus one apart is
change_first true false y rest tail text more plus minus one apart apart' other is = line_first (codes "-" ++ y) rest tail text more minus one apart' is
change_first true true y rest tail text more plus minus one apart apart' other is = other is

pub not_ahead : (t : List Bool) (slots : List Slot) (tail text more : List ℕ) → SlotLines slots → IsLineText text → IsNotAhead slots text → ((others : List ℕ) → tail ≡ line text ++ others → ⊥) → told_text t slots ++ tail ≡ line text ++ more → ⊥
not_ahead t [] tail text more lines one apart other is = other more is
not_ahead t (fixed y ∷ slots) tail text more lines one apart other is = line_first y (told_text t slots) tail text more lines.0.0 one apart.0 is
not_ahead t (told k y ∷ slots) tail text more lines one apart other is =
    plain_first (truth_at t k) y (told_text t slots) tail text more lines.0.0 one apart.0 (λ e. not_ahead t slots tail text more lines.1 one apart.1 other e) is
not_ahead t (changed e k y ∷ slots) tail text more lines one apart other is =
    change_first (truth_at t e) (truth_at t k) y (told_text t slots) tail text more lines.0.0 lines.0.1.0 one apart.0 apart.1.0 (λ e. not_ahead t slots tail text more lines.1 one apart.1.1 other e) is
not_ahead t (silent k ∷ slots) tail text more lines one apart other is = not_ahead t slots tail text more lines.1 one apart other is

-- ---- they are whole lines

pub told_lines : (t : List Bool) (slots : List Slot) → AreLines (told_text t slots)
told_lines t [] = inl refl
told_lines t (fixed y ∷ slots) = lines_behind y (told_text t slots) (told_lines t slots)
told_lines t (told k y ∷ slots) = plain (truth_at t k) (told_lines t slots)
  where
    plain : (b : Bool) → AreLines (told_text t slots) → AreLines (line_if b y ++ told_text t slots)
    plain true h = lines_behind y (told_text t slots) h
    plain false h = h
told_lines t (changed e k y ∷ slots) = change (truth_at t e) (truth_at t k) (told_lines t slots)
  where
    change : (b c : Bool) → AreLines (told_text t slots) → AreLines (changed_text b c y ++ told_text t slots)
    change false false h = h
    change false true h = lines_behind (codes "+" ++ y) (told_text t slots) h
    change true false h = lines_behind (codes "-" ++ y) (told_text t slots) h
    change true true h = h
told_lines t (silent k ∷ slots) = told_lines t slots

-- ---- they tell the same of truths that agree

pub Agree-left : (a b : List ℕ) (t u : List Bool) → Agree (a ++ b) t u → Agree a t u
Agree-left a b t u h k c = h k (Contains-append_left a b k c)

pub Agree-right : (a b : List ℕ) (t u : List Bool) → Agree (a ++ b) t u → Agree b t u
Agree-right a b t u h k c = h k (Contains-append_right a b k c)

pub Agree-both : (a b : List ℕ) (t u : List Bool) → Agree a t u → Agree b t u → Agree (a ++ b) t u
Agree-both a b t u h g k c = by_part (Contains-append_cases a b k c)
  where
    by_part : Contains a k ⊎ Contains b k → truth_at t k ≡ truth_at u k
    by_part (inl c) = h k c
    by_part (inr c) = g k c

pub Agree-back : (a : List ℕ) (t u : List Bool) → Agree a t u → Agree a u t
Agree-back a t u h k c = sym (h k c)

pub Agree-on : (a : List ℕ) (t u v : List Bool) → Agree a t u → Agree a u v → Agree a t v
Agree-on a t u v h g k c = h k c ∙ g k c

-- a slot's text hangs on its own atom and an earlier one
pub slot_same : (before : List ℕ) (slot : Slot) (slots : List Slot) (t u : List Bool) → AreEarlierBefore before (slot ∷ slots) → Agree before t u → Agree (atoms_in slot) t u → slot_text t slot ≡ slot_text u slot
slot_same before (fixed y) slots t u earlier h g = refl
slot_same before (told k y) slots t u earlier h g = ap (λ b. line_if b y) (g k (contains_one k))
slot_same before (changed e k y) slots t u earlier h g =
    ap (λ b. changed_text b (truth_at t k) y) (h e earlier.0) ∙ ap (λ b. changed_text (truth_at u e) b y) (g k (contains_one k))
slot_same before (silent k) slots t u earlier h g = refl

pub earlier_rest : (before : List ℕ) (slot : Slot) (slots : List Slot) → AreEarlierBefore before (slot ∷ slots) → AreEarlierBefore (before ++ atoms_in slot) slots
earlier_rest before (fixed y) slots h = h
earlier_rest before (told k y) slots h = h
earlier_rest before (changed e k y) slots h = h.1
earlier_rest before (silent k) slots h = h

pub told_same : (before : List ℕ) (slots : List Slot) (t u : List Bool) → AreEarlierBefore before slots → Agree (before ++ slot_atoms slots) t u → told_text t slots ≡ told_text u slots
told_same before [] t u earlier h = refl
told_same before (slot ∷ slots) t u earlier h =
    let at : Agree before t u = Agree-left before (slot_atoms (slot ∷ slots)) t u h in
    let own : Agree (slot_atoms (slot ∷ slots)) t u = Agree-right before (slot_atoms (slot ∷ slots)) t u h in
    let here : slot_text t slot ≡ slot_text u slot = slot_same before slot slots t u earlier at (Agree-left (atoms_in slot) (slot_atoms slots) t u own) in
    let rest : told_text t slots ≡ told_text u slots = told_same (before ++ atoms_in slot) slots t u (earlier_rest before slot slots earlier)
    (subst (λ atoms. Agree atoms t u) (sym (append_assoc before (atoms_in slot) (slot_atoms slots))) h) in
    ap (λ text. text ++ told_text t slots) here ∙ ap (λ text. slot_text u slot ++ text) rest

pub silent_same : (slots : List Slot) (t u : List Bool) → Agree (slot_atoms slots) t u → AreSilent t slots → AreSilent u slots
silent_same [] t u h s = tt
silent_same (fixed y ∷ slots) t u h s = silent_same slots t u h s
silent_same (told k y ∷ slots) t u h s = silent_same slots t u (Agree-right (k ∷ []) (slot_atoms slots) t u h) s
silent_same (changed e k y ∷ slots) t u h s = silent_same slots t u (Agree-right (k ∷ []) (slot_atoms slots) t u h) s
silent_same (silent k ∷ slots) t u h s = (sym (h k (Contains-append_left (k ∷ []) (slot_atoms slots) k (contains_one k))) ∙ s.0, silent_same slots t u (Agree-right (k ∷ []) (slot_atoms slots) t u h) s.1)

-- ---- parts of slots

pub silent_append : (t : List Bool) (a b : List Slot) → AreSilent t a → AreSilent t b → AreSilent t (a ++ b)
silent_append t [] b h g = g
silent_append t (fixed y ∷ a) b h g = silent_append t a b h g
silent_append t (told k y ∷ a) b h g = silent_append t a b h g
silent_append t (changed e k y ∷ a) b h g = silent_append t a b h g
silent_append t (silent k ∷ a) b h g = (h.0, silent_append t a b h.1 g)

pub silent_right : (t : List Bool) (a b : List Slot) → AreSilent t (a ++ b) → AreSilent t b
silent_right t [] b h = h
silent_right t (fixed y ∷ a) b h = silent_right t a b h
silent_right t (told k y ∷ a) b h = silent_right t a b h
silent_right t (changed e k y ∷ a) b h = silent_right t a b h
silent_right t (silent k ∷ a) b h = silent_right t a b h.1

pub apart_right : (a b : List Slot) → AreApart (a ++ b) → AreApart b
apart_right [] b h = h
apart_right (fixed y ∷ a) b h = apart_right a b h
apart_right (told k y ∷ a) b h = apart_right a b h.1
apart_right (changed e k y ∷ a) b h = apart_right a b h.1
apart_right (silent k ∷ a) b h = apart_right a b h.1

pub lines_right : (a b : List Slot) → SlotLines (a ++ b) → SlotLines b
lines_right [] b h = h
lines_right (slot ∷ a) b h = lines_right a b h.1

pub earlier_left : (before : List ℕ) (a b : List Slot) → AreEarlierBefore before (a ++ b) → AreEarlierBefore before a
earlier_left before [] b h = tt
earlier_left before (fixed y ∷ a) b h = earlier_left (before ++ []) a b h
earlier_left before (told k y ∷ a) b h = earlier_left (before ++ k ∷ []) a b h
earlier_left before (changed e k y ∷ a) b h = (h.0, earlier_left (before ++ k ∷ []) a b h.1)
earlier_left before (silent k ∷ a) b h = earlier_left (before ++ k ∷ []) a b h

pub earlier_right : (before : List ℕ) (a b : List Slot) → AreEarlierBefore before (a ++ b) → AreEarlierBefore (before ++ slot_atoms a) b
earlier_right before [] b h = subst (λ atoms. AreEarlierBefore atoms b) (sym (append-nil before)) h
earlier_right before (slot ∷ a) b h =
    subst (λ atoms. AreEarlierBefore atoms b) (append_assoc before (atoms_in slot) (slot_atoms a)) (earlier_right (before ++ atoms_in slot) a b (earlier_rest before slot (a ++ b) h))

pub atoms_append : (a b : List Slot) → slot_atoms (a ++ b) ≡ slot_atoms a ++ slot_atoms b
atoms_append a b = flat_map-append atoms_in a b

pub told_append : (t : List Bool) (a b : List Slot) → told_text t (a ++ b) ≡ told_text t a ++ told_text t b
told_append t a b = flat_map-append (slot_text t) a b

pub atoms_push : (a : List Slot) (slot : Slot) → slot_atoms (a ++ slot ∷ []) ≡ slot_atoms a ++ atoms_in slot
atoms_push a slot = atoms_append a (slot ∷ []) ∙ ap (λ atoms. slot_atoms a ++ atoms) (append-nil (atoms_in slot))

pub told_push : (t : List Bool) (a : List Slot) (slot : Slot) → told_text t (a ++ slot ∷ []) ≡ told_text t a ++ slot_text t slot
told_push t a slot = told_append t a (slot ∷ []) ∙ ap (λ text. told_text t a ++ text) (append-nil (slot_text t slot))
