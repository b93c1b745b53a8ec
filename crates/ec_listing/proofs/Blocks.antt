-- Slots one behind the other: what is so of each part is so of the whole.
use Rattle.std.proofs.Common.{◌≡◌, ◌≢◌, ℕ, Bool, true, false, List, [], ◌∷◌, ◌++◌, map, Contains, refl, sym, ap, subst, append_assoc}
use Rattle.std.specs.List.{AllByRecursion}
use Rattle.std.proofs.lemmas.Grind.{flat_map-append}
use Rattle.std.proofs.lemmas.List.{append-nil}
use Rattle.std.proofs.lemmas.List.Elements.{Contains-append_left}
use Rattle.ec_listing.specs.Slots.{Slot, fixed, told, changed, silent, truth_at}
use Rattle.ec_listing.specs.Apart.{lines_of, lines_ahead, atoms_in, slot_atoms, AreApart, AreEarlierBefore, AreSilent}
use Rattle.ec_listing.proofs.Lists.{Pairs, each_weaker}

-- whether a slot has no line that is always there
abbrev pub is_free : Slot → Bool
is_free (fixed text) = false
is_free (told k text) = true
is_free (changed e k text) = true
is_free (silent k) = true

abbrev pub AreFree : List Slot → Type 0
AreFree slots = AllByRecursion (λ slot. is_free slot ≡ true) slots

-- ---- apart

abbrev pub Differ : Slot → Slot → Type 0
Differ s z = AllByRecursion (λ text. AllByRecursion (λ ahead. text ≢ ahead) (lines_of z)) (lines_of s)

-- the lines of slots that are free, and those ahead of what follows
ahead_of : (P : List ℕ → Type 0) (slots rest : List Slot) → AreFree slots → AllByRecursion (λ slot. AllByRecursion P (lines_of slot)) slots → AllByRecursion P (lines_ahead rest) → AllByRecursion P (lines_ahead (slots ++ rest))
ahead_of P [] rest f h r = r
ahead_of P (fixed text ∷ slots) rest f h r = let no = f.0 in cc
ahead_of P (told k text ∷ slots) rest f h r = (h.0.0, ahead_of P slots rest f.1 h.1 r)
ahead_of P (changed e k text ∷ slots) rest f h r = (h.0.0, (h.0.1.0, ahead_of P slots rest f.1 h.1 r))
ahead_of P (silent k ∷ slots) rest f h r = ahead_of P slots rest f.1 h.1 r

-- what differs from the lines ahead of what follows
abbrev pub PassesBy : List Slot → Slot → Type 0
PassesBy rest slot = AllByRecursion (λ text. AllByRecursion (λ ahead. text ≢ ahead) (lines_ahead rest)) (lines_of slot)

-- one line, and those of the slots that differ from it
one_line : (text : List ℕ) (slots rest : List Slot) → AreFree slots → AllByRecursion (λ slot. AllByRecursion (λ ahead. text ≢ ahead) (lines_of slot)) slots → AllByRecursion (λ ahead. text ≢ ahead) (lines_ahead rest) → AllByRecursion (λ ahead. text ≢ ahead) (lines_ahead (slots ++ rest))
one_line text slots rest f h r = ahead_of (λ ahead. text ≢ ahead) slots rest f h r

-- the slots' differences, turned to one line of the first
of_told : (k : ℕ) (text : List ℕ) (slots : List Slot) → AllByRecursion (Differ (told k text)) slots → AllByRecursion (λ slot. AllByRecursion (λ ahead. text ≢ ahead) (lines_of slot)) slots
of_told k text slots h = each_weaker (Differ (told k text)) (λ slot. AllByRecursion (λ ahead. text ≢ ahead) (lines_of slot)) (λ slot d. d.0) slots h

pub apart_block : (slots rest : List Slot) → AreFree slots → Pairs Differ slots → AllByRecursion (PassesBy rest) slots → AreApart rest → AreApart (slots ++ rest)
apart_block [] rest f d p r = r
apart_block (fixed text ∷ slots) rest f d p r = let no = f.0 in cc
apart_block (told k text ∷ slots) rest f d p r =
    ((one_line text slots rest f.1 (of_told k text slots d.0) p.0.0, tt), apart_block slots rest f.1 d.1 p.1 r)
apart_block (changed e k text ∷ slots) rest f d p r = (
  (
    one_line (43 ∷ text) slots rest f.1 (each_weaker (Differ (changed e k text)) (λ slot. AllByRecursion (λ ahead. (43 ∷ text) ≢ ahead) (lines_of slot)) (λ slot x. x.0) slots d.0) p.0.0,
    (one_line (45 ∷ text) slots rest f.1 (each_weaker (Differ (changed e k text)) (λ slot. AllByRecursion (λ ahead. (45 ∷ text) ≢ ahead) (lines_of slot)) (λ slot x. x.1.0) slots d.0) p.0.1.0, tt),
  ),
  apart_block slots rest f.1 d.1 p.1 r,
)
apart_block (silent k ∷ slots) rest f d p r = (tt, apart_block slots rest f.1 d.1 p.1 r)

-- ---- earlier atoms

-- the earlier atom of a slot, if it has one, is one of these
abbrev pub HasEarlier : List ℕ → Slot → Type 0
HasEarlier before (changed e k text) = Contains before e
HasEarlier before _ = Unit {0}

pub earlier_block : (before : List ℕ) (slots rest : List Slot) → AllByRecursion (HasEarlier before) slots → AreEarlierBefore (before ++ slot_atoms slots) rest → AreEarlierBefore before (slots ++ rest)
earlier_block before [] rest h r = subst (λ xs. AreEarlierBefore xs rest) (append-nil before) r
earlier_block before (slot ∷ slots) rest h r = by_slot slot h.0 (earlier_block (before ++ atoms_in slot) slots rest (each_weaker (HasEarlier before) (HasEarlier (before ++ atoms_in slot)) (grown (atoms_in slot)) slots h.1) (subst (λ xs. AreEarlierBefore xs rest) (sym (append_assoc before (atoms_in slot) (slot_atoms slots))) r))
  where
    grown : (more : List ℕ) (z : Slot) → HasEarlier before z → HasEarlier (before ++ more) z
    grown more (fixed text) h = tt
    grown more (told k text) h = tt
    grown more (changed e k text) h = Contains-append_left before more e h
    grown more (silent k) h = tt

    by_slot : (s : Slot) → HasEarlier before s → AreEarlierBefore (before ++ atoms_in s) (slots ++ rest) → AreEarlierBefore before (s ∷ slots ++ rest)
    by_slot (fixed text) h r = r
    by_slot (told k text) h r = r
    by_slot (changed e k text) h r = (h, r)
    by_slot (silent k) h r = r

-- ---- silent atoms

-- a slot's atom is true, if it is silent
abbrev pub IsSilentTrue : List Bool → Slot → Type 0
IsSilentTrue truth (silent k) = truth_at truth k ≡ true
IsSilentTrue truth _ = Unit {0}

pub silent_each : (truth : List Bool) (slots : List Slot) → AreSilent truth slots → AllByRecursion (IsSilentTrue truth) slots
silent_each truth [] h = tt
silent_each truth (fixed text ∷ slots) h = (tt, silent_each truth slots h)
silent_each truth (told k text ∷ slots) h = (tt, silent_each truth slots h)
silent_each truth (changed e k text ∷ slots) h = (tt, silent_each truth slots h)
silent_each truth (silent k ∷ slots) h = (h.0, silent_each truth slots h.1)

pub each_silent : (truth : List Bool) (slots : List Slot) → AllByRecursion (IsSilentTrue truth) slots → AreSilent truth slots
each_silent truth [] h = tt
each_silent truth (fixed text ∷ slots) h = each_silent truth slots h.1
each_silent truth (told k text ∷ slots) h = each_silent truth slots h.1
each_silent truth (changed e k text ∷ slots) h = each_silent truth slots h.1
each_silent truth (silent k ∷ slots) h = (h.0, each_silent truth slots h.1)

-- ---- atoms

pub atoms_append : (xs ys : List Slot) → slot_atoms (xs ++ ys) ≡ slot_atoms xs ++ slot_atoms ys
atoms_append xs ys = flat_map-append atoms_in xs ys

-- slots of one atom each
pub atoms_map : {B : Type 0} (slot : B → Slot) (number : B → ℕ) → ((x : B) → atoms_in (slot x) ≡ number x ∷ []) → (xs : List B) → slot_atoms (map slot xs) ≡ map number xs
atoms_map slot number one [] = refl
atoms_map slot number one (x ∷ xs) = rw (one x) (ap (λ ns. number x ∷ ns) (atoms_map slot number one xs))
