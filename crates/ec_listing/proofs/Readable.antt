-- The slots of a signature are apart, and each of their lines is one.
use Rattle.std.proofs.Common.{◌≡◌, ◌≢◌, ℕ, Bool, true, false, if◌then◌else◌, List, [], ◌∷◌, ◌++◌, map, All, ℤ, refl, sym, ap, ◌∙◌, subst, append_assoc, codes}
use Rattle.std.specs.List.{AllByRecursion, flat_map}
use Rattle.std.proofs.lemmas.List.{append-nil}
use Rattle.std.proofs.lemmas.List.Elements.{All-from_recursion}
use Rattle.ec_logic.specs.Atom.{GroundAtom}
use Rattle.ec_logic.specs.Signature.{Signature, time_sort, event_sort, fluent_sort}
use Rattle.ec_logic.specs.Universe.{Universe, universe_of, extent_at, domain}
use Rattle.ec_logic.specs.Valid.{IsSignature}
use Rattle.ec_listing.specs.Slots.{Slot, told, changed, silent, fluent_slot, released_slot, happens_slot, atom_slot, time_slots, predicate_slots, slots_of}
use Rattle.ec_listing.specs.Apart.{lines_of, lines_ahead, AreApart, IsSlotLine}
use Rattle.ec_listing.proofs.Atoms.{declared_atoms, IsDeclaredAtom, each_declared_atom, declared_atoms_apart, AreApartAtoms}
use Rattle.ec_listing.proofs.Blocks.{is_free, AreFree, Differ, PassesBy, apart_block}
use Rattle.ec_listing.proofs.Decoding.{is_plain_text}
use Rattle.ec_listing.proofs.Domains.{domain_values, domain_different}
use Rattle.ec_listing.proofs.Lines.{IsFluent, IsEvent, IsTime, IsBetween, slot_line, fluent_between, released_between, happens_between, atom_between, time_line, time_plain, fluents_differ, fluent_released, fluent_happens, released_differ, released_happens, happens_differ, atoms_differ}
use Rattle.ec_listing.proofs.Lists.{Pairs, each_weaker, each_append, each_map, each_joined, pairs_append, crosses_left, pairs_map, crosses_map}

plain_apart : (text fixed_text : List ℕ) → is_plain_text text ≡ false → is_plain_text fixed_text ≡ true → text ≢ fixed_text
plain_apart text fixed_text h k = λ e. (let same = ap is_plain_text e in let clash : false ≡ true = sym h ∙ (same ∙ k) in no clash)
  where
    no : false ≡ true → ⊥
    no e = cc

free_choice : (c : Bool) (e k : ℕ) (text : List ℕ) → is_free (if c then told k text else changed e k text) ≡ true
free_choice true e k text = refl
free_choice false e k text = refl

free_release : (c : Bool) (k : ℕ) (text : List ℕ) → is_free (if c then silent k else told k text) ≡ true
free_release true k text = refl
free_release false k text = refl

module _ (signature : Signature) (valid : IsSignature signature) where
  abbrev universe : Universe
  universe = universe_of signature

  abbrev fluents : List ℤ
  fluents = domain universe fluent_sort

  abbrev events : List ℤ
  events = domain universe event_sort

  abbrev times : List ℤ
  times = domain universe time_sort

  pub each_fluent : AllByRecursion (IsFluent signature) fluents
  each_fluent = domain_values (extent_at universe fluent_sort)

  pub each_event : AllByRecursion (IsEvent signature) events
  each_event = domain_values (extent_at universe event_sort)

  pub each_time : AllByRecursion (IsTime signature) times
  each_time = domain_values (extent_at universe time_sort)

  -- the slots of a time behind its number
  abbrev pub told_at : ℤ → List Slot
  told_at t = map (fluent_slot signature t) fluents ++ map (released_slot signature t) fluents ++ map (happens_slot signature t) events

  -- what is so of each slot of a time, by kind
  pub each_told : (P : Slot → Type 0) (t : ℤ) → ((f : ℤ) → IsFluent signature f → P (fluent_slot signature t f)) → ((f : ℤ) → IsFluent signature f → P (released_slot signature t f)) → ((e : ℤ) → IsEvent signature e → P (happens_slot signature t e)) → AllByRecursion P (told_at t)
  each_told P t a b c =
      each_append P (map (fluent_slot signature t) fluents ++ map (released_slot signature t) fluents) (map (happens_slot signature t) events)
      (each_append P (map (fluent_slot signature t) fluents) (map (released_slot signature t) fluents)
      (each_map P (fluent_slot signature t) fluents (each_weaker (IsFluent signature) (λ f. P (fluent_slot signature t f)) a fluents each_fluent))
      (each_map P (released_slot signature t) fluents (each_weaker (IsFluent signature) (λ f. P (released_slot signature t f)) b fluents each_fluent)))
      (each_map P (happens_slot signature t) events (each_weaker (IsEvent signature) (λ e. P (happens_slot signature t e)) c events each_event))

  pub each_atom_slot : (P : Slot → Type 0) → ((atom : GroundAtom) → IsDeclaredAtom signature valid atom → P (atom_slot signature atom)) → AllByRecursion P (map (atom_slot signature) (declared_atoms signature valid))
  each_atom_slot P h = each_map P (atom_slot signature) (declared_atoms signature valid) (each_weaker (IsDeclaredAtom signature valid) (λ atom. P (atom_slot signature atom)) h (declared_atoms signature valid) (each_declared_atom signature valid))

  -- ---- lines

  between : (t : ℤ) → IsTime signature t → AllByRecursion (λ slot. AllByRecursion IsBetween (lines_of slot)) (told_at t)
  between t h = each_told (λ slot. AllByRecursion IsBetween (lines_of slot)) t (λ f k. fluent_between signature valid t f k) (λ f k. released_between signature valid t f h k) (λ e k. happens_between signature valid t e h k)

  atoms_between : AllByRecursion (λ slot. AllByRecursion IsBetween (lines_of slot)) (map (atom_slot signature) (declared_atoms signature valid))
  atoms_between = each_atom_slot (λ slot. AllByRecursion IsBetween (lines_of slot)) (λ atom d. atom_between signature valid atom.predicate atom.args d.tuple)

  abbrev HasLines : Slot → Type 0
  HasLines slot = AllByRecursion IsSlotLine (lines_of slot)

  lines_between : (slots : List Slot) → AllByRecursion (λ slot. AllByRecursion IsBetween (lines_of slot)) slots → AllByRecursion HasLines slots
  lines_between slots h = each_weaker (λ slot. AllByRecursion IsBetween (lines_of slot)) HasLines (λ slot k. each_weaker IsBetween IsSlotLine (λ text b. b.line) (lines_of slot) k) slots h

  time_lines : (t : ℤ) → IsTime signature t → AllByRecursion HasLines (time_slots signature t)
  time_lines t h = ((time_line signature valid t h, tt), lines_between (told_at t) (between t h))

  all_lines : AllByRecursion HasLines (slots_of signature)
  all_lines = each_append HasLines (flat_map (time_slots signature) times) (predicate_slots signature)
      (each_joined HasLines (time_slots signature) times (each_weaker (IsTime signature) (λ t. AllByRecursion HasLines (time_slots signature t)) time_lines times each_time))
      ((slot_line (codes "P") refl refl, tt), lines_between (map (atom_slot signature) (declared_atoms signature valid)) atoms_between)

  pub slot_lines : All (λ slot. All IsSlotLine (lines_of slot)) (slots_of signature)
  slot_lines = All-from_recursion (λ slot. All IsSlotLine (lines_of slot)) (slots_of signature) (each_weaker HasLines (λ slot. All IsSlotLine (lines_of slot)) (λ slot h. All-from_recursion IsSlotLine (lines_of slot) h) (slots_of signature) all_lines)

  -- ---- apart

  free_at : (t : ℤ) → AreFree (told_at t)
  free_at t = each_told (λ slot. is_free slot ≡ true) t (λ f h. free_choice _ _ _ _) (λ f h. free_release _ _ _) (λ e h. refl)

  differ_at : (t : ℤ) → Pairs Differ (told_at t)
  differ_at t =
      let fs = map (fluent_slot signature t) fluents in
      let rs = map (released_slot signature t) fluents in
      let hs = map (happens_slot signature t) events in
      let F = IsFluent signature in
      let E = IsEvent signature in
      let pf = pairs_map Differ F (fluent_slot signature t) (λ x y h k d. fluents_differ signature valid t x y h k d) fluents each_fluent (domain_different (extent_at universe fluent_sort)) in
      let pr = pairs_map Differ F (released_slot signature t) (λ x y h k d. released_differ signature valid t x y h k d) fluents each_fluent (domain_different (extent_at universe fluent_sort)) in
      let ph = pairs_map Differ E (happens_slot signature t) (λ x y h k d. happens_differ signature valid t x y h k d) events each_event (domain_different (extent_at universe event_sort)) in
      let fr = crosses_map Differ F ℤ F (fluent_slot signature t) (released_slot signature t) (λ x y h k. fluent_released signature valid t x y h) fluents fluents each_fluent each_fluent in
      let fh = crosses_map Differ F ℤ E (fluent_slot signature t) (happens_slot signature t) (λ x y h k. fluent_happens signature valid t x y h) fluents events each_fluent each_event in
      let rh = crosses_map Differ F ℤ E (released_slot signature t) (happens_slot signature t) (λ x y h k. released_happens signature valid t x y) fluents events each_fluent each_event in
      pairs_append Differ (fs ++ rs) hs (pairs_append Differ fs rs pf pr fr) ph (crosses_left Differ fs rs hs fh rh)

  passes : (slots rest : List Slot) → AllByRecursion (λ slot. AllByRecursion IsBetween (lines_of slot)) slots → AllByRecursion (λ text. is_plain_text text ≡ true) (lines_ahead rest) → AllByRecursion (PassesBy rest) slots
  passes slots rest h r =
      each_weaker (λ slot. AllByRecursion IsBetween (lines_of slot)) (PassesBy rest)
      (λ slot k. each_weaker IsBetween (λ text. AllByRecursion (λ ahead. text ≢ ahead) (lines_ahead rest))
      (λ text b. each_weaker (λ ahead. is_plain_text ahead ≡ true) (λ ahead. text ≢ ahead) (λ ahead p. plain_apart text ahead b.parted p) (lines_ahead rest) r) (lines_of slot) k) slots h

  apart_atoms : AreApart (map (atom_slot signature) (declared_atoms signature valid))
  apart_atoms =
      let slots = map (atom_slot signature) (declared_atoms signature valid) in
      let free = each_atom_slot (λ slot. is_free slot ≡ true) (λ atom d. refl) in
      subst AreApart (append-nil slots) (apart_block slots [] free atom_pairs (passes slots [] atoms_between tt) tt)
    where
      pairs_of : (atoms : List GroundAtom) → AllByRecursion (IsDeclaredAtom signature valid) atoms → Pairs AreApartAtoms atoms → Pairs Differ (map (atom_slot signature) atoms)
      pairs_of [] h p = tt
      pairs_of (a ∷ atoms) h p = (one atoms h.1 p.0, pairs_of atoms h.1 p.1)
        where
          one : (more : List GroundAtom) → AllByRecursion (IsDeclaredAtom signature valid) more → AllByRecursion (AreApartAtoms a) more → AllByRecursion (Differ (atom_slot signature a)) (map (atom_slot signature) more)
          one [] h p = tt
          one (b ∷ more) k q = (atoms_differ signature valid a.predicate b.predicate a.args b.args h.0.tuple k.0.tuple q.0, one more k.1 q.1)

      atom_pairs : Pairs Differ (map (atom_slot signature) (declared_atoms signature valid))
      atom_pairs = pairs_of (declared_atoms signature valid) (each_declared_atom signature valid) (declared_atoms_apart signature valid)

  ahead_plain : (ts : List ℤ) → AllByRecursion (IsTime signature) ts → AllByRecursion (λ text. is_plain_text text ≡ true) (lines_ahead (flat_map (time_slots signature) ts ++ predicate_slots signature))
  ahead_plain [] h = (refl, tt)
  ahead_plain (t ∷ ts) h = (time_plain signature valid t h.0, tt)

  apart_times : (ts : List ℤ) → AllByRecursion (IsTime signature) ts → AreApart (flat_map (time_slots signature) ts ++ predicate_slots signature)
  apart_times [] h = apart_atoms
  apart_times (t ∷ ts) h =
      let rest = flat_map (time_slots signature) ts ++ predicate_slots signature in
      subst AreApart (sym (append_assoc (told_at t) (flat_map (time_slots signature) ts) (predicate_slots signature)))
      (apart_block (told_at t) rest (free_at t) (differ_at t) (passes (told_at t) rest (between t h.0) (ahead_plain ts h.1)) (apart_times ts h.1))

  pub slots_apart : AreApart (slots_of signature)
  slots_apart = apart_times times each_time
