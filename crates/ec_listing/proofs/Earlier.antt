-- The earlier atom of a change is that of the time before.
use Rattle.std.proofs.Common.{◌≡◌, ℕ, zero, suc, ◌+◌, Bool, true, false, not, ◌||◌, if◌then◌else◌, List, [], ◌∷◌, ◌++◌, map, Contains, ℤ, pos, ◌+ℤ◌, refl, sym, ap, ◌∙◌, subst, append_assoc, arith}
use Rattle.std.specs.List.{AllByRecursion, flat_map, range_with_len}
use Rattle.std.specs.Ordering.{int_eq}
use Rattle.std.proofs.lemmas.Int.{ints}
use Rattle.std.proofs.lemmas.List.{append-nil}
use Rattle.std.proofs.lemmas.List.Elements.{Contains-append_left, Contains-append_right}
use Rattle.ec_logic.specs.Atom.{GroundAtom}
use Rattle.ec_logic.specs.Axiom.{first_time}
use Rattle.ec_logic.specs.Narrative.{before_time}
use Rattle.ec_logic.specs.Signature.{Signature, event_sort, fluent_sort}
use Rattle.ec_logic.specs.Universe.{Universe, universe_of, extent_at, domain}
use Rattle.ec_logic.specs.Valid.{IsSignature}
use Rattle.ec_listing.specs.Slots.{told, changed, silent, fluent_slot, released_slot, happens_slot, atom_slot, time_slots, predicate_slots, slots_of}
use Rattle.ec_listing.specs.Apart.{atoms_in, slot_atoms, AreEarlierBefore}
use Rattle.ec_listing.proofs.Atoms.{declared_atoms}
use Rattle.ec_listing.proofs.Blocks.{HasEarlier, earlier_block, atoms_append, atoms_map}
use Rattle.ec_listing.proofs.Domains.{domain_contains, mapped_contains}
use Rattle.ec_listing.proofs.Lines.{IsFluent}
use Rattle.ec_listing.proofs.Numbered.{holds_number, holds_atom}
use Rattle.ec_listing.proofs.Readable.{told_at, each_told}
use Rattle.ec_listing.proofs.Times.{not_first, times_numbered, time_domain}

chosen : (before : List ℕ) (c : Bool) (e k : ℕ) (text : List ℕ) → (c ≡ false → Contains before e) → HasEarlier before (if c then told k text else changed e k text)
chosen before true e k text h = tt
chosen before false e k text h = h refl

kept : (before : List ℕ) (c : Bool) (k : ℕ) (text : List ℕ) → HasEarlier before (if c then silent k else told k text)
kept before true k text = tt
kept before false k text = tt

module _ (signature : Signature) (valid : IsSignature signature) where
  abbrev universe : Universe
  universe = universe_of signature

  abbrev fluents : List ℤ
  fluents = domain universe fluent_sort

  abbrev first : ℤ
  first = first_time signature

  -- the atoms of the fluents at a time stand before
  abbrev AreHeld : List ℕ → ℤ → Type 0
  AreHeld before t = (f : ℤ) → IsFluent signature f → Contains before (holds_number signature valid t f)

  time_earlier : (before : List ℕ) (t : ℤ) → (int_eq t first ≡ false → AreHeld before (before_time t)) → AllByRecursion (HasEarlier before) (told_at signature valid t)
  time_earlier before t h = each_told signature valid (HasEarlier before) t
      (λ f k. chosen before (int_eq t first || not signature.time_diff) _ _ _ (λ c. h (not_first (int_eq t first) (not signature.time_diff) c) f k))
      (λ f k. kept before _ _ _) (λ e k. tt)

  -- the atoms of a time's fluents are among those of its slots
  held_there : (t : ℤ) (f : ℤ) → IsFluent signature f → Contains (slot_atoms (told_at signature valid t)) (holds_number signature valid t f)
  held_there t f h =
      let fs = map (fluent_slot signature t) fluents in
      let rs = map (released_slot signature t) fluents in
      let es = map (happens_slot signature t) (domain universe event_sort) in
      let number = holds_number signature valid t f in
      let listed = mapped_contains (holds_number signature valid t) fluents f (domain_contains (extent_at universe fluent_sort) f h) in
      let here = subst (λ xs. Contains xs number) (sym (atoms_map (fluent_slot signature t) (holds_number signature valid t) (holds_atom signature valid t) fluents)) listed in
      subst (λ xs. Contains xs number) (sym (atoms_append (fs ++ rs) es ∙ ap (λ xs. xs ++ slot_atoms es) (atoms_append fs rs)))
      (Contains-append_left (slot_atoms fs ++ slot_atoms rs) (slot_atoms es) number (Contains-append_left (slot_atoms fs) (slot_atoms rs) number here))

  atoms_earlier : (before : List ℕ) → AreEarlierBefore before (predicate_slots signature)
  atoms_earlier before = none (declared_atoms signature valid) (before ++ [])
    where
      none : (atoms : List GroundAtom) (before : List ℕ) → AreEarlierBefore before (map (atom_slot signature) atoms)
      none [] before = tt
      none (a ∷ atoms) before = none atoms (before ++ atoms_in (atom_slot signature a))

  -- from a time on, where those of the time before stand before
  times_earlier : (k n : ℕ) (before : List ℕ) → ((j : ℕ) → suc j ≡ k → AreHeld before (first +ℤ pos j))
      → AreEarlierBefore before (flat_map (time_slots signature) (map (λ i. first +ℤ pos i) (range_with_len k n)) ++ predicate_slots signature)
  times_earlier k zero before h = atoms_earlier before
  times_earlier k (suc n) before h =
      let t = first +ℤ pos k in
      let slots = told_at signature valid t in
      let later = flat_map (time_slots signature) (map (λ i. first +ℤ pos i) (range_with_len (k + 1) n)) in
      let next = times_earlier (k + 1) n (before ++ slot_atoms slots) (λ j e f g. (let same : j ≡ k = omega (arith, e) in let P : ℕ → Type 0 = λ i. Contains (before ++ slot_atoms slots) (holds_number signature valid (first +ℤ pos i) f) in
      subst P (sym same) (Contains-append_right before (slot_atoms slots) (holds_number signature valid t f) (held_there t f g)))) in
      subst (λ xs. AreEarlierBefore xs (slots ++ later ++ predicate_slots signature)) (sym (append-nil before))
      (subst (AreEarlierBefore before) (sym (append_assoc slots later (predicate_slots signature)))
      (earlier_block before slots (later ++ predicate_slots signature) (time_earlier before t (λ apart. held k h apart)) next))
    where
      held : (i : ℕ) → ((j : ℕ) → suc j ≡ i → AreHeld before (first +ℤ pos j)) → int_eq (first +ℤ pos i) first ≡ false → AreHeld before (before_time (first +ℤ pos i))
      held zero g apart = absurd (grind (arith, ints, apart))
      held (suc j) g apart = λ f k. (let back : before_time (first +ℤ pos (suc j)) ≡ first +ℤ pos j = omega (arith, ints) in let P : ℤ → Type 0 = λ z. Contains before (holds_number signature valid z f) in subst P (sym back) (g j refl f k))

  pub slots_earlier : AreEarlierBefore [] (slots_of signature)
  slots_earlier =
      subst (λ ts. AreEarlierBefore [] (flat_map (time_slots signature) ts ++ predicate_slots signature)) (sym (time_domain signature valid))
      (times_earlier 0 (times_numbered signature valid).0 [] (λ j e. absurd (omega (arith, e))))
