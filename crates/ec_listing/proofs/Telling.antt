-- A narrative is what its slots tell, and a truth fits where the silent atoms are true.
use Rattle.std.proofs.Common.{◌≡◌, ℕ, Bool, true, false, not, ◌&&◌, ◌||◌, if◌then◌else◌, List, [], ◌∷◌, ◌++◌, map, length, Contains, get_or, ℤ, ◌↔◌, refl, sym, ap, ◌∙◌, append_assoc, codes}
use Rattle.std.specs.List.{AllByRecursion, flat_map}
use Rattle.std.specs.Ordering.{int_eq}
use Rattle.std.proofs.lemmas.Grind.{flat_map-append}
use Rattle.std.proofs.lemmas.List.Elements.{All-contains, All-from_recursion, All-get_or, Contains-get_or, recursion_from_All}
use Rattle.ec_logic.specs.Atom.{structure_of, visible_atoms}
use Rattle.ec_logic.specs.Axiom.{first_time}
use Rattle.ec_logic.specs.Narrative.{line, line_if, change_text, before_time, integer_text, fluent_text, event_text, atom_text, fluent_line, released_line, happens_line, time_lines, atom_line, predicate_lines, is_noninertial}
use Rattle.ec_logic.specs.Signature.{Signature, time_sort, event_sort, fluent_sort, holds_at, released_at, happens}
use Rattle.ec_logic.specs.Truth.{Structure}
use Rattle.ec_logic.specs.Universe.{Universe, universe_of, extent_at, domain}
use Rattle.ec_logic.specs.Valid.{IsSignature}
use Rattle.ec_listing.specs.Slots.{Slot, told, changed, silent, atom_number, fluent_slot, released_slot, happens_slot, atom_slot, time_slots, predicate_slots, slots_of, truth_at, changed_text, slot_text, told_text}
use Rattle.ec_listing.specs.Apart.{AreSilent}
use Rattle.ec_listing.specs.Reading.{IsFitting, narrative_of, model_text}
use Rattle.ec_listing.proofs.Atoms.{holds_tuple, released_tuple, happens_tuple, truth_is, declared_atoms, IsDeclaredAtom, each_declared_atom}
use Rattle.ec_listing.proofs.Blocks.{IsSilentTrue, silent_each, each_silent}
use Rattle.ec_listing.proofs.Domains.{domain_contains}
use Rattle.ec_listing.proofs.Lines.{IsFluent, IsEvent, IsTime}
use Rattle.ec_listing.proofs.Lists.{each_weaker, each_append, each_left, each_right, each_joined}
use Rattle.ec_listing.proofs.Readable.{told_at, each_told, each_atom_slot, each_fluent, each_event, each_time}
use Rattle.ec_listing.proofs.Times.{not_first, time_before}

change_is : (a b : Bool) (text : List ℕ) → changed_text a b (text ++ codes ".") ≡ change_text a b text
change_is true true text = refl
change_is true false text = refl
change_is false true text = refl
change_is false false text = refl

module _ (truth : List Bool) where
  -- slots one by one, and their lines
  mapped_told : {B : Type 0} (slot : B → Slot) (text : B → List ℕ) (xs : List B) → AllByRecursion (λ x. slot_text truth (slot x) ≡ text x) xs → told_text truth (map slot xs) ≡ flat_map text xs
  mapped_told slot text [] h = refl
  mapped_told slot text (x ∷ xs) h = rw h.0 (ap (λ ys. text x ++ ys) (mapped_told slot text xs h.1))

  joined_told : {B : Type 0} (slots : B → List Slot) (text : B → List ℕ) (xs : List B) → AllByRecursion (λ x. told_text truth (slots x) ≡ text x) xs → told_text truth (flat_map slots xs) ≡ flat_map text xs
  joined_told slots text [] h = refl
  joined_told slots text (x ∷ xs) h = flat_map-append (slot_text truth) (slots x) (flat_map slots xs) ∙ (ap (λ ys. ys ++ told_text truth (flat_map slots xs)) h.0 ∙ ap (λ ys. text x ++ ys) (joined_told slots text xs h.1))

  told_append : (xs ys : List Slot) → told_text truth (xs ++ ys) ≡ told_text truth xs ++ told_text truth ys
  told_append xs ys = flat_map-append (slot_text truth) xs ys

  told_as_line : (c : Bool) (e k : ℕ) (ma mb : Bool) (text : List ℕ) → (c ≡ false → ma ≡ truth_at truth e) → mb ≡ truth_at truth k
      → slot_text truth (if c then told k (text ++ codes ".") else changed e k (text ++ codes ".")) ≡ (if c then line_if mb (text ++ codes ".") else change_text ma mb text)
  told_as_line true e k ma mb text h i = rw i refl
  told_as_line false e k ma mb text h i = rw (h refl, i) (change_is (truth_at truth e) (truth_at truth k) text)

  released_as_line : (c : Bool) (k : ℕ) (m : Bool) (text : List ℕ) → m ≡ truth_at truth k → slot_text truth (if c then silent k else told k text) ≡ line_if (m && not c) text
  released_as_line true k m text h = none m
    where
      none : (m : Bool) → [] ≡ line_if (m && false) text
      none true = refl
      none false = refl
  released_as_line false k m text h = rw h (same (truth_at truth k))
    where
      same : (m : Bool) → line_if m text ≡ line_if (m && true) text
      same true = refl
      same false = refl

module _ (signature : Signature) (valid : IsSignature signature) (truth : List Bool) where
  abbrev universe : Universe
  universe = universe_of signature

  abbrev m : Structure
  m = structure_of universe truth

  abbrev fluents : List ℤ
  fluents = domain universe fluent_sort

  abbrev events : List ℤ
  events = domain universe event_sort

  abbrev times : List ℤ
  times = domain universe time_sort

  fluent_told : (t f : ℤ) → IsTime signature t → IsFluent signature f → slot_text truth (fluent_slot signature t f) ≡ fluent_line signature m t f
  fluent_told t f h k =
      told_as_line truth (int_eq t (first_time signature) || not signature.time_diff) (atom_number signature holds_at (f ∷ before_time t ∷ [])) (atom_number signature holds_at (f ∷ t ∷ []))
      (m holds_at (f ∷ before_time t ∷ [])) (m holds_at (f ∷ t ∷ [])) (fluent_text signature f)
      (λ c. truth_is signature valid truth holds_at (f ∷ before_time t ∷ []) (holds_tuple signature valid f (before_time t) k (time_before signature valid t h (not_first (int_eq t (first_time signature)) (not signature.time_diff) c))))
      (truth_is signature valid truth holds_at (f ∷ t ∷ []) (holds_tuple signature valid f t k h))

  released_told : (t f : ℤ) → IsTime signature t → IsFluent signature f → slot_text truth (released_slot signature t f) ≡ released_line signature m t f
  released_told t f h k = released_as_line truth (is_noninertial signature f) (atom_number signature released_at (f ∷ t ∷ [])) (m released_at (f ∷ t ∷ []))
      (codes "ReleasedAt(" ++ fluent_text signature f ++ codes ", " ++ integer_text t ++ codes ").") (truth_is signature valid truth released_at (f ∷ t ∷ []) (released_tuple signature valid f t k h))

  happens_told : (t e : ℤ) → IsTime signature t → IsEvent signature e → slot_text truth (happens_slot signature t e) ≡ happens_line signature m t e
  happens_told t e h k = ap (λ b. line_if b (codes "Happens(" ++ event_text signature e ++ codes ", " ++ integer_text t ++ codes ").")) (sym (truth_is signature valid truth happens (e ∷ t ∷ []) (happens_tuple signature valid e t k h)))

  time_told : (t : ℤ) → IsTime signature t → told_text truth (time_slots signature t) ≡ time_lines signature m t
  time_told t h =
      let fs = map (fluent_slot signature t) fluents in
      let rs = map (released_slot signature t) fluents in
      let es = map (happens_slot signature t) events in
      let a = mapped_told truth (fluent_slot signature t) (fluent_line signature m t) fluents (each_weaker (IsFluent signature) (λ f. slot_text truth (fluent_slot signature t f) ≡ fluent_line signature m t f) (λ f k. fluent_told t f h k) fluents (each_fluent signature valid)) in
      let b = mapped_told truth (released_slot signature t) (released_line signature m t) fluents (each_weaker (IsFluent signature) (λ f. slot_text truth (released_slot signature t f) ≡ released_line signature m t f) (λ f k. released_told t f h k) fluents (each_fluent signature valid)) in
      let c = mapped_told truth (happens_slot signature t) (happens_line signature m t) events (each_weaker (IsEvent signature) (λ e. slot_text truth (happens_slot signature t e) ≡ happens_line signature m t e) (λ e k. happens_told t e h k) events (each_event signature valid)) in
      let first = line (integer_text t) in
      let parts : told_text truth (told_at signature valid t) ≡ flat_map (fluent_line signature m t) fluents ++ flat_map (released_line signature m t) fluents ++ flat_map (happens_line signature m t) events =
      told_append truth (fs ++ rs) es ∙ (ap (λ x. x ++ told_text truth es) (told_append truth fs rs) ∙ (ap (λ x. x ++ told_text truth rs ++ told_text truth es) a ∙ (ap (λ x. flat_map (fluent_line signature m t) fluents ++ x ++ told_text truth es) b ∙ ap (λ x. flat_map (fluent_line signature m t) fluents ++ flat_map (released_line signature m t) fluents ++ x) c))) in
      ap (λ x. first ++ x) parts ∙ regrouped first (flat_map (fluent_line signature m t) fluents) (flat_map (released_line signature m t) fluents) (flat_map (happens_line signature m t) events)
    where
      regrouped : (a b c d : List ℕ) → a ++ (b ++ c ++ d) ≡ a ++ b ++ c ++ d
      regrouped a b c d = sym (append_assoc a (b ++ c) d) ∙ ap (λ x. x ++ d) (sym (append_assoc a b c))

  predicates_told : told_text truth (predicate_slots signature) ≡ predicate_lines signature m
  predicates_told = ap (λ x. line (codes "P") ++ x) (mapped_told truth (atom_slot signature) (atom_line signature m) (declared_atoms signature valid)
      (each_weaker (IsDeclaredAtom signature valid) (λ atom. slot_text truth (atom_slot signature atom) ≡ atom_line signature m atom)
      (λ atom d. ap (λ b. line_if b (atom_text signature atom ++ codes ".")) (sym (truth_is signature valid truth atom.predicate atom.args d.tuple))) (declared_atoms signature valid) (each_declared_atom signature valid)))

  pub narrative_told : (number : ℕ) → narrative_of signature number truth ≡ line (model_text number) ++ told_text truth (slots_of signature)
  narrative_told number =
      let first = line (model_text number) in
      let timed = joined_told truth (time_slots signature) (time_lines signature m) times (each_weaker (IsTime signature) (λ t. told_text truth (time_slots signature t) ≡ time_lines signature m t) time_told times (each_time signature valid)) in
      append_assoc first (flat_map (time_lines signature m) times) (predicate_lines signature m)
      ∙ ap (λ x. first ++ x) (sym (told_append truth (flat_map (time_slots signature) times) (predicate_slots signature) ∙ (ap (λ x. x ++ told_text truth (predicate_slots signature)) timed ∙ ap (λ x. flat_map (time_lines signature m) times ++ x) predicates_told)))

  -- ---- truths that fit

  abbrev IsReleased : ℤ → ℤ → Type 0
  IsReleased t f = is_noninertial signature f ≡ true → truth_at truth (atom_number signature released_at (f ∷ t ∷ [])) ≡ true

  fluent_open : (c : Bool) (e k : ℕ) (text : List ℕ) → IsSilentTrue truth (if c then told k text else changed e k text)
  fluent_open true e k text = tt
  fluent_open false e k text = tt

  release_open : (c : Bool) (k : ℕ) (text : List ℕ) → (c ≡ true → truth_at truth k ≡ true) → IsSilentTrue truth (if c then silent k else told k text)
  release_open true k text h = h refl
  release_open false k text h = tt

  release_closed : (c : Bool) (k : ℕ) (text : List ℕ) → IsSilentTrue truth (if c then silent k else told k text) → c ≡ true → truth_at truth k ≡ true
  release_closed true k text h e = h
  release_closed false k text h e = cc

  fits_silent : IsFitting signature truth → AllByRecursion (IsSilentTrue truth) (slots_of signature)
  fits_silent fits = each_append (IsSilentTrue truth) (flat_map (time_slots signature) times) (predicate_slots signature)
      (each_joined (IsSilentTrue truth) (time_slots signature) times (recursion_from_All (λ t. AllByRecursion (IsSilentTrue truth) (time_slots signature t)) times (λ i d low. at_time (get_or times i d) (Contains-get_or times i d low) (All-get_or (IsTime signature) times i d low (All-from_recursion (IsTime signature) times (each_time signature valid))))))
      (tt, each_atom_slot signature valid (IsSilentTrue truth) (λ atom d. tt))
    where
      at_time : (t : ℤ) → Contains times t → IsTime signature t → AllByRecursion (IsSilentTrue truth) (time_slots signature t)
      at_time t there h = (
        tt,
        each_told signature valid (IsSilentTrue truth) t (λ f k. fluent_open _ _ _ _)
            (λ f k. release_open (is_noninertial signature f) _ _ (λ e. sym (truth_is signature valid truth released_at (f ∷ t ∷ []) (released_tuple signature valid f t k h)) ∙ fits.released f t (domain_contains (extent_at universe fluent_sort) f k) there e)) (λ e k. tt),
      )

  silent_released : AllByRecursion (IsSilentTrue truth) (slots_of signature) → (f t : ℤ) → Contains fluents f → Contains times t → is_noninertial signature f ≡ true → m released_at (f ∷ t ∷ []) ≡ true
  silent_released all f t a b e =
      let h = All-contains (IsTime signature) times t (All-from_recursion (IsTime signature) times (each_time signature valid)) b in
      let k = All-contains (IsFluent signature) fluents f (All-from_recursion (IsFluent signature) fluents (each_fluent signature valid)) a in
      let timed = each_left (IsSilentTrue truth) (flat_map (time_slots signature) times) (predicate_slots signature) all in
      let there = All-contains (λ s. AllByRecursion (IsSilentTrue truth) (time_slots signature s)) times t (All-from_recursion (λ s. AllByRecursion (IsSilentTrue truth) (time_slots signature s)) times (parted times timed)) b in
      let slots = each_right (IsSilentTrue truth) (map (fluent_slot signature t) fluents) (map (released_slot signature t) fluents) (each_left (IsSilentTrue truth) (map (fluent_slot signature t) fluents ++ map (released_slot signature t) fluents) (map (happens_slot signature t) events) there.1) in
      let here = All-contains (λ g. IsSilentTrue truth (released_slot signature t g)) fluents f (All-from_recursion (λ g. IsSilentTrue truth (released_slot signature t g)) fluents (unmapped fluents slots)) a in
      truth_is signature valid truth released_at (f ∷ t ∷ []) (released_tuple signature valid f t k h) ∙ release_closed (is_noninertial signature f) _ _ here e
    where
      parted : (ts : List ℤ) → AllByRecursion (IsSilentTrue truth) (flat_map (time_slots signature) ts) → AllByRecursion (λ s. AllByRecursion (IsSilentTrue truth) (time_slots signature s)) ts
      parted [] h = tt
      parted (s ∷ ts) h = (each_left (IsSilentTrue truth) (time_slots signature s) (flat_map (time_slots signature) ts) h, parted ts (each_right (IsSilentTrue truth) (time_slots signature s) (flat_map (time_slots signature) ts) h))

      unmapped : (fs : List ℤ) → AllByRecursion (IsSilentTrue truth) (map (released_slot signature t) fs) → AllByRecursion (λ g. IsSilentTrue truth (released_slot signature t g)) fs
      unmapped [] h = tt
      unmapped (g ∷ fs) h = (h.0, unmapped fs h.1)

  pub fits_is : IsFitting signature truth ↔ ((length truth ≡ length (visible_atoms universe)) × AreSilent truth (slots_of signature))
  fits_is = (
    λ fits. (fits.whole, each_silent truth (slots_of signature) (fits_silent fits)),
    λ both. record { whole = both.0; released = silent_released (silent_each truth (slots_of signature) both.1) },
  )
