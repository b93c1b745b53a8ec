-- Each visible atom stands in one slot of a signature.
use Rattle.std.proofs.Common.{◌≡◌, ◌≢◌, ℕ, suc, ◌+◌, ◌*◌, ◌<◌, eqb, Bool, true, false, ◌||◌, if◌then◌else◌, List, [], ◌∷◌, ◌++◌, length, map, All, Contains, ℤ, refl, sym, ap, ◌∙◌, subst, arith}
use Rattle.std.specs.Prelude.{AllPairs}
use Rattle.std.specs.List.{AllByRecursion, flat_map, list_any}
use Rattle.std.proofs.lemmas.Bool.Decides.{Decides-eqb}
use Rattle.std.proofs.lemmas.Bool.{eqb-true}
use Rattle.std.proofs.lemmas.List.{length-append}
use Rattle.std.proofs.lemmas.List.Elements.{All-from_recursion, All-contains, All-cons}
use Rattle.std.proofs.lemmas.List.FromFn.{length-map-range_with_len}
use Rattle.std.proofs.lemmas.Map.Made.{IsDistinct-from_AllPairs}
use Rattle.std.proofs.lemmas.Map.Steps.{length-le_from_distinct_below}
use Rattle.std.proofs.lemmas.Map.Views.{Contains-from_any}
use Rattle.ec_logic.specs.Atom.{GroundAtom, atom_at, tuples_of, atoms_of, visible_atoms, visible_predicates}
use Rattle.ec_logic.specs.Extent.{size_of}
use Rattle.ec_logic.specs.Signature.{Signature, time_sort, event_sort, fluent_sort, holds_at, released_at, happens}
use Rattle.ec_logic.specs.Truth.{IsTuple}
use Rattle.ec_logic.specs.Universe.{Universe, universe_of, extent_at, domain, tuples, row_of}
use Rattle.ec_logic.specs.Valid.{IsSignature}
use Rattle.ec_logic.proofs.Numbers.{is_one_of}
use Rattle.ec_listing.specs.Slots.{told, changed, silent, atom_number, fluent_slot, released_slot, happens_slot, atom_slot, time_slots, predicate_slots, slots_of}
use Rattle.ec_listing.specs.Apart.{atoms_in, slot_atoms}
use Rattle.ec_listing.proofs.Atoms.{holds_tuple, released_tuple, happens_tuple, one_number, number_visible, declared_atoms, IsDeclaredAtom, each_declared_atom, declared_atoms_apart, AreApartAtoms, row_is}
use Rattle.ec_listing.proofs.Blocks.{atoms_append, atoms_map}
use Rattle.ec_listing.proofs.Domains.{domain_values, domain_different, domain_length}
use Rattle.ec_listing.proofs.Lines.{IsFluent, IsEvent, IsTime}
use Rattle.ec_listing.proofs.Lists.{Pairs, Crosses, each_weaker, each_append, each_map, each_joined, pairs_append, pairs_map, pairs_joined, crosses_left, crosses_map, all_pairs}

-- ---- lists of numbers

-- different numbers below their count are all of them
pub all_there : (xs : List ℕ) (n : ℕ) → Pairs (λ j k. j ≢ k) xs → All (λ k. k < n) xs → length xs ≡ n → (k : ℕ) → k < n → Contains xs k
all_there xs n apart below count k low = by_test (list_any (eqb k) xs) refl
  where
    differs : (ys : List ℕ) → list_any (eqb k) ys ≡ false → AllByRecursion (λ y. k ≢ y) ys
    differs [] h = tt
    differs (y ∷ ys) h = by_head (eqb k y) refl h (differs ys)
      where
        by_head : (b : Bool) → eqb k y ≡ b → (b || list_any (eqb k) ys) ≡ false → (list_any (eqb k) ys ≡ false → AllByRecursion (λ z. k ≢ z) ys) → (k ≢ y) × AllByRecursion (λ z. k ≢ z) ys
        by_head true e h next = cc
        by_head false e h next = ((λ s. (let t : eqb k y ≡ true = (Decides-eqb k y).1 s in clash t e)), next h)
          where
            clash : eqb k y ≡ true → eqb k y ≡ false → ⊥
            clash s t = cc

    by_test : (b : Bool) → list_any (eqb k) xs ≡ b → Contains xs k
    by_test true e = Contains-from_any eqb-true k xs e
    by_test false e =
        let whole = all_pairs (λ i j. i ≢ j) (k ∷ xs) (differs xs e, apart) in
        let all = All-cons (λ j. j < n) k xs low below in
        let few = length-le_from_distinct_below (k ∷ xs) n (IsDistinct-from_AllPairs Decides-eqb (k ∷ xs) whole) (λ q h. All-contains (λ j. j < n) (k ∷ xs) q all (Contains-from_any eqb-true q (k ∷ xs) h)) in
        absurd (omega (arith, few, count))

crosses_of : (P Q : ℕ → Type 0) → ((j k : ℕ) → P j → Q k → j ≢ k) → (xs ys : List ℕ) → AllByRecursion P xs → AllByRecursion Q ys → Crosses (λ j k. j ≢ k) xs ys
crosses_of P Q r xs ys h k = each_weaker P (λ j. AllByRecursion (λ i. j ≢ i) ys) (λ j p. each_weaker Q (λ i. j ≢ i) (λ i q. r j i p q) ys k) xs h

fluent_atom : (c : Bool) (e k : ℕ) (text : List ℕ) → atoms_in (if c then told k text else changed e k text) ≡ k ∷ []
fluent_atom true e k text = refl
fluent_atom false e k text = refl

released_atom : (c : Bool) (k : ℕ) (text : List ℕ) → atoms_in (if c then silent k else told k text) ≡ k ∷ []
released_atom true k text = refl
released_atom false k text = refl

module _ (signature : Signature) (valid : IsSignature signature) where
  abbrev universe : Universe
  universe = universe_of signature

  abbrev fluents : List ℤ
  fluents = domain universe fluent_sort

  abbrev events : List ℤ
  events = domain universe event_sort

  abbrev times : List ℤ
  times = domain universe time_sort

  abbrev visible : ℕ
  visible = length (visible_atoms universe)

  -- ---- the numbers of the slots' atoms

  abbrev pub holds_number : ℤ → ℤ → ℕ
  holds_number t f = atom_number signature holds_at (f ∷ t ∷ [])

  abbrev released_number : ℤ → ℤ → ℕ
  released_number t f = atom_number signature released_at (f ∷ t ∷ [])

  abbrev happens_number : ℤ → ℤ → ℕ
  happens_number t e = atom_number signature happens (e ∷ t ∷ [])

  abbrev time_numbers : ℤ → List ℕ
  time_numbers t = map (holds_number t) fluents ++ map (released_number t) fluents ++ map (happens_number t) events

  abbrev declared_number : GroundAtom → ℕ
  declared_number atom = atom_number signature atom.predicate atom.args

  abbrev all_numbers : List ℕ
  all_numbers = flat_map time_numbers times ++ map declared_number (declared_atoms signature valid)

  pub holds_atom : (t f : ℤ) → atoms_in (fluent_slot signature t f) ≡ holds_number t f ∷ []
  holds_atom t f = fluent_atom _ _ _ _

  time_atoms : (t : ℤ) → slot_atoms (time_slots signature t) ≡ time_numbers t
  time_atoms t =
      atoms_append (map (fluent_slot signature t) fluents ++ map (released_slot signature t) fluents) (map (happens_slot signature t) events)
      ∙ (ap (λ xs. xs ++ slot_atoms (map (happens_slot signature t) events)) (atoms_append (map (fluent_slot signature t) fluents) (map (released_slot signature t) fluents))
      ∙ (ap (λ xs. xs ++ slot_atoms (map (released_slot signature t) fluents) ++ slot_atoms (map (happens_slot signature t) events)) (atoms_map (fluent_slot signature t) (holds_number t) (holds_atom t) fluents)
      ∙ (ap (λ xs. map (holds_number t) fluents ++ xs ++ slot_atoms (map (happens_slot signature t) events)) (atoms_map (released_slot signature t) (released_number t) (λ f. released_atom _ _ _) fluents)
      ∙ ap (λ xs. map (holds_number t) fluents ++ map (released_number t) fluents ++ xs) (atoms_map (happens_slot signature t) (happens_number t) (λ e. refl) events))))

  times_atoms : (ts : List ℤ) → slot_atoms (flat_map (time_slots signature) ts) ≡ flat_map time_numbers ts
  times_atoms [] = refl
  times_atoms (t ∷ ts) =
      atoms_append (time_slots signature t) (flat_map (time_slots signature) ts)
      ∙ (ap (λ xs. xs ++ slot_atoms (flat_map (time_slots signature) ts)) (time_atoms t) ∙ ap (λ xs. time_numbers t ++ xs) (times_atoms ts))

  pub atoms_are : slot_atoms (slots_of signature) ≡ all_numbers
  atoms_are =
      atoms_append (flat_map (time_slots signature) times) (predicate_slots signature)
      ∙ (ap (λ xs. xs ++ slot_atoms (predicate_slots signature)) (times_atoms times)
      ∙ ap (λ xs. flat_map time_numbers times ++ xs) (atoms_map (atom_slot signature) declared_number (λ atom. refl) (declared_atoms signature valid)))

  -- ---- what these numbers are

  record IsTimeNumber (t : ℤ) (k : ℕ) : Type 0 where
    predicate : ℕ
    value : ℤ
    low : predicate < 3
    tuple : IsTuple universe predicate (value ∷ t ∷ [])
    seen : is_one_of (visible_predicates universe) predicate ≡ true
    is : k ≡ atom_number signature predicate (value ∷ t ∷ [])

  record IsDeclaredNumber (k : ℕ) : Type 0 where
    atom : GroundAtom
    declared : IsDeclaredAtom signature valid atom
    is : k ≡ declared_number atom

  fluents_each : AllByRecursion (IsFluent signature) fluents
  fluents_each = domain_values (extent_at universe fluent_sort)

  events_each : AllByRecursion (IsEvent signature) events
  events_each = domain_values (extent_at universe event_sort)

  times_each : AllByRecursion (IsTime signature) times
  times_each = domain_values (extent_at universe time_sort)

  time_each : (t : ℤ) → IsTime signature t → AllByRecursion (IsTimeNumber t) (time_numbers t)
  time_each t h =
      each_append (IsTimeNumber t) (map (holds_number t) fluents ++ map (released_number t) fluents) (map (happens_number t) events)
      (each_append (IsTimeNumber t) (map (holds_number t) fluents) (map (released_number t) fluents)
      (each_map (IsTimeNumber t) (holds_number t) fluents (each_weaker (IsFluent signature) (λ f. IsTimeNumber t (holds_number t f)) (λ f k. record { predicate = 0; value = f; low = omega arith; tuple = holds_tuple signature valid f t k h; seen = refl; is = refl }) fluents fluents_each))
      (each_map (IsTimeNumber t) (released_number t) fluents (each_weaker (IsFluent signature) (λ f. IsTimeNumber t (released_number t f)) (λ f k. record { predicate = 1; value = f; low = omega arith; tuple = released_tuple signature valid f t k h; seen = refl; is = refl }) fluents fluents_each)))
      (each_map (IsTimeNumber t) (happens_number t) events (each_weaker (IsEvent signature) (λ e. IsTimeNumber t (happens_number t e)) (λ e k. record { predicate = 2; value = e; low = omega arith; tuple = happens_tuple signature valid e t k h; seen = refl; is = refl }) events events_each))

  declared_each : AllByRecursion IsDeclaredNumber (map declared_number (declared_atoms signature valid))
  declared_each = each_map IsDeclaredNumber declared_number (declared_atoms signature valid)
      (each_weaker (IsDeclaredAtom signature valid) (λ atom. IsDeclaredNumber (declared_number atom)) (λ atom h. record { atom = atom; declared = h; is = refl }) (declared_atoms signature valid) (each_declared_atom signature valid))

  -- ---- each is that of a visible atom

  all_below : AllByRecursion (λ k. k < visible) all_numbers
  all_below =
      each_append (λ k. k < visible) (flat_map time_numbers times) (map declared_number (declared_atoms signature valid))
      (each_joined (λ k. k < visible) time_numbers times (each_weaker (IsTime signature) (λ t. AllByRecursion (λ k. k < visible) (time_numbers t))
      (λ t h. each_weaker (IsTimeNumber t) (λ k. k < visible) (λ k n. (let low = number_visible signature valid n.predicate (n.value ∷ t ∷ []) n.seen n.tuple in let is = n.is in omega (arith, low, is))) (time_numbers t) (time_each t h)) times times_each))
      (each_weaker IsDeclaredNumber (λ k. k < visible) (λ k n. (let low = number_visible signature valid n.atom.predicate n.atom.args n.declared.visible n.declared.tuple in let is = n.is in omega (arith, low, is))) (map declared_number (declared_atoms signature valid)) declared_each)

  -- ---- no two are the same

  first_value : (v w t : ℤ) → v ∷ t ∷ [] ≡ w ∷ t ∷ [] → v ≡ w
  first_value v w t e = cc

  last_value : (v w s t : ℤ) → v ∷ s ∷ [] ≡ w ∷ t ∷ [] → s ≡ t
  last_value v w s t e = cc

  time_apart : (t : ℤ) → IsTime signature t → Pairs (λ j k. j ≢ k) (time_numbers t)
  time_apart t h =
      let R : ℕ → ℕ → Type 0 = λ j k. j ≢ k in
      let F = IsFluent signature in
      let E = IsEvent signature in
      let fs = map (holds_number t) fluents in
      let rs = map (released_number t) fluents in
      let es = map (happens_number t) events in
      let pf = pairs_map R F (holds_number t) (λ x y a b d. λ e. d (first_value x y t (one_number signature valid 0 0 (x ∷ t ∷ []) (y ∷ t ∷ []) (holds_tuple signature valid x t a h) (holds_tuple signature valid y t b h) e).1)) fluents fluents_each (domain_different (extent_at universe fluent_sort)) in
      let pr = pairs_map R F (released_number t) (λ x y a b d. λ e. d (first_value x y t (one_number signature valid 1 1 (x ∷ t ∷ []) (y ∷ t ∷ []) (released_tuple signature valid x t a h) (released_tuple signature valid y t b h) e).1)) fluents fluents_each (domain_different (extent_at universe fluent_sort)) in
      let pe = pairs_map R E (happens_number t) (λ x y a b d. λ e. d (first_value x y t (one_number signature valid 2 2 (x ∷ t ∷ []) (y ∷ t ∷ []) (happens_tuple signature valid x t a h) (happens_tuple signature valid y t b h) e).1)) events events_each (domain_different (extent_at universe event_sort)) in
      let fr = crosses_map R F ℤ F (holds_number t) (released_number t) (λ x y a b. λ e. (let s = (one_number signature valid 0 1 (x ∷ t ∷ []) (y ∷ t ∷ []) (holds_tuple signature valid x t a h) (released_tuple signature valid y t b h) e).0 in omega (arith, s))) fluents fluents fluents_each fluents_each in
      let fe = crosses_map R F ℤ E (holds_number t) (happens_number t) (λ x y a b. λ e. (let s = (one_number signature valid 0 2 (x ∷ t ∷ []) (y ∷ t ∷ []) (holds_tuple signature valid x t a h) (happens_tuple signature valid y t b h) e).0 in omega (arith, s))) fluents events fluents_each events_each in
      let re = crosses_map R F ℤ E (released_number t) (happens_number t) (λ x y a b. λ e. (let s = (one_number signature valid 1 2 (x ∷ t ∷ []) (y ∷ t ∷ []) (released_tuple signature valid x t a h) (happens_tuple signature valid y t b h) e).0 in omega (arith, s))) fluents events fluents_each events_each in
      pairs_append R (fs ++ rs) es (pairs_append R fs rs pf pr fr) pe (crosses_left R fs rs es fe re)

  two_times : (s t : ℤ) → s ≢ t → (j k : ℕ) → IsTimeNumber s j → IsTimeNumber t k → j ≢ k
  two_times s t d j k a b = λ e.
      let same = one_number signature valid a.predicate b.predicate (a.value ∷ s ∷ []) (b.value ∷ t ∷ []) a.tuple b.tuple (sym a.is ∙ (e ∙ b.is)) in
      d (last_value a.value b.value s t same.1)

  time_declared : (t : ℤ) (j k : ℕ) → IsTimeNumber t j → IsDeclaredNumber k → j ≢ k
  time_declared t j k a b = λ e.
      let same = (one_number signature valid a.predicate b.atom.predicate (a.value ∷ t ∷ []) b.atom.args a.tuple b.declared.tuple (sym a.is ∙ (e ∙ b.is))).0 in
      let low = a.low in
      let high = b.declared.high in
      omega (arith, same, low, high)

  declared_apart : (atoms : List GroundAtom) → AllByRecursion (IsDeclaredAtom signature valid) atoms → Pairs AreApartAtoms atoms → Pairs (λ j k. j ≢ k) (map declared_number atoms)
  declared_apart [] h p = tt
  declared_apart (a ∷ atoms) h p = (one atoms h.1 p.0, declared_apart atoms h.1 p.1)
    where
      one : (more : List GroundAtom) → AllByRecursion (IsDeclaredAtom signature valid) more → AllByRecursion (AreApartAtoms a) more → AllByRecursion (λ k. declared_number a ≢ k) (map declared_number more)
      one [] k q = tt
      one (b ∷ more) k q = ((λ e. (let same = one_number signature valid a.predicate b.predicate a.args b.args h.0.tuple k.0.tuple e in q.0 same.0 same.1)), one more k.1 q.1)

  times_apart : Pairs (λ j k. j ≢ k) (flat_map time_numbers times)
  times_apart = pairs_joined (λ j k. j ≢ k) (IsTime signature) time_numbers time_apart
      (λ s t h k d. crosses_of (IsTimeNumber s) (IsTimeNumber t) (two_times s t d) (time_numbers s) (time_numbers t) (time_each s h) (time_each t k)) times times_each (domain_different (extent_at universe time_sort))

  all_apart : Pairs (λ j k. j ≢ k) all_numbers
  all_apart = pairs_append (λ j k. j ≢ k) (flat_map time_numbers times) (map declared_number (declared_atoms signature valid)) times_apart
      (declared_apart (declared_atoms signature valid) (each_declared_atom signature valid) (declared_atoms_apart signature valid))
      (each_joined (λ j. AllByRecursion (λ k. j ≢ k) (map declared_number (declared_atoms signature valid))) time_numbers times
      (each_weaker (IsTime signature) (λ t. AllByRecursion (λ j. AllByRecursion (λ k. j ≢ k) (map declared_number (declared_atoms signature valid))) (time_numbers t))
      (λ t h. crosses_of (IsTimeNumber t) IsDeclaredNumber (time_declared t) (time_numbers t) (map declared_number (declared_atoms signature valid)) (time_each t h) declared_each) times times_each))

  -- ---- as many as there are visible atoms

  length_map : {A : Type 0} (f : A → ℕ) (xs : List A) → length (map f xs) ≡ length xs
  length_map f [] = refl
  length_map f (x ∷ xs) = ap suc (length_map f xs)

  abbrev own : ℕ
  own = length fluents + length fluents + length events

  own_count : (t : ℤ) → length (time_numbers t) ≡ own
  own_count t =
      let a = length_map (holds_number t) fluents in
      let b = length_map (released_number t) fluents in
      let c = length_map (happens_number t) events in
      let d = length-append (map (holds_number t) fluents ++ map (released_number t) fluents) (map (happens_number t) events) in
      let e = length-append (map (holds_number t) fluents) (map (released_number t) fluents) in
      omega (arith, a, b, c, d, e)

  joined_count : (n : ℕ) (f : ℤ → List ℕ) → ((t : ℤ) → length (f t) ≡ n) → (ts : List ℤ) → length (flat_map f ts) ≡ length ts * n
  joined_count n f h [] = omega arith
  joined_count n f h (t ∷ ts) = let a = length-append (f t) (flat_map f ts) in let b = h t in let c = joined_count n f h ts in let d : suc (length ts) * n ≡ n + length ts * n = omega arith in omega (arith, a, b, c, d)

  tuples_pair : (p a b : ℕ) → row_of universe.predicates p ≡ a ∷ b ∷ [] → tuples_of universe p ≡ size_of (extent_at universe a) * size_of (extent_at universe b)
  tuples_pair p a b e = ap (tuples universe) e ∙ (let one : size_of (extent_at universe b) * 1 ≡ size_of (extent_at universe b) = omega arith in ap (λ n. size_of (extent_at universe a) * n) one)

  visible_is : visible ≡ tuples_of universe 0 + (tuples_of universe 1 + (tuples_of universe 2 + length (declared_atoms signature valid)))
  visible_is =
      let a = length-append (atoms_of universe 0) (atoms_of universe 1 ++ (atoms_of universe 2 ++ declared_atoms signature valid)) in
      let b = length-append (atoms_of universe 1) (atoms_of universe 2 ++ declared_atoms signature valid) in
      let c = length-append (atoms_of universe 2) (declared_atoms signature valid) in
      let d = length-map-range_with_len (atom_at universe 0) 0 (tuples_of universe 0) in
      let e = length-map-range_with_len (atom_at universe 1) 0 (tuples_of universe 1) in
      let f = length-map-range_with_len (atom_at universe 2) 0 (tuples_of universe 2) in
      omega (arith, a, b, c, d, e, f)

  numbers_count : length all_numbers ≡ visible
  numbers_count =
      let whole = length-append (flat_map time_numbers times) (map declared_number (declared_atoms signature valid)) in
      let timed = joined_count own time_numbers own_count times in
      let others = length_map declared_number (declared_atoms signature valid) in
      let seen = visible_is in
      let held = tuples_pair 0 fluent_sort time_sort (row_is signature valid 0 (omega arith)) in
      let released = tuples_pair 1 fluent_sort time_sort (row_is signature valid 1 (omega arith)) in
      let happening = tuples_pair 2 event_sort time_sort (row_is signature valid 2 (omega arith)) in
      product (length fluents) (length events) (length times) (size_of (extent_at universe fluent_sort)) (size_of (extent_at universe event_sort)) (size_of (extent_at universe time_sort))
      (domain_length (extent_at universe fluent_sort)) (domain_length (extent_at universe event_sort)) (domain_length (extent_at universe time_sort)) whole timed others seen held released happening
    where
      product : (f e t x y z : ℕ) → f ≡ x → e ≡ y → t ≡ z → length all_numbers ≡ length (flat_map time_numbers times) + length (map declared_number (declared_atoms signature valid)) → length (flat_map time_numbers times) ≡ t * (f + f + e)
          → length (map declared_number (declared_atoms signature valid)) ≡ length (declared_atoms signature valid) → visible ≡ tuples_of universe 0 + (tuples_of universe 1 + (tuples_of universe 2 + length (declared_atoms signature valid)))
          → tuples_of universe 0 ≡ x * z → tuples_of universe 1 ≡ x * z → tuples_of universe 2 ≡ y * z → length all_numbers ≡ visible
      product f e t x y z a b c whole timed others seen held released happening =
          let spread : t * (f + f + e) ≡ f * t + f * t + e * t = omega arith in
          let one : f * t ≡ x * z = rw (a, c) refl in
          let two : e * t ≡ y * z = rw (b, c) refl in
          omega (arith, whole, timed, others, seen, held, released, happening, spread, one, two)

  -- ---- the slots

  pub atoms_known : All (λ k. k < visible) (slot_atoms (slots_of signature))
  atoms_known = subst (λ xs. All (λ k. k < visible) xs) (sym atoms_are) (All-from_recursion (λ k. k < visible) all_numbers all_below)

  pub atoms_once : AllPairs (λ j k. j ≢ k) (slot_atoms (slots_of signature))
  atoms_once = subst (λ xs. AllPairs (λ j k. j ≢ k) xs) (sym atoms_are) (all_pairs (λ j k. j ≢ k) all_numbers all_apart)

  pub atoms_each : (k : ℕ) → k < visible → Contains (slot_atoms (slots_of signature)) k
  atoms_each k h = subst (λ xs. Contains xs k) (sym atoms_are) (all_there all_numbers visible all_apart (All-from_recursion (λ j. j < visible) all_numbers all_below) numbers_count k h)
