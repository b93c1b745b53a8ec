-- The names of a signature: each is plain, and no two are the same.
use Rattle.std.proofs.Common.{◌≡◌, ◌≢◌, ℕ, zero, suc, ◌+◌, ◌<◌, ◌==◌, nat_lt, nat_le, Bool, true, false, not, ◌&&◌, List, [], ◌∷◌, ◌++◌, length, map, slice_get, take, Some, option_map, All, refl, sym, ap, ◌∙◌, arith}
use Rattle.std.specs.Prelude.{AllPairs}
use Rattle.std.specs.List.{list_all}
use Rattle.std.proofs.lemmas.Bool.Decides.{nat_tests}
use Rattle.std.proofs.lemmas.List.{length-append}
use Rattle.std.proofs.lemmas.Option.{slice_get-map, slice_get_within, get_or_from_slice_get}
use Rattle.ec_logic.specs.BuiltIn.{built_in_predicates}
use Rattle.ec_logic.specs.Signature.{Signature, ConstantRow, SymbolRow}
use Rattle.ec_logic.specs.Valid.{IsSignature, is_word_byte, is_upper_word, symbol_names, names_of}
use Rattle.ec_logic.proofs.Tests.{and_parts, test_cases, same_number}
use Rattle.ec_listing.proofs.Decoding.{is_parting, is_plain_text}
use Rattle.ec_listing.proofs.Numerals.{all_weaker}

-- ---- places in lists that are joined

pub place_in_front : {A : Type 0} (xs ys : List A) (k : ℕ) (x : A) → slice_get xs k ≡ Some x → slice_get (xs ++ ys) k ≡ Some x
place_in_front [] ys k x h = cc
place_in_front (y ∷ xs) ys zero x h = h
place_in_front (y ∷ xs) ys (suc k) x h = place_in_front xs ys k x h

pub place_behind : {A : Type 0} (xs ys : List A) (k : ℕ) (x : A) → slice_get ys k ≡ Some x → slice_get (xs ++ ys) (length xs + k) ≡ Some x
place_behind [] ys k x h = let z : 0 + k ≡ k = omega arith in rw z h
place_behind (y ∷ xs) ys k x h = let z : suc (length xs) + k ≡ suc (length xs + k) = omega arith in rw z (place_behind xs ys k x h)

all_at : {A : Type 0} (P : A → Type 0) (xs : List A) → All P xs → (k : ℕ) (x : A) → slice_get xs k ≡ Some x → P x
all_at P xs h k x e = rw (← get_or_from_slice_get xs k x x e) (h k x (slice_get_within xs k x e))

-- the same item of a list whose items differ stands at one place
one_place : (xs : List (List ℕ)) (i j : ℕ) (x : List ℕ) → AllPairs (λ a b. a ≢ b) xs → slice_get xs i ≡ Some x → slice_get xs j ≡ Some x → i ≡ j
one_place xs i j x differ h k = by_order (nat_lt i j) (nat_lt j i) refl refl
  where
    clash : (m n : ℕ) → m < n → slice_get xs m ≡ Some x → slice_get xs n ≡ Some x → ⊥
    clash m n low a b = differ m n x low (slice_get_within xs n x b) (get_or_from_slice_get xs m x x a ∙ sym (get_or_from_slice_get xs n x x b))

    by_order : (s t : Bool) → nat_lt i j ≡ s → nat_lt j i ≡ t → i ≡ j
    by_order true t p q = absurd (clash i j (grind (arith, nat_tests)) h k)
    by_order false true p q = absurd (clash j i (grind (arith, nat_tests)) k h)
    by_order false false p q = grind (arith, nat_tests)

-- ---- names

word_plain : (b : ℕ) → is_word_byte b ≡ true → not (is_parting b) ≡ true
word_plain b h = test_cases (not (is_parting b) ≡ true) (b == 40) (λ e. let s = same_number b 40 e in absurd (no (rw s at h))) (λ e. test_cases (not (is_parting b) ≡ true) (b == 41) (λ f. let s = same_number b 41 f in absurd (no (rw s at h)))
    (λ f. test_cases (not (is_parting b) ≡ true) (b == 44) (λ g. let s = same_number b 44 g in absurd (no (rw s at h))) (λ g. rw (e, f, g) refl)))
  where
    no : false ≡ true → ⊥
    no e = cc

letter_word : (b : ℕ) → nat_le 65 b ≡ true → nat_le b 90 ≡ true → is_word_byte b ≡ true
letter_word b h k = rw (h, k) refl

pub upper_plain : (name : List ℕ) → is_upper_word name ≡ true → is_plain_text name ≡ true
upper_plain [] h = cc
upper_plain (b ∷ bs) h =
    let both = and_parts (nat_le 65 b && nat_le b 90) (list_all is_word_byte bs) h in
    let ends = and_parts (nat_le 65 b) (nat_le b 90) both.0 in
    rw (word_plain b (letter_word b ends.0 ends.1), all_weaker is_word_byte (λ c. not (is_parting c)) word_plain bs both.1) refl

module _ (signature : Signature) (valid : IsSignature signature) where
  abbrev constant_names : List (List ℕ)
  constant_names = map (λ (row : ConstantRow). row.name) signature.constants

  abbrev names : List (List ℕ)
  names = names_of signature

  name_at : (rows : List SymbolRow) (k : ℕ) (row : SymbolRow) → slice_get rows k ≡ Some row → slice_get (symbol_names rows) k ≡ Some row.name
  name_at rows k row h = slice_get-map (λ (r : SymbolRow). r.name) rows k ∙ ap (option_map (λ (r : SymbolRow). r.name)) h

  pub constant_place : (k : ℕ) (row : ConstantRow) → slice_get signature.constants k ≡ Some row → slice_get names k ≡ Some row.name
  constant_place k row h =
      let here : slice_get constant_names k ≡ Some row.name = slice_get-map (λ (r : ConstantRow). r.name) signature.constants k ∙ ap (option_map (λ (r : ConstantRow). r.name)) h in
      place_in_front (constant_names ++ symbol_names signature.events ++ symbol_names signature.fluents) (symbol_names signature.predicates) k row.name
      (place_in_front (constant_names ++ symbol_names signature.events) (symbol_names signature.fluents) k row.name
      (place_in_front constant_names (symbol_names signature.events) k row.name here))

  pub event_place : (k : ℕ) (row : SymbolRow) → slice_get signature.events k ≡ Some row → slice_get names (length constant_names + k) ≡ Some row.name
  event_place k row h =
      place_in_front (constant_names ++ symbol_names signature.events ++ symbol_names signature.fluents) (symbol_names signature.predicates) (length constant_names + k) row.name
      (place_in_front (constant_names ++ symbol_names signature.events) (symbol_names signature.fluents) (length constant_names + k) row.name
      (place_behind constant_names (symbol_names signature.events) k row.name (name_at signature.events k row h)))

  pub fluent_place : (k : ℕ) (row : SymbolRow) → slice_get signature.fluents k ≡ Some row → slice_get names (length (constant_names ++ symbol_names signature.events) + k) ≡ Some row.name
  fluent_place k row h =
      place_in_front (constant_names ++ symbol_names signature.events ++ symbol_names signature.fluents) (symbol_names signature.predicates) (length (constant_names ++ symbol_names signature.events) + k) row.name
      (place_behind (constant_names ++ symbol_names signature.events) (symbol_names signature.fluents) k row.name (name_at signature.fluents k row h))

  pub predicate_place : (k : ℕ) (row : SymbolRow) → slice_get signature.predicates k ≡ Some row → slice_get names (length (constant_names ++ symbol_names signature.events ++ symbol_names signature.fluents) + k) ≡ Some row.name
  predicate_place k row h = place_behind (constant_names ++ symbol_names signature.events ++ symbol_names signature.fluents) (symbol_names signature.predicates) k row.name (name_at signature.predicates k row h)

  -- each name is an upper word
  pub name_upper : (k : ℕ) (name : List ℕ) → slice_get names k ≡ Some name → is_upper_word name ≡ true
  name_upper k name h = all_at (λ n. is_upper_word n ≡ true) names valid.upper_names k name h

  one : (i j : ℕ) (a b : List ℕ) → slice_get names i ≡ Some a → slice_get names j ≡ Some b → a ≡ b → i ≡ j
  one i j a b h k e = one_place names i j a valid.distinct_names h (rw e k)

  pub same_constant : (i j : ℕ) (a b : ConstantRow) → slice_get signature.constants i ≡ Some a → slice_get signature.constants j ≡ Some b → a.name ≡ b.name → i ≡ j
  same_constant i j a b h k e = one i j a.name b.name (constant_place i a h) (constant_place j b k) e

  pub same_event : (i j : ℕ) (a b : SymbolRow) → slice_get signature.events i ≡ Some a → slice_get signature.events j ≡ Some b → a.name ≡ b.name → i ≡ j
  same_event i j a b h k e = let s = one (length constant_names + i) (length constant_names + j) a.name b.name (event_place i a h) (event_place j b k) e in omega (arith, s)

  pub same_fluent : (i j : ℕ) (a b : SymbolRow) → slice_get signature.fluents i ≡ Some a → slice_get signature.fluents j ≡ Some b → a.name ≡ b.name → i ≡ j
  same_fluent i j a b h k e =
      let n = length (constant_names ++ symbol_names signature.events) in
      let s = one (n + i) (n + j) a.name b.name (fluent_place i a h) (fluent_place j b k) e in
      omega (arith, s)

  pub same_predicate : (i j : ℕ) (a b : SymbolRow) → slice_get signature.predicates i ≡ Some a → slice_get signature.predicates j ≡ Some b → a.name ≡ b.name → i ≡ j
  same_predicate i j a b h k e =
      let n = length (constant_names ++ symbol_names signature.events ++ symbol_names signature.fluents) in
      let s = one (n + i) (n + j) a.name b.name (predicate_place i a h) (predicate_place j b k) e in
      omega (arith, s)

  -- no fluent has a predicate's name
  pub no_predicate : (i j : ℕ) (a b : SymbolRow) → slice_get signature.fluents i ≡ Some a → slice_get signature.predicates j ≡ Some b → a.name ≡ b.name → ⊥
  no_predicate i j a b h k e =
      let n = length (constant_names ++ symbol_names signature.events) in
      let count : length (constant_names ++ symbol_names signature.events ++ symbol_names signature.fluents) ≡ n + length (symbol_names signature.fluents) = length-append (constant_names ++ symbol_names signature.events) (symbol_names signature.fluents) in
      let low = slice_get_within (symbol_names signature.fluents) i a.name (name_at signature.fluents i a h) in
      let s = one (n + i) (length (constant_names ++ symbol_names signature.events ++ symbol_names signature.fluents) + j) a.name b.name (fluent_place i a h) (predicate_place j b k) e in
      omega (arith, s, count, low)

  -- ---- the built-in predicates

  in_front : {X : Type 0} (rows : List X) (n k : ℕ) → k < n → slice_get (take n rows) k ≡ slice_get rows k
  in_front rows zero k h = absurd (omega (arith, h))
  in_front [] (suc n) k h = refl
  in_front (row ∷ rows) (suc n) zero h = refl
  in_front (row ∷ rows) (suc n) (suc k) h = in_front rows n k (omega (arith, h))

  pub built_in_at : (k : ℕ) → k < 6 → slice_get signature.predicates k ≡ slice_get built_in_predicates k
  built_in_at k h = sym (in_front signature.predicates 6 k h) ∙ ap (λ rows. slice_get rows k) valid.built_in_first.predicates
