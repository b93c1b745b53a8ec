-- A place of a head is in range where each binder keeps it.
use Rattle.std.proofs.Common.{◌≡◌, ◌∙◌, ℕ, zero, suc, ◌+◌, ◌==◌, ◌<◌, ◌≤◌, Bool, true, List, [], ◌∷◌, ◌++◌, length, append_assoc, ℤ, pos, Option, Some, None, unwrap_or, slice_get, is_none, if◌then◌else◌, refl, sym, ap, arith}
use Rattle.std.proofs.lemmas.Bool.Decides.{nat_tests}
use Rattle.std.proofs.lemmas.List.{length-append}
use Rattle.std.proofs.lemmas.Option.{slice_get_past}
use Rattle.ec_logic.specs.Tree.{Term, variable, int, constant, event, fluent, sum, difference, product, Terms, no_terms, term}
use Rattle.ec_logic.specs.Extent.{in_range}
use Rattle.ec_logic.specs.Universe.{Universe, extent_at, place_of}
use Rattle.ec_logic.specs.Value.{value, values}
use Rattle.ec_logic.specs.Place.{nearer, innermost, innermost_of, is_at, place_in_range}
use Rattle.ec_logic.specs.Bound.{fixed_in_range}
use Rattle.ec_logic.proofs.Tests.{test_cases}

-- each binder, of these values the innermost first, passes a test of its places; `pad` stands for the binders below, whose values aren't asked
abbrev pub AllKeep : (List ℤ → ℕ → Bool) → List ℤ → List ℤ → Type 0
AllKeep keep pad [] = Unit {0}
AllKeep keep pad (v ∷ x) = (keep (pad ++ v ∷ x) (length pad) ≡ true) × AllKeep keep (pos 0 ∷ pad) x

pub keep_parts : (k l : List ℤ → ℕ → Bool) → ((e : List ℤ) (d : ℕ) → k e d ≡ true → l e d ≡ true) → (pad x : List ℤ) → AllKeep k pad x → AllKeep l pad x
keep_parts k l h pad [] a = tt
keep_parts k l h pad (v ∷ x) a = (h (pad ++ v ∷ x) (length pad) a.0, keep_parts k l h (pos 0 ∷ pad) x a.1)

pub keep_under : (k : List ℤ → ℕ → Bool) (pad x : List ℤ) → AllKeep (λ e d. k (pos 0 ∷ e) (suc d)) pad x → AllKeep k (pos 0 ∷ pad) x
keep_under k pad [] a = tt
keep_under k pad (v ∷ x) a = (a.0, keep_under k (pos 0 ∷ pad) x a.1)

-- ---- a term's value, by the variables that it has

-- no variable is below a number
abbrev pub Reaches : ℕ → Option ℕ → Type 0
Reaches d None = Unit {0}
Reaches d (Some k) = d ≤ k

-- each is below a number
abbrev pub Below : ℕ → Option ℕ → Type 0
Below d None = Unit {0}
Below d (Some k) = k < d

reaches_parts : (d : ℕ) (a b : Option ℕ) → Reaches d (nearer a b) → Reaches d a × Reaches d b
reaches_parts d None b r = (tt, r)
reaches_parts d (Some a) None r = (r, tt)
reaches_parts d (Some a) (Some b) r = (omega (arith, r), omega (arith, r))

reaches_at : (d : ℕ) (o : Option ℕ) → is_at d o ≡ true → Reaches d o
reaches_at d None h = tt
reaches_at d (Some k) h = grind (arith, nat_tests)

-- two environments agree from a variable on
abbrev Agree : ℕ → List ℤ → List ℤ → Type 0
Agree d x y = (k : ℕ) → d ≤ k → slice_get x k ≡ slice_get y k

module _ (universe : Universe) (d : ℕ) (x y : List ℤ) (agree : Agree d x y) where
  mutual
    value_agrees : (t : Term) → Reaches d (innermost t) → value universe x t ≡ value universe y t
    value_agrees (variable k) r = ap (λ o. unwrap_or o (pos 0)) (agree k r)
    value_agrees (int z) r = refl
    value_agrees (constant c) r = refl
    value_agrees (event e ts) r = ap (place_of universe universe.events e) (values_agree ts r)
    value_agrees (fluent e ts) r = ap (place_of universe universe.fluents e) (values_agree ts r)
    value_agrees (sum a b) r = let both = reaches_parts d (innermost a) (innermost b) r in rw (value_agrees a both.0, value_agrees b both.1) refl
    value_agrees (difference a b) r = let both = reaches_parts d (innermost a) (innermost b) r in rw (value_agrees a both.0, value_agrees b both.1) refl
    value_agrees (product a b) r = let both = reaches_parts d (innermost a) (innermost b) r in rw (value_agrees a both.0, value_agrees b both.1) refl

    values_agree : (ts : Terms) → Reaches d (innermost_of ts) → values universe x ts ≡ values universe y ts
    values_agree no_terms r = refl
    values_agree (term t ts) r = let both = reaches_parts d (innermost t) (innermost_of ts) r in rw (value_agrees t both.0, values_agree ts both.1) refl

behind : (front pad env : List ℤ) (k : ℕ) → length front ≡ length pad → length pad ≤ k → slice_get (front ++ env) k ≡ slice_get (pad ++ env) k
behind [] [] env k e l = refl
behind [] (p ∷ pad) env k e l = absurd (omega (arith, e))
behind (f ∷ front) [] env k e l = absurd (omega (arith, e))
behind (f ∷ front) (p ∷ pad) env zero e l = absurd (omega (arith, l))
behind (f ∷ front) (p ∷ pad) env (suc k) e l = behind front pad env k (omega (arith, e)) (omega (arith, l))

-- a term without variables has one value
pub fixed_value : (universe : Universe) (x : List ℤ) (t : Term) → innermost t ≡ None → value universe x t ≡ value universe [] t
fixed_value universe x t h =
    let r : Reaches (length x) (innermost t) = rw h tt in
    value_agrees universe (length x) x [] (λ k l. slice_get_past x k l ∙ sym (slice_get_past [] k (omega arith))) t r

-- ---- places

module _ (universe : Universe) (s : ℕ) (t : Term) where
  value_any_pad : (front pad env : List ℤ) → length front ≡ length pad → Reaches (length pad) (innermost t) → value universe (front ++ env) t ≡ value universe (pad ++ env) t
  value_any_pad front pad env e r = value_agrees universe (length pad) (front ++ env) (pad ++ env) (λ k l. behind front pad env k e l) t r

  -- a place with a variable is in range where each binder keeps it
  pub place_kept : (k : ℕ) (front pad x : List ℤ) → innermost t ≡ Some k → length front ≡ length pad → length pad ≤ k → k < length pad + length x → AllKeep (λ e d. place_in_range universe e d s t) pad x → in_range (extent_at universe s) (value universe (front ++ x) t) ≡ true
  place_kept k front pad [] i e l u a = absurd (omega (arith, l, u))
  place_kept k front pad (v ∷ x) i e l u a = test_cases (in_range (extent_at universe s) (value universe (front ++ v ∷ x) t) ≡ true) (k == length pad)
      (λ h.
      let here-is : is_at (length pad) (innermost t) ≡ true = rw i h in
      let here : in_range (extent_at universe s) (value universe (pad ++ v ∷ x) t) ≡ true = rw here-is at a.0 in
      let same = value_any_pad front pad (v ∷ x) e (reaches_at (length pad) (innermost t) here-is) in
      rw same here)
      (λ h.
      let more = place_kept k (front ++ v ∷ []) (pos 0 ∷ pad) x i (omega (arith, length-append front (v ∷ []), e)) (grind (arith, nat_tests, l, h)) (omega (arith, u)) a.1 in
      rw (append_assoc front (v ∷ []) x) at more)

pub below_nearer : (d : ℕ) (a b : Option ℕ) → Below d a → Below d b → Below d (nearer a b)
below_nearer d None b h k = k
below_nearer d (Some a) None h k = h
below_nearer d (Some a) (Some b) h k = omega (arith, h, k)

-- a place of a term is in range, with a variable or without
pub place_holds : (universe : Universe) (s : ℕ) (t : Term) (x : List ℤ) → Below (length x) (innermost t) → fixed_in_range universe s t ≡ true → AllKeep (λ e d. place_in_range universe e d s t) [] x → in_range (extent_at universe s) (value universe x t) ≡ true
place_holds universe s t x b f a = by_place (innermost t) refl b f
  where
    by_place : (o : Option ℕ) → innermost t ≡ o → Below (length x) o → (if is_none o then in_range (extent_at universe s) (value universe [] t) else true) ≡ true → in_range (extent_at universe s) (value universe x t) ≡ true
    by_place None i b f = rw (fixed_value universe x t i) f
    by_place (Some k) i b f = place_kept universe s t k [] [] x i refl (omega arith) (omega (arith, b)) a
