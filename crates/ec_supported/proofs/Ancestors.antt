-- A sort within one that is within another is within that one. Walks are bounded by the number of sorts, since a shortest walk meets no sort twice.
use Rattle.std.proofs.Common.{◌≡◌, ◌∙◌, ℕ, zero, suc, ◌+◌, ◌-◌, ◌<◌, ◌==◌, true, false, List, [], ◌∷◌, length, Option, None, Some, slice_get, refl, sym, ap, subst, arith}
use Rattle.std.specs.List.{list_any, IsDistinct, AllByRecursion}
use Rattle.std.proofs.Math.Dec.{eqb}
use Rattle.std.proofs.lemmas.Option.{slice_get_within}
use Rattle.std.proofs.lemmas.Map.Steps.{length-le_from_distinct_below}
use Rattle.ec_logic.specs.Signature.{Signature, SortRow, parent_of, has_parent, descends, is_within}
use Rattle.ec_logic.specs.Valid.{IsSignature}
use Rattle.ec_logic.proofs.Tests.{same_number, or_cases, or_left, or_right, test_cases}

module _ (signature : Signature) where
  itself : (k r s : ℕ) → (r == s) ≡ true → descends signature k r s ≡ true
  itself zero r s h = h
  itself (suc k) r s h = or_left (r == s) (has_parent (λ parent. descends signature k parent s) (parent_of signature r)) h

  onward : (k r p s : ℕ) → parent_of signature r ≡ Some p → descends signature k p s ≡ true → descends signature (suc k) r s ≡ true
  onward k r p s e h = or_right (r == s) (has_parent (λ parent. descends signature k parent s) (parent_of signature r)) (ap (has_parent (λ parent. descends signature k parent s)) e ∙ h)

  -- a parent from which the walk goes on
  pub record GoesOn (k r s : ℕ) : Type 0 where
    pub parent : ℕ
    pub is : parent_of signature r ≡ Some parent
    pub above : descends signature k parent s ≡ true

  pub goes_on : (k r s : ℕ) → (r == s) ≡ false → descends signature (suc k) r s ≡ true → GoesOn k r s
  goes_on k r s e h = by_parent (parent_of signature r) refl (rw e at h)
    where
      by_parent : (o : Option ℕ) → parent_of signature r ≡ o → has_parent (λ parent. descends signature k parent s) o ≡ true → GoesOn k r s
      by_parent None f g = cc
      by_parent (Some p) f g = record { parent = p; is = f; above = g }

  more : (k r s : ℕ) → descends signature k r s ≡ true → descends signature (suc k) r s ≡ true
  more zero r s h = itself 1 r s h
  more (suc k) r s h =
      test_cases (descends signature (suc (suc k)) r s ≡ true) (r == s) (λ e. itself (suc (suc k)) r s e)
      (λ e. let on = goes_on k r s e h in onward (suc k) r on.parent s on.is (more k on.parent s on.above))

  far : (d k m r s : ℕ) → m ≡ d + k → descends signature k r s ≡ true → descends signature m r s ≡ true
  far zero k m r s e h = let same : m ≡ k = omega arith in rw same h
  far (suc d) k m r s e h = let next : m ≡ suc (d + k) = omega arith in rw next (more (d + k) r s (far d k (d + k) r s refl h))

  join : (a m r b c : ℕ) → descends signature a r b ≡ true → descends signature m b c ≡ true → descends signature (a + m) r c ≡ true
  join zero m r b c h g = let same : r ≡ b = same_number r b h in rw same (far 0 m (0 + m) b c refl g)
  join (suc a) m r b c h g =
      let n : suc a + m ≡ suc (a + m) = omega arith in
      rw n (test_cases (descends signature (suc (a + m)) r c ≡ true) (r == b)
      (λ e. let same : r ≡ b = same_number r b e in rw same (far (suc a) m (suc (a + m)) b c (omega arith) g))
      (λ e. let on = goes_on a r b e h in onward (a + m) r on.parent c on.is (join a m on.parent b c on.above g)))

  -- ---- a shortest walk

  abbrev then_parents : (ℕ → List ℕ) → Option ℕ → List ℕ
  then_parents f None = []
  then_parents f (Some p) = f p

  -- the sorts that are met in so many steps
  abbrev path : ℕ → ℕ → List ℕ
  path zero r = r ∷ []
  path (suc k) r = r ∷ then_parents (path k) (parent_of signature r)

  module _ (s : ℕ) where
    -- no walk of fewer steps finds it
    abbrev IsShortest : ℕ → ℕ → Type 0
    IsShortest zero r = Unit {0}
    IsShortest (suc k) r = descends signature k r s ≡ false

    differs : (k r : ℕ) → descends signature k r s ≡ false → (r == s) ≡ false
    differs k r h = test_cases ((r == s) ≡ false) (r == s) (λ e. let t = itself k r s e in cc) (λ e. e)

    shortest_above : (k r p : ℕ) → parent_of signature r ≡ Some p → descends signature k r s ≡ false → IsShortest k p
    shortest_above zero r p e h = tt
    shortest_above (suc k) r p e h = test_cases (descends signature k p s ≡ false) (descends signature k p s) (λ t. let u = onward k r p s e t in cc) (λ f. f)

    path_on : (k r : ℕ) (on : GoesOn k r s) → path (suc k) r ≡ r ∷ path k on.parent
    path_on k r on = ap (λ o. r ∷ then_parents (path k) o) on.is

    path_length : (k r : ℕ) → descends signature k r s ≡ true → IsShortest k r → length (path k r) ≡ suc k
    path_length zero r h short = refl
    path_length (suc k) r h short =
        let on = goes_on k r s (differs k r short) h in
        ap length (path_on k r on) ∙ ap suc (path_length k on.parent on.above (shortest_above k r on.parent on.is short))

    finds : (k r y : ℕ) → descends signature k r s ≡ true → IsShortest k r → list_any (eqb y) (path k r) ≡ true → descends signature k y s ≡ true
    finds zero r y h short f = or_cases (descends signature zero y s ≡ true) (y == r) false (λ e. let same : y ≡ r = same_number y r e in rw same h) (λ e. cc) f
    finds (suc k) r y h short f =
        let on = goes_on k r s (differs k r short) h in
        let g : list_any (eqb y) (r ∷ path k on.parent) ≡ true = ap (list_any (eqb y)) (sym (path_on k r on)) ∙ f in
        or_cases (descends signature (suc k) y s ≡ true) (y == r) (list_any (eqb y) (path k on.parent)) (λ e. let same : y ≡ r = same_number y r e in rw same h)
        (λ e. more k y s (finds k on.parent y on.above (shortest_above k r on.parent on.is short) e)) g

    none_same : (y : ℕ) (xs : List ℕ) → list_any (eqb y) xs ≡ false → AllByRecursion (λ x. eqb y x ≡ false) xs
    none_same y [] h = tt
    none_same y (x ∷ xs) h =
        test_cases (AllByRecursion (λ z. eqb y z ≡ false) (x ∷ xs)) (eqb y x) (λ e. let t = or_left (eqb y x) (list_any (eqb y) xs) e in cc)
        (λ e. let rest : list_any (eqb y) xs ≡ false = rw e at h in (e, none_same y xs rest))

    distinct : (k r : ℕ) → descends signature k r s ≡ true → IsShortest k r → IsDistinct eqb (path k r)
    unfolding IsDistinct
    distinct zero r h short = (tt, tt)
    distinct (suc k) r h short =
        let on = goes_on k r s (differs k r short) h in
        let above = shortest_above k r on.parent on.is short in
        let fresh : list_any (eqb r) (path k on.parent) ≡ false = test_cases (list_any (eqb r) (path k on.parent) ≡ false) (list_any (eqb r) (path k on.parent)) (λ e. let t = finds k on.parent r on.above above e in cc) (λ e. e) in
        let P : List ℕ → Type 0 = λ xs. IsDistinct eqb xs in
        subst P (sym (path_on k r on)) (none_same r (path k on.parent) fresh, distinct k on.parent on.above above)

  child_known : (r p : ℕ) → parent_of signature r ≡ Some p → r < length signature.sorts
  child_known r p h = by_row (slice_get signature.sorts r) refl h
    where
      by_row : (o : Option SortRow) → slice_get signature.sorts r ≡ o → parent_of signature r ≡ Some p → r < length signature.sorts
      by_row None e f = let none : None ≡ Some p = rw e at f in cc
      by_row (Some row) e f = slice_get_within signature.sorts r row e

module _ (signature : Signature) (valid : IsSignature signature) where
  above_known : (q : ℕ) (xs : ℕ → List ℕ) → ((p : ℕ) → p < length signature.sorts → list_any (eqb q) (xs p) ≡ true → q < length signature.sorts) → (o : Option ℕ) → ((p : ℕ) → o ≡ Some p → p < length signature.sorts) → list_any (eqb q) (then_parents signature xs o) ≡ true → q < length signature.sorts
  above_known q xs known None l g = cc
  above_known q xs known (Some p) l g = known p (l p refl) g

  path_known : (k r q : ℕ) → r < length signature.sorts → list_any (eqb q) (path signature k r) ≡ true → q < length signature.sorts
  path_known zero r q l f = or_cases (q < length signature.sorts) (q == r) false (λ e. let same : q ≡ r = same_number q r e in rw same l) (λ e. cc) f
  path_known (suc k) r q l f =
      or_cases (q < length signature.sorts) (q == r) (list_any (eqb q) (then_parents signature (path signature k) (parent_of signature r))) (λ e. let same : q ≡ r = same_number q r e in rw same l)
      (above_known q (path signature k) (λ p m g. path_known k p q m g) (parent_of signature r) (valid.known_sorts.parents r)) f

  -- a walk that finds a sort has found it within as many steps as there are sorts
  pub in_time : (k r s : ℕ) → descends signature k r s ≡ true → is_within signature r s ≡ true
  in_time zero r s h = far signature (length signature.sorts) 0 (length signature.sorts) r s (omega arith) h
  in_time (suc k) r s h =
      test_cases (is_within signature r s ≡ true) (descends signature k r s) (λ e. in_time k r s e)
      (λ e.
      let on = goes_on signature k r s (differs signature s k r e) h in
      let known = child_known signature r on.parent on.is in
      let few = length-le_from_distinct_below (path signature (suc k) r) (length signature.sorts) (distinct signature s (suc k) r h e) (λ q f. path_known (suc k) r q known f) in
      let long = path_length signature s (suc k) r h e in
      far signature (length signature.sorts - suc k) (suc k) (length signature.sorts) r s (omega (arith, few, long)) h)

  pub within_within : (r b c : ℕ) → is_within signature r b ≡ true → is_within signature b c ≡ true → is_within signature r c ≡ true
  within_within r b c h g = in_time (length signature.sorts + length signature.sorts) r c (join signature (length signature.sorts) (length signature.sorts) r b c h g)
