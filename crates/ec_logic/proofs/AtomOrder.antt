-- The order of the predicates' atoms, place by place.
use Rattle.std.proofs.Common.{◌≡◌, ℕ, zero, suc, ◌+◌, ◌-◌, ◌<◌, ◌≤◌, ◌==◌, nat_lt, Bool, true, false, if◌then◌else◌, List, [], ◌∷◌, ◌++◌, length, take, get_or, refl, sym, ap, ◌∙◌, arith}
use Rattle.std.specs.List.{range_with_len}
use Rattle.std.proofs.lemmas.Bool.Decides.{nat_tests}
use Rattle.std.proofs.lemmas.List.{length-append, take_more, take_all}
use Rattle.std.proofs.lemmas.List.FromFn.{length-range_with_len, get_or-range_with_len}
use Rattle.ec_logic.specs.Universe.{Universe}
use Rattle.ec_logic.specs.Atom.{tuples_of, declared, visible_predicates, predicates_in_order, atoms_before}
use Rattle.ec_logic.specs.Total.{total}
use Rattle.ec_logic.proofs.Numbering.{total-append}

-- the predicate at a place of the order, where there are so many
abbrev pub predicate_at : ℕ → ℕ → ℕ
predicate_at count place = if nat_lt place 3 then place else (if nat_lt place (count - 3) then place + 3 else place + 6 - count)

-- the place of a predicate in the order
abbrev pub place_in_order : ℕ → ℕ → ℕ
place_in_order count p = if nat_lt p 3 then p else (if nat_lt p 6 then count - 6 + p else p - 3)

module _ (universe : Universe) (many : 6 ≤ length universe.predicates) where
  abbrev n : ℕ
  n = length universe.predicates

  abbrev order : List ℕ
  order = predicates_in_order universe

  declared_count : length (declared universe) ≡ n - 6
  declared_count = length-range_with_len 6 (n - 6)

  pub visible_length : length (visible_predicates universe) ≡ n - 3
  visible_length = let d = declared_count in let e : length (visible_predicates universe) ≡ suc (suc (suc (length (declared universe)))) = refl in omega arith

  pub order_length : length order ≡ n
  order_length = let d = visible_length in let e = length-append (visible_predicates universe) (3 ∷ 4 ∷ 5 ∷ []) in omega arith

  later_at : (j : ℕ) → suc (suc (suc j)) < n → get_or (declared universe ++ 3 ∷ 4 ∷ 5 ∷ []) j 0 ≡ predicate_at n (suc (suc (suc j)))
  later_at j h = by_order (nat_lt (suc (suc (suc j))) (n - 3)) refl
    where
      far : nat_lt (suc (suc (suc j))) 3 ≡ false
      far = grind (arith, nat_tests)

      tail_at : (k : ℕ) → k < 3 → get_or (3 ∷ 4 ∷ 5 ∷ []) k 0 ≡ 3 + k
      tail_at zero l = refl
      tail_at (suc zero) l = refl
      tail_at (suc (suc zero)) l = refl
      tail_at (suc (suc (suc k))) l = absurd (omega (arith, l))

      front : (xs : List ℕ) (k : ℕ) → k < length xs → get_or (xs ++ 3 ∷ 4 ∷ 5 ∷ []) k 0 ≡ get_or xs k 0
      front [] k l = absurd (omega (arith, l))
      front (x ∷ xs) zero l = refl
      front (x ∷ xs) (suc k) l = front xs k (omega (arith, l))

      by_order : (b : Bool) → nat_lt (suc (suc (suc j))) (n - 3) ≡ b → get_or (declared universe ++ 3 ∷ 4 ∷ 5 ∷ []) j 0 ≡ predicate_at n (suc (suc (suc j)))
      by_order true e =
          let low : j < n - 6 = grind (arith, nat_tests) in
          let d = declared_count in
          let within : j < length (declared universe) = omega arith in
          rw (far, e) (front (declared universe) j within ∙ (get_or-range_with_len 6 (n - 6) j 0 low ∙ omega arith))
      by_order false e =
          let high : n - 6 ≤ j = grind (arith, nat_tests) in
          let d = declared_count in
          let k = j - (n - 6) in
          let s : j ≡ length (declared universe) + k = omega arith in
          let last = tail_at k (omega (arith, h, high)) in
          rw (far, e) (ap (λ i. get_or (declared universe ++ 3 ∷ 4 ∷ 5 ∷ []) i 0) s ∙ (right k ∙ (last ∙ omega (arith, high))))
        where
          right : (k : ℕ) → get_or (declared universe ++ 3 ∷ 4 ∷ 5 ∷ []) (length (declared universe) + k) 0 ≡ get_or (3 ∷ 4 ∷ 5 ∷ []) k 0
          right k = past (declared universe) k
            where
              past : (xs : List ℕ) (k : ℕ) → get_or (xs ++ 3 ∷ 4 ∷ 5 ∷ []) (length xs + k) 0 ≡ get_or (3 ∷ 4 ∷ 5 ∷ []) k 0
              past [] k = let z : 0 + k ≡ k = omega arith in rw z refl
              past (x ∷ xs) k = let z : suc (length xs) + k ≡ suc (length xs + k) = omega arith in rw z (past xs k)

  pub order_at : (i : ℕ) → i < n → get_or order i 0 ≡ predicate_at n i
  order_at zero h = refl
  order_at (suc zero) h = refl
  order_at (suc (suc zero)) h = refl
  order_at (suc (suc (suc j))) h = later_at j h

  pub total_next : (i : ℕ) → i < n → total universe (take (i + 1) order) ≡ total universe (take i order) + tuples_of universe (predicate_at n i)
  total_next i h =
      let l = order_length in
      rw (take_more order i 0 (omega arith), total-append universe (take i order) (get_or order i 0 ∷ []), order_at i h) (omega arith)

  pub total_all : total universe (take n order) ≡ total universe order
  total_all = ap (total universe) (take_all n order (let l = order_length in omega arith))

  front_of : (xs ys : List ℕ) → take (length xs) (xs ++ ys) ≡ xs
  front_of [] ys = refl
  front_of (x ∷ xs) ys = ap (λ zs. x ∷ zs) (front_of xs ys)

  pub total_visible : total universe (take (n - 3) order) ≡ total universe (visible_predicates universe)
  total_visible = ap (total universe) (ap (λ k. take k order) (sym visible_length) ∙ front_of (visible_predicates universe) (3 ∷ 4 ∷ 5 ∷ []))

  -- ---- the atoms before a predicate's

  none_of : (from k p : ℕ) (rest : List ℕ) → p < from → atoms_before universe (range_with_len from k ++ rest) p ≡ total universe (range_with_len from k) + atoms_before universe rest p
  none_of from zero p rest h = omega arith
  none_of from (suc k) p rest h =
      let other : (from == p) ≡ false = grind (arith, nat_tests) in
      let later = none_of (from + 1) k p rest (omega (arith, h)) in
      rw other (omega (arith, later))

  one_of : (from k j : ℕ) (rest : List ℕ) → j < k → atoms_before universe (range_with_len from k ++ rest) (from + j) ≡ total universe (take j (range_with_len from k ++ rest))
  one_of from zero j rest h = absurd (omega (arith, h))
  one_of from (suc k) zero rest h = let same : (from == from + 0) ≡ true = grind (arith, nat_tests) in rw same refl
  one_of from (suc k) (suc j) rest h =
      let other : (from == from + suc j) ≡ false = grind (arith, nat_tests) in
      let s : from + suc j ≡ from + 1 + j = omega arith in
      rw other (ap (λ x. tuples_of universe from + x) (ap (λ p. atoms_before universe (range_with_len (from + 1) k ++ rest) p) s ∙ one_of (from + 1) k j rest (omega (arith, h))))

  total_to_tail : (k : ℕ) → k ≤ 3 → total universe (take (n - 6 + k) (declared universe ++ 3 ∷ 4 ∷ 5 ∷ [])) ≡ total universe (declared universe) + total universe (take k (3 ∷ 4 ∷ 5 ∷ []))
  total_to_tail k h = ap (λ m. total universe (take (m + k) (declared universe ++ 3 ∷ 4 ∷ 5 ∷ []))) (sym declared_count) ∙ along (declared universe)
    where
      along : (xs : List ℕ) → total universe (take (length xs + k) (xs ++ 3 ∷ 4 ∷ 5 ∷ [])) ≡ total universe xs + total universe (take k (3 ∷ 4 ∷ 5 ∷ []))
      along [] = let z : 0 + k ≡ k = omega arith in rw z (omega arith)
      along (x ∷ xs) = let z : suc (length xs) + k ≡ suc (length xs + k) = omega arith in let l = along xs in rw z (omega (arith, l))

  effect_first : (k : ℕ) → k < 3 → atoms_before universe (3 ∷ 4 ∷ 5 ∷ []) (3 + k) ≡ total universe (take k (3 ∷ 4 ∷ 5 ∷ [])) → atoms_before universe (declared universe ++ 3 ∷ 4 ∷ 5 ∷ []) (3 + k) ≡ total universe (take (n - 6 + k) (declared universe ++ 3 ∷ 4 ∷ 5 ∷ []))
  effect_first k h e = none_of 6 (n - 6) (3 + k) (3 ∷ 4 ∷ 5 ∷ []) (omega (arith, h)) ∙ (ap (λ x. total universe (declared universe) + x) e ∙ sym (total_to_tail k (omega (arith, h))))

  -- after the first three
  past_three : (p m : ℕ) → p ≡ suc (suc (suc 0)) + m → (0 == p) ≡ false → (1 == p) ≡ false → (2 == p) ≡ false → (k : ℕ) → atoms_before universe (declared universe ++ 3 ∷ 4 ∷ 5 ∷ []) p ≡ total universe (take k (declared universe ++ 3 ∷ 4 ∷ 5 ∷ []))
      → atoms_before universe order p ≡ total universe (take (suc (suc (suc k))) order)
  past_three p m s a b c k e = rw (a, b, c, e) refl

  pub first_is : (p : ℕ) → p < n → atoms_before universe order p ≡ total universe (take (place_in_order n p) order)
  first_is zero h = refl
  first_is (suc zero) h = refl
  first_is (suc (suc zero)) h = refl
  first_is (suc (suc (suc zero))) h =
      let s : n - 6 + 3 ≡ suc (suc (suc (n - 6 + 0))) = omega arith in
      past_three 3 0 refl refl refl refl (n - 6 + 0) (effect_first 0 (omega arith) refl) ∙ ap (λ k. total universe (take k order)) (sym s)
  first_is (suc (suc (suc (suc zero)))) h =
      let s : n - 6 + 4 ≡ suc (suc (suc (n - 6 + 1))) = omega arith in
      past_three 4 1 refl refl refl refl (n - 6 + 1) (effect_first 1 (omega arith) refl) ∙ ap (λ k. total universe (take k order)) (sym s)
  first_is (suc (suc (suc (suc (suc zero))))) h =
      let s : n - 6 + 5 ≡ suc (suc (suc (n - 6 + 2))) = omega arith in
      past_three 5 2 refl refl refl refl (n - 6 + 2) (effect_first 2 (omega arith) refl) ∙ ap (λ k. total universe (take k order)) (sym s)
  first_is (suc (suc (suc (suc (suc (suc j)))))) h =
      let p = suc (suc (suc (suc (suc (suc j))))) in
      let place : place_in_order n p ≡ suc (suc (suc j)) = grind (arith, nat_tests) in
      let a : (0 == p) ≡ false = grind (arith, nat_tests) in
      let b : (1 == p) ≡ false = grind (arith, nat_tests) in
      let c : (2 == p) ≡ false = grind (arith, nat_tests) in
      let s : 6 + j ≡ p = omega arith in
      let e = rw s at (one_of 6 (n - 6) j (3 ∷ 4 ∷ 5 ∷ []) (omega (arith, h))) in
      past_three p (suc (suc (suc j))) (omega arith) a b c j e ∙ ap (λ k. total universe (take k order)) (sym place)

  pub total_within : (i : ℕ) → total universe (take i order) ≤ total universe order
  total_within i = shorter order i
    where
      shorter : (xs : List ℕ) (i : ℕ) → total universe (take i xs) ≤ total universe xs
      shorter [] zero = omega arith
      shorter [] (suc i) = omega arith
      shorter (x ∷ xs) zero = omega arith
      shorter (x ∷ xs) (suc i) = let l = shorter xs i in omega (arith, l)
