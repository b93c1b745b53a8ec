-- A constant counted at its sort and at each ancestor.
use Rattle.std.proofs.Common.{◌≡◌, ℕ, zero, suc, ◌+◌, ◌-◌, ◌<◌, ◌≤◌, ◌^◌, ◌==◌, Bool, true, false, ◌||◌, List, length, get_or, set, Option, Some, None, slice_get, option_map, if◌then◌else◌, refl, sym, ap, ◌∙◌, arith}
use Rattle.std.proofs.lemmas.List.{get_or-set_same, get_or-set_other, get_or_read}
use Rattle.ec_logic.proofs.Tests.{same_itself, same_number, or_left, test_cases}
use Rattle.ec_logic.specs.Signature.{Signature, SortRow, ConstantRow, parent_of, has_parent, descends, is_within}
use Rattle.ec_logic.specs.Extent.{passing}
use Rattle.ec_logic.specs.Universe.{is_constant_in}
use Rattle.ec_logic.specs.Valid.{IsSignature}
use Rattle.ec_theory.specs.Counts.{one_if, AreCounts}

-- ---- a walk from a sort to its ancestors

module _ (signature : Signature) where
  descends_itself : (k r : ℕ) → descends signature k r r ≡ true
  descends_itself zero r = same_itself r
  descends_itself (suc k) r = or_left (r == r) (has_parent (λ parent. descends signature k parent r) (parent_of signature r)) (same_itself r)

  -- a walk of more steps finds what one of fewer does
  more_above : (k s : ℕ) → ((p : ℕ) → descends signature k p s ≡ true → descends signature (suc k) p s ≡ true) → (o : Option ℕ) → has_parent (λ parent. descends signature k parent s) o ≡ true → has_parent (λ parent. descends signature (suc k) parent s) o ≡ true
  more_above k s more None e = cc
  more_above k s more (Some p) e = more p e

  descends_more : (k r s : ℕ) → descends signature k r s ≡ true → descends signature (suc k) r s ≡ true
  descends_more zero r s h = rw h refl
  descends_more (suc k) r s h = by_first (r == s) refl (more_above k s (λ p e. descends_more k p s e) (parent_of signature r))
    where
      by_first : (b : Bool) → (r == s) ≡ b → (has_parent (λ parent. descends signature k parent s) (parent_of signature r) ≡ true → has_parent (λ parent. descends signature (suc k) parent s) (parent_of signature r) ≡ true) → descends signature (suc (suc k)) r s ≡ true
      by_first true e above = rw e refl
      by_first false e above = let rest : has_parent (λ parent. descends signature k parent s) (parent_of signature r) ≡ true = rw e at h in rw e (above rest)

  descends_far : (d k m r s : ℕ) → m ≡ d + k → descends signature k r s ≡ true → descends signature m r s ≡ true
  descends_far zero k m r s e h = let same : m ≡ k = omega arith in rw same h
  descends_far (suc d) k m r s e h = let next : m ≡ suc (d + k) = omega arith in rw next (descends_more (d + k) r s (descends_far d k (d + k) r s refl h))

  not_within : (k n r s : ℕ) → k ≤ n → descends signature n r s ≡ false → descends signature k r s ≡ false
  not_within k n r s l h = test_cases (descends signature k r s ≡ false) (descends signature k r s) (λ t.
      let f : descends signature n r s ≡ true = descends_far (n - k) k n r s (omega arith) t in
      cc) (λ f. f)

module _ (signature : Signature) (valid : IsSignature signature) where
  -- no walk from a sort's parent comes back to the sort
  no_return : (r p : ℕ) → parent_of signature r ≡ Some p → is_within signature p r ≡ false
  no_return r p h = cases (slice_get signature.sorts r) refl
    where
      cases : (o : Option SortRow) → slice_get signature.sorts r ≡ o → is_within signature p r ≡ false
      cases None e = let none : None ≡ Some p = rw e at h in cc
      cases (Some row) e =
          let parent : row.parent ≡ Some p = rw e at h in
          rw parent at (valid.no_parent_cycle r row e)

  pub parent_known : (r p : ℕ) → parent_of signature r ≡ Some p → p < length signature.sorts
  parent_known r p h = valid.known_sorts.parents r p h

  -- what a walk counts: its first sort, and what is counted from the parent on
  pub walk_on : (n i r s p : ℕ) → n ≡ length signature.sorts → i < n → parent_of signature r ≡ Some p → one_if (descends signature (n - i) r s) ≡ one_if (r == s) + one_if (descends signature (n - (i + 1)) p s)
  walk_on n i r s p e l h = let k : n - i ≡ suc (n - (i + 1)) = omega arith in rw (k, h) (cases (r == s) refl)
    where
      cases : (b : Bool) → (r == s) ≡ b → one_if (b || descends signature (n - (i + 1)) p s) ≡ one_if b + one_if (descends signature (n - (i + 1)) p s)
      cases false t = omega arith
      cases true t =
          let same : r ≡ s = same_number r s t in
          let back : descends signature (n - (i + 1)) p r ≡ false = not_within signature (n - (i + 1)) (length signature.sorts) p r (omega arith) (no_return r p h) in
          let none : descends signature (n - (i + 1)) p s ≡ false = rw same at back in
          rw none refl

module _ (signature : Signature) where
  pub walk_ends : (n i r s : ℕ) → i < n → parent_of signature r ≡ None → one_if (descends signature (n - i) r s) ≡ one_if (r == s)
  walk_ends n i r s l h = let k : n - i ≡ suc (n - (i + 1)) = omega arith in rw (k, h) (cases (r == s))
    where
      cases : (b : Bool) → one_if (b || false) ≡ one_if b
      cases true = refl
      cases false = refl

  pub walk_whole : (n i r s : ℕ) → n ≡ i → one_if (descends signature (n - i) r s) ≡ one_if (r == s)
  walk_whole n i r s e = let k : n - i ≡ 0 = omega arith in rw k refl

  pub walk_counts_first : (k r : ℕ) → one_if (descends signature k r r) ≡ 1
  walk_counts_first k r = rw (descends_itself signature k r) refl

-- one more at one place
pub one_more_at : (counts : List ℕ) (r s n : ℕ) → r < length counts → n ≡ get_or counts r 0 + 1 → get_or (set counts r n) s 0 ≡ get_or counts s 0 + one_if (r == s)
one_more_at counts r s n l e = cases (r == s) refl
  where
    cases : (b : Bool) → (r == s) ≡ b → get_or (set counts r n) s 0 ≡ get_or counts s 0 + one_if b
    cases true t = let same : r ≡ s = same_number r s t in rw (← same) (get_or-set_same counts r n 0 l ∙ e)
    cases false t =
        let other : s ≡ r → ⊥ = λ x. (let y : (r == s) ≡ true = rw x (same_itself r) in cc) in
        get_or-set_other counts r s n 0 other ∙ omega arith

-- one step of the walk: the sort is counted, and the rest of the walk begins at its parent
pub one_step_up : (signature : Signature) (valid : IsSignature signature) (i r p x : ℕ) (counts : List ℕ) (total : ℕ → ℕ) → i < length signature.sorts → parent_of signature r ≡ Some p → r < length counts → x ≡ get_or counts r x
    → ((s : ℕ) → s < length signature.sorts → get_or counts s 0 + one_if (descends signature (length signature.sorts - i) r s) ≡ total s)
    → (s : ℕ) → s < length signature.sorts → get_or (set counts r (x + 1)) s 0 + one_if (descends signature (length signature.sorts - (i + 1)) p s) ≡ total s
one_step_up signature valid i r p x counts total l h k e walk s within =
    let read = get_or_read counts r x k e 0 in
    let more = one_more_at counts r s (x + 1) k (ap (λ n. n + 1) read) in
    let on = walk_on signature valid (length signature.sorts) i r s p refl l h in
    let all = walk s within in
    omega arith

-- the step at a sort without a parent, which ends the walk
pub root_step_up : (signature : Signature) (i r x : ℕ) (counts : List ℕ) (total : ℕ → ℕ) → i < length signature.sorts → parent_of signature r ≡ None → r < length counts → x ≡ get_or counts r x
    → ((s : ℕ) → s < length signature.sorts → get_or counts s 0 + one_if (descends signature (length signature.sorts - i) r s) ≡ total s)
    → (s : ℕ) → s < length signature.sorts → get_or (set counts r (x + 1)) s 0 ≡ total s
root_step_up signature i r x counts total l h k e walk s within =
    let read = get_or_read counts r x k e 0 in
    let more = one_more_at counts r s (x + 1) k (ap (λ n. n + 1) read) in
    let ends = walk_ends signature (length signature.sorts) i r s l h in
    let all = walk s within in
    omega arith

-- the last sort of the walk
pub last_step_up : (signature : Signature) (i r x : ℕ) (counts : List ℕ) (total : ℕ → ℕ) → length signature.sorts ≡ i → r < length counts → x ≡ get_or counts r x
    → ((s : ℕ) → s < length signature.sorts → get_or counts s 0 + one_if (descends signature (length signature.sorts - i) r s) ≡ total s)
    → (s : ℕ) → s < length signature.sorts → get_or (set counts r (x + 1)) s 0 ≡ total s
last_step_up signature i r x counts total l k e walk s within =
    let read = get_or_read counts r x k e 0 in
    let more = one_more_at counts r s (x + 1) k (ap (λ n. n + 1) read) in
    let whole = walk_whole signature (length signature.sorts) i r s l in
    let all = walk s within in
    omega arith

one_if_few : (b : Bool) → one_if b ≤ 1
one_if_few true = omega arith
one_if_few false = omega arith

-- a count on the way is below its limit
pub count_is_small : (signature : Signature) (k r x : ℕ) (before counts : List ℕ) (test : ℕ → Bool) → r < length counts → x ≡ get_or counts r x → get_or before r 0 < 2 ^ 32
    → get_or counts r 0 + one_if (descends signature k r r) ≡ get_or before r 0 + one_if (test r) → x + 1 < 2 ^ 64
count_is_small signature k r x before counts test l e few walk =
    let read = get_or_read counts r x l e 0 in
    let first = walk_counts_first signature k r in
    let most = one_if_few (test r) in
    omega arith

-- ---- the constants one by one

one_step : (b : Bool) (k n : ℕ) → k ≤ n → (if b then suc k else k) ≤ suc n
one_step true k n l = omega arith
one_step false k n l = omega arith

pub passing_few : (test : ℕ → Bool) (from n : ℕ) → passing test from n ≤ n
passing_few test from zero = omega arith
passing_few test from (suc n) = one_step (test from) (passing test (suc from) n) n (passing_few test (suc from) n)

passing_more : (test : ℕ → Bool) (from n k : ℕ) → k ≡ from + n → passing test from (suc n) ≡ passing test from n + one_if (test k)
passing_more test from zero k e = let is : k ≡ from = omega arith in rw is (cases (test from))
  where
    cases : (b : Bool) → (if b then 1 else 0) ≡ 0 + one_if b
    cases true = omega arith
    cases false = omega arith
passing_more test from (suc n) k e = cases (test from) (passing_more test (suc from) n k (omega arith))
  where
    cases : (b : Bool) → passing test (suc from) (suc n) ≡ passing test (suc from) n + one_if (test k) → (if b then suc (passing test (suc from) (suc n)) else passing test (suc from) (suc n)) ≡ (if b then suc (passing test (suc from) n) else passing test (suc from) n) + one_if (test k)
    cases true later = omega (arith, later)
    cases false later = later

module _ (signature : Signature) where
  pub counts_none : (counts : List ℕ) → length counts ≡ length signature.sorts → ((s : ℕ) → s < length signature.sorts → get_or counts s 0 ≡ 0) → AreCounts signature 0 counts
  counts_none counts e zeros = record { each_sort = e; counted = zeros }

  constant_within : (c sort s : ℕ) → option_map (λ (row : ConstantRow). row.sort) (slice_get signature.constants c) ≡ Some sort → is_constant_in signature s c ≡ is_within signature sort s
  constant_within c sort s h = cases (slice_get signature.constants c) refl
    where
      cases : (o : Option ConstantRow) → slice_get signature.constants c ≡ o → is_constant_in signature s c ≡ is_within signature sort s
      cases None e = let none : None ≡ Some sort = rw e at h in cc
      cases (Some row) e = let some : Some row.sort ≡ Some sort = rw e at h in let is : row.sort ≡ sort = cc in rw (e, is) refl

  pub counts_more : (c sort : ℕ) (before after : List ℕ) → AreCounts signature c before → option_map (λ (row : ConstantRow). row.sort) (slice_get signature.constants c) ≡ Some sort → length after ≡ length before → ((s : ℕ) → s < length signature.sorts → get_or after s 0 ≡ get_or before s 0 + one_if (is_within signature sort s)) → AreCounts signature (c + 1) after
  counts_more c sort before after h e l step = record {
    each_sort = l ∙ h.each_sort;
    counted = λ s within.
        let next : c + 1 ≡ suc c = omega arith in
        let is = constant_within c sort s e in
        rw next (step s within ∙ (ap (λ n. n + one_if (is_within signature sort s)) (h.counted s within) ∙ (ap (λ b. passing (is_constant_in signature s) 0 c + one_if b) (sym is) ∙ sym (passing_more (is_constant_in signature s) 0 c c (omega arith)))));
  }

  pub counts_few : (c : ℕ) (counts : List ℕ) → AreCounts signature c counts → (s : ℕ) → s < length signature.sorts → get_or counts s 0 ≤ c
  counts_few c counts h s l = let few = passing_few (is_constant_in signature s) 0 c in let is = h.counted s l in omega arith
