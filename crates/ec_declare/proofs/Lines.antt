-- No line of ancestors is longer than the sorts are many.
use Rattle.std.proofs.Common.{◌≡◌, ℕ, zero, suc, ◌+◌, ◌-◌, ◌≤◌, Bool, true, false, true≢false, not, ◌&&◌, ◌||◌, List, [], ◌∷◌, length, Option, Some, None, refl, sym, ap, subst, ◌∙◌, arith}
use Rattle.std.proofs.lemmas.List.{length-map}
use Rattle.std.proofs.lemmas.Map.Made.{length-le_from_is_member}
use Rattle.std.specs.List.{list_all, list_any, AllByRecursion, IsDistinct}
use Rattle.std.specs.Cmp.Lexicographic.{bytes_decides, nat_list_eq_equiv}
use Rattle.std.specs.Str.{bytes_eq}
use Rattle.ec_names.specs.Names.{Names, descends, has_parent, is_among, is_own_ancestor, is_reified_sort, parent_in, parent_of, place_of, sort_name, sort_words}
use Rattle.ec_declare.specs.Faults.{is_known}
use Rattle.ec_declare.proofs.Facts.{parent_ok, sort_ok}
use Rattle.ec_declare.proofs.Places.{IsFound, is-found, named-among, swapped}
use Rattle.ec_declare.proofs.Deciding.{all-at, and-first, and-last, and-true, not-true, or-first, or-last}

-- a sort and its ancestors within so many steps
abbrev pub line : Names → ℕ → Option (List ℕ) → List (List ℕ)
line names k None = []
line names zero (Some r) = r ∷ []
line names (suc k) (Some r) = r ∷ line names k (parent_of names r)

abbrev pub is : List ℕ → List ℕ → Bool
is s r = bytes_eq r s

or-false : (b : Bool) → (b || false) ≡ b
or-false true = refl
or-false false = refl

descends-by : (names : Names) (k : ℕ) (s : List ℕ) (o : Option (List ℕ)) → ((r : List ℕ) → descends names k r s ≡ list_any (is s) (line names k (Some r))) → has_parent (λ p. descends names k p s) o ≡ list_any (is s) (line names k o)
descends-by names k s None rest = refl
descends-by names k s (Some p) rest = rest p

pub descends-line : (names : Names) (k : ℕ) (r s : List ℕ) → descends names k r s ≡ list_any (is s) (line names k (Some r))
descends-line names zero r s = sym (or-false (bytes_eq r s))
descends-line names (suc k) r s = ap (λ b. bytes_eq r s || b) (descends-by names k s (parent_of names r) (λ p. descends-line names k p s))

or-grows : (b c d : Bool) → (c ≡ true → d ≡ true) → (b || c) ≡ true → (b || d) ≡ true
or-grows true c d grows h = refl
or-grows false c d grows h = grows h

longer : (names : Names) (t : List ℕ → Bool) (k : ℕ) (o : Option (List ℕ)) → list_any t (line names k o) ≡ true → list_any t (line names (suc k) o) ≡ true
longer names t k None h = absurd (true≢false (sym h))
longer names t zero (Some r) h = or-grows (t r) false (list_any t (line names zero (parent_of names r))) (λ f. absurd (true≢false (sym f))) h
longer names t (suc k) (Some r) h = or-grows (t r) (list_any t (line names k (parent_of names r))) (list_any t (line names (suc k) (parent_of names r))) (longer names t k (parent_of names r)) h

decided : (b : Bool) → (b ≡ true → ⊥) → b ≡ false
decided true h = absurd (h refl)
decided false h = refl

shorter : (names : Names) (t : List ℕ → Bool) (j k n : ℕ) (o : Option (List ℕ)) → n ≡ j + k → list_any t (line names n o) ≡ false → list_any t (line names k o) ≡ false
shorter names t zero k n o is h = subst (λ m. list_any t (line names m o) ≡ false) (let e : n ≡ k = omega (arith, is) in e) h
shorter names t (suc j) k n o is h =
    let e : n ≡ suc (j + k) = omega (arith, is) in
    let before : list_any t (line names (j + k) o) ≡ false = decided (list_any t (line names (j + k) o)) (λ some. true≢false (sym (longer names t (j + k) o some) ∙ subst (λ m. list_any t (line names m o) ≡ false) e h)) in
    shorter names t j k (j + k) o refl before

-- a line that finds in its last step alone is as long as it can be
whole : (names : Names) (t : List ℕ → Bool) (k : ℕ) (o : Option (List ℕ)) → list_any t (line names (suc k) o) ≡ true → list_any t (line names k o) ≡ false → length (line names (suc k) o) ≡ suc (suc k)
whole names t k None some none = absurd (true≢false (sym some))
whole names t zero (Some r) some none = two (parent_of names r) (or-first (t r) false none) some
  where
    two : (o : Option (List ℕ)) → t r ≡ false → (t r || list_any t (line names zero o)) ≡ true → suc (length (line names zero o)) ≡ 2
    two None other h = absurd (true≢false (sym h ∙ or-false (t r) ∙ other))
    two (Some p) other h = refl
whole names t (suc k) (Some r) some none =
    let here = or-first (t r) (list_any t (line names k (parent_of names r))) none in
    let rest = or-last (t r) (list_any t (line names k (parent_of names r))) none in
    ap suc (whole names t k (parent_of names r) (ap (λ b. b || list_any t (line names (suc k) (parent_of names r))) (sym here) ∙ some) rest)

all-apart : (r : List ℕ) (xs : List (List ℕ)) → list_any (is r) xs ≡ false → AllByRecursion (λ y. bytes_eq r y ≡ false) xs
all-apart r [] h = tt
all-apart r (x ∷ xs) h = (swapped x r (or-first (bytes_eq x r) (list_any (is r) xs) h), all-apart r xs (or-last (bytes_eq x r) (list_any (is r) xs) h))

member-by : (b : Bool) (p : List ℕ → Bool) (q x : List ℕ) (c : Bool) → bytes_eq q x ≡ b → p x ≡ true → (b || c) ≡ true → (c ≡ true → p q ≡ true) → p q ≡ true
member-by true p q x c is px there rest = ap p ((bytes_decides q x).0 is) ∙ px
member-by false p q x c is px there rest = rest there

all-member : (p : List ℕ → Bool) (q : List ℕ) (xs : List (List ℕ)) → list_all p xs ≡ true → is_among q xs ≡ true → p q ≡ true
all-member p q [] all there = absurd (true≢false (sym there))
all-member p q (x ∷ xs) all there = member-by (bytes_eq q x) p q x (is_among q xs) refl (and-first (p x) (list_all p xs) all) there (all-member p q xs (and-last (p x) (list_all p xs) all))

not-suc-le : (m : ℕ) → suc (suc m) ≤ suc m → ⊥
not-suc-le m h = absurd (omega (arith, h))

-- ---- where no sort is its own ancestor

module _ (names : Names) (ok : list_all (sort_ok names) names.sorts ≡ true) where
  known-item : (w : List ℕ) → is_known names w ≡ true → IsFound sort_name names.sorts w
  known-item w known = is-found sort_name names.sorts w known

  item-ok : (w : List ℕ) (known : is_known names w ≡ true) → sort_ok names (known-item w known).item ≡ true
  item-ok w known = let f = known-item w known in all-at (sort_ok names) names.sorts (place_of sort_name names.sorts w) f.item ok f.there

  pub not-own : (w : List ℕ) → is_known names w ≡ true → is_own_ancestor names w ≡ false
  not-own w known =
      let f = known-item w known in
      not-true (is_own_ancestor names w) (and-first (not (is_own_ancestor names w)) (parent_ok names f.item.parent) (ap (λ v. not (is_own_ancestor names v) && parent_ok names f.item.parent) (sym f.has_name) ∙ item-ok w known))

  pub parent-ok : (w : List ℕ) → is_known names w ≡ true → parent_ok names (parent_of names w) ≡ true
  parent-ok w known =
      let f = known-item w known in
      ap (λ o. parent_ok names (parent_in o)) f.found ∙ and-last (not (is_own_ancestor names f.item.name)) (parent_ok names f.item.parent) (item-ok w known)

  abbrev is_known_option : Option (List ℕ) → Bool
  is_known_option None = true
  is_known_option (Some r) = is_known names r

  known-parent : (o : Option (List ℕ)) → parent_ok names o ≡ true → is_known_option o ≡ true
  known-parent None h = refl
  known-parent (Some p) h = and-first (is_known names p) (not (is_reified_sort p)) h

  known-next : (r : List ℕ) → is_known names r ≡ true → is_known_option (parent_of names r) ≡ true
  known-next r known = known-parent (parent_of names r) (parent-ok r known)

  known-line : (k : ℕ) (o : Option (List ℕ)) → is_known_option o ≡ true → list_all (is_known names) (line names k o) ≡ true
  known-line k None h = refl
  known-line zero (Some r) h = and-true (is_known names r) true h refl
  known-line (suc k) (Some r) h = and-true (is_known names r) (list_all (is_known names) (line names k (parent_of names r))) h (known-line k (parent_of names r) (known-next r h))

  not-in-line : (k : ℕ) (r : List ℕ) → k ≤ length names.sorts → is_known names r ≡ true → list_any (is r) (line names k (parent_of names r)) ≡ false
  not-in-line k r few known =
      let n = length names.sorts in
      let own = sym (descends-by names n r (parent_of names r) (λ p. descends-line names n p r)) ∙ not-own r known in
      shorter names (is r) (n - k) k n (parent_of names r) (omega (arith, few)) own

  distinct-line : (k : ℕ) (o : Option (List ℕ)) → k ≤ suc (length names.sorts) → is_known_option o ≡ true → IsDistinct bytes_eq (line names k o)
  unfolding IsDistinct
  distinct-line k None few h = tt
  distinct-line zero (Some r) few h = (tt, tt)
  distinct-line (suc k) (Some r) few h =
      let less : k ≤ length names.sorts = omega (arith, few) in
      (all-apart r (line names k (parent_of names r)) (not-in-line k r less h), distinct-line k (parent_of names r) (omega (arith, few)) (known-next r h))

  few-line : (k : ℕ) (o : Option (List ℕ)) → k ≤ suc (length names.sorts) → is_known_option o ≡ true → length (line names k o) ≤ length names.sorts
  few-line k o few h =
      let most = length-le_from_is_member nat_list_eq_equiv (line names k o) (sort_words names) (distinct-line k o few h)
      (λ q there. sym (named-among sort_name names.sorts q) ∙ all-member (is_known names) q (line names k o) (known-line k o h) there) in
      let words = length-map names.sorts sort_name in
      omega (arith, most, words)

  -- one step more finds no more
  pub fuel : (m : ℕ) (p s : List ℕ) → length names.sorts ≡ suc m → is_known names p ≡ true → descends names m p s ≡ descends names (suc m) p s
  fuel m p s size known = descends-line names m p s ∙ by (list_any (is s) (line names m (Some p))) refl ∙ sym (descends-line names (suc m) p s)
    where
      by : (b : Bool) → list_any (is s) (line names m (Some p)) ≡ b → list_any (is s) (line names m (Some p)) ≡ list_any (is s) (line names (suc m) (Some p))
      by true some = some ∙ sym (longer names (is s) m (Some p) some)
      by false none = none ∙ sym (decided (list_any (is s) (line names (suc m) (Some p))) (λ some.
          let long = whole names (is s) m (Some p) some none in
          let few = few-line (suc m) (Some p) (omega (arith, size)) known in
          not-suc-le m (omega (arith, long, few, size))))
