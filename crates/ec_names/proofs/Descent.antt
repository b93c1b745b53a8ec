-- A walk from a sort to its ancestors.
use Rattle.std.proofs.Common.{◌≡◌, ℕ, zero, suc, ◌+◌, ◌-◌, ◌<◌, List, true, false, Some, None, refl, arith}
use Rattle.std.specs.Str.{bytes_eq}
use Rattle.ec_names.specs.Names.{Names, parent_of, descends}

pub descends_found : (names : Names) (k : ℕ) (r s : List ℕ) → bytes_eq r s ≡ true → descends names k r s ≡ true
descends_found names zero r s h = h
descends_found names (suc k) r s h = rw h refl

pub descends_ends : (names : Names) (n i : ℕ) (r s : List ℕ) → i < n → bytes_eq r s ≡ false → parent_of names r ≡ None → descends names (n - i) r s ≡ false
descends_ends names n i r s l h e = let k : n - i ≡ suc (n - (i + 1)) = omega arith in rw (k, h, e) refl

pub descends_next : (names : Names) (n i : ℕ) (r s p : List ℕ) → i < n → bytes_eq r s ≡ false → parent_of names r ≡ Some p → descends names (n - i) r s ≡ descends names (n - (i + 1)) p s
descends_next names n i r s p l h e = let k : n - i ≡ suc (n - (i + 1)) = omega arith in rw (k, h, e) refl

pub descends_last : (names : Names) (n i : ℕ) (r s : List ℕ) → n ≡ i → descends names (n - i) r s ≡ bytes_eq r s
descends_last names n i r s e = let k : n - i ≡ 0 = omega arith in rw k refl
