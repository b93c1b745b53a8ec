-- A walk from a sort to its ancestors.
use Rattle.std.proofs.Common.{◌≡◌, ℕ, zero, suc, ◌+◌, ◌-◌, ◌<◌, ◌==◌, true, false, Some, None, refl, arith}
use Rattle.ec_logic.specs.Signature.{Signature, parent_of, descends}

pub descends_found : (signature : Signature) (k r s : ℕ) → (r == s) ≡ true → descends signature k r s ≡ true
descends_found signature zero r s h = h
descends_found signature (suc k) r s h = rw h refl

pub descends_ends : (signature : Signature) (n i r s : ℕ) → i < n → (r == s) ≡ false → parent_of signature r ≡ None → descends signature (n - i) r s ≡ false
descends_ends signature n i r s l h e = let k : n - i ≡ suc (n - (i + 1)) = omega arith in rw (k, h, e) refl

pub descends_next : (signature : Signature) (n i r s p : ℕ) → i < n → (r == s) ≡ false → parent_of signature r ≡ Some p → descends signature (n - i) r s ≡ descends signature (n - (i + 1)) p s
descends_next signature n i r s p l h e = let k : n - i ≡ suc (n - (i + 1)) = omega arith in rw (k, h, e) refl

pub descends_last : (signature : Signature) (n i r s : ℕ) → n ≡ i → descends signature (n - i) r s ≡ (r == s)
descends_last signature n i r s e = let k : n - i ≡ 0 = omega arith in rw k refl
