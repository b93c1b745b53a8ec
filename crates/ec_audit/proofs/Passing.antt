-- Truths that are passed one after another.
use Rattle.std.proofs.Common.{◌≡◌, ℕ, zero, suc, ◌+◌, ◌<◌, ◌≤◌, List, [], ◌∷◌, ◌++◌, length, take, drop, get_or, Bool, ap, sym, subst, ◌∙◌, arith}
use Rattle.std.proofs.Math.Seq.{take-length}
use Rattle.std.specs.List.{AllByRecursion}
use Rattle.std.proofs.lemmas.List.{length-take-le}
use Rattle.ec_logic.specs.Theory.{Theory}
use Rattle.ec_logic.specs.Listing.{IsTruth}
use Rattle.ec_audit.specs.Firsts.{IsFirstFailing, FailsAt}
use Rattle.ec_audit.specs.declared.first.Failing.{Failing}

module _ {A : Type 0} (P : A → Type 0) where
  -- what holds of all holds at a place
  pub each_at : (xs : List A) (k : ℕ) (x : A) → k < length xs → x ≡ get_or xs k x → AllByRecursion P xs → P x
  each_at [] k x lt e h = absurd (let no : k < 0 → ⊥ = omega arith in no lt)
  each_at (y ∷ xs) zero x lt e h = subst P (sym e) h.0
  each_at (y ∷ xs) (suc k) x lt e h = let less : k < length xs = omega (arith, lt) in each_at xs k x less e h.1

  -- one more has passed
  pub pass_more : (xs : List A) (k : ℕ) (x : A) → k < length xs → x ≡ get_or xs k x → P x → AllByRecursion P (take k xs) → AllByRecursion P (take (suc k) xs)
  pass_more [] k x lt e p h = absurd (let no : k < 0 → ⊥ = omega arith in no lt)
  pass_more (y ∷ xs) zero x lt e p h = (subst P e p, tt)
  pass_more (y ∷ xs) (suc k) x lt e p h = let less : k < length xs = omega (arith, lt) in (h.0, pass_more xs k x less e p h.1)

  pub all_passed : (xs : List A) (k : ℕ) → k ≡ length xs → AllByRecursion P (take k xs) → AllByRecursion P xs
  all_passed xs k e h = subst (AllByRecursion P) (ap (λ n. take n xs) e ∙ take-length xs) h

  pub parted : (xs : List A) (k : ℕ) (x : A) → k < length xs → x ≡ get_or xs k x → xs ≡ take k xs ++ x ∷ drop (suc k) xs
  parted [] k x lt e = absurd (let no : k < 0 → ⊥ = omega arith in no lt)
  parted (y ∷ xs) zero x lt e = ap (λ z. z ∷ xs) (sym e)
  parted (y ∷ xs) (suc k) x lt e = let less : k < length xs = omega (arith, lt) in ap (λ zs. y ∷ zs) (parted xs k x less e)

pub first_failing : (theory : Theory) (truths : List (List Bool)) (k : ℕ) (truth : List Bool) (failing : Failing) → k < length truths → truth ≡ get_or truths k truth
    → AllByRecursion (IsTruth theory) (take k truths) → FailsAt theory truth (k + 1) failing → IsFirstFailing theory truths failing
first_failing theory truths k truth failing lt e passed fails =
    let le : k ≤ length truths = omega (arith, lt) in
    record {
      before = take k truths;
      truth = truth;
      after = drop (suc k) truths;
      parts = parted (λ (t : List Bool). Unit {0}) truths k truth lt e;
      passed = passed;
      fails = subst (λ n. FailsAt theory truth (n + 1) failing) (sym (length-take-le k truths le)) fails;
    }
