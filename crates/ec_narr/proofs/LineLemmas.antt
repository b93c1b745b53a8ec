-- Lines of the places of a domain, one after the other.
use Rattle.std.proofs.Common.{◌≡◌, ℕ, zero, suc, ◌+◌, true, ℤ, pos, List, [], ◌∷◌, ◌++◌, map, filter, refl, sym, ap, ◌∙◌, arith, append_assoc}
use Rattle.std.specs.List.{flat_map, range_with_len}
use Rattle.std.proofs.lemmas.List.{append-nil}
use Rattle.std.proofs.lemmas.List.FromFn.{map-range_with_len_more}
use Rattle.std.proofs.lemmas.Grind.{flat_map-append}
use Rattle.ec_logic.specs.Extent.{members, size_of, domain_of, passing}
use Rattle.ec_logic.specs.Signature.{Signature, event_sort, fluent_sort}
use Rattle.ec_logic.specs.Universe.{universe_of, domain, extent_at}
use Rattle.ec_logic.specs.Valid.{IsSignature}
use Rattle.ec_logic.proofs.Extents.{ground_events, ground_fluents}
use Rattle.ec_logic.proofs.FewAtoms.{event_extent, fluent_extent}

passing_all : (from n : ℕ) → passing (λ k. true) from n ≡ n
passing_all from zero = refl
passing_all from (suc n) = ap suc (passing_all (suc from) n)

filter_all : (xs : List ℕ) → filter (λ k. true) xs ≡ xs
filter_all [] = refl
filter_all (x ∷ xs) = ap (λ ys. x ∷ ys) (filter_all xs)

-- the values of such a sort are the places below its size
members_domain : (count n : ℕ) → n ≡ size_of (members count (λ k. true)) → domain_of (members count (λ k. true)) ≡ map pos (range_with_len 0 n)
members_domain count n e = rw (e, passing_all 0 count, filter_all (range_with_len 0 count)) refl

module _ (signature : Signature) (valid : IsSignature signature) (n : ℕ) where
  pub fluent_domain : n ≡ size_of (extent_at (universe_of signature) fluent_sort) → domain (universe_of signature) fluent_sort ≡ map pos (range_with_len 0 n)
  fluent_domain e = let x = fluent_extent signature valid in ap domain_of x ∙ members_domain (ground_fluents signature) n (e ∙ ap size_of x)

  pub event_domain : n ≡ size_of (extent_at (universe_of signature) event_sort) → domain (universe_of signature) event_sort ≡ map pos (range_with_len 0 n)
  event_domain e = let x = event_extent signature valid in ap domain_of x ∙ members_domain (ground_events signature) n (e ∙ ap size_of x)

module _ {X : Type 0} (value : ℕ → ℤ) (F : ℤ → List X) (old : List X) where
  -- one line more
  pub next_line : (k : ℕ) (out next : List X) → out ≡ old ++ flat_map F (map value (range_with_len 0 k)) → next ≡ out ++ F (value k) → next ≡ old ++ flat_map F (map value (range_with_len 0 (k + 1)))
  next_line k out next e f =
      let more : map value (range_with_len 0 (k + 1)) ≡ map value (range_with_len 0 k) ++ value k ∷ [] = map-range_with_len_more value 0 k k (omega arith) in
      let one : flat_map F (value k ∷ []) ≡ F (value k) = append-nil (F (value k)) in
      f ∙ (ap (λ x. x ++ F (value k)) e ∙ (append_assoc old (flat_map F (map value (range_with_len 0 k))) (F (value k))
      ∙ ap (λ x. old ++ x) (ap (λ x. flat_map F (map value (range_with_len 0 k)) ++ x) (sym one) ∙ (sym (flat_map-append F (map value (range_with_len 0 k)) (value k ∷ [])) ∙ ap (flat_map F) (sym more)))))

  pub last_line : (k n : ℕ) (out : List X) (all : List ℤ) → k ≡ n → all ≡ map value (range_with_len 0 n) → out ≡ old ++ flat_map F (map value (range_with_len 0 k)) → out ≡ old ++ flat_map F all
  last_line k n out all e d f = f ∙ ap (λ xs. old ++ flat_map F xs) (ap (λ m. map value (range_with_len 0 m)) e ∙ sym d)

pub five : (o a b c d e : List ℕ) → o ++ a ++ b ++ c ++ d ++ e ≡ o ++ (a ++ b ++ c ++ d ++ e)
five o a b c d e =
    ap (λ x. x ++ c ++ d ++ e) (append_assoc o a b)
    ∙ (ap (λ x. x ++ d ++ e) (append_assoc o (a ++ b) c)
    ∙ (ap (λ x. x ++ e) (append_assoc o (a ++ b ++ c) d) ∙ append_assoc o (a ++ b ++ c ++ d) e))
