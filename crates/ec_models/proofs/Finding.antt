-- What is found of all truths are the truths of the theory.
use Rattle.std.proofs.Common.{◌≡◌, ℕ, zero, suc, ◌≤◌, ◌^◌, Bool, true, false, List, [], ◌∷◌, ◌++◌, length, sym, ap, subst, arith, ◌∙◌, append_assoc}
use Rattle.std.specs.List.{AllByRecursion, Contains}
use Rattle.std.proofs.Math.Pow.{pow_mono}
use Rattle.std.proofs.lemmas.List.{length-map}
use Rattle.ec_logic.specs.Universe.{universe_of}
use Rattle.ec_logic.specs.Atom.{GroundAtom, visible_atoms}
use Rattle.ec_logic.specs.Theory.{Theory}
use Rattle.ec_logic.specs.Listing.{Precedes, IsRising, IsTruth, AreTruths}
use Rattle.ec_models.specs.Tried.{all_truths, extended, AreFound, none, found, passed, AreTried}
use Rattle.ec_models.proofs.Rise.{all_rise, each_there, length-all}
use Rattle.ec_models.proofs.Branches.{extended-zero, extended-suc, extended-nil}

module _ (theory : Theory) where
  -- ---- one truth more

  found_more : (truth : List Bool) {tried kept : List (List Bool)} → IsTruth theory truth → AreFound theory tried kept → AreFound theory (tried ++ truth ∷ []) (kept ++ truth ∷ [])
  found_more truth is none = found truth is none
  found_more truth is (found t h more) = found t h (found_more truth is more)
  found_more truth is (passed t h more) = passed t h (found_more truth is more)

  passed_more : (truth : List Bool) {tried kept : List (List Bool)} → (IsTruth theory truth → ⊥) → AreFound theory tried kept → AreFound theory (tried ++ truth ∷ []) kept
  passed_more truth isnt none = passed truth isnt none
  passed_more truth isnt (found t h more) = found t h (passed_more truth isnt more)
  passed_more truth isnt (passed t h more) = passed t h (passed_more truth isnt more)

  pub tried_found : (truth : List Bool) (old : List (List Bool)) → IsTruth theory truth → AreTried theory (truth ∷ []) old (old ++ truth ∷ [])
  tried_found truth old is = record { tried = λ before h. found_more truth is h }

  pub tried_passed : (truth : List Bool) (old : List (List Bool)) → (IsTruth theory truth → ⊥) → AreTried theory (truth ∷ []) old old
  tried_passed truth old isnt = record { tried = λ before h. passed_more truth isnt h }

  -- ---- first with false, then with true

  pub tried_one : (truth : List Bool) (old new : List (List Bool)) → AreTried theory (truth ∷ []) old new → AreTried theory (extended truth 0) old new
  tried_one truth old new h = rw (extended-zero truth) h

  pub tried_both : (truth : List Bool) (n : ℕ) (old middle new : List (List Bool)) → AreTried theory (extended (truth ++ false ∷ []) n) old middle → AreTried theory (extended (truth ++ true ∷ []) n) middle new
      → AreTried theory (extended truth (suc n)) old new
  tried_both truth n old middle new a b = rw (extended-suc truth n) (record {
    tried = λ before h.
        let P : List (List Bool) → Type 0 = λ ts. AreFound theory ts new in
        subst P (append_assoc before (extended (truth ++ false ∷ []) n) (extended (truth ++ true ∷ []) n)) (b.tried (before ++ extended (truth ++ false ∷ []) n) (a.tried before h));
  })

  -- ---- all truths

  pub found_of_all : (n : ℕ) (new : List (List Bool)) → AreTried theory (extended [] n) [] new → AreFound theory (all_truths n) new
  found_of_all n new h =
      let P : List (List Bool) → Type 0 = λ ts. AreFound theory ts new in
      subst P (extended-nil n) (h.tried [] none)

  each_found : {tried kept : List (List Bool)} → AreFound theory tried kept → AllByRecursion (IsTruth theory) kept
  each_found none = tt
  each_found (found t h more) = (h, each_found more)
  each_found (passed t h more) = each_found more

  later_found : (P : List Bool → Type 0) {tried kept : List (List Bool)} → AllByRecursion P tried → AreFound theory tried kept → AllByRecursion P kept
  later_found P all none = tt
  later_found P all (found t h more) = (all.0, later_found P all.1 more)
  later_found P all (passed t h more) = later_found P all.1 more

  found_rise : {tried kept : List (List Bool)} → IsRising tried → AreFound theory tried kept → IsRising kept
  found_rise rise none = tt
  found_rise rise (found t h more) = (later_found (Precedes t) rise.0 more, found_rise rise.1 more)
  found_rise rise (passed t h more) = found_rise rise.1 more

  truth_there : (truth : List Bool) → IsTruth theory truth → {tried kept : List (List Bool)} → Contains tried truth → AreFound theory tried kept → Contains kept truth
  truth_there truth is there none = absurd (omega (arith, there.1))
  truth_there truth is (zero, lt, e) (found t h more) = (0, omega arith, e)
  truth_there truth is (suc k, lt, e) (found t h more) = let rest = truth_there truth is (k, omega (arith, lt), e) more in let below = rest.1 in (suc rest.0, omega (arith, below), rest.2)
  truth_there truth is (zero, lt, e) (passed t h more) = let same : t ≡ truth = e in absurd (h (subst (IsTruth theory) (sym same) is))
  truth_there truth is (suc k, lt, e) (passed t h more) = truth_there truth is (k, omega (arith, lt), e) more

  truth_length : (truth : List Bool) → IsTruth theory truth → length truth ≡ length (visible_atoms (universe_of theory.signature))
  truth_length truth is = ap length (sym is.2) ∙ length-map (visible_atoms (universe_of theory.signature)) (λ (atom : GroundAtom). is.0 atom.predicate atom.args)

  pub truths_are : (new : List (List Bool)) → AreFound theory (all_truths (length (visible_atoms (universe_of theory.signature)))) new → AreTruths theory new
  truths_are new h =
      let n = length (visible_atoms (universe_of theory.signature)) in
      record {
        rising = found_rise (all_rise n) h;
        each = each_found h;
        all = λ truth is. truth_there truth is (each_there n truth (truth_length truth is)) h;
      }

  found_fewer : {tried kept : List (List Bool)} → AreFound theory tried kept → length kept ≤ length tried
  found_fewer none = omega arith
  found_fewer (found t h more) = omega (arith, found_fewer more)
  found_fewer (passed t h more) = omega (arith, found_fewer more)

  pub few_found : (n : ℕ) (new : List (List Bool)) → n ≤ 16 → AreFound theory (all_truths n) new → length new ≤ 2 ^ 16
  few_found n new small h =
      let power : 2 ^ n ≤ 2 ^ 16 = pow_mono small in
      omega (arith, found_fewer h, length-all n, power)
