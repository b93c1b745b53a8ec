-- The whole lines at the front of a text.
use Rattle.std.proofs.Common.{◌≡◌, ◌≢◌, ℕ, suc, ◌+◌, ◌-◌, ◌≤◌, ◌==◌, inl, inr, Bool, true, false, if◌then◌else◌, List, [], ◌∷◌, ◌++◌, length, take, Option, Some, None, option_map, refl, ap, sym, subst, ◌∙◌, arith, append_assoc}
use Rattle.std.proofs.lemmas.Bool.{eq-eqb}
use Rattle.std.proofs.Math.Seq.{take-append_seam}
use Rattle.std.proofs.lemmas.List.{length-append}
use Rattle.ec_edge.specs.Lines.{cut_line}
use Rattle.ec_logic.specs.Narrative.{line}
use Rattle.ec_listing.specs.Reading.{AreLines, line_count}
use Rattle.ec_listing.proofs.TextLines.{HasNoEnd, line_text}
use Rattle.ec_narr.proofs.NextLemmas.{count_append, count_line}
use Rattle.ec_evidence.specs.Steps.{IsCut}

abbrev pair : List ℕ → List ℕ → List ℕ × List ℕ
pair a b = (a, b)

not_ten : (b : ℕ) → b == 10 ≡ false → b ≢ 10
not_ten b other is = let clash : true ≡ false = sym (eq-eqb b 10 is) ∙ other in cc

-- what isn't cut has no line's end
pub uncut : (bytes : List ℕ) → cut_line bytes ≡ None → HasNoEnd bytes
uncut [] e = tt
uncut (b ∷ bytes) e = by_test (b == 10) refl (cut_line bytes) (uncut bytes) e
  where
    by_test : (test : Bool) → b == 10 ≡ test → (o : Option (List ℕ × List ℕ)) → (o ≡ None → HasNoEnd bytes) → (if test then Some (pair [] bytes) else option_map (λ (p : List ℕ × List ℕ). pair (b ∷ p.0) p.1) o) ≡ None → HasNoEnd (b ∷ bytes)
    by_test true t o more e = cc
    by_test false t None more e = (not_ten b t, more refl)
    by_test false t (Some p) more e = cc

-- what stands before a cut has none
pub before_cut : (bytes front rest : List ℕ) → cut_line bytes ≡ Some (pair front rest) → HasNoEnd front
before_cut [] front rest e = cc
before_cut (b ∷ bytes) front rest e = by_test (b == 10) refl (cut_line bytes) (λ a r. before_cut bytes a r) e
  where
    by_test : (test : Bool) → b == 10 ≡ test → (o : Option (List ℕ × List ℕ)) → ((a r : List ℕ) → o ≡ Some (pair a r) → HasNoEnd a) → (if test then Some (pair [] bytes) else option_map (λ (p : List ℕ × List ℕ). pair (b ∷ p.0) p.1) o) ≡ Some (pair front rest) → HasNoEnd front
    by_test true t o more e = let parts : pair [] bytes ≡ pair front rest = cc in subst HasNoEnd (ap (λ (q : List ℕ × List ℕ). q.0) parts) tt
    by_test false t None more e = cc
    by_test false t (Some p) more e = let parts : pair (b ∷ p.0) p.1 ≡ pair front rest = cc in subst HasNoEnd (ap (λ (q : List ℕ × List ℕ). q.0) parts) (not_ten b t, more p.0 p.1 refl)

-- So many whole lines are passed, and this is left.
pub record IsPassing (text rest : List ℕ) (count : ℕ) : Type 0 where
  pub front : List ℕ
  pub parts : text ≡ front ++ rest
  pub whole : AreLines front
  pub counted : count ≡ line_count front
  pub few : count + length rest ≤ length text

pub none_passed : (text : List ℕ) → IsPassing text text 0
none_passed text = record { front = []; parts = refl; whole = inl refl; counted = refl; few = omega arith }

pub one_passed : (text rest front after : List ℕ) (count : ℕ) → cut_line rest ≡ Some (pair front after) → rest ≡ front ++ 10 ∷ after → IsPassing text rest count → IsPassing text after (count + 1)
one_passed text rest front after count cut is h = record {
  front = h.front ++ line front;
  parts = h.parts ∙ (ap (λ r. h.front ++ r) is ∙ (ap (λ r. h.front ++ r) (sym (append_assoc front (10 ∷ []) after)) ∙ sym (append_assoc h.front (line front) after)));
  whole = inr (h.front ++ front, sym (append_assoc h.front front (10 ∷ [])));
  counted = let one = count_line front (line_text front (before_cut rest front after cut)) in let both = count_append h.front (line front) in let old = h.counted in omega (arith, one, both, old);
  few = let long : length rest ≡ length front + suc (length after) = ap length is ∙ length-append front (10 ∷ after) in omega (arith, long, h.few);
}

pub all_passed : (text rest front : List ℕ) (count : ℕ) → cut_line rest ≡ None → front ≡ take (length text - length rest) text → IsPassing text rest count → IsCut text front count
all_passed text rest front count cut is h =
    let long : length text ≡ length h.front + length rest = ap length h.parts ∙ length-append h.front rest in
    let place : length text - length rest ≡ length h.front = omega (arith, long) in
    let same : front ≡ h.front = is ∙ (ap (λ n. take n text) place ∙ (ap (take (length h.front)) h.parts ∙ take-append_seam h.front rest)) in
    subst (λ f. IsCut text f count) (sym same) (record { begun = rest; parts = h.parts; whole = h.whole; one = line_text rest (uncut rest cut); counted = h.counted })
