-- Where a text is cut at a byte is where the crate bstr first finds it, and the laws of such a cut.
use Rattle.std.proofs.Common.{◌≡◌, ◌≢◌, ℕ, zero, suc, ◌+◌, ◌<◌, ◌≤◌, Bool, true, false, cond, eqb, List, [], ◌∷◌, ◌++◌, length, take, drop, Option, Some, None, option_map, refl, sym, ap, subst, ◌∙◌, arith}
use Rattle.std.specs.Prelude.{slice_index, IfSome}
use Rattle.std.specs.List.{AllByRecursion}
use Rattle.std.proofs.lemmas.Bool.{eqb-true, eq-eqb}
use Rattle.bstr.specs.Find.{OccursAt, IsFirst, first_of, matches}
use Rattle.bstr.specs.Text.{SplitsOnce}
use Rattle.memchr.proofs.lemmas.ValueLemmas.{FindsNeedle-value}
use denote.Ref.{Bor}
use Rattle.ec_edge.specs.Lines.{cut_at}

-- the byte stands at the place
abbrev IsAt : ℕ → List ℕ → ℕ → Type 0
IsAt t bytes k = (k + 1 ≤ length bytes) × (slice_index bytes k ≡ t)

IsAt-of : (t : ℕ) (bytes : List ℕ) (k : ℕ) → OccursAt bytes (t ∷ []) k → IsAt t bytes k
IsAt-of t bytes k h =
    let same : k + 0 ≡ k = omega arith in
    (h.fits, subst (λ (n : ℕ). slice_index bytes n ≡ t) same (h.reads 0 (omega arith)))

reads-from : (t : ℕ) (bytes : List ℕ) (k j : ℕ) → IsAt t bytes k → j < 1 → slice_index bytes (k + j) ≡ slice_index (t ∷ []) j
reads-from t bytes k zero h lt =
    let same : k ≡ k + 0 = omega arith in
    subst (λ (n : ℕ). slice_index bytes n ≡ t) same h.1
reads-from t bytes k (suc j) h lt = absurd (omega arith)

OccursAt-of : (t : ℕ) (bytes : List ℕ) (k : ℕ) → IsAt t bytes k → OccursAt bytes (t ∷ []) k
OccursAt-of t bytes k h = record { fits = h.0; reads = λ j lt. reads-from t bytes k j h lt }

-- the place of the first such byte
abbrev place : ℕ → List ℕ → Option ℕ
place t [] = None
place t (b ∷ bytes) = cond (eqb b t) (Some 0) (option_map (λ k. k + 1) (place t bytes))

-- not at the head, so in the tail
IsAt-tail : (t b : ℕ) (bytes : List ℕ) (k : ℕ) → eqb b t ≡ false → IsAt t (b ∷ bytes) k → (j : ℕ) × (k ≡ j + 1) × IsAt t bytes j
IsAt-tail t b bytes zero other h = absurd (let e = sym other ∙ eq-eqb b t h.1 in cc)
IsAt-tail t b bytes (suc j) other h = (j, omega arith, (omega (arith, h.0), h.1))

IsAt-cons : (t b : ℕ) (bytes : List ℕ) (k : ℕ) → IsAt t bytes k → IsAt t (b ∷ bytes) (k + 1)
IsAt-cons t b bytes k h =
    let same : suc k ≡ k + 1 = omega arith in
    (omega (arith, h.0), subst (λ (n : ℕ). slice_index (b ∷ bytes) n ≡ t) same h.1)

step : (t b : ℕ) (bytes : List ℕ) (is : Bool) → eqb b t ≡ is → (r : Option ℕ) → IsFirst (IsAt t bytes) 0 (length bytes + 1) r
    → IsFirst (IsAt t (b ∷ bytes)) 0 (length (b ∷ bytes) + 1) (cond is (Some 0) (option_map (λ k. k + 1) r))
step t b bytes true e r h = (record { low = omega arith; high = omega arith; before = λ k low high there. absurd (omega arith) }, (omega arith, eqb-true b t e))
step t b bytes false e None h = λ k low high there.
    let tail = IsAt-tail t b bytes k e there in
    h tail.0 (omega arith) (omega (arith, tail.1)) tail.2
step t b bytes false e (Some k) h = (
  record {
    low = omega arith;
    high = omega (arith, h.0.high);
    before = λ q low high there.
        let tail = IsAt-tail t b bytes q e there in
        h.0.before tail.0 (omega arith) (omega (arith, tail.1)) tail.2;
  },
  IsAt-cons t b bytes k h.1,
)

finds_byte : (t : ℕ) (bytes : List ℕ) → IsFirst (IsAt t bytes) 0 (length bytes + 1) (place t bytes)
finds_byte t [] = λ k low high there. absurd (omega (arith, there.0))
finds_byte t (b ∷ bytes) = step t b bytes (eqb b t) refl (place t bytes) (finds_byte t bytes)

finds : (t : ℕ) (bytes : List ℕ) (r : Option ℕ) → IsFirst (IsAt t bytes) 0 (length bytes + 1) r → IsFirst (OccursAt bytes (t ∷ [])) 0 (length bytes + 1) r
finds t bytes None h = λ k low high occurs. h k low high (IsAt-of t bytes k occurs)
finds t bytes (Some k) h = (record { low = h.0.low; high = h.0.high; before = λ q low high occurs. h.0.before q low high (IsAt-of t bytes q occurs) }, OccursAt-of t bytes k h.1)

-- where bstr finds it
place-is : (t : ℕ) (bytes : List ℕ) → place t bytes ≡ first_of (matches bytes (t ∷ []) 0)
place-is t bytes = FindsNeedle-value bytes (t ∷ []) (place t bytes) (finds t bytes (place t bytes) (finds_byte t bytes))

abbrev cut_of : List ℕ → ℕ → List ℕ × List ℕ
cut_of bytes k = (take k bytes, drop (k + 1) bytes)

abbrev with_front : ℕ → List ℕ × List ℕ → List ℕ × List ℕ
with_front b p = (b ∷ p.0, p.1)

abbrev parts : Bor (List ℕ) × Bor (List ℕ) → List ℕ × List ℕ
parts p = (p.0.now, p.1.now)

abbrev pair : List ℕ → List ℕ → List ℕ × List ℕ
pair a b = (a, b)

cut_step : (b : ℕ) (bytes : List ℕ) (is : Bool) (r : Option ℕ) → cond is (Some (pair [] bytes)) (option_map (with_front b) (option_map (cut_of bytes) r))
    ≡ option_map (cut_of (b ∷ bytes)) (cond is (Some 0) (option_map (λ k. k + 1) r))
cut_step b bytes true r = refl
cut_step b bytes false None = refl
cut_step b bytes false (Some k) =
    let a : k + 1 ≡ suc k = omega arith in
    let c : k + 1 + 1 ≡ suc (k + 1) = omega arith in
    rw (c, a) refl

cut_at-place : (t : ℕ) (bytes : List ℕ) → cut_at t bytes ≡ option_map (cut_of bytes) (place t bytes)
cut_at-place t [] = refl
cut_at-place t (b ∷ bytes) = ap (λ (o : Option (List ℕ × List ℕ)). cond (eqb b t) (Some (pair [] bytes)) (option_map (with_front b) o)) (cut_at-place t bytes) ∙ cut_step b bytes (eqb b t) (place t bytes)

splits : (t : ℕ) (bytes : List ℕ) (r : Option ℕ) (out : Option (Bor (List ℕ) × Bor (List ℕ))) → SplitsOnce bytes (t ∷ []) r out → option_map parts out ≡ option_map (cut_of bytes) r
splits t bytes r None h = rw h refl
splits t bytes r (Some p) h = rw (h.1, h.2, h.3) refl

-- bstr cuts where the definition does
pub cut_at-is : (t : ℕ) (bytes : List ℕ) (out : Option (Bor (List ℕ) × Bor (List ℕ))) → SplitsOnce bytes (t ∷ []) (first_of (matches bytes (t ∷ []) 0)) out
    → option_map {U = List ℕ × List ℕ} (λ p. (p.0.now, p.1.now)) out ≡ cut_at t bytes
cut_at-is t bytes out h =
    splits t bytes _ out h ∙ ap (λ (r : Option ℕ). option_map (cut_of bytes) r) (sym (place-is t bytes)) ∙ sym (cut_at-place t bytes)

whole_step : (t b : ℕ) (bytes : List ℕ) (is : Bool) → eqb b t ≡ is → (o : Option (List ℕ × List ℕ)) → IfSome o (λ p. bytes ≡ p.0 ++ t ∷ p.1)
    → IfSome (cond is (Some (pair [] bytes)) (option_map (with_front b) o)) (λ p. (b ∷ bytes) ≡ p.0 ++ t ∷ p.1)
whole_step t b bytes true e o h = ap (λ (x : ℕ). x ∷ bytes) (eqb-true b t e)
whole_step t b bytes false e None h = tt
whole_step t b bytes false e (Some p) h = ap (λ (xs : List ℕ). b ∷ xs) h

-- the parts and the byte between them are all of the text
pub cut_at-whole : (t : ℕ) (bytes : List ℕ) → IfSome (cut_at t bytes) (λ p. bytes ≡ p.0 ++ t ∷ p.1)
cut_at-whole t [] = tt
cut_at-whole t (b ∷ bytes) = whole_step t b bytes (eqb b t) refl (cut_at t bytes) (cut_at-whole t bytes)

-- the same of what bstr gives
pub cut_whole : (t : ℕ) (bytes : List ℕ) (out : Option (Bor (List ℕ) × Bor (List ℕ))) → SplitsOnce bytes (t ∷ []) (first_of (matches bytes (t ∷ []) 0)) out
    → IfSome out (λ p. bytes ≡ p.0.now ++ t ∷ p.1.now)
cut_whole t bytes None h = tt
cut_whole t bytes (Some p) h =
    let is : Some (parts p) ≡ cut_at t bytes = cut_at-is t bytes (Some p) h in
    subst (λ (o : Option (List ℕ × List ℕ)). IfSome o (λ q. bytes ≡ q.0 ++ t ∷ q.1)) (sym is) (cut_at-whole t bytes)

step_apart : (t b : ℕ) (bytes : List ℕ) (is : Bool) (o : Option (List ℕ × List ℕ)) → eqb b t ≡ is → b ≢ t → cond is (Some (pair [] bytes)) o ≡ o
step_apart t b bytes true o e apart = absurd (apart (eqb-true b t e))
step_apart t b bytes false o e apart = refl

-- a text without the byte, the byte and more are cut there
pub cut_at-append : (t : ℕ) (front rest : List ℕ) → AllByRecursion (λ b. b ≢ t) front → cut_at t (front ++ t ∷ rest) ≡ Some (pair front rest)
cut_at-append t [] rest apart = ap (λ (is : Bool). cond is (Some (pair [] rest)) (option_map (with_front t) (cut_at t rest))) (eq-eqb t t refl)
cut_at-append t (b ∷ front) rest apart = step_apart t b (front ++ t ∷ rest) (eqb b t) _ refl apart.0 ∙ ap (λ (o : Option (List ℕ × List ℕ)). option_map (with_front b) o) (cut_at-append t front rest apart.1)

-- a text without the byte is not cut
pub cut_at-none : (t : ℕ) (bytes : List ℕ) → AllByRecursion (λ b. b ≢ t) bytes → cut_at t bytes ≡ None
cut_at-none t [] apart = refl
cut_at-none t (b ∷ bytes) apart = step_apart t b bytes (eqb b t) _ refl apart.0 ∙ ap (λ (o : Option (List ℕ × List ℕ)). option_map (with_front b) o) (cut_at-none t bytes apart.1)
