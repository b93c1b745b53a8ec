-- Bytes without an end of a line, and where the first one stands.
use Rattle.std.proofs.Common.{◌≡◌, ◌≢◌, ℕ, zero, suc, ◌+◌, ◌<◌, Bool, true, false, cond, eqb, List, [], ◌∷◌, ◌++◌, length, take, drop, Option, Some, None, option_map, refl, sym, ap, ◌∙◌, arith}
use Rattle.std.specs.Prelude.{MatchOption}
use Rattle.std.proofs.lemmas.Bool.{eqb-true, eq-eqb}
use Rattle.ec_edge.specs.Lines.{cut_line}
use Rattle.ec_log.specs.Collecting.{Unended, EndsAt}

pub Unended-append : (xs ys : List ℕ) → Unended xs → Unended ys → Unended (xs ++ ys)
Unended-append [] ys a b = b
Unended-append (x ∷ xs) ys a b = (a.0, Unended-append xs ys a.1 b)

pub Unended-take : (k : ℕ) (xs : List ℕ) → Unended xs → Unended (take k xs)
Unended-take zero xs a = tt
Unended-take (suc k) [] a = tt
Unended-take (suc k) (x ∷ xs) a = (a.0, Unended-take k xs a.1)

-- bytes that reach past the end of a line have it
pub ended-take : (k : ℕ) (xs ys : List ℕ) → length xs < k → Unended (take k (xs ++ 10 ∷ ys)) → ⊥
ended-take zero xs ys past a = omega arith
ended-take (suc k) [] ys past a = a.0 refl
ended-take (suc k) (x ∷ xs) ys past a = ended-take k xs ys (omega arith) a.1

abbrev pub Parts : Type 0
Parts = List ℕ × List ℕ

abbrev pub parts : List ℕ → List ℕ → Parts
parts a b = (a, b)

abbrev pub with_front : ℕ → Parts → Parts
with_front b p = (b ∷ p.0, p.1)

-- where the bytes are cut is where their first line ends
abbrev pub CutEnds : List ℕ → Option Parts → Type 0
CutEnds bytes o = MatchOption (option_map (λ (p : Parts). length p.0) o) (Unended bytes) (EndsAt bytes)

EndsAt-cons : (b : ℕ) (bytes : List ℕ) (k : ℕ) → b ≢ 10 → EndsAt bytes k → EndsAt (b ∷ bytes) (suc k)
EndsAt-cons b bytes k other h =
    let next : suc k + 1 ≡ suc (k + 1) = omega arith in
    record {
      within = omega (arith, h.within);
      ends = ap (λ (xs : List ℕ). b ∷ xs) h.ends ∙ ap (λ n. b ∷ (take k bytes ++ 10 ∷ drop n (b ∷ bytes))) (sym next);
      unended = (other, h.unended);
    }

cut_step : (b : ℕ) (bytes : List ℕ) (is : Bool) → eqb b 10 ≡ is → (o : Option Parts) → CutEnds bytes o → CutEnds (b ∷ bytes) (cond is (Some (parts [] bytes)) (option_map (with_front b) o))
cut_step b bytes true e o h = record { within = omega arith; ends = ap (λ (x : ℕ). x ∷ bytes) (eqb-true b 10 e); unended = tt }
cut_step b bytes false e None h = (λ is. absurd (let same = sym e ∙ eq-eqb b 10 is in cc), h)
cut_step b bytes false e (Some p) h = EndsAt-cons b bytes (length p.0) (λ is. absurd (let same = sym e ∙ eq-eqb b 10 is in cc)) h

pub cut_ends : (bytes : List ℕ) → CutEnds bytes (cut_line bytes)
cut_ends [] = tt
cut_ends (b ∷ bytes) = cut_step b bytes (eqb b 10) refl (cut_line bytes) (cut_ends bytes)
