-- The digits of a truth, four truth values at a time, and the clause that forbids it, one literal at a time.
use Rattle.std.proofs.Common.{◌*◌, length-drop, ◌≡◌, ℕ, suc, ◌+◌, ◌<◌, Bool, false, not, List, [], ◌∷◌, ◌++◌, Some, length, drop, slice_get, refl, sym, ap, ◌∙◌, append_assoc, arith}
use Rattle.std.proofs.Math.Seq.{drop-cons}
use Rattle.std.proofs.lemmas.List.{get_or-drop, drop-drop}
use Rattle.std.proofs.lemmas.Option.{get_or_from_slice_get}
use Rattle.ec_clause.specs.Literal.{Literal}
use Rattle.ec_log.specs.Digits.{bit, digits_of}
use Rattle.ec_certificate.specs.Accepted.{forbids, forbids_from}
use Rattle.ec_checking.specs.Digits.{digit_from}

chunk : (bits : List Bool) → 0 < length bits → digits_of bits ≡ digit_from bits 0 ∷ digits_of (drop 4 bits)
chunk [] some = absurd (omega (arith, some))
chunk (a ∷ []) some = refl
chunk (a ∷ b ∷ []) some = refl
chunk (a ∷ b ∷ c ∷ []) some = refl
chunk (a ∷ b ∷ c ∷ d ∷ bits) some = refl

digit-drop : (bits : List Bool) (place : ℕ) → digit_from (drop place bits) 0 ≡ digit_from bits place
digit-drop bits place =
    let first : place + 0 ≡ place = omega arith in
    rw (get_or-drop place bits 0 false, get_or-drop place bits 1 false, get_or-drop place bits 2 false, get_or-drop place bits 3 false, first) refl

-- one digit more
pub digits-more : (bits : List Bool) (done done' : List ℕ) (digit group : ℕ) → done ++ digits_of (drop (4 * group) bits) ≡ digits_of bits → 4 * group < length bits → digit ≡ digit_from bits (4 * group) → done' ≡ done ++ digit ∷ []
    → done' ++ digits_of (drop (4 * (group + 1)) bits) ≡ digits_of bits
digits-more bits done done' digit group so_far lt is more =
    let place = 4 * group in
    let some : 0 < length (drop (4 * group) bits) = omega (arith, length-drop (4 * group) bits, lt) in
    let next : drop 4 (drop (4 * group) bits) ≡ drop (4 * (group + 1)) bits = drop-drop 4 (4 * group) bits ∙ ap (λ n. drop n bits) (omega arith) in
    let head : digits_of (drop (4 * group) bits) ≡ digit ∷ digits_of (drop (4 * (group + 1)) bits) =
    chunk (drop (4 * group) bits) some ∙ ap (λ d. d ∷ digits_of (drop 4 (drop (4 * group) bits))) (digit-drop bits (4 * group) ∙ sym is) ∙ ap (λ bs. digit ∷ digits_of bs) next in
    ap (λ (ds : List ℕ). ds ++ digits_of (drop (4 * (group + 1)) bits)) more ∙ append_assoc done (digit ∷ []) (digits_of (drop (4 * (group + 1)) bits)) ∙ ap (λ (ds : List ℕ). done ++ ds) (sym head) ∙ so_far

literal-is : (l : Literal) (variable : ℕ) (positive : Bool) → l.variable ≡ variable → l.positive ≡ positive → l ≡ record { variable = variable; positive = positive }
literal-is l variable positive e f = by variable positive e f
  where
    by : (v : ℕ) (p : Bool) → l.variable ≡ v → l.positive ≡ p → l ≡ record { variable = v; positive = p }
    by v p e f = (λ i. record { variable = e i; positive = f i })

-- one literal more
pub forbids-more : (bits : List Bool) (done done' : List Literal) (l : Literal) (bit : Bool) (place : ℕ) → done ++ forbids_from (place + 1) (drop place bits) ≡ forbids bits → slice_get bits place ≡ Some bit → place < length bits
    → l.variable ≡ place + 1 → l.positive ≡ not bit → done' ≡ done ++ l ∷ [] → done' ++ forbids_from (place + 1 + 1) (drop (place + 1) bits) ≡ forbids bits
forbids-more bits done done' l bit place so_far is lt variable positive more =
    let next : suc place ≡ place + 1 = omega arith in
    let rest : drop place bits ≡ bit ∷ drop (place + 1) bits = drop-cons bits place false lt ∙ ap (λ b. b ∷ drop (suc place) bits) (get_or_from_slice_get bits place bit false is) ∙ ap (λ n. bit ∷ drop n bits) next in
    let head : forbids_from (place + 1) (drop place bits) ≡ l ∷ forbids_from (place + 1 + 1) (drop (place + 1) bits) =
    ap (forbids_from (place + 1)) rest ∙ ap (λ k. k ∷ forbids_from (place + 1 + 1) (drop (place + 1) bits)) (sym (literal-is l (place + 1) (not bit) variable positive)) in
    ap (λ (ls : List Literal). ls ++ forbids_from (place + 1 + 1) (drop (place + 1) bits)) more ∙ append_assoc done (l ∷ []) (forbids_from (place + 1 + 1) (drop (place + 1) bits)) ∙ ap (λ (ls : List Literal). done ++ ls) (sym head) ∙ so_far
