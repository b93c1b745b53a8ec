-- what is computed of a clause under a partial truth is what the words say
use Rattle.std.proofs.Common.{◌≡◌, ◌≢◌, ℕ, zero, suc, ◌<◌, Bool, true, false, cond, List, [], ◌∷◌, Option, Some, None, get_or, length, refl, sym, ap, ◌∙◌, arith, ◌⊎◌, inl, inr}
use Rattle.std.specs.Prelude.{Contains, option_map}
use Rattle.ec_clause.specs.Literal.{Literal}
use Rattle.ec_clause.specs.Truth.{Truth, is_false, unit_literal, false_step, unit_step, literal_value, agree, IsFalse, IsUnit}

pub false_parts : (o : Option Bool) (rest : Bool) → false_step o rest ≡ true → (o ≡ Some false) × (rest ≡ true)
false_parts None rest h = cc
false_parts (Some true) rest h = cc
false_parts (Some false) rest h = (refl, h)

pub unit_parts : (o : Option Bool) (x l : Literal) (rest_false : Bool) (rest : Option Literal) → unit_step o x rest_false rest ≡ Some l → ((o ≡ None) × (rest_false ≡ true) × (x ≡ l)) ⊎ ((o ≡ Some false) × (rest ≡ Some l))
unit_parts None x l true rest h = inl (refl, refl, cc)
unit_parts None x l false rest h = cc
unit_parts (Some true) x l rest_false rest h = cc
unit_parts (Some false) x l rest_false rest h = inr (refl, h)

-- a clause that is computed to be false is false
pub each_false : (p : Truth) (c : List Literal) → is_false p c ≡ true → (k : ℕ) (d : Literal) → k < length c → literal_value p (get_or c k d) ≡ Some false
each_false p [] h k d lt = absurd (omega arith)
each_false p (x ∷ xs) h zero d lt = (false_parts (literal_value p x) (is_false p xs) h).0
each_false p (x ∷ xs) h (suc k) d lt = each_false p xs (false_parts (literal_value p x) (is_false p xs) h).1 k d (omega arith)

-- a false clause is computed to be so
pub false_from : (p : Truth) (c : List Literal) → IsFalse p c → is_false p c ≡ true
false_from p [] h = refl
false_from p (x ∷ xs) h =
    ap (λ o. false_step o (is_false p xs)) (h 0 x (omega arith)) ∙ false_from p xs (λ k d lt. h (suc k) d (omega arith))

others_here : (p : Truth) (x : Literal) (xs : List Literal) → is_false p xs ≡ true → (k : ℕ) (d : Literal) → k < suc (length xs) → k ≢ zero → literal_value p (get_or (x ∷ xs) k d) ≡ Some false
others_here p x xs h zero d lt ne = absurd (ne refl)
others_here p x xs h (suc k) d lt ne = each_false p xs h k d (omega arith)

others_there : (p : Truth) (x l : Literal) (xs : List Literal) → literal_value p x ≡ Some false → (u : IsUnit p xs l) → (k : ℕ) (d : Literal) → k < suc (length xs) → k ≢ suc u.place → literal_value p (get_or (x ∷ xs) k d) ≡ Some false
others_there p x l xs h u zero d lt ne = h
others_there p x l xs h u (suc k) d lt ne = u.others k d (omega arith) (λ e. ne (ap suc e))

-- a clause that is computed to be unit is unit
pub unit_is : (p : Truth) (c : List Literal) (l : Literal) → unit_literal p c ≡ Some l → IsUnit p c l
unit_is p [] l h = cc
unit_is p (x ∷ xs) l h =
    elim (unit_parts (literal_value p x) x l (is_false p xs) (unit_literal p xs) h) [
      | inl w ↦ record {
        place = 0;
        within = omega arith;
        there = w.2;
        no_value = ap (literal_value p) (sym w.2) ∙ w.0;
        others = others_here p x xs w.1;
      }
      | inr w ↦ (
          let rest = unit_is p xs l w.1 in
          record {
            place = suc rest.place;
            within = omega (arith, rest.within);
            there = rest.there;
            no_value = rest.no_value;
            others = others_there p x l xs w.0 rest;
          })
    ]

unit_at : (p : Truth) (c : List Literal) (l : Literal) (place : ℕ) → place < length c → get_or c place l ≡ l → literal_value p l ≡ None → ((k : ℕ) (d : Literal) → k < length c → k ≢ place → literal_value p (get_or c k d) ≡ Some false) → unit_literal p c ≡ Some l
unit_at p [] l place lt there none others = absurd (omega arith)
unit_at p (x ∷ xs) l zero lt there none others =
    let rest : is_false p xs ≡ true = false_from p xs (λ k d lt'. others (suc k) d (omega arith) (omega arith)) in
    let open' : literal_value p x ≡ None = ap (literal_value p) there ∙ none in
    ap (λ o. unit_step o x (is_false p xs) (unit_literal p xs)) open' ∙ ap (λ b. cond b (Some x) None) rest ∙ ap Some there
unit_at p (x ∷ xs) l (suc place) lt there none others =
    let here : literal_value p x ≡ Some false = others 0 x (omega arith) (omega arith) in
    ap (λ o. unit_step o x (is_false p xs) (unit_literal p xs)) here ∙ unit_at p xs l place (omega arith) there none (λ k d lt' ne. others (suc k) d (omega arith) (omega arith))

-- a unit clause is computed to be so
pub unit_from : (p : Truth) (c : List Literal) (l : Literal) → IsUnit p c l → unit_literal p c ≡ Some l
unit_from p c l u = unit_at p c l u.place u.within u.there u.no_value u.others

map_none : (f : Bool → Bool) (o : Option Bool) → option_map f o ≡ None → o ≡ None
map_none f None h = refl
map_none f (Some b) h = cc

-- a literal has no value where its variable has none
pub no_value : (p : Truth) (l : Literal) → literal_value p l ≡ None → get_or p l.variable None ≡ None
no_value p l h = map_none (agree l.positive) (get_or p l.variable None) h

-- the one literal left is in the clause, and has no value
pub unit_left : (p : Truth) (c : List Literal) (l : Literal) → unit_literal p c ≡ Some l → Contains c l × (literal_value p l ≡ None)
unit_left p c l h = (let u = unit_is p c l h in ((u.place, u.within, u.there), u.no_value))
