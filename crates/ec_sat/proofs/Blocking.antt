-- the clause that forbids a truth
use Rattle.std.proofs.Common.{◌≡◌, ℕ, ◌+◌, ◌<◌, ◌≤◌, Bool, true, false, [], ◌∷◌, ◌++◌, Option, Some, None, length, take, get_or, refl, sym, ap, ◌∙◌, arith}
use Rattle.std.proofs.lemmas.List.{take_more, get_or-map}
use Rattle.std.proofs.lemmas.List.FromFn.{length-range_with_len, length-map-range_with_len, get_or-range_with_len}
use Rattle.std.specs.Prelude.{option_map, unwrap_or}
use Rattle.std.specs.List.{range_with_len}
use Rattle.ec_clause.specs.Literal.{Literal}
use Rattle.ec_clause.specs.ClauseList.{IsClause}
use Rattle.ec_clause.specs.Truth.{Truth, agree, literal_value}
use Rattle.ec_sat.specs.Run.{value_in, forbidden, blocked_clause}

-- a literal is its parts
pub literal_is : (l : Literal) (variable : ℕ) (positive : Bool) → l.variable ≡ variable → l.positive ≡ positive → l ≡ record { variable = variable; positive = positive }
literal_is l variable positive e f = ap (λ v. record { variable = v; positive = l.positive }) e ∙ ap (λ b. record { variable = variable; positive = b }) f

positive_value : (o : Option Bool) → unwrap_or (option_map (agree true) o) false ≡ unwrap_or o false
positive_value None = refl
positive_value (Some b) = refl

-- the value of a variable's positive literal is the variable's
pub value_is : (p : Truth) (l : Literal) (variable : ℕ) → l.variable ≡ variable → l.positive ≡ true → unwrap_or (literal_value p l) false ≡ value_in p variable
value_is p l variable same sign =
    ap (λ s. unwrap_or (option_map (agree s) (get_or p l.variable None)) false) sign ∙ positive_value (get_or p l.variable None) ∙ ap (value_in p) same

pub blocked_at : (visible : ℕ) (p : Truth) (k : ℕ) (d : Literal) → k < visible → get_or (blocked_clause visible p) k d ≡ forbidden p (k + 1)
blocked_at visible p k d lt =
    get_or-map (forbidden p) (range_with_len 1 visible) k 0 d (omega (arith, length-range_with_len 1 visible)) ∙ ap (forbidden p) (get_or-range_with_len 1 visible k 0 lt ∙ omega arith)

pub length-blocked : (visible : ℕ) (p : Truth) → length (blocked_clause visible p) ≡ visible
length-blocked visible p = length-map-range_with_len (forbidden p) 1 visible

pub blocked_more : (visible : ℕ) (p : Truth) (k : ℕ) (l : Literal) → k < visible → l ≡ forbidden p (k + 1) → take (k + 1) (blocked_clause visible p) ≡ take k (blocked_clause visible p) ++ l ∷ []
blocked_more visible p k l lt is =
    take_more (blocked_clause visible p) k l (omega (arith, length-blocked visible p)) ∙ ap (λ x. take k (blocked_clause visible p) ++ x ∷ []) (blocked_at visible p k l lt ∙ sym is)

pub blocked_is_clause : (n visible : ℕ) (p : Truth) → visible ≤ n → IsClause n (blocked_clause visible p)
blocked_is_clause n visible p le =
    let at = λ (k : ℕ) (d : Literal) (lt : k < length (blocked_clause visible p)). ap (λ (l : Literal). l.variable) (blocked_at visible p k d (omega (arith, length-blocked visible p))) in
    record {
      in_range = λ k d lt. (omega (arith, at k d lt), omega (arith, at k d lt, length-blocked visible p));
      apart = λ i j d ij lt same. omega (arith, at i d (omega arith), at j d lt);
    }
