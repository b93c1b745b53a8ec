-- a look at a clause, literal by literal
use Rattle.std.proofs.Common.{◌≡◌, ℕ, ◌+◌, ◌<◌, Bool, true, false, cond, List, [], ◌∷◌, Option, Some, None, get_or, length, drop, sym, ap, subst, ◌∙◌}
use Rattle.std.proofs.lemmas.List.{drop_more}
use Rattle.std.specs.Prelude.{Contains, is_some}
use Rattle.ec_clause.specs.Literal.{Literal}
use Rattle.ec_clause.specs.Truth.{Truth, IsFalse, IsUnit, literal_value, is_false, unit_literal, false_step}
use Rattle.ec_clause.proofs.TruthLemmas.{unit_left, no_value, unit_is, unit_from, each_false, false_from}

-- whether a clause is false, where a literal without a value may have been seen before
abbrev pub false_with : Option Literal → Truth → List Literal → Bool
false_with None p c = is_false p c
false_with (Some l) p c = false

-- its one literal without a value, where such a literal may have been seen before
abbrev pub unit_with : Option Literal → Truth → List Literal → Option Literal
unit_with None p c = unit_literal p c
unit_with (Some l) p c = cond (is_false p c) (Some l) None

pub record IsSeen (p : Truth) (c rest : List Literal) (left : Option Literal) : Type 0 where
  pub false_part : is_false p c ≡ false_with left p rest
  pub unit_part : unit_literal p c ≡ unit_with left p rest

pub seen_end : (p : Truth) (c rest : List Literal) (o : Option Literal) (l : Literal) → IsSeen p c rest o → rest ≡ [] → o ≡ Some l → Contains c l × (get_or p l.variable None ≡ None)
seen_end p c rest o l h e f =
    let is : unit_literal p c ≡ Some l = h.unit_part ∙ ap (λ (x : Option Literal). unit_with x p rest) f ∙ ap (unit_with (Some l) p) e in
    let left = unit_left p c l is in
    (left.0, no_value p l left.1)

-- no literal is left to be looked at: the clause is what was seen of it
pub seen_unit : (p : Truth) (c rest : List Literal) (o : Option Literal) (l : Literal) → IsSeen p c rest o → rest ≡ [] → o ≡ Some l → IsUnit p c l
seen_unit p c rest o l h e f =
    unit_is p c l (h.unit_part ∙ ap (λ (x : Option Literal). unit_with x p rest) f ∙ ap (unit_with (Some l) p) e)

pub seen_false : (p : Truth) (c rest : List Literal) (o : Option Literal) → IsSeen p c rest o → rest ≡ [] → o ≡ None → IsFalse p c
seen_false p c rest o h e f =
    each_false p c (h.false_part ∙ ap (λ (x : Option Literal). false_with x p rest) f ∙ ap (false_with None p) e)

-- what is neither computed to be false nor to be unit is neither
pub neither : (p : Truth) (c : List Literal) → is_false p c ≡ false → unit_literal p c ≡ None → (IsFalse p c → ⊥) × ((l : Literal) → IsUnit p c l → ⊥)
neither p c f u = (λ h. (let e = false_from p c h in cc), λ l h. (let e = unit_from p c l h in cc))

two_seen : (p : Truth) (c rest : List Literal) (x : Literal) (o : Option Literal) → IsSeen p c (x ∷ rest) o → is_some o ≡ true → literal_value p x ≡ None → (IsFalse p c → ⊥) × ((l : Literal) → IsUnit p c l → ⊥)
two_seen p c rest x None h some none = cc
two_seen p c rest x (Some l) h some none =
    neither p c h.false_part (h.unit_part ∙ ap (λ b. cond b (Some l) None) (ap (λ o. false_step o (is_false p rest)) none))

-- a second literal has no value
pub seen_two : (p : Truth) (c : List Literal) (i : ℕ) (x : Literal) (o : Option Literal) → IsSeen p c (drop i c) o → i < length c → x ≡ get_or c i x → is_some o ≡ true → literal_value p x ≡ None → (IsFalse p c → ⊥) × ((l : Literal) → IsUnit p c l → ⊥)
seen_two p c i x o h lt is some none =
    two_seen p c (drop (i + 1) c) x o (subst (λ xs. IsSeen p c xs o) (drop_more c i x lt ∙ ap (λ y. y ∷ drop (i + 1) c) (sym is)) h) some none
