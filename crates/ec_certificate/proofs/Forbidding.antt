-- The clauses that forbid a truth.
use Rattle.std.proofs.Common.{◌≡◌, ℕ, zero, suc, ◌+◌, Bool, true, false, not, List, [], ◌∷◌, map, length, refl, sym, ap, ◌∙◌, inl, inr}
use Rattle.std.proofs.lemmas.Bool.{cases_Bool, or_parts, or_from}
use Rattle.std.specs.List.{range_with_len}
use Rattle.ec_clause.specs.Literal.{Literal}
use Rattle.ec_clause.specs.Truth.{Truth, agree}
use Rattle.ec_clause.specs.Step.{clause_holds}
use Rattle.ec_sat.specs.Run.{value_in, forbidden, blocked_clause}
use Rattle.ec_certificate.specs.Accepted.{forbids_from, forbids}
use Rattle.ec_certificate.specs.Shown.{visible_part}

disagree : (b c : Bool) → agree (not b) c ≡ false → c ≡ b
disagree true true h = refl
disagree true false h = cc
disagree false true h = cc
disagree false false h = refl

disagree_itself : (b : Bool) → agree (not b) b ≡ false
disagree_itself true = refl
disagree_itself false = refl

-- a truth whose clause fails is the one that the clause forbids
pub forbids_from-fails_alone : (w : ℕ → Bool) (variable : ℕ) (truth : List Bool) → clause_holds w (forbids_from variable truth) ≡ false → map w (range_with_len variable (length truth)) ≡ truth
forbids_from-fails_alone w variable [] h = refl
forbids_from-fails_alone w variable (b ∷ bs) h =
    let parts = or_parts (agree (not b) (w variable)) (clause_holds w (forbids_from (variable + 1) bs)) h in
    let here : w variable ≡ b = disagree b (w variable) parts.0 in
    let rest = forbids_from-fails_alone w (variable + 1) bs parts.1 in
    ap (λ c. c ∷ map w (range_with_len (variable + 1) (length bs))) here ∙ ap (λ cs. b ∷ cs) rest

-- and under that truth it fails
pub forbids_from-fails : (w : ℕ → Bool) (variable n : ℕ) → clause_holds w (forbids_from variable (map w (range_with_len variable n))) ≡ false
forbids_from-fails w variable zero = refl
forbids_from-fails w variable (suc n) = or_from (agree (not (w variable)) (w variable)) (clause_holds w (forbids_from (variable + 1) (map w (range_with_len (variable + 1) n)))) (disagree_itself (w variable)) (forbids_from-fails w (variable + 1) n)

pub forbids-fails : (visible : ℕ) (w : ℕ → Bool) → clause_holds w (forbids (visible_part visible w)) ≡ false
forbids-fails visible w = forbids_from-fails w 1 visible

-- a truth meets the clause of each other truth of the visible variables
pub forbids-holds : (visible : ℕ) (w : ℕ → Bool) (truth : List Bool) → length truth ≡ visible → (visible_part visible w ≡ truth → ⊥) → clause_holds w (forbids truth) ≡ true
forbids-holds visible w truth e other = elim (cases_Bool (clause_holds w (forbids truth))) [
  | inl t ↦ t
  | inr f ↦ absurd (other (ap (λ n. map w (range_with_len 1 n)) (sym e) ∙ forbids_from-fails_alone w 1 truth f))
]

sign_twice : (b : Bool) → not (not b) ≡ b
sign_twice true = refl
sign_twice false = refl

-- the truth that a clause of this kind forbids
abbrev pub signs : List Literal → List Bool
signs lits = map (λ (l : Literal). not l.positive) lits

pub signs-forbids_from : (variable : ℕ) (truth : List Bool) → signs (forbids_from variable truth) ≡ truth
signs-forbids_from variable [] = refl
signs-forbids_from variable (b ∷ bs) = ap (λ c. c ∷ signs (forbids_from (variable + 1) bs)) (sign_twice b) ∙ ap (λ cs. b ∷ cs) (signs-forbids_from (variable + 1) bs)

-- two truths with one clause are the same
pub forbids-apart : (s t : List Bool) → forbids s ≡ forbids t → s ≡ t
forbids-apart s t e = sym (signs-forbids_from 1 s) ∙ ap signs e ∙ signs-forbids_from 1 t

blocked_from : (p : Truth) (variable n : ℕ) → map (forbidden p) (range_with_len variable n) ≡ forbids_from variable (map (value_in p) (range_with_len variable n))
blocked_from p variable zero = refl
blocked_from p variable (suc n) = ap (λ ls. forbidden p variable ∷ ls) (blocked_from p (variable + 1) n)

-- the clause that a solver blocks a model with is the one that forbids the model's visible truth
pub blocked_clause-forbids : (visible : ℕ) (p : Truth) → blocked_clause visible p ≡ forbids (map (value_in p) (range_with_len 1 visible))
blocked_clause-forbids visible p = blocked_from p 1 visible
