-- whether literals are a clause, literal by literal
use Rattle.std.proofs.Common.{◌≡◌, ◌≢◌, ℕ, ◌+◌, ◌<◌, ◌≤◌, List, [], ◌∷◌, ◌++◌, length, take, get_or, sym, ap, ◌∙◌, arith}
use Rattle.std.proofs.lemmas.List.{take_more, length-take-le, get_or-take, get_or_default}
use Rattle.std.proofs.lemmas.List.Elements.{All-push}
use Rattle.std.proofs.lemmas.List.Quantifiers.{all_pairs_push}
use Rattle.std.specs.Prelude.{All}
use Rattle.ec_clause.specs.Literal.{Literal}
use Rattle.ec_clause.specs.ClauseList.{IsClause}

-- no literal is of this variable
abbrev pub Lacks : ℕ → List Literal → Type 0
Lacks v lits = All (λ (l : Literal). l.variable ≢ v) lits

pub clause_more : (n : ℕ) (lits : List Literal) (i : ℕ) (x : Literal) → IsClause n (take i lits) → i < length lits → x ≡ get_or lits i x → 1 ≤ x.variable → x.variable ≤ n → Lacks x.variable (take i lits) → IsClause n (take (i + 1) lits)
clause_more n lits i x h lt is low high lacks =
    let more : take (i + 1) lits ≡ take i lits ++ x ∷ [] = take_more lits i x lt ∙ ap (λ y. take i lits ++ y ∷ []) (sym is) in
    rw more (record {
      in_range = All-push (λ (k : Literal). (1 ≤ k.variable) × (k.variable ≤ n)) (take i lits) x h.in_range (low, high);
      apart = all_pairs_push (λ (j k : Literal). j.variable ≢ k.variable) (take i lits) x h.apart lacks;
    })

pub lacks_before : (n : ℕ) (lits : List Literal) (i : ℕ) (x : Literal) → IsClause n lits → i < length lits → x ≡ get_or lits i x → Lacks x.variable (take i lits)
lacks_before n lits i x h lt is k d below same =
    let before : k < i = omega (arith, below, length-take-le i lits (omega arith)) in
    h.apart k i x before lt (ap (λ (y : Literal). y.variable) (get_or_default lits k x d (omega arith) ∙ sym (get_or-take i lits k d before)) ∙ same ∙ ap (λ (y : Literal). y.variable) is)
