-- A truth with one atom more is extended with false or with true.
use Rattle.std.proofs.Common.{◌≡◌, ℕ, suc, Bool, true, false, List, [], ◌∷◌, ◌++◌, map, refl, sym, ap, ◌∙◌, append_assoc}
use Rattle.std.proofs.lemmas.List.{map-append, append-nil}
use Rattle.ec_models.specs.Tried.{all_truths, extended}

map_twice : (truth : List Bool) (b : Bool) (ts : List (List Bool)) → map (λ t. truth ++ t) (map (λ t. b ∷ t) ts) ≡ map (λ t. (truth ++ b ∷ []) ++ t) ts
map_twice truth b [] = refl
map_twice truth b (t ∷ ts) =
    let head : truth ++ b ∷ t ≡ (truth ++ b ∷ []) ++ t = sym (append_assoc truth (b ∷ []) t) in
    rw (head, map_twice truth b ts) refl

pub extended-zero : (truth : List Bool) → extended truth 0 ≡ truth ∷ []
unfolding extended all_truths
extended-zero truth = ap (λ (t : List Bool). t ∷ []) (append-nil truth)

pub extended-suc : (truth : List Bool) (n : ℕ) → extended truth (suc n) ≡ extended (truth ++ false ∷ []) n ++ extended (truth ++ true ∷ []) n
unfolding extended all_truths
extended-suc truth n =
    map-append (λ t. truth ++ t) (map (λ t. false ∷ t) (all_truths n)) (map (λ t. true ∷ t) (all_truths n)) ∙ rw (map_twice truth false (all_truths n), map_twice truth true (all_truths n)) refl

pub extended-nil : (n : ℕ) → extended [] n ≡ all_truths n
unfolding extended
extended-nil n = map_same (all_truths n)
  where
    map_same : (ts : List (List Bool)) → map (λ t. [] ++ t) ts ≡ ts
    map_same [] = refl
    map_same (t ∷ ts) = ap (λ (x : List (List Bool)). t ∷ x) (map_same ts)
