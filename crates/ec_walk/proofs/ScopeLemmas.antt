-- Binders in the order written, and as a scope.
use Rattle.std.specs.Borrow.{Bor}
use Rattle.std.proofs.Common.{◌≡◌, ℕ, suc, ◌+◌, add-zero, arith, length, List, [], ◌∷◌, ◌++◌, map, reverse, refl, sym, ap, ◌∙◌, append_assoc}
use Rattle.std.proofs.lemmas.List.{reverse-append, map-append}
use Rattle.ec_walk.specs.Faults.{opened}
use Rattle.ec_walk.specs.Scopes.{words}

reverse-cons : {A : Type 0} (x : A) (xs : List A) → reverse (x ∷ xs) ≡ reverse xs ++ x ∷ []
reverse-cons x xs = reverse-append (x ∷ []) xs

pub map-reverse : {A B : Type 0} (f : A → B) (xs : List A) → map f (reverse xs) ≡ reverse (map f xs)
map-reverse f [] = refl
map-reverse f (x ∷ xs) =
    ap (map f) (reverse-cons x xs) ∙ map-append f (reverse xs) (x ∷ []) ∙ ap (λ ys. ys ++ f x ∷ []) (map-reverse f xs) ∙ sym (reverse-cons (f x) (map f xs))

pub opened-reverse : (scope vs : List (List ℕ)) → opened scope vs ≡ reverse vs ++ scope
opened-reverse scope [] = refl
opened-reverse scope (v ∷ vs) =
    opened-reverse (v ∷ scope) vs ∙ sym (append_assoc (reverse vs) (v ∷ []) scope) ∙ ap (λ ys. ys ++ scope) (sym (reverse-cons v vs))

pub length_words : (scope : List (Bor (List ℕ))) → length (words scope) ≡ length scope
length_words [] = refl
length_words (w ∷ scope) = ap suc (length_words scope)

pub length_opened : (scope vs : List (List ℕ)) → length (opened scope vs) ≡ length scope + length vs
length_opened scope [] = sym (add-zero (length scope))
length_opened scope (v ∷ vs) = length_opened (v ∷ scope) vs ∙ omega arith
