-- The names of predicates are distinct, so each is added to a set of those before it.
use Rattle.std.proofs.Common.{◌≡◌, ◌≢◌, ◌∙◌, ◌+◌, ℕ, zero, suc, nat_eq, false, List, [], ◌∷◌, ◌++◌, length, take, Some, slice_get, option_map, if◌then◌else◌, refl, sym, ap, arith}
use Rattle.std.specs.List.{AllPairs, list_any}
use Rattle.std.specs.Cmp.Lexicographic.{pointwise, bytes_decides}
use Rattle.std.proofs.lemmas.List.{get_or-append-add, take_more, length-append}
use Rattle.std.proofs.lemmas.Option.{get_or_from_slice_get, slice_get_within}
use Rattle.indexmap.specs.IndexSet.{insert_key}
use Rattle.ec_logic.specs.Signature.{Signature, SymbolRow}
use Rattle.ec_logic.specs.Valid.{IsSignature, symbol_names}
use Rattle.ec_split.proofs.PlaceLemmas.{by_test}

pairs_behind : (xs ys : List (List ℕ)) → AllPairs (λ a b. a ≢ b) (xs ++ ys) → AllPairs (λ a b. a ≢ b) ys
pairs_behind xs ys h i j d l m =
    let e = get_or-append-add xs ys i d in
    let f = get_or-append-add xs ys j d in
    let n = length-append xs ys in
    λ same. h (length xs + i) (length xs + j) d (omega (arith, l)) (omega (arith, m, n)) (e ∙ same ∙ sym f)

pairs_rest : (x : List ℕ) (xs : List (List ℕ)) → AllPairs (λ a b. a ≢ b) (x ∷ xs) → AllPairs (λ a b. a ≢ b) xs
pairs_rest x xs h i j d l m = h (suc i) (suc j) d (omega (arith, l)) (omega (arith, m))

not_same : (a b : List ℕ) → a ≢ b → pointwise nat_eq b a ≡ false
not_same a b n = by_test (pointwise nat_eq b a ≡ false) (pointwise nat_eq b a) (λ e. absurd (n (sym ((bytes_decides b a).0 e)))) (λ e. e)

fresh : (xs : List (List ℕ)) (p : ℕ) (x : List ℕ) → slice_get xs p ≡ Some x → AllPairs (λ a b. a ≢ b) xs → list_any (pointwise nat_eq x) (take p xs) ≡ false
fresh [] p x h d = cc
fresh (y ∷ xs) zero x h d = refl
fresh (y ∷ xs) (suc p) x h d =
    let l = slice_get_within xs p x h in
    let e = not_same y x (λ same. d 0 (suc p) x (omega arith) (omega (arith, l)) (same ∙ sym (get_or_from_slice_get xs p x x h))) in
    rw e (fresh xs p x h (pairs_rest y xs d))

slice_get_map : (rows : List SymbolRow) (p : ℕ) → slice_get (symbol_names rows) p ≡ option_map (λ (row : SymbolRow). row.name) (slice_get rows p)
slice_get_map [] p = refl
slice_get_map (row ∷ rows) zero = refl
slice_get_map (row ∷ rows) (suc p) = slice_get_map rows p

-- the names up to a predicate, once its own is added
pub added_name : (signature : Signature) (p : ℕ) (name : List ℕ) (seen new : List (List ℕ)) → IsSignature signature → option_map (λ (row : SymbolRow). row.name) (slice_get signature.predicates p) ≡ Some name → seen ≡ take p (symbol_names signature.predicates) → new ≡ insert_key (pointwise nat_eq) seen name → new ≡ take (p + 1) (symbol_names signature.predicates)
added_name signature p name seen new valid h e f =
    let names = symbol_names signature.predicates in
    let at = slice_get_map signature.predicates p ∙ h in
    let none = fresh names p name at (pairs_behind _ names valid.distinct_names) in
    let l = slice_get_within names p name at in
    let step : insert_key (pointwise nat_eq) (take p names) name ≡ take p names ++ name ∷ [] = ap (λ b. if b then take p names else take p names ++ name ∷ []) none in
    f ∙ ap (λ (s : List (List ℕ)). insert_key (pointwise nat_eq) s name) e ∙ step ∙ ap (λ (x : List ℕ). take p names ++ x ∷ []) (sym (get_or_from_slice_get names p name name at)) ∙ sym (take_more names p name l)
