-- One statement after another.
use Rattle.std.proofs.Common.{◌≡◌, ℕ, ◌+◌, ◌<◌, List, ◌∷◌, ◌++◌, drop, map, length, get_or, Some, None, sym, ap, ◌∙◌, subst, append_assoc, All}
use Rattle.std.specs.Option.{option_or}
use Rattle.std.proofs.lemmas.List.{drop_more, length-map}
use Rattle.std.proofs.lemmas.List.Elements.{All-get_or}
use Rattle.std.proofs.Math.ListN.{get_or-map}
use Rattle.ec_names.specs.Names.{Names}
use Rattle.ec_syntax.specs.Written as w
use Rattle.ec_syntax.specs.View.{placed_of}
use Rattle.ec_syntax.specs.declared.book.Placed.{Placed}
use Rattle.ec_syntax.specs.declared.book.Refusal.{Refusal}
use Rattle.ec_sort.specs.Books.{first_refusal, statement_refusal, IsPlacedIn}

-- the statement at a place, before those that follow
pub rest_at : (xs : List Placed) (n : ℕ) (x : Placed) → n < length xs → x ≡ get_or xs n x → map placed_of (drop n xs) ≡ placed_of x ∷ map placed_of (drop (n + 1) xs)
rest_at xs n x within is = ap (map placed_of) (drop_more xs n x within ∙ ap (λ y. y ∷ drop (n + 1) xs) (sym is))

pub file_within : (files : ℕ) (xs : List Placed) (n : ℕ) (x : Placed) → n < length xs → x ≡ get_or xs n x → All (IsPlacedIn files) (map placed_of xs) → x.file < files
file_within files xs n x within is placed =
    let h : IsPlacedIn files (get_or (map placed_of xs) n (placed_of x)) = All-get_or (IsPlacedIn files) (map placed_of xs) n (placed_of x) (rw (length-map xs placed_of) within) placed in
    let P : Placed → Type 0 = λ y. y.file < files in
    subst P (sym is) (subst (IsPlacedIn files) (get_or-map placed_of xs n x) h)

pub refused_here : (names : Names) (files : List (List ℕ)) (all rest later : List w.Placed) (p : w.Placed) (r : Refusal)
    → first_refusal names files rest ≡ first_refusal names files all → rest ≡ p ∷ later → statement_refusal names files p ≡ Some r → first_refusal names files all ≡ Some r
refused_here names files all rest later p r before is refused =
    sym before ∙ ap (first_refusal names files) is ∙ ap (λ o. option_or o (first_refusal names files later)) refused

pub none_here : (names : Names) (files : List (List ℕ)) (all rest later : List w.Placed) (p : w.Placed)
    → first_refusal names files rest ≡ first_refusal names files all → rest ≡ p ∷ later → statement_refusal names files p ≡ None → first_refusal names files later ≡ first_refusal names files all
none_here names files all rest later p before is none =
    sym (ap (first_refusal names files) is ∙ ap (λ o. option_or o (first_refusal names files later)) none) ∙ before

-- what is said here moves to what was taken
pub moved : {X : Type 0} (said : List w.Placed → List X) (here : List X) (old new : List X) (all rest later : List w.Placed) (p : w.Placed)
    → old ++ said rest ≡ said all → rest ≡ p ∷ later → said (p ∷ later) ≡ here ++ said later → new ≡ old ++ here → new ++ said later ≡ said all
moved said here old new all rest later p before is says taken =
    ap (λ xs. xs ++ said later) taken ∙ append_assoc old here (said later) ∙ ap (λ xs. old ++ xs) (sym (ap said is ∙ says)) ∙ before
