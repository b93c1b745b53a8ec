-- Rows are gathered in the order of their symbols.
use Rattle.std.proofs.Common.{◌≡◌, ℕ, zero, suc, ◌+◌, ◌≤◌, Bool, true, false, cond, not, List, [], ◌∷◌, ◌++◌, map, drop, length, Option, Some, None, slice_get, is_some, true≢false, unwrap_or, refl, sym, ap, ◌∙◌, append_assoc, add-one, arith}
use Rattle.std.proofs.lemmas.Bool.{ltb-false}
use Rattle.std.specs.List.{prefix_len, position_or_len}
use Rattle.std.specs.Prelude.{position, nat_lt}
use Rattle.ec_names.specs.Names.{Role, SymbolEntry, is_role, symbols_of}

same-item : {X : Type 0} (x e : X) → ◌≡◌ {A = Option X} (Some x) (Some e) → x ≡ e
same-item x e is = ap (λ o. unwrap_or o x) is

-- what stands from a place on
pub drop-there : {X : Type 0} (xs : List X) (i : ℕ) (e : X) → slice_get xs i ≡ Some e → drop i xs ≡ e ∷ drop (suc i) xs
drop-there [] i e is = absurd (true≢false (sym (ap is_some is)))
drop-there (x ∷ xs) zero e is = ap (λ y. y ∷ xs) (same-item x e is)
drop-there (x ∷ xs) (suc i) e is = drop-there xs i e is

module _ {R : Type 0} (row : SymbolEntry → R) (role : Role) where
  role-cons : (b : Bool) (e : SymbolEntry) (es : List SymbolEntry) → is_role role e.role ≡ b → map row (symbols_of role (e ∷ es)) ≡ cond b (row e ∷ map row (symbols_of role es)) (map row (symbols_of role es))
  role-cons true e es is = rw is refl
  role-cons false e es is = rw is refl

  rest-of : (b : Bool) (symbols : List SymbolEntry) (i : ℕ) (e : SymbolEntry) → slice_get symbols i ≡ Some e → is_role role e.role ≡ b
      → map row (symbols_of role (drop i symbols)) ≡ cond b (row e ∷ map row (symbols_of role (drop (i + 1) symbols))) (map row (symbols_of role (drop (i + 1) symbols)))
  rest-of b symbols i e is has =
      let parts : drop i symbols ≡ e ∷ drop (i + 1) symbols = rw (add-one, drop-there symbols i e is) refl in
      ap (λ es. map row (symbols_of role es)) parts ∙ role-cons b e (drop (i + 1) symbols) has

  -- one more symbol of the role
  pub row-next : (symbols : List SymbolEntry) (i : ℕ) (e : SymbolEntry) (kept new total : List R) → slice_get symbols i ≡ Some e → is_role role e.role ≡ true → new ≡ kept ++ row e ∷ []
      → kept ++ map row (symbols_of role (drop i symbols)) ≡ total → new ++ map row (symbols_of role (drop (i + 1) symbols)) ≡ total
  row-next symbols i e kept new total is has pushed so_far =
      ap (λ xs. xs ++ map row (symbols_of role (drop (i + 1) symbols))) pushed ∙ append_assoc kept (row e ∷ []) (map row (symbols_of role (drop (i + 1) symbols))) ∙ ap (λ xs. kept ++ xs) (sym (rest-of true symbols i e is has)) ∙ so_far

  -- a symbol of another role
  pub row-none : (symbols : List SymbolEntry) (i : ℕ) (e : SymbolEntry) (kept new total : List R) → slice_get symbols i ≡ Some e → is_role role e.role ≡ false → new ≡ kept
      → kept ++ map row (symbols_of role (drop i symbols)) ≡ total → new ++ map row (symbols_of role (drop (i + 1) symbols)) ≡ total
  row-none symbols i e kept new total is has same so_far = ap (λ xs. xs ++ map row (symbols_of role (drop (i + 1) symbols))) same ∙ ap (λ xs. kept ++ xs) (sym (rest-of false symbols i e is has)) ∙ so_far

prefix-few : {X : Type 0} (p : X → Bool) (xs : List X) → prefix_len p xs ≤ length xs
prefix-few p [] = omega arith
prefix-few p (x ∷ xs) = by (p x) (prefix-few p xs)
  where
    by : (b : Bool) → prefix_len p xs ≤ length xs → cond b (1 + prefix_len p xs) 0 ≤ length (x ∷ xs)
    by true few = omega (arith, few)
    by false few = omega arith

none-by : (b : Bool) (n : ℕ) → ◌≡◌ {A = Option ℕ} (cond b (Some n) None) None → b ≡ false
none-by true n none = absurd (true≢false (ap is_some none))
none-by false n none = refl

-- where no item passes, the place is the number of the items
pub place-none : {X : Type 0} (p : X → Bool) (xs : List X) → position p xs ≡ None → position_or_len p xs ≡ length xs
place-none p xs none =
    let few = prefix-few (λ x. not (p x)) xs in
    let ends = ltb-false (position_or_len p xs) (length xs) (none-by (nat_lt (position_or_len p xs) (length xs)) (position_or_len p xs) none) in
    omega (arith, few, ends)

-- one more item
pub item-next : {X R : Type 0} (row : X → R) (xs : List X) (i : ℕ) (e : X) (kept new total : List R) → slice_get xs i ≡ Some e → new ≡ kept ++ row e ∷ []
    → kept ++ map row (drop i xs) ≡ total → new ++ map row (drop (i + 1) xs) ≡ total
item-next row xs i e kept new total is pushed so_far =
    let parts : drop i xs ≡ e ∷ drop (i + 1) xs = rw (add-one, drop-there xs i e is) refl in
    ap (λ ys. ys ++ map row (drop (i + 1) xs)) pushed ∙ append_assoc kept (row e ∷ []) (map row (drop (i + 1) xs)) ∙ ap (λ ys. kept ++ map row ys) (sym parts) ∙ so_far
