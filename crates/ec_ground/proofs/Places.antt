-- Lists that grow place by place, and tables whose items are taken out in turn.
use Rattle.std.proofs.Common.{◌≡◌, ℕ, zero, suc, ◌+◌, ◌<◌, Bool, true, false, List, [], ◌∷◌, ◌++◌, length, get_or, drop, Option, Some, None, option_map, refl, ap, sym, ◌∙◌, arith}
use Rattle.std.specs.List.{flat_map, range_with_len}
use Rattle.std.specs.Option.{is_some}
use Rattle.std.proofs.lemmas.Grind.{flat_map-append}
use Rattle.std.proofs.lemmas.List.{get_or-drop, get_or_default, append-nil}
use Rattle.ec_folding.specs.Tree.{Tree}
use Rattle.ec_prop.specs.declared.tree.Prop.{Prop}
use Rattle.ec_prop.specs.Prop.{tree_of}
use Rattle.ec_ground.specs.Listed.{variable_if, definition_if}

range_more : (low n : ℕ) → range_with_len low (suc n) ≡ range_with_len low n ++ (low + n) ∷ []
range_more low zero = let none_more : low + 0 ≡ low = omega arith in rw none_more refl
range_more low (suc n) = let next : low + suc n ≡ low + 1 + n = omega arith in rw next (ap (λ (ns : List ℕ). low ∷ ns) (range_more (low + 1) n))

-- what one more place gives comes to the end
pub one_more : {A : Type 0} (made : ℕ → List A) (n : ℕ) (olds news xs : List A) → olds ≡ flat_map made (range_with_len 0 n) → news ≡ olds ++ xs → made n ≡ xs → news ≡ flat_map made (range_with_len 0 (n + 1))
one_more {A = A} made n olds news xs before now here =
    let next : n + 1 ≡ suc n = omega arith in
    let none_more : 0 + n ≡ n = omega arith in
    let last : flat_map made (n ∷ []) ≡ xs = append-nil (made n) ∙ here in
    let split = flat_map-append made (range_with_len 0 n) (n ∷ []) in
    let whole : flat_map made (range_with_len 0 (suc n)) ≡ flat_map made (range_with_len 0 n) ++ flat_map made (n ∷ []) = ap (flat_map made) (range_more 0 n ∙ ap (λ k. range_with_len 0 n ++ k ∷ []) none_more) ∙ split in
    now ∙ (ap (λ (ys : List A). ys ++ xs) before ∙ (ap (λ (ys : List A). flat_map made (range_with_len 0 n) ++ ys) (sym last) ∙ (sym whole ∙ ap (λ k. flat_map made (range_with_len 0 k)) (sym next))))

-- a place that gives nothing
pub none_more : {A : Type 0} (made : ℕ → List A) (n : ℕ) (olds : List A) → olds ≡ flat_map made (range_with_len 0 n) → made n ≡ [] → olds ≡ flat_map made (range_with_len 0 (n + 1))
none_more made n olds before here = one_more made n olds olds [] before (sym (append-nil olds)) here

-- ---- what a place gives

pub constant_unlisted : (c : Option Bool) (k : ℕ) → is_some c ≡ true → variable_if c k ≡ []
constant_unlisted None k e = cc
constant_unlisted (Some b) k e = refl

pub variable_listed : (c : Option Bool) (k : ℕ) → is_some c ≡ false → variable_if c k ≡ k ∷ []
variable_listed None k e = refl
variable_listed (Some b) k e = cc

pub constant_undefined : (c : Option Bool) (t : Option Tree) (k : ℕ) → is_some c ≡ true → definition_if c t k ≡ []
constant_undefined None t k e = cc
constant_undefined (Some b) None k e = refl
constant_undefined (Some b) (Some tree) k e = refl

pub treeless_undefined : (c : Option Bool) (o : Option Prop) (k : ℕ) → o ≡ None → definition_if c (option_map tree_of o) k ≡ []
treeless_undefined c (Some scope) k e = cc
treeless_undefined None None k e = refl
treeless_undefined (Some b) None k e = refl

pub variable_defined : (c : Option Bool) (o : Option Prop) (k : ℕ) (scope : Prop) → is_some c ≡ false → o ≡ Some scope → definition_if c (option_map tree_of o) k ≡ record { atom = k; scope = tree_of scope } ∷ []
variable_defined (Some b) o k scope e f = cc
variable_defined None None k scope e f = cc
variable_defined None (Some other) k scope e f = let same : other ≡ scope = cc in ap (λ t. record { atom = k; scope = tree_of t } ∷ []) same

-- ---- tables that are as they were from a place on

module _ {X : Type 0} (xs ys : List X) (i : ℕ) (same : drop i xs ≡ drop i ys) where
  -- what stands there
  pub still_there : (x d e : X) → x ≡ get_or xs i e → i < length xs → x ≡ get_or ys i d
  still_there x d e is within =
      let none_more : i + 0 ≡ i = omega arith in
      let here : get_or (drop i xs) 0 d ≡ get_or xs i d = get_or-drop i xs 0 d ∙ ap (λ n. get_or xs n d) none_more in
      let there : get_or (drop i ys) 0 d ≡ get_or ys i d = get_or-drop i ys 0 d ∙ ap (λ n. get_or ys n d) none_more in
      is ∙ (get_or_default xs i e d within ∙ (sym here ∙ (ap (λ zs. get_or zs 0 d) same ∙ there)))
