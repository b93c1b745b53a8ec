-- Tests, their parts, and lists that pass them.
use Rattle.std.proofs.Common.{◌≡◌, ℕ, zero, suc, Bool, true, false, true≢false, not, ◌&&◌, ◌||◌, List, [], ◌∷◌, ◌++◌, map, filter, cond, Option, Some, None, is_some, unwrap_or, slice_get, refl, sym, ap, ◌∙◌, if◌then◌else◌}
use Rattle.std.specs.List.{list_all}
use Rattle.std.specs.Option.{option_or}
use Rattle.ec_syntax.specs.Written as w
use Rattle.ec_names.specs.Names.{firsts_after, is_among, joined, placed_content}
use Rattle.ec_declare.specs.declared.fault.Fault.{Fault}
use Rattle.ec_declare.specs.declared.fault.Code.{Code}
use Rattle.ec_declare.specs.Faults.{fault_at, first_fault, refused_if}

pub and-first : (b c : Bool) → (b && c) ≡ true → b ≡ true
and-first true c h = refl
and-first false c h = h

pub and-last : (b c : Bool) → (b && c) ≡ true → c ≡ true
and-last true c h = h
and-last false c h = absurd (true≢false (sym h))

pub and-true : (b c : Bool) → b ≡ true → c ≡ true → (b && c) ≡ true
and-true true c p q = q
and-true false c p q = p

pub or-first : (b c : Bool) → (b || c) ≡ false → b ≡ false
or-first true c h = absurd (true≢false h)
or-first false c h = refl

pub or-last : (b c : Bool) → (b || c) ≡ false → c ≡ false
or-last true c h = absurd (true≢false h)
or-last false c h = h

pub not-false : (b : Bool) → not b ≡ false → b ≡ true
not-false true h = refl
not-false false h = sym h

pub not-true : (b : Bool) → not b ≡ true → b ≡ false
not-true true h = sym h
not-true false h = refl

pub some-is : {X : Type 0} (x y : X) → ◌≡◌ {A = Option X} (Some x) (Some y) → x ≡ y
some-is x y is = ap (λ o. unwrap_or o x) is

pub none-some : {X : Type 0} (x : X) → ◌≡◌ {A = Option X} None (Some x) → ⊥
none-some x is = true≢false (sym (ap is_some is))

-- ---- lists that pass

pub all-append : {X : Type 0} (p : X → Bool) (xs ys : List X) → list_all p xs ≡ true → list_all p ys ≡ true → list_all p (xs ++ ys) ≡ true
all-append p [] ys h g = g
all-append p (x ∷ xs) ys h g = and-true (p x) (list_all p (xs ++ ys)) (and-first (p x) (list_all p xs) h) (all-append p xs ys (and-last (p x) (list_all p xs) h) g)

pub all-at : {X : Type 0} (p : X → Bool) (xs : List X) (i : ℕ) (x : X) → list_all p xs ≡ true → slice_get xs i ≡ Some x → p x ≡ true
all-at p [] i x h is = absurd (none-some x is)
all-at p (y ∷ xs) zero x h is = ap p (sym (some-is y x is)) ∙ and-first (p y) (list_all p xs) h
all-at p (y ∷ xs) (suc i) x h is = all-at p xs i x (and-last (p y) (list_all p xs) h) is

firsts-by : {X : Type 0} (b : Bool) (p : X → Bool) (x : X) (xs ys : List X) → p x ≡ true → list_all p xs ≡ true → list_all p ys ≡ true → list_all p (if b then xs else x ∷ ys) ≡ true
firsts-by true p x xs ys h f g = f
firsts-by false p x xs ys h f g = and-true (p x) (list_all p ys) h g

pub all-firsts : {X : Type 0} (p : X → Bool) (name : X → List ℕ) (before : List (List ℕ)) (xs : List X) → list_all p xs ≡ true → list_all p (firsts_after name before xs) ≡ true
all-firsts p name before [] h = refl
all-firsts p name before (x ∷ xs) h =
    let rest = and-last (p x) (list_all p xs) h in
    firsts-by (is_among (name x) before) p x (firsts_after name before xs) (firsts_after name (before ++ name x ∷ []) xs) (and-first (p x) (list_all p xs) h) (all-firsts p name before xs rest) (all-firsts p name (before ++ name x ∷ []) xs rest)

filter-by : {X : Type 0} (b : Bool) (p : X → Bool) (x : X) (xs : List X) → p x ≡ true → list_all p xs ≡ true → list_all p (cond b (x ∷ xs) xs) ≡ true
filter-by true p x xs h g = and-true (p x) (list_all p xs) h g
filter-by false p x xs h g = g

pub all-filter : {X : Type 0} (p q : X → Bool) (xs : List X) → list_all p xs ≡ true → list_all p (filter q xs) ≡ true
all-filter p q [] h = refl
all-filter p q (x ∷ xs) h = filter-by (q x) p x (filter q xs) (and-first (p x) (list_all p xs) h) (all-filter p q xs (and-last (p x) (list_all p xs) h))

kept-by : {X : Type 0} (b : Bool) (q : X → Bool) (x : X) (xs : List X) → q x ≡ b → list_all q xs ≡ true → list_all q (cond b (x ∷ xs) xs) ≡ true
kept-by true q x xs h g = and-true (q x) (list_all q xs) h g
kept-by false q x xs h g = g

pub all-kept : {X : Type 0} (q : X → Bool) (xs : List X) → list_all q (filter q xs) ≡ true
all-kept q [] = refl
all-kept q (x ∷ xs) = kept-by (q x) q x (filter q xs) refl (all-kept q xs)

pub all-joined : {X : Type 0} (p : X → Bool) (says : w.Content → List X) (sound : w.Content → Bool) → ((c : w.Content) → sound c ≡ true → list_all p (says c) ≡ true)
    → (ps : List w.Placed) → list_all (λ q. sound (placed_content q)) ps ≡ true → list_all p (joined says ps) ≡ true
all-joined p says sound each [] h = refl
all-joined p says sound each (q ∷ ps) h =
    all-append p (says (placed_content q)) (joined says ps) (each (placed_content q) (and-first (sound (placed_content q)) (list_all (λ r. sound (placed_content r)) ps) h))
    (all-joined p says sound each ps (and-last (sound (placed_content q)) (list_all (λ r. sound (placed_content r)) ps) h))

pub all-map : {X Y : Type 0} (p : Y → Bool) (f : X → Y) (xs : List X) → list_all (λ x. p (f x)) xs ≡ true → list_all p (map f xs) ≡ true
all-map p f [] h = refl
all-map p f (x ∷ xs) h = and-true (p (f x)) (list_all p (map f xs)) (and-first (p (f x)) (list_all (λ y. p (f y)) xs) h) (all-map p f xs (and-last (p (f x)) (list_all (λ y. p (f y)) xs) h))

-- ---- no fault

pub passed : (test : Bool) (code : Code) (name : List ℕ) (next : Option Fault) → refused_if test code name next ≡ None → test ≡ false
passed true code name next h = absurd (none-some (fault_at code name) (sym h))
passed false code name next h = refl

pub past : (test : Bool) (code : Code) (name : List ℕ) (next : Option Fault) → refused_if test code name next ≡ None → next ≡ None
past true code name next h = absurd (none-some (fault_at code name) (sym h))
past false code name next h = h

pub neither-first : (a b : Option Fault) → option_or a b ≡ None → a ≡ None
neither-first None b h = refl
neither-first (Some f) b h = h

pub neither-last : (a b : Option Fault) → option_or a b ≡ None → b ≡ None
neither-last None b h = h
neither-last (Some f) b h = absurd (none-some f (sym h))

-- a test that each thing without a fault passes
pub all-faultless : {X : Type 0} (fault : X → Option Fault) (p : X → Bool) → ((x : X) → fault x ≡ None → p x ≡ true) → (xs : List X) → first_fault fault xs ≡ None → list_all p xs ≡ true
all-faultless fault p each [] h = refl
all-faultless fault p each (x ∷ xs) h =
    and-true (p x) (list_all p xs) (each x (neither-first (fault x) (first_fault fault xs) h)) (all-faultless fault p each xs (neither-last (fault x) (first_fault fault xs) h))
