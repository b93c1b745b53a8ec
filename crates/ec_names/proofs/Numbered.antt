-- Symbols are numbered within their role.
use Rattle.std.proofs.Common.{◌≡◌, ◌≤◌, ◌<◌, ◌^◌, ℕ, ◌+◌, Bool, true, false, true≢false, cond, ◌||◌, List, [], ◌∷◌, ◌++◌, map, length, Option, Some, None, is_some, unwrap_or, IfSome, Bor, refl, sym, ap, subst, ◌∙◌, append-nil, append_assoc, length-append, arith}
use Rattle.std.proofs.lemmas.List.Elements.{filter-append}
use Rattle.std.proofs.lemmas.List.{length-map, map-append}
use Rattle.std.specs.List.{list_any, position_or_len}
use Rattle.std.specs.Option.{option_copied}
use Rattle.std.specs.Map.{lookup}
use Rattle.std.specs.Str.{bytes_eq}
use Rattle.ec_names.specs.Names.{Role, constant_role, event_role, fluent_role, predicate_role, SymbolEntry, is_among, is_role, place_of, symbol_name, symbols_of}
use Rattle.ec_names.specs.View.{AreCounts, AreNumbered, IsSymbolTable, count_in, count_of, role_of, symbol_of, symbols_in_table, with_one_more}
use Rattle.ec_names.specs.declared.symbol.Symbol.{Symbol}
use Rattle.ec_names.specs.declared.symbol.Counts.{Counts}

-- ---- one more symbol

role-self : (r : Role) → is_role r r ≡ true
role-self constant_role = refl
role-self event_role = refl
role-self fluent_role = refl
role-self predicate_role = refl

symbols_of-append : (r : Role) (xs ys : List SymbolEntry) → symbols_of r (xs ++ ys) ≡ symbols_of r xs ++ symbols_of r ys
symbols_of-append r xs ys = filter-append (λ (entry : SymbolEntry). is_role r entry.role) xs ys

abbrev one : Bool → ℕ
one true = 1
one false = 0

length-cond : (b : Bool) (e : SymbolEntry) (xs : List SymbolEntry) → length (cond b (e ∷ xs) xs) ≡ length xs + one b
length-cond true e xs = omega arith
length-cond false e xs = omega arith

count-cons : (r : Role) (e : SymbolEntry) (es : List SymbolEntry) → count_of r (e ∷ es) ≡ count_of r es + one (is_role r e.role)
count-cons r e es = length-cond (is_role r e.role) e (symbols_of r es)

count-snoc : (r : Role) (es : List SymbolEntry) (e : SymbolEntry) → count_of r (es ++ e ∷ []) ≡ count_of r es + one (is_role r e.role)
count-snoc r es e =
    let parts : length (symbols_of r (es ++ e ∷ [])) ≡ length (symbols_of r es ++ symbols_of r (e ∷ [])) = ap (λ (xs : List SymbolEntry). length xs) (symbols_of-append r es (e ∷ [])) in
    let sum : length (symbols_of r es ++ symbols_of r (e ∷ [])) ≡ length (symbols_of r es) + length (symbols_of r (e ∷ [])) = length-append (symbols_of r es) (symbols_of r (e ∷ [])) in
    let last : length (symbols_of r (e ∷ [])) ≡ 0 + one (is_role r e.role) = count-cons r e [] in
    omega (arith, parts, sum, last)

one-few : (b : Bool) → one b ≤ 1
one-few true = omega arith
one-few false = omega arith

count-few : (r : Role) (es : List SymbolEntry) → count_of r es ≤ length es
count-few r [] = omega arith
count-few r (e ∷ es) =
    let few = count-few r es in
    let cons = count-cons r e es in
    let step = one-few (is_role r e.role) in
    omega (arith, few, cons, step)

pub count-small : (counts : Counts) (es : List SymbolEntry) (r : Role) → AreCounts counts es → length es < 2 ^ 31 → count_in counts r < 2 ^ 31
count-small counts es r are few = let is = are r in let le = count-few r es in omega (arith, is, le, few)

more-by : (r s : Role) (counts : Counts) → count_in (with_one_more s counts) r ≡ count_in counts r + one (is_role r s)
more-by constant_role constant_role counts = omega arith
more-by constant_role event_role counts = omega arith
more-by constant_role fluent_role counts = omega arith
more-by constant_role predicate_role counts = omega arith
more-by event_role constant_role counts = omega arith
more-by event_role event_role counts = omega arith
more-by event_role fluent_role counts = omega arith
more-by event_role predicate_role counts = omega arith
more-by fluent_role constant_role counts = omega arith
more-by fluent_role event_role counts = omega arith
more-by fluent_role fluent_role counts = omega arith
more-by fluent_role predicate_role counts = omega arith
more-by predicate_role constant_role counts = omega arith
more-by predicate_role event_role counts = omega arith
more-by predicate_role fluent_role counts = omega arith
more-by predicate_role predicate_role counts = omega arith

counts-snoc : (counts : Counts) (es : List SymbolEntry) (e : SymbolEntry) → AreCounts counts es → AreCounts (with_one_more e.role counts) (es ++ e ∷ [])
counts-snoc counts es e are r = more-by r e.role counts ∙ ap (λ (n : ℕ). n + one (is_role r e.role)) (are r) ∙ sym (count-snoc r es e)

numbered-snoc : (before : List SymbolEntry) (es : List (List ℕ × Symbol)) (e : List ℕ × Symbol) → AreNumbered before es → e.1.number ≡ count_of (role_of e.1.role) (before ++ symbols_in_table es) → AreNumbered before (es ++ e ∷ [])
numbered-snoc before [] e are is = (is ∙ ap (count_of (role_of e.1.role)) (append-nil before), tt)
numbered-snoc before (x ∷ es) e are is = (are.0, numbered-snoc (before ++ symbol_of x ∷ []) es e are.1 (is ∙ ap (count_of (role_of e.1.role)) (sym (append_assoc before (symbol_of x ∷ []) (symbols_in_table es)))))

-- a table with one more symbol, numbered by the count of its role
pub table-snoc : (es : List (List ℕ × Symbol)) (counts : Counts) (e : List ℕ × Symbol) → IsSymbolTable es counts → e.1.number ≡ count_in counts (role_of e.1.role) → IsSymbolTable (es ++ e ∷ []) (with_one_more (role_of e.1.role) counts)
table-snoc es counts e is number = record {
  numbered = numbered-snoc [] es e is.numbered (number ∙ is.counted (role_of e.1.role));
  counted = subst (λ xs. AreCounts (with_one_more (role_of e.1.role) counts) xs) (sym (map-append symbol_of es (e ∷ []))) (counts-snoc counts (symbols_in_table es) (symbol_of e) is.counted);
}

-- ---- the number of a symbol

past-by : (b : Bool) (test : List ℕ → Bool) (x : List ℕ) (xs ys : List (List ℕ)) → test x ≡ b → (test x || list_any test xs) ≡ false
    → (list_any test xs ≡ false → position_or_len test (xs ++ ys) ≡ length xs + position_or_len test ys) → position_or_len test (x ∷ (xs ++ ys)) ≡ length (x ∷ xs) + position_or_len test ys
past-by true test x xs ys is none rest = absurd (true≢false (sym (ap (λ c. c || list_any test xs) is) ∙ none))
past-by false test x xs ys is none rest =
    let more = rest (sym (ap (λ c. c || list_any test xs) is) ∙ none) in
    let past : position_or_len test (x ∷ (xs ++ ys)) ≡ 1 + position_or_len test (xs ++ ys) = rw is refl in
    omega (arith, more, past)

place-past : (test : List ℕ → Bool) (xs ys : List (List ℕ)) → list_any test xs ≡ false → position_or_len test (xs ++ ys) ≡ length xs + position_or_len test ys
place-past test [] ys none = omega arith
place-past test (x ∷ xs) ys none = past-by (test x) test x xs ys refl none (place-past test xs ys)

none-cond : (b : Bool) (test : List ℕ → Bool) (e : SymbolEntry) (xs : List SymbolEntry) → (test e.name || list_any test (map symbol_name xs)) ≡ false → list_any test (map symbol_name (cond b (e ∷ xs) xs)) ≡ false
none-cond true test e xs none = none
none-cond false test e xs none = by (test e.name) none
  where
    by : (c : Bool) → (c || list_any test (map symbol_name xs)) ≡ false → list_any test (map symbol_name xs) ≡ false
    by true bad = absurd (true≢false bad)
    by false rest = rest

or-first : (b c : Bool) → (b || c) ≡ false → b ≡ false
or-first true c h = absurd (true≢false h)
or-first false c h = refl

or-last : (b c : Bool) → (b || c) ≡ false → c ≡ false
or-last true c h = absurd (true≢false h)
or-last false c h = h

none-of : (r : Role) (test : List ℕ → Bool) (es : List SymbolEntry) → list_any test (map symbol_name es) ≡ false → list_any test (map symbol_name (symbols_of r es)) ≡ false
none-of r test [] none = refl
none-of r test (e ∷ es) none =
    let here = or-first (test e.name) (list_any test (map symbol_name es)) none in
    let rest = none-of r test es (or-last (test e.name) (list_any test (map symbol_name es)) none) in
    none-cond (is_role r e.role) test e (symbols_of r es) (rw here rest)

length-names : (es : List SymbolEntry) → length (map symbol_name es) ≡ length es
length-names es = length-map es symbol_name

-- the place of a symbol among those of its role, where its name isn't among those before
found-here : (k : List ℕ) (before rest : List SymbolEntry) (e : SymbolEntry) → bytes_eq k e.name ≡ true → is_among k (map symbol_name before) ≡ false → count_of e.role before ≡ place_of symbol_name (symbols_of e.role (before ++ e ∷ rest)) k
found-here k before rest e same none =
    let r = e.role in
    let after : symbols_of r (e ∷ rest) ≡ e ∷ symbols_of r rest = rw (role-self r) refl in
    let all : symbols_of r (before ++ e ∷ rest) ≡ symbols_of r before ++ e ∷ symbols_of r rest = symbols_of-append r before (e ∷ rest) ∙ ap (λ (xs : List SymbolEntry). symbols_of r before ++ xs) after in
    let place : place_of symbol_name (symbols_of r (before ++ e ∷ rest)) k ≡ position_or_len (bytes_eq k) (map symbol_name (symbols_of r before) ++ map symbol_name (e ∷ symbols_of r rest)) = ap (λ (xs : List SymbolEntry). place_of symbol_name xs k) all ∙ ap (position_or_len (bytes_eq k)) (map-append symbol_name (symbols_of r before) (e ∷ symbols_of r rest)) in
    let past = place-past (bytes_eq k) (map symbol_name (symbols_of r before)) (map symbol_name (e ∷ symbols_of r rest)) (none-of r (bytes_eq k) before none) in
    let first : position_or_len (bytes_eq k) (map symbol_name (e ∷ symbols_of r rest)) ≡ 0 = rw same refl in
    let long = length-names (symbols_of r before) in
    omega (arith, place, past, first, long)

none-snoc : (k : List ℕ) (before : List SymbolEntry) (e : SymbolEntry) → is_among k (map symbol_name before) ≡ false → bytes_eq k e.name ≡ false → is_among k (map symbol_name (before ++ e ∷ [])) ≡ false
none-snoc k [] e none other = rw other refl
none-snoc k (x ∷ before) e none other =
    let here = or-first (bytes_eq k x.name) (is_among k (map symbol_name before)) none in
    rw here (none-snoc k before e (or-last (bytes_eq k x.name) (is_among k (map symbol_name before)) none) other)

some-is : {a b : Symbol} → ◌≡◌ {A = Option Symbol} (Some a) (Some b) → a ≡ b
some-is {a} is = ap (λ o. unwrap_or o a) is

abbrev IsNumberAmong : List ℕ → List SymbolEntry → Symbol → Type 0
IsNumberAmong k es s = s.number ≡ place_of symbol_name (symbols_of (role_of s.role) es) k

number-by : (b : Bool) (k : List ℕ) (before : List SymbolEntry) (e : List ℕ × Symbol) (es : List (List ℕ × Symbol)) (s : Symbol) → bytes_eq k e.0 ≡ b
    → e.1.number ≡ count_of (role_of e.1.role) before → is_among k (map symbol_name before) ≡ false → cond b (Some e.1) (lookup (bytes_eq k) es) ≡ Some s
    → (is_among k (map symbol_name (before ++ symbol_of e ∷ [])) ≡ false → lookup (bytes_eq k) es ≡ Some s → IsNumberAmong k ((before ++ symbol_of e ∷ []) ++ symbols_in_table es) s)
    → IsNumberAmong k (before ++ symbols_in_table (e ∷ es)) s
number-by true k before e es s is number none found rest = subst (IsNumberAmong k (before ++ symbols_in_table (e ∷ es))) (some-is found) (number ∙ found-here k before (symbols_in_table es) (symbol_of e) is none)
number-by false k before e es s is number none found rest = subst (λ xs. IsNumberAmong k xs s) (append_assoc before (symbol_of e ∷ []) (symbols_in_table es)) (rest (none-snoc k before (symbol_of e) none is) found)

-- the number of a symbol that is found
pub number-found : (k : List ℕ) (before : List SymbolEntry) (es : List (List ℕ × Symbol)) (s : Symbol) → AreNumbered before es → is_among k (map symbol_name before) ≡ false → lookup (bytes_eq k) es ≡ Some s
    → IsNumberAmong k (before ++ symbols_in_table es) s
number-found k before [] s are none found = absurd (true≢false (sym (ap is_some found)))
number-found k before (e ∷ es) s are none found = number-by (bytes_eq k e.0) k before e es s refl are.0 none found (number-found k (before ++ symbol_of e ∷ []) es s are.1)

-- the same of an answer that may be none
pub number-if-found : (k : List ℕ) (es : List (List ℕ × Symbol)) (now : List SymbolEntry) (found : Option (Bor Symbol)) → AreNumbered [] es → symbols_in_table es ≡ now → option_copied found ≡ lookup (bytes_eq k) es
    → IfSome found (λ s. s.now.number ≡ place_of symbol_name (symbols_of (role_of s.now.role) now) k)
number-if-found k es now None are is found = tt
number-if-found k es now (Some s) are is found = subst (λ xs. IsNumberAmong k xs s.now) is (number-found k [] es s.now are refl (sym found))
