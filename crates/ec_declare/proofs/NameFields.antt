-- The names of a signature's symbols are upper-case and distinct, and its lists aren't too long.
use Rattle.std.proofs.Common.{◌≡◌, ℕ, suc, ◌^◌, ◌≤◌, ◌<◌, Bool, true, false, cond, List, [], ◌∷◌, ◌++◌, map, length, refl, sym, ap, ap₂, subst, ◌∙◌, ◌≢◌, arith}
use Rattle.std.proofs.lemmas.Bool.{le-leb, leb-true}
use Rattle.std.proofs.lemmas.List.{length-map, map-append}
use Rattle.std.proofs.lemmas.List.Sums.{AllPass-from_list_all}
use Rattle.std.proofs.lemmas.List.Sorted.{IsPermutation-append_left, IsPermutation-cons, IsPermutation-map, IsPermutation-middle, IsPermutation-refl, IsPermutation-sym, IsPermutation-trans}
use Rattle.std.proofs.lemmas.Map.Keys.{IsDistinct-IsPermutation}
use Rattle.std.proofs.lemmas.Map.Made.{AllPairs-from_IsDistinct}
use Rattle.std.specs.Prelude.{nat_le, All, AllPairs}
use Rattle.std.specs.List.{list_all, AllByRecursion, IsDistinct}
use Rattle.std.specs.List.Sorted.{IsPermutation}
use Rattle.std.specs.Str.{bytes_eq}
use Rattle.std.specs.Cmp.Lexicographic.{bytes_decides}
use Rattle.ec_logic.specs.Signature.{ConstantRow, SymbolRow}
use Rattle.ec_logic.specs.Valid.{EachSymbol, HasListableRows, IsListable, is_upper_word, names_of, symbol_names}
use Rattle.ec_syntax.specs.Written as w
use Rattle.ec_names.specs.Names.{Names, Role, constant_role, event_role, fluent_role, predicate_role, SymbolEntry, constant_entry, is_among, is_role, joined, placed_content, shape_entry, sort_number, symbol_name, symbols_in, symbols_of}
use Rattle.ec_names.specs.Counted.{declared_count, shapes_count, things}
use Rattle.ec_declare.specs.Signatures.{constant_row, rows_of, signature_of, sort_row, symbol_row}
use Rattle.ec_declare.specs.Sound.{has_upper_name}
use Rattle.ec_declare.proofs.Numbers.{made-at}
use Rattle.ec_declare.proofs.Places.{IsApart, among-last, swapped}
use Rattle.ec_declare.proofs.Deciding.{all-append, all-at, all-filter, all-map, and-true}

-- ---- the names of rows

constant-names : (names : Names) (es : List SymbolEntry) → map (λ (row : ConstantRow). row.name) (map (constant_row names) es) ≡ map symbol_name es
constant-names names [] = refl
constant-names names (e ∷ es) = ap (λ (ns : List (List ℕ)). e.name ∷ ns) (constant-names names es)

row-names : (names : Names) (es : List SymbolEntry) → symbol_names (map (symbol_row names) es) ≡ map symbol_name es
row-names names [] = refl
row-names names (e ∷ es) = ap (λ (ns : List (List ℕ)). e.name ∷ ns) (row-names names es)

abbrev by_role : List SymbolEntry → List SymbolEntry
by_role es = symbols_of constant_role es ++ symbols_of event_role es ++ symbols_of fluent_role es ++ symbols_of predicate_role es

names-joined : (a b c d : List SymbolEntry) → map symbol_name a ++ map symbol_name b ++ map symbol_name c ++ map symbol_name d ≡ map symbol_name (a ++ b ++ c ++ d)
names-joined a b c d =
    sym (map-append symbol_name (a ++ b ++ c) d ∙ ap (λ (ns : List (List ℕ)). ns ++ map symbol_name d) (map-append symbol_name (a ++ b) c ∙ ap (λ (ns : List (List ℕ)). ns ++ map symbol_name c) (map-append symbol_name a b)))

names-are : (names : Names) → names_of (signature_of names) ≡ map symbol_name (by_role names.symbols)
names-are names =
    let c = constant-names names (symbols_of constant_role names.symbols) in
    let e = row-names names (symbols_of event_role names.symbols) in
    let f = row-names names (symbols_of fluent_role names.symbols) in
    let p = row-names names (symbols_of predicate_role names.symbols) in
    ap₂ (λ (a b : List (List ℕ)). a ++ b) (ap₂ (λ (a b : List (List ℕ)). a ++ b) (ap₂ (λ (a b : List (List ℕ)). a ++ b) c e) f) p
    ∙ names-joined (symbols_of constant_role names.symbols) (symbols_of event_role names.symbols) (symbols_of fluent_role names.symbols) (symbols_of predicate_role names.symbols)

-- ---- sorted by their roles they are the same

parted-by : (r : Role) (x : SymbolEntry) (c e f p : List SymbolEntry)
    → IsPermutation (x ∷ (c ++ e ++ f ++ p)) (cond (is_role constant_role r) (x ∷ c) c ++ cond (is_role event_role r) (x ∷ e) e ++ cond (is_role fluent_role r) (x ∷ f) f ++ cond (is_role predicate_role r) (x ∷ p) p)
parted-by constant_role x c e f p = IsPermutation-refl (x ∷ (c ++ e ++ f ++ p))
parted-by event_role x c e f p =
    IsPermutation-sym (c ++ (x ∷ e) ++ f ++ p) (x ∷ (c ++ e ++ f ++ p))
    (IsPermutation-append_left p (c ++ (x ∷ e) ++ f) (x ∷ (c ++ e ++ f)) (IsPermutation-append_left f (c ++ (x ∷ e)) (x ∷ (c ++ e)) (IsPermutation-middle c x e)))
parted-by fluent_role x c e f p =
    IsPermutation-sym (c ++ e ++ (x ∷ f) ++ p) (x ∷ (c ++ e ++ f ++ p)) (IsPermutation-append_left p (c ++ e ++ (x ∷ f)) (x ∷ (c ++ e ++ f)) (IsPermutation-middle (c ++ e) x f))
parted-by predicate_role x c e f p = IsPermutation-sym (c ++ e ++ f ++ (x ∷ p)) (x ∷ (c ++ e ++ f ++ p)) (IsPermutation-middle (c ++ e ++ f) x p)

parted : (es : List SymbolEntry) → IsPermutation es (by_role es)
parted [] = IsPermutation-refl []
parted (x ∷ es) =
    IsPermutation-trans (x ∷ es) (x ∷ by_role es) (by_role (x ∷ es)) (IsPermutation-cons x es (by_role es) (parted es))
    (parted-by x.role x (symbols_of constant_role es) (symbols_of event_role es) (symbols_of fluent_role es) (symbols_of predicate_role es))

-- ---- distinct

apart-later : (v : List ℕ) (before : List (List ℕ)) (xs : List SymbolEntry) → IsApart symbol_name before xs → ((u : List ℕ) → is_among u before ≡ false → bytes_eq u v ≡ false) → AllByRecursion (λ y. bytes_eq v y ≡ false) (map symbol_name xs)
apart-later v before [] apart other = tt
apart-later v before (x ∷ xs) apart other =
    (swapped x.name v (other x.name apart.0), apart-later v (before ++ x.name ∷ []) xs apart.1 (λ u h. other u (among-last symbol_name u before x.name h).0))

distinct-apart : (before : List (List ℕ)) (xs : List SymbolEntry) → IsApart symbol_name before xs → IsDistinct bytes_eq (map symbol_name xs)
unfolding IsDistinct
distinct-apart before [] apart = tt
distinct-apart before (x ∷ xs) apart =
    (apart-later x.name (before ++ x.name ∷ []) xs apart.1 (λ u h. (among-last symbol_name u before x.name h).1), distinct-apart (before ++ x.name ∷ []) xs apart.1)

flips : (x y : List ℕ) → bytes_eq x y ≡ bytes_eq y x
flips x y = by (bytes_eq x y) refl
  where
    by : (b : Bool) → bytes_eq x y ≡ b → bytes_eq x y ≡ bytes_eq y x
    by true is = is ∙ sym ((bytes_decides y x).1 (sym ((bytes_decides x y).0 is)))
    by false is = is ∙ sym (swapped x y is)

pub distinct-names : (names : Names) → IsApart symbol_name [] names.symbols → AllPairs (λ a b. a ≢ b) (names_of (signature_of names))
distinct-names names apart =
    subst (λ ns. AllPairs (λ (a b : List ℕ). a ≢ b) ns) (sym (names-are names))
    (AllPairs-from_IsDistinct bytes_decides (map symbol_name (by_role names.symbols))
    (IsDistinct-IsPermutation bytes_eq flips (map symbol_name names.symbols) (map symbol_name (by_role names.symbols)) (IsPermutation-map symbol_name names.symbols (by_role names.symbols) (parted names.symbols)) (distinct-apart [] names.symbols apart)))

-- ---- upper-case

all-roles : (p : SymbolEntry → Bool) (es : List SymbolEntry) → list_all p es ≡ true → list_all p (by_role es) ≡ true
all-roles p es h =
    all-append p (symbols_of constant_role es ++ symbols_of event_role es ++ symbols_of fluent_role es) (symbols_of predicate_role es)
    (all-append p (symbols_of constant_role es ++ symbols_of event_role es) (symbols_of fluent_role es)
    (all-append p (symbols_of constant_role es) (symbols_of event_role es) (of constant_role) (of event_role)) (of fluent_role))
    (of predicate_role)
  where
    of : (r : Role) → list_all p (symbols_of r es) ≡ true
    of r = all-filter p (λ (e : SymbolEntry). is_role r e.role) es h

pub upper-names : (names : Names) → list_all has_upper_name names.symbols ≡ true → All (λ name. is_upper_word name ≡ true) (names_of (signature_of names))
upper-names names h =
    subst (All (λ name. is_upper_word name ≡ true)) (sym (names-are names))
    (AllPass-from_list_all is_upper_word (map symbol_name (by_role names.symbols)) (all-map is_upper_word symbol_name (by_role names.symbols) (all-roles has_upper_name names.symbols h)))

-- ---- how many

filter-by : (b : Bool) (e : SymbolEntry) (es : List SymbolEntry) (n : ℕ) → length es ≤ n → length (cond b (e ∷ es) es) ≤ suc n
filter-by true e es n few = omega (arith, few)
filter-by false e es n few = omega (arith, few)

role-few : (r : Role) (es : List SymbolEntry) → length (symbols_of r es) ≤ length es
role-few r [] = omega arith
role-few r (e ∷ es) = filter-by (is_role r e.role) e (symbols_of r es) (length es) (role-few r es)

abbrev pub is_short : SymbolEntry → Bool
is_short entry = nat_le (length entry.sorts) 1073741824

short-rows : (names : Names) (r : Role) → list_all is_short names.symbols ≡ true → EachSymbol (rows_of names r) (λ row. IsListable row.sorts)
short-rows names r short k row at =
    let m = made-at (symbol_row names) (symbols_of r names.symbols) k row at in
    let few = leb-true (length m.item.sorts) 1073741824 (all-at is_short (symbols_of r names.symbols) k m.item (all-filter is_short (λ (e : SymbolEntry). is_role r e.role) names.symbols short) m.at) in
    let len = length-map m.item.sorts (sort_number names) in
    let same = ap (λ (q : SymbolRow). length q.sorts) m.is in
    omega (arith, few, len, same)

pub listable : (names : Names) → length names.sorts < 2 ^ 31 → length names.symbols < 2 ^ 31 → list_all is_short names.symbols ≡ true → HasListableRows (signature_of names)
listable names sorts symbols short = record {
  sorts = let len = length-map names.sorts (sort_row names) in omega (arith, sorts, len);
  constants = let len = length-map (symbols_of constant_role names.symbols) (constant_row names) in let few = role-few constant_role names.symbols in omega (arith, symbols, len, few);
  events = let len = length-map (symbols_of event_role names.symbols) (symbol_row names) in let few = role-few event_role names.symbols in omega (arith, symbols, len, few);
  fluents = let len = length-map (symbols_of fluent_role names.symbols) (symbol_row names) in let few = role-few fluent_role names.symbols in omega (arith, symbols, len, few);
  predicates = let len = length-map (symbols_of predicate_role names.symbols) (symbol_row names) in let few = role-few predicate_role names.symbols in omega (arith, symbols, len, few);
  event_sorts = short-rows names event_role short;
  fluent_sorts = short-rows names fluent_role short;
  predicate_sorts = short-rows names predicate_role short;
}

short-shapes : (r : Role) (shapes : List w.Shape) → shapes_count shapes ≤ 1073741824 → list_all is_short (map (shape_entry r) shapes) ≡ true
short-shapes r [] few = refl
short-shapes r (s ∷ shapes) few =
    and-true (nat_le (length s.sorts) 1073741824) (list_all is_short (map (shape_entry r) shapes)) (le-leb (length s.sorts) 1073741824 (omega (arith, few))) (short-shapes r shapes (omega (arith, few)))

short-constants : (sort : List ℕ) (constants : List (List ℕ)) → list_all is_short (map (constant_entry sort) constants) ≡ true
short-constants sort [] = refl
short-constants sort (n ∷ constants) = and-true (nat_le 1 1073741824) (list_all is_short (map (constant_entry sort) constants)) (le-leb 1 1073741824 (omega arith)) (short-constants sort constants)

short-content : (c : w.Content) → declared_count c ≤ 1073741824 → list_all is_short (symbols_in c) ≡ true
short-content (w.sorts items) few = refl
short-content (w.reified sort) few = refl
short-content (w.constants sort constants) few = short-constants sort constants
short-content (w.events shapes) few = short-shapes event_role shapes few
short-content (w.fluents shapes) few = short-shapes fluent_role shapes few
short-content (w.predicates shapes) few = short-shapes predicate_role shapes few
short-content (w.noninertial symbols) few = refl
short-content (w.range sort low high) few = refl
short-content (w.load file) few = refl
short-content (w.choice name on) few = refl
short-content w.ignored few = refl
short-content (w.completion label predicate) few = refl
short-content (w.left_out word) few = refl
short-content (w.sentence label f) few = refl

pub short-joined : (ps : List w.Placed) → things ps ≤ 1073741824 → list_all is_short (joined symbols_in ps) ≡ true
short-joined [] few = refl
short-joined (p ∷ ps) few = all-append is_short (symbols_in (placed_content p)) (joined symbols_in ps) (short-content (placed_content p) (omega (arith, few))) (short-joined ps (omega (arith, few)))
