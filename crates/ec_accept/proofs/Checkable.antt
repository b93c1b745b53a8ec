-- A sound book can be checked.
use Rattle.std.proofs.Common.{◌≡◌, ℕ, ◌+◌, List, [], ◌∷◌, ◌++◌, map, length, All, Bool, true, refl, ap, arith}
use Rattle.std.specs.List.{list_all}
use Rattle.std.proofs.lemmas.Bool.{and_from, and_parts}
use Rattle.std.proofs.lemmas.List.Elements.{All-cons, All-head, All-nil, All-tail}
use Rattle.ec_declare.specs.Sound.{has_upper_name}
use Rattle.ec_load.specs.Sound as load
use Rattle.ec_load.specs.Sound.{IsPlaced, IsSound, IsUpperWord, counted_placed, declared_names, names_count, shape_name}
use Rattle.ec_logic.specs.Valid.{is_upper_word}
use Rattle.ec_names.specs.Counted.{declared_count, shapes_count, things}
use Rattle.ec_names.specs.Names.{Role, constant_entry, event_role, fluent_role, joined, predicate_role, shape_entry, symbols_in}
use Rattle.ec_sort.specs.Books.{IsCheckable, IsPlacedIn}
use Rattle.ec_syntax.specs.Written as w

-- ---- names

upper_word : (name : List ℕ) → IsUpperWord name → is_upper_word name ≡ true
upper_word [] h = h
upper_word (b ∷ bs) h = h

all_append : {X : Type 0} (p : X → Bool) (xs ys : List X) → list_all p xs ≡ true → list_all p ys ≡ true → list_all p (xs ++ ys) ≡ true
all_append p [] ys h e = e
all_append p (x ∷ xs) ys h e = let parts = and_parts (p x) (list_all p xs) h in and_from (p x) (list_all p (xs ++ ys)) parts.0 (all_append p xs ys parts.1 e)

constants_upper : (sort : List ℕ) (names : List (List ℕ)) → All IsUpperWord names → list_all has_upper_name (map (constant_entry sort) names) ≡ true
constants_upper sort [] a = refl
constants_upper sort (name ∷ names) a =
    and_from (is_upper_word name) _ (upper_word name (All-head IsUpperWord name names a)) (constants_upper sort names (All-tail IsUpperWord name names a))

shapes_upper : (role : Role) (shapes : List w.Shape) → All IsUpperWord (map shape_name shapes) → list_all has_upper_name (map (shape_entry role) shapes) ≡ true
shapes_upper role [] a = refl
shapes_upper role (shape ∷ shapes) a =
    and_from (is_upper_word shape.name) _ (upper_word shape.name (All-head IsUpperWord shape.name (map shape_name shapes) a))
    (shapes_upper role shapes (All-tail IsUpperWord shape.name (map shape_name shapes) a))

content_upper : (content : w.Content) → All IsUpperWord (declared_names content) → list_all has_upper_name (symbols_in content) ≡ true
content_upper (w.sorts items) a = refl
content_upper (w.reified sort) a = refl
content_upper (w.constants sort names) a = constants_upper sort names a
content_upper (w.events shapes) a = shapes_upper event_role shapes a
content_upper (w.fluents shapes) a = shapes_upper fluent_role shapes a
content_upper (w.predicates shapes) a = shapes_upper predicate_role shapes a
content_upper (w.noninertial names) a = refl
content_upper (w.range sort low high) a = refl
content_upper (w.load file) a = refl
content_upper (w.choice name on) a = refl
content_upper w.ignored a = refl
content_upper (w.completion label predicate) a = refl
content_upper (w.left_out word) a = refl
content_upper (w.sentence label tree) a = refl

all_upper : (files : ℕ) (statements : List w.Placed) → All (IsPlaced files) statements → list_all has_upper_name (joined symbols_in statements) ≡ true
all_upper files [] a = refl
all_upper files (p ∷ statements) a =
    all_append has_upper_name (symbols_in p.statement.content) (joined symbols_in statements) (content_upper p.statement.content (All-head (IsPlaced files) p statements a).named)
    (all_upper files statements (All-tail (IsPlaced files) p statements a))

-- ---- numbers

shapes_same : (shapes : List w.Shape) → shapes_count shapes ≡ load.shapes_count shapes
shapes_same [] = refl
shapes_same (shape ∷ shapes) = ap (λ n. 1 + length shape.sorts + n) (shapes_same shapes)

content_same : (content : w.Content) → declared_count content ≡ names_count content
content_same (w.sorts items) = refl
content_same (w.reified sort) = refl
content_same (w.constants sort names) = refl
content_same (w.events shapes) = shapes_same shapes
content_same (w.fluents shapes) = shapes_same shapes
content_same (w.predicates shapes) = shapes_same shapes
content_same (w.noninertial names) = refl
content_same (w.range sort low high) = refl
content_same (w.load file) = refl
content_same (w.choice name on) = refl
content_same w.ignored = refl
content_same (w.completion label predicate) = refl
content_same (w.left_out word) = refl
content_same (w.sentence label tree) = refl

things_same : (statements : List w.Placed) → things statements ≡ counted_placed statements
things_same [] = refl
things_same (p ∷ statements) = omega (arith, content_same p.statement.content, things_same statements)

-- ---- places

all_placed : (files : ℕ) (statements : List w.Placed) → All (IsPlaced files) statements → All (IsPlacedIn files) statements
all_placed files [] a = All-nil (IsPlacedIn files)
all_placed files (p ∷ statements) a =
    All-cons (IsPlacedIn files) p statements (All-head (IsPlaced files) p statements a).file (all_placed files statements (All-tail (IsPlaced files) p statements a))

pub checkable : (book : w.Book) → IsSound book → IsCheckable book
checkable book sound = record {
  placed = all_placed (length book.files) book.statements sound.placed;
  upper = all_upper (length book.files) book.statements sound.placed;
  few = omega (arith, things_same book.statements, sound.few);
}
