-- Sorts by their numbers are as they are by their names.
use Rattle.std.proofs.Common.{◌≡◌, ℕ, zero, suc, ◌<◌, Bool, true, false, not, ◌&&◌, ◌||◌, List, [], ◌∷◌, map, length, Option, Some, None, option_map, slice_get, refl, sym, ap, ◌∙◌, if◌then◌else◌, arith}
use Rattle.std.proofs.lemmas.List.{length-map}
use Rattle.std.specs.List.{list_all}
use Rattle.std.specs.Str.{bytes_eq}
use Rattle.std.specs.Cmp.Lexicographic.{bytes_decides}
use Rattle.ec_logic.specs.Signature as logic
use Rattle.ec_logic.specs.Signature.{Signature, SortRow, Kind, plain, integer, event_kind, fluent_kind}
use Rattle.ec_logic.specs.Valid.{EachSort, has_range, is_range, kind_is_event, kind_is_fluent, kind_is_integer, kind_is_plain, kind_is_reified, range_of, row_passes, row_range, sort_passes}
use Rattle.ec_logic.specs.Valid as valid
use Rattle.ec_names.specs.Names.{Names, is_integer_sort, is_reified_sort, kind_of, parent_in, parent_of, range_named, sort_name, sort_number, word_event, word_fluent, word_integer}
use Rattle.ec_declare.specs.Faults.{is_known, is_plain_sort}
use Rattle.ec_declare.specs.Signatures.{ends_of, signature_of, sort_row}
use Rattle.ec_declare.proofs.Facts.{range_ok, sort_ok}
use Rattle.ec_declare.proofs.Places.{IsApart, IsFound, is-found}
use Rattle.ec_declare.proofs.Deciding.{none-some, some-is}

-- what stands at a place of a list that is made from another
pub record IsMade {X Y : Type 0} (f : X → Y) (xs : List X) (i : ℕ) (y : Y) : Type 0 where
  pub item : X
  pub at : slice_get xs i ≡ Some item
  pub is : y ≡ f item

pub made-at : {X Y : Type 0} (f : X → Y) (xs : List X) (i : ℕ) (y : Y) → slice_get (map f xs) i ≡ Some y → IsMade f xs i y
made-at f [] i y h = absurd (none-some y h)
made-at f (x ∷ xs) zero y h = record { item = x; at = refl; is = sym (some-is (f x) y h) }
made-at f (x ∷ xs) (suc i) y h = let m = made-at f xs i y h in record { item = m.item; at = m.at; is = m.is }

pub slice_get-map : {X Y : Type 0} (f : X → Y) (xs : List X) (i : ℕ) → slice_get (map f xs) i ≡ option_map f (slice_get xs i)
slice_get-map f [] i = refl
slice_get-map f (x ∷ xs) zero = refl
slice_get-map f (x ∷ xs) (suc i) = slice_get-map f xs i

-- ---- kinds

kind-integer-by : (a b c : Bool) → (a ≡ true → c ≡ false) → (b ≡ true → c ≡ false) → kind_is_integer (if a then event_kind else if b then fluent_kind else if c then integer else plain) ≡ c
kind-integer-by true b c f g = sym (f refl)
kind-integer-by false true c f g = sym (g refl)
kind-integer-by false false true f g = refl
kind-integer-by false false false f g = refl

kind-event-by : (a b c : Bool) → kind_is_event (if a then event_kind else if b then fluent_kind else if c then integer else plain) ≡ a
kind-event-by true b c = refl
kind-event-by false true c = refl
kind-event-by false false true = refl
kind-event-by false false false = refl

kind-fluent-by : (a b c : Bool) → (a ≡ true → b ≡ false) → kind_is_fluent (if a then event_kind else if b then fluent_kind else if c then integer else plain) ≡ b
kind-fluent-by true b c f = sym (f refl)
kind-fluent-by false true c f = refl
kind-fluent-by false false true f = refl
kind-fluent-by false false false f = refl

kind-reified-by : (a b c : Bool) → kind_is_reified (if a then event_kind else if b then fluent_kind else if c then integer else plain) ≡ (a || b)
kind-reified-by true b c = refl
kind-reified-by false true c = refl
kind-reified-by false false true = refl
kind-reified-by false false false = refl

kind-plain-by : (a b c : Bool) → kind_is_plain (if a then event_kind else if b then fluent_kind else if c then integer else plain) ≡ (not (a || b) && not c)
kind-plain-by true b c = refl
kind-plain-by false true c = refl
kind-plain-by false false true = refl
kind-plain-by false false false = refl

-- What is known of the names of a book without faults.
pub record AreSorts (names : Names) : Type 0 where
  pub apart : IsApart sort_name [] names.sorts
  pub ok : list_all (sort_ok names) names.sorts ≡ true
  pub ranges_ok : list_all (range_ok names) names.ranges ≡ true
  pub integer_known : is_known names word_integer ≡ true
  pub event_known : is_known names word_event ≡ true
  pub fluent_known : is_known names word_fluent ≡ true
  pub integer_at : sort_number names word_integer ≡ 1
  pub event_at : sort_number names word_event ≡ 4
  pub fluent_at : sort_number names word_fluent ≡ 5
  pub event_root : is_integer_sort names word_event ≡ false
  pub fluent_root : is_integer_sort names word_fluent ≡ false
  pub size : ℕ
  pub size_is : length names.sorts ≡ suc size

module _ (names : Names) (are : AreSorts names) where
  pub kind-integer : (w : List ℕ) → kind_is_integer (kind_of names w) ≡ is_integer_sort names w
  kind-integer w =
      kind-integer-by (bytes_eq w word_event) (bytes_eq w word_fluent) (is_integer_sort names w)
      (λ a. ap (is_integer_sort names) ((bytes_decides w word_event).0 a) ∙ are.event_root) (λ b. ap (is_integer_sort names) ((bytes_decides w word_fluent).0 b) ∙ are.fluent_root)

  pub kind-event : (w : List ℕ) → kind_is_event (kind_of names w) ≡ bytes_eq w word_event
  kind-event w = kind-event-by (bytes_eq w word_event) (bytes_eq w word_fluent) (is_integer_sort names w)

  pub kind-fluent : (w : List ℕ) → kind_is_fluent (kind_of names w) ≡ bytes_eq w word_fluent
  kind-fluent w = kind-fluent-by (bytes_eq w word_event) (bytes_eq w word_fluent) (is_integer_sort names w) (λ a. ap (λ v. bytes_eq v word_fluent) ((bytes_decides w word_event).0 a))

  kind-reified : (w : List ℕ) → kind_is_reified (kind_of names w) ≡ is_reified_sort w
  kind-reified w = kind-reified-by (bytes_eq w word_event) (bytes_eq w word_fluent) (is_integer_sort names w)

  kind-plain : (w : List ℕ) → kind_is_plain (kind_of names w) ≡ is_plain_sort names w
  kind-plain w = kind-plain-by (bytes_eq w word_event) (bytes_eq w word_fluent) (is_integer_sort names w)

  -- ---- the row of a known sort

  found : (w : List ℕ) → is_known names w ≡ true → IsFound sort_name names.sorts w
  found w known = is-found sort_name names.sorts w known

  row-of : (w : List ℕ) (known : is_known names w ≡ true) → slice_get (signature_of names).sorts (sort_number names w) ≡ Some (sort_row names (found w known).item)
  row-of w known = slice_get-map (sort_row names) names.sorts (sort_number names w) ∙ ap (option_map (sort_row names)) (found w known).there

  pub number-within : (w : List ℕ) → is_known names w ≡ true → sort_number names w < length (signature_of names).sorts
  number-within w known = let small = (found w known).within in let len = length-map names.sorts (sort_row names) in omega (arith, small, len)

  pub passes : (test : Kind → Bool) (w : List ℕ) → is_known names w ≡ true → sort_passes (λ row. test row.kind) (signature_of names) (sort_number names w) ≡ test (kind_of names w)
  passes test w known = ap (row_passes (λ row. test row.kind)) (row-of w known) ∙ ap (λ v. test (kind_of names v)) (found w known).has_name

  pub integer-number : (w : List ℕ) → is_known names w ≡ true → valid.is_integer_sort (signature_of names) (sort_number names w) ≡ is_integer_sort names w
  integer-number w known = passes kind_is_integer w known ∙ kind-integer w

  pub plain-number : (w : List ℕ) → is_known names w ≡ true → valid.is_plain_sort (signature_of names) (sort_number names w) ≡ is_plain_sort names w
  plain-number w known = passes kind_is_plain w known ∙ kind-plain w

  pub reified-number : (w : List ℕ) → is_known names w ≡ true → valid.is_reified_sort (signature_of names) (sort_number names w) ≡ is_reified_sort w
  reified-number w known = passes kind_is_reified w known ∙ kind-reified w

  pub range-number : (w : List ℕ) → is_known names w ≡ true → range_of (signature_of names) (sort_number names w) ≡ option_map ends_of (range_named names w)
  range-number w known = ap row_range (row-of w known) ∙ ap (λ v. option_map ends_of (range_named names v)) (found w known).has_name

  parent-row : Option SortRow → Option ℕ
  parent-row None = None
  parent-row (Some row) = row.parent

  pub parent-number : (w : List ℕ) → is_known names w ≡ true → logic.parent_of (signature_of names) (sort_number names w) ≡ option_map (sort_number names) (parent_of names w)
  parent-number w known = parent-by (slice_get (signature_of names).sorts (sort_number names w)) (sort_row names (found w known).item) refl (row-of w known) ∙ ap (λ o. option_map (sort_number names) (parent_in o)) (sym (found w known).found)
    where
      parent-by : (o : Option SortRow) (row : SortRow) → slice_get (signature_of names).sorts (sort_number names w) ≡ o → o ≡ Some row → logic.parent_of (signature_of names) (sort_number names w) ≡ row.parent
      parent-by o row is some = rw (is ∙ some) refl
