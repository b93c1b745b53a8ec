-- The texts of whole numbers and constants, read from the front.
use Rattle.std.proofs.Common.{◌≡◌, ℕ, zero, suc, ◌<◌, nat_lt, nat_le, Bool, true, false, ◌&&◌, if◌then◌else◌, List, [], ◌∷◌, ◌++◌, length, slice_get, Some, None, ℤ, pos, negsuc, refl, sym, ap, ◌∙◌, arith, codes}
use Rattle.std.specs.List.{list_all, AllByRecursion}
use Rattle.std.proofs.lemmas.Bool.Decides.{nat_tests}
use Rattle.std.proofs.lemmas.Option.{slice_get_within}
use Rattle.ec_logic.specs.Signature.{Signature, Kind, plain, integer, event_kind, fluent_kind, SortRow, ConstantRow}
use Rattle.ec_logic.specs.Extent.{members, rank, passing}
use Rattle.ec_logic.specs.Turns.{IsValueOf}
use Rattle.ec_logic.specs.Universe.{Universe, universe_of, extent_at, extent_of_range, is_constant_in}
use Rattle.ec_logic.specs.Narrative.{kind_of, integer_text, constant_text, simple_text, comma_separated, texts_of, applied}
use Rattle.ec_logic.specs.Valid.{IsSignature, is_integer_sort, is_reified_sort, range_of, is_range, kind_is_reified, is_upper_word, is_word_byte}
use Rattle.ec_logic.proofs.AxiomSentences.{range_end}
use Rattle.ec_logic.proofs.Extents.{extent_of_sort, extent_integer, range_value_within}
use Rattle.ec_logic.proofs.Tests.{and_parts}
use Rattle.ec_listing.proofs.Decoding.{begins_parting, is_plain_text, plain_decoded, IsDecoded, AreValues}
use Rattle.ec_listing.proofs.Numerals.{is_digit, IsSmall, integer_plain, integer_same, all_weaker, decimal_numeral, numeral_all}
use Rattle.ec_listing.proofs.Names.{upper_plain, same_constant, constant_place, name_upper}
use Rattle.std.proofs.Common.{decimal}

-- ---- printed texts, which have no byte of a control character

abbrev pub is_printed : List ℕ → Bool
is_printed text = list_all (λ b. nat_le 32 b) text

pub printed_append : (xs ys : List ℕ) → is_printed xs ≡ true → is_printed ys ≡ true → is_printed (xs ++ ys) ≡ true
printed_append [] ys h k = k
printed_append (x ∷ xs) ys h k = let both = and_parts (nat_le 32 x) (is_printed xs) h in rw (both.0, printed_append xs ys both.1 k) refl

digit_printed : (b : ℕ) → is_digit b ≡ true → nat_le 32 b ≡ true
digit_printed b h = let both = and_parts (nat_le 48 b) (nat_le b 57) h in grind (arith, nat_tests)

low_printed : (b : ℕ) → nat_le b 31 ≡ true → is_word_byte b ≡ false
low_printed b h = grind (arith, nat_tests)

word_printed : (b : ℕ) → is_word_byte b ≡ true → nat_le 32 b ≡ true
word_printed b h = by_test (nat_le b 31) refl
  where
    by_test : (t : Bool) → nat_le b 31 ≡ t → nat_le 32 b ≡ true
    by_test true e = let no = low_printed b e in cc
    by_test false e = grind (arith, nat_tests)

pub upper_printed : (name : List ℕ) → is_upper_word name ≡ true → is_printed name ≡ true
upper_printed [] h = cc
upper_printed (b ∷ bs) h =
    let both = and_parts (nat_le 65 b && nat_le b 90) (list_all is_word_byte bs) h in
    let first = and_parts (nat_le 65 b) (nat_le b 90) both.0 in
    let low : nat_le 32 b ≡ true = let f = first.0 in grind (arith, nat_tests) in
    rw (low, all_weaker is_word_byte (λ c. nat_le 32 c) word_printed bs both.1) refl

pub integer_printed : (z : ℤ) → IsSmall z → is_printed (integer_text z) ≡ true
integer_printed (pos n) h = all_weaker is_digit (λ b. nat_le 32 b) digit_printed (decimal n) (numeral_all (decimal n) (decimal_numeral n (omega (arith, h))))
integer_printed (negsuc n) h = all_weaker is_digit (λ b. nat_le 32 b) digit_printed (decimal (suc n)) (numeral_all (decimal (suc n)) (decimal_numeral (suc n) (omega (arith, h))))

separated_printed : (texts : List (List ℕ)) → AllByRecursion (λ text. is_printed text ≡ true) texts → is_printed (comma_separated texts) ≡ true
separated_printed [] h = refl
separated_printed (t ∷ []) h = h.0
separated_printed (t ∷ m ∷ ts) h = printed_append (t ++ codes ", ") (comma_separated (m ∷ ts)) (printed_append t (codes ", ") h.0 refl) (separated_printed (m ∷ ts) h.1)

pub applied_printed : (name : List ℕ) (texts : List (List ℕ)) → is_printed name ≡ true → AllByRecursion (λ text. is_printed text ≡ true) texts → is_printed (applied name texts) ≡ true
applied_printed name texts h k = printed_append (name ++ codes "(" ++ comma_separated texts) (codes ")") (printed_append (name ++ codes "(") (comma_separated texts) (printed_append name (codes "(") h refl) (separated_printed texts k)) refl

-- values of such a sort have printed texts
abbrev pub IsPrinted : Universe → (ℕ → ℤ → List ℕ) → ℕ → Type 0
IsPrinted universe text s = (v : ℤ) → IsValueOf (extent_at universe s) v → is_printed (text s v) ≡ true

pub texts_printed : (universe : Universe) (text : ℕ → ℤ → List ℕ) (ss : List ℕ) (vs : List ℤ) → AllByRecursion (IsPrinted universe text) ss → AreValues universe ss vs → AllByRecursion (λ t. is_printed t ≡ true) (texts_of text ss vs)
texts_printed universe text [] vs p h = tt
texts_printed universe text (s ∷ ss) [] p h = tt
texts_printed universe text (s ∷ ss) (v ∷ vs) p h = (p.0 v h.0, texts_printed universe text ss vs p.1 h.1)

-- ---- values of such an extent are places below its count

pub member_place : (count : ℕ) (test : ℕ → Bool) (v : ℤ) → IsValueOf (members count test) v → (n : ℕ) × (v ≡ pos n) × (n < count)
member_place count test (pos n) h = (n, refl, by_test (nat_lt n count && test n) refl h.1)
  where
    by_test : (b : Bool) → (nat_lt n count && test n) ≡ b → (if b then Some (passing test 0 n) else None) ≡ Some h.0 → n < count
    by_test true e k = let both = and_parts (nat_lt n count) (test n) e in let low = both.0 in grind (arith, nat_tests)
    by_test false e k = cc
member_place count test (negsuc n) h = cc

-- two plain texts under other names
pub plain_as : (x y a b r q : List ℕ) → x ≡ a → y ≡ b → is_plain_text a ≡ true → is_plain_text b ≡ true → begins_parting r ≡ true → begins_parting q ≡ true → x ++ r ≡ y ++ q → (a ≡ b) × (r ≡ q)
plain_as x y a b r q d e h k f g s = plain_decoded a b r q h k f g (ap (λ t. t ++ r) (sym d) ∙ (s ∙ ap (λ t. t ++ q) e))

pub some_at : {X : Type 0} (xs : List X) (k : ℕ) → k < length xs → (x : X) × (slice_get xs k ≡ Some x)
some_at [] k h = absurd (omega (arith, h))
some_at (x ∷ xs) zero h = (x, refl)
some_at (x ∷ xs) (suc k) h = some_at xs k (omega (arith, h))

module _ (signature : Signature) (valid : IsSignature signature) (s : ℕ) (row : SortRow) (found : slice_get signature.sorts s ≡ Some row) where
  abbrev universe : Universe
  universe = universe_of signature

  pub kind_at : kind_of signature s ≡ row.kind
  kind_at = rw found refl

  small_range : is_range (range_of signature s) ≡ true
  small_range = rw found (valid.small_ranges s row found)

  pub integer_small : (v : ℤ) → row.kind ≡ integer → IsValueOf (extent_at universe s) v → IsSmall v
  integer_small v k h =
      let t : is_integer_sort signature s ≡ true = rw (found, k) refl in
      let extent = extent_integer signature s t in
      let value : IsValueOf (extent_of_range (range_of signature s)) v = (h.0, ap (λ e. rank e v) (sym extent) ∙ h.1) in
      let low = range_value_within (range_of signature s) v value in
      let high = range_end (range_of signature s) small_range in
      omega (arith, low, high)

  pub constant_at : (v : ℤ) → row.kind ≡ plain → IsValueOf (extent_at universe s) v → (n : ℕ) × (constant : ConstantRow) × (v ≡ pos n) × (slice_get signature.constants n ≡ Some constant)
  constant_at v k h =
      let extent : extent_at universe s ≡ members (length signature.constants) (is_constant_in signature s) = extent_of_sort signature s (slice_get_within signature.sorts s row found) ∙ rw (found, k) refl in
      let value : IsValueOf (members (length signature.constants) (is_constant_in signature s)) v = (h.0, ap (λ e. rank e v) (sym extent) ∙ h.1) in
      let place = member_place (length signature.constants) (is_constant_in signature s) v value in
      let there = some_at signature.constants place.0 place.2 in
      (place.0, there.0, place.1, there.1)

  constant_text_at : (v : ℤ) (n : ℕ) (constant : ConstantRow) → v ≡ pos n → slice_get signature.constants n ≡ Some constant → constant_text signature v ≡ constant.name
  constant_text_at v n constant e f = rw (e, f) refl

  module _ (text : ℕ → ℤ → List ℕ) where
    pub integer_decoded : row.kind ≡ integer → ((v : ℤ) → text s v ≡ integer_text v) → IsDecoded universe text s
    integer_decoded k is = λ v w r q a b f g e.
        let small-v = integer_small v k a in
        let small-w = integer_small w k b in
        let both = plain_as (text s v) (text s w) (integer_text v) (integer_text w) r q (is v) (is w) (integer_plain v small-v) (integer_plain w small-w) f g e in
        (integer_same v w small-v small-w both.0, both.1)

    pub constant_decoded : row.kind ≡ plain → ((v : ℤ) → text s v ≡ constant_text signature v) → IsDecoded universe text s
    constant_decoded k is = λ v w r q a b f g e.
        let x = constant_at v k a in
        let y = constant_at w k b in
        let plain-x = upper_plain x.1.name (name_upper signature valid x.0 x.1.name (constant_place signature valid x.0 x.1 x.3)) in
        let plain-y = upper_plain y.1.name (name_upper signature valid y.0 y.1.name (constant_place signature valid y.0 y.1 y.3)) in
        let both = plain_as (text s v) (text s w) x.1.name y.1.name r q (is v ∙ constant_text_at v x.0 x.1 x.2 x.3) (is w ∙ constant_text_at w y.0 y.1 y.2 y.3) plain-x plain-y f g e in
        (x.2 ∙ (ap pos (same_constant signature valid x.0 y.0 x.1 y.1 x.3 y.3 both.0) ∙ sym y.2), both.1)

    pub integer_is_printed : row.kind ≡ integer → ((v : ℤ) → text s v ≡ integer_text v) → IsPrinted universe text s
    integer_is_printed k is = λ v a. rw (is v) (integer_printed v (integer_small v k a))

    pub constant_is_printed : row.kind ≡ plain → ((v : ℤ) → text s v ≡ constant_text signature v) → IsPrinted universe text s
    constant_is_printed k is = λ v a.
        let x = constant_at v k a in
        rw (is v ∙ constant_text_at v x.0 x.1 x.2 x.3) (upper_printed x.1.name (name_upper signature valid x.0 x.1.name (constant_place signature valid x.0 x.1 x.3)))

  simple_integer : (v : ℤ) → row.kind ≡ integer → simple_text signature s v ≡ integer_text v
  simple_integer v k = rw (kind_at, k) refl

  simple_constant : (v : ℤ) → row.kind ≡ plain → simple_text signature s v ≡ constant_text signature v
  simple_constant v k = rw (kind_at, k) refl

  module _ (unreified : is_reified_sort signature s ≡ false) where
    not_reified : kind_is_reified row.kind ≡ false
    not_reified = rw found at unreified

    pub simple_decoded : IsDecoded universe (simple_text signature) s
    simple_decoded = by_kind row.kind refl not_reified
      where
        by_kind : (k : Kind) → row.kind ≡ k → kind_is_reified k ≡ false → IsDecoded universe (simple_text signature) s
        by_kind plain k n = constant_decoded (simple_text signature) k (λ v. simple_constant v k)
        by_kind integer k n = integer_decoded (simple_text signature) k (λ v. simple_integer v k)
        by_kind event_kind k n = cc
        by_kind fluent_kind k n = cc

    pub simple_printed : IsPrinted universe (simple_text signature) s
    simple_printed = by_kind row.kind refl not_reified
      where
        by_kind : (k : Kind) → row.kind ≡ k → kind_is_reified k ≡ false → IsPrinted universe (simple_text signature) s
        by_kind plain k n = constant_is_printed (simple_text signature) k (λ v. simple_constant v k)
        by_kind integer k n = integer_is_printed (simple_text signature) k (λ v. simple_integer v k)
        by_kind event_kind k n = cc
        by_kind fluent_kind k n = cc
