-- What a signature asks of its sorts holds where no declaration has a fault.
use Rattle.std.proofs.Common.{◌≡◌, ℕ, zero, suc, ◌<◌, ◌==◌, true, false, true≢false, not, ◌||◌, List, [], length, Option, Some, None, is_some, option_map, slice_get, refl, sym, ap, ap₂, subst, ◌∙◌}
use Rattle.std.proofs.lemmas.List.{length-map}
use Rattle.std.specs.Str.{bytes_eq}
use Rattle.ec_logic.specs.Signature as logic
use Rattle.ec_logic.specs.Signature.{SortRow, integer_sort, event_sort, fluent_sort, is_within}
use Rattle.ec_logic.specs.Valid.{EachSort, has_range, is_range, kind_is_event, kind_is_fluent, kind_is_integer}
use Rattle.ec_logic.specs.Valid as valid
use Rattle.ec_names.specs.Names.{Names, SortEntry, RangeEntry, descends, has_parent, is_below, is_integer_sort, is_reified_sort, parent_in, parent_of, range_named, range_sort, sort_name, sort_number, word_event, word_fluent, word_integer}
use Rattle.ec_declare.specs.Faults.{is_known, is_small_range}
use Rattle.ec_declare.specs.Signatures.{ends_of, signature_of, sort_row}
use Rattle.ec_declare.proofs.Facts.{parent_ok, range_ok}
use Rattle.ec_declare.proofs.Lines.{fuel, not-own, parent-ok}
use Rattle.ec_declare.proofs.Numbers.{AreSorts, integer-number, kind-event, kind-fluent, kind-integer, made-at, number-within, parent-number}
use Rattle.ec_declare.proofs.Places.{is-found, named-at, place-at, same-place}
use Rattle.ec_declare.proofs.Deciding.{all-at, and-first, and-last, none-some, not-true, some-is}

module _ (names : Names) (are : AreSorts names) where
  -- ---- an entry by its place

  pub entry-known : (s : ℕ) (e : SortEntry) → slice_get names.sorts s ≡ Some e → is_known names e.name ≡ true
  entry-known s e at = ap is_some (named-at sort_name [] names.sorts s e are.apart at)

  entry-number : (s : ℕ) (e : SortEntry) → slice_get names.sorts s ≡ Some e → sort_number names e.name ≡ s
  entry-number s e at = place-at sort_name [] names.sorts s e are.apart at

  entry-parent : (s : ℕ) (e : SortEntry) → slice_get names.sorts s ≡ Some e → parent_of names e.name ≡ e.parent
  entry-parent s e at = ap parent_in (named-at sort_name [] names.sorts s e are.apart at)

  entry-parent-ok : (s : ℕ) (e : SortEntry) → slice_get names.sorts s ≡ Some e → parent_ok names e.parent ≡ true
  entry-parent-ok s e at = ap (parent_ok names) (sym (entry-parent s e at)) ∙ parent-ok names are.ok e.name (entry-known s e at)

  same-number : (v w : List ℕ) → is_known names v ≡ true → is_known names w ≡ true → (sort_number names v == sort_number names w) ≡ bytes_eq v w
  same-number v w a b = same-place sort_name names.sorts v w a b

  -- ---- ancestors

  below-by : (k : ℕ) (s : List ℕ) (o : Option (List ℕ)) → parent_ok names o ≡ true → ((r : List ℕ) → is_known names r ≡ true → logic.descends (signature_of names) k (sort_number names r) (sort_number names s) ≡ descends names k r s)
      → logic.has_parent (λ p. logic.descends (signature_of names) k p (sort_number names s)) (option_map (sort_number names) o) ≡ has_parent (λ p. descends names k p s) o
  below-by k s None ok rest = refl
  below-by k s (Some p) ok rest = rest p (and-first (is_known names p) (not (is_reified_sort p)) ok)

  descends-number : (k : ℕ) (r s : List ℕ) → is_known names r ≡ true → is_known names s ≡ true → logic.descends (signature_of names) k (sort_number names r) (sort_number names s) ≡ descends names k r s
  descends-number zero r s a b = same-number r s a b
  descends-number (suc k) r s a b =
      ap₂ (λ c d. c || d) (same-number r s a b)
      (ap (logic.has_parent (λ p. logic.descends (signature_of names) k p (sort_number names s))) (parent-number names are r a)
      ∙ below-by k s (parent_of names r) (parent-ok names are.ok r a) (λ q known. descends-number k q s known b))

  pub within-number : (r s : List ℕ) → is_known names r ≡ true → is_known names s ≡ true → is_within (signature_of names) (sort_number names r) (sort_number names s) ≡ is_below names r s
  within-number r s a b = ap (λ n. logic.descends (signature_of names) n (sort_number names r) (sort_number names s)) (length-map names.sorts (sort_row names)) ∙ descends-number (length names.sorts) r s a b

  -- ---- the fields

  parents-by : (o : Option (List ℕ)) (parent : ℕ) → parent_ok names o ≡ true → option_map (sort_number names) o ≡ Some parent → parent < length (signature_of names).sorts
  parents-by None parent ok is = absurd (none-some parent is)
  parents-by (Some p) parent ok is = subst (λ q. q < length (signature_of names).sorts) (some-is (sort_number names p) parent is) (number-within names are p (and-first (is_known names p) (not (is_reified_sort p)) ok))

  parent-row : (s : ℕ) (row : SortRow) → slice_get (signature_of names).sorts s ≡ Some row → logic.parent_of (signature_of names) s ≡ row.parent
  parent-row s row is = rw is refl

  pub parents-known : (s parent : ℕ) → logic.parent_of (signature_of names) s ≡ Some parent → parent < length (signature_of names).sorts
  parents-known s parent is = by (slice_get (signature_of names).sorts s) refl
    where
      by : (o : Option SortRow) → slice_get (signature_of names).sorts s ≡ o → parent < length (signature_of names).sorts
      by None at = absurd (none-some parent (sym (rw at refl) ∙ is))
      by (Some row) at =
          let m = made-at (sort_row names) names.sorts s row at in
          parents-by m.item.parent parent (entry-parent-ok s m.item m.at) (sym (ap (λ r. r.parent) m.is) ∙ sym (parent-row s row at) ∙ is)

  own-by : (e : SortEntry) (s : ℕ) (o : Option (List ℕ)) → is_known names e.name ≡ true → sort_number names e.name ≡ s → parent_ok names o ≡ true
      → logic.has_parent (λ parent. is_within (signature_of names) parent s) (option_map (sort_number names) o) ≡ has_parent (λ p. is_below names p e.name) o
  own-by e s None known at ok = refl
  own-by e s (Some p) known at ok = ap (is_within (signature_of names) (sort_number names p)) (sym at) ∙ within-number p e.name (and-first (is_known names p) (not (is_reified_sort p)) ok) known

  pub no-cycle : EachSort (signature_of names) (λ s row. logic.has_parent (λ parent. is_within (signature_of names) parent s) row.parent ≡ false)
  no-cycle s row at =
      let m = made-at (sort_row names) names.sorts s row at in
      let e = m.item in
      ap (λ r. logic.has_parent (λ parent. is_within (signature_of names) parent s) r.parent) m.is
      ∙ own-by e s e.parent (entry-known s e m.at) (entry-number s e m.at) (entry-parent-ok s e m.at)
      ∙ ap (has_parent (λ p. is_below names p e.name)) (sym (entry-parent s e m.at)) ∙ not-own names are.ok e.name (entry-known s e m.at)

  integer-by : (o : Option (List ℕ)) → parent_ok names o ≡ true → has_parent (λ p. descends names are.size p word_integer) o ≡ logic.has_parent (valid.is_integer_sort (signature_of names)) (option_map (sort_number names) o)
  integer-by None ok = refl
  integer-by (Some p) ok =
      let known = and-first (is_known names p) (not (is_reified_sort p)) ok in
      fuel names are.ok are.size p word_integer are.size_is known ∙ ap (λ n. descends names n p word_integer) (sym are.size_is) ∙ sym (integer-number names are p known)

  pub integer-kinds : EachSort (signature_of names) (λ s row. kind_is_integer row.kind ≡ ((s == integer_sort) || logic.has_parent (valid.is_integer_sort (signature_of names)) row.parent))
  integer-kinds s row at =
      let m = made-at (sort_row names) names.sorts s row at in
      let e = m.item in
      let known = entry-known s e m.at in
      let here : bytes_eq e.name word_integer ≡ (s == integer_sort) = sym (same-number e.name word_integer known are.integer_known) ∙ ap₂ (λ a b. a == b) (entry-number s e m.at) are.integer_at in
      let above = ap (has_parent (λ p. descends names are.size p word_integer)) (entry-parent s e m.at) ∙ integer-by e.parent (entry-parent-ok s e m.at) ∙ ap (λ r. logic.has_parent (valid.is_integer_sort (signature_of names)) r.parent) (sym m.is) in
      ap (λ r. kind_is_integer r.kind) m.is ∙ kind-integer names are e.name ∙ ap (λ n. descends names n e.name word_integer) are.size_is ∙ ap₂ (λ a b. a || b) here above

  pub event-kinds : EachSort (signature_of names) (λ s row. kind_is_event row.kind ≡ (s == event_sort))
  event-kinds s row at =
      let m = made-at (sort_row names) names.sorts s row at in
      let e = m.item in
      ap (λ r. kind_is_event r.kind) m.is ∙ kind-event names are e.name ∙ sym (same-number e.name word_event (entry-known s e m.at) are.event_known) ∙ ap₂ (λ a b. a == b) (entry-number s e m.at) are.event_at

  pub fluent-kinds : EachSort (signature_of names) (λ s row. kind_is_fluent row.kind ≡ (s == fluent_sort))
  fluent-kinds s row at =
      let m = made-at (sort_row names) names.sorts s row at in
      let e = m.item in
      ap (λ r. kind_is_fluent r.kind) m.is ∙ kind-fluent names are e.name ∙ sym (same-number e.name word_fluent (entry-known s e m.at) are.fluent_known) ∙ ap₂ (λ a b. a == b) (entry-number s e m.at) are.fluent_at

  reified-by : (o : Option (List ℕ)) → parent_ok names o ≡ true → logic.has_parent (λ parent. (parent == event_sort) || (parent == fluent_sort)) (option_map (sort_number names) o) ≡ false
  reified-by None ok = refl
  reified-by (Some p) ok =
      let known = and-first (is_known names p) (not (is_reified_sort p)) ok in
      let none = not-true (is_reified_sort p) (and-last (is_known names p) (not (is_reified_sort p)) ok) in
      ap₂ (λ a b. a || b) (ap (λ n. sort_number names p == n) (sym are.event_at) ∙ same-number p word_event known are.event_known) (ap (λ n. sort_number names p == n) (sym are.fluent_at) ∙ same-number p word_fluent known are.fluent_known) ∙ none

  pub reified-no-parent : EachSort (signature_of names) (λ s row. logic.has_parent (λ parent. (parent == event_sort) || (parent == fluent_sort)) row.parent ≡ false)
  reified-no-parent s row at =
      let m = made-at (sort_row names) names.sorts s row at in
      ap (λ r. logic.has_parent (λ parent. (parent == event_sort) || (parent == fluent_sort)) r.parent) m.is ∙ reified-by m.item.parent (entry-parent-ok s m.item m.at)

  -- ---- ranges

  pub range-by : (w : List ℕ) (o : Option RangeEntry) → range_named names w ≡ o → has_range (option_map ends_of o) ≡ true → is_integer_sort names w ≡ true
  range-by w None is h = absurd (true≢false (sym h))
  range-by w (Some r) is h =
      let f = is-found range_sort names.ranges w (ap is_some is) in
      ap (is_integer_sort names) (sym f.has_name) ∙ and-last (is_small_range f.item.low f.item.high) (is_integer_sort names f.item.sort) (all-at (range_ok names) names.ranges _ f.item are.ranges_ok f.there)

  pub integer-ranges : EachSort (signature_of names) (λ s row. has_range row.range ≡ true → kind_is_integer row.kind ≡ true)
  integer-ranges s row at h =
      let m = made-at (sort_row names) names.sorts s row at in
      let w = m.item.name in
      ap (λ r. kind_is_integer r.kind) m.is ∙ kind-integer names are w ∙ range-by w (range_named names w) refl (sym (ap (λ r. has_range r.range) m.is) ∙ h)

  pub small-by : (w : List ℕ) (o : Option RangeEntry) → range_named names w ≡ o → is_range (option_map ends_of o) ≡ true
  small-by w None is = refl
  small-by w (Some r) is =
      let f = is-found range_sort names.ranges w (ap is_some is) in
      let same = some-is r f.item (sym is ∙ f.found) in
      ap (λ q. is_small_range q.low q.high) same ∙ and-first (is_small_range f.item.low f.item.high) (is_integer_sort names f.item.sort) (all-at (range_ok names) names.ranges _ f.item are.ranges_ok f.there)

  pub small-ranges : EachSort (signature_of names) (λ s row. is_range row.range ≡ true)
  small-ranges s row at =
      let m = made-at (sort_row names) names.sorts s row at in
      ap (λ r. is_range r.range) m.is ∙ small-by m.item.name (range_named names m.item.name) refl
