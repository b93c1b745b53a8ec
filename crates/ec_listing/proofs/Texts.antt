-- The texts of all values and of atoms, read from the front.
use Rattle.std.proofs.Common.{◌≡◌, ℕ, true, List, ◌∷◌, ◌++◌, slice_get, Some, ℤ, pos, refl, sym, ap, ◌∙◌, subst, arith}
use Rattle.ec_logic.specs.Signature.{Signature, Kind, plain, integer, event_kind, fluent_kind, SortRow, SymbolRow, event_sort, fluent_sort}
use Rattle.ec_logic.specs.Extent.{rank}
use Rattle.ec_logic.specs.Truth.{IsTuple}
use Rattle.ec_logic.specs.Turns.{IsValueOf}
use Rattle.ec_logic.specs.Universe.{Universe, universe_of, extent_at, argument_sorts, row_of, tuple_at}
use Rattle.ec_logic.specs.Narrative.{event_text, fluent_text, integer_text, constant_text, simple_text, value_text, atom_text, comma_separated, texts_of, applied}
use Rattle.ec_logic.specs.Valid.{IsSignature, is_upper_word, kind_is_event, kind_is_fluent}
use Rattle.ec_logic.proofs.Extents.{ground_events, ground_fluents}
use Rattle.ec_logic.proofs.FewAtoms.{event_extent, fluent_extent}
use Rattle.ec_logic.proofs.Tests.{same_number}
use Rattle.ec_listing.proofs.Decoding.{IsDecoded, AreValues, ranked_values, arguments_decoded, name_decoded, plain_decoded, applied_front}
use Rattle.ec_listing.proofs.Names.{upper_plain, event_place, fluent_place, predicate_place, name_upper, same_event, same_fluent, same_predicate, no_predicate}
use Rattle.ec_listing.proofs.Values.{some_at, member_place, kind_at, integer_decoded, constant_decoded, integer_is_printed, constant_is_printed, IsPrinted, is_printed, upper_printed, applied_printed, texts_printed}
use Rattle.ec_listing.proofs.Ground.{AreGroundRows, IsGround, ground_is, ground_same, ground_printed, each_item, row_sorts, name_at, sorts_length}

-- A text begins with a name, and a parenthesis behind it.
pub record IsNamed (text : List ℕ) : Type 0 where
  pub name : List ℕ
  pub rest : List ℕ
  pub upper : is_upper_word name ≡ true
  pub is : text ≡ name ++ 40 ∷ rest

module _ (signature : Signature) (valid : IsSignature signature) where
  abbrev universe : Universe
  universe = universe_of signature

  pub event_rows : AreGroundRows signature signature.events
  event_rows = record {
    same = same_event signature valid;
    upper = λ k row h. name_upper signature valid _ row.name (event_place signature valid k row h);
    known = valid.known_sorts.events;
    unreified = valid.unreified_event_arguments;
  }

  pub fluent_rows : AreGroundRows signature signature.fluents
  fluent_rows = record {
    same = same_fluent signature valid;
    upper = λ k row h. name_upper signature valid _ row.name (fluent_place signature valid k row h);
    known = valid.known_sorts.fluents;
    unreified = valid.unreified_fluent_arguments;
  }

  pub predicate_upper : (k : ℕ) (row : SymbolRow) → slice_get signature.predicates k ≡ Some row → is_upper_word row.name ≡ true
  predicate_upper k row h = name_upper signature valid _ row.name (predicate_place signature valid k row h)

  -- ---- events and fluents

  pub event_at : (v : ℤ) → IsValueOf (extent_at universe event_sort) v → (n : ℕ) × (v ≡ pos n) × IsGround signature signature.events n
  event_at v h =
      let place = member_place (ground_events signature) (λ k. true) v (h.0, ap (λ e. rank e v) (sym (event_extent signature valid)) ∙ h.1) in
      (place.0, place.1, ground_is signature valid signature.events event_rows place.0 place.2)

  pub fluent_at : (v : ℤ) → IsValueOf (extent_at universe fluent_sort) v → (n : ℕ) × (v ≡ pos n) × IsGround signature signature.fluents n
  fluent_at v h =
      let place = member_place (ground_fluents signature) (λ k. true) v (h.0, ap (λ e. rank e v) (sym (fluent_extent signature valid)) ∙ h.1) in
      (place.0, place.1, ground_is signature valid signature.fluents fluent_rows place.0 place.2)

  pub event_same : (v w : ℤ) (r q : List ℕ) → IsValueOf (extent_at universe event_sort) v → IsValueOf (extent_at universe event_sort) w → event_text signature v ++ r ≡ event_text signature w ++ q → (v ≡ w) × (r ≡ q)
  event_same v w r q h k e =
      let a = event_at v h in
      let b = event_at w k in
      let same = ground_same signature valid signature.events event_rows a.0 b.0 r q a.2 b.2 (ap (λ x. event_text signature x ++ r) (sym a.1) ∙ (e ∙ ap (λ x. event_text signature x ++ q) b.1)) in
      (a.1 ∙ (ap pos same.term ∙ sym b.1), same.rest)

  pub fluent_same : (v w : ℤ) (r q : List ℕ) → IsValueOf (extent_at universe fluent_sort) v → IsValueOf (extent_at universe fluent_sort) w → fluent_text signature v ++ r ≡ fluent_text signature w ++ q → (v ≡ w) × (r ≡ q)
  fluent_same v w r q h k e =
      let a = fluent_at v h in
      let b = fluent_at w k in
      let same = ground_same signature valid signature.fluents fluent_rows a.0 b.0 r q a.2 b.2 (ap (λ x. fluent_text signature x ++ r) (sym a.1) ∙ (e ∙ ap (λ x. fluent_text signature x ++ q) b.1)) in
      (a.1 ∙ (ap pos same.term ∙ sym b.1), same.rest)

  pub event_printed : (v : ℤ) → IsValueOf (extent_at universe event_sort) v → is_printed (event_text signature v) ≡ true
  event_printed v h = let a = event_at v h in ap (λ x. is_printed (event_text signature x)) a.1 ∙ ground_printed signature valid signature.events event_rows a.0 a.2

  pub fluent_printed : (v : ℤ) → IsValueOf (extent_at universe fluent_sort) v → is_printed (fluent_text signature v) ≡ true
  fluent_printed v h = let a = fluent_at v h in ap (λ x. is_printed (fluent_text signature x)) a.1 ∙ ground_printed signature valid signature.fluents fluent_rows a.0 a.2

  applied_named : (name : List ℕ) (texts : List (List ℕ)) (r : List ℕ) → is_upper_word name ≡ true → IsNamed (applied name texts ++ r)
  applied_named name texts r h = record { name = name; rest = comma_separated texts ++ 41 ∷ r; upper = h; is = applied_front name texts r }

  pub fluent_named : (v : ℤ) (r : List ℕ) → IsValueOf (extent_at universe fluent_sort) v → IsNamed (fluent_text signature v ++ r)
  fluent_named v r h =
      let a = fluent_at v h in
      subst IsNamed (sym (ap (λ x. fluent_text signature x ++ r) a.1 ∙ ap (λ x. x ++ r) a.2.text)) (applied_named a.2.row.name (texts_of (simple_text signature) a.2.row.sorts (tuple_at universe a.2.row.sorts a.2.place)) r (fluent_rows.upper a.2.symbol a.2.row a.2.found))

  -- no fluent's text begins as an atom of a predicate does
  pub fluent_no_predicate : (v : ℤ) (k : ℕ) (row : SymbolRow) (r q : List ℕ) → IsValueOf (extent_at universe fluent_sort) v → slice_get signature.predicates k ≡ Some row → fluent_text signature v ++ r ≡ row.name ++ 40 ∷ q → ⊥
  fluent_no_predicate v k row r q h found e =
      let a = fluent_at v h in
      let name = a.2.row.name in
      let texts = texts_of (simple_text signature) a.2.row.sorts (tuple_at universe a.2.row.sorts a.2.place) in
      let text : fluent_text signature v ++ r ≡ name ++ (40 ∷ (comma_separated texts ++ 41 ∷ r)) = ap (λ x. fluent_text signature x ++ r) a.1 ∙ (ap (λ x. x ++ r) a.2.text ∙ applied_front name texts r) in
      let both = plain_decoded name row.name (40 ∷ (comma_separated texts ++ 41 ∷ r)) (40 ∷ q) (upper_plain name (fluent_rows.upper a.2.symbol a.2.row a.2.found)) (upper_plain row.name (predicate_upper k row found)) refl refl (sym text ∙ e) in
      no_predicate signature valid a.2.symbol k a.2.row row a.2.found found both.0

  -- ---- values of any sort

  module _ (s : ℕ) (row : SortRow) (found : slice_get signature.sorts s ≡ Some row) where
    value_integer : (v : ℤ) → row.kind ≡ integer → value_text signature s v ≡ integer_text v
    value_integer v k = rw (kind_at signature valid s row found, k) refl

    value_constant : (v : ℤ) → row.kind ≡ plain → value_text signature s v ≡ constant_text signature v
    value_constant v k = rw (kind_at signature valid s row found, k) refl

    value_event : (v : ℤ) → row.kind ≡ event_kind → value_text signature s v ≡ event_text signature v
    value_event v k = rw (kind_at signature valid s row found, k) refl

    value_fluent : (v : ℤ) → row.kind ≡ fluent_kind → value_text signature s v ≡ fluent_text signature v
    value_fluent v k = rw (kind_at signature valid s row found, k) refl

    event_here : row.kind ≡ event_kind → s ≡ event_sort
    event_here k = same_number s event_sort (sym (ap kind_is_event (sym k) ∙ valid.event_kinds s row found))

    fluent_here : row.kind ≡ fluent_kind → s ≡ fluent_sort
    fluent_here k = same_number s fluent_sort (sym (ap kind_is_fluent (sym k) ∙ valid.fluent_kinds s row found))

    moved : (t : ℕ) (v : ℤ) → s ≡ t → IsValueOf (extent_at universe s) v → IsValueOf (extent_at universe t) v
    moved t v e h = let P : ℕ → Type 0 = λ x. IsValueOf (extent_at universe x) v in subst P e h

    pub value_decoded : IsDecoded universe (value_text signature) s
    value_decoded = by_kind row.kind refl
      where
        by_kind : (k : Kind) → row.kind ≡ k → IsDecoded universe (value_text signature) s
        by_kind plain k = constant_decoded signature valid s row found (value_text signature) k (λ v. value_constant v k)
        by_kind integer k = integer_decoded signature valid s row found (value_text signature) k (λ v. value_integer v k)
        by_kind event_kind k = λ v w r q a b f g e. event_same v w r q (moved event_sort v (event_here k) a) (moved event_sort w (event_here k) b) (ap (λ x. x ++ r) (sym (value_event v k)) ∙ (e ∙ ap (λ x. x ++ q) (value_event w k)))
        by_kind fluent_kind k = λ v w r q a b f g e. fluent_same v w r q (moved fluent_sort v (fluent_here k) a) (moved fluent_sort w (fluent_here k) b) (ap (λ x. x ++ r) (sym (value_fluent v k)) ∙ (e ∙ ap (λ x. x ++ q) (value_fluent w k)))

    pub value_printed : IsPrinted universe (value_text signature) s
    value_printed = by_kind row.kind refl
      where
        by_kind : (k : Kind) → row.kind ≡ k → IsPrinted universe (value_text signature) s
        by_kind plain k = constant_is_printed signature valid s row found (value_text signature) k (λ v. value_constant v k)
        by_kind integer k = integer_is_printed signature valid s row found (value_text signature) k (λ v. value_integer v k)
        by_kind event_kind k = λ v a. ap is_printed (value_event v k) ∙ event_printed v (moved event_sort v (event_here k) a)
        by_kind fluent_kind k = λ v a. ap is_printed (value_fluent v k) ∙ fluent_printed v (moved fluent_sort v (fluent_here k) a)

  -- ---- atoms

  pub record IsAtomText (p : ℕ) (vs : List ℤ) : Type 0 where
    pub row : SymbolRow
    pub found : slice_get signature.predicates p ≡ Some row
    pub values : AreValues universe row.sorts vs
    pub text : atom_text signature (record { predicate = p; args = vs }) ≡ applied row.name (texts_of (value_text signature) row.sorts vs)

  pub atom_is : (p : ℕ) (vs : List ℤ) → IsTuple universe p vs → IsAtomText p vs
  atom_is p vs h =
      let row = some_at signature.predicates p (let l = h.0 in let m = sorts_length signature.predicates in omega (arith, l, m)) in
      let sorts = row_sorts signature.predicates p row.0 row.1 in
      let Q : List ℕ → Type 0 = λ ss. AreValues universe ss vs in
      record {
        row = row.0;
        found = row.1;
        values = subst Q sorts (ranked_values universe (row_of universe.predicates p) vs h.1.0 h.1.1);
        text = ap (λ x. applied x (texts_of (value_text signature) (row_of (argument_sorts signature.predicates) p) vs)) (name_at signature.predicates p row.0 row.1)
            ∙ ap (λ ss. applied row.0.name (texts_of (value_text signature) ss vs)) sorts;
      }

  argument_at : (p : ℕ) (row : SymbolRow) (i s : ℕ) → slice_get signature.predicates p ≡ Some row → slice_get row.sorts i ≡ Some s → (there : SortRow) × (slice_get signature.sorts s ≡ Some there)
  argument_at p row i s e f = some_at signature.sorts s (valid.known_sorts.predicates p row e i s f)

  some_row : (a b : SymbolRow) → Some a ≡ Some b → a ≡ b
  some_row a b e = cc

  -- the atoms of two such texts are one
  pub atom_same : (p o : ℕ) (vs ws : List ℤ) (r q : List ℕ) → IsTuple universe p vs → IsTuple universe o ws → atom_text signature (record { predicate = p; args = vs }) ++ r ≡ atom_text signature (record { predicate = o; args = ws }) ++ q → (p ≡ o) × (vs ≡ ws)
  atom_same p o vs ws r q h k e =
      let a = atom_is p vs h in
      let b = atom_is o ws k in
      let texts = ap (λ x. x ++ r) (sym a.text) ∙ (e ∙ ap (λ x. x ++ q) b.text) in
      let named = name_decoded a.row.name b.row.name (texts_of (value_text signature) a.row.sorts vs) (texts_of (value_text signature) b.row.sorts ws) r q
      (upper_plain a.row.name (predicate_upper p a.row a.found)) (upper_plain b.row.name (predicate_upper o b.row b.found)) texts in
      let same = same_predicate signature valid p o a.row b.row a.found b.found named.0 in
      let row = some_row a.row b.row (sym a.found ∙ (ap (λ i. slice_get signature.predicates i) same ∙ b.found)) in
      (same, arguments a.row b.row row a.found a.values b.values named.1)
    where
      arguments : (x y : SymbolRow) → x ≡ y → slice_get signature.predicates p ≡ Some x → AreValues universe x.sorts vs → AreValues universe y.sorts ws
          → comma_separated (texts_of (value_text signature) x.sorts vs) ++ 41 ∷ r ≡ comma_separated (texts_of (value_text signature) y.sorts ws) ++ 41 ∷ q → vs ≡ ws
      arguments x y f found a b e =
          let P : SymbolRow → Type 0 = λ z. AreValues universe z.sorts ws in
          let Q : SymbolRow → Type 0 = λ z. comma_separated (texts_of (value_text signature) x.sorts vs) ++ 41 ∷ r ≡ comma_separated (texts_of (value_text signature) z.sorts ws) ++ 41 ∷ q in
          let decoded = each_item (IsDecoded universe (value_text signature)) x.sorts (λ i s g. (let there = argument_at p x i s found g in value_decoded s there.0 there.1)) in
          (arguments_decoded universe (value_text signature) x.sorts vs ws r q decoded a (subst P (sym f) b) (subst Q (sym f) e)).0

  pub atom_printed : (p : ℕ) (vs : List ℤ) → IsTuple universe p vs → is_printed (atom_text signature (record { predicate = p; args = vs })) ≡ true
  atom_printed p vs h =
      let a = atom_is p vs h in
      let printed = each_item (IsPrinted universe (value_text signature)) a.row.sorts (λ i s g. (let there = argument_at p a.row i s a.found g in value_printed s there.0 there.1)) in
      ap is_printed a.text ∙ applied_printed a.row.name (texts_of (value_text signature) a.row.sorts vs) (upper_printed a.row.name (predicate_upper p a.row a.found)) (texts_printed universe (value_text signature) a.row.sorts vs printed a.values)

  pub atom_named : (p : ℕ) (vs : List ℤ) (r : List ℕ) → IsTuple universe p vs → IsNamed (atom_text signature (record { predicate = p; args = vs }) ++ r)
  atom_named p vs r h =
      let a = atom_is p vs h in
      subst IsNamed (sym (ap (λ x. x ++ r) a.text)) (applied_named a.row.name (texts_of (value_text signature) a.row.sorts vs) r (predicate_upper p a.row a.found))
