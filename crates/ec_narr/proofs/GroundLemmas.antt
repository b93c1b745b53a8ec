-- Ground events, fluents and atoms.
use Rattle.std.proofs.Common.{◌≡◌, ℕ, zero, suc, ◌<◌, ◌==◌, nat_lt, Bool, true, false, ◌&&◌, is_some, if◌then◌else◌, ℤ, pos, negsuc, ◌≤ℤ◌, List, [], ◌∷◌, length, get_or, slice_get, unwrap_or, Option, Some, None, option_map, refl, sym, ap, ◌∙◌, arith, All}
use Rattle.std.proofs.lemmas.Bool.Decides.{nat_tests}
use Rattle.std.proofs.lemmas.Option.{slice_get-map, slice_get-get_or}
use Rattle.ec_logic.specs.Extent.{members, passing, rank, size_of}
use Rattle.ec_logic.specs.Signature.{Signature, SortRow, SymbolRow, Kind, event_kind, fluent_kind, event_sort, fluent_sort}
use Rattle.ec_logic.specs.Universe.{Universe, universe_of, extent_at, row_of, argument_sorts, tuple_rank, tuples, ranked}
use Rattle.ec_logic.specs.Narrative.{ground_text, applied, simple_text, texts_of, symbol_name, value_text, event_text, fluent_text, atom_text}
use Rattle.ec_logic.specs.Valid.{IsSignature, EachArgument, kind_is_event, kind_is_fluent}
use Rattle.std.proofs.lemmas.Int.{ints}
use Rattle.ec_logic.proofs.Extents.{ground_events, ground_fluents}
use Rattle.ec_logic.proofs.FewAtoms.{event_extent, fluent_extent}
use Rattle.ec_narr.proofs.ValueLemmas.{kind_is}
use Rattle.ec_logic.proofs.Tests.{same_number}
use Rattle.ec_theory.specs.Values.{numbers_of}
use Rattle.ec_theory.specs.declared.value.Value.{Value}
use Rattle.ec_atom.specs.declared.ground.GroundTerm.{GroundTerm}
use Rattle.ec_atom.specs.Blocks.{Application, application, application_at}
use Rattle.ec_atom.specs.Ground.{are_within}
use Rattle.ec_atom.proofs.StrideLemmas.{same_lengths}

-- the row of a symbol from its argument sorts
pub row_is : (rows : List SymbolRow) (k : ℕ) (sorts : List ℕ) → option_map (λ (row : SymbolRow). row.sorts) (slice_get rows k) ≡ Some sorts → row_of (argument_sorts rows) k ≡ sorts
row_is rows k sorts h = ap (λ o. unwrap_or o []) (slice_get-map (λ (row : SymbolRow). row.sorts) rows k ∙ h)

name_is : (rows : List SymbolRow) (k : ℕ) (name : List ℕ) → option_map (λ (row : SymbolRow). row.name) (slice_get rows k) ≡ Some name → symbol_name rows k ≡ name
name_is rows k name h = cases (slice_get rows k) refl h
  where
    cases : (o : Option SymbolRow) → slice_get rows k ≡ o → option_map (λ (row : SymbolRow). row.name) o ≡ Some name → symbol_name rows k ≡ name
    cases None e i = cc
    cases (Some row) e i = let same : row.name ≡ name = cc in rw e same

-- the sorts of a symbol's arguments are known
pub sorts_known : (signature : Signature) (rows : List SymbolRow) (k : ℕ) (sorts : List ℕ) → EachArgument rows (λ s. s < length signature.sorts) → option_map (λ (row : SymbolRow). row.sorts) (slice_get rows k) ≡ Some sorts → All (λ s. s < length signature.sorts) sorts
sorts_known signature rows k sorts known h = cases (slice_get rows k) refl h
  where
    cases : (o : Option SymbolRow) → slice_get rows k ≡ o → option_map (λ (row : SymbolRow). row.sorts) o ≡ Some sorts → All (λ s. s < length signature.sorts) sorts
    cases None e i = cc
    cases (Some row) e i = λ j d low.
        let same : row.sorts ≡ sorts = cc in
        let at : slice_get sorts j ≡ Some (get_or sorts j d) = slice_get-get_or sorts j d low in
        known k row e j (get_or sorts j d) (rw same at)

length_numbers : (vs : List Value) → length (numbers_of vs) ≡ length vs
length_numbers [] = refl
length_numbers (v ∷ vs) = ap suc (length_numbers vs)

-- as many sorts as arguments
pub as_many : (universe : Universe) (sorts : List ℕ) (args : List Value) → are_within universe sorts args ≡ true → length sorts ≡ length args
as_many universe sorts args h = cases (tuple_rank universe sorts (numbers_of args)) refl h
  where
    cases : (o : Option ℕ) → tuple_rank universe sorts (numbers_of args) ≡ o → is_some o ≡ true → length sorts ≡ length args
    cases None e t = cc
    cases (Some k) e t = same_lengths universe sorts (numbers_of args) k e ∙ length_numbers args

module _ (universe : Universe) where
  -- each argument is in its domain
  each_within : (sorts : List ℕ) (vs : List ℤ) (k i d : ℕ) (e : ℤ) → tuple_rank universe sorts vs ≡ Some k → i < length sorts → is_some (rank (extent_at universe (get_or sorts i d)) (get_or vs i e)) ≡ true
  each_within [] vs k i d e h l = absurd (omega (arith, l))
  each_within (s ∷ ss) [] k i d e h l = cc
  each_within (s ∷ ss) (v ∷ vs) k zero d e h l = cases (rank (extent_at universe s) v) (tuple_rank universe ss vs) h
    where
      cases : (a b : Option ℕ) → ranked (tuples universe ss) a b ≡ Some k → is_some a ≡ true
      cases None b h = cc
      cases (Some x) b h = refl
  each_within (s ∷ ss) (v ∷ vs) k (suc i) d e h l = cases (λ j g. each_within ss vs j i d e g (omega (arith, l))) (rank (extent_at universe s) v) (tuple_rank universe ss vs) refl h
    where
      cases : ((j : ℕ) → tuple_rank universe ss vs ≡ Some j → is_some (rank (extent_at universe (get_or ss i d)) (get_or vs i e)) ≡ true) → (a b : Option ℕ) → tuple_rank universe ss vs ≡ b → ranked (tuples universe ss) a b ≡ Some k → is_some (rank (extent_at universe (get_or ss i d)) (get_or vs i e)) ≡ true
      cases next None b g h = cc
      cases next (Some x) None g h = cc
      cases next (Some x) (Some j) g h = next j g

  number_at : (vs : List Value) (i : ℕ) (d : Value) → i < length vs → get_or (numbers_of vs) i (pos 0) ≡ (get_or vs i d).0
  number_at [] i d h = absurd (omega (arith, h))
  number_at (v ∷ vs) zero d h = refl
  number_at (v ∷ vs) (suc i) d h = number_at vs i d (omega (arith, h))

  pub argument_within : (sorts : List ℕ) (args : List Value) (i d : ℕ) (e : Value) → i < length sorts → are_within universe sorts args ≡ true → is_some (rank (extent_at universe (get_or sorts i d)) (get_or args i e).0) ≡ true
  argument_within sorts args i d e l h = cases (tuple_rank universe sorts (numbers_of args)) refl h
    where
      cases : (o : Option ℕ) → tuple_rank universe sorts (numbers_of args) ≡ o → is_some o ≡ true → is_some (rank (extent_at universe (get_or sorts i d)) (get_or args i e).0) ≡ true
      cases None g t = cc
      cases (Some k) g t =
          let m = as_many universe sorts args h in
          let there = each_within sorts (numbers_of args) k i d (pos 0) g l in
          ap (λ v. is_some (rank (extent_at universe (get_or sorts i d)) v)) (sym (number_at args i e (omega (arith, l, m)))) ∙ there

-- ---- texts

-- the text of the event or fluent at a place, from its symbol and arguments
pub ground_is : (signature : Signature) (rows : List SymbolRow) (place : ℕ) (term : GroundTerm) (name sorts : List ℕ) → application term ≡ application_at (universe_of signature) (argument_sorts rows) place
    → option_map (λ (row : SymbolRow). row.name) (slice_get rows term.symbol) ≡ Some name → option_map (λ (row : SymbolRow). row.sorts) (slice_get rows term.symbol) ≡ Some sorts
    → applied name (texts_of (simple_text signature) sorts (numbers_of term.args.items)) ≡ ground_text signature rows (pos place)
ground_is signature rows place term name sorts is n s =
    let text : Application → List ℕ = λ a. applied (symbol_name rows a.symbol) (texts_of (simple_text signature) (row_of (argument_sorts rows) a.symbol) a.args) in
    ap (λ x. applied x (texts_of (simple_text signature) sorts (numbers_of term.args.items))) (sym (name_is rows term.symbol name n))
    ∙ (ap (λ ss. applied (symbol_name rows term.symbol) (texts_of (simple_text signature) ss (numbers_of term.args.items))) (sym (row_is rows term.symbol sorts s))
    ∙ ap text is)

-- an atom's text from its name and its sorts
pub atom_is : (signature : Signature) (p : ℕ) (args : List ℤ) (name sorts : List ℕ) → option_map (λ (row : SymbolRow). row.name) (slice_get signature.predicates p) ≡ Some name → option_map (λ (row : SymbolRow). row.sorts) (slice_get signature.predicates p) ≡ Some sorts
    → applied name (texts_of (value_text signature) sorts args) ≡ atom_text signature (record { predicate = p; args = args })
atom_is signature p args name sorts n s =
    ap (λ x. applied x (texts_of (value_text signature) sorts args)) (sym (name_is signature.predicates p name n))
    ∙ ap (λ ss. applied (symbol_name signature.predicates p) (texts_of (value_text signature) ss args)) (sym (row_is signature.predicates p sorts s))

-- ---- values of events and fluents

row_at : (signature : Signature) (s : ℕ) (k : Kind) → option_map (λ (row : SortRow). row.kind) (slice_get signature.sorts s) ≡ Some k → (row : SortRow) × (slice_get signature.sorts s ≡ Some row) × (row.kind ≡ k)
row_at signature s k h = cases (slice_get signature.sorts s) refl h
  where
    cases : (o : Option SortRow) → slice_get signature.sorts s ≡ o → option_map (λ (row : SortRow). row.kind) o ≡ Some k → (row : SortRow) × (slice_get signature.sorts s ≡ Some row) × (row.kind ≡ k)
    cases None e i = cc
    cases (Some row) e i = (row, e, cc)

pub event_sort_is : (signature : Signature) (s : ℕ) → IsSignature signature → option_map (λ (row : SortRow). row.kind) (slice_get signature.sorts s) ≡ Some event_kind → s ≡ event_sort
event_sort_is signature s valid h =
    let found = row_at signature s event_kind h in
    let test : kind_is_event event_kind ≡ (s == event_sort) = ap kind_is_event (sym found.2) ∙ valid.event_kinds s found.0 found.1 in
    same_number s event_sort (sym test)

pub fluent_sort_is : (signature : Signature) (s : ℕ) → IsSignature signature → option_map (λ (row : SortRow). row.kind) (slice_get signature.sorts s) ≡ Some fluent_kind → s ≡ fluent_sort
fluent_sort_is signature s valid h =
    let found = row_at signature s fluent_kind h in
    let test : kind_is_fluent fluent_kind ≡ (s == fluent_sort) = ap kind_is_fluent (sym found.2) ∙ valid.fluent_kinds s found.0 found.1 in
    same_number s fluent_sort (sym test)

passing_all : (from n : ℕ) → passing (λ k. true) from n ≡ n
passing_all from zero = refl
passing_all from (suc n) = ap suc (passing_all (suc from) n)

-- a value of such an extent is a place
pub record IsPlace (v : ℤ) (size : ℕ) : Type 0 where
  pub low : pos 0 ≤ℤ v
  pub within : (n : ℕ) → pos n ≡ v → n < size

place_in : (count : ℕ) (v : ℤ) → is_some (rank (members count (λ k. true)) v) ≡ true → IsPlace v count
place_in count (pos m) h = record { low = omega (arith, ints); within = λ n e. (let same : n ≡ m = cc in let l = below (nat_lt m count) refl h in omega (arith, same, l)) }
  where
    below : (b : Bool) → nat_lt m count ≡ b → is_some (if b && true then Some (passing (λ k. true) 0 m) else None) ≡ true → m < count
    below true e h = grind (arith, nat_tests)
    below false e h = cc
place_in count (negsuc m) h = cc

pub event_place : (signature : Signature) (s : ℕ) (v : ℤ) → IsSignature signature → option_map (λ (row : SortRow). row.kind) (slice_get signature.sorts s) ≡ Some event_kind → is_some (rank (extent_at (universe_of signature) s) v) ≡ true → IsPlace v (size_of (extent_at (universe_of signature) event_sort))
event_place signature s v valid k h =
    let here = event_sort_is signature s valid k in
    let extent = event_extent signature valid in
    let value = ap (λ e. is_some (rank e v)) (sym (ap (extent_at (universe_of signature)) here ∙ extent)) ∙ h in
    let size : size_of (extent_at (universe_of signature) event_sort) ≡ ground_events signature = ap size_of extent ∙ passing_all 0 (ground_events signature) in
    rw size (place_in (ground_events signature) v value)

pub fluent_place : (signature : Signature) (s : ℕ) (v : ℤ) → IsSignature signature → option_map (λ (row : SortRow). row.kind) (slice_get signature.sorts s) ≡ Some fluent_kind → is_some (rank (extent_at (universe_of signature) s) v) ≡ true → IsPlace v (size_of (extent_at (universe_of signature) fluent_sort))
fluent_place signature s v valid k h =
    let here = fluent_sort_is signature s valid k in
    let extent = fluent_extent signature valid in
    let value = ap (λ e. is_some (rank e v)) (sym (ap (extent_at (universe_of signature)) here ∙ extent)) ∙ h in
    let size : size_of (extent_at (universe_of signature) fluent_sort) ≡ ground_fluents signature = ap size_of extent ∙ passing_all 0 (ground_fluents signature) in
    rw size (place_in (ground_fluents signature) v value)

pub value_of_event : (signature : Signature) (s : ℕ) (v : ℤ) → option_map (λ (row : SortRow). row.kind) (slice_get signature.sorts s) ≡ Some event_kind → value_text signature s v ≡ event_text signature v
value_of_event signature s v h = rw (kind_is signature s event_kind h) refl

pub value_of_fluent : (signature : Signature) (s : ℕ) (v : ℤ) → option_map (λ (row : SortRow). row.kind) (slice_get signature.sorts s) ≡ Some fluent_kind → value_text signature s v ≡ fluent_text signature v
value_of_fluent signature s v h = rw (kind_is signature s fluent_kind h) refl
