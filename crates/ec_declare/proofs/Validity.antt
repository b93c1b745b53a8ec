-- A book whose declarations have no fault declares a signature.
use Rattle.std.proofs.Common.{◌≡◌, ℕ, Bool, true, false, true≢false, List, [], ◌++◌, map, drop, length, Option, Some, None, codes, refl, sym, ◌∙◌, arith}
use Rattle.std.specs.List.{list_all}
use Rattle.ec_logic.specs.Valid.{BeginsBuiltIn, IsSignature}
use Rattle.ec_syntax.specs.Written as w
use Rattle.ec_names.specs.Names.{RangeEntry, SymbolEntry, built_in_sorts, built_in_symbols, firsts_after, is_integer_sort, joined, names_of, range_named, range_sort, ranges_in, sort_name, sorts_in, symbol_name, symbols_in, word_event, word_fluent}
use Rattle.ec_names.proofs.Few.{sorts-listable, symbols-listable}
use Rattle.ec_declare.specs.Signatures.{signature_of}
use Rattle.ec_declare.specs.Sound.{IsFaultless, has_upper_name}
use Rattle.ec_declare.proofs.Facts.{all-sound, range_ok, ranges-sound, sort_ok, sorts-sound, symbol_ok, symbols-sound}
use Rattle.ec_declare.proofs.NameFields.{distinct-names, is_short, listable, short-joined, upper-names}
use Rattle.ec_declare.proofs.Numbers.{AreSorts}
use Rattle.ec_declare.proofs.Places.{firsts-apart}
use Rattle.ec_declare.proofs.SortFields as sorts
use Rattle.ec_declare.proofs.SymbolFields as symbols
use Rattle.ec_declare.proofs.SymbolFields.{AreSymbols}
use Rattle.ec_declare.proofs.Deciding.{all-append, all-firsts}

abbrev pub later-symbols : List w.Placed → List SymbolEntry
later-symbols ps = firsts_after symbol_name (map symbol_name built_in_symbols) (joined symbols_in ps)

pub are-sorts : (ps : List w.Placed) → IsFaultless ps → AreSorts (names_of ps)
are-sorts ps f = record {
  apart = firsts-apart sort_name [] (built_in_sorts ++ joined sorts_in ps);
  ok = all-firsts (sort_ok (names_of ps)) sort_name [] (built_in_sorts ++ joined sorts_in ps)
      (all-append (sort_ok (names_of ps)) built_in_sorts (joined sorts_in ps) refl (all-sound (names_of ps) (sort_ok (names_of ps)) sorts_in (sorts-sound (names_of ps)) ps f.faultless));
  ranges_ok = all-firsts (range_ok (names_of ps)) range_sort [] (joined ranges_in ps) (all-sound (names_of ps) (range_ok (names_of ps)) ranges_in (ranges-sound (names_of ps)) ps f.faultless);
  integer_known = refl;
  event_known = refl;
  fluent_known = refl;
  integer_at = refl;
  event_at = refl;
  fluent_at = refl;
  event_root = refl;
  fluent_root = refl;
  size = length (drop 1 (names_of ps).sorts);
  size_is = refl;
}

pub are-symbols : (ps : List w.Placed) → IsFaultless ps → AreSymbols (names_of ps) (later-symbols ps)
are-symbols ps f = record {
  symbols_are = refl;
  ok = all-firsts (symbol_ok (names_of ps)) symbol_name (map symbol_name built_in_symbols) (joined symbols_in ps) (all-sound (names_of ps) (symbol_ok (names_of ps)) symbols_in (symbols-sound (names_of ps)) ps f.faultless);
  built_in_known = refl;
  time_known = refl;
  time_at = refl;
  time_integer = refl;
}

-- a sort that isn't of whole numbers has no range
no-range : (ps : List w.Placed) → IsFaultless ps → (sort : List ℕ) → is_integer_sort (names_of ps) sort ≡ false → range_named (names_of ps) sort ≡ None
no-range ps f sort plain = by (range_named (names_of ps) sort) refl
  where
    by : (o : Option RangeEntry) → range_named (names_of ps) sort ≡ o → range_named (names_of ps) sort ≡ None
    by None is = is
    by (Some r) is = absurd (true≢false (sym (sorts.range-by (names_of ps) (are-sorts ps f) sort (Some r) is refl) ∙ plain))

begins : (ps : List w.Placed) → IsFaultless ps → BeginsBuiltIn (signature_of (names_of ps))
begins ps f = record {
  sorts = rw (no-range ps f (codes "boolean") refl, no-range ps f word_event refl, no-range ps f word_fluent refl) refl;
  predicates = refl;
}

all-symbols : (ps : List w.Placed) (p : SymbolEntry → Bool) → list_all p built_in_symbols ≡ true → list_all p (joined symbols_in ps) ≡ true → list_all p (names_of ps).symbols ≡ true
all-symbols ps p built declared = all-firsts p symbol_name [] (built_in_symbols ++ joined symbols_in ps) (all-append p built_in_symbols (joined symbols_in ps) built declared)

pub lawful : (ps : List w.Placed) → IsFaultless ps → IsSignature (signature_of (names_of ps))
lawful ps f =
    let names = names_of ps in
    let are = are-sorts ps f in
    let declared = later-symbols ps in
    let have = are-symbols ps f in
    record {
      built_in_first = begins ps f;
      known_sorts = record {
        parents = sorts.parents-known names are;
        constants = symbols.known-constants names are declared have;
        events = symbols.known-events names are declared have;
        fluents = symbols.known-fluents names are declared have;
        predicates = symbols.known-predicates names are declared have;
      };
      no_parent_cycle = sorts.no-cycle names are;
      integer_kinds = sorts.integer-kinds names are;
      event_kinds = sorts.event-kinds names are;
      fluent_kinds = sorts.fluent-kinds names are;
      reified_no_parent = sorts.reified-no-parent names are;
      integer_ranges = sorts.integer-ranges names are;
      small_ranges = sorts.small-ranges names are;
      plain_constants = symbols.plain-constants names are declared have;
      unreified_event_arguments = symbols.unreified-events names are declared have;
      unreified_fluent_arguments = symbols.unreified-fluents names are declared have;
      event_ranges = symbols.event-ranges names are declared have;
      fluent_ranges = symbols.fluent-ranges names are declared have;
      predicate_ranges = symbols.predicate-ranges names are declared have;
      time_range = symbols.time-range names are declared have;
      inertial_events = symbols.inertial-events names are declared have;
      inertial_predicates = symbols.inertial-predicates names are declared have;
      upper_names = upper-names names (all-symbols ps has_upper_name refl f.upper);
      distinct_names = distinct-names names (firsts-apart symbol_name [] (built_in_symbols ++ joined symbols_in ps));
      listable = listable names (sorts-listable ps f.few) (symbols-listable ps f.few) (all-symbols ps is_short refl (short-joined ps (omega (arith, f.few))));
    }
