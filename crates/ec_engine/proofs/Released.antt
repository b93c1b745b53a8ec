-- The fluents that have a release axiom, counted one after the other.
use Rattle.std.proofs.Common.{◌≡◌, ℕ, zero, suc, ◌+◌, ◌-◌, ◌<◌, Bool, ◌||◌, not, true, false, List, [], ◌∷◌, ◌++◌, length, drop, Option, Some, None, refl, sym, ap, ◌∙◌, add-one, append-nil, arith}
use Rattle.std.specs.Prelude.{filter, slice_get, option_map}
use Rattle.ec_logic.specs.Signature.{Signature, SymbolRow}
use Rattle.ec_engine.specs.PartTexts.{symbol_of}

module _ (test : SymbolRow → Bool) where
  fails : (rows : List SymbolRow) (i place : ℕ) → option_map test (slice_get rows i) ≡ Some false → slice_get (filter test (drop (suc i) rows)) place ≡ slice_get (filter test (drop i rows)) place
  fails [] i place is = absurd (cc)
  fails (row ∷ rows) zero place is = let e : test row ≡ false = cc in rw e refl
  fails (row ∷ rows) (suc i) place is = fails rows i place is

  passes : (rows : List SymbolRow) (i place : ℕ) → option_map test (slice_get rows i) ≡ Some true → slice_get (filter test (drop (suc i) rows)) place ≡ slice_get (filter test (drop i rows)) (suc place)
  passes [] i place is = absurd (cc)
  passes (row ∷ rows) zero place is = let e : test row ≡ true = cc in rw e refl
  passes (row ∷ rows) (suc i) place is = passes rows i place is

  found : (rows : List SymbolRow) (i : ℕ) → option_map test (slice_get rows i) ≡ Some true → slice_get (filter test (drop i rows)) 0 ≡ slice_get rows i
  found [] i is = absurd (cc)
  found (row ∷ rows) zero is = let e : test row ≡ true = cc in rw e refl
  found (row ∷ rows) (suc i) is = found rows i is

  past : (rows : List SymbolRow) (place : ℕ) → slice_get (filter test (drop (length rows) rows)) place ≡ None
  past [] place = refl
  past (row ∷ rows) place = past rows place

-- whether a fluent has a release axiom
abbrev pub has_axiom : Signature → SymbolRow → Bool
has_axiom signature row = row.noninertial || not signature.manual_release

-- the fluent at a place among those that have a release axiom, from a fluent on
abbrev pub released_from : Signature → ℕ → ℕ → Option SymbolRow
released_from signature fluent place = slice_get (filter (has_axiom signature) (drop fluent signature.fluents)) place

pub without : (signature : Signature) (fluent place : ℕ) → option_map (has_axiom signature) (slice_get signature.fluents fluent) ≡ Some false → released_from signature (fluent + 1) place ≡ released_from signature fluent place
without signature fluent place is = rw add-one (fails (has_axiom signature) signature.fluents fluent place is)

pub counted : (signature : Signature) (fluent place : ℕ) → option_map (has_axiom signature) (slice_get signature.fluents fluent) ≡ Some true → 0 < place → released_from signature (fluent + 1) (place - 1) ≡ released_from signature fluent place
counted signature fluent zero is some = absurd (omega (arith, some))
counted signature fluent (suc place) is some = let one : suc place - 1 ≡ place = omega arith in rw (add-one, one) (passes (has_axiom signature) signature.fluents fluent place is)

-- the name of the fluent that stands there
pub name_there : (signature : Signature) (fluent : ℕ) (name : List ℕ) (at : Option SymbolRow) → option_map (has_axiom signature) (slice_get signature.fluents fluent) ≡ Some true → option_map (λ (row : SymbolRow). row.name) (slice_get signature.fluents fluent) ≡ Some name
    → released_from signature fluent 0 ≡ at → symbol_of at ≡ name
name_there signature fluent name at has named is = ap symbol_of (sym is ∙ found (has_axiom signature) signature.fluents fluent has) ∙ named_by (slice_get signature.fluents fluent) named
  where
    named_by : (row : Option SymbolRow) → option_map (λ (r : SymbolRow). r.name) row ≡ Some name → symbol_of row ≡ name
    named_by None h = absurd (cc)
    named_by (Some row) h = cc

-- no fluent stands past the last
pub nothing_past : (signature : Signature) (fluent place : ℕ) (at : Option SymbolRow) (text : List ℕ) → fluent ≡ length signature.fluents → released_from signature fluent place ≡ at → text ≡ text ++ symbol_of at
nothing_past signature fluent place at text end is =
    let none : at ≡ None = sym is ∙ ap (λ (n : ℕ). released_from signature n place) end ∙ past (has_axiom signature) signature.fluents place in
    rw none (sym (append-nil text))
