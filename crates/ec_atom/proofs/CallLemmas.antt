-- What a numbering's calls ask of its tables, and what their answers say of its signature.
use Rattle.std.proofs.Common.{◌≡◌, ℕ, zero, suc, ◌+◌, ◌<◌, ◌≤◌, ◌^◌, Bool, true, is_some, ℤ, pos, List, [], ◌∷◌, length, get_or, slice_get, Some, Result, Ok, Err, sym, ap, subst, ◌∙◌, arith}
use Rattle.std.specs.Prelude.{IfOk}
use Rattle.std.proofs.lemmas.Option.{slice_get_within}
use Rattle.ec_logic.specs.Extent.{size_of}
use Rattle.ec_logic.specs.Signature.{Signature, SymbolRow, event_sort, fluent_sort}
use Rattle.ec_logic.specs.Universe.{Universe, universe_of, argument_sorts, extent_at, row_of, tuple_rank, before, place_of}
use Rattle.ec_logic.specs.Atom.{all_atoms, visible_atoms, number_of, predicates_in_order, visible_truth, structure_of}
use Rattle.ec_logic.specs.Truth.{Structure, IsStructure}
use Rattle.ec_logic.specs.Total.{total}
use Rattle.ec_logic.specs.Valid.{IsSignature}
use Rattle.ec_logic.proofs.AtomOrder.{predicate_at, place_in_order}
use Rattle.ec_logic.proofs.Counted.{same_count}
use Rattle.ec_logic.proofs.Extents.{arguments_length, ground_events, ground_fluents}
use Rattle.ec_logic.proofs.FewAtoms.{event_extent, fluent_extent, passing_all}
use Rattle.ec_logic.proofs.Numbering.{all_count}
use Rattle.ec_theory.proofs.TableLemmas as theory
use Rattle.ec_theory.specs.declared.value.Value.{Value}
use Rattle.ec_theory.specs.Values.{numbers_of}
use Rattle.ec_atom.specs.declared.table.Values.{Values}
use Rattle.ec_atom.specs.declared.blocks.Blocks.{Blocks}
use Rattle.ec_atom.specs.declared.kinds.Symbols.TheVariants.{Predicates}
use Rattle.ec_atom.specs.Blocks.{universe_in, rows_in, AreSound, AreBlocks, AreBlocksOf, Application, application_at, number_in}
use Rattle.ec_atom.specs.Ground.{are_within, atom_of, truths_in}
use Rattle.ec_atom.specs.Numbering.{IsNumbering}
use Rattle.ec_atom.specs.Symbols.{rows_of}
use Rattle.ec_atom.proofs.AtomLaws.{atom_there, place_known, predicate_known, truths_of_structure, structure_of_truths, visible_numbered, all_numbered}
use Rattle.ec_atom.proofs.BlockLemmas.{firsts_count, first_found}
use Rattle.ec_atom.proofs.SeenLemmas.{sound, blocks_here, within_here, number_there, count_same, application_there, place_is, rank_of_number}
use Rattle.ec_atom.proofs.SymbolLemmas.{predicates_count, row_of_predicate, number_of_predicate, number_at_place, all_before, rank_there}

-- what is said of a copy is said of the signature
pub moved : (a b : Signature) (tables : List Values) (events fluents predicates : Blocks) → a ≡ b → IsNumbering a tables events fluents predicates → IsNumbering b tables events fluents predicates
moved a b tables events fluents predicates e n = let P : Signature → Type 0 = λ s. IsNumbering s tables events fluents predicates in subst P e n

pub if_ok_map : {X Y : Type 0} {P Q : X → Type 0} (r : Result X Y) → IfOk r P → ((x : X) → P x → Q x) → IfOk r Q
if_ok_map (Ok x) h f = f x h
if_ok_map (Err e) h f = tt

-- ---- how many ground events and fluents there are

module _ (signature : Signature) (valid : IsSignature signature) where
  pub events_count : before (universe_of signature) (universe_of signature).events (length (universe_of signature).events) ≡ size_of (extent_at (universe_of signature) event_sort)
  events_count =
      let same = same_count signature 0 0 (ground_events signature) (ground_fluents signature) signature.events
      (λ k row found i s at. (valid.known_sorts.events k row found i s at, valid.unreified_event_arguments k row found i s at)) in
      let size : size_of (extent_at (universe_of signature) event_sort) ≡ ground_events signature = ap size_of (event_extent signature valid) ∙ passing_all signature valid 0 (ground_events signature) in
      sym same ∙ sym size

  pub fluents_count : before (universe_of signature) (universe_of signature).fluents (length (universe_of signature).fluents) ≡ size_of (extent_at (universe_of signature) fluent_sort)
  fluents_count =
      let same = same_count signature 0 0 (ground_events signature) (ground_fluents signature) signature.fluents
      (λ k row found i s at. (valid.known_sorts.fluents k row found i s at, valid.unreified_fluent_arguments k row found i s at)) in
      let size : size_of (extent_at (universe_of signature) fluent_sort) ≡ ground_fluents signature = ap size_of (fluent_extent signature valid) ∙ passing_all signature valid 0 (ground_fluents signature) in
      sym same ∙ sym size

  pub few_in_order : total (universe_of signature) (predicates_in_order (universe_of signature)) < 2 ^ 62 → before (universe_of signature) (rows_of (universe_of signature) Predicates) (length (rows_of (universe_of signature) Predicates)) < 2 ^ 62
  few_in_order h =
      let b = all_before signature (theory.six_predicates signature valid) in
      let c = all_count (universe_of signature) in
      omega (arith, h, b, c)

-- ---- the calls

module _ (signature : Signature) (tables : List Values) (events fluents predicates : Blocks) (numbering : IsNumbering signature tables events fluents predicates) where
  abbrev universe : Universe
  universe = universe_of signature

  many : 6 ≤ length signature.predicates
  many = theory.six_predicates signature numbering.valid

  same_predicates : length universe.predicates ≡ length signature.predicates
  same_predicates = arguments_length signature.predicates

  pub tables_sound : AreSound tables
  tables_sound = sound signature tables numbering.tables_are

  pub predicates_here : AreBlocks (universe_in tables) predicates
  predicates_here = blocks_here signature tables numbering.tables_are (rows_of universe Predicates) predicates numbering.predicates_are

  pub events_here : AreBlocks (universe_in tables) events
  events_here = blocks_here signature tables numbering.tables_are universe.events events numbering.events_are

  pub fluents_here : AreBlocks (universe_in tables) fluents
  fluents_here = blocks_here signature tables numbering.tables_are universe.fluents fluents numbering.fluents_are

  rows_count : length (rows_in predicates) ≡ length signature.predicates
  rows_count = ap length numbering.predicates_are.rows_are ∙ predicates_count signature many

  -- an atom with a number stands there
  pub stands_there : (p k : ℕ) (args : List Value) → p < length signature.predicates → number_of universe p (numbers_of args) ≡ Some k → slice_get (all_atoms universe) k ≡ Some (atom_of p args)
  stands_there p k args known h = let s = same_predicates in atom_there universe p k (numbers_of args) (omega (arith, known, s)) h

  pub stands_below : (p k : ℕ) (args : List Value) → p < length signature.predicates → number_of universe p (numbers_of args) ≡ Some k → k < length (all_atoms universe)
  stands_below p k args known h = slice_get_within (all_atoms universe) k (atom_of p args) (stands_there p k args known h)

  -- ---- the truths of atoms

  many_there : 6 ≤ length universe.predicates
  many_there = let s = same_predicates in let m = many in omega (arith, s, m)

  pub visible_truths : (n : ℕ) → n ≡ length (visible_atoms universe) → (truths : List Bool) → length truths ≡ n → visible_truth universe (structure_of universe truths) ≡ truths
  visible_truths n h truths e = truths_of_structure universe (visible_atoms universe) (visible_numbered universe many_there) truths (e ∙ h)

  pub all_truths : (n : ℕ) → n ≡ length (all_atoms universe) → (truths : List Bool) → length truths ≡ n → truths_in universe (structure_of universe truths) ≡ truths
  all_truths n h truths e = truths_of_structure universe (all_atoms universe) (all_numbered universe many_there) truths (e ∙ h)

  pub all_structures : (m : Structure) → IsStructure universe m → (p : ℕ) (vs : List ℤ) → structure_of universe (truths_in universe m) p vs ≡ m p vs
  all_structures m is p vs = structure_of_truths universe m is p vs

  -- ---- the number of an atom

  module _ (p place : ℕ) (args : List Value) (known : p < length signature.predicates) (place_here : place ≡ place_in_order (length signature.predicates) p) where
    pub index_known : place < length (rows_in predicates)
    index_known = let k = place_known (length signature.predicates) p many known in let r = rows_count in omega (arith, k, r, place_here)

    pub index_within : are_within universe (row_of universe.predicates p) args ≡ true → is_some (tuple_rank (universe_in tables) (row_of (rows_in predicates) place) (numbers_of args)) ≡ true
    index_within h =
        let row : row_of (rows_of universe Predicates) place ≡ row_of universe.predicates p = ap (row_of (rows_of universe Predicates)) place_here ∙ row_of_predicate signature many p known in
        within_here signature tables numbering.tables_are (rows_of universe Predicates) predicates numbering.predicates_are place (numbers_of args) (ap (λ ss. is_some (tuple_rank universe ss (numbers_of args))) row ∙ h)

    pub index_number : (k : ℕ) → number_in (universe_in tables) (rows_in predicates) place (numbers_of args) ≡ Some k → number_of universe p (numbers_of args) ≡ Some k
    index_number k h =
        let there = number_there signature tables numbering.tables_are (rows_of universe Predicates) predicates numbering.predicates_are place (numbers_of args) (Some k) h in
        number_of_predicate signature many p (numbers_of args) (Some k) known (ap (λ i. number_in universe (rows_of universe Predicates) i (numbers_of args)) (sym place_here) ∙ there)

  -- ---- the atom with a number

  pub atoms_few : length (rows_in predicates) < 2 ^ 31
  atoms_few = let r = rows_count in let l = numbering.valid.listable.predicates in omega (arith, r, l)

  pub atoms_here : (index : ℕ) → index < length (all_atoms universe) → index < before (universe_in tables) (rows_in predicates) (length (rows_in predicates))
  atoms_here index h =
      let c = count_same signature tables numbering.tables_are (rows_of universe Predicates) predicates numbering.predicates_are in
      let b = all_before signature many in
      omega (arith, h, c, b)

  pub place_low : (place : ℕ) → place < length (rows_in predicates) → place < length signature.predicates
  place_low place known = let r = rows_count in omega (arith, known, r)

  module _ (p place index : ℕ) (args : List Value) (known : place < length (rows_in predicates)) (is : p ≡ predicate_at (length signature.predicates) place) (number : number_in (universe_in tables) (rows_in predicates) place (numbers_of args) ≡ Some index) where
    pub atom_known : p < length signature.predicates
    atom_known = let k = predicate_known (length signature.predicates) place many (place_low place known) in omega (arith, k, is)

    pub atom_number : number_of universe p (numbers_of args) ≡ Some index
    atom_number =
        let there = number_there signature tables numbering.tables_are (rows_of universe Predicates) predicates numbering.predicates_are place (numbers_of args) (Some index) number in
        ap (λ q. number_of universe q (numbers_of args)) is ∙ number_at_place signature many place (numbers_of args) (Some index) (place_low place known) there

    pub atom_within : are_within universe (row_of universe.predicates p) args ≡ true
    atom_within = rank_there universe p index (numbers_of args) atom_number

    pub atom_stands : slice_get (all_atoms universe) index ≡ Some (atom_of p args)
    atom_stands = stands_there p index args atom_known atom_number

  -- ---- events and fluents

  module _ (blocks : Blocks) (rows : List SymbolRow) (count : ℕ) (are : AreBlocksOf universe (argument_sorts rows) blocks) (all : before universe (argument_sorts rows) (length (argument_sorts rows)) ≡ count) where
    same_rows : length (rows_in blocks) ≡ length rows
    same_rows = ap length are.rows_are ∙ arguments_length rows

    pub term_known : (symbol : ℕ) → symbol < length rows → symbol < length (rows_in blocks)
    term_known symbol h = let s = same_rows in omega (arith, h, s)

    pub symbol_known : (symbol : ℕ) → symbol < length (rows_in blocks) → symbol < length rows
    symbol_known symbol h = let s = same_rows in omega (arith, h, s)

    pub terms_few : length rows < 2 ^ 31 → length (rows_in blocks) < 2 ^ 31
    terms_few h = let s = same_rows in omega (arith, h, s)

    pub term_within : (symbol : ℕ) (args : List Value) → are_within universe (row_of (argument_sorts rows) symbol) args ≡ true → is_some (tuple_rank (universe_in tables) (row_of (rows_in blocks) symbol) (numbers_of args)) ≡ true
    term_within symbol args h = within_here signature tables numbering.tables_are (argument_sorts rows) blocks are symbol (numbers_of args) h

    term_number : (symbol k : ℕ) (args : List Value) → number_in (universe_in tables) (rows_in blocks) symbol (numbers_of args) ≡ Some k → number_in universe (argument_sorts rows) symbol (numbers_of args) ≡ Some k
    term_number symbol k args h = number_there signature tables numbering.tables_are (argument_sorts rows) blocks are symbol (numbers_of args) (Some k) h

    pub term_place : (symbol k : ℕ) (args : List Value) → number_in (universe_in tables) (rows_in blocks) symbol (numbers_of args) ≡ Some k → place_of universe (argument_sorts rows) symbol (numbers_of args) ≡ pos k
    term_place symbol k args h = place_is universe (argument_sorts rows) symbol k (numbers_of args) (term_number symbol k args h)

    pub within_again : (symbol k : ℕ) (args : List Value) → number_in (universe_in tables) (rows_in blocks) symbol (numbers_of args) ≡ Some k → are_within universe (row_of (argument_sorts rows) symbol) args ≡ true
    within_again symbol k args h = rank_of_number universe (argument_sorts rows) symbol k (numbers_of args) (term_number symbol k args h)

    pub term_is : (place : ℕ) (term : Application) → term ≡ application_at (universe_in tables) (rows_in blocks) place → term ≡ application_at universe (argument_sorts rows) place
    term_is place term h = application_there signature tables numbering.tables_are (argument_sorts rows) blocks are place term h

    counted : before (universe_in tables) (rows_in blocks) (length (rows_in blocks)) ≡ count
    counted = count_same signature tables numbering.tables_are (argument_sorts rows) blocks are ∙ all

    pub place_counted : (place : ℕ) → place < count → place < before (universe_in tables) (rows_in blocks) (length (rows_in blocks))
    place_counted place h = let c = counted in omega (arith, h, c)

    pub counted_place : (place : ℕ) → place < before (universe_in tables) (rows_in blocks) (length (rows_in blocks)) → place < count
    counted_place place h = let c = counted in omega (arith, h, c)

    pub firsts_end : length blocks.firsts.items ≡ length (rows_in blocks) + 1
    firsts_end = firsts_count universe blocks are.blocks_are

    pub count_is : (n : ℕ) → slice_get blocks.firsts.items (length (rows_in blocks)) ≡ Some n → n ≡ count
    count_is n h =
        let first = first_found universe blocks are.blocks_are (length (rows_in blocks)) 0 (omega arith) in
        let read : get_or blocks.firsts.items (length (rows_in blocks)) 0 ≡ n = get_found blocks.firsts.items (length (rows_in blocks)) n h in
        sym read ∙ (first ∙ (ap (λ rs. before universe rs (length rs)) are.rows_are ∙ all))
      where
        get_found : (xs : List ℕ) (k n : ℕ) → slice_get xs k ≡ Some n → get_or xs k 0 ≡ n
        get_found [] k n h = cc
        get_found (x ∷ xs) zero n h = cc
        get_found (x ∷ xs) (suc k) n h = get_found xs k n h

    pub count_few : count < 2 ^ 62
    count_few = let f = are.blocks_are.few in let e : before universe (rows_in blocks) (length (rows_in blocks)) ≡ count = ap (λ rs. before universe rs (length rs)) are.rows_are ∙ all in omega (arith, f, e)
