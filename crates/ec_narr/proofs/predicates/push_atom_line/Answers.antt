use Rattle.std.proofs.Common.{◌≡◌, ◌++◌, ◌∙◌, ℕ, List, true, false, Some, slice_get, unwrap_or, ap, sym, codes}
use Rattle.std.proofs.lemmas.List.{append-nil}
use Rattle.ec_logic.specs.Atom.{GroundAtom, structure_of, visible_atoms}
use Rattle.ec_logic.specs.Narrative.{atom_line, atom_text, line}
use Rattle.ec_logic.specs.Universe.{universe_of}
use Rattle.ec_narr.proofs.PredicateLemmas.{line_is, on_ok_map}
use Rattle.ec_narr.proofs.predicates.push_atom_line.Goals as goal

pub returns-then-not-bit_at : goal.returns-then-not-bit_at
returns-then-not-bit_at c = λ atom at.
    (let off : false ≡ unwrap_or (slice_get c.args.truth.now c.args.index) false = cc (c.bit_at.ensures, c.if-not-bit_at.true) in
    let none = line_is c.args.signature.now c.requires.valid c.args.truth.now c.args.index atom at false off in
    let add : List ℕ → List ℕ = λ x. c.args.out.now.items ++ x in
    sym (append-nil c.args.out.now.items) ∙ ap add (sym none))

pub returns : goal.returns
returns c =
    let on : true ≡ unwrap_or (slice_get c.args.truth.now c.args.index) false = cc (c.bit_at.ensures, c.if-not-bit_at.false) in
    let add : List ℕ → List ℕ = λ x. c.args.out.now.items ++ x in
    on_ok_map c.push_true_atom.result
    ((atom : GroundAtom) → slice_get (visible_atoms (universe_of c.args.signature.now)) c.args.index ≡ Some atom → c.push_true_atom.new.out.items ≡ c.args.out.now.items ++ line (atom_text c.args.signature.now atom ++ codes "."))
    ((atom : GroundAtom) → slice_get (visible_atoms (universe_of c.args.signature.now)) c.args.index ≡ Some atom → c.push_true_atom.new.out.items ≡ c.args.out.now.items ++ atom_line c.args.signature.now (structure_of (universe_of c.args.signature.now) c.args.truth.now) atom)
    c.push_true_atom.ensures
    (λ h atom at. h atom at ∙ ap add (sym (line_is c.args.signature.now c.requires.valid c.args.truth.now c.args.index atom at true on)))
