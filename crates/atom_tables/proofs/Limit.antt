-- The greatest number of visible atoms. A predicate over so many numbers, where there is no event and no fluent, has one atom for each.
use Rattle.std.proofs.Common.{◌≡◌, ◌<◌, ℕ, pos, length, refl, ◌∙◌, arith}
use Rattle.ec_logic.specs.Universe.{Universe, universe_of}
use Rattle.ec_logic.specs.Atom.{all_atoms, visible_atoms}
use Rattle.ec_logic.proofs.Numbering.{visible_count, all_count}
use Rattle.theory_tables.specs.Samples.{ranged}

abbrev over : ℕ → Universe
over greatest = universe_of (ranged (pos 1, pos greatest))

visible : length (visible_atoms (over 262144)) ≡ 262144
visible = visible_count (over 262144) ∙ refl

all : length (all_atoms (over 262144)) ≡ 262144
all = all_count (over 262144) ∙ refl

too-many : 262144 < length (visible_atoms (over 262145))
too-many = let count : length (visible_atoms (over 262145)) ≡ 262145 = visible_count (over 262145) ∙ refl in omega (arith, count)
