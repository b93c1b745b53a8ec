-- How large the theory of a sample is: each of the forty theories is measured.
use Rattle.std.proofs.Common.{◌≡◌, ◌≤◌, ℕ, ◌*◌, ◌^◌, Bool, true, nat_le, refl, arith}
use Rattle.std.proofs.lemmas.Bool.{leb-true}
use Rattle.std.specs.List.{list_all, range_with_len}
use Rattle.ec_accept.specs.Accepted.{visible_count}
use Rattle.ec_logic.specs.Atom.{visible_predicates}
use Rattle.ec_logic.specs.Total.{total}
use Rattle.ec_logic.specs.Universe.{Universe, universe_of}
use Rattle.ec_logic.proofs.Numbering.{visible_count as visible_total}
use Rattle.ec_weight.specs.Weight.{weight_of}
use Rattle.ec_sampled.specs.Theory.{sample_signature, sample_theory}
use Rattle.ec_sampled.proofs.Passing.{passes}

-- ---- weights

abbrev is_light : ℕ → Bool
is_light n = nat_le (weight_of (sample_theory n)) 4000000

all_light : list_all is_light (range_with_len 1 40) ≡ true
all_light = refl

pub sample_is_light : (n : ℕ) → 1 ≤ n → n ≤ 40 → weight_of (sample_theory n) ≤ 4000000
sample_is_light n low high = leb-true (weight_of (sample_theory n)) 4000000 (passes is_light 1 40 n all_light low (omega (arith, high)))

-- ---- visible atoms, counted predicate by predicate

abbrev universe : ℕ → Universe
universe n = universe_of (sample_signature n)

abbrev atoms : ℕ → ℕ
atoms n = total (universe n) (visible_predicates (universe n))

abbrev has_few : ℕ → Bool
has_few n = nat_le (atoms n) 6000

all_few : list_all has_few (range_with_len 1 40) ≡ true
all_few = refl

few : (n : ℕ) → 1 ≤ n → n ≤ 40 → visible_count (sample_theory n) ≤ 6000
few n low high =
    let counted : visible_count (sample_theory n) ≡ atoms n = visible_total (universe n) in
    let bound = leb-true (atoms n) 6000 (passes has_few 1 40 n all_few low (omega (arith, high))) in
    omega (arith, counted, bound)

pub sample_has_few : (n : ℕ) → 1 ≤ n → n ≤ 40 → visible_count (sample_theory n) ≤ 262144
sample_has_few n low high = let bound = few n low high in omega (arith, bound)

pub sample_is_small : (n : ℕ) → 1 ≤ n → n ≤ 40 → 1000 * visible_count (sample_theory n) ≤ 2 ^ 28
sample_is_small n low high = let bound = few n low high in omega (arith, bound)

-- ---- two samples, worked out by hand

weight_of_two : weight_of (sample_theory 2) ≡ 1077
weight_of_two = refl

atoms_of_two : atoms 2 ≡ 24
atoms_of_two = refl

weight_of_twenty : weight_of (sample_theory 20) ≡ 398355
weight_of_twenty = refl

atoms_of_twenty : atoms 20 ≡ 1320
atoms_of_twenty = refl
