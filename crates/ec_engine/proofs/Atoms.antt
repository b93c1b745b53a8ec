-- How many visible atoms there are, by a signature and by the theory that has it.
use Rattle.std.proofs.Common.{◌≡◌, ℕ, ◌<◌, ◌≤◌, codes, List, length, Option, Ok, arith, ap, ◌∙◌}
use Rattle.ec_accept.specs.Accepted.{IsAccepted}
use Rattle.ec_engine.specs.List.{IsRefused, many_atoms}
use Rattle.ec_load.specs.Refusals.{refused, in_file}
use Rattle.ec_logic.specs.Atom.{visible_atoms}
use Rattle.ec_logic.specs.Signature.{Signature}
use Rattle.ec_logic.specs.Theory.{Theory}
use Rattle.ec_logic.specs.Universe.{universe_of}

abbrev count_of : Signature → ℕ
count_of signature = length (visible_atoms (universe_of signature))

pub visible_is : (numbered signature : Signature) (count : ℕ) → numbered ≡ signature → count ≡ length (visible_atoms (universe_of numbered)) → count ≡ length (visible_atoms (universe_of signature))
visible_is numbered signature count same is = is ∙ ap count_of same

pub few_atoms : (numbered signature : Signature) (count : ℕ) → numbered ≡ signature → count ≡ length (visible_atoms (universe_of numbered)) → count ≤ 16 → length (visible_atoms (universe_of signature)) ≤ 16
few_atoms numbered signature count same is few =
    let e : count_of numbered ≡ count_of signature = ap count_of same in
    omega (arith, e, is, few)

pub too_many : (held : List ℕ → Option (List ℕ)) (file : List ℕ) (theory : Theory) (numbered : Signature) (count : ℕ) → numbered ≡ theory.signature → count ≡ length (visible_atoms (universe_of numbered)) → 16 < count
    → IsAccepted held file (Ok theory) → IsRefused held file (refused 21 (in_file file 0) (codes "atoms"))
too_many held file theory numbered count same is many said =
    let e : count_of numbered ≡ count_of theory.signature = ap count_of same in
    many_atoms theory said (omega (arith, e, is, many))
