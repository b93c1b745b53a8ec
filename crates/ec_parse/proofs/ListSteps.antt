-- Lists of words parted by commas.
use Rattle.std.proofs.Common.{◌≡◌, ℕ, List, [], ◌∷◌, None, refl}
use Rattle.ec_parse.specs.Mark.{Mark, Lacks}
use Rattle.ec_parse.specs.Mark as m
use Rattle.ec_parse.specs.Terms.{variable_of}
use Rattle.ec_parse.specs.Reads.{word_of}
use Rattle.ec_parse.specs.Lists.{IsName, name, IsVariable, variable, AreMore, AreParted, commas}
use Rattle.ec_parse.proofs.Parted.{name_one, variable_one, map_word, Parts, parts_end}

pub no_name : {ms : List Mark} {a : List ℕ} {r : List Mark} → ((n : List ℕ) (more : List Mark) → ms ≡ m.upper n ∷ more → ⊥) → IsName ms a r → ⊥
no_name lacks name = lacks _ _ refl

pub no_variable : {x : Mark} {ms : List Mark} {a : List ℕ} {r : List Mark} → variable_of x ≡ None → IsVariable (x ∷ ms) a r → ⊥
no_variable n (variable v) = cc

pub nothing : {a : List ℕ} {r : List Mark} → IsVariable [] a r → ⊥
nothing d = elim d [ ]

pub names_end : {marks rest : List Mark} {found : List (List ℕ)} → Parts word_of IsName marks rest found → AreParted IsName marks found rest
names_end {found = found} c = rw (← map_word found) (parts_end word_of IsName name_one c)

pub variables_end : {marks rest : List Mark} {found : List (List ℕ)} → Parts word_of IsVariable marks rest found → AreParted IsVariable marks found rest
variables_end {found = found} c = rw (← map_word found) (parts_end word_of IsVariable variable_one c)

pub ruleset listing = (name, variable, no_name, no_variable, nothing)
