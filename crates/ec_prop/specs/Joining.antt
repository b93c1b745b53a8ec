-- What a join that is under way comes to.
use Rattle.std.specs.Prelude.{Bool, not, ◌||◌, List, ◌++◌, filter, if◌then◌else◌}
use Rattle.std.specs.List.{list_any}
use Rattle.ec_folding.specs.Tree.{Tree}
use Rattle.ec_folding.specs.Join.{opened, closed, constant, is_constant}
use Rattle.ec_prop.specs.declared.join.Joining.{Joining}
use Rattle.ec_prop.specs.Prop.{trees_of}

-- whether a conj is made, and not a disj
abbrev pub is_conj : Joining → Bool
is_conj j = j.conjunction

-- what parts come to after those that are kept, none of them opened, where the join may be decided already
abbrev pub join_after : Bool → Bool → List Tree → List Tree → Tree
join_after sign decided kept rest =
    if decided || list_any (is_constant (not sign)) rest
    then constant (not sign)
    else closed sign (kept ++ filter (λ t. not (is_constant sign t)) rest)

-- what the parts given so far and these come to, these unopened
abbrev pub joined_with_unopened : Joining → List Tree → Tree
joined_with_unopened j rest = join_after j.conjunction j.decided (trees_of j.kept.items) rest

-- what the parts given so far and these come to
abbrev pub joined_with : Joining → List Tree → Tree
joined_with j rest = joined_with_unopened j (opened j.conjunction rest)
