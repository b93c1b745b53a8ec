-- What is told of a fluent at a time.
use Rattle.std.specs.Prelude.{ℕ, codes, List, [], ◌++◌}
use Rattle.ec_logic.specs.Narrative.{line}
use Rattle.ec_narr.specs.declared.tells.Tells.{Tells}
use Rattle.ec_narr.specs.declared.tells.Tells.TheVariants.{Nothing, Holds, Begins, Ends}

-- the line of a fluent with this text
abbrev pub told : Tells → List ℕ → List ℕ
told Nothing text = []
told Holds text = line (text ++ codes ".")
told Begins text = line (codes "+" ++ text ++ codes ".")
told Ends text = line (codes "-" ++ text ++ codes ".")
