use Rattle.std.proofs.Common.{◌≡◌, ◌++◌, ◌∷◌, [], refl, ap, ◌∙◌, map}
use Rattle.std.proofs.lemmas.List.{map-append}
use Rattle.ec_syntax.specs.View.{placed_of, statement_of}
use Rattle.ec_load.specs.Book.{placed_at}
use Rattle.ec_load.specs.Gathered.{gathered}
use Rattle.ec_load.proofs.Gathers.{added_is_gathered}
use Rattle.ec_load.proofs.gathering.Gathering.add.Goals as goal

pub returns-clause-statements : goal.returns-clause-statements
returns-clause-statements c = ap (map placed_of) c.in_ok-push.ensures.items ∙ map-append placed_of c.args.self.now.statements.items _

pub returns-clause-sound : goal.returns-clause-sound
returns-clause-sound c =
    let is : map placed_of c.push.new.self.items ≡ map placed_of c.args.self.now.statements.items ++ placed_at c.args.at (statement_of c.args.statement) ∷ [] =
    ap (map placed_of) c.in_ok-push.ensures.items ∙ map-append placed_of c.args.self.now.statements.items _ in
    added_is_gathered (gathered c.args.self.now) (gathered (record c.args.self.now { statements = c.push.new.self })) c.args.at (statement_of c.args.statement) c.requires.file c.requires.own c.requires.named c.requires.sound refl is
