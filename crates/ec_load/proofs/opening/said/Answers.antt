use Rattle.ec_load.proofs.Reading.{spelled_says, spelled_are_named, spelled_are_few}
use Rattle.ec_load.proofs.opening.said.Goals as goal

pub returns-in-Ok-clause-says : goal.returns-in-Ok-clause-says
returns-in-Ok-clause-says c = spelled_says c.args.file.now c.args.bytes.now c.deref.result.now (rw c.deref.ensures.value c.in-Ok.ensures.says) c.parsed.result c.parsed.ensures.says

pub returns-in-Ok-clause-named : goal.returns-in-Ok-clause-named
returns-in-Ok-clause-named c = spelled_are_named c.args.file.now c.args.bytes.now c.deref.result.now (rw c.deref.ensures.value c.in-Ok.ensures.says) c.parsed.result c.parsed.ensures.says

pub returns-in-Ok-clause-few : goal.returns-in-Ok-clause-few
returns-in-Ok-clause-few c = spelled_are_few c.args.file.now c.args.bytes.now c.deref.result.now (rw c.deref.ensures.value c.in-Ok.ensures.says) c.requires c.parsed.result c.parsed.ensures.says
