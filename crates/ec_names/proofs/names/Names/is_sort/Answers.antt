use Rattle.std.proofs.Common.{ap, ◌∙◌}
use Rattle.std.specs.Prelude.{is_some}
use Rattle.ec_names.specs.Names.{sort_named}
use Rattle.ec_names.proofs.Lookups.{sort-there}
use Rattle.ec_names.proofs.names.Names.is_sort.Goals as goal

pub returns : goal.returns
returns c = c.contains_key.ensures ∙ sort-there c.self.inside.sorts.entries c.args.word.now ∙ ap (λ n. is_some (sort_named n c.args.word.now)) c.self.view_is
