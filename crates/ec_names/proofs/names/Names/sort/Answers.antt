use Rattle.std.proofs.Common.{sym, ap, ◌∙◌}
use Rattle.std.specs.Prelude.{position}
use Rattle.std.specs.Str.{bytes_eq}
use Rattle.ec_names.specs.Names.{sort_words}
use Rattle.ec_names.proofs.Lookups.{sort_words-keys}
use Rattle.ec_names.proofs.names.Names.sort.Goals as goal

pub returns-in-Some : goal.returns-in-Some
returns-in-Some c =
    sym c.in-Some.is ∙ c.get_index_of.ensures.index ∙ ap (position (bytes_eq c.args.word.now)) (sym (sort_words-keys c.self.inside.sorts.entries))
    ∙ ap (λ n. position (bytes_eq c.args.word.now) (sort_words n)) c.self.view_is

pub returns-in-None : goal.returns-in-None
returns-in-None c =
    sym c.in-None.is ∙ c.get_index_of.ensures.index ∙ ap (position (bytes_eq c.args.word.now)) (sym (sort_words-keys c.self.inside.sorts.entries))
    ∙ ap (λ n. position (bytes_eq c.args.word.now) (sort_words n)) c.self.view_is
