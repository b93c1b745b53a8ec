use Rattle.std.proofs.Common.{sym, ◌∙◌}
use Rattle.std.proofs.lemmas.List.{length-map}
use Rattle.std.specs.Str.{bytes_eq}
use Rattle.ec_names.specs.Names.{sort_name, sort_words}
use Rattle.ec_declare.proofs.Gathering.{place-none}
use Rattle.ec_declare.proofs.rows.sort_number.Goals as goal

pub returns-in-None : goal.returns-in-None
returns-in-None c =
    let names = c.args.names.now in
    c.sorts.ensures ∙ sym (length-map names.sorts sort_name) ∙ sym (place-none (bytes_eq c.args.sort.now) (sort_words names) (sym c.sort.ensures ∙ c.in-None.is))
