use Rattle.std.proofs.Common.{sym, ap, ◌∙◌}
use Rattle.ec_names.specs.Names.{parent_of}
use Rattle.ec_names.proofs.Lookups.{parent-none, parent-some}
use Rattle.ec_names.proofs.names.Names.parent.Goals as goal

pub returns-in-Some : goal.returns-in-Some
returns-in-Some c =
    c.as_ref.ensures.value ∙ parent-some c.self.inside.sorts.entries c.args.sort.now c.in-Some.parent.now (sym c.in-Some.ensures.value) ∙ ap (λ n. parent_of n c.args.sort.now) c.self.view_is

pub returns-in-None : goal.returns-in-None
returns-in-None c = parent-none c.self.inside.sorts.entries c.args.sort.now (sym c.in-None.ensures.value) ∙ ap (λ n. parent_of n c.args.sort.now) c.self.view_is
