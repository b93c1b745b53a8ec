use Rattle.std.proofs.Common.{sym, refl}
use Rattle.ec_trail.proofs.Lookup.{none_value, some_value}
use Rattle.ec_trail.proofs.trail.Trail.level_of.Goals as goal

pub returns-in-None-clause-none : goal.returns-in-None-clause-none
returns-in-None-clause-none c =
    (λ h. none_value c.args.self.now.variables c.args.self.now.entries c.args.variable (sym c.in-None.ensures), λ h. refl)

pub returns-in-Some-clause-none : goal.returns-in-Some-clause-none
returns-in-Some-clause-none c =
    (λ h. cc, λ none. absurd (some_value c.args.self.now.variables c.args.self.now.entries c.args.variable c.in-Some.entry c.requires (sym c.in-Some.ensures) none))
