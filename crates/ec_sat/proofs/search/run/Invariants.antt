use Rattle.std.proofs.Common.{◌≡◌, ◌-◌, ◌≤◌}
use Rattle.ec_sat.specs.Ready.{IsReady}
use Rattle.ec_sat.proofs.Running.{IsRunning}
use Rattle.ec_sat.proofs.search.run.Given as goal

abbrev pub invariant-loop-search : goal.invariant-loop-search
invariant-loop-search g l =
    IsRunning l.initial.search.clauses l.search.clauses (g.N.Notes.notes l.initial.notes) (g.N.Notes.notes l.notes) l.initial.search.derived l.search.derived × IsReady l.search.clauses l.search.trail l.search.watch l.search.order l.search.marks.items l.search.known × (l.search.derived ≤ l.limit) × (g.N.Notes.numbers l.notes ≡ g.N.Notes.numbers l.initial.notes)

abbrev pub decreases-loop-search : goal.decreases-loop-search
decreases-loop-search g l = l.limit - l.search.derived
