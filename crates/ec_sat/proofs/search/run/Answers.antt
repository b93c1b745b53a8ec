use Rattle.std.proofs.Common.{◌∙◌, arith}
use Rattle.ec_trail.specs.TrailList.{truth_of}
use Rattle.ec_sat.proofs.Running.{running_push, runs_model, runs_conflicts, runs_memory, runs_exhausted}
use Rattle.ec_sat.proofs.search.run.Goals as goal

pub returns-in-None-clause-runs : goal.returns-in-None-clause-runs
returns-in-None-clause-runs g c =
    runs_model c.args.search.now.clauses c.loop-search.search.clauses (g.N.Notes.notes c.args.notes.now) (g.N.Notes.notes c.loop-search.notes) c.args.search.now.derived c.loop-search.search.derived c.args.limit (truth_of c.descend.new.trail) c.loop-search.invariant.0 c.in-None.ensures.cases (omega arith)

pub loop-search-preserved : goal.loop-search-preserved
loop-search-preserved g c = (
  running_push c.args.search.now.clauses c.loop-search.search.clauses c.resolve.new.search.clauses (g.N.Notes.notes c.args.notes.now) (g.N.Notes.notes c.loop-search.notes) (g.N.Notes.notes c.resolve.new.notes) c.args.search.now.derived c.loop-search.search.derived c.resolve.new.search.derived c.loop-search.invariant.0 (rw c.in-Ok-Learned.field-0-is at c.in-Ok-Learned.ensures.resolved) (rw c.in-Ok-Learned.field-0-is at c.in-Ok-Learned.ensures.derived),
  c.in-Ok-Learned.ensures.ready c.in-Ok-Learned.field-0-is,
  omega (arith, rw c.in-Ok-Learned.field-0-is at c.in-Ok-Learned.ensures.derived),
  c.resolve.ensures.numbers ∙ c.loop-search.invariant.3,
)

pub returns-in-Ok-Refuted-clause-runs : goal.returns-in-Ok-Refuted-clause-runs
returns-in-Ok-Refuted-clause-runs g c =
    runs_exhausted c.args.search.now.clauses c.loop-search.search.clauses c.resolve.new.search.clauses (g.N.Notes.notes c.args.notes.now) (g.N.Notes.notes c.loop-search.notes) (g.N.Notes.notes c.resolve.new.notes) c.args.search.now.derived c.loop-search.search.derived c.resolve.new.search.derived c.args.limit (truth_of c.resolve.new.search.trail) c.loop-search.invariant.0 (rw c.in-Ok-Refuted.field-0-is at c.in-Ok-Refuted.ensures.resolved) (rw c.in-Ok-Refuted.field-0-is at c.in-Ok-Refuted.ensures.derived) (omega arith)

pub returns-in-Err-clause-runs : goal.returns-in-Err-clause-runs
returns-in-Err-clause-runs g c =
    runs_memory c.args.search.now.clauses c.loop-search.search.clauses c.resolve.new.search.clauses (g.N.Notes.notes c.args.notes.now) (g.N.Notes.notes c.loop-search.notes) (g.N.Notes.notes c.resolve.new.notes) c.args.search.now.derived c.loop-search.search.derived c.resolve.new.search.derived c.args.limit (truth_of c.resolve.new.search.trail) c.loop-search.invariant.0 c.in-Err.ensures.err c.in-Err.ensures.none c.in-Err.ensures.same (omega arith)

pub returns-clause-runs : goal.returns-clause-runs
returns-clause-runs g c =
    runs_conflicts c.args.search.now.clauses c.loop-search.search.clauses (g.N.Notes.notes c.args.notes.now) (g.N.Notes.notes c.loop-search.notes) c.args.search.now.derived c.loop-search.search.derived c.args.limit (truth_of c.loop-search.search.trail) c.loop-search.invariant.0 (omega arith)
