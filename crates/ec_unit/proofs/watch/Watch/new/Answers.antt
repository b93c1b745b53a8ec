use Rattle.std.proofs.Common.{◌≡◌, ◌+◌, ◌-◌, ◌*◌, replicate, ◌++◌, refl, sym, ap, subst, ◌∙◌, arith}
use Rattle.ec_clause.specs.ClauseList.{IsClause, clause_at}
use Rattle.ec_unit.specs.declared.table.Table.{Table}
use Rattle.ec_unit.specs.Chained.{no_chain}
use Rattle.ec_unit.specs.Watching.{WatchesUpTo}
use Rattle.ec_unit.specs.Working.{cells_of, short_of, watched_of}
use Rattle.ec_unit.proofs.Tables.{table_empty, watches_empty, table_add, watches_add, watches_size}
use Rattle.ec_unit.proofs.watch.Watch.new.Goals as goal

pub loop-index-init : goal.loop-index-init
loop-index-init c =
    let t = c.in_ok-table.table in
    let e = c.in_ok-table.ensures in
    let same : c.variables.result ≡ t.variables = sym e.variables in
    (table_empty t (omega (arith, same, e.room)) (e.chains ∙ ap (λ n. replicate (2 * n + 2) no_chain) same) e.cells e.short e.chained e.seen e.worked, watches_empty c.args.clauses.now t (e.variables ∙ c.variables.ensures.value) e.cells)

pub loop-index-preserved : goal.loop-index-preserved
loop-index-preserved c =
    let clauses = c.args.clauses.now in
    let t = c.loop-index.table in
    let number = c.loop-index.index + 1 in
    let i = c.loop-index.invariant in
    let lits = clause_at clauses number in
    let at : c.loop-index.index ≡ number - 1 = omega arith in
    let w : WatchesUpTo clauses (number - 1) (watched_of t) = subst (λ n. WatchesUpTo clauses n (watched_of t)) at i.1 in
    let is : c.get.result.now ≡ lits = c.get.ensures.value in
    let cells : c.add.new.cells.items ≡ t.chains.cells.items ++ cells_of lits = c.in_ok-add.ensures.cells ∙ ap (λ xs. t.chains.cells.items ++ cells_of xs) is in
    let short : c.add.new.short.items ≡ t.short.items ++ short_of lits number = c.in_ok-add.ensures.short ∙ ap (λ xs. t.short.items ++ short_of xs number) is in
    let clause : IsClause clauses.variables lits = subst (IsClause clauses.variables) is c.get.ensures.clause in
    let u : Table = record t { chains = record t.chains { cells = c.add.new.cells; starts = c.add.new.starts }; short = c.add.new.short } in
    (table_add t u lits number i.0 (omega arith) (watches_size clauses t (number - 1) w) refl refl refl refl refl cells short, watches_add clauses t u number w (omega arith) clause refl cells)
