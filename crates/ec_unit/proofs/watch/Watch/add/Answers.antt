use Rattle.std.proofs.Common.{◌≡◌, ◌-◌, ◌++◌, refl, sym, ap, subst, ◌∙◌}
use Rattle.ec_clause.specs.ClauseList.{IsClause, clause_at}
use Rattle.ec_unit.specs.declared.table.Table.{Table}
use Rattle.ec_unit.specs.Watching.{WatchesUpTo}
use Rattle.ec_unit.specs.Working.{cells_of, short_of, watched_of}
use Rattle.ec_unit.proofs.Tables.{table_same, table_add, watches_add, watches_size}
use Rattle.ec_unit.proofs.watch.Watch.add.Goals as goal

pub invariant_of-self : goal.invariant_of-self
invariant_of-self c =
    let t = c.self.inside.table in
    let u : Table = record t { chains = record t.chains { cells = c.add.new.cells; starts = c.add.new.starts }; short = c.add.new.short } in
    table_same t u c.self.invariant refl refl c.in_err-add.ensures.cells_err c.in_err-add.ensures.short_err refl refl refl

pub invariant_of-self-2 : goal.invariant_of-self-2
invariant_of-self-2 c =
    let clauses = c.args.clauses.now in
    let t = c.self.inside.table in
    let u : Table = record t { chains = record t.chains { cells = c.add.new.cells; starts = c.add.new.starts }; short = c.add.new.short } in
    let number = c.args.number in
    let lits = clause_at clauses number in
    let w : WatchesUpTo clauses (number - 1) (watched_of t) = subst (WatchesUpTo clauses (number - 1)) (sym c.self.view_is) c.requires.next in
    let cells : c.add.new.cells.items ≡ t.chains.cells.items ++ cells_of lits = c.in_ok-add.ensures.cells ∙ ap (λ xs. t.chains.cells.items ++ cells_of xs) c.get-clause.ensures.value in
    let short : c.add.new.short.items ≡ t.short.items ++ short_of lits number = c.in_ok-add.ensures.short ∙ ap (λ xs. t.short.items ++ short_of xs number) c.get-clause.ensures.value in
    table_add t u lits number c.self.invariant c.requires.low (watches_size clauses t (number - 1) w) refl refl refl refl refl cells short

pub returns-clause-ok : goal.returns-clause-ok
returns-clause-ok c =
    let clauses = c.args.clauses.now in
    let t = c.self.inside.table in
    let u : Table = record t { chains = record t.chains { cells = c.add.new.cells; starts = c.add.new.starts }; short = c.add.new.short } in
    let number = c.args.number in
    let lits = clause_at clauses number in
    let w : WatchesUpTo clauses (number - 1) (watched_of t) = subst (WatchesUpTo clauses (number - 1)) (sym c.self.view_is) c.requires.next in
    let cells : c.add.new.cells.items ≡ t.chains.cells.items ++ cells_of lits = c.in_ok-add.ensures.cells ∙ ap (λ xs. t.chains.cells.items ++ cells_of xs) c.get-clause.ensures.value in
    let clause : IsClause clauses.variables lits = subst (IsClause clauses.variables) c.get-clause.ensures.value c.get-clause.ensures.clause in
    watches_add clauses t u number w c.requires.low clause refl cells
