use Rattle.ec_solve.proofs.searching.search.Given as goal

abbrev pub ghost-run : goal.ghost-run
ghost-run a = a.self.now.solver.list
