use Rattle.std.proofs.Common.{◌≡◌, ◌∙◌, ap, sym, subst}
use Rattle.ec_trail.specs.TrailList.{truth_of}
use Rattle.ec_sat.specs.Searched.{Searched, IsGoing}
use Rattle.ec_sat.specs.declared.answer.Phase.{Phase}
use Rattle.ec_sat.specs.declared.answer.Phase.TheVariants.{Ready}
use Rattle.ec_sat.proofs.Solving.{few_after, going_after}
use Rattle.ec_sat.proofs.solver.Solver.next.Goals as goal

pub invariant_of-self : goal.invariant_of-self
invariant_of-self g c =
    let a = c.self.inside in
    let new = c.run-answer.new.search in
    let before = g.N.Notes.notes c.args.notes.now in
    let after = g.N.Notes.notes c.run-answer.new.notes in
    let ready : a.phase ≡ Ready = ap (λ (s : Searched). s.phase) c.self.view_is ∙ c.requires.ready in
    let going = subst (λ (phase : Phase). IsGoing phase a.blocked a.search.derived a.search.clauses a.search.trail a.search.watch a.search.order a.search.marks.items a.search.known) ready c.self.invariant.1 in (
      few_after a.search.clauses new.clauses before after a.search.derived new.derived c.args.limit a.visible a.blocked (truth_of new.trail) c.run-answer.result c.run-answer.ensures.runs c.requires.limit c.self.invariant.0,
      subst (λ (phase : Phase). IsGoing phase a.blocked new.derived new.clauses new.trail new.watch new.order new.marks.items new.known) (sym c.phase-self-inside.ensures) (going_after a.search.clauses new.clauses before after a.search.derived new.derived c.args.limit a.blocked (truth_of new.trail) new.trail new.watch new.order new.marks.items new.known c.run-answer.result c.run-answer.ensures.runs c.run-answer.ensures.ready going.1),
    )
