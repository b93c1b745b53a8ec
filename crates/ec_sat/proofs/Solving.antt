-- a solver after a run
use Rattle.std.proofs.Common.{◌≡◌, ℕ, ◌+◌, ◌≤◌, ◌^◌, Bool, List, length, refl, ap, arith}
use Rattle.std.proofs.lemmas.List.{length-append, length-map}
use Rattle.std.specs.Prelude.{map}
use Rattle.ec_clause.specs.ClauseList.{ClauseList}
use Rattle.ec_clause.specs.Note.{Note}
use Rattle.ec_clause.specs.Truth.{Truth}
use Rattle.ec_trail.specs.TrailList.{TrailList}
use Rattle.ec_unit.specs.Watching.{Watched}
use Rattle.ec_sat.specs.Run.{Runs, lits_of}
use Rattle.ec_sat.specs.Ready.{IsReady}
use Rattle.ec_sat.specs.Searched.{IsGoing, AreFew, phase_after}
use Rattle.ec_sat.specs.declared.known.Known.{Known}
use Rattle.ec_sat.specs.declared.answer.Next.{Next}
use Rattle.ec_sat.specs.declared.answer.Next.TheVariants.{Model, Exhausted, Conflicts, Memory}
use Rattle.ec_sat.proofs.Running.{count_all}

-- the limit is not passed
pub runs_low : (old new : ClauseList) (before after : List Note) (count derived limit : ℕ) (p : Truth) (answer : Next) → Runs old new before after count derived limit p answer → derived ≤ limit
runs_low old new before after count derived limit p Model h = omega (arith, h.outcome.2)
runs_low old new before after count derived limit p Exhausted h = omega (arith, h.outcome.1)
runs_low old new before after count derived limit p Conflicts h = omega (arith, h.outcome.1)
runs_low old new before after count derived limit p Memory h = omega (arith, h.outcome.1)

pub few_after : (old new : ClauseList) (before after : List Note) (count derived limit visible blocked : ℕ) (p : Truth) (answer : Next) → Runs old new before after count derived limit p answer → limit ≤ 2000000000 → AreFew visible blocked count old → AreFew visible blocked derived new
few_after old new before after count derived limit visible blocked p answer h low few =
    let same = ap (λ (c : ClauseList). c.variables) h.run.added in
    record {
      few_variables = omega (arith, same, few.few_variables);
      few_visible = omega (arith, same, few.few_visible);
      few_blocked = few.few_blocked;
      few_derived = omega (arith, runs_low old new before after count derived limit p answer h);
    }

pub going_after : (old new : ClauseList) (before after : List Note) (count derived limit blocked : ℕ) (p : Truth) (trail : TrailList) (watch : Watched) (order : ℕ) (marks : List Bool) (known : Known) (answer : Next) → Runs old new before after count derived limit p answer → (answer ≡ Model → IsReady new trail watch order marks known) → length old.clauses ≤ 2 ^ 30 + blocked + count → IsGoing (phase_after answer) blocked derived new trail watch order marks known
going_after old new before after count derived limit blocked p trail watch order marks known Model h ready few =
    (ready refl, omega (arith, ap (λ (c : ClauseList). length c.clauses) h.run.added, length-append old.clauses (map lits_of h.steps), length-map h.steps lits_of, h.counted, count_all h.steps h.outcome.1))
going_after old new before after count derived limit blocked p trail watch order marks known Exhausted h ready few = tt
going_after old new before after count derived limit blocked p trail watch order marks known Conflicts h ready few = tt
going_after old new before after count derived limit blocked p trail watch order marks known Memory h ready few = tt
