use Rattle.std.proofs.Common.{◌≡◌, ◌≢◌, ◌≤◌, ◌<◌, ◌*◌, ◌^◌, ◌∙◌, ℕ, codes, List, All, Contains, arith, refl, subst}
use Rattle.ec_edge.specs.Causes.{Rose}
use Rattle.ec_accept.specs.Accepted.{visible_count}
use Rattle.ec_load.specs.Refusals.{refused, in_file}
use Rattle.ec_theory.specs.Theories.{theory_of}
use Rattle.ec_engine.specs.Solve.{many_models, log_is_read}
use Rattle.ec_engine.specs.declared.solving.SolveEnd.TheVariants as end
use Rattle.ec_engine.proofs.Endings.{solve_ends, solve_line}
use Rattle.ec_engine.proofs.Searching.{not_among, same_values}
use Rattle.ec_engine.proofs.solving.solve_accepted.Goals as goal

-- ---- too many values

pub returns-then-values-gt-MOST_VALUES-clause-put : goal.returns-then-values-gt-MOST_VALUES-clause-put
returns-then-values-gt-MOST_VALUES-clause-put g c = λ told held before accepted read.
    let theory = theory_of c.args.accepted.now.theory in
    let values : c.args.bounds.models * c.from.result ≡ c.args.bounds.models * visible_count theory
    = same_values c.args.bounds.models c.args.accepted.now.atoms theory.signature c.from.result c.requires.numbered (c.from.ensures ∙ c.visible.ensures.count) in
    let many : 2 ^ 28 < c.args.bounds.models * visible_count theory = subst (λ (n : ℕ). 2 ^ 28 < n) values c.if-values-gt-MOST_VALUES.true in
    rw c.refused.ensures (solve_ends held c.args.file.now c.args.log.now c.args.bounds _ _ _ _ (Rose (g.F.Files.failed_starts c.args.files.now) (g.F.Files.failed_starts c.args.files.now)) _ end.Refused (refused 23 (in_file c.args.file.now 0) (codes "models")) c.refuse_file.result
    (many_models theory accepted many, refl, before c.args.log.now) c.refuse_file.ensures.same c.refuse_file.ensures.ok c.refuse_file.ensures.part)

pub returns-then-values-gt-MOST_VALUES-clause-line : goal.returns-then-values-gt-MOST_VALUES-clause-line
returns-then-values-gt-MOST_VALUES-clause-line g c = λ shown r is.
    solve_line (refused 23 (in_file c.args.file.now 0) (codes "models")) r _ _ c.refuse_file.result c.refused.result c.refused.ensures c.refuse_file.ensures.same (c.refuse_file.ensures.ok shown) is

pub returns-then-values-gt-MOST_VALUES-clause-completes : goal.returns-then-values-gt-MOST_VALUES-clause-completes
returns-then-values-gt-MOST_VALUES-clause-completes g c = λ small apart can.
    let theory = theory_of c.args.accepted.now.theory in
    let values : c.args.bounds.models * c.from.result ≡ c.args.bounds.models * visible_count theory
    = same_values c.args.bounds.models c.args.accepted.now.atoms theory.signature c.from.result c.requires.numbered (c.from.ensures ∙ c.visible.ensures.count) in
    let many : 2 ^ 28 < c.args.bounds.models * visible_count theory = subst (λ (n : ℕ). 2 ^ 28 < n) values c.if-values-gt-MOST_VALUES.true in
    absurd (omega (arith, many, small))

-- ---- the log is read

pub returns-then-is_among-clause-put : goal.returns-then-is_among-clause-put
returns-then-is_among-clause-put g c = λ told held before accepted read.
    let theory = theory_of c.args.accepted.now.theory in
    let values : c.args.bounds.models * c.from.result ≡ c.args.bounds.models * visible_count theory
    = same_values c.args.bounds.models c.args.accepted.now.atoms theory.signature c.from.result c.requires.numbered (c.from.ensures ∙ c.visible.ensures.count) in
    let few : c.args.bounds.models * c.from.result ≤ 2 ^ 28 = omega (arith, c.if-values-gt-MOST_VALUES.false) in
    let small : c.args.bounds.models * visible_count theory ≤ 2 ^ 28 = subst (λ (n : ℕ). n ≤ 2 ^ 28) values few in
    let there : Contains c.args.accepted.now.files.items c.args.log.now = rw c.deref.ensures.value at c.if-is_among.ensures.yes in
    rw c.refused-then-is_among.ensures (solve_ends held c.args.file.now c.args.log.now c.args.bounds _ _ _ _ (Rose (g.F.Files.failed_starts c.args.files.now) (g.F.Files.failed_starts c.args.files.now)) _ end.Refused (refused 24 (in_file c.args.file.now 0) c.args.log.now)
    c.refuse_file-then-is_among.result (log_is_read theory c.args.accepted.now.files.items accepted small read there, refl, before c.args.log.now) c.refuse_file-then-is_among.ensures.same
    c.refuse_file-then-is_among.ensures.ok c.refuse_file-then-is_among.ensures.part)

pub returns-then-is_among-clause-line : goal.returns-then-is_among-clause-line
returns-then-is_among-clause-line g c = λ shown r is.
    solve_line (refused 24 (in_file c.args.file.now 0) c.args.log.now) r _ _ c.refuse_file-then-is_among.result c.refused-then-is_among.result c.refused-then-is_among.ensures c.refuse_file-then-is_among.ensures.same
    (c.refuse_file-then-is_among.ensures.ok shown) is

-- ---- the search

pub returns-clause-put : goal.returns-clause-put
returns-clause-put g c = λ told held before accepted read.
    let theory = theory_of c.args.accepted.now.theory in
    let values : c.args.bounds.models * c.from.result ≡ c.args.bounds.models * visible_count theory
    = same_values c.args.bounds.models c.args.accepted.now.atoms theory.signature c.from.result c.requires.numbered (c.from.ensures ∙ c.visible.ensures.count) in
    let few : c.args.bounds.models * c.from.result ≤ 2 ^ 28 = omega (arith, c.if-values-gt-MOST_VALUES.false) in
    let apart : All (λ (name : List ℕ). name ≢ c.args.log.now) c.args.accepted.now.files.items = rw c.deref.ensures.value at c.if-is_among.ensures.no in
    c.search_accepted.ensures.put told held c.args.file.now before (record {
      accepted = accepted;
      small = subst (λ (n : ℕ). n ≤ 2 ^ 28) values few;
      files = c.args.accepted.now.files.items;
      read = read;
      apart = not_among c.args.accepted.now.files.items c.args.log.now apart;
    })
