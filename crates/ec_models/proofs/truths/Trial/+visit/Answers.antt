use Rattle.std.proofs.Common.{◌∙◌, ◌<◌, ◌≤◌, false, true, ap, sym, take, length, arith}
use Rattle.std.proofs.lemmas.List.{length-set}
use Rattle.ec_logic.specs.Universe.{universe_of}
use Rattle.ec_logic.specs.Atom.{visible_atoms}
use Rattle.ec_theory.specs.Theories.{theory_of}
use Rattle.ec_models.proofs.Steps.{on_ok_map, count_moved, visible_within, at_leaf, front_kept, at_branch}
use Rattle.ec_models.proofs.truths.Trial.+visit.Goals as goal

pub returns-then-atom-visible-clause-same : goal.returns-then-atom-visible-clause-same
returns-then-atom-visible-clause-same t c =
    let last = c.if-atom-visible.true ∙ count_moved c.args.self.now.atoms.now c.args.self.now.theory.now.signature c.visible.result c.requires.of c.visible.ensures.count in
    on_ok_map c.keep.result c.keep.ensures.same (λ same. ap (λ n. take n c.keep.new.structure) last ∙ (same ∙ ap (λ n. take n c.args.structure.now) (sym last)))

pub returns-then-atom-visible-clause-found : goal.returns-then-atom-visible-clause-found
returns-then-atom-visible-clause-found t c =
    let last = c.if-atom-visible.true ∙ count_moved c.args.self.now.atoms.now c.args.self.now.theory.now.signature c.visible.result c.requires.of c.visible.ensures.count in
    on_ok_map c.keep.result c.keep.ensures.found
    (at_leaf (theory_of c.args.self.now.theory.now) c.args.atom (length (visible_atoms (universe_of c.args.self.now.theory.now.signature))) c.args.structure.now c.args.found.now.items c.keep.new.found.items last)

pub set-requires : goal.set-requires
set-requires t c =
    let signature = c.args.self.now.theory.now.signature in
    let count = count_moved c.args.self.now.atoms.now signature c.visible.result c.requires.of c.visible.ensures.count in
    omega (arith, c.requires.visible, c.if-atom-visible.false, count, visible_within (universe_of signature), c.requires.all)

pub overflow_add-atom : goal.overflow_add-atom
overflow_add-atom t c =
    let count = count_moved c.args.self.now.atoms.now c.args.self.now.theory.now.signature c.visible.result c.requires.of c.visible.ensures.count in
    let few = c.visible.ensures.few in
    let within = c.requires.visible in
    grind (arith, count, few, within)

pub visit-requires : goal.visit-requires
visit-requires t c =
    let signature = c.args.self.now.theory.now.signature in
    let count = count_moved c.args.self.now.atoms.now signature c.visible.result c.requires.of c.visible.ensures.count in
    let size = ap length c.set.ensures ∙ (length-set c.args.structure.now c.args.atom false ∙ c.requires.all) in
    (omega (arith, c.decreases, c.requires.visible, c.if-atom-visible.false, count), (c.requires.judge, (c.requires.of, (c.requires.valid, (c.requires.early, (size, omega (arith, c.requires.visible, c.if-atom-visible.false, count)))))))

pub set-requires-2 : goal.set-requires-2
set-requires-2 t c =
    let signature = c.args.self.now.theory.now.signature in
    let count = count_moved c.args.self.now.atoms.now signature c.visible.result c.requires.of c.visible.ensures.count in
    let size = c.in_ok-visit.ensures.size ∙ (ap length c.set.ensures ∙ (length-set c.args.structure.now c.args.atom false ∙ c.requires.all)) in
    omega (arith, c.requires.visible, c.if-atom-visible.false, count, visible_within (universe_of signature), size)

pub overflow_add-atom-2 : goal.overflow_add-atom-2
overflow_add-atom-2 t c =
    let count = count_moved c.args.self.now.atoms.now c.args.self.now.theory.now.signature c.visible.result c.requires.of c.visible.ensures.count in
    let few = c.visible.ensures.few in
    let within = c.requires.visible in
    grind (arith, count, few, within)

pub visit-requires-2 : goal.visit-requires-2
visit-requires-2 t c =
    let signature = c.args.self.now.theory.now.signature in
    let count = count_moved c.args.self.now.atoms.now signature c.visible.result c.requires.of c.visible.ensures.count in
    let size = c.in_ok-visit.ensures.size ∙ (ap length c.set.ensures ∙ (length-set c.args.structure.now c.args.atom false ∙ c.requires.all)) in
    let size-2 = ap length c.set-2.ensures ∙ (length-set c.visit.new.structure c.args.atom true ∙ size) in
    (omega (arith, c.decreases, c.requires.visible, c.if-atom-visible.false, count), (c.in_ok-visit.ensures.judge, (c.requires.of, (c.requires.valid, (c.requires.early, (size-2, omega (arith, c.requires.visible, c.if-atom-visible.false, count)))))))

pub returns-clause-same : goal.returns-clause-same
returns-clause-same t c =
    on_ok_map c.visit-2.result c.visit-2.ensures.same
    (front_kept (theory_of c.args.self.now.theory.now) c.args.atom (length (visible_atoms (universe_of c.args.self.now.theory.now.signature))) c.args.structure.now c.set.new.self c.visit.new.structure c.set-2.new.self c.set.ensures c.set-2.ensures c.in_ok-visit.ensures.same c.visit-2.new.structure)

pub returns-clause-found : goal.returns-clause-found
returns-clause-found t c =
    let signature = c.args.self.now.theory.now.signature in
    let visible = length (visible_atoms (universe_of signature)) in
    let count = count_moved c.args.self.now.atoms.now signature c.visible.result c.requires.of c.visible.ensures.count in
    let below : c.args.atom < visible = omega (arith, c.requires.visible, c.if-atom-visible.false, count) in
    let within : visible ≤ length c.args.structure.now = omega (arith, visible_within (universe_of signature), c.requires.all) in
    let size = c.in_ok-visit.ensures.size ∙ (ap length c.set.ensures ∙ length-set c.args.structure.now c.args.atom false) in
    on_ok_map c.visit-2.result c.visit-2.ensures.found
    (at_branch (theory_of c.args.self.now.theory.now) c.args.atom visible c.args.structure.now c.set.new.self c.visit.new.structure c.set-2.new.self c.set.ensures c.set-2.ensures c.in_ok-visit.ensures.same
    c.args.found.now.items c.visit.new.found.items c.visit-2.new.found.items below within size c.in_ok-visit.ensures.found)

-- ---- the judge is as it was

pub keep-requires : goal.keep-requires
keep-requires t c = record { judge = c.requires.judge; of = c.requires.of; valid = c.requires.valid; early = c.requires.early; all = c.requires.all }

pub returns-then-atom-visible-clause-judge : goal.returns-then-atom-visible-clause-judge
returns-then-atom-visible-clause-judge t c = c.keep.ensures.judge

pub returns-clause-judge : goal.returns-clause-judge
returns-clause-judge t c = c.visit-2.ensures.judge
