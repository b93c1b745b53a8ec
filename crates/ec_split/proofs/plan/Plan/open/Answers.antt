use Rattle.std.proofs.Common.{◌≡◌, ◌∙◌, ◌++◌, ℕ, [], ◌∷◌, Some, None, set, ap, sym, arith, subst, length, Vec, Global, Option}
use Rattle.std.proofs.lemmas.List.{length-map}
use Rattle.ec_split.specs.declared.plan.Made as code
use Rattle.ec_split.specs.Groups.{Maker, is_made_by, place}
use Rattle.ec_split.specs.Plan.{made_of, new_maker, groups_in, AreNoted, IsNotedAlone}
use Rattle.ec_split.proofs.PlaceLemmas.{joined_new, asked_new}
use Rattle.ec_split.proofs.TableLemmas.{opened_tabled, opened_groups, not_effects}
use Rattle.ec_split.proofs.plan.Plan.open.Goals as goal

pub returns-clause-groups : goal.returns-clause-groups
returns-clause-groups c =
    let new : code.Made = record { maker = c.in_ok-maker.maker; predicates = c.in_ok-predicates.predicates } in
    let all = c.in_ok-push.ensures.items ∙ ap (λ (v : Vec code.Made Global). v.items ++ new ∷ []) c.in_ok-maker.ensures.made in
    let asked = asked_new c.args.label.now c.args.p (groups_in c.args.self.now) c.requires.tabled.effects c.requires.absent in
    opened_groups c.args.self.now.made.items c.push.new.self.items new _ c.args.p all (c.in_ok-maker.ensures.maker ∙ sym asked) c.in_ok-predicates.ensures.items
    ∙ sym (joined_new _ c.args.p (groups_in c.args.self.now) c.requires.absent)

pub returns-clause-tabled : goal.returns-clause-tabled
returns-clause-tabled c =
    let new : code.Made = record { maker = c.in_ok-maker.maker; predicates = c.in_ok-predicates.predicates } in
    let maker = new_maker c.args.label.now c.args.p in
    let old = c.args.self.now in
    let all = c.in_ok-push.ensures.items ∙ ap (λ (v : Vec code.Made Global). v.items ++ new ∷ []) c.in_ok-maker.ensures.made in
    let asked = asked_new c.args.label.now c.args.p (groups_in old) c.requires.tabled.effects c.requires.absent in
    let last : c.len-place.result ≡ length (groups_in old) = omega (arith, c.len-place.ensures, length-map old.made.items made_of) in
    let M : Maker → Type 0 = λ m. place (is_made_by m) (groups_in old) ≡ None in
    let A : ℕ → Type 0 = λ k. IsNotedAlone maker k old.alone.items c.note.new.self.alone.items in
    let L : ℕ → Type 0 = λ k. AreNoted maker k old.labels c.note.new.self.labels in
    opened_tabled (length old.homes.items) c.args.p maker old _ c.requires.tabled c.requires.known c.requires.homeless
    (not_effects c.args.label.now c.args.p)
    (subst M asked c.requires.absent)
    (opened_groups old.made.items c.push.new.self.items new maker c.args.p all c.in_ok-maker.ensures.maker c.in_ok-predicates.ensures.items)
    (ap (λ (v : Vec (Option ℕ) Global). v.items) c.in_ok-maker.ensures.homes ∙ ap (λ k. set old.homes.items c.args.p (Some k)) last)
    (subst A last c.in_ok-maker.ensures.alone)
    (subst L last c.in_ok-maker.ensures.labels)
