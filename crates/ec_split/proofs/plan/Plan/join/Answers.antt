use Rattle.std.proofs.Common.{◌∙◌, sym, arith}
use Rattle.std.proofs.lemmas.List.{length-map}
use Rattle.std.proofs.lemmas.Result.{on_ok_weaker}
use Rattle.ec_split.specs.Groups.{is_made_by, maker_for}
use Rattle.ec_split.specs.Plan.{made_of, groups_in}
use Rattle.ec_split.proofs.PlaceLemmas.{place_below, joined_added}
use Rattle.ec_split.proofs.TableLemmas.{added_tabled, on_ok_both}
use Rattle.ec_split.proofs.plan.Plan.join.Goals as goal

pub add-requires-clause-below : goal.add-requires-clause-below
add-requires-clause-below c =
    omega (arith, length-map c.args.self.now.made.items made_of, place_below (is_made_by (maker_for c.args.label.now c.args.p)) (groups_in c.args.self.now) c.in-Some.place (sym c.requires.asked ∙ c.in-Some.is))

pub returns-in-Some-clause-groups : goal.returns-in-Some-clause-groups
returns-in-Some-clause-groups c =
    on_ok_weaker c.add.result
    (λ e. e ∙ sym (joined_added (maker_for c.args.label.now c.args.p) c.args.p c.in-Some.place (groups_in c.args.self.now) (sym c.requires.asked ∙ c.in-Some.is)))
    c.add.ensures.groups

pub returns-in-Some-clause-tabled : goal.returns-in-Some-clause-tabled
returns-in-Some-clause-tabled c =
    on_ok_weaker c.add.result
    (λ e.
    added_tabled _ c.args.p (maker_for c.args.label.now c.args.p) c.args.self.now c.add.new.self c.requires.tabled c.requires.known c.requires.homeless c.in-Some.place
    (place_below (is_made_by (maker_for c.args.label.now c.args.p)) (groups_in c.args.self.now) c.in-Some.place (sym c.requires.asked ∙ c.in-Some.is))
    e.0 e.1 c.add.ensures.alone c.add.ensures.labels)
    (on_ok_both _ _ c.add.result c.add.ensures.groups c.add.ensures.homes)
