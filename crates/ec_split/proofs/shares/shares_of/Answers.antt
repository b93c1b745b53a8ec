use Rattle.std.proofs.Common.{◌≡◌, ◌∙◌, ◌∷◌, List, refl, ap, sym, rules, length, map, arith}
use Rattle.std.proofs.lemmas.List.{length-map}
use Rattle.std.specs.Vec.Iter.{into_iter_items}
use Rattle.ec_theory.specs.declared.sorted.Labelled.{Labelled}
use Rattle.ec_theory.specs.declared.theory.Sentence.{Sentence}
use Rattle.ec_split.specs.Dealt.{dealt, dealt_remaining, empty_parts}
use Rattle.ec_split.specs.Parts.{GroupParts, group_parts}
use Rattle.ec_split.specs.Plan.{groups_in, made_of}
use Rattle.ec_split.specs.Split.{first_refusal, home_of}
use Rattle.ec_split.proofs.DealLemmas.{filled_nothing, filled_more, remaining_more, refusal_later}
use Rattle.ec_split.proofs.shares.shares_of.Goals as goal

pub loop-one-init : goal.loop-one-init
loop-one-init c =
    let names = c.args.names.now.keys in
    let made = c.args.plan.now.made.items in
    let groups = c.in_ok-empty_groups.field-0.items in
    let same = ap (λ (xs : List _). map (empty_parts names) (map made_of xs)) c.deref.ensures.value in
    let are : map group_parts groups ≡ map (empty_parts names) (map made_of made) = c.in_ok-empty_groups.ensures ∙ same in
    record {
      fault = search rules;
      remaining = search rules;
      groups = are ∙ filled_nothing names (groups_in c.args.plan.now) 0 (groups_in c.args.plan.now);
      count = omega (arith, ap length are, length-map groups group_parts, length-map (map made_of made) (empty_parts names), length-map made made_of);
    }

pub loop-one-preserved : goal.loop-one-preserved
loop-one-preserved c =
    let next : into_iter_items c.loop-one.one-iterator ≡ c.in-Some.one ∷ into_iter_items c.next.new.self = search rules in
    let names = c.args.names.now.keys in
    let all = groups_in c.args.plan.now in
    let home = home_of all c.in-Some.one in
    record {
      fault = sym (refusal_later names all c.in-Some.one (into_iter_items c.next.new.self) c.in_ok-deal.ensures.dealt.0) ∙ ap (λ (xs : List Labelled). first_refusal names all xs) (sym next) ∙ c.loop-one.invariant.fault;
      remaining = c.in_ok-deal.ensures.dealt.1 ∙ ap (λ (xs : List Sentence). dealt_remaining home c.in-Some.one.sentence xs) c.loop-one.invariant.remaining ∙ sym (remaining_more all c.loop-one.yielded c.in-Some.one);
      groups = c.in_ok-deal.ensures.dealt.2 ∙ ap (λ (xs : List GroupParts). dealt home c.in-Some.one.sentence xs) c.loop-one.invariant.groups ∙ sym (filled_more all c.loop-one.yielded c.in-Some.one names home refl);
      count = c.loop-one.invariant.count ∙ sym c.in_ok-deal.ensures.count;
    }
