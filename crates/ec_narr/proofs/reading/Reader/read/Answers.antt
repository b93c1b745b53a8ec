use Rattle.std.proofs.Common.{◌≡◌, List, Bool, length, arith, sym, subst}
use Rattle.std.specs.Prelude.{All}
use Rattle.std.proofs.lemmas.List.Elements.{All-push}
use Rattle.ec_narr.specs.Reading.{IsNext, IsWithinBytes, IsFaultAt, IsModelNext, IsReadTo}
use Rattle.ec_narr.proofs.NextLemmas.{read_more, fault_found}
use Rattle.ec_narr.proofs.reading.Reader.read.Goals as goal

pub returns-in-Fault : goal.returns-in-Fault
returns-in-Fault c = λ signature reader.
    let l = c.loop-models in
    let at = subst (IsNext signature c.deref.result.now l.rest.now) c.in-Fault.is (c.in_ok-ending.ensures.next signature reader) in
    let fault = subst (λ ms. IsFaultAt signature ms l.rest.now c.in-Fault.fault.now) c.deref.ensures.value at in
    fault_found signature l.models.items c.args.bytes.now l.rest.now c.in-Fault.fault.now c.line_of.result (l.invariant.on signature reader) fault c.line_of.ensures

pub loop-models-preserved : goal.loop-models-preserved
loop-models-preserved c =
    let l = c.loop-models in
    let visible = c.args.self.now.visible in
    let within = subst (IsWithinBytes visible l.rest.now) c.in-Model.is c.in_ok-ending.ensures.within in
    let pushed = c.in_ok-push-in-Model.ensures.items in
    record {
      short = omega (arith, within.1, l.invariant.short);
      lengths = subst (All (λ (model : List Bool). length model ≡ visible)) (sym pushed) (All-push (λ (model : List Bool). length model ≡ visible) l.models.items c.in-Model.truth l.invariant.lengths within.0);
      on = λ signature reader.
          let at = subst (IsNext signature c.deref.result.now l.rest.now) c.in-Model.is (c.in_ok-ending.ensures.next signature reader) in
          let next = subst (λ ms. IsModelNext signature ms l.rest.now c.in-Model.truth c.in-Model.behind.now) c.deref.ensures.value at in
          subst (λ ms. IsReadTo signature ms c.args.bytes.now c.in-Model.behind.now) (sym pushed)
          (read_more signature l.models.items c.args.bytes.now l.rest.now c.in-Model.behind.now c.in-Model.truth (l.invariant.on signature reader) next);
    }
