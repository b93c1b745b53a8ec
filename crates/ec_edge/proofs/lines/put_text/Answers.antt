use Rattle.std.proofs.Common.{ℕ, List, [], ◌++◌, sym, ap, ◌∙◌, IsTrue, arith, append_assoc}
use Rattle.std.proofs.lemmas.List.{append-nil}
use Rattle.std.proofs.lemmas.Result.{err_from_is_err_and}
use Rattle.ec_edge.proofs.Prefixes.{AppendsPrefix-put, AppendsPrefix-after}
use Rattle.ec_edge.proofs.lines.put_text.Goals as goal

pub loop-line-preserved : goal.loop-line-preserved
loop-line-preserved g c =
    let line = c.in-Some.line.now in
    record {
      so_far = λ told.
          let now : IsTrue (g.O.Sink.tells c.loop-line.out) = rw c.loop-line.invariant.tells told in
          let so_far = c.loop-line.invariant.so_far told in (
            so_far.0 ++ line,
            c.in_ok-put.ensures.ok now ∙ ap (λ (x : List ℕ). x ++ line) so_far.1 ∙ append_assoc _ _ line,
            so_far.2 ∙ ap (λ (x : List ℕ). so_far.0 ++ x) c.in-Some.ensures.whole ∙ sym (append_assoc _ line _),
          );
      tells = c.in_ok-put.ensures.tells ∙ c.loop-line.invariant.tells;
      faults = omega (arith, c.in_ok-put.ensures.faults);
    }

pub returns-in_err-put-clause-part : goal.returns-in_err-put-clause-part
returns-in_err-put-clause-part g c = λ told.
    let p = err_from_is_err_and c.from_residual.result c.from_residual.ensures.1 in
    let now : IsTrue (g.O.Sink.tells c.loop-line.out) = rw c.loop-line.invariant.tells told in
    let so_far = c.loop-line.invariant.so_far told in
    let part = AppendsPrefix-put c.in_err-put.field-0.0 c.in-Some.line.now _ _ (c.in_err-put.ensures.part now) c.in_err-put.ensures.memory in
    rw p.1 (AppendsPrefix-after _ _ so_far.0 c.in-Some.line.now c.in-Some.after.now _ _ part so_far.1 (so_far.2 ∙ ap (λ (x : List ℕ). so_far.0 ++ x) c.in-Some.ensures.whole))

pub returns-in_err-put-2-clause-part : goal.returns-in_err-put-2-clause-part
returns-in_err-put-2-clause-part g c = λ told.
    let p = err_from_is_err_and c.from_residual-in_err-put-2.result c.from_residual-in_err-put-2.ensures.1 in
    let now : IsTrue (g.O.Sink.tells c.loop-line.out) = rw c.loop-line.invariant.tells told in
    let so_far = c.loop-line.invariant.so_far told in
    let part = AppendsPrefix-put c.in_err-put-2.field-0.0 c.loop-line.rest.now _ _ (c.in_err-put-2.ensures.part now) c.in_err-put-2.ensures.memory in
    rw p.1 (AppendsPrefix-after _ _ so_far.0 c.loop-line.rest.now [] _ _ part so_far.1 (so_far.2 ∙ ap (λ (x : List ℕ). so_far.0 ++ x) (sym (append-nil c.loop-line.rest.now))))
