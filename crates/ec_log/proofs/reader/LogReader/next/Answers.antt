use Rattle.std.proofs.Common.{◌≡◌, ◌≤◌, length, IsTrue, ap, sym, ◌∙◌, refl, arith}
use Rattle.std.proofs.lemmas.Bool.{ltb-true, ltb-false}
use Rattle.ec_log.specs.Reader.{Reader, largest_log}
use Rattle.ec_log.proofs.Collected.{HasFrontHeld-begin, HasFrontHeld-take, HasFrontHeld-fill, IsBehind-take, IsPast-all, answered_end}
use Rattle.ec_log.proofs.reader.LogReader.next.Goals as goal

pub pieces-init : goal.pieces-init
pieces-init g c =
    let none = c.new-front.ensures.items in
    record {
      behind = record { place = omega (arith, ap length none); size = refl };
      read = λ told. rw none (HasFrontHeld-begin _ _ (c.requires told));
      stays = λ name. refl;
      failed_starts = refl;
      tells = refl;
      faults = omega arith;
      absences = omega arith;
    }

pub returns-then-is_past-clause-read : goal.returns-then-is_past-clause-read
returns-then-is_past-clause-read g c = λ told.
    let i = c.pieces.invariant in
    IsPast-all c.args.self.now.place c.pieces.self.place c.pieces.front.items c.pieces.self.held _ (i.read told) c.in_default.ensures i.behind.place (ltb-true _ _ (sym c.if-is_past.ensures))

pub returns-in-Ok-eq0-clause-read : goal.returns-in-Ok-eq0-clause-read
returns-in-Ok-eq0-clause-read g c = λ told.
    let i = c.pieces.invariant in
    let now : IsTrue (g.F.Files.tells c.pieces.files) = rw i.tells told in
    let old = c.args.self.now in
    let taken = c.take_held.new in
    let took = IsBehind-take old c.pieces.front.items c.pieces.self taken.self taken.self i.behind c.in-Ok.ensures.moved refl refl in
    let small : taken.self.place ≤ largest_log = omega (arith, ltb-false _ _ (sym c.if-is_past.ensures), ap (λ (r : Reader). r.place) c.in-Ok.ensures.moved) in
    let none : length c.fill.new.self.held ≡ 0 = omega (arith, c.in-Ok-eq0.ensures.number) in
    answered_end old c.fill.new.self taken.self.place taken.front.items c.fill.new.self.held _ c.unended_line.result (rw c.deref.ensures.value at c.unended_line.ensures)
    (rw c.in-Ok.ensures.bytes (HasFrontHeld-take _ _ _ _ (i.read told) c.in_default.ensures)) (rw c.in-Ok.ensures.bytes took.place)
    (rw (i.stays c.args.name.now) at (c.in-Ok-eq0.ensures.bytes now)) none small

pub pieces-preserved : goal.pieces-preserved
pieces-preserved g c =
    let i = c.pieces.invariant in
    let old = c.args.self.now in
    let taken = c.take_held.new in
    let filled = c.fill.new.self in
    let e = c.in-Ok-fill.ensures in
    let took = IsBehind-take old c.pieces.front.items c.pieces.self taken.self taken.self i.behind c.in-Ok.ensures.moved refl refl in
    record {
      behind = rw c.in-Ok.ensures.bytes (IsBehind-take old c.pieces.front.items c.pieces.self taken.self filled i.behind c.in-Ok.ensures.moved e.place e.size);
      read = λ told.
          let now : IsTrue (g.F.Files.tells c.pieces.files) = rw i.tells told in
          rw c.in-Ok.ensures.bytes
          (HasFrontHeld-fill old.place taken.self.place _ filled.held _ (HasFrontHeld-take _ _ _ _ (i.read told) c.in_default.ensures) took.place (rw (i.stays c.args.name.now) at (e.bytes now)));
      stays = λ name. e.stays name ∙ i.stays name;
      failed_starts = e.failed_starts ∙ i.failed_starts;
      tells = e.tells ∙ i.tells;
      faults = omega (arith, e.faults);
      absences = omega (arith, e.absences);
    }
