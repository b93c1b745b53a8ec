-- what a search keeps
use Rattle.std.proofs.Common.{true, ◌≡◌, ℕ, ◌+◌, List, [], ◌∷◌, ◌++◌, None, sym, ap, ◌∙◌, subst, inl, inr, ◌-◌, ◌<◌, ◌≤◌, length, get_or, nat_le, arith}
use Rattle.std.proofs.lemmas.Bool.{cases_lt}
use Rattle.std.proofs.lemmas.List.{length_push, get_or_push}
use Rattle.std.proofs.lemmas.List.Sums.{prefix_len-le-length}
use Rattle.std.specs.List.{prefix_len}
use Rattle.ec_trail.proofs.BackTo.{some_entry}
use Rattle.ec_clause.specs.Literal.{Literal}
use Rattle.ec_clause.specs.ClauseList.{ClauseList, clause_at}
use Rattle.ec_trail.specs.declared.trail.Entry.{Entry}
use Rattle.ec_trail.specs.TrailList.{TrailList, truth_of, values_of, top_level, kept, IsTrail}
use Rattle.ec_unit.specs.Settling.{AllQuiet, IsQuiet, AddsImplied}
use Rattle.ec_sat.specs.Reasons.{AreReasons, AreQuietBelow, IsSearching}
use Rattle.ec_sat.specs.Back.{HasTwo}
use Rattle.ec_sat.proofs.Keeps.{added_quiet, kept_kept, below_kept, clause_at_push, reasons_clause, reasons_front, reasons_adds, reasons_decide, quiet_adds, quiet_decide}

pub searching_adds : (c : ClauseList) (old new : TrailList) → IsSearching c old → AddsImplied c old new → IsSearching c new
searching_adds c old new h a = record {
  variables = h.variables ∙ sym a.variables;
  reasons = subst (λ (n : ℕ). AreReasons c n new.entries) (sym a.variables) (reasons_adds c old new h.reasons a);
  quiet = subst (λ (n : ℕ). AreQuietBelow c n new.entries) (sym a.variables) (quiet_adds c old new h.quiet a);
}

pub searching_decide : (c : ClauseList) (old new : TrailList) (e : Entry) → IsSearching c old → IsTrail old.variables old.entries → AllQuiet c (truth_of old) → new.variables ≡ old.variables → new.entries ≡ old.entries ++ e ∷ [] → e.reason ≡ None → e.level ≡ top_level old.entries + 1 → IsSearching c new
searching_decide c old new e h trail all same grown none level = record {
  variables = h.variables ∙ sym same;
  reasons = rw (same, grown) (reasons_decide c old.variables old.entries e trail.rising none level h.reasons);
  quiet = rw (same, grown) (quiet_decide c old.variables old.entries e trail.rising level h.quiet all);
}

-- a clause with two literals at a level or above is quiet below it
quiet_of : (es : List Entry) (x : List Literal) (b level n : ℕ) → IsTrail n es → level < b → HasTwo es x b → IsQuiet (values_of n (kept level es)) x
quiet_of es x b level n trail low two =
    let d : Literal = record { variable = 0; positive = true } in
    let u = two.high_first d in
    let w = two.high_second d in
    added_quiet n es x b level two.first two.second u.place w.place d trail low two.apart two.within u.within w.within (u.same some_entry) (w.same some_entry) (u.high some_entry) (w.high some_entry)

-- an empty trail
pub searching_new : (c : ClauseList) (t : TrailList) → c.variables ≡ t.variables → t.entries ≡ [] → IsSearching c t
searching_new c t same empty = record {
  variables = same;
  reasons = record {
    low = λ k r d lt is. absurd (omega (arith, ap length empty));
    high = λ k r d lt is. absurd (omega (arith, ap length empty));
    unit = λ k r d lt is. absurd (omega (arith, ap length empty));
    decided = λ k d lt is. absurd (omega (arith, ap length empty));
    first = λ k i d lt is li. absurd (omega (arith, ap length empty));
  };
  quiet = λ level number low known. absurd (omega (arith, ap top_level empty));
}

-- a clause is added, and the search goes back, no higher than two of its literals are
pub searching_back : (c c' : ClauseList) (old new : TrailList) (x : List Literal) (b : ℕ) → IsSearching c old → IsTrail old.variables old.entries → c'.variables ≡ c.variables → c'.clauses ≡ c.clauses ++ x ∷ [] → new.variables ≡ old.variables → new.entries ≡ kept b old.entries → (0 < b → HasTwo old.entries x b) → IsSearching c' new
searching_back c c' old new x b h trail same grown same' back two =
    let n = old.variables in
    let es = old.entries in
    let p = λ (e : Entry). nat_le e.level b in
    record {
      variables = same ∙ h.variables ∙ sym same';
      reasons = rw (same', back) (reasons_clause c c' n (kept b es) x grown (reasons_front c n es (prefix_len p es) (prefix_len-le-length p es) h.reasons));
      quiet = λ level number low known.
          let low' : level < top_level (kept b es) = omega (arith, ap top_level back) in
          let below = below_kept es b level trail.rising low' in
          let there : kept level new.entries ≡ kept level es = ap (kept level) back ∙ kept_kept es b level trail.rising below.0 in
          rw (same', there) (elim (cases_lt number (length c.clauses + 1)) [
            | inl lt ↦ (
                let le : number ≤ length c.clauses = omega arith in
                rw (clause_at_push c c' x number grown known.low le) (h.quiet level number below.1 (record { low = known.low; high = le })))
            | inr ge ↦ (
                let at : number - 1 ≡ length c.clauses = omega (arith, known.high, ap length grown, length_push c.clauses x) in
                let is : clause_at c' number ≡ x = ap (λ cs. get_or cs (number - 1) []) grown ∙ get_or_push c.clauses x [] (number - 1) (sym at) in
                rw is (quiet_of es x b level n trail below.0 (two (omega (arith, below.0)))))
          ]);
    }
