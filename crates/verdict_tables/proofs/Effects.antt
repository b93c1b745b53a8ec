-- The first untrue part of structures whose effects are not those that the theory gives, worked out by hand.
use Rattle.std.proofs.Common.{◌≡◌, ◌==◌, ℕ, ℤ, Bool, true, false, if◌then◌else◌, codes, List, [], ◌∷◌, map, Some, None, pos, refl}
use Rattle.std.specs.List.{list_any, range_with_len}
use Rattle.ec_logic.specs.Tree.{variable, int, event, fluent, term, no_terms, atom, negation, for_all}
use Rattle.ec_logic.specs.Signature.{Signature, time_sort, holds_at, initiates, terminates, releases}
use Rattle.ec_logic.specs.BuiltIn.{built_in_sorts, built_in_predicates}
use Rattle.ec_logic.specs.Universe.{Universe, universe_of}
use Rattle.ec_logic.specs.Truth.{Structure}
use Rattle.ec_logic.specs.Axiom.{DEC6}
use Rattle.ec_logic.specs.Atom.{structure_of}
use Rattle.ec_logic.specs.Theory.{Group, Theory, is_in_group, all_hold}
use Rattle.ec_logic.specs.Minimal.{IsBelow}
use Rattle.ec_logic.proofs.Tests.{same_number}
use Rattle.ec_minimal.specs.declared.verdict.Part.TheVariants.{Axiom, Group as GroupAt}
use Rattle.ec_minimal.specs.declared.verdict.Verdict.TheVariants.{Untrue}
use Rattle.verdict_tables.proofs.OneVerdict.{IsTheVerdict, by_axiom, by_group}

abbrev declared : Signature
declared = record {
  sorts = built_in_sorts None (Some (pos 0, pos 1)) None;
  constants = [];
  events = record { name = codes "A"; sorts = []; noninertial = false } ∷ [];
  fluents = record { name = codes "F"; sorts = []; noninertial = false } ∷ [];
  predicates = built_in_predicates;
  manual_release = false;
  time_diff = true;
}

abbrev effects : Group
effects = record {
  predicates = initiates ∷ terminates ∷ releases ∷ [];
  sentences = for_all time_sort (atom initiates (term (event 0 no_terms) (term (fluent 0 no_terms) (term (variable 0) no_terms)))) ∷ [];
}

-- fluent F() / event A() / [time] Initiates(A(),F(),time). / !HoldsAt(F(),0). / range time 0 1
abbrev domain : Theory
domain = record {
  signature = declared;
  remaining = negation (atom holds_at (term (fluent 0 no_terms) (term (int (pos 0)) no_terms))) ∷ [];
  groups = effects ∷ [];
}

abbrev over : Universe
over = universe_of declared

-- The structure in which the atoms of these numbers are true. One fluent, one event and two times: F holds has the numbers 0 and 1, F is
-- released 2 and 3, A happens 4 and 5, A initiates F 6 and 7, terminates 8 and 9, releases 10 and 11.
abbrev with_atoms : List ℕ → Structure
with_atoms numbers = structure_of over (map (λ k. list_any (λ n. n == k) numbers) (range_with_len 0 12))

-- ---- the effects are judged as a group

-- an effect is missing: the second time has none
missing : IsTheVerdict domain (with_atoms (6 ∷ [])) (Untrue (GroupAt 0))
missing = by_group domain (with_atoms (6 ∷ [])) refl 0 refl refl (record {
  before = tt;
  group = effects;
  there = refl;
  untrue = λ minimal. let t = minimal.model in let f : all_hold over (with_atoms (6 ∷ [])) effects.sentences ≡ false = refl in cc;
})

-- one is there without support: the event terminates, and needn't
abbrev forged : Structure
forged = with_atoms (6 ∷ 7 ∷ 8 ∷ [])

abbrev without : Structure
without p vs = if p == terminates then false else forged p vs

without_is_below : IsBelow effects without forged
without_is_below = record {
  outside = λ p vs h. kept p vs (p == terminates) refl h;
  included = λ p vs h. there p vs (p == terminates) refl h;
  smaller = (terminates, pos 0 ∷ pos 0 ∷ pos 0 ∷ [], refl, refl);
}
  where
    kept : (p : ℕ) (vs : List ℤ) (b : Bool) → (p == terminates) ≡ b → is_in_group effects p ≡ false → without p vs ≡ forged p vs
    kept p vs false e h = rw e refl
    kept p vs true e h = absurd (inside p e h)
      where
        inside : (p : ℕ) → (p == terminates) ≡ true → is_in_group effects p ≡ false → ⊥
        inside p e h = let is : p ≡ terminates = same_number p terminates e in let t : is_in_group effects terminates ≡ true = refl in let f : is_in_group effects terminates ≡ false = rw is at h in cc

    there : (p : ℕ) (vs : List ℤ) (b : Bool) → (p == terminates) ≡ b → without p vs ≡ true → forged p vs ≡ true
    there p vs false e h = rw e at h
    there p vs true e h = let f : false ≡ true = rw e at h in cc

unsupported : IsTheVerdict domain forged (Untrue (GroupAt 0))
unsupported = by_group domain forged refl 0 refl refl (record {
  before = tt;
  group = effects;
  there = refl;
  untrue = λ minimal. let f = minimal.least without without_is_below in let t : all_hold over without effects.sentences ≡ true = refl in cc;
})

-- ---- the axioms stand before the groups: an effect is missing, and the fluent holds though no event makes it
both : IsTheVerdict domain (with_atoms (1 ∷ 6 ∷ [])) (Untrue (Axiom 1))
both = by_axiom domain (with_atoms (1 ∷ 6 ∷ [])) refl 1 (record { before = refl; sentence = DEC6; there = refl; untrue = refl })
