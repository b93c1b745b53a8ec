-- Small theories with their truths worked out by hand.
use Rattle.std.proofs.Common.{◌≡◌, ℕ, ◌==◌, Bool, true, false, ◌&&◌, ◌||◌, codes, List, [], ◌∷◌, ◌++◌, Some, None, ℤ, pos, decimal, refl}
use Rattle.std.specs.Ordering.{int_eq}
use Rattle.ec_logic.specs.Tree.{variable, int, constant, sum, no_terms, term, Formula, atom, for_all, exists, verum, falsum}
use Rattle.ec_logic.specs.Signature.{Signature, plain, time_sort, event_sort, fluent_sort, holds_at, released_at, happens, initiates}
use Rattle.ec_logic.specs.BuiltIn.{built_in_sorts, built_in_predicates, predicate_row, sort_row}
use Rattle.ec_logic.specs.Universe.{Universe, universe_of, domain}
use Rattle.ec_logic.specs.Truth.{Structure, truth}
use Rattle.ec_logic.specs.Axiom.{DEC8, dec_axioms, release_axioms}
use Rattle.ec_logic.specs.Value.{same_values}
use Rattle.ec_logic.specs.Theory.{Group, is_in_group, all_hold}
use Rattle.ec_logic.specs.Minimal.{IsBelow, IsMinimalIn}
use Rattle.ec_logic.specs.Narrative.{line, happens_line, fluent_line}
use Rattle.ec_logic.specs.Atom.{visible_truth}
use Rattle.ec_logic.specs.Listing.{complete, list_text}
use Rattle.ec_logic.proofs.Tests.{and_parts, same_number, same_values_same}

-- ---- a place at the end of a range, and a binder over no values

-- an agent James, the times 0 and 1, the fluent Awake(agent) and the event WakeUp(agent)
abbrev wake : Signature
wake = record {
  sorts = built_in_sorts None (Some (pos 0, pos 1)) None ++ sort_row (codes "agent") plain None None ∷ sort_row (codes "ghost") plain None None ∷ [];
  constants = record { name = codes "James"; sort = 6 } ∷ [];
  events = record { name = codes "WakeUp"; sorts = 6 ∷ []; noninertial = false } ∷ [];
  fluents = record { name = codes "Awake"; sorts = 6 ∷ []; noninertial = false } ∷ [];
  predicates = built_in_predicates;
  manual_release = false;
  time_diff = true;
}

abbrev over : Universe
over = universe_of wake

agents : domain over 6 ≡ pos 0 ∷ []
agents = refl

events : domain over event_sort ≡ pos 0 ∷ []
events = refl

-- James wakes up at 0, is awake from 1 on, and waking up is what wakes
abbrev woken : Structure
woken p vs = ((p == holds_at) && (holds vs)) || ((p == happens) && (wakes vs)) || (p == initiates)
  where
    wakes : List ℤ → Bool
    wakes (e ∷ t ∷ []) = int_eq t (pos 0)
    wakes _ = false

    holds : List ℤ → Bool
    holds (f ∷ t ∷ []) = int_eq t (pos 1)
    holds _ = false

axioms-hold : all_hold over woken dec_axioms ≡ true
axioms-hold = refl

release-holds : all_hold over woken (release_axioms wake) ≡ true
release-holds = refl

-- for all times, something at the next time: the last time isn't asked
abbrev always_next : Formula
always_next = for_all fluent_sort (for_all time_sort (atom holds_at (term (variable 1) (term (sum (variable 0) (int (pos 1))) no_terms))))

last-not-asked : truth over woken [] always_next ≡ true
last-not-asked = refl

-- no time has a next time beyond the last
abbrev beyond : Formula
beyond = exists fluent_sort (exists time_sort (atom holds_at (term (variable 1) (term (sum (variable 0) (int (pos 2))) no_terms))))

none-beyond : truth over (λ p vs. true) [] beyond ≡ false
none-beyond = refl

-- a sort without values
for-all-of-none : truth over woken [] (for_all 7 falsum) ≡ true
for-all-of-none = refl

none-exists : truth over woken [] (exists 7 verum) ≡ false
none-exists = refl

-- released at 1 though nothing releases
abbrev set_free : Structure
set_free p vs = (p == released_at) && later vs
  where
    later : List ℤ → Bool
    later (f ∷ t ∷ []) = int_eq t (pos 1)
    later _ = false

release-needs-a-cause : truth over set_free [] DEC8 ≡ false
release-needs-a-cause = refl

-- at the last time no axiom asks what comes after it: released at 0 and at 1
release-may-stay : truth over (λ p vs. p == released_at) [] DEC8 ≡ true
release-may-stay = refl

-- ---- the text of a list

abbrev truths : List Bool
truths = visible_truth over woken

these-truths : truths ≡ false ∷ true ∷ false ∷ false ∷ true ∷ false ∷ []
these-truths = refl

happening : happens_line wake woken (pos 0) (pos 0) ≡ line (codes "Happens(WakeUp(James), " ++ decimal 0 ++ codes ").")
happening = refl

change : fluent_line wake woken (pos 1) (pos 0) ≡ codes "+Awake(James).\n"
change = refl

ending : list_text wake [] (complete 0) ≡ line (codes "complete: " ++ decimal 0)
ending = refl

-- ---- a group of two atoms, of which one is forced

abbrev birds : Signature
birds = record {
  sorts = built_in_sorts None None None ++ sort_row (codes "bird") plain None None ∷ [];
  constants = record { name = codes "Tweety"; sort = 6 } ∷ record { name = codes "Opus"; sort = 6 } ∷ [];
  events = [];
  fluents = [];
  predicates = built_in_predicates ++ predicate_row (codes "Abnormal") (6 ∷ []) ∷ [];
  manual_release = false;
  time_diff = true;
}

abbrev abnormal : ℕ → Formula
abnormal c = atom 6 (term (constant c) no_terms)

abbrev opus_is : Group
opus_is = record { predicates = 6 ∷ []; sentences = abnormal 1 ∷ [] }

abbrev opus_alone : Structure
opus_alone p vs = (p == 6) && same_values vs (pos 1 ∷ [])

abbrev both_are : Structure
both_are p vs = (p == 6) && (same_values vs (pos 1 ∷ []) || same_values vs (pos 0 ∷ []))

-- where the one atom is false, the sentence is
without_opus : (n : Structure) (p : ℕ) (vs : List ℤ) → opus_alone p vs ≡ true → n p vs ≡ false → all_hold (universe_of birds) n opus_is.sentences ≡ false
without_opus n p vs h f =
    let both = and_parts (p == 6) (same_values vs (pos 1 ∷ [])) h in
    let atom : n 6 (pos 1 ∷ []) ≡ false = rw (same_number p 6 both.0, same_values_same vs (pos 1 ∷ []) both.1) at f in
    rw atom refl

opus-alone-minimal : IsMinimalIn (universe_of birds) opus_is opus_alone
opus-alone-minimal = record { model = refl; least = λ n below. without_opus n below.smaller.0 below.smaller.1 below.smaller.2 below.smaller.3 }

fewer : IsBelow opus_is opus_alone both_are
fewer = record {
  outside = λ p vs h. outside_group p vs (p == 6) refl h;
  included = λ p vs h. let both = and_parts (p == 6) (same_values vs (pos 1 ∷ [])) h in rw (both.0, both.1) refl;
  smaller = (6, pos 0 ∷ [], refl, refl);
}
  where
    six : (p : ℕ) → p ≡ 6 → is_in_group opus_is p ≡ false → ⊥
    six p e h = let t : is_in_group opus_is 6 ≡ true = refl in let f : is_in_group opus_is 6 ≡ false = rw e at h in cc

    outside_group : (p : ℕ) (vs : List ℤ) (b : Bool) → (p == 6) ≡ b → is_in_group opus_is p ≡ false → opus_alone p vs ≡ both_are p vs
    outside_group p vs false e h = rw e refl
    outside_group p vs true e h = absurd (six p (same_number p 6 e) h)

both-not-minimal : IsMinimalIn (universe_of birds) opus_is both_are → ⊥
both-not-minimal h = let f = h.least opus_alone fewer in let t : all_hold (universe_of birds) opus_alone opus_is.sentences ≡ true = refl in cc
