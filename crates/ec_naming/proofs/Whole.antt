-- The clause list holds exactly where the sentences and definitions do, the names having the truth of their trees.
use Rattle.std.proofs.Common.{◌≡◌, ℕ, ◌+◌, Bool, true, false, not, ◌&&◌, ◌||◌, List, [], ◌∷◌, length, refl, sym, ap, ◌∙◌, arith}
use Rattle.std.specs.Prelude.{All}
use Rattle.std.proofs.lemmas.List.Elements.{All-nil, All-cons, All-head, All-tail}
use Rattle.std.proofs.lemmas.List.{length-append}
use Rattle.ec_folding.specs.Tree.{Tree, always, never, literal, all_of, any_of, Trees, no_trees, tree, as_trees, under_sign, true_in, each_true, some_true}
use Rattle.ec_folding.specs.Definition.{Definition, Holds}
use Rattle.ec_clause.specs.Literal.{Literal}
use Rattle.ec_clause.specs.Step.{holds, clause_holds}
use Rattle.ec_clause.specs.Truth.{agree}
use Rattle.ec_naming.specs.Naming.{positive, name_of, names_of, and_clauses, or_clauses, naming_each, Agrees}
use Rattle.ec_naming.specs.Listing.{named_asserting, named_asserting_each, names_taken_asserting, names_taken_asserting_each, naming_asserting, naming_asserting_each, asserting, asserting_each, named_defining, named_defining_each, names_taken_defining, names_taken_defining_each, naming_defining, naming_defining_each, defining, defining_each, named_whole, names_taken_whole, naming_whole, clauses_of}
use Rattle.ec_naming.specs.Extension.{IsModel}
use Rattle.ec_naming.proofs.Gates.{all_hold, same_truth, same_truth-is, is-same_truth, opposite-true, hold-append, agree-is}
use Rattle.ec_naming.proofs.Names.{both-left, both-right, both-true, length-named_each, agrees-left, agrees-right, agrees-append, names_of-any, and-gate, or-gate, agrees_each, meets_each}

mutual
  pub length-asserting : (p : Tree) → length (named_asserting p) ≡ names_taken_asserting p
  length-asserting always = refl
  length-asserting never = refl
  length-asserting (literal a s) = refl
  length-asserting (all_of ps) = length-asserting_each ps
  length-asserting (any_of ps) = length-named_each ps

  pub length-asserting_each : (ps : Trees) → length (named_asserting_each ps) ≡ names_taken_asserting_each ps
  length-asserting_each no_trees = refl
  length-asserting_each (tree p ps) = length-append (named_asserting p) (named_asserting_each ps) ∙ (rw (length-asserting p, length-asserting_each ps) refl)

pub length-defining : (t : Tree) → length (named_defining t) ≡ names_taken_defining t
length-defining always = refl
length-defining never = refl
length-defining (literal a s) = refl
length-defining (all_of ts) = length-named_each ts
length-defining (any_of ts) = length-named_each ts

pub length-defining_each : (ds : List Definition) → length (named_defining_each ds) ≡ names_taken_defining_each ds
length-defining_each [] = refl
length-defining_each (d ∷ ds) = length-append (named_defining d.scope) (named_defining_each ds) ∙ (rw (length-defining d.scope, length-defining_each ds) refl)

-- how many names the whole list takes
pub length-whole : (ss : List Tree) (ds : List Definition) → length (named_whole ss ds) ≡ names_taken_whole ss ds
length-whole ss ds = length-append (named_asserting_each (as_trees ss)) (named_defining_each ds) ∙ (rw (length-asserting_each (as_trees ss), length-defining_each ds) refl)

-- a tree is true
abbrev pub IsTrueIn : (ℕ → Bool) → Tree → Type 0
IsTrueIn v t = true_in v t ≡ true

or-true : (b : Bool) → ((b || false) && true) ≡ b
or-true true = refl
or-true false = refl

only : (b : Bool) → (b && true) ≡ b
only true = refl
only false = refl

module _ (at : ℕ → ℕ) (w : ℕ → Bool) where
  none : (n : ℕ) → Agrees at w n []
  none n i d h = absurd (omega (arith, h))

  mutual
    pub asserting-holds : (n : ℕ) (p : Tree) → all_hold w (asserting at n p) ≡ true → Agrees at w n (named_asserting p) × (true_in (λ a. w (at a)) p ≡ true)
    asserting-holds n always h = (none n, refl)
    asserting-holds n never h = cc
    asserting-holds n (literal a s) h = (none n, sym (agree-is s (w (at a))) ∙ sym (or-true (agree s (w (at a)))) ∙ h)
    asserting-holds n (all_of ps) h = asserting_each-holds n ps h
    asserting-holds n (any_of ps) h =
        let both = sym (hold-append w (naming_each at n ps) (names_of at n ps ∷ [])) ∙ h in
        let names = agrees_each at w n ps (both-left (all_hold w (naming_each at n ps)) (all_hold w (names_of at n ps ∷ [])) both) in
        let one = both-right (all_hold w (naming_each at n ps)) (all_hold w (names_of at n ps ∷ [])) both in
        (names, sym (names_of-any at w n ps names) ∙ sym (only (clause_holds w (names_of at n ps))) ∙ one)

    pub asserting_each-holds : (n : ℕ) (ps : Trees) → all_hold w (asserting_each at n ps) ≡ true → Agrees at w n (named_asserting_each ps) × (each_true (λ a. w (at a)) ps ≡ true)
    asserting_each-holds n no_trees h = (none n, refl)
    asserting_each-holds n (tree p ps) h =
        let both = sym (hold-append w (asserting at n p) (asserting_each at (n + names_taken_asserting p) ps)) ∙ h in
        let one = asserting-holds n p (both-left (all_hold w (asserting at n p)) (all_hold w (asserting_each at (n + names_taken_asserting p) ps)) both) in
        let rest = asserting_each-holds (n + names_taken_asserting p) ps (both-right (all_hold w (asserting at n p)) (all_hold w (asserting_each at (n + names_taken_asserting p) ps)) both) in (
          agrees-append at w n (names_taken_asserting p) (named_asserting p) (named_asserting_each ps) (length-asserting p) one.0 rest.0,
          both-true (true_in (λ a. w (at a)) p) (each_true (λ a. w (at a)) ps) one.1 rest.1,
        )

  mutual
    pub holds-asserting : (n : ℕ) (p : Tree) → Agrees at w n (named_asserting p) → true_in (λ a. w (at a)) p ≡ true → all_hold w (asserting at n p) ≡ true
    holds-asserting n always a h = refl
    holds-asserting n never a h = h
    holds-asserting n (literal k s) a h = or-true (agree s (w (at k))) ∙ agree-is s (w (at k)) ∙ h
    holds-asserting n (all_of ps) a h = holds-asserting_each n ps a h
    holds-asserting n (any_of ps) a h =
        hold-append w (naming_each at n ps) (names_of at n ps ∷ [])
        ∙ both-true (all_hold w (naming_each at n ps)) (all_hold w (names_of at n ps ∷ [])) (meets_each at w n ps a) (only (clause_holds w (names_of at n ps)) ∙ names_of-any at w n ps a ∙ h)

    pub holds-asserting_each : (n : ℕ) (ps : Trees) → Agrees at w n (named_asserting_each ps) → each_true (λ a. w (at a)) ps ≡ true → all_hold w (asserting_each at n ps) ≡ true
    holds-asserting_each n no_trees a h = refl
    holds-asserting_each n (tree p ps) a h =
        hold-append w (asserting at n p) (asserting_each at (n + names_taken_asserting p) ps)
        ∙ both-true (all_hold w (asserting at n p)) (all_hold w (asserting_each at (n + names_taken_asserting p) ps))
        (holds-asserting n p (agrees-left at w n (named_asserting p) (named_asserting_each ps) a) (both-left (true_in (λ a. w (at a)) p) (each_true (λ a. w (at a)) ps) h))
        (holds-asserting_each (n + names_taken_asserting p) ps (agrees-right at w n (names_taken_asserting p) (named_asserting p) (named_asserting_each ps) (length-asserting p) a) (both-right (true_in (λ a. w (at a)) p) (each_true (λ a. w (at a)) ps) h))

  -- ---- definitions

  same_pair : (a b : Bool) → ((not a || (b || false)) && ((a || (not b || false)) && true)) ≡ same_truth a b
  same_pair true true = refl
  same_pair true false = refl
  same_pair false true = refl
  same_pair false false = refl

  single_opposite : (a : Bool) → ((not a || false) && true) ≡ same_truth a false
  single_opposite true = refl
  single_opposite false = refl

  single : (a : Bool) → ((a || false) && true) ≡ same_truth a true
  single true = refl
  single false = refl

  -- the clauses of a definition without parts
  plain_literal : (n k : ℕ) (l : Literal) (s : Bool) → all_hold w (defining at n l (literal k s)) ≡ same_truth (holds w l) (agree s (w (at k)))
  plain_literal n k l s =
      rw (opposite-true w l, opposite-true w (name_of at n (literal k s))) (same_pair (holds w l) (under_sign s (w (at k))))

  pub defining-holds : (n : ℕ) (l : Literal) (p : Tree) → all_hold w (defining at n l p) ≡ true → Agrees at w n (named_defining p) × (holds w l ≡ true_in (λ a. w (at a)) p)
  defining-holds n l always h = (none n, same_truth-is (holds w l) true (sym (single (holds w l)) ∙ h))
  defining-holds n l never h = (none n, same_truth-is (holds w l) false (sym (single_opposite (holds w l)) ∙ sym (ap (λ b. (b || false) && true) (opposite-true w l)) ∙ h))
  defining-holds n l (literal k s) h = (none n, same_truth-is (holds w l) (agree s (w (at k))) (sym (plain_literal n k l s) ∙ h) ∙ agree-is s (w (at k)))
  defining-holds n l (all_of ps) h =
      let both = sym (hold-append w (naming_each at n ps) (and_clauses l (names_of at n ps))) ∙ h in
      let below = agrees_each at w n ps (both-left (all_hold w (naming_each at n ps)) (all_hold w (and_clauses l (names_of at n ps))) both) in
      let gate = both-right (all_hold w (naming_each at n ps)) (all_hold w (and_clauses l (names_of at n ps))) both in
      (below, same_truth-is (holds w l) (each_true (λ a. w (at a)) ps) (sym (and-gate at w n l ps below) ∙ gate))
  defining-holds n l (any_of ps) h =
      let both = sym (hold-append w (naming_each at n ps) (or_clauses l (names_of at n ps))) ∙ h in
      let below = agrees_each at w n ps (both-left (all_hold w (naming_each at n ps)) (all_hold w (or_clauses l (names_of at n ps))) both) in
      let gate = both-right (all_hold w (naming_each at n ps)) (all_hold w (or_clauses l (names_of at n ps))) both in
      (below, same_truth-is (holds w l) (some_true (λ a. w (at a)) ps) (sym (or-gate at w n l ps below) ∙ gate))

  pub holds-defining : (n : ℕ) (l : Literal) (p : Tree) → Agrees at w n (named_defining p) → holds w l ≡ true_in (λ a. w (at a)) p → all_hold w (defining at n l p) ≡ true
  holds-defining n l always a e = single (holds w l) ∙ is-same_truth (holds w l) true e
  holds-defining n l never a e = ap (λ b. (b || false) && true) (opposite-true w l) ∙ single_opposite (holds w l) ∙ is-same_truth (holds w l) false e
  holds-defining n l (literal k s) a e = plain_literal n k l s ∙ is-same_truth (holds w l) (agree s (w (at k))) e
  holds-defining n l (all_of ps) a e =
      hold-append w (naming_each at n ps) (and_clauses l (names_of at n ps))
      ∙ both-true (all_hold w (naming_each at n ps)) (all_hold w (and_clauses l (names_of at n ps))) (meets_each at w n ps a) (and-gate at w n l ps a ∙ is-same_truth (holds w l) (each_true (λ a. w (at a)) ps) e)
  holds-defining n l (any_of ps) a e =
      hold-append w (naming_each at n ps) (or_clauses l (names_of at n ps))
      ∙ both-true (all_hold w (naming_each at n ps)) (all_hold w (or_clauses l (names_of at n ps))) (meets_each at w n ps a) (or-gate at w n l ps a ∙ is-same_truth (holds w l) (some_true (λ a. w (at a)) ps) e)

  pub defining_each-holds : (n : ℕ) (ds : List Definition) → all_hold w (defining_each at n ds) ≡ true → Agrees at w n (named_defining_each ds) × All (Holds (λ a. w (at a))) ds
  defining_each-holds n [] h = (none n, All-nil (Holds (λ a. w (at a))))
  defining_each-holds n (d ∷ ds) h =
      let k = names_taken_defining d.scope in
      let both = sym (hold-append w (defining at n (positive (at d.atom)) d.scope) (defining_each at (n + k) ds)) ∙ h in
      let one = defining-holds n (positive (at d.atom)) d.scope (both-left (all_hold w (defining at n (positive (at d.atom)) d.scope)) (all_hold w (defining_each at (n + k) ds)) both) in
      let rest = defining_each-holds (n + k) ds (both-right (all_hold w (defining at n (positive (at d.atom)) d.scope)) (all_hold w (defining_each at (n + k) ds)) both) in
      (agrees-append at w n k (named_defining d.scope) (named_defining_each ds) (length-defining d.scope) one.0 rest.0, All-cons (Holds (λ a. w (at a))) d ds one.1 rest.1)

  pub holds-defining_each : (n : ℕ) (ds : List Definition) → Agrees at w n (named_defining_each ds) → All (Holds (λ a. w (at a))) ds → all_hold w (defining_each at n ds) ≡ true
  holds-defining_each n [] a h = refl
  holds-defining_each n (d ∷ ds) a h =
      let k = names_taken_defining d.scope in
      hold-append w (defining at n (positive (at d.atom)) d.scope) (defining_each at (n + k) ds)
      ∙ both-true (all_hold w (defining at n (positive (at d.atom)) d.scope)) (all_hold w (defining_each at (n + k) ds))
      (holds-defining n (positive (at d.atom)) d.scope (agrees-left at w n (named_defining d.scope) (named_defining_each ds) a) (All-head (Holds (λ a. w (at a))) d ds h))
      (holds-defining_each (n + k) ds (agrees-right at w n k (named_defining d.scope) (named_defining_each ds) (length-defining d.scope) a) (All-tail (Holds (λ a. w (at a))) d ds h))

  -- ---- the whole list

  -- each of these trees is true
  each_true-All : (ss : List Tree) → each_true (λ a. w (at a)) (as_trees ss) ≡ true → All (IsTrueIn (λ a. w (at a))) ss
  each_true-All [] h = All-nil (IsTrueIn (λ a. w (at a)))
  each_true-All (t ∷ ss) h = All-cons (IsTrueIn (λ a. w (at a))) t ss (both-left (true_in (λ a. w (at a)) t) (each_true (λ a. w (at a)) (as_trees ss)) h) (each_true-All ss (both-right (true_in (λ a. w (at a)) t) (each_true (λ a. w (at a)) (as_trees ss)) h))

  All-each_true : (ss : List Tree) → All (IsTrueIn (λ a. w (at a))) ss → each_true (λ a. w (at a)) (as_trees ss) ≡ true
  All-each_true [] h = refl
  All-each_true (t ∷ ss) h = both-true (true_in (λ a. w (at a)) t) (each_true (λ a. w (at a)) (as_trees ss)) (All-head (IsTrueIn (λ a. w (at a))) t ss h) (All-each_true ss (All-tail (IsTrueIn (λ a. w (at a))) t ss h))

  pub met : (n : ℕ) (ss : List Tree) (ds : List Definition) → all_hold w (clauses_of at n ss ds) ≡ true → Agrees at w n (named_whole ss ds) × IsModel ss ds (λ a. w (at a))
  met n ss ds h =
      let k = names_taken_asserting_each (as_trees ss) in
      let both = sym (hold-append w (asserting_each at n (as_trees ss)) (defining_each at (n + k) ds)) ∙ h in
      let one = asserting_each-holds n (as_trees ss) (both-left (all_hold w (asserting_each at n (as_trees ss))) (all_hold w (defining_each at (n + k) ds)) both) in
      let rest = defining_each-holds (n + k) ds (both-right (all_hold w (asserting_each at n (as_trees ss))) (all_hold w (defining_each at (n + k) ds)) both) in (
        agrees-append at w n k (named_asserting_each (as_trees ss)) (named_defining_each ds) (length-asserting_each (as_trees ss)) one.0 rest.0,
        record { sentences = each_true-All ss one.1; definitions = rest.1 },
      )

  pub met_holds : (n : ℕ) (ss : List Tree) (ds : List Definition) → Agrees at w n (named_whole ss ds) → IsModel ss ds (λ a. w (at a)) → all_hold w (clauses_of at n ss ds) ≡ true
  met_holds n ss ds names m =
      let k = names_taken_asserting_each (as_trees ss) in
      hold-append w (asserting_each at n (as_trees ss)) (defining_each at (n + k) ds)
      ∙ both-true (all_hold w (asserting_each at n (as_trees ss))) (all_hold w (defining_each at (n + k) ds))
      (holds-asserting_each n (as_trees ss) (agrees-left at w n (named_asserting_each (as_trees ss)) (named_defining_each ds) names) (All-each_true ss m.sentences))
      (holds-defining_each (n + k) ds (agrees-right at w n k (named_asserting_each (as_trees ss)) (named_defining_each ds) (length-asserting_each (as_trees ss)) names) m.definitions)

  -- ---- the naming clauses alone

  mutual
    asserting-named : (n : ℕ) (t : Tree) → all_hold w (naming_asserting at n t) ≡ true → Agrees at w n (named_asserting t)
    asserting-named n always h = none n
    asserting-named n never h = none n
    asserting-named n (literal a s) h = none n
    asserting-named n (all_of ts) h = asserting_each-named n ts h
    asserting-named n (any_of ts) h = agrees_each at w n ts h

    asserting_each-named : (n : ℕ) (ts : Trees) → all_hold w (naming_asserting_each at n ts) ≡ true → Agrees at w n (named_asserting_each ts)
    asserting_each-named n no_trees h = none n
    asserting_each-named n (tree t ts) h =
        let both = sym (hold-append w (naming_asserting at n t) (naming_asserting_each at (n + names_taken_asserting t) ts)) ∙ h in
        agrees-append at w n (names_taken_asserting t) (named_asserting t) (named_asserting_each ts) (length-asserting t)
        (asserting-named n t (both-left (all_hold w (naming_asserting at n t)) (all_hold w (naming_asserting_each at (n + names_taken_asserting t) ts)) both))
        (asserting_each-named (n + names_taken_asserting t) ts (both-right (all_hold w (naming_asserting at n t)) (all_hold w (naming_asserting_each at (n + names_taken_asserting t) ts)) both))

  mutual
    named-asserting : (n : ℕ) (t : Tree) → Agrees at w n (named_asserting t) → all_hold w (naming_asserting at n t) ≡ true
    named-asserting n always a = refl
    named-asserting n never a = refl
    named-asserting n (literal k s) a = refl
    named-asserting n (all_of ts) a = named-asserting_each n ts a
    named-asserting n (any_of ts) a = meets_each at w n ts a

    named-asserting_each : (n : ℕ) (ts : Trees) → Agrees at w n (named_asserting_each ts) → all_hold w (naming_asserting_each at n ts) ≡ true
    named-asserting_each n no_trees a = refl
    named-asserting_each n (tree t ts) a =
        hold-append w (naming_asserting at n t) (naming_asserting_each at (n + names_taken_asserting t) ts)
        ∙ both-true (all_hold w (naming_asserting at n t)) (all_hold w (naming_asserting_each at (n + names_taken_asserting t) ts))
        (named-asserting n t (agrees-left at w n (named_asserting t) (named_asserting_each ts) a))
        (named-asserting_each (n + names_taken_asserting t) ts (agrees-right at w n (names_taken_asserting t) (named_asserting t) (named_asserting_each ts) (length-asserting t) a))

  defining-named : (n : ℕ) (t : Tree) → all_hold w (naming_defining at n t) ≡ true → Agrees at w n (named_defining t)
  defining-named n always h = none n
  defining-named n never h = none n
  defining-named n (literal a s) h = none n
  defining-named n (all_of ts) h = agrees_each at w n ts h
  defining-named n (any_of ts) h = agrees_each at w n ts h

  named-defining : (n : ℕ) (t : Tree) → Agrees at w n (named_defining t) → all_hold w (naming_defining at n t) ≡ true
  named-defining n always a = refl
  named-defining n never a = refl
  named-defining n (literal k s) a = refl
  named-defining n (all_of ts) a = meets_each at w n ts a
  named-defining n (any_of ts) a = meets_each at w n ts a

  defining_each-named : (n : ℕ) (ds : List Definition) → all_hold w (naming_defining_each at n ds) ≡ true → Agrees at w n (named_defining_each ds)
  defining_each-named n [] h = none n
  defining_each-named n (d ∷ ds) h =
      let k = names_taken_defining d.scope in
      let both = sym (hold-append w (naming_defining at n d.scope) (naming_defining_each at (n + k) ds)) ∙ h in
      agrees-append at w n k (named_defining d.scope) (named_defining_each ds) (length-defining d.scope)
      (defining-named n d.scope (both-left (all_hold w (naming_defining at n d.scope)) (all_hold w (naming_defining_each at (n + k) ds)) both))
      (defining_each-named (n + k) ds (both-right (all_hold w (naming_defining at n d.scope)) (all_hold w (naming_defining_each at (n + k) ds)) both))

  named-defining_each : (n : ℕ) (ds : List Definition) → Agrees at w n (named_defining_each ds) → all_hold w (naming_defining_each at n ds) ≡ true
  named-defining_each n [] a = refl
  named-defining_each n (d ∷ ds) a =
      let k = names_taken_defining d.scope in
      hold-append w (naming_defining at n d.scope) (naming_defining_each at (n + k) ds)
      ∙ both-true (all_hold w (naming_defining at n d.scope)) (all_hold w (naming_defining_each at (n + k) ds))
      (named-defining n d.scope (agrees-left at w n (named_defining d.scope) (named_defining_each ds) a))
      (named-defining_each (n + k) ds (agrees-right at w n k (named_defining d.scope) (named_defining_each ds) (length-defining d.scope) a))

  -- the naming clauses hold exactly where the names have the truths of their trees
  pub whole-named : (n : ℕ) (ss : List Tree) (ds : List Definition) → all_hold w (naming_whole at n ss ds) ≡ true → Agrees at w n (named_whole ss ds)
  whole-named n ss ds h =
      let k = names_taken_asserting_each (as_trees ss) in
      let both = sym (hold-append w (naming_asserting_each at n (as_trees ss)) (naming_defining_each at (n + k) ds)) ∙ h in
      agrees-append at w n k (named_asserting_each (as_trees ss)) (named_defining_each ds) (length-asserting_each (as_trees ss))
      (asserting_each-named n (as_trees ss) (both-left (all_hold w (naming_asserting_each at n (as_trees ss))) (all_hold w (naming_defining_each at (n + k) ds)) both))
      (defining_each-named (n + k) ds (both-right (all_hold w (naming_asserting_each at n (as_trees ss))) (all_hold w (naming_defining_each at (n + k) ds)) both))

  pub named-whole : (n : ℕ) (ss : List Tree) (ds : List Definition) → Agrees at w n (named_whole ss ds) → all_hold w (naming_whole at n ss ds) ≡ true
  named-whole n ss ds a =
      let k = names_taken_asserting_each (as_trees ss) in
      hold-append w (naming_asserting_each at n (as_trees ss)) (naming_defining_each at (n + k) ds)
      ∙ both-true (all_hold w (naming_asserting_each at n (as_trees ss))) (all_hold w (naming_defining_each at (n + k) ds))
      (named-asserting_each n (as_trees ss) (agrees-left at w n (named_asserting_each (as_trees ss)) (named_defining_each ds) a))
      (named-defining_each (n + k) ds (agrees-right at w n k (named_asserting_each (as_trees ss)) (named_defining_each ds) (length-asserting_each (as_trees ss)) a))
