-- The clause list extends each truth of the atoms once.
use Rattle.std.proofs.Common.{◌≡◌, ℕ, zero, suc, ◌+◌, ◌-◌, ◌<◌, ◌≤◌, Bool, true, false, List, [], ◌∷◌, length, get_or, refl, sym, ap, ◌∙◌, arith}
use Rattle.std.proofs.Math.Path.{fun_ext}
use Rattle.std.proofs.lemmas.Bool.Decides.{nat_tests}
use Rattle.std.specs.Prelude.{nat_lt}
use Rattle.std.proofs.lemmas.List.Elements.{All-nil, All-cons, All-head, All-tail}
use Rattle.ec_folding.specs.Tree.{Tree, never, true_in}
use Rattle.ec_folding.specs.Definition.{Definition}
use Rattle.ec_clause.specs.Literal.{Literal}
use Rattle.ec_clause.specs.Step.{clause_holds}
use Rattle.ec_naming.specs.Naming.{Agrees}
use Rattle.ec_naming.specs.Listing.{named_whole, names_taken_whole, naming_whole, clauses_of, clause_list}
use Rattle.ec_naming.specs.Tidy.{same, tidied}
use Rattle.ec_naming.specs.Extension.{Meets, atoms_of, extended, HasOneExtension}
use Rattle.ec_naming.proofs.Gates.{all_hold}
use Rattle.ec_naming.proofs.Names.{both-left, both-right, both-true}
use Rattle.ec_naming.proofs.Tidies.{tidied-hold}
use Rattle.ec_naming.proofs.Whole.{length-whole, met, met_holds, whole-named, named-whole}

-- ---- clauses that hold, as a test and as a fact

module _ (w : ℕ → Bool) where
  pub meets-hold : (cs : List (List Literal)) → all_hold w cs ≡ true → Meets w cs
  meets-hold [] h = All-nil (λ (c : List Literal). clause_holds w c ≡ true)
  meets-hold (c ∷ cs) h = All-cons (λ (c : List Literal). clause_holds w c ≡ true) c cs (both-left (clause_holds w c) (all_hold w cs) h) (meets-hold cs (both-right (clause_holds w c) (all_hold w cs) h))

  pub hold-meets : (cs : List (List Literal)) → Meets w cs → all_hold w cs ≡ true
  hold-meets [] h = refl
  hold-meets (c ∷ cs) h = both-true (clause_holds w c) (all_hold w cs) (All-head (λ (c : List Literal). clause_holds w c ≡ true) c cs h) (hold-meets cs (All-tail (λ (c : List Literal). clause_holds w c ≡ true) c cs h))

-- ---- the extension

-- below the names nothing changes
pub extended-below : (at : ℕ → ℕ) (n : ℕ) (ts : List Tree) (v : ℕ → Bool) (i : ℕ) → i < n → extended at n ts v i ≡ v i
extended-below at n ts v i h = let e : nat_lt i n ≡ true = grind (arith, nat_tests) in rw e refl

-- a name has the truth of its tree
extended-above : (at : ℕ → ℕ) (n : ℕ) (ts : List Tree) (v : ℕ → Bool) (i : ℕ) → extended at n ts v (n + i) ≡ true_in (atoms_of at v) (get_or ts i never)
extended-above at n ts v i =
    let e : nat_lt (n + i) n ≡ false = grind (arith, nat_tests) in
    let f : n + i - n ≡ i = omega arith in
    rw (e, f) refl

module _ (at : ℕ → ℕ) (n : ℕ) (ts : List Tree) (low : (a : ℕ) → at a < n) where
  pub atoms_of-alike : (v w : ℕ → Bool) → ((i : ℕ) → i < n → w i ≡ v i) → atoms_of at w ≡ atoms_of at v
  atoms_of-alike v w alike = fun_ext (λ a. alike (at a) (low a))

  pub atoms_of-extended : (v : ℕ → Bool) → atoms_of at (extended at n ts v) ≡ atoms_of at v
  atoms_of-extended v = atoms_of-alike v (extended at n ts v) (λ i h. extended-below at n ts v i h)

  same_default : (ts : List Tree) (i : ℕ) (c d : Tree) → i < length ts → get_or ts i c ≡ get_or ts i d
  same_default [] i c d h = absurd (omega (arith, h))
  same_default (t ∷ ts) zero c d h = refl
  same_default (t ∷ ts) (suc i) c d h = same_default ts i c d (omega (arith, h))

  pub extended-agrees : (v : ℕ → Bool) → Agrees at (extended at n ts v) n ts
  extended-agrees v i d h =
      extended-above at n ts v i
      ∙ ap (true_in (atoms_of at v)) (same_default ts i never d h)
      ∙ ap (λ (u : ℕ → Bool). true_in u (get_or ts i d)) (sym (atoms_of-extended v))

  -- a truth whose names have the truths of their trees is the extension of each truth that agrees with it below the names
  pub agrees-extended : (v w : ℕ → Bool) → ((i : ℕ) → i < n → w i ≡ v i) → Agrees at w n ts → (i : ℕ) → i < n + length ts → w i ≡ extended at n ts v i
  agrees-extended v w alike a i h = cases (nat_lt i n) refl
    where
      cases : (t : Bool) → nat_lt i n ≡ t → w i ≡ extended at n ts v i
      cases true e = let lt : i < n = grind (arith, nat_tests) in alike i lt ∙ sym (extended-below at n ts v i lt)
      cases false e =
          let le : n ≤ i = grind (arith, nat_tests) in
          let near : i - n < length ts = omega (arith, h, le) in
          let place : i ≡ n + (i - n) = omega (arith, le) in
          ap w place ∙ a (i - n) never near
          ∙ ap (λ (u : ℕ → Bool). true_in u (get_or ts (i - n) never)) (atoms_of-alike v w alike)
          ∙ sym (extended-above at n ts v (i - n)) ∙ sym (ap (extended at n ts v) place)

  -- and the other way
  pub extended-is : (w : ℕ → Bool) → ((i : ℕ) → i < n + length ts → w i ≡ extended at n ts w i) → Agrees at w n ts
  extended-is w same i d h =
      same (n + i) (omega (arith, h)) ∙ extended-above at n ts w i ∙ ap (true_in (atoms_of at w)) (same_default ts i never d h)

-- ---- the law

module _ (at : ℕ → ℕ) (n : ℕ) (ss : List Tree) (ds : List Definition) (low : (a : ℕ) → at a < n) where
  within : (i : ℕ) → i < n + names_taken_whole ss ds → i < n + length (named_whole ss ds)
  within i h = omega (arith, h, length-whole ss ds)

  within_back : (i : ℕ) → i < n + length (named_whole ss ds) → i < n + names_taken_whole ss ds
  within_back i h = omega (arith, h, length-whole ss ds)

  pub has_one_extension : HasOneExtension at n ss ds
  has_one_extension = record {
    extends = λ v.
        let u = extended at n (named_whole ss ds) v in
        meets-hold u (tidied (naming_whole at n ss ds)) (tidied-hold u (naming_whole at n ss ds) ∙ named-whole at u n ss ds (extended-agrees at n (named_whole ss ds) low v));
    keeps = λ v i h. extended-below at n (named_whole ss ds) v i h;
    only = λ v w alike h i lt.
        agrees-extended at n (named_whole ss ds) low v w alike (whole-named at w n ss ds (sym (tidied-hold w (naming_whole at n ss ds)) ∙ hold-meets w (tidied (naming_whole at n ss ds)) h)) i (within i lt);
    meets = λ w. (
      (λ h.
          let both = met at w n ss ds (sym (tidied-hold w (clauses_of at n ss ds)) ∙ hold-meets w (clause_list at n ss ds) h) in
          ((λ i lt. agrees-extended at n (named_whole ss ds) low w w (λ i lt. refl) both.0 i (within i lt)), both.1)),
      (λ h. meets-hold w (clause_list at n ss ds) (tidied-hold w (clauses_of at n ss ds) ∙ met_holds at w n ss ds (extended-is at n (named_whole ss ds) low w (λ i lt. h.0 i (within_back i lt))) h.1)),
    );
  }
