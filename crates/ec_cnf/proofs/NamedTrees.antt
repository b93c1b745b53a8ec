-- The trees that a clause list names have atoms of the sentences and definitions alone, and the truth of a tree is that of its atoms.
use Rattle.std.proofs.Common.{◌≡◌, ℕ, Bool, List, [], ◌∷◌, ◌++◌, refl, ap, All}
use Rattle.std.proofs.lemmas.List.Elements.{All-nil, All-cons, All-head, All-tail, All-append}
use Rattle.ec_folding.specs.Tree.{Tree, always, never, literal, all_of, any_of, Trees, no_trees, tree, as_trees, true_in, each_true, some_true, under_sign, EachAtom, EachAtomOf}
use Rattle.ec_folding.specs.Definition.{Definition}
use Rattle.ec_naming.specs.Naming.{named, named_each}
use Rattle.ec_naming.specs.Listing.{named_asserting, named_asserting_each, named_defining, named_defining_each, named_whole}

module _ (P : ℕ → Type 0) where
  -- ---- truths that are the same at the atoms of a tree

  module _ (v w : ℕ → Bool) (same : (a : ℕ) → P a → v a ≡ w a) where
    mutual
      pub true_alike : (t : Tree) → EachAtom P t → true_in v t ≡ true_in w t
      true_alike always h = refl
      true_alike never h = refl
      true_alike (literal a positive) h = ap (under_sign positive) (same a h)
      true_alike (all_of ts) h = each_alike ts h
      true_alike (any_of ts) h = some_alike ts h

      each_alike : (ts : Trees) → EachAtomOf P ts → each_true v ts ≡ each_true w ts
      each_alike no_trees h = refl
      each_alike (tree t ts) h = rw (true_alike t h.0, each_alike ts h.1) refl

      some_alike : (ts : Trees) → EachAtomOf P ts → some_true v ts ≡ some_true w ts
      some_alike no_trees h = refl
      some_alike (tree t ts) h = rw (true_alike t h.0, some_alike ts h.1) refl

  -- ---- the atoms of the trees that are named

  abbrev Each : List Tree → Type 0
  Each ts = All (EachAtom P) ts

  none : Each []
  none = All-nil (EachAtom P)

  one : (t : Tree) → EachAtom P t → Each (t ∷ [])
  one t h = All-cons (EachAtom P) t [] h none

  both : (ss ts : List Tree) → Each ss → Each ts → Each (ss ++ ts)
  both ss ts h g = All-append (EachAtom P) ss ts h g

  mutual
    named_atoms : (t : Tree) → EachAtom P t → Each (named t)
    named_atoms always h = one always h
    named_atoms never h = one never h
    named_atoms (literal a sign) h = none
    named_atoms (all_of ts) h = both (named_each ts) (all_of ts ∷ []) (named_each_atoms ts h) (one (all_of ts) h)
    named_atoms (any_of ts) h = both (named_each ts) (any_of ts ∷ []) (named_each_atoms ts h) (one (any_of ts) h)

    named_each_atoms : (ts : Trees) → EachAtomOf P ts → Each (named_each ts)
    named_each_atoms no_trees h = none
    named_each_atoms (tree t ts) h = both (named t) (named_each ts) (named_atoms t h.0) (named_each_atoms ts h.1)

  mutual
    asserting_atoms : (t : Tree) → EachAtom P t → Each (named_asserting t)
    asserting_atoms always h = none
    asserting_atoms never h = none
    asserting_atoms (literal a sign) h = none
    asserting_atoms (all_of ts) h = asserting_each_atoms ts h
    asserting_atoms (any_of ts) h = named_each_atoms ts h

    asserting_each_atoms : (ts : Trees) → EachAtomOf P ts → Each (named_asserting_each ts)
    asserting_each_atoms no_trees h = none
    asserting_each_atoms (tree t ts) h = both (named_asserting t) (named_asserting_each ts) (asserting_atoms t h.0) (asserting_each_atoms ts h.1)

  defining_atoms : (t : Tree) → EachAtom P t → Each (named_defining t)
  defining_atoms always h = none
  defining_atoms never h = none
  defining_atoms (literal a sign) h = none
  defining_atoms (all_of ts) h = named_each_atoms ts h
  defining_atoms (any_of ts) h = named_each_atoms ts h

  abbrev InScope : Definition → Type 0
  InScope d = EachAtom P d.scope

  defining_each_atoms : (ds : List Definition) → All InScope ds → Each (named_defining_each ds)
  defining_each_atoms [] h = none
  defining_each_atoms (d ∷ ds) h = both (named_defining d.scope) (named_defining_each ds) (defining_atoms d.scope (All-head InScope d ds h)) (defining_each_atoms ds (All-tail InScope d ds h))

  of_trees : (ts : List Tree) → Each ts → EachAtomOf P (as_trees ts)
  of_trees [] h = tt
  of_trees (t ∷ ts) h = (All-head (EachAtom P) t ts h, of_trees ts (All-tail (EachAtom P) t ts h))

  -- the named trees have atoms of the sentences and scopes
  pub whole_atoms : (ss : List Tree) (ds : List Definition) → All (EachAtom P) ss → All (λ (d : Definition). EachAtom P d.scope) ds → All (EachAtom P) (named_whole ss ds)
  whole_atoms ss ds h g = both (named_asserting_each (as_trees ss)) (named_defining_each ds) (asserting_each_atoms (as_trees ss) (of_trees ss h)) (defining_each_atoms ds g)
