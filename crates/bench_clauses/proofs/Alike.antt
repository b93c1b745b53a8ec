-- A theory of sentences that are all alike is one that a clause list can be made of.
use Rattle.std.proofs.Common.{◌≡◌, ℕ, zero, suc, ◌+◌, ◌*◌, ◌≤◌, ◌<◌, ◌^◌, true, List, [], ◌∷◌, ◌++◌, length, map, All, refl, sym, ap, ◌∙◌, arith, subst, append_assoc}
use Rattle.std.proofs.lemmas.List.{map-append}
use Rattle.std.specs.Prelude.{Contains}
use Rattle.std.specs.List.Sorted.{IsStrictlyIncreasing}
use Rattle.std.proofs.lemmas.List.Elements.{All-nil, All-cons}
use Rattle.ec_folding.specs.Tree.{Tree, literal, as_trees, EachAtom, nodes, nodes_of}
use Rattle.ec_folding.specs.Constants.{is_constant_at_top_only}
use Rattle.ec_prop.specs.declared.ground.Defined.{Defined}
use Rattle.ec_prop.specs.declared.ground.Grounded.{Grounded}
use Rattle.ec_prop.specs.declared.tree.Prop.{Prop}
use Rattle.ec_prop.specs.Prop.{tree_of, trees_of}
use Rattle.ec_prop.specs.Grounded.{IsGrounded, defined_atoms_of}
use Rattle.bench_clauses.specs.Alike.{repeated, sentence_tree}

-- ---- a tree so many times

pub repeated-push : (n : ℕ) (t : Tree) → repeated n t ++ t ∷ [] ≡ repeated (suc n) t
repeated-push zero t = refl
repeated-push (suc n) t = ap (λ (ts : List Tree). t ∷ ts) (repeated-push n t)

all_repeated : (P : Tree → Type 0) (n : ℕ) (t : Tree) → P t → All P (repeated n t)
all_repeated P zero t h = All-nil P
all_repeated P (suc n) t h = All-cons P t (repeated n t) h (all_repeated P n t h)

nodes_repeated : (n : ℕ) → nodes_of (as_trees (repeated n sentence_tree)) ≡ 16 * n
nodes_repeated zero = refl
nodes_repeated (suc n) = omega (arith, nodes_repeated n)

pushed_once : (front : List Tree) (n : ℕ) (t : Tree) (parts more : List Prop) (x : Prop) → trees_of parts ≡ front ++ repeated n t → more ≡ parts ++ x ∷ [] → tree_of x ≡ t → trees_of more ≡ front ++ repeated (suc n) t
pushed_once front n t parts more x is grown last =
    ap (λ (ps : List Prop). trees_of ps) grown ∙ map-append tree_of parts (x ∷ []) ∙ ap (λ (ts : List Tree). ts ++ tree_of x ∷ []) is ∙ ap (λ (u : Tree). (front ++ repeated n t) ++ u ∷ []) last ∙ append_assoc front (repeated n t) (t ∷ []) ∙ ap (λ (ts : List Tree). front ++ ts) (repeated-push n t)

pub pushed : (front : List Tree) (n m : ℕ) (t : Tree) (parts more : List Prop) (x : Prop) → m ≡ suc n → trees_of parts ≡ front ++ repeated n t → more ≡ parts ++ x ∷ [] → tree_of x ≡ t → trees_of more ≡ front ++ repeated m t
pushed front n m t parts more x next is grown last = subst (λ (k : ℕ). trees_of more ≡ front ++ repeated k t) (sym next) (pushed_once front n t parts more x is grown last)

-- ---- three atoms

abbrev three : List ℕ
three = 0 ∷ 1 ∷ 2 ∷ []

rises : IsStrictlyIncreasing three
rises zero l = omega arith
rises (suc zero) l = omega arith
rises (suc (suc k)) l = absurd (omega arith)

has_zero : Contains three 0
has_zero = (0, omega arith, refl)

has_one : Contains three 1
has_one = (1, omega arith, refl)

has_two : Contains three 2
has_two = (2, omega arith, refl)

visible : (a : ℕ) → a < 3 → Contains three a
visible zero l = has_zero
visible (suc zero) l = has_one
visible (suc (suc zero)) l = has_two
visible (suc (suc (suc a))) l = absurd (omega arith)

atoms : EachAtom (Contains three) sentence_tree
atoms = search (has_zero, has_one, has_two)

-- no further atom has a variable
abbrev IsDefinedIn : List ℕ → ℕ → Type 0
IsDefinedIn atoms a = 3 ≤ a → Contains atoms a

others_defined_in : (atoms : List ℕ) → All (IsDefinedIn atoms) three
others_defined_in atoms =
    All-cons (IsDefinedIn atoms) 0 (1 ∷ 2 ∷ []) (λ l. absurd (omega arith)) (All-cons (IsDefinedIn atoms) 1 (2 ∷ []) (λ l. absurd (omega arith)) (All-cons (IsDefinedIn atoms) 2 [] (λ l. absurd (omega arith)) (All-nil (IsDefinedIn atoms))))

-- ---- the theory

pub grounded : (g : Grounded) (count : ℕ) → count ≤ 1000000 → trees_of g.sentences.items ≡ repeated count sentence_tree → g.definitions.items ≡ [] → g.variables.items ≡ three → IsGrounded g 3
grounded g count few sentences none is = record {
  rises = subst IsStrictlyIncreasing (sym is) rises;
  visible_atoms = λ a l. subst (λ (vs : List ℕ). Contains vs a) (sym is) (visible a l);
  sentence_atoms = rw (sentences, is) (all_repeated (EachAtom (Contains three)) count sentence_tree atoms);
  scope_atoms = rw none (All-nil _);
  defined_atoms = rw none (All-nil _);
  others_defined = rw is (others_defined_in (defined_atoms_of g));
  sentence_constants = rw sentences (all_repeated (λ t. is_constant_at_top_only t ≡ true) count sentence_tree refl);
  scope_constants = rw none (All-nil _);
  few_nodes = rw (sentences, none) (omega (arith, nodes_repeated count));
  few_visible = omega arith;
}
