-- What terms and formulas stand for, constructor by constructor.
use Rattle.std.proofs.Common.{◌≡◌, ℕ, List, Box, Vec, Global, rules}
use Rattle.ec_syntax.specs.Written as w
use Rattle.ec_syntax.specs.View.{term_of, terms_of}
use Rattle.ec_syntax.specs.declared.tree.Arg.{Arg, Name, Sum, Difference, Product, Negative, the_lemmas}

pub term_of-Name : (n : List ℕ) (args : Vec Arg Global) → term_of (Name n args) ≡ w.name n (terms_of args.items)
term_of-Name n args = search (rules, the_lemmas)

pub term_of-Sum : (a b : Box Arg Global) → term_of (Sum a b) ≡ w.sum (term_of a.value) (term_of b.value)
term_of-Sum a b = search (rules, the_lemmas)

pub term_of-Difference : (a b : Box Arg Global) → term_of (Difference a b) ≡ w.difference (term_of a.value) (term_of b.value)
term_of-Difference a b = search (rules, the_lemmas)

pub term_of-Product : (a b : Box Arg Global) → term_of (Product a b) ≡ w.product (term_of a.value) (term_of b.value)
term_of-Product a b = search (rules, the_lemmas)

pub term_of-Negative : (a : Box Arg Global) → term_of (Negative a) ≡ w.negative (term_of a.value)
term_of-Negative a = search (rules, the_lemmas)
