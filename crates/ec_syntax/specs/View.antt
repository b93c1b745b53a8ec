-- What the types of the crate stand for.
use Rattle.std.specs.Prelude.{List, [], ◌∷◌, map}
use Rattle.ec_syntax.specs.Written as w
use Rattle.ec_syntax.specs.Written.{Term, Terms, no_terms, term, Formula, Formulas, no_formulas, formula}
use Rattle.ec_syntax.specs.declared.tree.Arg.{Arg, fold-Arg}
use Rattle.ec_syntax.specs.declared.tree.Arg.TheOpen.{Arg-F}
use Rattle.ec_syntax.specs.declared.tree.Tree.{Tree, fold-Tree}
use Rattle.ec_syntax.specs.declared.tree.Tree.TheOpen.{Tree-F}
use Rattle.ec_syntax.specs.declared.statement.Shape.{Shape}
use Rattle.ec_syntax.specs.declared.statement.Content.{Content}
use Rattle.ec_syntax.specs.declared.statement.Content.TheVariants as c
use Rattle.ec_syntax.specs.declared.statement.Statement.{Statement}
use Rattle.ec_syntax.specs.declared.book.Placed.{Placed}
use Rattle.ec_syntax.specs.declared.book.Book.{Book}

-- a list of terms
abbrev pub listed_terms : List Term → Terms
listed_terms [] = no_terms
listed_terms (t ∷ ts) = term t (listed_terms ts)

-- one level of a term, with each part already seen as its term
abbrev pub term_step : Arg-F Term → Term
term_step (Arg-F.Name n args) = w.name n (listed_terms args.items)
term_step (Arg-F.Variable n) = w.variable n
term_step (Arg-F.Number n) = w.number n
term_step (Arg-F.Sum a b) = w.sum a.value b.value
term_step (Arg-F.Difference a b) = w.difference a.value b.value
term_step (Arg-F.Product a b) = w.product a.value b.value
term_step (Arg-F.Negative a) = w.negative a.value

-- the term that an `Arg` stands for
abbrev pub term_of : Arg → Term
term_of = fold-Arg Term term_step

abbrev pub terms_of : List Arg → Terms
terms_of args = listed_terms (map term_of args)

-- a list of formulas
abbrev pub listed_formulas : List Formula → Formulas
listed_formulas [] = no_formulas
listed_formulas (t ∷ ts) = formula t (listed_formulas ts)

-- one level of a formula, with each part already seen as its formula
abbrev pub formula_step : Tree-F Formula → Formula
formula_step (Tree-F.Atom n args) = w.atom n (terms_of args.items)
formula_step (Tree-F.Compare op a b) = w.compare op (term_of a) (term_of b)
formula_step (Tree-F.Not a) = w.not a.value
formula_step (Tree-F.And ts) = w.and (listed_formulas ts.items)
formula_step (Tree-F.Or ts) = w.or (listed_formulas ts.items)
formula_step (Tree-F.Implies a b) = w.implies a.value b.value
formula_step (Tree-F.Iff a b) = w.iff a.value b.value
formula_step (Tree-F.ForAll names a) = w.for_all names.items a.value
formula_step (Tree-F.Exists names a) = w.exists names.items a.value

-- the formula that a `Tree` stands for
abbrev pub formula_of : Tree → Formula
formula_of = fold-Tree Formula formula_step

abbrev pub formulas_of : List Tree → Formulas
formulas_of ts = listed_formulas (map formula_of ts)

abbrev pub shape_of : Shape → w.Shape
shape_of s = record { name = s.name; sorts = s.sorts.items }

-- what a `Content` says
abbrev pub content_of : Content → w.Content
content_of (c.Sorts items) = w.sorts items.items
content_of (c.Reified sort) = w.reified sort
content_of (c.Constants sort names) = w.constants sort names.items
content_of (c.Events shapes) = w.events (map shape_of shapes.items)
content_of (c.Fluents shapes) = w.fluents (map shape_of shapes.items)
content_of (c.Predicates shapes) = w.predicates (map shape_of shapes.items)
content_of (c.Noninertial names) = w.noninertial names.items
content_of (c.Range sort low high) = w.range sort low high
content_of (c.Load text) = w.load text
content_of (c.Choice name on) = w.choice name on
content_of c.Ignored = w.ignored
content_of (c.Completion label predicate) = w.completion label predicate
content_of (c.LeftOut word) = w.left_out word
content_of (c.Sentence label tree) = w.sentence label (formula_of tree)

abbrev pub statement_of : Statement → w.Statement
statement_of s = record { line = s.line; content = content_of s.content }

abbrev pub placed_of : Placed → w.Placed
placed_of p = record { file = p.file; statement = statement_of p.statement }

-- a book as plain data
abbrev pub book_of : Book → w.Book
book_of b = record { files = b.files.items; statements = map placed_of b.statements.items }
