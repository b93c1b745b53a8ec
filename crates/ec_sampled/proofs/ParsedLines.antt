-- What each line of the sample spells.
use Rattle.std.proofs.Common.{◌≡◌, ℕ, ◌<◌, ◌≤◌, ◌+◌, pos, List, [], ◌∷◌, ◌++◌, refl, subst, sym, arith, codes, None}
use Rattle.ec_lex.specs.declared.token.Kind.TheVariants as kind
use Rattle.ec_syntax.specs.declared.tree.Op.TheVariants as op
use Rattle.ec_syntax.specs.Written.{Term, Terms, no_terms, term, Formula, Content}
use Rattle.ec_syntax.specs.Written as w
use Rattle.ec_parse.specs.Mark.{Mark, mark_by, marks}
use Rattle.ec_parse.specs.Mark as m
use Rattle.ec_parse.specs.Terms.{IsTerm, products, factors, digits, variable_alone, no_factor, no_product, plus}
use Rattle.ec_parse.specs.Lists.{parted, no_more, one_more}
use Rattle.ec_parse.specs.Lists as list
use Rattle.ec_parse.specs.Lines.{IsLine, IsShape, full, child, sorts, events, fluents, range, positive}
use Rattle.ec_parse.specs.Formulas.{IsFormula, IsUnary, comparison, compares, atomic}
use Rattle.ec_parse.specs.Statements.{IsSentence, unlabelled}
use Rattle.std.specs.Fmt.{decimal}
use Rattle.ec_sampled.proofs.ParsedNumbers.{number_mark}
use Rattle.ec_sampled.specs.Tokens.{for_step, for_step_and_time, sort_tokens, steps_tokens, times_tokens, fluent_tokens, event_tokens, effect_tokens, start_tokens, once_tokens, order_tokens, single_tokens, end_tokens}
use Rattle.ec_sampled.specs.Book.{step, time, first_event, second_event, the_step, the_time, do_of, done_of, each_step, each_step_and_time, of_a_step, sort_said, steps_said, times_said, fluent_said, event_said, effect, start, once, order, single, end}
use Rattle.ec_sampled.proofs.ParsedPieces.{marked, open_mark, close_mark, step_marks, variable_term, number_term, name_term, one_argument, three_arguments, of_step_term, atom_unary, alone_conjunction, alone_formula, implies_formula, both_conjunction, not_unary, happens_unary, done_unary, every_formula, step_parted, step_and_time_parted}

-- ---- what is declared

pub sort_line : IsLine (marks sort_tokens) sort_said
sort_line = sorts (parted child no_more)

-- `range sort low high`, by the marks of the numbers
range_line : (sort : List ℕ) (low high : ℕ) (x y : Mark) → x ≡ m.number low → y ≡ m.number high → IsLine (mark_by kind.Lower (codes "range") ∷ m.lower sort ∷ x ∷ y ∷ []) (w.range sort (pos low) (pos high))
range_line sort low high x y e f =
    subst (λ a. IsLine (mark_by kind.Lower (codes "range") ∷ m.lower sort ∷ a ∷ y ∷ []) (w.range sort (pos low) (pos high))) (sym e)
    (subst (λ b. IsLine (mark_by kind.Lower (codes "range") ∷ m.lower sort ∷ m.number low ∷ b ∷ []) (w.range sort (pos low) (pos high))) (sym f) (range positive positive))

pub steps_line : (n : ℕ) → n ≤ 1000000000 → IsLine (marks (steps_tokens n)) (steps_said n)
steps_line n few = range_line step 1 n _ _ (number_mark 1 (omega arith)) (number_mark n few)

pub times_line : (n : ℕ) → n < 1000000000 → IsLine (marks (times_tokens n)) (times_said n)
times_line n few = range_line time 0 (n + 1) _ _ (number_mark 0 (omega arith)) (number_mark (n + 1) (omega arith))

step_shape : (name : List ℕ) → IsShape (step_marks name []) (of_a_step name) []
step_shape name = full (step_parted _)

pub fluent_line : IsLine (marks fluent_tokens) fluent_said
fluent_line = fluents (parted (step_shape (codes "Done")) no_more)

pub event_line : IsLine (marks event_tokens) event_said
event_line = events (parted (step_shape (codes "Do")) no_more)

-- ---- what is said of it

abbrev stop_mark : Mark
stop_mark = marked (codes ".")

-- `[step]` and `[step,time]`, before a formula and a stop
each_step_sentence : (a : Formula) (ms : List Mark) → IsFormula ms a (stop_mark ∷ []) → IsSentence (marks (for_step 0) ++ ms) (w.sentence None (each_step a))
each_step_sentence a ms d = unlabelled (every_formula (step ∷ []) a _ ms (stop_mark ∷ []) (step_parted _) d (omega arith))

each_step_and_time_sentence : (a : Formula) (ms : List Mark) → IsFormula ms a (stop_mark ∷ []) → IsSentence (marks (for_step_and_time 0) ++ ms) (w.sentence None (each_step_and_time a))
each_step_and_time_sentence a ms d = unlabelled (every_formula (step ∷ time ∷ []) a _ ms (stop_mark ∷ []) (step_and_time_parted _) d (omega arith))

pub effect_sentence : IsSentence (marks effect_tokens) (w.sentence None effect)
effect_sentence =
    each_step_and_time_sentence _ _ (alone_formula _ _ _ (atom_unary (codes "Initiates") _ _ _
    (three_arguments (do_of the_step) (done_of the_step) the_time _ _ _ _ (of_step_term (codes "Do") _) (of_step_term (codes "Done") _) (variable_term time _)) refl))

-- a number's mark
number_at : (n : ℕ) → n ≤ 1000000000 → (behind : List Mark) → IsTerm (mark_by kind.Number (decimal n) ∷ behind) (w.number n) behind
number_at n few behind = subst (λ x. IsTerm (x ∷ behind) (w.number n) behind) (sym (number_mark n few)) (number_term n behind)

pub start_sentence : IsSentence (marks start_tokens) (w.sentence None start)
start_sentence = each_step_sentence _ _ (alone_formula _ _ _ (not_unary _ _ _ (done_unary (w.number 0) _ _ (number_at 0 (omega arith)) refl)))

pub once_sentence : IsSentence (marks once_tokens) (w.sentence None once)
once_sentence =
    each_step_and_time_sentence _ _ (implies_formula _ _ _ _ _ (alone_conjunction _ _ _ (happens_unary (do_of the_step) _ _ (of_step_term (codes "Do") _) refl))
    (not_unary _ _ _ (done_unary the_time _ _ (variable_term time) refl)))

-- `step+1`
next_term : (behind : List Mark) → IsTerm (m.lower step ∷ marked (codes "+") ∷ mark_by kind.Number (decimal 1) ∷ behind) (w.sum the_step (w.number 1)) behind
next_term behind =
    subst (λ x. IsTerm (m.lower step ∷ marked (codes "+") ∷ x ∷ behind) (w.sum the_step (w.number 1)) behind) (sym (number_mark 1 (omega arith)))
    (products (factors (variable_alone refl) no_factor) (plus (factors digits no_factor) no_product))

do_next_term : (rest : List Mark) → IsTerm (m.upper (codes "Do") ∷ open_mark ∷ m.lower step ∷ marked (codes "+") ∷ mark_by kind.Number (decimal 1) ∷ close_mark ∷ rest) (do_of (w.sum the_step (w.number 1))) rest
do_next_term rest = name_term (codes "Do") _ _ rest (one_argument (w.sum the_step (w.number 1)) _ rest (next_term _))

pub order_sentence : IsSentence (marks order_tokens) (w.sentence None order)
order_sentence =
    each_step_and_time_sentence _ _ (implies_formula _ _ _ _ _ (alone_conjunction _ _ _ (happens_unary (do_of (w.sum the_step (w.number 1))) _ _ (do_next_term _) refl))
    (done_unary the_time _ _ (variable_term time) refl))

same_unary : IsUnary (m.lower first_event ∷ marked (codes "=") ∷ m.lower second_event ∷ stop_mark ∷ []) (w.compare op.Equal (w.variable first_event) (w.variable second_event)) (stop_mark ∷ [])
same_unary = atomic (compares (comparison refl (variable_term first_event _) refl (variable_term second_event _) refl))

pub single_sentence : IsSentence (marks single_tokens) (w.sentence None single)
single_sentence = unlabelled (every_formula (first_event ∷ second_event ∷ time ∷ []) _ _ _ (stop_mark ∷ [])
    (parted (list.variable refl) (one_more (list.variable refl) (one_more (list.variable refl) no_more)))
    (implies_formula _ _ _ _ _ (both_conjunction _ _ _ _ _ (happens_unary (w.variable first_event) _ _ (variable_term first_event _) refl) (happens_unary (w.variable second_event) _ _ (variable_term second_event _) refl)) same_unary)
    (omega arith))

pub end_sentence : (n : ℕ) → n < 1000000000 → IsSentence (marks (end_tokens n)) (w.sentence None (end n))
end_sentence n few = each_step_sentence _ _ (alone_formula _ _ _ (done_unary (w.number (n + 1)) _ _ (number_at (n + 1) (omega arith)) refl))
