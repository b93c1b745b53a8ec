use Rattle.std.proofs.Common.{◌≡◌, sym, subst, ◌∙◌, rules, arith, ℕ, List, None}
use Rattle.std.specs.String.{string_bytes}
use Rattle.ec_command.proofs.Pairs.{left_over, IsReadOnce, models_turn, conflicts_turn, models_end, conflicts_end, unknown_end}
use Rattle.ec_command.proofs.options.read_bounds.Goals as goal

pub returns-in_err-read_once-in-text-clause-is : goal.returns-in_err-read_once-in-text-clause-is
returns-in_err-read_once-in-text-clause-is c =
    let none : c.from_residual.result ≡ None = search rules in
    let once : IsReadOnce c.options.models 10000 (string_bytes c.number-item.result) c.read_once.result = subst (λ (w : List ℕ). IsReadOnce c.options.models 10000 w c.read_once.result) c.deref.ensures c.read_once.ensures.is in
    none ∙ sym (models_end string_bytes c.options.rest.now c.name-item.result c.number-item.result c.in-len2-up.len_at_least c.name-item.is c.number-item.is
    c.options.models c.options.conflicts c.read_once.result (sym c.as_str.ensures.value ∙ c.in-text.is) once c.in_err-read_once-in-text.was)
    ∙ c.options.invariant.left

pub options-preserved-in_ok-read_once-in-text : goal.options-preserved-in_ok-read_once-in-text
options-preserved-in_ok-read_once-in-text c =
    let once : IsReadOnce c.options.models 10000 (string_bytes c.number-item.result) c.read_once.result = subst (λ (w : List ℕ). IsReadOnce c.options.models 10000 w c.read_once.result) c.deref.ensures c.read_once.ensures.is in
    record {
      left = models_turn string_bytes c.options.rest.now c.name-item.result c.number-item.result c.in-len2-up.len_at_least c.name-item.is c.number-item.is
          c.options.models c.options.conflicts c.read_once.result c.in_ok-read_once-in-text.field-0 (sym c.as_str.ensures.value ∙ c.in-text.is) once c.in_ok-read_once-in-text.was ∙ c.options.invariant.left;
      models_fit = c.in_ok-read_once-in-text.ensures.within;
      conflicts_fit = c.options.invariant.conflicts_fit;
    }

pub returns-in_err-read_once-in-text-2-clause-is : goal.returns-in_err-read_once-in-text-2-clause-is
returns-in_err-read_once-in-text-2-clause-is c =
    let none : c.from_residual-in_err-read_once-in-text-2.result ≡ None = search rules in
    let once : IsReadOnce c.options.conflicts 2000000000 (string_bytes c.number-item.result) c.read_once-in-text-2.result = subst (λ (w : List ℕ). IsReadOnce c.options.conflicts 2000000000 w c.read_once-in-text-2.result) c.deref-in-text-2.ensures c.read_once-in-text-2.ensures.is in
    none ∙ sym (conflicts_end string_bytes c.options.rest.now c.name-item.result c.number-item.result c.in-len2-up.len_at_least c.name-item.is c.number-item.is
    c.options.models c.options.conflicts c.read_once-in-text-2.result (sym c.as_str.ensures.value ∙ c.in-text-2.is) once c.in_err-read_once-in-text-2.was)
    ∙ c.options.invariant.left

pub options-preserved : goal.options-preserved
options-preserved c =
    let once : IsReadOnce c.options.conflicts 2000000000 (string_bytes c.number-item.result) c.read_once-in-text-2.result = subst (λ (w : List ℕ). IsReadOnce c.options.conflicts 2000000000 w c.read_once-in-text-2.result) c.deref-in-text-2.ensures c.read_once-in-text-2.ensures.is in
    record {
      left = conflicts_turn string_bytes c.options.rest.now c.name-item.result c.number-item.result c.in-len2-up.len_at_least c.name-item.is c.number-item.is
          c.options.models c.options.conflicts c.read_once-in-text-2.result c.in_ok-read_once-in-text-2.field-0 (sym c.as_str.ensures.value ∙ c.in-text-2.is) once c.in_ok-read_once-in-text-2.was ∙ c.options.invariant.left;
      conflicts_fit = c.in_ok-read_once-in-text-2.ensures.within;
      models_fit = c.options.invariant.models_fit;
    }

pub returns-in_default-as_str-clause-is : goal.returns-in_default-as_str-clause-is
returns-in_default-as_str-clause-is c =
    sym (unknown_end string_bytes c.options.rest.now c.name-item.result c.number-item.result c.in-len2-up.len_at_least c.name-item.is c.number-item.is
    c.options.models c.options.conflicts (λ is. c.in_default-as_str.not-text (c.as_str.ensures.value ∙ is)) (λ is. c.in_default-as_str.not-text-2 (c.as_str.ensures.value ∙ is)))
    ∙ c.options.invariant.left

pub returns-then-not-is_empty-clause-is : goal.returns-then-not-is_empty-clause-is
returns-then-not-is_empty-clause-is c =
    sym (left_over string_bytes c.options.rest.now c.options.models c.options.conflicts c.in_default.len_below (grind (arith, c.is_empty.ensures, c.if-not-is_empty.true))) ∙ c.options.invariant.left
