use Rattle.std.proofs.Common.{◌≡◌, ℕ, List, Option, Some, None, ◌+◌, ◌<◌, drop, map, length, get_or, refl, ap, ◌∙◌, subst, arith, slice_get, unwrap_or, []}
use Rattle.ec_syntax.specs.View.{placed_of, content_of}
use Rattle.ec_syntax.specs.declared.book.Placed.{Placed}
use Rattle.ec_syntax.specs.declared.book.Refusal.{Refusal}
use Rattle.ec_sort.specs.Books.{file_of, labelled_tree, sentences_in, sentences_of, wanted_in, wanted_of}
use Rattle.ec_sort.specs.Answers.{IsTaken}
use Rattle.ec_sort.proofs.GatherLemmas.{rest_at, file_within, refused_here, none_here, moved}
use Rattle.ec_sort.proofs.gathering.gather.Goals as goal

pub file_at-file-requires : goal.file_at-file-requires
file_at-file-requires c =
    let xs = c.args.book.now.statements.items in
    let n = c.loop-placed.placed-index in
    let x = c.placed-item.result in
    let within : n < length xs = omega (arith, ap length c.deref-placed-items.ensures.value) in
    let is : x ≡ get_or xs n x = c.placed-item.is ∙ ap (λ (ps : List Placed). get_or ps n x) c.deref-placed-items.ensures.value in
    omega (arith, file_within (length c.args.book.now.files.items) xs n x within is c.requires, ap length c.deref.ensures.value)

pub returns-in-Some : goal.returns-in-Some
returns-in-Some c =
    let names = c.args.names.now in
    let files = c.args.book.now.files.items in
    let xs = c.args.book.now.statements.items in
    let n = c.loop-placed.placed-index in
    let x = c.placed-item.result in
    let within : n < length xs = omega (arith, ap length c.deref-placed-items.ensures.value) in
    let is : x ≡ get_or xs n x = c.placed-item.is ∙ ap (λ (ps : List Placed). get_or ps n x) c.deref-placed-items.ensures.value in
    let file : c.file_at-file.result.now ≡ file_of files (placed_of x) =
    c.file_at-file.ensures ∙ ap (λ (ws : List (List ℕ)). unwrap_or (slice_get ws x.file) []) c.deref.ensures.value in
    let P : List ℕ → Option Refusal → Type 0 = λ f o. IsTaken names f x.statement.line (content_of x.statement.content) c.loop-placed.gathered c.take.new.gathered o in
    let taken : P (file_of files (placed_of x)) (Some c.in-Some.refusal) =
    subst (λ f. P f (Some c.in-Some.refusal)) file (subst (P c.file_at-file.result.now) c.in-Some.is c.in_ok-refusal.ensures) in
    refused_here names files (map placed_of xs) (map placed_of (drop n xs)) (map placed_of (drop (n + 1) xs)) (placed_of x) c.in-Some.refusal
    c.loop-placed.invariant.refusal (rest_at xs n x within is) taken

pub loop-placed-preserved : goal.loop-placed-preserved
loop-placed-preserved c =
    let names = c.args.names.now in
    let files = c.args.book.now.files.items in
    let xs = c.args.book.now.statements.items in
    let n = c.loop-placed.placed-index in
    let x = c.placed-item.result in
    let within : n < length xs = omega (arith, ap length c.deref-placed-items.ensures.value) in
    let is : x ≡ get_or xs n x = c.placed-item.is ∙ ap (λ (ps : List Placed). get_or ps n x) c.deref-placed-items.ensures.value in
    let file : c.file_at-file.result.now ≡ file_of files (placed_of x) =
    c.file_at-file.ensures ∙ ap (λ (ws : List (List ℕ)). unwrap_or (slice_get ws x.file) []) c.deref.ensures.value in
    let P : List ℕ → Option Refusal → Type 0 = λ f o. IsTaken names f x.statement.line (content_of x.statement.content) c.loop-placed.gathered c.take.new.gathered o in
    let taken : P (file_of files (placed_of x)) None = subst (λ f. P f None) file (subst (P c.file_at-file.result.now) c.in_default.is c.in_ok-refusal.ensures) in
    let all = map placed_of xs in
    let rest = map placed_of (drop n xs) in
    let later = map placed_of (drop (n + 1) xs) in
    let here = rest_at xs n x within is in
    record {
      refusal = none_here names files all rest later (placed_of x) c.loop-placed.invariant.refusal here taken.0;
      labelled = moved (sentences_of names files) (sentences_in names (file_of files (placed_of x)) x.statement.line (content_of x.statement.content))
          (map labelled_tree c.loop-placed.gathered.labelled.items) (map labelled_tree c.take.new.gathered.labelled.items) all rest later (placed_of x) c.loop-placed.invariant.labelled here refl taken.1;
      wanted = moved (wanted_of files) (wanted_in (file_of files (placed_of x)) x.statement.line (content_of x.statement.content))
          c.loop-placed.gathered.wanted.items c.take.new.gathered.wanted.items all rest later (placed_of x) c.loop-placed.invariant.wanted here refl taken.2;
    }
