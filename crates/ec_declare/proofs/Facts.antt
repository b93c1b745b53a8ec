-- What is known of each declaration where none has a fault.
use Rattle.std.proofs.Common.{◌≡◌, ℕ, ℤ, Bool, true, false, true≢false, not, ◌&&◌, ◌||◌, List, [], ◌∷◌, map, Option, Some, None, refl, sym, ap}
use Rattle.std.specs.Prelude.{is_none}
use Rattle.std.specs.List.{list_all}
use Rattle.ec_syntax.specs.Written as w
use Rattle.ec_syntax.specs.declared.statement.SortItem.{SortItem}
use Rattle.ec_names.specs.Names.{Names, Role, constant_role, event_role, fluent_role, predicate_role, SortEntry, SymbolEntry, RangeEntry, constant_entry, is_integer_sort, is_own_ancestor, is_ranged, is_reified_sort, item_entry, joined, placed_content, range_entry, ranges_in, shape_entry, sorts_in, symbols_in, word_time}
use Rattle.ec_declare.specs.declared.fault.Fault.{Fault}
use Rattle.ec_declare.specs.declared.fault.Code.TheVariants.{UnknownSort, OtherMeaning, NoRange, Misfit}
use Rattle.ec_declare.specs.Faults.{argument_fault, constant_sort_fault, declaration_fault, declared_sort_fault, differs, first_fault, fits_sort, is_known, is_plain_sort, is_small_range, parent_fault, range_fault, refused_if, refuses_reified, same_range, same_sort, shape_fault, sort_item_fault, symbol_fault, time_fault}
use Rattle.ec_names.specs.Names.{range_named, sort_entry, sort_named}
use Rattle.ec_declare.proofs.Deciding.{all-faultless, all-joined, all-map, and-first, and-true, neither-first, neither-last, not-false, or-last, passed, past}

-- ---- the tests

abbrev pub parent_ok : Names → Option (List ℕ) → Bool
parent_ok names None = true
parent_ok names (Some parent) = is_known names parent && not (is_reified_sort parent)

abbrev pub sort_ok : Names → SortEntry → Bool
sort_ok names entry = not (is_own_ancestor names entry.name) && parent_ok names entry.parent

abbrev pub argument_ok : Names → Role → List ℕ → Bool
argument_ok names role sort = is_known names sort && (is_ranged names sort && not (refuses_reified role && is_reified_sort sort))

abbrev pub only_ok : Names → List (List ℕ) → Bool
only_ok names [] = false
only_ok names (sort ∷ []) = is_known names sort && is_plain_sort names sort
only_ok names (sort ∷ (other ∷ sorts)) = false

abbrev pub sorts_ok : Names → Role → List (List ℕ) → Bool
sorts_ok names constant_role sorts = only_ok names sorts
sorts_ok names event_role sorts = is_ranged names word_time && list_all (argument_ok names event_role) sorts
sorts_ok names fluent_role sorts = is_ranged names word_time && list_all (argument_ok names fluent_role) sorts
sorts_ok names predicate_role sorts = list_all (argument_ok names predicate_role) sorts

abbrev pub symbol_ok : Names → SymbolEntry → Bool
symbol_ok names entry = sorts_ok names entry.role entry.sorts

abbrev pub range_ok : Names → RangeEntry → Bool
range_ok names range = is_small_range range.low range.high && is_integer_sort names range.sort

-- ---- without a fault they pass

parent-sound : (names : Names) (parent : Option (List ℕ)) → parent_fault names parent ≡ None → parent_ok names parent ≡ true
parent-sound names None h = refl
parent-sound names (Some p) h =
    let reified = refused_if (is_reified_sort p) Misfit p None in
    and-true (is_known names p) (not (is_reified_sort p)) (not-false (is_known names p) (passed (not (is_known names p)) UnknownSort p reified h))
    (ap not (passed (is_reified_sort p) Misfit p None (past (not (is_known names p)) UnknownSort p reified h)))

sort-sound : (names : Names) (item : SortItem) → sort_item_fault names item ≡ None → sort_ok names (item_entry item) ≡ true
sort-sound names item h =
    let differs = differs same_sort (sort_entry item.name item.parent) (sort_named names item.name) in
    let own = or-last differs (is_own_ancestor names item.name) (passed (differs || is_own_ancestor names item.name) OtherMeaning item.name None (neither-first (declared_sort_fault names item) (parent_fault names item.parent) h)) in
    and-true (not (is_own_ancestor names item.name)) (parent_ok names item.parent) (ap not own) (parent-sound names item.parent (neither-last (declared_sort_fault names item) (parent_fault names item.parent) h))

argument-sound : (names : Names) (role : Role) (sort : List ℕ) → argument_fault names role sort ≡ None → argument_ok names role sort ≡ true
argument-sound names role sort h =
    let reified = refused_if (refuses_reified role && is_reified_sort sort) Misfit sort None in
    let unranged = refused_if (not (is_ranged names sort)) NoRange sort reified in
    let known = not-false (is_known names sort) (passed (not (is_known names sort)) UnknownSort sort unranged h) in
    let later = past (not (is_known names sort)) UnknownSort sort unranged h in
    let ranged = not-false (is_ranged names sort) (passed (not (is_ranged names sort)) NoRange sort reified later) in
    let fits = ap not (passed (refuses_reified role && is_reified_sort sort) Misfit sort None (past (not (is_ranged names sort)) NoRange sort reified later)) in
    and-true (is_known names sort) (is_ranged names sort && not (refuses_reified role && is_reified_sort sort)) known (and-true (is_ranged names sort) (not (refuses_reified role && is_reified_sort sort)) ranged fits)

constant-sound : (names : Names) (sort : List ℕ) → constant_sort_fault names sort ≡ None → only_ok names (sort ∷ []) ≡ true
constant-sound names sort h =
    let plain = refused_if (not (is_plain_sort names sort)) Misfit sort None in
    and-true (is_known names sort) (is_plain_sort names sort) (not-false (is_known names sort) (passed (not (is_known names sort)) UnknownSort sort plain h))
    (not-false (is_plain_sort names sort) (passed (not (is_plain_sort names sort)) Misfit sort None (past (not (is_known names sort)) UnknownSort sort plain h)))

time-sound : (names : Names) → time_fault names ≡ None → is_ranged names word_time ≡ true
time-sound names h = not-false (is_ranged names word_time) (passed (not (is_ranged names word_time)) NoRange word_time None h)

arguments-sound : (names : Names) (role : Role) (shape : w.Shape) → shape_fault names role shape ≡ None → list_all (argument_ok names role) shape.sorts ≡ true
arguments-sound names role shape h =
    all-faultless (argument_fault names role) (argument_ok names role) (argument-sound names role) shape.sorts
    (neither-last (symbol_fault names (shape_entry role shape)) (first_fault (argument_fault names role) shape.sorts) h)

range-sound : (names : Names) (sort : List ℕ) (low high : ℤ) → range_fault names sort low high ≡ None → range_ok names (range_entry sort low high) ≡ true
range-sound names sort low high h =
    let integer = refused_if (not (is_integer_sort names sort)) Misfit sort None in
    let small = is_small_range low high && fits_sort sort low high in
    let large = refused_if (not small) NoRange sort integer in
    let other = differs same_range (range_entry sort low high) (range_named names sort) in
    let second = refused_if other OtherMeaning sort large in
    let a = past (not (is_known names sort)) UnknownSort sort second h in
    let b = past other OtherMeaning sort large a in
    let c = not-false small (passed (not small) NoRange sort integer b) in
    let d = not-false (is_integer_sort names sort) (passed (not (is_integer_sort names sort)) Misfit sort None (past (not small) NoRange sort integer b)) in
    and-true (is_small_range low high) (is_integer_sort names sort) (and-first (is_small_range low high) (fits_sort sort low high) c) d

-- ---- statements

is-none : (fault : Option Fault) → is_none fault ≡ true → fault ≡ None
is-none None h = refl
is-none (Some f) h = absurd (true≢false (sym h))

pub sorts-sound : (names : Names) (c : w.Content) → declaration_fault names c ≡ None → list_all (sort_ok names) (sorts_in c) ≡ true
sorts-sound names (w.sorts items) h = all-map (sort_ok names) item_entry items (all-faultless (sort_item_fault names) (λ item. sort_ok names (item_entry item)) (sort-sound names) items h)
sorts-sound names (w.reified sort) h = refl
sorts-sound names (w.constants sort constants) h = refl
sorts-sound names (w.events shapes) h = refl
sorts-sound names (w.fluents shapes) h = refl
sorts-sound names (w.predicates shapes) h = refl
sorts-sound names (w.noninertial symbols) h = refl
sorts-sound names (w.range sort low high) h = refl
sorts-sound names (w.load file) h = refl
sorts-sound names (w.choice name on) h = refl
sorts-sound names w.ignored h = refl
sorts-sound names (w.completion label predicate) h = refl
sorts-sound names (w.left_out word) h = refl
sorts-sound names (w.sentence label f) h = refl

all-same : (b : Bool) (xs : List (List ℕ)) → b ≡ true → list_all (λ x. b) xs ≡ true
all-same b [] h = refl
all-same b (x ∷ xs) h = and-true b (list_all (λ x. b) xs) h (all-same b xs h)

shapes-sound : (names : Names) (role : Role) (shapes : List w.Shape) → ((shape : w.Shape) → shape_fault names role shape ≡ None → symbol_ok names (shape_entry role shape) ≡ true) → first_fault (shape_fault names role) shapes ≡ None
    → list_all (symbol_ok names) (map (shape_entry role) shapes) ≡ true
shapes-sound names role shapes each h = all-map (symbol_ok names) (shape_entry role) shapes (all-faultless (shape_fault names role) (λ shape. symbol_ok names (shape_entry role shape)) each shapes h)

pub symbols-sound : (names : Names) (c : w.Content) → declaration_fault names c ≡ None → list_all (symbol_ok names) (symbols_in c) ≡ true
symbols-sound names (w.sorts items) h = refl
symbols-sound names (w.reified sort) h = refl
symbols-sound names (w.constants sort constants) h =
    let only = constant-sound names sort (neither-first (constant_sort_fault names sort) (first_fault (λ name. symbol_fault names (constant_entry sort name)) constants) h) in
    all-map (symbol_ok names) (constant_entry sort) constants (all-same (only_ok names (sort ∷ [])) constants only)
symbols-sound names (w.events shapes) h =
    let time = time-sound names (neither-first (time_fault names) (first_fault (shape_fault names event_role) shapes) h) in
    shapes-sound names event_role shapes (λ shape none. and-true (is_ranged names word_time) (list_all (argument_ok names event_role) shape.sorts) time (arguments-sound names event_role shape none)) (neither-last (time_fault names) (first_fault (shape_fault names event_role) shapes) h)
symbols-sound names (w.fluents shapes) h =
    let time = time-sound names (neither-first (time_fault names) (first_fault (shape_fault names fluent_role) shapes) h) in
    shapes-sound names fluent_role shapes (λ shape none. and-true (is_ranged names word_time) (list_all (argument_ok names fluent_role) shape.sorts) time (arguments-sound names fluent_role shape none)) (neither-last (time_fault names) (first_fault (shape_fault names fluent_role) shapes) h)
symbols-sound names (w.predicates shapes) h = shapes-sound names predicate_role shapes (λ shape none. arguments-sound names predicate_role shape none) h
symbols-sound names (w.noninertial symbols) h = refl
symbols-sound names (w.range sort low high) h = refl
symbols-sound names (w.load file) h = refl
symbols-sound names (w.choice name on) h = refl
symbols-sound names w.ignored h = refl
symbols-sound names (w.completion label predicate) h = refl
symbols-sound names (w.left_out word) h = refl
symbols-sound names (w.sentence label f) h = refl

pub ranges-sound : (names : Names) (c : w.Content) → declaration_fault names c ≡ None → list_all (range_ok names) (ranges_in c) ≡ true
ranges-sound names (w.sorts items) h = refl
ranges-sound names (w.reified sort) h = refl
ranges-sound names (w.constants sort constants) h = refl
ranges-sound names (w.events shapes) h = refl
ranges-sound names (w.fluents shapes) h = refl
ranges-sound names (w.predicates shapes) h = refl
ranges-sound names (w.noninertial symbols) h = refl
ranges-sound names (w.range sort low high) h = and-true (range_ok names (range_entry sort low high)) true (range-sound names sort low high h) refl
ranges-sound names (w.load file) h = refl
ranges-sound names (w.choice name on) h = refl
ranges-sound names w.ignored h = refl
ranges-sound names (w.completion label predicate) h = refl
ranges-sound names (w.left_out word) h = refl
ranges-sound names (w.sentence label f) h = refl

-- what each statement's parts pass where no statement has a fault, all parts pass
pub all-sound : {X : Type 0} (names : Names) (p : X → Bool) (says : w.Content → List X) → ((c : w.Content) → declaration_fault names c ≡ None → list_all p (says c) ≡ true)
    → (ps : List w.Placed) → first_fault (λ placed. declaration_fault names (placed_content placed)) ps ≡ None → list_all p (joined says ps) ≡ true
all-sound names p says each ps h =
    all-joined p says (λ c. is_none (declaration_fault names c)) (λ c none. each c (is-none (declaration_fault names c) none)) ps
    (all-faultless (λ placed. declaration_fault names (placed_content placed)) (λ placed. is_none (declaration_fault names (placed_content placed))) (λ placed none. ap is_none none) ps h)
