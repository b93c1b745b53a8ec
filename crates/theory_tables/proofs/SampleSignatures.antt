-- The signatures of the tables are ones that a file can declare.
use Rattle.std.proofs.Common.{◌≡◌, ℤ, Bool, true, false, ◌&&◌, Some, refl}
use Rattle.ec_logic.specs.Valid.{IsSignature, is_range}
use Rattle.theory_tables.specs.Samples.{small, wide, listed, ranged}
use Rattle.theory_tables.proofs.SignatureTest.{Passes, signature_by_test}

small_passes : (manual : Bool) → Passes (small manual)
small_passes manual = record {
  parents = refl;
  constants = refl;
  events = refl;
  fluents = refl;
  predicates = refl;
  no_parent_cycle = refl;
  integer_kinds = refl;
  event_kinds = refl;
  fluent_kinds = refl;
  reified_no_parent = refl;
  integer_ranges = refl;
  small_ranges = refl;
  plain_constants = refl;
  unreified_event_arguments = refl;
  unreified_fluent_arguments = refl;
  event_ranges = refl;
  fluent_ranges = refl;
  predicate_ranges = refl;
  time_range = refl;
  inertial_events = refl;
  inertial_predicates = refl;
  upper_names = refl;
  distinct_names = refl;
  few_sorts = refl;
  few_constants = refl;
  few_events = refl;
  few_fluents = refl;
  few_predicates = refl;
  event_sorts = refl;
  fluent_sorts = refl;
  predicate_sorts = refl;
}

pub small_is_signature : (manual : Bool) → IsSignature (small manual)
small_is_signature manual = signature_by_test (small manual) (small_passes manual) (record { sorts = refl; predicates = refl })

wide_passes : Passes wide
wide_passes = record {
  parents = refl;
  constants = refl;
  events = refl;
  fluents = refl;
  predicates = refl;
  no_parent_cycle = refl;
  integer_kinds = refl;
  event_kinds = refl;
  fluent_kinds = refl;
  reified_no_parent = refl;
  integer_ranges = refl;
  small_ranges = refl;
  plain_constants = refl;
  unreified_event_arguments = refl;
  unreified_fluent_arguments = refl;
  event_ranges = refl;
  fluent_ranges = refl;
  predicate_ranges = refl;
  time_range = refl;
  inertial_events = refl;
  inertial_predicates = refl;
  upper_names = refl;
  distinct_names = refl;
  few_sorts = refl;
  few_constants = refl;
  few_events = refl;
  few_fluents = refl;
  few_predicates = refl;
  event_sorts = refl;
  fluent_sorts = refl;
  predicate_sorts = refl;
}

pub wide_is_signature : IsSignature wide
wide_is_signature = signature_by_test wide wide_passes (record { sorts = refl; predicates = refl })

listed_passes : Passes listed
listed_passes = record {
  parents = refl;
  constants = refl;
  events = refl;
  fluents = refl;
  predicates = refl;
  no_parent_cycle = refl;
  integer_kinds = refl;
  event_kinds = refl;
  fluent_kinds = refl;
  reified_no_parent = refl;
  integer_ranges = refl;
  small_ranges = refl;
  plain_constants = refl;
  unreified_event_arguments = refl;
  unreified_fluent_arguments = refl;
  event_ranges = refl;
  fluent_ranges = refl;
  predicate_ranges = refl;
  time_range = refl;
  inertial_events = refl;
  inertial_predicates = refl;
  upper_names = refl;
  distinct_names = refl;
  few_sorts = refl;
  few_constants = refl;
  few_events = refl;
  few_fluents = refl;
  few_predicates = refl;
  event_sorts = refl;
  fluent_sorts = refl;
  predicate_sorts = refl;
}

pub listed_is_signature : IsSignature listed
listed_is_signature = signature_by_test listed listed_passes (record { sorts = refl; predicates = refl })

and_true : (b : Bool) → b ≡ true → (b && true) ≡ true
and_true true h = refl
and_true false h = cc

ranged_passes : (range : ℤ × ℤ) → is_range (Some range) ≡ true → Passes (ranged range)
ranged_passes range h = record {
  parents = refl;
  constants = refl;
  events = refl;
  fluents = refl;
  predicates = refl;
  no_parent_cycle = refl;
  integer_kinds = refl;
  event_kinds = refl;
  fluent_kinds = refl;
  reified_no_parent = refl;
  integer_ranges = refl;
  small_ranges = and_true (is_range (Some range)) h;
  plain_constants = refl;
  unreified_event_arguments = refl;
  unreified_fluent_arguments = refl;
  event_ranges = refl;
  fluent_ranges = refl;
  predicate_ranges = refl;
  time_range = refl;
  inertial_events = refl;
  inertial_predicates = refl;
  upper_names = refl;
  distinct_names = refl;
  few_sorts = refl;
  few_constants = refl;
  few_events = refl;
  few_fluents = refl;
  few_predicates = refl;
  event_sorts = refl;
  fluent_sorts = refl;
  predicate_sorts = refl;
}

pub ranged_is_signature : (range : ℤ × ℤ) → is_range (Some range) ≡ true → IsSignature (ranged range)
ranged_is_signature range h = signature_by_test (ranged range) (ranged_passes range h) (record { sorts = refl; predicates = refl })
