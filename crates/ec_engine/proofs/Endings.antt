-- How a command ends once a text that is due was put, or wasn't.
use Rattle.std.proofs.Common.{◌≡◌, inl, inr, ℕ, Bool, IsTrue, List, ◌++◌, Option, Result, Ok, Err, refl, sym, ◌∙◌, subst}
use Rattle.std.specs.Prelude.{IfOk, OnOk, OnErr}
use Rattle.ec_edge.specs.Pieces.{AppendsPrefix}
use Rattle.ec_edge.specs.declared.fault.SinkFault.{SinkFault}
use Rattle.ec_edge.specs.declared.fault.SinkFault.TheVariants as sink
use Rattle.ec_syntax.specs.declared.book.Refusal.{Refusal}
use Rattle.ec_engine.specs.Answers.{end_of}
use Rattle.ec_engine.specs.Refusals.{refusal_line}
use Rattle.ec_engine.specs.Sent.{Sent, SentPart}
use Rattle.ec_engine.specs.Check.{IsCheckDue, IsCheckAnswered}
use Rattle.ec_engine.specs.List.{IsDue, IsAnswered}
use Rattle.ec_engine.specs.Show.{IsShowDue, IsShowAnswered}
use Rattle.ec_engine.specs.Solve.{IsSolveDue, IsSolveAnswered}
use Rattle.ec_engine.specs.declared.checking.CheckEnd.{CheckEnd}
use Rattle.ec_engine.specs.declared.checking.CheckEnd.TheVariants as check
use Rattle.ec_engine.specs.declared.listing.ListEnd.{ListEnd}
use Rattle.ec_engine.specs.declared.listing.ListEnd.TheVariants as list
use Rattle.ec_engine.specs.declared.showing.ShowEnd.{ShowEnd}
use Rattle.ec_engine.specs.declared.showing.ShowEnd.TheVariants as show
use Rattle.ec_engine.specs.declared.solving.SolveEnd.{SolveEnd}
use Rattle.ec_engine.specs.declared.solving.SolveEnd.TheVariants as solve
use Rattle.ec_solve.specs.declared.searching.Bounds.{Bounds}

-- the only value that a call without one can have
pub by_unit : (put : Result (Unit {0}) SinkFault) → IfOk put (λ u. u ≡ tt)
by_unit (Ok u) = refl
by_unit (Err e) = tt

-- The end is what was put, where that is what is due, or the end of the fault, which left a prefix.
ends : {T End : Type 0} (Answered : End → Type 0) (out memory : End) (made : T → End) (value : T) (told : Bool) (before after text : List ℕ) (put : Result T SinkFault)
    → IfOk put (λ t. t ≡ value) → (IsTrue told → OnOk put (after ≡ before ++ text)) → (IsTrue told → OnErr put (AppendsPrefix text before after))
    → (Sent told text before after → Answered (made value)) → (SentPart told text before after → Answered out × Answered memory) → Answered (end_of made out memory put)
ends Answered out memory made value told before after text (Ok t) same whole part due failed = subst (λ x. Answered (made x)) (sym same) (due whole)
ends Answered out memory made value told before after text (Err sink.Failed) same whole part due failed = (failed part).0
ends Answered out memory made value told before after text (Err sink.Memory) same whole part due failed = (failed part).1

-- Where the end says that a refusal's line was put, it was.
line_put : {End : Type 0} (told : Refusal → End) (out memory : End) (value r : Refusal) (before after : List ℕ) (put : Result Refusal SinkFault) → ((a : Refusal) → told a ≡ told r → a ≡ r) → (out ≡ told r → ⊥) → (memory ≡ told r → ⊥)
    → IfOk put (λ a. a ≡ value) → OnOk put (after ≡ before ++ refusal_line value) → end_of told out memory put ≡ told r → after ≡ before ++ refusal_line r
line_put told out memory value r before after (Ok a) one no_out no_memory same whole is = subst (λ x. after ≡ before ++ refusal_line x) (sym same ∙ one a is) whole
line_put told out memory value r before after (Err sink.Failed) one no_out no_memory same whole is = absurd (no_out is)
line_put told out memory value r before after (Err sink.Memory) one no_out no_memory same whole is = absurd (no_memory is)

-- ---- list

pub list_line : (value r : Refusal) (before after : List ℕ) (put : Result Refusal SinkFault) (answer : ListEnd) → answer ≡ end_of list.Refused list.Out list.Memory put → IfOk put (λ a. a ≡ value)
    → OnOk put (after ≡ before ++ refusal_line value) → answer ≡ list.Refused r → after ≡ before ++ refusal_line r
list_line value r before after put answer is same whole refused =
    line_put list.Refused list.Out list.Memory value r before after put (λ a e. cc) (λ e. cc) (λ e. cc) same whole (sym is ∙ refused)

list_whole : (held : List ℕ → Option (List ℕ)) (file : List ℕ) (told : Bool) (before after text : List ℕ) (answer : ListEnd) → IsDue held file answer text → Sent told text before after → IsAnswered held file told before after answer
list_whole held file told before after text (list.Complete count) due put = record { text = text; due = due; put = put }
list_whole held file told before after text (list.Refused r) due put = record { text = text; due = due; put = put }
list_whole held file told before after text list.Files due put = absurd due
list_whole held file told before after text list.Out due put = absurd due
list_whole held file told before after text list.Memory due put = absurd due

pub list_ends : {T : Type 0} (held : List ℕ → Option (List ℕ)) (file : List ℕ) (told : Bool) (before after text : List ℕ) (made : T → ListEnd) (value : T) (put : Result T SinkFault) → IsDue held file (made value) text
    → IfOk put (λ t. t ≡ value) → (IsTrue told → OnOk put (after ≡ before ++ text)) → (IsTrue told → OnErr put (AppendsPrefix text before after)) → IsAnswered held file told before after (end_of made list.Out list.Memory put)
list_ends held file told before after text made value put due same whole part =
    ends (IsAnswered held file told before after) list.Out list.Memory made value told before after text put same whole part (list_whole held file told before after text (made value) due)
    (λ p. (record { answer = made value; text = text; due = due; put = p }, inr (record { answer = made value; text = text; due = due; put = p })))

-- ---- show

show_whole : (held : List ℕ → Option (List ℕ)) (file : List ℕ) (told : Bool) (before after text : List ℕ) (answer : ShowEnd) → IsShowDue held file answer text → Sent told text before after → IsShowAnswered held file told before after answer
show_whole held file told before after text (show.Shown counts) due put = record { text = text; due = due; put = put }
show_whole held file told before after text (show.Refused r) due put = record { text = text; due = due; put = put }
show_whole held file told before after text show.Files due put = absurd due
show_whole held file told before after text show.Out due put = absurd due
show_whole held file told before after text show.Memory due put = absurd due

pub show_ends : {T : Type 0} (held : List ℕ → Option (List ℕ)) (file : List ℕ) (told : Bool) (before after text : List ℕ) (made : T → ShowEnd) (value : T) (put : Result T SinkFault) → IsShowDue held file (made value) text
    → IfOk put (λ t. t ≡ value) → (IsTrue told → OnOk put (after ≡ before ++ text)) → (IsTrue told → OnErr put (AppendsPrefix text before after)) → IsShowAnswered held file told before after (end_of made show.Out show.Memory put)
show_ends held file told before after text made value put due same whole part =
    ends (IsShowAnswered held file told before after) show.Out show.Memory made value told before after text put same whole part (show_whole held file told before after text (made value) due)
    (λ p. (record { answer = made value; text = text; due = due; put = p }, inr (record { answer = made value; text = text; due = due; put = p })))

-- ---- solve

pub solve_line : (value r : Refusal) (before after : List ℕ) (put : Result Refusal SinkFault) (answer : SolveEnd) → answer ≡ end_of solve.Refused solve.Out solve.Memory put → IfOk put (λ a. a ≡ value)
    → OnOk put (after ≡ before ++ refusal_line value) → answer ≡ solve.Refused r → after ≡ before ++ refusal_line r
solve_line value r before after put answer is same whole refused =
    line_put solve.Refused solve.Out solve.Memory value r before after put (λ a e. cc) (λ e. cc) (λ e. cc) same whole (sym is ∙ refused)

module _ (held : List ℕ → Option (List ℕ)) (file log : List ℕ) (bounds : Bounds) (told : Bool) (before after : List ℕ) (written : Option (List ℕ)) where
  solve_whole : (start_failed : Type 0) (text : List ℕ) (answer : SolveEnd) → IsSolveDue held file log bounds answer text written → Sent told text before after → IsSolveAnswered held file log bounds told before after written start_failed answer
  solve_whole start_failed text (solve.Done ending) due put = record { text = text; due = due; put = put }
  solve_whole start_failed text (solve.Refused r) due put = record { text = text; due = due; put = put }
  solve_whole start_failed text solve.Files due put = absurd due
  solve_whole start_failed text solve.Out due put = absurd due
  solve_whole start_failed text solve.Memory due put = absurd due

  pub solve_ends : {T : Type 0} (start_failed : Type 0) (text : List ℕ) (made : T → SolveEnd) (value : T) (put : Result T SinkFault) → IsSolveDue held file log bounds (made value) text written
      → IfOk put (λ t. t ≡ value) → (IsTrue told → OnOk put (after ≡ before ++ text)) → (IsTrue told → OnErr put (AppendsPrefix text before after))
      → IsSolveAnswered held file log bounds told before after written start_failed (end_of made solve.Out solve.Memory put)
  solve_ends start_failed text made value put due same whole part =
      ends (IsSolveAnswered held file log bounds told before after written start_failed) solve.Out solve.Memory made value told before after text put same whole part (solve_whole start_failed text (made value) due)
      (λ p. (record { answer = made value; text = text; due = due; put = p }, inr (record { answer = made value; text = text; due = due; put = p })))

  -- what tells that a start failed may be put in other words
  pub solve_weaker : (a b : Type 0) → (a → b) → (answer : SolveEnd) → IsSolveAnswered held file log bounds told before after written a answer → IsSolveAnswered held file log bounds told before after written b answer
  solve_weaker a b may (solve.Done ending) answered = answered
  solve_weaker a b may (solve.Refused r) answered = answered
  solve_weaker a b may solve.Files (inl failed) = inl (may failed.0, failed.1)
  solve_weaker a b may solve.Files (inr nothing) = inr nothing
  solve_weaker a b may solve.Out answered = answered
  solve_weaker a b may solve.Memory answered = answered

-- ---- check

pub check_line : (value r : Refusal) (before after : List ℕ) (put : Result Refusal SinkFault) (answer : CheckEnd) → answer ≡ end_of check.Refused check.Out check.Memory put → IfOk put (λ a. a ≡ value)
    → OnOk put (after ≡ before ++ refusal_line value) → answer ≡ check.Refused r → after ≡ before ++ refusal_line r
check_line value r before after put answer is same whole refused =
    line_put check.Refused check.Out check.Memory value r before after put (λ a e. cc) (λ e. cc) (λ e. cc) same whole (sym is ∙ refused)

module _ (held : List ℕ → Option (List ℕ)) (file list log : List ℕ) (told : Bool) (before after : List ℕ) where
  check_whole : (text : List ℕ) (answer : CheckEnd) → IsCheckDue held file list log answer text → Sent told text before after → IsCheckAnswered held file list log told before after answer
  check_whole text (check.Yes ending) due put = record { text = text; due = due; put = put }
  check_whole text (check.No why) due put = record { text = text; due = due; put = put }
  check_whole text (check.Refused r) due put = record { text = text; due = due; put = put }
  check_whole text check.Files due put = absurd due
  check_whole text check.Out due put = absurd due
  check_whole text check.Memory due put = absurd due

  pub check_ends : {T : Type 0} (text : List ℕ) (made : T → CheckEnd) (value : T) (put : Result T SinkFault) → IsCheckDue held file list log (made value) text
      → IfOk put (λ t. t ≡ value) → (IsTrue told → OnOk put (after ≡ before ++ text)) → (IsTrue told → OnErr put (AppendsPrefix text before after))
      → IsCheckAnswered held file list log told before after (end_of made check.Out check.Memory put)
  check_ends text made value put due same whole part =
      ends (IsCheckAnswered held file list log told before after) check.Out check.Memory made value told before after text put same whole part (check_whole text (made value) due)
      (λ p. (record { answer = made value; text = text; due = due; put = p }, inr (record { answer = made value; text = text; due = due; put = p })))
