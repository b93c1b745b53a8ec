-- A refusal that was made is the answer that is due.
use Rattle.std.proofs.Common.{◌≡◌, ◌≢◌, ℕ, ◌≤◌, Result, Err, sym, arith, subst}
use Rattle.ec_edge.specs.Causes.{Rose}
use Rattle.ec_syntax.specs.declared.book.Refusal.{Refusal}
use Rattle.ec_load.specs.declared.fault.LoadFault.{LoadFault}
use Rattle.ec_load.specs.declared.fault.LoadFault.TheVariants.{Refused, Files, Memory}
use Rattle.ec_load.specs.Answers.{Answers, Refuses, IsOfText, IsCaused}

pub answers_refused : {A X : Type 0} (view : A → X) (rule : Result X Refusal → Type 0) (refusal : Refusal) (e : LoadFault) → Refuses refusal e → rule (Err refusal) → Answers view rule (Err e)
answers_refused view rule refusal (Refused r) is due = subst (λ (r : Refusal). rule (Err r)) (sym is) due
answers_refused view rule refusal Files is due = tt
answers_refused view rule refusal Memory is due = tt

pub text_refused : (refusal : Refusal) (e : LoadFault) → Refuses refusal e → refusal.code ≢ 1 → IsOfText e
text_refused refusal (Refused r) is other = subst (λ (r : Refusal). r.code ≢ 1) (sym is) other
text_refused refusal Files is other = is
text_refused refusal Memory is other = tt

pub caused_refused : (faults faults_now absences absences_now : ℕ) (refusal : Refusal) (e : LoadFault) → Refuses refusal e → (refusal.code ≡ 1 → Rose absences absences_now) → IsCaused faults faults_now absences absences_now e
caused_refused a b c d refusal (Refused r) is rose = subst (λ (r : Refusal). r.code ≡ 1 → Rose c d) (sym is) rose
caused_refused a b c d refusal Files is rose = absurd is
caused_refused a b c d refusal Memory is rose = tt

pub caused_text : (faults faults_now absences absences_now : ℕ) (e : LoadFault) → IsOfText e → IsCaused faults faults_now absences absences_now e
caused_text a b c d (Refused r) other = λ is. absurd (other is)
caused_text a b c d Files is = absurd is
caused_text a b c d Memory is = tt

rose_wider : (before old new after : ℕ) → before ≤ old → new ≤ after → Rose old new → Rose before after
rose_wider before old new after l m rose = λ low. omega (arith, rose (omega arith))

-- a cause within a call is one of the whole
pub caused_wider : (faults f g faults_now absences a b absences_now : ℕ) → faults ≤ f → g ≤ faults_now → absences ≤ a → b ≤ absences_now → (e : LoadFault) → IsCaused f g a b e → IsCaused faults faults_now absences absences_now e
caused_wider faults f g faults_now absences a b absences_now k l m n (Refused r) cause = λ is. rose_wider absences a b absences_now m n (cause is)
caused_wider faults f g faults_now absences a b absences_now k l m n Files cause = rose_wider faults f g faults_now k l cause
caused_wider faults f g faults_now absences a b absences_now k l m n Memory cause = tt
