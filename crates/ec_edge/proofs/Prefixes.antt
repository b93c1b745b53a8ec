-- A prefix of a piece that was added, and what was added before it: a prefix of the whole.
use Rattle.std.proofs.Common.{◌≡◌, ℕ, List, [], ◌++◌, Option, Some, None, Err, refl, sym, ap, ◌∙◌, append_assoc, ◌/◌, length, drop}
use Rattle.std.proofs.lemmas.List.{append-nil, take-append-drop}
use Rattle.std.specs.Prelude.{IsErrOf}
use Rattle.ec_edge.specs.Memory.{first_half}
use Rattle.ec_edge.specs.Pieces.{appended, AppendsPrefix, AppendsHeldPrefix}
use Rattle.ec_edge.specs.declared.fault.SinkFault.{SinkFault}
use Rattle.ec_edge.specs.declared.fault.SinkFault.TheVariants as sink
use Rattle.ec_edge.specs.declared.fault.FileFault.{FileFault}
use Rattle.ec_edge.specs.declared.fault.FileFault.TheVariants as file

-- nothing is a prefix of each piece
pub AppendsPrefix-none : (piece old : List ℕ) → AppendsPrefix piece old old
AppendsPrefix-none piece old = ([], piece, refl, sym (append-nil old))

-- a refused put has added a prefix of its piece
pub AppendsPrefix-put : (e : SinkFault) (piece old new : List ℕ) → (IsErrOf {T = Unit {0}} (Err e) sink.Failed → AppendsPrefix piece old new) → (IsErrOf {T = Unit {0}} (Err e) sink.Memory → new ≡ old) → AppendsPrefix piece old new
AppendsPrefix-put sink.Failed piece old new failed memory = failed refl
AppendsPrefix-put sink.Memory piece old new failed memory = ([], piece, refl, memory refl ∙ sym (append-nil old))

-- what was sent before, and then a prefix of the next piece
pub AppendsPrefix-after : (text start sent piece after old new : List ℕ) → AppendsPrefix piece old new → old ≡ start ++ sent → text ≡ sent ++ (piece ++ after) → AppendsPrefix text start new
AppendsPrefix-after text start sent piece after old new p before all = (
  sent ++ p.0,
  p.1 ++ after,
  all ∙ ap (λ (x : List ℕ). sent ++ (x ++ after)) p.2 ∙ ap (λ (x : List ℕ). sent ++ x) (append_assoc p.0 p.1 after) ∙ sym (append_assoc sent p.0 (p.1 ++ after)),
  p.3 ∙ ap (λ (x : List ℕ). x ++ p.0) before ∙ append_assoc start sent p.0,
)

-- a piece is its first half and what follows it
pub rest_of_half : (piece half : List ℕ) → half ≡ first_half piece → piece ≡ half ++ drop (length piece / 2) piece
rest_of_half piece half is = rw is (sym (take-append-drop (length piece / 2) piece))

-- adding nothing
pub appended-none : (held : Option (List ℕ)) → appended held [] ≡ held
appended-none None = refl
appended-none (Some bytes) = ap (λ (x : List ℕ). Some x) (append-nil bytes)

-- adding one piece and then another
pub appended-append : (held : Option (List ℕ)) (a b : List ℕ) → appended (appended held a) b ≡ appended held (a ++ b)
appended-append None a b = refl
appended-append (Some bytes) a b = ap (λ (x : List ℕ). Some x) (append_assoc bytes a b)

-- a refused append has added a prefix of its piece
pub AppendsHeldPrefix-append : (e : FileFault) (piece : List ℕ) (old new : Option (List ℕ)) → (IsErrOf {T = Unit {0}} (Err e) file.Absent → ⊥) → (IsErrOf {T = Unit {0}} (Err e) file.Failed → AppendsHeldPrefix piece old new) → (IsErrOf {T = Unit {0}} (Err e) file.Memory → new ≡ old) → AppendsHeldPrefix piece old new
AppendsHeldPrefix-append file.Absent piece old new absent failed memory = absurd (absent refl)
AppendsHeldPrefix-append file.Failed piece old new absent failed memory = failed refl
AppendsHeldPrefix-append file.Memory piece old new absent failed memory = ([], piece, refl, memory refl ∙ sym (appended-none old))

-- what was added before, and then a prefix of the next piece
pub AppendsHeldPrefix-after : (text sent piece after : List ℕ) (start old new : Option (List ℕ)) → AppendsHeldPrefix piece old new → old ≡ appended start sent → text ≡ sent ++ (piece ++ after) → AppendsHeldPrefix text start new
AppendsHeldPrefix-after text sent piece after start old new p before all = (
  sent ++ p.0,
  p.1 ++ after,
  all ∙ ap (λ (x : List ℕ). sent ++ (x ++ after)) p.2 ∙ ap (λ (x : List ℕ). sent ++ x) (append_assoc p.0 p.1 after) ∙ sym (append_assoc sent p.0 (p.1 ++ after)),
  p.3 ∙ ap (λ (x : Option (List ℕ)). appended x p.0) before ∙ appended-append start sent p.0,
)
