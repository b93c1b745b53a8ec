-- What `list` is to put for what the files hold.
use Rattle.std.specs.Prelude.{ℕ, ◌≡◌, ◌≤◌, ◌<◌, Bool, codes, List, length, Option, Ok, Err, ◌⊎◌}
use Rattle.ec_logic.specs.Listing.{complete, list_text, AreTruths}
use Rattle.ec_logic.specs.Theory.{Theory}
use Rattle.ec_syntax.specs.declared.book.Refusal.{Refusal}
use Rattle.ec_load.specs.Refusals.{refused, in_file}
use Rattle.ec_accept.specs.Accepted.{IsAccepted, visible_count}
use Rattle.ec_engine.specs.Refusals.{refusal_line}
use Rattle.ec_engine.specs.Sent.{Sent, SentPart, SentNothing}
use Rattle.ec_engine.specs.declared.listing.ListEnd.{ListEnd}
use Rattle.ec_engine.specs.declared.listing.ListEnd.TheVariants as end

-- The file is accepted, and the text is the list of all truths of its theory.
pub record IsListed (held : List ℕ → Option (List ℕ)) (file : List ℕ) (count : ℕ) (text : List ℕ) : Type 0 where
  pub theory : Theory
  pub accepted : IsAccepted held file (Ok theory)
  pub few : visible_count theory ≤ 16
  pub truths : List (List Bool)
  pub all : AreTruths theory truths
  pub counted : length truths ≡ count
  pub is : text ≡ list_text theory.signature truths (complete count)

-- The refusals, in their order: the file isn't accepted, or it has too many visible atoms for each truth to be tried.
pub data IsRefused (held : List ℕ → Option (List ℕ)) (file : List ℕ) : Refusal → Type 0 where
  unaccepted : {refusal : Refusal} → IsAccepted held file (Err refusal) → IsRefused held file refusal
  many_atoms : (theory : Theory) → IsAccepted held file (Ok theory) → 16 < visible_count theory → IsRefused held file (refused 21 (in_file file 0) (codes "atoms"))

-- the text that is due with an answer
abbrev pub IsDue : (List ℕ → Option (List ℕ)) → List ℕ → ListEnd → List ℕ → Type 0
IsDue held file (end.Complete count) text = IsListed held file count text
IsDue held file (end.Refused r) text = IsRefused held file r × (text ≡ refusal_line r)
IsDue held file end.Files text = ⊥
IsDue held file end.Out text = ⊥
IsDue held file end.Memory text = ⊥

-- a prefix of a text that is due was put
pub record PutsPrefix (held : List ℕ → Option (List ℕ)) (file : List ℕ) (told : Bool) (before after : List ℕ) : Type 0 where
  pub answer : ListEnd
  pub text : List ℕ
  pub due : IsDue held file answer text
  pub put : SentPart told text before after

-- the text that is due with the answer was put
pub record PutsDue (held : List ℕ → Option (List ℕ)) (file : List ℕ) (told : Bool) (before after : List ℕ) (answer : ListEnd) : Type 0 where
  pub text : List ℕ
  pub due : IsDue held file answer text
  pub put : Sent told text before after

-- The answer that is due for what the files hold, and what was put with it where the sink tells its bytes.
abbrev pub IsAnswered : (List ℕ → Option (List ℕ)) → List ℕ → Bool → List ℕ → List ℕ → ListEnd → Type 0
IsAnswered held file told before after (end.Complete count) = PutsDue held file told before after (end.Complete count)
IsAnswered held file told before after (end.Refused r) = PutsDue held file told before after (end.Refused r)
IsAnswered held file told before after end.Files = SentNothing told before after
IsAnswered held file told before after end.Out = PutsPrefix held file told before after
IsAnswered held file told before after end.Memory = SentNothing told before after ⊎ PutsPrefix held file told before after
