-- What stands where a narrative may begin.
use Rattle.std.proofs.Common.{◌≡◌, ◌≢◌, ◌↔◌, ℕ, Bool, true, false, List, Some, None, refl, sym, ap, subst, ◌∙◌}
use Rattle.std.specs.Prelude.{IsTrue}
use Rattle.ec_clause.specs.declared.ending.Ending.{Ending}
use Rattle.ec_clause.specs.declared.ending.Ending.TheVariants.{Complete, Models, Conflicts}
use Rattle.ec_edge.specs.Lines.{cut_line}
use Rattle.ec_edge.proofs.Cuts.{cut_at-append}
use Rattle.ec_log.specs.Ending.{ending_text, IsEnding}
use Rattle.ec_logic.specs.Listing as listing
use Rattle.ec_listing.specs.Endings.{list_ending}
use Rattle.ec_listing.specs.Reading.{HasNumber, IsLast}
use Rattle.ec_listing.proofs.TextLines.{no_end, line_is}
use Rattle.ec_listing.proofs.Words.{ending_line, IsSmall, small_number, ending_injective}

abbrev pair : List ℕ → List ℕ → List ℕ × List ℕ
pair a b = (a, b)

-- a last line is the first line of its bytes
cut_last : (count : ℕ) (bytes : List ℕ) (e : listing.Ending) (rest : List ℕ) → IsLast count bytes e rest → cut_line bytes ≡ Some (pair (listing.ending_text e) rest)
cut_last count bytes e rest last =
    ap cut_line (last.is ∙ line_is (listing.ending_text e) rest) ∙ cut_at-append 10 (listing.ending_text e) rest (no_end (listing.ending_text e) (ending_line e))

pub no_cut : (count : ℕ) (bytes : List ℕ) → None ≡ cut_line bytes → (e : listing.Ending) (rest : List ℕ) → IsLast count bytes e rest → ⊥
no_cut count bytes none e rest last = let clash : None ≡ Some (pair (listing.ending_text e) rest) = none ∙ cut_last count bytes e rest last in cc

text_of_last : (count : ℕ) (bytes text behind : List ℕ) → Some (pair text behind) ≡ cut_line bytes → (e : listing.Ending) (rest : List ℕ) → IsLast count bytes e rest → text ≡ listing.ending_text e
text_of_last count bytes text behind cut e rest last =
    let same : Some (pair text behind) ≡ Some (pair (listing.ending_text e) rest) = cut ∙ cut_last count bytes e rest last in
    let parts : pair text behind ≡ pair (listing.ending_text e) rest = cc in
    ap (λ (p : List ℕ × List ℕ). p.0) parts

-- the ending in memory
record Kept (count : ℕ) (e : listing.Ending) : Type 0 where
  ending : Ending
  allowed : IsEnding ending
  text : listing.ending_text e ≡ ending_text ending

kept : (count : ℕ) (e : listing.Ending) → HasNumber count e → Kept count e
kept count (listing.complete n) h = record { ending = Complete n; allowed = h.1; text = refl }
kept count (listing.models n) h = record { ending = Models n; allowed = (h.1, h.2); text = refl }
kept count (listing.conflicts n) h = record { ending = Conflicts n; allowed = h; text = refl }

pub no_words : (count : ℕ) (bytes text behind : List ℕ) → Some (pair text behind) ≡ cut_line bytes → ((e : Ending) → IsEnding e → text ≢ ending_text e) → (e : listing.Ending) (rest : List ℕ) → IsLast count bytes e rest → ⊥
no_words count bytes text behind cut none e rest last =
    let k = kept count e last.number in
    none k.ending k.allowed (text_of_last count bytes text behind cut e rest last ∙ k.text)

small_ending : (e : Ending) → IsEnding e → IsSmall (list_ending e)
small_ending (Complete n) h = h
small_ending (Models n) h = h.1
small_ending (Conflicts n) h = h.1

list_words : (e : Ending) → ending_text e ≡ listing.ending_text (list_ending e)
list_words (Complete n) = refl
list_words (Models n) = refl
list_words (Conflicts n) = refl

pub wrong_number : (count : ℕ) (bytes text behind : List ℕ) → Some (pair text behind) ≡ cut_line bytes → (d : Ending) → IsEnding d → text ≡ ending_text d → (HasNumber count (list_ending d) → ⊥) → (e : listing.Ending) (rest : List ℕ) → IsLast count bytes e rest → ⊥
wrong_number count bytes text behind cut d allowed is wrong e rest last =
    let words : listing.ending_text e ≡ listing.ending_text (list_ending d) = sym (text_of_last count bytes text behind cut e rest last) ∙ (is ∙ list_words d) in
    let same : e ≡ list_ending d = ending_injective e (list_ending d) (small_number count e last.number) (small_ending d allowed) words in
    wrong (subst (HasNumber count) same last.number)

pub not_so : {P : Type 0} (b : Bool) → (IsTrue b ↔ P) → b ≡ false → P → ⊥
not_so true h e p = cc
not_so false h e p = let clash : false ≡ true = h.1 p in cc

pub true_and_false : (b : Bool) → b ≡ true → b ≡ false → ⊥
true_and_false b e f = let clash : true ≡ false = sym e ∙ f in cc
