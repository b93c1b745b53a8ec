-- Narratives read by their slots: the longest front, and the one truth that a whole narrative tells.
use Rattle.std.proofs.Common.{◌≡◌, ◌≢◌, ℕ, Bool, List, [], ◌∷◌, ◌++◌, length, refl, sym, ap, subst, ◌∙◌, append_assoc}
use Rattle.std.proofs.lemmas.List.{append-nil, append_cancel_left}
use Rattle.ec_logic.specs.Signature.{Signature}
use Rattle.ec_logic.specs.Universe.{universe_of}
use Rattle.ec_logic.specs.Atom.{visible_atoms}
use Rattle.ec_logic.specs.Narrative.{line}
use Rattle.ec_listing.specs.Slots.{Slot, fixed, slots_of, told_text}
use Rattle.ec_listing.specs.Apart.{AreReadable, IsToldBySlots}
use Rattle.ec_listing.specs.Reading.{IsFitting, narrative_of, model_text, IsBegun, AreLines, IsLongest, IsWhole}
use Rattle.ec_listing.specs.Passing.{Suits, IsReached, IsBroken}
use Rattle.ec_listing.proofs.TextLines.{first_line_of, line_text, same_lines, some_line, lines_behind}
use Rattle.ec_listing.proofs.SlotTexts.{told_lines}
use Rattle.ec_listing.proofs.Reached.{row_suits, no_more, one_truth, own_reached}
use Rattle.ec_listing.proofs.Filling.{goes_on_so, broken_off, not_over}
use Rattle.ec_listing.proofs.Stepping.{IsNoSlotLine}
use Rattle.ec_listing.proofs.Words.{model_line}

module _ (signature : Signature) (told : IsToldBySlots signature) where
  abbrev pub visible : ℕ
  visible = length (visible_atoms (universe_of signature))

  abbrev pub slots : List Slot
  slots = slots_of signature

  abbrev pub readable : AreReadable visible slots
  readable = told.readable

  pub suits_of : (t : List Bool) → IsFitting signature t → Suits visible slots t
  suits_of t fits = let h = (told.fits t).0 fits in record { whole = h.0; silent = h.1 }

  pub fits_of : (t : List Bool) → Suits visible slots t → IsFitting signature t
  fits_of t suits = (told.fits t).1 (suits.whole, suits.silent)

  -- the narratives of different truths are different texts
  pub one_narrative : (m n : ℕ) (t u : List Bool) → IsFitting signature t → IsFitting signature u → narrative_of signature m t ≡ narrative_of signature n u → t ≡ u
  one_narrative m n t u fits fits' is =
      let same = same_lines (model_text m) (model_text n) (told_text t slots) (told_text u slots) (model_line m) (model_line n) (sym (told.tells t m) ∙ (is ∙ told.tells u n)) in
      one_truth visible slots readable t u (suits_of t fits) (suits_of u fits') same.1

  -- ---- what a front begins with

  pub some_narrative : (n : ℕ) (t : List Bool) → narrative_of signature n t ≢ []
  some_narrative n t is = some_line (model_text n) (told_text t slots) (sym (told.tells t n) ∙ is)

  pub front_begins : (n : ℕ) (front : List ℕ) → AreLines front → front ≢ [] → IsBegun signature n front → (more : List ℕ) × (front ≡ line (model_text n) ++ more)
  front_begins n front lines some begun =
      let first = first_line_of front lines some in
      let both : line first.text ++ (first.more ++ begun.rest) ≡ line (model_text n) ++ told_text begun.truth slots =
      sym (append_assoc (line first.text) first.more begun.rest) ∙ (ap (λ x. x ++ begun.rest) (sym first.is) ∙ (sym begun.is ∙ told.tells begun.truth n)) in
      let same = same_lines (first.text) (model_text n) (first.more ++ begun.rest) (told_text begun.truth slots) (line_text first.text first.one) (model_line n) both in
      (first.more, first.is ∙ ap (λ t. line t ++ first.more) same.0)

  pub bytes_begin : (n : ℕ) (bytes front rest : List ℕ) → front ≢ [] → IsLongest signature n bytes front rest → (more : List ℕ) × (bytes ≡ line (model_text n) ++ more)
  bytes_begin n bytes front rest some longest =
      let begins = front_begins n front longest.lines some longest.begun in
      (begins.0 ++ rest, longest.parts ∙ (ap (λ x. x ++ rest) begins.1 ∙ append_assoc (line (model_text n)) begins.0 rest))

  -- ---- what is read by the slots

  -- a longer front is told by a truth with the next line
  longer_told : (n : ℕ) (row : List Bool) (front text more : List ℕ) (begun : IsBegun signature n (line (model_text n) ++ front ++ line text)) → told_text begun.truth slots ≡ front ++ (line text ++ begun.rest)
  longer_told n row front text more begun =
      append_cancel_left (line (model_text n)) (told_text begun.truth slots) (front ++ (line text ++ begun.rest))
      (sym (told.tells begun.truth n) ∙ (begun.is ∙ (append_assoc (line (model_text n) ++ front) (line text) begun.rest ∙ append_assoc (line (model_text n)) front (line text ++ begun.rest))))

  pub reached_whole : (n : ℕ) (row : List Bool) (bytes rest : List ℕ) → IsReached visible slots slots [] row bytes rest → IsWhole signature n (line (model_text n) ++ bytes) (narrative_of signature n row) rest row
  reached_whole n row bytes rest reached =
      let fits : IsFitting signature row = fits_of row (row_suits visible slots row bytes rest reached) in
      let is : narrative_of signature n row ≡ line (model_text n) ++ told_text row slots = told.tells row n in
      record {
        longest = record {
          parts = ap (λ x. line (model_text n) ++ x) reached.is ∙ (sym (append_assoc (line (model_text n)) (told_text row slots) rest) ∙ ap (λ x. x ++ rest) (sym is));
          lines = subst AreLines (sym is) (lines_behind (model_text n) (told_text row slots) (told_lines row slots));
          begun = record { truth = row; fits = fits; rest = []; is = sym (append-nil (narrative_of signature n row)) };
          longest = λ text more one next begun.
              let begun' : IsBegun signature n (line (model_text n) ++ told_text row slots ++ line text) = subst (λ f. IsBegun signature n (f ++ line text)) is begun in
              no_more visible slots row bytes rest readable reached begun'.truth text more begun'.rest (suits_of begun'.truth begun'.fits) one next (longer_told n row (told_text row slots) text more begun');
        };
        fits = fits;
        is = refl;
      }

  -- A narrative that no truth goes on with.
  pub record BreaksOff (n : ℕ) (bytes rest : List ℕ) : Type 0 where
    pub front : List ℕ
    pub longest : IsLongest signature n bytes front rest
    pub some : front ≢ []
    pub not_whole : (truth : List Bool) → IsFitting signature truth → front ≢ narrative_of signature n truth

  pub broken_off_so : (n : ℕ) (row : List Bool) (bytes rest : List ℕ) → IsBroken visible slots row bytes rest → BreaksOff n (line (model_text n) ++ bytes) rest
  broken_off_so n row bytes rest broken =
      let front : List ℕ = line (model_text n) ++ told_text row broken.passed in
      let on = goes_on_so visible slots broken.passed (fixed broken.text ∷ broken.left) row bytes rest readable broken.reached in
      record {
        front = front;
        longest = record {
          parts = ap (λ x. line (model_text n) ++ x) broken.reached.is ∙ sym (append_assoc (line (model_text n)) (told_text row broken.passed) rest);
          lines = lines_behind (model_text n) (told_text row broken.passed) (told_lines row broken.passed);
          begun = record {
            truth = on.truth;
            fits = fits_of on.truth on.suits;
            rest = on.more;
            is = told.tells on.truth n ∙ (ap (λ x. line (model_text n) ++ x) on.is ∙ sym (append_assoc (line (model_text n)) (told_text row broken.passed) on.more));
          };
          longest = λ text more one next begun.
              broken_off visible slots row bytes rest readable broken begun.truth text more begun.rest (suits_of begun.truth begun.fits) one next (longer_told n row (told_text row broken.passed) text more begun);
        };
        some = some_line (model_text n) (told_text row broken.passed);
        not_whole = λ truth fits is. not_over visible slots row bytes rest readable broken truth (suits_of truth fits)
            (append_cancel_left (line (model_text n)) (told_text truth slots) (told_text row broken.passed) (sym (told.tells truth n) ∙ sym is));
      }

  -- a narrative that is followed by no line of a slot
  pub narrative_whole : (n : ℕ) (t : List Bool) (tail : List ℕ) → IsFitting signature t → IsNoSlotLine tail → IsWhole signature n (narrative_of signature n t ++ tail) (narrative_of signature n t) tail t
  narrative_whole n t tail fits none =
      let whole = reached_whole n t (told_text t slots ++ tail) tail (own_reached visible slots readable t tail (suits_of t fits) none) in
      subst (λ bytes. IsWhole signature n bytes (narrative_of signature n t) tail t) (sym (append_assoc (line (model_text n)) (told_text t slots) tail) ∙ ap (λ x. x ++ tail) (sym (told.tells t n))) whole
