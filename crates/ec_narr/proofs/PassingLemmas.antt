-- Lines and slots in memory.
use Rattle.std.proofs.Common.{◌≡◌, ◌≢◌, ℕ, ◌+◌, ◌<◌, Bool, List, [], ◌∷◌, ◌++◌, length, map, take, drop, Option, Some, None, sym, ap, subst, ◌∙◌, append_assoc, MatchOption, get_or}
use Rattle.std.proofs.lemmas.List.{append_cancel_left, drop_more, take_more, map-append}
use Rattle.ec_logic.specs.Narrative.{line}
use Rattle.ec_listing.specs.Slots.{Slot, fixed, told, changed, silent}
use Rattle.ec_listing.specs.Apart.{AreReadable}
use Rattle.ec_listing.specs.Passing.{IsWithin, Passes, Stops, IsReached, IsBroken}
use Rattle.ec_listing.proofs.TextLines.{line_is}
use Rattle.ec_listing.proofs.Reaching.{within_at}
use Rattle.ec_listing.proofs.Stepping.{reached_next}
use Rattle.ec_narr.specs.declared.slot.Slot as code
use Rattle.ec_narr.specs.Slots.{slot_view}
use denote.Ref.{Bor}

-- behind the text stands the end of its line
pub ended_behind : (bytes text behind : List ℕ) (r : Option (Bor (List ℕ))) → bytes ≡ text ++ behind → MatchOption r ((rest : List ℕ) → behind ≢ 10 ∷ rest) (λ rest. behind ≡ 10 ∷ rest.now)
    → MatchOption r ((more : List ℕ) → bytes ≢ line text ++ more) (λ rest. bytes ≡ line text ++ rest.now)
ended_behind bytes text behind None is other = λ more at. other more (append_cancel_left text behind (10 ∷ more) (sym is ∙ (at ∙ line_is text more)))
ended_behind bytes text behind (Some rest) is end = is ∙ (ap (λ x. text ++ x) end ∙ sym (line_is text rest.now))

signed_line : (sign text more : List ℕ) → line (sign ++ text) ++ more ≡ sign ++ (line text ++ more)
signed_line sign text more = line_is (sign ++ text) more ∙ (append_assoc sign text (10 ∷ more) ∙ ap (λ x. sign ++ x) (sym (line_is text more)))

pub line_behind : (bytes sign text behind : List ℕ) (r : Option (Bor (List ℕ))) → bytes ≡ sign ++ behind → MatchOption r ((more : List ℕ) → behind ≢ line text ++ more) (λ rest. behind ≡ line text ++ rest.now)
    → MatchOption r ((more : List ℕ) → bytes ≢ line (sign ++ text) ++ more) (λ rest. bytes ≡ line (sign ++ text) ++ rest.now)
line_behind bytes sign text behind None is other = λ more at. other more (append_cancel_left sign behind (line text ++ more) (sym is ∙ (at ∙ signed_line sign text more)))
line_behind bytes sign text behind (Some rest) is after = is ∙ (ap (λ x. sign ++ x) after ∙ sym (signed_line sign text rest.now))

-- ---- slots passed one by one

module _ (visible : ℕ) (xs : List code.Slot) (row : List Bool) (bytes rest : List ℕ) (i : ℕ) (x : code.Slot) (within : i < length xs) (at : x ≡ get_or xs i x) where
  left_is : map slot_view (drop i xs) ≡ slot_view x ∷ map slot_view (drop (i + 1) xs)
  left_is = ap (map slot_view) (drop_more xs i x within ∙ ap (λ y. y ∷ drop (i + 1) xs) (sym at))

  passed_is : map slot_view (take (i + 1) xs) ≡ map slot_view (take i xs) ++ slot_view x ∷ []
  passed_is = ap (map slot_view) (take_more xs i x within ∙ ap (λ y. take i xs ++ y ∷ []) (sym at)) ∙ map-append slot_view (take i xs) (x ∷ [])

  here : IsReached visible (map slot_view xs) (map slot_view (take i xs)) (map slot_view (drop i xs)) row bytes rest → IsReached visible (map slot_view xs) (map slot_view (take i xs)) (slot_view x ∷ map slot_view (drop (i + 1) xs)) row bytes rest
  here reached = subst (λ left. IsReached visible (map slot_view xs) (map slot_view (take i xs)) left row bytes rest) left_is reached

  pub slot_within : AreReadable visible (map slot_view xs) → IsReached visible (map slot_view xs) (map slot_view (take i xs)) (map slot_view (drop i xs)) row bytes rest → IsWithin (length row) (slot_view x)
  slot_within readable reached =
      subst (λ n. IsWithin n (slot_view x)) (sym reached.whole)
      (within_at visible (map slot_view xs) (map slot_view (take i xs)) (slot_view x) (map slot_view (drop (i + 1) xs)) readable (here reached).parts)

  pub slot_passed : AreReadable visible (map slot_view xs) → IsReached visible (map slot_view xs) (map slot_view (take i xs)) (map slot_view (drop i xs)) row bytes rest → (new : List Bool) (behind : List ℕ) → Passes (slot_view x) row rest new behind
      → IsReached visible (map slot_view xs) (map slot_view (take (i + 1) xs)) (map slot_view (drop (i + 1) xs)) new bytes behind
  slot_passed readable reached new behind passes =
      subst (λ passed. IsReached visible (map slot_view xs) passed (map slot_view (drop (i + 1) xs)) new bytes behind) (sym passed_is)
      (reached_next visible (map slot_view xs) (map slot_view (take i xs)) (slot_view x) (map slot_view (drop (i + 1) xs)) row bytes rest new behind readable (here reached) passes)

  pub slot_stops : IsReached visible (map slot_view xs) (map slot_view (take i xs)) (map slot_view (drop i xs)) row bytes rest → (new : List Bool) → Stops (slot_view x) rest row new → IsBroken visible (map slot_view xs) new bytes rest
  slot_stops reached new stops = by_kind (slot_view x) (here reached) stops
    where
      by_kind : (slot : Slot) → IsReached visible (map slot_view xs) (map slot_view (take i xs)) (slot ∷ map slot_view (drop (i + 1) xs)) row bytes rest → Stops slot rest row new → IsBroken visible (map slot_view xs) new bytes rest
      by_kind (fixed text) reached stops = record {
        passed = map slot_view (take i xs);
        text = text;
        left = map slot_view (drop (i + 1) xs);
        reached = subst (λ r. IsReached visible (map slot_view xs) (map slot_view (take i xs)) (fixed text ∷ map slot_view (drop (i + 1) xs)) r bytes rest) (sym stops.1) reached;
        other = stops.0;
      }
      by_kind (told k text) reached stops = absurd stops
      by_kind (changed e k text) reached stops = absurd stops
      by_kind (silent k) reached stops = absurd stops
