-- What each kind of slot leads to.
use Rattle.std.proofs.Common.{◌≡◌, ◌≢◌, ℕ, ◌<◌, Bool, true, false, not, List, [], ◌∷◌, ◌++◌, length, set, inl, inr, refl, sym, ap, subst, ◌∙◌, arith}
use Rattle.std.specs.Prelude.{Contains, codes}
use Rattle.std.proofs.lemmas.List.{append-nil, length-set}
use Rattle.ec_logic.specs.Narrative.{line, line_if}
use Rattle.ec_listing.specs.Reading.{IsLineText}
use Rattle.ec_listing.specs.Slots.{Slot, fixed, told, changed, silent, slot_text, told_text, truth_at, changed_text}
use Rattle.ec_listing.specs.Apart.{atoms_in, slot_atoms, IsSlotLine, AreSilent, AreReadable}
use Rattle.ec_listing.specs.Passing.{Agree, sign_of, IsLookedFor, Passes, Follows, nothing, same_line, IsReached}
use Rattle.ec_listing.proofs.TextLines.{same_lines, some_line}
use Rattle.ec_listing.proofs.Truths.{truth_set, truth_set_other, only_one, contains_none, contains_one}
use Rattle.ec_listing.proofs.SlotTexts.{IsNotAhead, SlotLines, not_ahead}
use Rattle.ec_listing.proofs.Reaching.{IsPlaced, placed, IsStep, reached_by}

-- whether a truth is this value
abbrev pub is_value : Bool → Bool → Bool
is_value true b = b
is_value false b = not b

value_is : (value b : Bool) → is_value value b ≡ true → b ≡ value
value_is true true e = refl
value_is true false e = cc
value_is false true e = cc
value_is false false e = refl

value_other : (value b : Bool) → is_value value b ≡ false → b ≡ not value
value_other true true e = cc
value_other true false e = refl
value_other false true e = refl
value_other false false e = cc

value_itself : (value : Bool) → is_value value value ≡ true
value_itself true = refl
value_itself false = refl

value_not : (value : Bool) → is_value value (not value) ≡ false
value_not true = refl
value_not false = refl

-- Where the slots before it have the truths of a row, a slot has this line exactly where its atom has this value.
pub record Offers (passed : List Slot) (row : List Bool) (slot : Slot) (left : List Slot) (k : ℕ) (value : Bool) (text : List ℕ) : Type 0 where
  pub own : atoms_in slot ≡ k ∷ []
  pub tells : (t : List Bool) → Agree (slot_atoms passed) t row → slot_text t slot ≡ line_if (is_value value (truth_at t k)) text
  pub spoken : (t : List Bool) → AreSilent t (slot ∷ [])
  pub one : IsLineText text
  pub ahead : IsNotAhead left text

agree_one : (atoms : List ℕ) (k : ℕ) (t u : List Bool) → atoms ≡ k ∷ [] → truth_at t k ≡ truth_at u k → Agree atoms t u
agree_one atoms k t u own same j c =
    let e : j ≡ k = only_one k j (subst (λ ks. Contains ks j) own c) in
    ap (truth_at t) e ∙ (same ∙ sym (ap (truth_at u) e))

offer_taken : (visible : ℕ) (passed : List Slot) (slot : Slot) (left : List Slot) (row : List Bool) (rest : List ℕ) (new : List Bool) (behind : List ℕ) (k : ℕ) (value : Bool) (text : List ℕ)
    → SlotLines left → Offers passed row slot left k value text → length new ≡ visible → Agree (slot_atoms passed) new row → truth_at new k ≡ value → rest ≡ line text ++ behind → IsStep visible passed slot left row rest new behind
offer_taken visible passed slot left row rest new behind k value text lines offers whole same at is =
    let told_new : slot_text new slot ≡ line text = offers.tells new same ∙ ap (λ b. line_if b text) (ap (is_value value) at ∙ value_itself value) in
    record {
      whole = whole;
      same = same;
      known_silent = offers.spoken new;
      is = is ∙ ap (λ x. x ++ behind) (sym told_new);
      only = λ truth tail silents follows agree tells. agree_one (atoms_in slot) k truth new offers.own (by_value truth tail agree (is_value value (truth_at truth k)) refl (tells ∙ ap (λ x. x ++ tail) told_new) ∙ sym at);
    }
  where
    by_value : (truth : List Bool) (tail : List ℕ) → Agree (slot_atoms passed) truth row → (b : Bool) → is_value value (truth_at truth k) ≡ b → slot_text truth slot ++ told_text truth left ≡ line text ++ tail → truth_at truth k ≡ value
    by_value truth tail agree true e tells = value_is value (truth_at truth k) e
    by_value truth tail agree false e tells =
        let none : slot_text truth slot ≡ [] = offers.tells truth agree ∙ ap (λ b. line_if b text) e in
        let behind_it : told_text truth left ++ [] ≡ line text ++ tail = append-nil (told_text truth left) ∙ (ap (λ x. x ++ told_text truth left) (sym none) ∙ tells) in
        absurd (not_ahead truth left [] text tail lines offers.one offers.ahead (λ others no. some_line text others (sym no)) behind_it)

offer_left : (visible : ℕ) (passed : List Slot) (slot : Slot) (left : List Slot) (row : List Bool) (rest : List ℕ) (new : List Bool) (k : ℕ) (value : Bool) (text : List ℕ)
    → Offers passed row slot left k value text → length new ≡ visible → Agree (slot_atoms passed) new row → truth_at new k ≡ not value → ((more : List ℕ) → rest ≢ line text ++ more) → IsStep visible passed slot left row rest new rest
offer_left visible passed slot left row rest new k value text offers whole same at none =
    let told_new : slot_text new slot ≡ [] = offers.tells new same ∙ ap (λ b. line_if b text) (ap (is_value value) at ∙ value_not value) in
    record {
      whole = whole;
      same = same;
      known_silent = offers.spoken new;
      is = ap (λ x. x ++ rest) (sym told_new);
      only = λ truth tail silents follows agree tells. agree_one (atoms_in slot) k truth new offers.own (by_value truth tail agree follows (is_value value (truth_at truth k)) refl (tells ∙ ap (λ x. x ++ tail) told_new) ∙ sym at);
    }
  where
    never : (truth : List Bool) (tail : List ℕ) → Follows rest tail → line text ++ told_text truth left ≡ tail → ⊥
    never truth tail (nothing e) is = some_line text (told_text truth left) (is ∙ e)
    never truth tail (same_line words more others one e f) is =
        let same_words = same_lines text words (told_text truth left) others offers.one one (is ∙ f) in
        none more (e ∙ ap (λ w. line w ++ more) (sym same_words.0))

    by_value : (truth : List Bool) (tail : List ℕ) → Agree (slot_atoms passed) truth row → Follows rest tail → (b : Bool) → is_value value (truth_at truth k) ≡ b → slot_text truth slot ++ told_text truth left ≡ tail → truth_at truth k ≡ not value
    by_value truth tail agree follows false e tells = value_other value (truth_at truth k) e
    by_value truth tail agree follows true e tells =
        let some : slot_text truth slot ≡ line text = offers.tells truth agree ∙ ap (λ b. line_if b text) e in
        absurd (never truth tail follows (ap (λ x. x ++ told_text truth left) (sym some) ∙ tells))

fixed_taken : (visible : ℕ) (passed : List Slot) (text : List ℕ) (left : List Slot) (row : List Bool) (rest behind : List ℕ) → length row ≡ visible → rest ≡ line text ++ behind → IsStep visible passed (fixed text) left row rest row behind
fixed_taken visible passed text left row rest behind whole is = record {
  whole = whole;
  same = λ k c. refl;
  known_silent = tt;
  is = is;
  only = λ truth tail silents follows agree tells k c. absurd (contains_none k c);
}

silent_passed : (visible : ℕ) (passed : List Slot) (k : ℕ) (left : List Slot) (row : List Bool) (rest : List ℕ) (new : List Bool) → length new ≡ visible → Agree (slot_atoms passed) new row → truth_at new k ≡ true → IsStep visible passed (silent k) left row rest new rest
silent_passed visible passed k left row rest new whole same at = record {
  whole = whole;
  same = same;
  known_silent = (at, tt);
  is = refl;
  only = λ truth tail silents follows agree tells. agree_one (k ∷ []) k truth new refl (silents.0 ∙ sym at);
}

-- ---- what a slot offers

told_offers : (visible : ℕ) (passed : List Slot) (k : ℕ) (text : List ℕ) (left : List Slot) (row : List Bool) → IsPlaced visible passed (told k text) left → Offers passed row (told k text) left k true text
told_offers visible passed k text left row at = record {
  own = refl;
  tells = λ t agree. refl;
  spoken = λ t. tt;
  one = at.lines.0.0.one;
  ahead = at.apart.0.0;
}

changed_offers : (visible : ℕ) (passed : List Slot) (e k : ℕ) (text : List ℕ) (left : List Slot) (row : List Bool) → IsPlaced visible passed (changed e k text) left → (b : Bool) → truth_at row e ≡ b → Offers passed row (changed e k text) left k (not b) (sign_of b ++ text)
changed_offers visible passed e k text left row at false is = record {
  own = refl;
  tells = λ t agree. ap (λ b. changed_text b (truth_at t k) text) (agree e at.earlier.0 ∙ is) ∙ from_false (truth_at t k);
  spoken = λ t. tt;
  one = at.lines.0.0.one;
  ahead = at.apart.0.0;
}
  where
    from_false : (b : Bool) → changed_text false b text ≡ line_if b (codes "+" ++ text)
    from_false true = refl
    from_false false = refl
changed_offers visible passed e k text left row at true is = record {
  own = refl;
  tells = λ t agree. ap (λ b. changed_text b (truth_at t k) text) (agree e at.earlier.0 ∙ is) ∙ from_true (truth_at t k);
  spoken = λ t. tt;
  one = at.lines.0.1.0.one;
  ahead = at.apart.0.1.0;
}
  where
    from_true : (b : Bool) → changed_text true b text ≡ line_if (not b) (codes "-" ++ text)
    from_true true = refl
    from_true false = refl

-- ---- what is reached behind a slot that is passed

module _ (visible : ℕ) (passed : List Slot) (slot : Slot) (left : List Slot) (row : List Bool) (at : IsPlaced visible passed slot left) (whole : length row ≡ visible) where
  set_agrees : (k : ℕ) (b : Bool) → Contains (atoms_in slot) k → Agree (slot_atoms passed) (set row k b) row
  set_agrees k b own j c = truth_set_other row k j b (λ e. at.fresh k own (subst (λ i. Contains (slot_atoms passed) i) e c))

  looked_for : (rest : List ℕ) (new : List Bool) (behind : List ℕ) (k : ℕ) (value : Bool) (text : List ℕ) → Offers passed row slot left k value text → IsLookedFor k value text row rest new behind → IsStep visible passed slot left row rest new behind
  looked_for rest new behind k value text offers looked = by_case looked
    where
      own : Contains (atoms_in slot) k
      own = subst (λ ks. Contains ks k) (sym offers.own) (contains_one k)

      below : k < length row
      below = omega (arith, at.within k own, whole)

      by_case : IsLookedFor k value text row rest new behind → IsStep visible passed slot left row rest new behind
      by_case (inl (is, e)) = subst (λ n. IsStep visible passed slot left row rest n behind) (sym e)
          (offer_taken visible passed slot left row rest (set row k value) behind k value text at.lines.1 offers (length-set row k value ∙ whole) (set_agrees k value own) (truth_set row k value below) is)
      by_case (inr (none, same, e)) = subst (λ n. IsStep visible passed slot left row rest n behind) (sym e) (subst (λ r. IsStep visible passed slot left row rest (set row k (not value)) r) (sym same)
          (offer_left visible passed slot left row rest (set row k (not value)) k value text offers (length-set row k (not value) ∙ whole) (set_agrees k (not value) own) (truth_set row k (not value) below) none))

pub step_of : (visible : ℕ) (passed : List Slot) (slot : Slot) (left : List Slot) (row : List Bool) (rest : List ℕ) (new : List Bool) (behind : List ℕ) → IsPlaced visible passed slot left → length row ≡ visible → Passes slot row rest new behind
    → IsStep visible passed slot left row rest new behind
step_of visible passed (fixed text) left row rest new behind at whole passes =
    subst (λ n. IsStep visible passed (fixed text) left row rest n behind) (sym passes.1) (fixed_taken visible passed text left row rest behind whole passes.0)
step_of visible passed (told k text) left row rest new behind at whole passes =
    looked_for visible passed (told k text) left row at whole rest new behind k true text (told_offers visible passed k text left row at) passes
step_of visible passed (changed e k text) left row rest new behind at whole passes =
    looked_for visible passed (changed e k text) left row at whole rest new behind k (not (truth_at row e)) (sign_of (truth_at row e) ++ text) (changed_offers visible passed e k text left row at (truth_at row e) refl) passes
step_of visible passed (silent k) left row rest new behind at whole passes =
    subst (λ n. IsStep visible passed (silent k) left row rest n behind) (sym passes.1) (subst (λ r. IsStep visible passed (silent k) left row rest (set row k true) r) (sym passes.0)
    (silent_passed visible passed k left row rest (set row k true) (length-set row k true ∙ whole) (set_agrees visible passed (silent k) left row at whole k true (contains_one k))
    (truth_set row k true (omega (arith, at.within k (contains_one k), whole)))))

pub reached_next : (visible : ℕ) (slots passed : List Slot) (slot : Slot) (left : List Slot) (row : List Bool) (bytes rest : List ℕ) (new : List Bool) (behind : List ℕ) → AreReadable visible slots
    → IsReached visible slots passed (slot ∷ left) row bytes rest → Passes slot row rest new behind → IsReached visible slots (passed ++ slot ∷ []) left new bytes behind
reached_next visible slots passed slot left row bytes rest new behind readable reached passes =
    let at = placed visible slots passed slot left readable reached.parts in
    reached_by visible slots passed slot left row bytes rest new behind at reached (step_of visible passed slot left row rest new behind at reached.whole passes)

pub reached_none : (visible : ℕ) (slots : List Slot) (row : List Bool) (bytes : List ℕ) → length row ≡ visible → IsReached visible slots [] slots row bytes bytes
reached_none visible slots row bytes whole = record {
  parts = refl;
  whole = whole;
  known_silent = tt;
  is = refl;
  only = λ truth tail suits follows is k c. absurd (contains_none k c);
}

-- ---- a truth reads its own text

-- a text that begins with no line of a slot
abbrev pub IsNoSlotLine : List ℕ → Type 0
IsNoSlotLine tail = (text more : List ℕ) → IsSlotLine text → tail ≢ line text ++ more

own_offer : (visible : ℕ) (passed : List Slot) (slot : Slot) (left : List Slot) (t : List Bool) (tail : List ℕ) (k : ℕ) (value : Bool) (text : List ℕ) → SlotLines left → Offers passed t slot left k value text → IsSlotLine text → length t ≡ visible → IsNoSlotLine tail
    → IsStep visible passed slot left t (slot_text t slot ++ (told_text t left ++ tail)) t (told_text t left ++ tail)
own_offer visible passed slot left t tail k value text lines offers line_of whole none = by_value (is_value value (truth_at t k)) refl
  where
    agrees : Agree (slot_atoms passed) t t
    agrees j c = refl

    by_value : (b : Bool) → is_value value (truth_at t k) ≡ b → IsStep visible passed slot left t (slot_text t slot ++ (told_text t left ++ tail)) t (told_text t left ++ tail)
    by_value true e = offer_taken visible passed slot left t (slot_text t slot ++ (told_text t left ++ tail)) t (told_text t left ++ tail) k value text lines offers whole agrees (value_is value (truth_at t k) e)
        (ap (λ x. x ++ (told_text t left ++ tail)) (offers.tells t agrees ∙ ap (λ b. line_if b text) e))
    by_value false e =
        let silent_here : slot_text t slot ++ (told_text t left ++ tail) ≡ told_text t left ++ tail = ap (λ x. x ++ (told_text t left ++ tail)) (offers.tells t agrees ∙ ap (λ b. line_if b text) e) in
        subst (λ r. IsStep visible passed slot left t r t (told_text t left ++ tail)) (sym silent_here)
        (offer_left visible passed slot left t (told_text t left ++ tail) t k value text offers whole agrees (value_other value (truth_at t k) e) (λ more is. not_ahead t left tail text more lines offers.one offers.ahead (λ others at. none text others line_of at) is))

pub own_step : (visible : ℕ) (passed : List Slot) (slot : Slot) (left : List Slot) (t : List Bool) (tail : List ℕ) → IsPlaced visible passed slot left → length t ≡ visible → AreSilent t (slot ∷ []) → IsNoSlotLine tail
    → IsStep visible passed slot left t (slot_text t slot ++ (told_text t left ++ tail)) t (told_text t left ++ tail)
own_step visible passed (fixed text) left t tail at whole silents none = fixed_taken visible passed text left t (line text ++ (told_text t left ++ tail)) (told_text t left ++ tail) whole refl
own_step visible passed (told k text) left t tail at whole silents none = own_offer visible passed (told k text) left t tail k true text at.lines.1 (told_offers visible passed k text left t at) at.lines.0.0 whole none
own_step visible passed (changed e k text) left t tail at whole silents none =
    own_offer visible passed (changed e k text) left t tail k (not (truth_at t e)) (sign_of (truth_at t e) ++ text) at.lines.1 (changed_offers visible passed e k text left t at (truth_at t e) refl) (by_sign (truth_at t e)) whole none
  where
    by_sign : (b : Bool) → IsSlotLine (sign_of b ++ text)
    by_sign false = at.lines.0.0
    by_sign true = at.lines.0.1.0
own_step visible passed (silent k) left t tail at whole silents none = silent_passed visible passed k left t (told_text t left ++ tail) t whole (λ j c. refl) silents.0
