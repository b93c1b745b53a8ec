-- Truths filled in, definition by definition.
use Rattle.std.proofs.Common.{◌≡◌, ◌≢◌, ℕ, zero, suc, ◌+◌, ◌<◌, ◌≤◌, Bool, false, List, [], ◌∷◌, length, map, take, get_or, set, All, ap, sym, ◌∙◌, subst, arith}
use Rattle.std.proofs.lemmas.List.{get_or-map, length-map, get_or-set_same, get_or-set_other, length-set, length-take-le, get_or-take, get_or_default}
use Rattle.std.proofs.lemmas.List.Elements.{All-more}
use Rattle.ec_folding.specs.Tree.{true_in}
use Rattle.ec_folding.specs.Definition.{Definition}
use Rattle.ec_prop.specs.Prop.{truth_of}
use Rattle.ec_audit.specs.Fillable.{Rises, ReadsVisible, AreFillable, IsFilled}

-- the first definitions are filled in, and the visible atoms are as they were
pub record AreFilled (visible : ℕ) (ds : List Definition) (old now : List Bool) (i : ℕ) : Type 0 where
  pub size : length now ≡ length old
  pub same : (a : ℕ) → a < visible → truth_of now a ≡ truth_of old a
  pub filled : AreFillable visible ds → All (IsFilled visible (truth_of now)) (take i ds)

-- what is said of each image of a list is said of the image of each item
pub image_at : {A B : Type 0} (P : B → Type 0) (f : A → B) (xs : List A) (i : ℕ) (x : A) → All P (map f xs) → i < length xs → x ≡ get_or xs i x → P (f x)
image_at P f xs i x h l is = subst P (get_or-map f xs i x (f x) l ∙ ap f (sym is)) (h i (f x) (omega (arith, l, length-map xs f)))

pub image_is : {A B : Type 0} (f : A → B) (xs : List A) (i : ℕ) (x : A) → i < length xs → x ≡ get_or xs i x → f x ≡ get_or (map f xs) i (f x)
image_is f xs i x l is = ap f is ∙ sym (get_or-map f xs i x (f x) l)

above : (low : ℕ) (ds : List Definition) (k : ℕ) (d : Definition) → Rises low ds → k < length ds → low ≤ (get_or ds k d).atom
above low [] k d h l = absurd (omega (arith, l))
above low (x ∷ xs) zero d h l = h.0
above low (x ∷ xs) (suc k) d h l = let rest = above (suc x.atom) xs k d h.1 (omega (arith, l)) in let first = h.0 in omega (arith, rest, first)

rising : (low : ℕ) (ds : List Definition) (j k : ℕ) (d : Definition) → Rises low ds → j < k → k < length ds → (get_or ds j d).atom < (get_or ds k d).atom
rising low [] j k d h jk l = absurd (omega (arith, l))
rising low (x ∷ xs) j zero d h jk l = absurd (omega (arith, jk))
rising low (x ∷ xs) zero (suc k) d h jk l = above (suc x.atom) xs k d h.1 (omega (arith, l))
rising low (x ∷ xs) (suc j) (suc k) d h jk l = rising (suc x.atom) xs j k d h.1 (omega (arith, jk)) (omega (arith, l))

-- a definition of a visible atom is passed over
pub passed_more : (visible : ℕ) (ds : List Definition) (old now : List Bool) (i : ℕ) (d : Definition) → AreFilled visible ds old now i → i < length ds → d ≡ get_or ds i d → d.atom < visible → AreFilled visible ds old now (i + 1)
passed_more visible ds old now i d f l is low = record {
  size = f.size;
  same = f.same;
  filled = λ can. All-more (IsFilled visible (truth_of now)) ds i d l (f.filled can) (subst (IsFilled visible (truth_of now)) is (λ far. absurd (omega (arith, low, far))));
}

-- another atom gets the truth of its tree
module _ (visible : ℕ) (ds : List Definition) (old now : List Bool) (i : ℕ) (d : Definition) (f : AreFilled visible ds old now i) (l : i < length ds) (is : d ≡ get_or ds i d) (far : visible ≤ d.atom) (within : d.atom < length now) where
  abbrev made : Bool
  made = true_in (truth_of now) d.scope

  abbrev next : List Bool
  next = set now d.atom made

  kept : (a : ℕ) → a < visible → truth_of now a ≡ truth_of next a
  kept a low = let ne : a ≢ d.atom = omega (arith, low, far) in sym (get_or-set_other now d.atom a made false ne)

  here : AreFillable visible ds → visible ≤ d.atom → made ≡ true_in (truth_of next) d.scope
  here can far' = subst (ReadsVisible visible) (sym is) (can.decided i d l) far' (truth_of now) (truth_of next) kept

  before : AreFillable visible ds → All (IsFilled visible (truth_of next)) (take i ds)
  before can k e below far' =
      let k_low : k < i = omega (arith, below, length-take-le i ds (omega (arith, l))) in
      let k_there : k < length ds = omega (arith, k_low, l) in
      let x = get_or (take i ds) k e in
      let there : x ≡ get_or ds k e = get_or-take i ds k e k_low in
      let last : get_or ds i e ≡ d = get_or_default ds i e d l ∙ sym is in
      let lower : x.atom < d.atom = subst (λ (y : Definition). y.atom < d.atom) (sym there) (subst (λ (y : Definition). (get_or ds k e).atom < y.atom) last (rising 0 ds k i e can.rises k_low l)) in
      let ne : x.atom ≢ d.atom = omega (arith, lower) in
      let decided = subst (ReadsVisible visible) (sym there) (can.decided k e k_there) in
      get_or-set_other now d.atom x.atom made false ne ∙ (f.filled can k e below far' ∙ decided far' (truth_of now) (truth_of next) kept)

  pub filled_more : AreFilled visible ds old next (i + 1)
  filled_more = record {
    size = length-set now d.atom made ∙ f.size;
    same = λ a low. sym (kept a low) ∙ f.same a low;
    filled = λ can. All-more (IsFilled visible (truth_of next)) ds i d l (before can) (subst (IsFilled visible (truth_of next)) is (λ far'. get_or-set_same now d.atom made false within ∙ here can far'));
  }
