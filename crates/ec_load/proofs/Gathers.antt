-- A statement added to what was read of a book.
use Rattle.std.proofs.Common.{◌≡◌, ℕ, ◌<◌, ◌≤◌, List, [], ◌∷◌, ◌++◌, None, length, sym, subst}
use Rattle.std.specs.Prelude.{All}
use Rattle.std.proofs.lemmas.List.Elements.{All-push}
use Rattle.ec_syntax.specs.Written.{Statement, Placed, Book}
use Rattle.ec_load.specs.Book.{load_of, placed_at}
use Rattle.ec_load.specs.Sound.{AreNamed, IsPlaced, IsGathered}

pub added_is_gathered : (old new : Book) (at : ℕ) (s : Statement) → at < length old.files → load_of s.content ≡ None → AreNamed s → IsGathered old
    → new.files ≡ old.files → new.statements ≡ old.statements ++ placed_at at s ∷ [] → IsGathered new
added_is_gathered old new at s file own named sound same is = record {
  few_files = subst (λ (fs : List (List ℕ)). length fs ≤ 64) (sym same) sound.few_files;
  placed = subst (λ (ps : List Placed). All (IsPlaced (length new.files)) ps) (sym is)
      (subst (λ (fs : List (List ℕ)). All (IsPlaced (length fs)) (old.statements ++ placed_at at s ∷ [])) (sym same)
      (All-push (IsPlaced (length old.files)) old.statements (placed_at at s) sound.placed (record { file = file; own = own; named = named })));
}
