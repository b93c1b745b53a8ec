-- The walk over the statements of a file, one by one.
use Rattle.std.proofs.Common.{◌≡◌, ℕ, ◌+◌, ◌<◌, true, false, List, [], ◌∷◌, ◌++◌, length, Result, Ok, Err, Option, Some, None, refl, sym, ap, ◌∙◌, arith, subst, append-nil, append_assoc}
use Rattle.ec_edge.specs.Pieces.{AllStay}
use Rattle.ec_syntax.specs.declared.book.Book as rust_book
use Rattle.ec_syntax.specs.View.{book_of}
use Rattle.ec_syntax.specs.Written.{Statement, Placed, Book}
use Rattle.ec_syntax.specs.declared.book.Refusal.{Refusal}
use Rattle.ec_load.specs.declared.fault.LoadFault.{LoadFault}
use Rattle.ec_load.specs.declared.fault.LoadFault.TheVariants as fault
use Rattle.ec_load.specs.Refusals.{Place, in_file}
use Rattle.ec_load.specs.Opening.{Opens}
use Rattle.ec_load.specs.Opening as opening
use Rattle.ec_load.specs.Book.{Found, load_of, is_passed, put, placed_at, IsBook, Loads, faulty, opened, ComeTo, none, own, passed, loaded}
use Rattle.ec_load.specs.Book as book
use Rattle.ec_load.specs.Sound.{counted, counted_placed}
use Rattle.ec_load.specs.Answers.{Answers, statements_of, Refuses, IsAdded, Walks, Steps, StepsTo}

-- ---- statements before what follows

put-nothing : (r : Found) → put [] r ≡ r
put-nothing (Ok b) = refl
put-nothing (Err e) = refl

put-put : (xs ys : List Placed) (r : Found) → put xs (put ys r) ≡ put (xs ++ ys) r
put-put xs ys (Ok b) = ap (λ (zs : List Placed). Ok (record { files = b.files; statements = zs })) (sym (append_assoc xs ys b.statements))
put-put xs ys (Err e) = refl

-- ---- one statement

pub own_is_last : (before after : List Placed) (at : ℕ) (same s : Statement) → same ≡ s → after ≡ before ++ placed_at at same ∷ [] → after ≡ before ++ placed_at at s ∷ []
own_is_last before after at same s is h = subst (λ (t : Statement). after ≡ before ++ placed_at at t ∷ []) is h

pub steps_own : (held : List ℕ → Option (List ℕ)) (at : ℕ) (file : List ℕ) (s : Statement) (old new : Book) → load_of s.content ≡ None → new.files ≡ old.files → new.statements ≡ old.statements ++ placed_at at s ∷ [] → Steps held at file s old new
steps_own held at file s old new n same is = record {
  added = placed_at at s ∷ [];
  is = is;
  goes_on = λ ss r d. own n (subst (λ (fs : List (List ℕ)). ComeTo held fs at file ss r) same d);
}

pub steps_passed : (held : List ℕ → Option (List ℕ)) (at : ℕ) (file other : List ℕ) (s : Statement) (now : Book) → load_of s.content ≡ Some other → is_passed now.files other ≡ true → Steps held at file s now now
steps_passed held at file other s now n p = record {
  added = [];
  is = sym (append-nil now.statements);
  goes_on = λ ss r d. subst (λ (q : Found). ComeTo held now.files at file (s ∷ ss) q) (sym (put-nothing r)) (passed other n p d);
}

pub steps_loaded : (held : List ℕ → Option (List ℕ)) (at : ℕ) (file other : List ℕ) (s : Statement) (old new : Book) → load_of s.content ≡ Some other → is_passed old.files other ≡ false
    → (result : Result (Unit {0}) LoadFault) → Walks (Loads held old.files (in_file file s.line) other) old new result → StepsTo held at file s old new result
steps_loaded held at file other s old new n p (Ok done) a = record {
  added = a.added;
  is = a.is;
  goes_on = λ ss r d. loaded other (record { files = new.files; statements = a.added }) n p a.comes d;
}
steps_loaded held at file other s old new n p (Err (fault.Refused r)) a = λ ss. book.fault other n p a
steps_loaded held at file other s old new n p (Err fault.Files) a = tt
steps_loaded held at file other s old new n p (Err fault.Memory) a = tt

-- ---- the statements of a file

-- Whatever the rest comes to, all come to, with what was added before it.
pub record SoFar (held : List ℕ → Option (List ℕ)) (at : ℕ) (file : List ℕ) (all rest : List Statement) (start now : Book) : Type 0 where
  pub added : List Placed
  pub is : now.statements ≡ start.statements ++ added
  pub goes_on : (r : Found) → ComeTo held now.files at file rest r → ComeTo held start.files at file all (put added r)

pub so_far_begins : (held : List ℕ → Option (List ℕ)) (at : ℕ) (file : List ℕ) (all : List Statement) (start : Book) → SoFar held at file all all start start
so_far_begins held at file all start = record {
  added = [];
  is = sym (append-nil start.statements);
  goes_on = λ r d. subst (λ (q : Found). ComeTo held start.files at file all q) (sym (put-nothing r)) d;
}

pub so_far_steps : (held : List ℕ → Option (List ℕ)) (at : ℕ) (file : List ℕ) (all : List Statement) (s : Statement) (rest : List Statement) (start now new : Book) → SoFar held at file all (s ∷ rest) start now → Steps held at file s now new
    → SoFar held at file all rest start new
so_far_steps held at file all s rest start now new f p = record {
  added = f.added ++ p.added;
  is = p.is ∙ ap (λ (xs : List Placed). xs ++ p.added) f.is ∙ append_assoc start.statements f.added p.added;
  goes_on = λ r d. subst (λ (q : Found). ComeTo held start.files at file all q) (put-put f.added p.added r) (f.goes_on (put p.added r) (p.goes_on rest r d));
}

pub so_far_ends : (held : List ℕ → Option (List ℕ)) (at : ℕ) (file : List ℕ) (all : List Statement) (start now : Book) → SoFar held at file all [] start now → IsAdded (ComeTo held start.files at file all) start now
so_far_ends held at file all start now f = record {
  added = f.added;
  is = f.is;
  comes = subst (λ (xs : List Placed). ComeTo held start.files at file all (Ok (record { files = now.files; statements = xs }))) (append-nil f.added) (f.goes_on _ none);
}

pub so_far_fails : (held : List ℕ → Option (List ℕ)) (at : ℕ) (file : List ℕ) (all : List Statement) (s : Statement) (rest : List Statement) (start now new last : Book) (e : LoadFault) → SoFar held at file all (s ∷ rest) start now
    → StepsTo held at file s now new (Err e) → Walks (ComeTo held start.files at file all) start last (Err e)
so_far_fails held at file all s rest start now new last (fault.Refused r) f p = f.goes_on (Err r) (p rest)
so_far_fails held at file all s rest start now new last fault.Files f p = tt
so_far_fails held at file all s rest start now new last fault.Memory f p = tt

-- ---- counts

counted-append : (xs ys : List Statement) → counted (xs ++ ys) ≡ counted xs + counted ys
counted-append [] ys = omega arith
counted-append (s ∷ xs) ys = omega (arith, counted-append xs ys)

counted_placed-append : (xs ys : List Placed) → counted_placed (xs ++ ys) ≡ counted_placed xs + counted_placed ys
counted_placed-append [] ys = omega arith
counted_placed-append (p ∷ xs) ys = omega (arith, counted_placed-append xs ys)

pub counted_own : (xs : List Placed) (at : ℕ) (s : Statement) → counted_placed (xs ++ placed_at at s ∷ []) ≡ counted_placed xs + counted (s ∷ [])
counted_own xs at s = counted_placed-append xs (placed_at at s ∷ [])

-- ---- one file

come_at : (held : List ℕ → Option (List ℕ)) (files before : List (List ℕ)) (number : ℕ) (file : List ℕ) (ss : List Statement) (r : Found) → files ≡ before ++ file ∷ [] → number ≡ length before → ComeTo held files number file ss r
    → ComeTo held (before ++ file ∷ []) (length before) file ss r
come_at held files before number file ss r e n d = subst (λ (fs : List (List ℕ)). ComeTo held fs (length before) file ss r) e (subst (λ (k : ℕ). ComeTo held files k file ss r) n d)

pub walks_refused : (rule : Found → Type 0) (old new : Book) (refusal : Refusal) (e : LoadFault) → Refuses refusal e → rule (Err refusal) → Walks rule old new (Err e)
walks_refused rule old new refusal (fault.Refused r) is due = subst (λ (r : Refusal). rule (Err r)) (sym is) due
walks_refused rule old new refusal fault.Files is due = tt
walks_refused rule old new refusal fault.Memory is due = tt

opens_now : (held now : List ℕ → Option (List ℕ)) (place : Place) (file : List ℕ) (r : opening.Found) → AllStay held now → Opens place file (now file) r → Opens place file (held file) r
opens_now held now place file r stays o = subst (λ (h : Option (List ℕ)). Opens place file h r) (stays file) o

pub opened_fails : (held now : List ℕ → Option (List ℕ)) (files : List (List ℕ)) (place : Place) (file : List ℕ) (old new : Book) (e : LoadFault) → AllStay held now → length files < 64 → Answers statements_of (Opens place file (now file)) (Err e)
    → Walks (Loads held files place file) old new (Err e)
opened_fails held now files place file old new (fault.Refused r) stays l o = faulty l (opens_now held now place file (Err r) stays o)
opened_fails held now files place file old new fault.Files stays l o = tt
opened_fails held now files place file old new fault.Memory stays l o = tt

pub opened_walks : (held now : List ℕ → Option (List ℕ)) (place : Place) (file : List ℕ) (ss : List Statement) (start mid last : Book) (number : ℕ) → AllStay held now → length start.files < 64 → number ≡ length start.files → mid.files ≡ start.files ++ file ∷ []
    → mid.statements ≡ start.statements → Opens place file (now file) (Ok ss) → (result : Result (Unit {0}) LoadFault) → Walks (ComeTo held mid.files number file ss) mid last result → Walks (Loads held start.files place file) start last result
opened_walks held now place file ss start mid last number stays l n files same o (Ok done) a = record {
  added = a.added;
  is = a.is ∙ ap (λ (xs : List Placed). xs ++ a.added) same;
  comes = opened ss l (opens_now held now place file (Ok ss) stays o) (come_at held mid.files start.files number file ss _ files n a.comes);
}
opened_walks held now place file ss start mid last number stays l n files same o (Err (fault.Refused r)) a = opened ss l (opens_now held now place file (Ok ss) stays o) (come_at held mid.files start.files number file ss _ files n a)
opened_walks held now place file ss start mid last number stays l n files same o (Err fault.Files) a = tt
opened_walks held now place file ss start mid last number stays l n files same o (Err fault.Memory) a = tt

pub nothing_left : {A : Type 0} (xs : List A) → length xs ≡ 0 → xs ≡ []
nothing_left [] e = refl
nothing_left (x ∷ xs) e = absurd (omega arith)

-- ---- the root

pub root_fails : (held : List ℕ → Option (List ℕ)) (root word : List ℕ) (start last : Book) (e : LoadFault) → start.files ≡ [] → word ≡ root → Walks (Loads held start.files (in_file word 0) word) start last (Err e) → Answers book_of (IsBook held root) (Err e)
root_fails held root word start last (fault.Refused r) empty is a = subst (λ (w : List ℕ). IsBook held w (Err r)) is (subst (λ (fs : List (List ℕ)). Loads held fs (in_file word 0) word (Err r)) empty a)
root_fails held root word start last fault.Files empty is a = tt
root_fails held root word start last fault.Memory empty is a = tt

pub root_loads : (held : List ℕ → Option (List ℕ)) (root word : List ℕ) (start last : Book) (found : rust_book.Book) → start.files ≡ [] → start.statements ≡ [] → word ≡ root → book_of found ≡ last → IsAdded (Loads held start.files (in_file word 0) word) start last
    → IsBook held root (Ok (book_of found))
root_loads held root word start last found empty nothing is same a =
    let all : last.statements ≡ a.added = a.is ∙ ap (λ (xs : List Placed). xs ++ a.added) nothing in
    let whole : record { files = last.files; statements = a.added } ≡ last = ap (λ (xs : List Placed). record { files = last.files; statements = xs }) (sym all) in
    let due : Loads held [] (in_file word 0) word (Ok (record { files = last.files; statements = a.added })) = subst (λ (fs : List (List ℕ)). Loads held fs (in_file word 0) word (Ok (record { files = last.files; statements = a.added }))) empty a.comes in
    subst (λ (b : Book). IsBook held root (Ok b)) (whole ∙ sym same) (subst (λ (w : List ℕ). IsBook held w (Ok (record { files = last.files; statements = a.added }))) is due)
