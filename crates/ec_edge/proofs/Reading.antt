-- The pieces of a file, one after another, are its front.
use Rattle.std.proofs.Common.{◌≡◌, ℕ, ◌+◌, ◌<◌, ◌≤◌, Bool, true, false, List, [], ◌∷◌, ◌++◌, length, take, drop, Option, Some, None, IsTrue, refl, sym, ap, ◌∙◌, arith, length-append}
use Rattle.std.specs.Prelude.{IsSomeAnd}
use Rattle.std.proofs.lemmas.Bool.{le-ltb, lt-ltb}
use Rattle.std.proofs.lemmas.List.{take-append-le, take_all, length-take, length-drop}
use Rattle.std.proofs.Math.Seq.{take-add}
use Rattle.ec_edge.specs.Pieces.{IsPiece, IsRead}

-- what has been read is the front of the file
pub record IsFront (read bytes : List ℕ) : Type 0 where
  pub front : read ≡ take (length read) bytes
  pub within : length read ≤ length bytes

-- once some of a told file has been read, the file is held, and this is its front
pub record SoFar (tells : Bool) (held : Option (List ℕ)) (read : List ℕ) : Type 0 where
  pub begun : IsTrue tells → 0 < length read → IsSomeAnd held (IsFront read)

-- nothing is the front of each file
started : (read bytes : List ℕ) → (0 < length read → IsFront read bytes) → IsFront read bytes
started [] bytes front = record { front = refl; within = omega arith }
started (x ∷ read) bytes front = front (omega arith)

IsFront-more : (read bytes buffer others new : List ℕ) (n : ℕ) → IsFront read bytes → IsPiece bytes (length read) buffer n → n ≤ length buffer → new ≡ read ++ take n (buffer ++ others) → IsFront new bytes
IsFront-more read bytes buffer others new n front piece fits is =
    let shorter : take n (buffer ++ others) ≡ take n buffer = take-append-le n buffer others fits in
    let added : new ≡ read ++ take n buffer = is ∙ ap (λ (x : List ℕ). read ++ x) shorter in
    let len : length new ≡ length read + n = omega (arith, ap length added, length-append read (take n buffer), length-take n buffer) in
    let grown : new ≡ take (length read) bytes ++ take n (drop (length read) bytes) = added ∙ ap (λ (x : List ℕ). x ++ take n buffer) front.front ∙ ap (λ (x : List ℕ). take (length read) bytes ++ x) piece.same in
    record { front = grown ∙ sym (take-add (length read) n bytes) ∙ ap (λ (k : ℕ). take k bytes) (sym len); within = omega (arith, front.within, piece.within, length-drop (length read) bytes) }

front_grows : (held : Option (List ℕ)) (read buffer others new : List ℕ) (n : ℕ) → (0 < length read → IsSomeAnd held (IsFront read)) → IsSomeAnd held (λ bytes. IsPiece bytes (length read) buffer n) → n ≤ length buffer → new ≡ read ++ take n (buffer ++ others) → IsSomeAnd held (IsFront new)
front_grows None read buffer others new n front piece fits is = piece
front_grows (Some bytes) read buffer others new n front piece fits is = IsFront-more read bytes buffer others new n (started read bytes front) piece fits is

-- a piece more
pub SoFar-more : (tells : Bool) (held : Option (List ℕ)) (read buffer others new : List ℕ) (n : ℕ) → SoFar tells held read → (IsTrue tells → IsSomeAnd held (λ bytes. IsPiece bytes (length read) buffer n)) → n ≤ length buffer → new ≡ read ++ take n (buffer ++ others) → SoFar tells held new
SoFar-more tells held read buffer others new n so_far piece fits is = record {
  begun = λ told _. front_grows held read buffer others new n (so_far.begun told) (piece told) fits is;
}

-- a front that no piece follows is the whole file
IsFront-whole : (read bytes buffer : List ℕ) (n limit : ℕ) → IsFront read bytes → IsPiece bytes (length read) buffer n → n ≡ 0 → 0 < length buffer → length read ≤ limit → IsRead bytes limit read false
IsFront-whole read bytes buffer n limit front piece none room below =
    let short : length bytes ≤ length read = grind (arith, piece.some) in
    record {
      front = front.front ∙ take_all (length read) bytes short ∙ sym (take_all (limit + 1) bytes (omega arith));
      is_past = sym (le-ltb limit (length bytes) (omega arith));
    }

-- once no piece follows, all that the name holds has been read
pub SoFar-whole : (tells : Bool) (held : Option (List ℕ)) (read buffer : List ℕ) (n limit : ℕ) → SoFar tells held read → IsTrue tells → IsSomeAnd held (λ bytes. IsPiece bytes (length read) buffer n) → n ≡ 0 → 0 < length buffer → length read ≤ limit → IsSomeAnd held (λ bytes. IsRead bytes limit read false)
SoFar-whole tells None read buffer n limit so_far told piece none room below = piece
SoFar-whole tells (Some bytes) read buffer n limit so_far told piece none room below = IsFront-whole read bytes buffer n limit (started read bytes (so_far.begun told)) piece none room below

-- one byte past the limit has been read
pub IsFront-past : (held : Option (List ℕ)) (read : List ℕ) (limit : ℕ) → IsSomeAnd held (IsFront read) → length read ≡ limit + 1 → IsSomeAnd held (λ bytes. IsRead bytes limit read true)
IsFront-past None read limit front len = front
IsFront-past (Some bytes) read limit front len = record {
  front = front.front ∙ ap (λ (k : ℕ). take k bytes) len;
  is_past = sym (lt-ltb limit (length bytes) (omega (arith, front.within)));
}
