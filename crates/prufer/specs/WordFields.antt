-- The fields of a `Word`, given back by its letters.
use Rattle.std.specs.Prelude.{◌≡◌, ℕ, List, length, take}
use Rattle.lists.specs.Padding.{padded, IsPadded}
use Rattle.lists.proofs.Padding.{length-front, padded-take}
use Rattle.prufer.specs.declared.word.Word.TheInside.{Inside}

abbrev pub fields_of : List ℕ → Inside
fields_of letters = record { letters = padded 0 9 letters; count = length letters }

pub fields_of-take : (w : Inside) → IsPadded 0 9 w.count w.letters → fields_of (take w.count w.letters) ≡ w
fields_of-take w h = same _ _ (padded-take 0 9 w.count w.letters h) (length-front 0 9 w.count w.letters h)
  where
    make : List ℕ → ℕ → Inside
    make letters count = record { letters = letters; count = count }

    same : (letters : List ℕ) (count : ℕ) → letters ≡ w.letters → count ≡ w.count → make letters count ≡ w
    same letters count p q = rw (p, q)
