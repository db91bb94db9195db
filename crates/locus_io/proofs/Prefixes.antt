-- Texts that are written piece by piece.
use Rattle.std.proofs.Common.{ℕ, List, [], ◌++◌, Option, Some, None, take, drop, refl, append_assoc, arith}
use Rattle.std.proofs.lemmas.List.{take-append-drop}
use Rattle.std.proofs.lemmas.Grind.{common_steps}
use Rattle.locus_io.specs.Content.{Appends, AppendsBefore}

-- nothing was written yet
pub appends_none : (old : Option (List ℕ)) (text : List ℕ) → AppendsBefore old old text text
appends_none None text = record { front = []; whole = refl; appends = refl }
appends_none (Some b) text = record { front = []; whole = refl; appends = grind (arith, common_steps) }

pub appends_more : (old : Option (List ℕ)) (now new : Option (List ℕ)) (x y : List ℕ) → Appends old now x
    → Appends now new y → Appends old new (x ++ y)
appends_more None now new x y a b = grind arith
appends_more (Some o) now new x y a b = rw (b, a, append_assoc)

-- a prefix of the rest was written too
pub appends_next : (old now new : Option (List ℕ)) (text rest : List ℕ) (n : ℕ) → AppendsBefore old now text rest
    → Appends now new (take n rest) → AppendsBefore old new text (drop n rest)
appends_next old now new text rest n before piece = record {
  front = before.front ++ take n rest;
  whole = rw (append_assoc, take-append-drop) before.whole;
  appends = appends_more old now new before.front (take n rest) before.appends piece;
}
