-- The definitions, computed on a worked text: 227 bytes and a last line of 72.
use Rattle.std.proofs.Common.{◌≡◌, [], ◌∷◌, ◌++◌, length, refl}
use Rattle.std.specs.Prelude.{codes}
use Rattle.std.specs.Fmt.{digits}
use Rattle.checkpoint.specs.Texts.{Contents, body_of}

-- the square of the first direct image of O(-1), on maps of degree 2 to the line, of which three trees are summed
abbrev worked : Contents
worked = record {
  version = 2;
  source = codes "version = 1\nrank = 1\ndegree = 2\nweights = [1, 3]\nmoduli = [101, 1001]\nnumerator_bound = 100\ndenominator_bound = 100\n\n[[term]]\nclasses = [{ kind = \"r1\", k = 1, power = 2 }]\n";
  next = 3;
  rows = (90 ∷ 646 ∷ []) ∷ [];
}

pub worked_length : length worked.source ≡ 172
worked_length = refl

pub worked_body : body_of worked ≡ codes "locus-checkpoint 2\nproblem 172\n" ++ worked.source ++ codes "\nnext 3\nresidues 90 646\n"
unfolding digits
worked_body = refl

pub worked_body_length : length (body_of worked) ≡ 227
unfolding digits
worked_body_length = refl
