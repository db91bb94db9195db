-- What a part is, seen by contracts.
use Rattle.std.specs.Prelude.{ℕ, List}
use Rattle.sum_job.specs.declared.part.PartSum.{PartSum}
use Rattle.cross_job.specs.Cross.{sum_in}
use Rattle.cross_job.specs.declared.part.CrossPart.{CrossPart}

-- the parts for the problems, in order
abbrev pub parts_of : CrossPart → List PartSum
parts_of part = part.parts.items

-- the sum for a problem, an integral and a modulus
abbrev pub sum_at : ℕ → ℕ → CrossPart → ℕ
sum_at problem place part = sum_in problem place (parts_of part)
