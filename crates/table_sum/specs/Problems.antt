-- The table of a problem.
use Rattle.std.specs.Prelude.{◌≡◌}
use Rattle.problem.specs.Rules.{ProblemView}
use Rattle.factor_table.specs.declared.table.FactorTable.{FactorTable}
use Rattle.factor_table.specs.Factors.{parameters}
use Rattle.factor_table.specs.Seats.{parameters_of}
use Rattle.table_sum.specs.Classes.{classes_of}

-- the table is of the weights, the degree, the moduli and the classes of the problem
abbrev pub IsTableOf : ProblemView → FactorTable → Type 0
IsTableOf p t = parameters_of t ≡ parameters p.weights p.shape.degree p.moduli (classes_of p.integrals)
