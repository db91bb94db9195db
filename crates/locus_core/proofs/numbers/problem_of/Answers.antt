use Rattle.std.proofs.Common.{inl, ap, sym, ◌∙◌, Err}
use Rattle.problem_toml.specs.Reading.{reading}
use Rattle.locus_core.specs.Steps.{read_fault, no_memory}
use Rattle.locus_core.proofs.Inversions.{file_of_problem}
use Rattle.locus_core.proofs.Ranking.{problem_is_held, problem_is_refused}
use Rattle.locus_core.proofs.numbers.problem_of.Goals as goal

pub returns-in-Err-Failed : goal.returns-in-Err-Failed
returns-in-Err-Failed g c request stopper named still =
    read_fault c.args.name.now (file_of_problem request c.args.name.now named) (c.load.ensures.failed (c.in-Err-Failed.is ∙ ap Err c.in-Err-Failed.field-0-is)) still

pub returns-in-Err-NoMemory : goal.returns-in-Err-NoMemory
returns-in-Err-NoMemory g c request stopper named still =
    no_memory (c.load.ensures.unchanged (λ e. let bad = sym (c.in-Err-NoMemory.is ∙ ap Err c.in-Err-NoMemory.field-0-is) ∙ e in cc)) (inl still)

pub returns-in-Ok-read : goal.returns-in-Ok-read
returns-in-Ok-read g c =
    problem_is_held _ _ c.in-Ok.bytes.items c.in-Ok-read.problem c.in-Ok.ensures.found (ap reading (sym c.as_slice.ensures.value) ∙ c.in-Ok-read.ensures)
    c.in-Ok-read.problem.rules (c.load.ensures.unchanged (λ e. let bad = sym c.in-Ok.is ∙ e in cc))

pub returns-in-NoMemory : goal.returns-in-NoMemory
returns-in-NoMemory g c request stopper named still =
    no_memory (c.load.ensures.unchanged (λ e. let bad = sym c.in-Ok.is ∙ e in cc)) (inl still)

pub returns : goal.returns
returns g c =
    problem_is_refused _ _ c.in-Ok.bytes.items c.in-Err.error c.in-Ok.ensures.found (ap reading (sym c.as_slice.ensures.value) ∙ c.in-Err.ensures c.in_default.not-NoMemory)
    (c.load.ensures.unchanged (λ e. let bad = sym c.in-Ok.is ∙ e in cc))
