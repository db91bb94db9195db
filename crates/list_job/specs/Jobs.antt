-- What a job that lists contributions is, seen by contracts.
use Rattle.problem.specs.Problems.{view as problem_view}
use Rattle.table_sum.specs.Sums.{problem_of, table_of}
use Rattle.sum_job.specs.Parts.{JobView}
use Rattle.list_job.specs.declared.job.ListJob.{ListJob}

abbrev pub view : ListJob → JobView
view job = record {
  problem = problem_view (problem_of job.sum.now);
  table = table_of job.sum.now;
  first = job.first;
  end = job.end;
}
