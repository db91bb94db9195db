-- What a job of several problems and its parts are, seen by contracts.
use Rattle.cross_job.specs.Cross.{CrossView}
use Rattle.cross_job.specs.declared.job.CrossJob.{CrossJob}

abbrev pub view : CrossJob → CrossView
view job = record { sums = job.sums.now; first = job.first; end = job.end }
