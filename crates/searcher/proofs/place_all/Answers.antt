-- No job is placed and no row is loaded at first. What the search comes to is then the answer.
use Rattle.searcher.proofs.AllLaws.{begins, done_answered, failed_answered, stopped_answered}
use Rattle.searcher.proofs.place_all.Goals as goal

pub place_job-requires : goal.place_job-requires
place_job-requires c = begins c.requires c.pack-problem.result c.pack-problem.ensures

pub returns-in-Done : goal.returns-in-Done
returns-in-Done c = done_answered c.requires c.pack-problem.result c.pack-problem.ensures c.place_job.ensures c.in-Done.is

pub returns-in-Failed : goal.returns-in-Failed
returns-in-Failed c = failed_answered c.requires c.pack-problem.result c.pack-problem.ensures c.place_job.ensures c.in-Failed.is

pub returns-in-Stopped : goal.returns-in-Stopped
returns-in-Stopped c = stopped_answered c.requires c.pack-problem.result c.pack-problem.ensures c.place_job.ensures c.in-Stopped.is
