-- The test of each pair of a job and its frame is the test of each place.
use Rattle.std.proofs.Common.{◌≡◌, ℕ, ◌∙◌, ◌&&◌, refl, rules, tests, eqb}
use Rattle.std.specs.List.{list_any, zip}
use Rattle.std.proofs.lemmas.Iterator.{YieldsList-from_slice, YieldsList-from_zip}
use Rattle.std.proofs.lemmas.Iterator.Consumers.{YieldsList-at}
use Rattle.std.proofs.lemmas.Iterator.Search.{any_from_yields_List}
use Rattle.cycle.specs.Planned.{no_job}
use Rattle.cycle.specs.declared.Job.{Job}
use Rattle.model.specs.Named.{is_job}
use Rattle.checker.specs.Checked.{is_there}
use Rattle.checker.specs.LoopLaws.{both_is_some}
use Rattle.checker.proofs.walk.is_there.Goals as goal

pub returns : goal.returns
unfolding is_there
returns c =
    let a = c.args in
    let test = λ (p : Job × ℕ). is_job a.task a.number p.0 && eqb p.1 a.k in
    let road =
    YieldsList-from_zip (YieldsList-at c.zip.ensures.first (YieldsList-from_slice a.jobs.now c.iter.ensures.rest))
    (YieldsList-from_slice a.frames.now c.zip.ensures.second.0) in
    let e : c.any.result ≡ list_any test (zip a.jobs.now a.frames.now) =
    any_from_yields_List test c.any.new.self _ c.any.result c.any.ensures.ran road (λ x b q k. (search rules, search (rules, tests))) in
    e ∙ both_is_some no_job 0 a.jobs.now a.frames.now c.requires test (is_there a.jobs.now a.frames.now a.task a.number a.k) (λ y h. refl)
