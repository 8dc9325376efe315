-- The test of each pair of a job and its frame is the test of each place.
use Rattle.std.proofs.Common.{◌≡◌, ℕ, ◌∙◌, refl, rules}
use Rattle.std.proofs.lemmas.Iterator.{YieldsList-from_slice, YieldsList-from_zip}
use Rattle.std.proofs.lemmas.Iterator.Consumers.{YieldsList-at}
use Rattle.std.proofs.lemmas.Iterator.Search.{all_from_yields_List}
use Rattle.std.specs.List.{list_all, zip}
use Rattle.cycle.specs.Planned.{no_job}
use Rattle.cycle.specs.declared.Job.{Job}
use Rattle.plan_rules.specs.Rules.{in_window, window_kept}
use Rattle.plan_rules.specs.Slices.{both_is_every}
use Rattle.plan_rules.proofs.windows_kept.Goals as goal

pub returns : goal.returns
unfolding window_kept
returns c =
    let a = c.args in
    let test = λ (p : Job × ℕ). in_window a.f p.0 p.1 in
    let road =
    YieldsList-from_zip (YieldsList-at c.zip.ensures.first (YieldsList-from_slice a.jobs.now c.iter.ensures.rest))
    (YieldsList-from_slice a.frames.now c.zip.ensures.second.0) in
    let e : c.all.result ≡ list_all test (zip a.jobs.now a.frames.now) =
    all_from_yields_List test c.all.new.self _ c.all.result c.all.ensures.ran road (λ x b q k. search rules) in
    e ∙ both_is_every no_job 0 a.jobs.now a.frames.now c.requires test (window_kept a.jobs.now a.frames.now a.f) (λ y h. refl)
