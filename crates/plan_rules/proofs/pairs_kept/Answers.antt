-- The test of each pair is the test of each place.
use Rattle.std.proofs.Common.{◌≡◌, ◌∙◌, refl, rules, length}
use Rattle.std.proofs.lemmas.Iterator.{YieldsList-from_slice}
use Rattle.std.proofs.lemmas.Iterator.Search.{all_from_yields_List}
use Rattle.std.specs.List.{list_all}
use Rattle.request.specs.Request.{no_pair}
use Rattle.request.specs.declared.Pair.{Pair}
use Rattle.plan_rules.specs.Every.{every}
use Rattle.plan_rules.specs.Rules.{one_kept, pair_kept}
use Rattle.plan_rules.specs.Slices.{all_is_every}
use Rattle.plan_rules.proofs.pairs_kept.Goals as goal

pub returns : goal.returns
unfolding pair_kept
returns c =
    let a = c.args in
    let n = length a.jobs.now in
    let test = λ (p : Pair). every n (one_kept a.jobs.now a.frames.now n p.a p.b) in
    let e : c.all.result ≡ list_all test a.pairs.now =
    all_from_yields_List test _ _ c.all.result c.all.ensures.ran (YieldsList-from_slice a.pairs.now cc) (λ x b q k. search rules) in
    e ∙ all_is_every no_pair a.pairs.now test (pair_kept a.jobs.now a.frames.now n a.pairs.now) (λ y h. refl)
