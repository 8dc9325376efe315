-- Each task's rule is tested, as the definition does.
use Rattle.std.proofs.Common.{◌∙◌, rules}
use Rattle.std.proofs.lemmas.Iterator.{YieldsList-from_slice}
use Rattle.std.proofs.lemmas.Iterator.Search.{all_from_yields_List}
use Rattle.model.specs.Plausible.{phase_rule, frame_rule}
use Rattle.model.specs.RuleLaws.{rules_each}
use Rattle.model.proofs.frame_rules.Goals as goal

pub returns : goal.returns
returns c =
    all_from_yields_List (frame_rule phase_rule c.args.g c.args.f) _ _ _ c.all.ensures.ran (YieldsList-from_slice c.args.tasks.now cc) (λ x b q k. search rules)
    ∙ rules_each phase_rule c.args.g c.args.f c.args.tasks.now
